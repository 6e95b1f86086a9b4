-- `front_after` meets its contract.
use mathlib.Core.Path.{sym}
use native.Mathlib.Omega.{arith}
use Rattle.queue.proofs.Moves.{front-none, moved-from}
use Rattle.queue.proofs.front_after.Goals as goal

pub returns-then-n-len : goal.returns-then-n-len
returns-then-n-len c = sym (moved-from c.args.n c.args.chars.now 0 c.args.n (omega arith) (omega arith))

pub returns-then-len-gt0 : goal.returns-then-len-gt0
returns-then-len-gt0 c = sym (moved-from _ _ 0 _ (omega arith) (omega arith))

pub returns-else-len-gt0 : goal.returns-else-len-gt0
returns-else-len-gt0 c = sym (front-none _ _ (omega arith))
