-- `key_outcome` meets its contract: no key, a digit, a mark, a key from A to D.
use native.Mathlib.Omega.{arith}
use Rattle.reader.specs.Reader.{key_event, prefix_after}
use Rattle.reader.proofs.Outcomes.{digit-outcome, mark-outcome, other-outcome}
use Rattle.reader.proofs.key_outcome.Goals as goal

pub returns-in-0 : goal.returns-in-0
unfolding key_event prefix_after
returns-in-0 c = simp c.in-0.is

pub returns-in-1-to-10 : goal.returns-in-1-to-10
returns-in-1-to-10 c =
    digit-outcome _ _ _ _ _ (λ e. omega arith) (omega arith) c.code.ensures c.reads.ensures c.from-event.ensures

pub returns-in-11-to-12 : goal.returns-in-11-to-12
returns-in-11-to-12 c = mark-outcome _ _ _ (omega arith) (omega arith) c.with_mark.ensures

pub returns-in_default : goal.returns-in_default
returns-in_default c = other-outcome _ _ (omega arith) (omega arith)
