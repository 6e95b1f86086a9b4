-- `dtmf::key` meets its contract: the digit, or the entry.
use Rattle.alphabet.proofs.Packing.{key-digit, key-mark}
use borrow.Author.Rules.{rules}
use Rattle.alphabet.proofs.dtmf.key.Goals as goal

pub returns-then-k : goal.returns-then-k
returns-then-k c =
    key-digit c.args.code.0 c.args.at _ (search rules) (search rules) c.entry-k.ensures c.if-k.true

pub returns-else-k : goal.returns-else-k
returns-else-k c =
    key-mark c.args.code.0 c.args.at _ (search rules) (search rules) c.entry-k.ensures c.if-k.false
