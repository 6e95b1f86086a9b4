-- `table::normal` meets its contract: a code of Baudot is below 32.
use borrow.Author.Rules.{rules}
use Rattle.alphabet.proofs.ReadingBack.{baudot-code-in}
use Rattle.alphabet.proofs.table.normal.Goals as goal

pub reads-requires : goal.reads-requires
reads-requires c = baudot-code-in _ _ _ _ _ (search rules) c.lookup.ensures c.in-Some.is
