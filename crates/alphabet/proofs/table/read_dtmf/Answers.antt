-- `table::read_dtmf` meets its contract: the entry of the code.
use Rattle.alphabet.proofs.Packing.{dtmf-char, dtmf-none}
use Rattle.alphabet.proofs.table.read_dtmf.Goals as goal

pub returns-then-e-lt128 : goal.returns-then-e-lt128
returns-then-e-lt128 c =
    dtmf-char c.args.code.0 _ c.dtmf_entry-e.ensures c.if-e-lt128.true

pub returns-else-e-lt128 : goal.returns-else-e-lt128
returns-else-e-lt128 c =
    dtmf-none c.args.code.0 _ c.dtmf_entry-e.ensures c.if-e-lt128.false
