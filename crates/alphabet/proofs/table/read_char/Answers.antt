-- `table::read_char` meets its contract: the table has the characters of both shifts.
use Rattle.alphabet.proofs.Packing.{table-char}
use Rattle.alphabet.proofs.table.read_char.Goals as goal

pub returns : goal.returns
returns c =
    let n = c.requires.fact in
    table-char c.args.shift c.args.code.0 n.0 n.1 c.args.entries.now
    c.requires.table_value c.requires.le_shift.0 c.requires.le_shift.1 c.requires.code_bound
