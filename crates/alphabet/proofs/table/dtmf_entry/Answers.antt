-- `table::dtmf_entry` meets its contract: the table is what the definition gives at each place.
use Rattle.alphabet.specs.Print.{left_rows, right_rows, rows, keys}
use Rattle.alphabet.specs.TableB1.{b1}
use Rattle.alphabet.specs.Dtmf.{with_mark, code_from, marks_then_digit, among, not_struck, remaining}
use Rattle.alphabet.specs.Dtmf.{names, first_sign, named, read_in, read_dtmf}
use Rattle.lists.specs.Tables.{tabulate}
use Rattle.lists.proofs.Tables.{tabulate-at}
use Rattle.alphabet.specs.code.Packing.{dtmf_at}
use Rattle.alphabet.proofs.table.dtmf_entry.Goals as goal

pub returns : goal.returns
unfolding tabulate dtmf_at left_rows right_rows rows b1 keys with_mark code_from marks_then_digit among not_struck
    remaining
    names first_sign named read_in read_dtmf
returns c = tabulate-at dtmf_at 0 256 c.args.at c.requires
