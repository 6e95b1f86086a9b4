-- `stored::entries` meets its contract: each of the 358 entries is what the definition gives.
use mathlib.Core.Path.{refl}
use Rattle.alphabet.specs.Print.{left_rows, right_rows, rows, bits_from, bits, keys}
use Rattle.alphabet.specs.TableA2.{a2}
use Rattle.alphabet.specs.TableB1.{b1}
use Rattle.alphabet.specs.TableB2.{b2}
use Rattle.alphabet.specs.Baudot.{printed_at, send_baudot}
use Rattle.alphabet.specs.Dtmf.{with_mark, code_from, marks_then_digit, among, not_struck, remaining, names, first_sign, named, send_in, has_row, send_from, send_dtmf}
use Rattle.alphabet.specs.Normal.{sends}
use Rattle.lists.specs.Tables.{tabulate}
use Rattle.alphabet.specs.code.Packing.{entry_at, stored_table}
use Rattle.alphabet.proofs.stored.entries.Goals as goal

pub returns : goal.returns
unfolding tabulate stored_table entry_at sends bits bits_from left_rows right_rows rows a2 b1 b2 printed_at send_baudot
    keys
    with_mark code_from marks_then_digit among not_struck remaining names first_sign named send_in has_row send_from
    send_dtmf
returns c = refl
