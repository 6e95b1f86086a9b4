-- `ReadTable::new` meets its contract: each of the 64 entries is what the definition gives.
use mathlib.Core.Path.{refl}
use Rattle.alphabet.specs.Print.{left_rows, right_rows, bits_from, bits}
use Rattle.alphabet.specs.TableA1.{a1}
use Rattle.alphabet.specs.Baudot.{printed_at, read_baudot}
use Rattle.lists.specs.Tables.{tabulate}
use Rattle.alphabet.specs.code.Packing.{baudot_at, read_table}
use Rattle.alphabet.proofs.table.ReadTable.new.Goals as goal

pub invariant_of-result : goal.invariant_of-result
unfolding tabulate read_table baudot_at bits bits_from left_rows right_rows a1 printed_at read_baudot
invariant_of-result c = record { read = refl }
