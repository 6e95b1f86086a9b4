-- `SendTable::lookup` meets its contract: the entry of the character, unpacked.
use mathlib.Core.Path.{◌∙◌}
use Rattle.alphabet.proofs.Packing.{lookup_entry}
use Rattle.alphabet.proofs.table.SendTable.lookup.Goals as goal

pub returns : goal.returns
returns c =
    c.unpacked.ensures ∙ lookup_entry _ c.args.self.laid_out c.args.a c.args.c.0 _ c.requires c.base.ensures
