-- `Text::left_from` meets its contract: what is left of characters is characters.
use mathlib.Core.Path.{sym}
use lib.ListN.{drop, length-drop}
use lib.Seq.{take-length}
use Rattle.lists.proofs.Lists.{at-most-drop}
use Rattle.alphabet.proofs.text.Text.left_from.Goals as goal

pub invariant_of-result : goal.invariant_of-result
invariant_of-result c =
    let xs = c.args.self.bytes.now in
    record {
      chars = rw (sym (length-drop c.args.place xs), take-length (drop c.args.place xs))
          (at-most-drop 0x7f xs c.args.place c.args.self.chars);
    }
