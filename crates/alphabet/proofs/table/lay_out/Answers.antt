-- `table::lay_out` meets its contract: three runs, one behind the other.
use mathlib.Core.Path.{◌∙◌, ap}
use mathlib.Core.List.{List}
use Prim.Native.Nat.{ℕ, ◌-◌}
use Rattle.std.proofs.lemmas.List.Edits.{sets}
use Rattle.lists.specs.Tables.{tabulate}
use Rattle.alphabet.specs.code.Packing.{entry_at}
use Rattle.alphabet.proofs.Storage.{two-runs}
use Rattle.alphabet.proofs.table.lay_out.Goals as goal

pub returns : goal.returns
returns c =
    let n = c.args.to in
    let a = c.run_end-first.result in
    let b = c.run_end-second.result in
    let e = c.run_end-first.ensures in
    let g = c.run_end-second.ensures in
    c.lay_run-3.ensures ∙ ap (λ (t : List ℕ). sets t b (tabulate entry_at (n - b) b)) c.lay_run-2.ensures
    ∙ two-runs entry_at _ a b n g.within g.some g.none
    ∙ ap (λ (t : List ℕ). sets t a (tabulate entry_at (n - a) a)) c.lay_run.ensures
    ∙ two-runs entry_at c.args.table.now c.args.from a n e.within e.some e.none
