-- `report_heard` meets its contract.
use mathlib.Core.Path.{◌∙◌, sym, ap}
use mathlib.Core.Bool.{false≢true}
use Rattle.alphabet.specs.declared.Mode.{Mode}
use Rattle.frames.specs.Range.{frame_in}
use Rattle.edges.specs.Range.{edges_in}
use Rattle.edges.specs.code.Measuring.{report_over}
use Rattle.edges.proofs.Range.{edges-in}
use Rattle.station_entry.proofs.Listening.{frame-asked, edges-asked, hears-over}
use Rattle.station_entry.proofs.report_heard.Goals as goal
use Rattle.station_entry.proofs.report_heard.Goals.{else-in_range-via-then-in_range+else-in_range-2, else-in_range-via-else-in_range}

pub measure-requires-clause-edges_of : goal.measure-requires-clause-edges_of
measure-requires-clause-edges_of c = edges-in _ _ _ (sym c.in_range-then-in_range.ensures ∙ c.if-in_range-2.true)

pub returns-then-in_range-2 : goal.returns-then-in_range-2
returns-then-in_range-2 c =
    let x = c.args.station.now in
    λ i.
    c.measure.ensures
    ∙ ap (λ (d : Mode). report_over d x.core.reader.frame x.edges c.args.r c.args.heard.now) c.of-mode.ensures
    ∙ sym (hears-over x _ _ c.requires.by_index c.requires.report_of.none)

pub returns-else-in_range : goal.returns-else-in_range
returns-else-in_range c =
    let x = c.args.station.now in
    λ i.
    elim c.else-in_range.branch [
      | else-in_range-via-then-in_range+else-in_range-2 w ↦
          absurd (false≢true (sym w.if-in_range-2.false ∙ w.in_range-then-in_range.ensures
          ∙ ap (λ (d : Mode). edges_in d x.core.reader.frame x.edges) c.of-mode.ensures ∙ edges-asked _ i))
      | else-in_range-via-else-in_range w ↦
          absurd (false≢true (sym w.if-in_range.false ∙ c.in_range.ensures
          ∙ ap (λ (d : Mode). frame_in d x.core.reader.frame) c.of-mode.ensures ∙ frame-asked _ i))
    ]
