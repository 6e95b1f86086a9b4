-- `accepts` meets its contract.
use mathlib.Core.Path.{◌≡◌, ◌∙◌, sym}
use mathlib.Core.Bool.{Bool, false, ◌&&◌, false≢true}
use mathlib.Core.Logic.{⊎_elim}
use lib.Dec.{leb}
use lib.ListN.{length}
use borrow.Author.Tests.{le-leb, lt-leb}
use Rattle.station_entry.specs.code.Asking.{all_in}
use Rattle.station_entry.proofs.accepts.Goals as goal
use Rattle.station_entry.proofs.accepts.Goals.{then-all_in_range, else-all_in_range}

pub returns-then-heard-sent : goal.returns-then-heard-sent
returns-then-heard-sent c =
    let y = c.if-heard-sent.true in simp (sym c.all_in_range.ensures ∙ y.0, le-leb _ _ y.1)

pub returns-else-heard-sent : goal.returns-else-heard-sent
returns-else-heard-sent c =
    let a : Bool = all_in c.args.station.now c.args.heard.now in
    let s : Bool = leb (length c.args.heard.now) c.args.sent in
    let w : Bool = leb (length c.args.heard.now) c.args.words in
    elim c.if-all_in_range.branch [
      | then-all_in_range k ↦
          (let f : s ≡ false = ⊎_elim (λ p. lt-leb _ _ p.1) (λ q. absurd (false≢true (sym q ∙ k.if-all_in_range.true)))
          c.if-heard-sent.either in
          let r : (a && (s && w)) ≡ false = simp (sym c.all_in_range.ensures ∙ k.if-all_in_range.true, f) in cc)
      | else-all_in_range k ↦
          (let r : (a && (s && w)) ≡ false = simp (sym c.all_in_range.ensures ∙ k.if-all_in_range.false) in cc)
    ]
