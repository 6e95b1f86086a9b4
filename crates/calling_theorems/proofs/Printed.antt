-- One period of the timetable is the printed values, each for its ms.
use mathlib.Core.Path.{◌≡◌, ◌∙◌, refl, sym, ap}
use mathlib.Core.List.{List, [], ◌∷◌, ◌++◌}
use Prim.Native.Nat.{ℕ, zero, suc, ◌+◌, ◌-◌, ◌≤◌}
use native.Mathlib.Nat.{add-suc}
use native.Mathlib.Omega.{arith}
use lib.ListN.{replicate}
use Rattle.lists.specs.Tables.{tabulate}
use Rattle.lists.proofs.Tables.{tabulate-append}
use Rattle.calling.specs.Timetable.{Part, timetable, total, period, value_in, value_at}
use Rattle.calling.proofs.Places.{in-first, behind}
use Rattle.calling_theorems.specs.Periods.{spread}

-- A part's own places give its value, and those behind it go on by the others.
tabulate-part : (p : Part) (ps : List Part) (n i : ℕ) → i + n ≤ p.ms
    → tabulate (value_in (p ∷ ps)) n i ≡ replicate n p.value
unfolding tabulate
tabulate-part p ps zero i h = refl
tabulate-part p ps (suc n) i h =
    let now = in-first p ps i (omega arith) in
    let later = tabulate-part p ps n (suc i) (omega arith) in
    λ j. now j ∷ later j

tabulate-behind : (p : Part) (ps : List Part) (n i : ℕ)
    → tabulate (value_in (p ∷ ps)) n (p.ms + i) ≡ tabulate (value_in ps) n i
unfolding tabulate
tabulate-behind p ps zero i = refl
tabulate-behind p ps (suc n) i =
    let e : p.ms + i - p.ms ≡ i = omega arith in
    let now = behind p ps (p.ms + i) (omega arith) ∙ ap (value_in ps) e in
    let later = ap (tabulate (value_in (p ∷ ps)) n) (sym (add-suc p.ms i)) ∙ tabulate-behind p ps n (suc i) in
    λ j. now j ∷ later j

pub spread-is : (ps : List Part) → tabulate (value_in ps) (total ps) 0 ≡ spread ps
unfolding tabulate total spread
spread-is [] = refl
spread-is (p ∷ ps) =
    let f = value_in (p ∷ ps) in
    tabulate-append f p.ms (total ps) 0
    ∙ ap (λ (l : List ℕ). l ++ tabulate f (total ps) (p.ms + 0)) (tabulate-part p ps p.ms 0 (omega arith))
    ∙ ap (λ (l : List ℕ). replicate p.ms p.value ++ l) (tabulate-behind p ps (total ps) 0 ∙ spread-is ps)

-- one period is the printed values, each for its ms, in order
pub period-printed : tabulate value_at period 0 ≡ spread timetable
unfolding period
period-printed = spread-is timetable
