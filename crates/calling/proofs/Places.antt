-- What the timetable sends at a place, by the part that the place falls into.
use mathlib.Core.Path.{◌≡◌, ◌∙◌, refl, ap}
use mathlib.Core.List.{List, [], ◌∷◌}
use Prim.Native.Nat.{ℕ, zero, suc, ◌+◌, ◌-◌, ◌≤◌, ◌<◌}
use native.Mathlib.Nat.{sub-zero}
use native.Mathlib.Omega.{arith}
use borrow.Author.Tests.{lt-ltb, le-ltb}
use lib.ListN.{take, drop}
use Rattle.calling.specs.Timetable.{Part, total, value_in}

pub in-first : (p : Part) (ps : List Part) (k : ℕ) → k < p.ms → value_in (p ∷ ps) k ≡ p.value
unfolding value_in
in-first p ps k h = simp (lt-ltb _ _ h)

pub behind : (p : Part) (ps : List Part) (k : ℕ) → p.ms ≤ k → value_in (p ∷ ps) k ≡ value_in ps (k - p.ms)
unfolding value_in
behind p ps k h = simp (le-ltb _ _ h)

-- behind the first n parts it goes on by the others
pub behind-parts : (n : ℕ) (ps : List Part) (k : ℕ) → total (take n ps) ≤ k
    → value_in ps k ≡ value_in (drop n ps) (k - total (take n ps))
unfolding total value_in
behind-parts zero ps k h = rw sub-zero
behind-parts (suc n) [] k h = refl
behind-parts (suc n) (p ∷ ps) k h =
    let later = total (take n ps) in
    let e : k - p.ms - later ≡ k - (p.ms + later) = omega arith in
    behind p ps k (omega arith) ∙ behind-parts n ps (k - p.ms) (omega arith) ∙ ap (value_in (drop n ps)) e

-- in the part behind the first n it is that part's value
pub in-part : (n : ℕ) (ps : List Part) (p : Part) (qs : List Part) (k : ℕ) → drop n ps ≡ p ∷ qs
    → total (take n ps) ≤ k → k < total (take n ps) + p.ms → value_in ps k ≡ p.value
in-part n ps p qs k e h g =
    let before = total (take n ps) in
    behind-parts n ps k h ∙ ap (λ (rs : List Part). value_in rs (k - before)) e
    ∙ in-first p qs (k - before) (omega arith)
