-- A table's value at a place, and a rule that is computed once over all places and carried to each.
use mathlib.Core.Path.{◌≡◌, ◌∙◌, refl, sym, ap, subst}
use mathlib.Core.Bool.{Bool, true, false, not, ◌&&◌}
use mathlib.Core.List.{List, ◌∷◌, ◌++◌}
use Prim.Native.Nat.{ℕ, zero, suc, ◌+◌, ◌<◌}
use native.Mathlib.Nat.{add-zero, zero-add, add-suc, suc-add, le_of_suc-le-suc, not-suc-le-zero}
use lib.Dec.{T}
use lib.ListN.{length, get_or}
use Rattle.lists.specs.Tables.{tabulate, passes}

pub is_true : (b : Bool) → T b → b ≡ true
is_true true t = refl
is_true false t = absurd t

-- two Bools that a test finds equal
abbrev pub agree : Bool → Bool → Bool
agree true b = b
agree false b = not b

pub agreed : (a b : Bool) → T (agree a b) → a ≡ b
agreed true true t = refl
agreed true false t = absurd t
agreed false true t = absurd t
agreed false false t = refl

pub both_left : (a b : Bool) → T (a && b) → T a
both_left true b t = tt
both_left false b t = t

pub both_right : (a b : Bool) → T (a && b) → T b
both_right true b t = t
both_right false b t = absurd t

tabulate-from : {A : Type 0} (f : ℕ → A) (d : A) (n i k : ℕ) → k < n → get_or (tabulate f n i) k d ≡ f (i + k)
unfolding tabulate
tabulate-from f d zero i k h = absurd (not-suc-le-zero h)
tabulate-from f d (suc n) i zero h = rw add-zero refl
tabulate-from f d (suc n) i (suc k) h =
    tabulate-from f d n (suc i) k (le_of_suc-le-suc h) ∙ ap f (suc-add i k ∙ sym (add-suc i k))

-- what a tabulated function holds at a place
pub tabulate-at : {A : Type 0} (f : ℕ → A) (d : A) (n k : ℕ) → k < n → get_or (tabulate f n 0) k d ≡ f k
tabulate-at f d n k h = tabulate-from f d n 0 k h ∙ ap f (zero-add k)

pub tabulate-length : {A : Type 0} (f : ℕ → A) (n i : ℕ) → length (tabulate f n i) ≡ n
unfolding tabulate
tabulate-length f zero i = refl
tabulate-length f (suc n) i = ap suc (tabulate-length f n (suc i))

-- the first m values, and then the others
pub tabulate-append : {A : Type 0} (f : ℕ → A) (m n i : ℕ)
    → tabulate f (m + n) i ≡ tabulate f m i ++ tabulate f n (m + i)
unfolding tabulate
tabulate-append f zero n i = rw (zero-add n, zero-add i)
tabulate-append {A} f (suc m) n i =
    let e : m + suc i ≡ suc m + i = add-suc m i ∙ sym (suc-add m i) in
    rw (suc-add m n)
    (ap (λ (l : List A). f i ∷ l)
    (tabulate-append f m n (suc i) ∙ ap (λ (k : ℕ). tabulate f m (suc i) ++ tabulate f n k) e))

passes-from : (f : ℕ → Bool) (n i k : ℕ) → T (passes f n i) → k < n → T (f (i + k))
unfolding passes
passes-from f zero i k t h = absurd (not-suc-le-zero h)
passes-from f (suc n) i zero t h = rw add-zero (both_left (f i) (passes f n (suc i)) t)
passes-from f (suc n) i (suc k) t h =
    subst (λ (m : ℕ). T (f m)) (suc-add i k ∙ sym (add-suc i k))
    (passes-from f n (suc i) k (both_right (f i) (passes f n (suc i)) t) (le_of_suc-le-suc h))

-- a test that passes at the first n places passes at each
pub passes_at : (f : ℕ → Bool) (n : ℕ) → T (passes f n 0) → (k : ℕ) → k < n → T (f k)
passes_at f n t k h = subst (λ (m : ℕ). T (f m)) (zero-add k) (passes-from f n 0 k t h)
