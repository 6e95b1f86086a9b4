-- Numbers that are all alike.
use mathlib.Core.Path.{◌≡◌, ◌∙◌, sym}
use mathlib.Core.Bool.{true}
use mathlib.Core.List.{List}
use Prim.Native.Nat.{ℕ, ◌≤◌, ◌<◌}
use native.Mathlib.Omega.{arith}
use lib.ListN.{length, get_or}
use Rattle.lists.specs.Lists.{all_at_most, all_at_least}
use Rattle.lists.proofs.Lists.{at-most-at, at-least-at}
use Rattle.lists.specs.code.Places.{Alike, Through}

-- all of one number
pub alike : (xs : List ℕ) (x : ℕ) → ((k : ℕ) → k < length xs → get_or xs k 0 ≡ x) → Alike xs
alike xs x p = record { same = λ (j k : ℕ) (h : j < length xs) (l : k < length xs). p j h ∙ sym (p k l) }

-- zeros, and numbers at the bound
pub alike-zeros : (xs : List ℕ) → all_at_most 0 xs ≡ true → Alike xs
alike-zeros xs e = alike xs 0 (λ (k : ℕ) (h : k < length xs). let m = at-most-at 0 xs e k h in omega arith)

pub alike_at : (xs : List ℕ) (bound : ℕ) → all_at_most bound xs ≡ true → all_at_least bound xs ≡ true → Alike xs
alike_at xs bound e f =
    alike xs bound
    (λ (k : ℕ) (h : k < length xs).
    let m = at-most-at bound xs e k h in let n = at-least-at bound xs f k h in omega arith)

-- from a place to the end
pub alike-through : (xs : List ℕ) → Alike xs → (from : ℕ) → from < length xs → (x : ℕ) → x ≡ get_or xs from 0
    → Through xs from (length xs) x (length xs)
alike-through xs a from h x e = record {
  low = omega arith;
  high = omega arith;
  same = λ (k : ℕ) (p : from ≤ k) (q : k < length xs). a.same k from q h ∙ sym e;
}
