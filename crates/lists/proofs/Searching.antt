-- A search, place by place.
use mathlib.Core.Path.{◌≡◌, ◌∙◌, sym}
use mathlib.Core.List.{List}
use Prim.Native.Nat.{ℕ, ◌+◌, ◌≤◌, ◌<◌}
use native.Mathlib.Omega.{arith}
use lib.Dec.{ltb}
use lib.ListN.{get_or}
use borrow.Author.Tests.{ltb-true, ltb-false}
use Rattle.lists.specs.code.Places.{Until, Through}
use Rattle.lists.proofs.Lists.{by-test}

-- what holds at each place before mid, and at each from there on, holds at each
pub two-parts : (P : ℕ → Type 0) (from mid to : ℕ) → ((k : ℕ) → from ≤ k → k < mid → P k)
    → ((k : ℕ) → mid ≤ k → k < to → P k) → (k : ℕ) → from ≤ k → k < to → P k
two-parts P from mid to f g k l m =
    by-test (ltb k mid) (λ e. f k l (ltb-true k mid e)) (λ e. g k (ltb-false k mid e) m)

-- what holds at each place before i, and at i, holds at each before i + 1
one_more : (P : ℕ → Type 0) (from i : ℕ) → ((k : ℕ) → from ≤ k → k < i → P k) → P i → (k : ℕ) → from ≤ k → k < i + 1
    → P k
one_more P from i h p =
    two-parts P from i (i + 1) h
    (λ (k : ℕ) (l : i ≤ k) (m : k < i + 1). (let q : i ≡ k = omega arith in rw q at p))

module _ (xs : List ℕ) (from end x : ℕ) where
  pub until-start : from ≤ end → Until xs from end x from
  until-start h = record {
    low = omega arith;
    high = h;
    others = λ (k : ℕ) (l : from ≤ k) (m : k < from). absurd (omega arith);
  }

  pub until-turn : (i : ℕ) → Until xs from end x i → i < end → (get_or xs i 0 ≡ x → ⊥) → Until xs from end x (i + 1)
  until-turn i u h n = record {
    low = let l = u.low in omega arith;
    high = omega arith;
    others = one_more (λ (k : ℕ). get_or xs k 0 ≡ x → ⊥) from i u.others n;
  }

  pub through-start : from ≤ end → Through xs from end x from
  through-start h = record {
    low = omega arith;
    high = h;
    same = λ (k : ℕ) (l : from ≤ k) (m : k < from). absurd (omega arith);
  }

  pub through-turn : (i : ℕ) → Through xs from end x i → i < end → get_or xs i 0 ≡ x → Through xs from end x (i + 1)
  through-turn i u h n = record {
    low = let l = u.low in omega arith;
    high = omega arith;
    same = one_more (λ (k : ℕ). get_or xs k 0 ≡ x) from i u.same n;
  }

-- a search that goes on behind a run of another number
pub until-through : (xs : List ℕ) (from mid end x y to : ℕ) → (y ≡ x → ⊥) → Until xs from end x mid
    → Through xs mid end y to → Until xs from end x to
until-through xs from mid end x y to n u t = record {
  low = let l = u.low in let m = t.low in omega arith;
  high = t.high;
  others = two-parts (λ (k : ℕ). get_or xs k 0 ≡ x → ⊥) from mid to u.others
      (λ (k : ℕ) (l : mid ≤ k) (m : k < to) (p : get_or xs k 0 ≡ x). n (sym (t.same k l m) ∙ p));
}
