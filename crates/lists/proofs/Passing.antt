-- Numbers that a machine may pass over, since they end in nothing.
use mathlib.Core.Path.{◌≡◌, ◌∙◌, refl, sym, ap, subst}
use mathlib.Core.Bool.{Bool, false, cond}
use mathlib.Core.List.{List, ◌∷◌}
use Prim.Native.Nat.{ℕ, zero, suc, ◌+◌, ◌-◌, ◌≤◌, ◌<◌}
use native.Mathlib.Nat.{add-zero}
use native.Mathlib.Numerals.{add-one}
use native.Mathlib.Omega.{arith}
use lib.ListN.{length, get_or, drop}
use lib.Seq.{drop-cons}
use Rattle.lists.specs.Steps.{state_after, outputs}
use Rattle.lists.specs.code.Passing.{kept, Passes}

-- the number x ends in nothing, and takes the state s to t
pub record Silent {S : Type 0} {O : Type 0} (step : S → ℕ → S) (out : S → ℕ → O) (some : O → Bool)
    (s : S) (x : ℕ) (t : S) : Type 0 where
  pub next : step s x ≡ t
  pub nothing : some (out s x) ≡ false

module _ {S : Type 0} {O : Type 0} (step : S → ℕ → S) (out : S → ℕ → O) (some : O → Bool) (In : S → Type 0)
    (xs : List ℕ) (keeps : (i : ℕ) → i < length xs → (s : S) → In s → In (step s (get_or xs i 0))) where
  abbrev P : S → ℕ → S → ℕ → Type 0
  P s i t to = Passes step out some In xs s i t to

  abbrev Quiet : S → ℕ → S → Type 0
  Quiet s x t = Silent step out some s x t

  abbrev ends : S → ℕ → List O
  ends s i = kept some (outputs step out s (drop i xs))

  -- something or nothing, and then the rest
  abbrev ahead : O → S → ℕ → List O
  ahead o s i = cond (some o) (o ∷ ends s i) (ends s i)

  -- a number, and then the others
  after_next : (s : S) (i : ℕ) → i < length xs
      → state_after step s (drop i xs) ≡ state_after step (step s (get_or xs i 0)) (drop (i + 1) xs)
  unfolding state_after
  after_next s i h = rw (add-one, drop-cons xs i 0 h) refl

  ends_next : (s : S) (i : ℕ) → i < length xs → ends s i ≡ ahead (out s (get_or xs i 0)) (step s (get_or xs i 0))
      (i + 1)
  unfolding outputs kept
  ends_next s i h = rw (add-one, drop-cons xs i 0 h) refl

  pub pass-none : (s : S) (i : ℕ) → In s → i ≤ length xs → P s i s i
  pass-none s i h l = record { low = omega arith; high = l; ranged = h; after = refl; rest = refl }

  pub pass-one : (s t : S) (i : ℕ) → In s → i < length xs → Quiet s (get_or xs i 0) t → P s i t (i + 1)
  pass-one s t i h l e = record {
    low = omega arith;
    high = omega arith;
    ranged = subst In e.next (keeps i l s h);
    after = sym (after_next s i l ∙ ap (λ (u : S). state_after step u (drop (i + 1) xs)) e.next);
    rest = sym (ends_next s i l ∙ (rw e.nothing (ap (λ (u : S). ends u (i + 1)) e.next)));
  }

  pub pass-chain : (s t u : S) (i j to : ℕ) → P s i t j → P t j u to → P s i u to
  pass-chain s t u i j to a b =
      let l = a.low in
      let m = b.low in
      record {
        low = omega arith;
        high = b.high;
        ranged = b.ranged;
        after = b.after ∙ a.after;
        rest = b.rest ∙ a.rest;
      }

  -- the state is f k after k numbers
  pass-many : (f : ℕ → S) (n i : ℕ) → In (f 0) → i + n ≤ length xs
      → ((k : ℕ) → k < n → Quiet (f k) (get_or xs (i + k) 0) (f (suc k))) → P (f 0) i (f n) (i + n)
  pass-many f zero i h l s = rw add-zero (pass-none (f 0) i h (omega arith))
  pass-many f (suc n) i h l s =
      let e : i + 0 ≡ i = omega arith in
      let o = pass-one (f 0) (f 1) i h (omega arith) (rw e at (s 0 (omega arith))) in
      let rest = pass-many (λ (k : ℕ). f (suc k)) n (i + 1) o.ranged (omega arith)
      (λ (k : ℕ) (g : k < n). let z : i + 1 + k ≡ i + suc k = omega arith in rw z (s (suc k) (omega arith))) in
      let z : i + 1 + n ≡ i + suc n = omega arith in
      pass-chain (f 0) (f 1) _ i (i + 1) _ o (rw z at rest)

  -- up to a place
  pub pass-to : (f : ℕ → S) (i to : ℕ) → In (f 0) → i ≤ to → to ≤ length xs
      → ((k : ℕ) → k < to - i → Quiet (f k) (get_or xs (i + k) 0) (f (suc k))) → P (f 0) i (f (to - i)) to
  pass-to f i to h l m s =
      let z : i + (to - i) ≡ to = omega arith in
      rw z at (pass-many f (to - i) i h (omega arith) s)

  -- a state that takes the next number as another does
  pub pass_same : (s t : S) (i : ℕ) → In t → i < length xs → step t (get_or xs i 0) ≡ step s (get_or xs i 0)
      → out t (get_or xs i 0) ≡ out s (get_or xs i 0) → P s i t i
  pass_same s t i h l e f = record {
    low = omega arith;
    high = omega arith;
    ranged = h;
    after = after_next t i l ∙ ap (λ (u : S). state_after step u (drop (i + 1) xs)) e ∙ sym (after_next s i l);
    rest = ends_next t i l ∙ (λ j. ahead (f j) (e j) (i + 1)) ∙ sym (ends_next s i l);
  }
