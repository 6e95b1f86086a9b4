-- The edges of one frame: over ms behind others, and over ms of one level.
use mathlib.Core.Path.{◌≡◌, ◌∙◌, refl, sym, ap}
use mathlib.Core.Bool.{false}
use mathlib.Core.List.{List, [], ◌∷◌, ◌++◌}
use Prim.Native.Nat.{ℕ, zero, suc, ◌+◌, ◌-◌, ◌≤◌, ◌<◌}
use native.Mathlib.Nat.{add-zero}
use native.Mathlib.Omega.{arith}
use lib.ListN.{length, get_or, take, drop, length-take, length-drop}
use lib.Seq.{get_or-take, get_or-drop}
use borrow.Author.Tests.{ne_eqb}
use Rattle.lists.specs.code.Places.{Through}
use Rattle.frames_runs.proofs.Walking.{part, part-cons, part-chain}
use Rattle.edges.specs.declared.Edges.{Edges}
use Rattle.edges.specs.Edges.{is_edge, with_ms}
use Rattle.edges.specs.code.Measuring.{with_all}

pub with_append : (e m : ℕ) (w : Edges) (xs ys : List ℕ)
    → with_all e m w (xs ++ ys) ≡ with_all e (m + length xs) (with_all e m w xs) ys
unfolding with_all
with_append e m w [] ys = rw add-zero refl
with_append e m w (x ∷ xs) ys =
    let z : m + 1 + length xs ≡ m + suc (length xs) = omega arith in
    rw (← z) (with_append e (m + 1) (with_ms e m w x) xs ys)

-- a level that stays is no edge
no_edge : (x : ℕ) → is_edge x x ≡ false
unfolding is_edge
no_edge zero = refl
no_edge (suc zero) = refl
no_edge (suc (suc zero)) = refl
no_edge (suc (suc (suc x))) =
    rw (ne_eqb (suc (suc (suc x))) 1 (λ e. omega arith), ne_eqb (suc (suc (suc x))) 2 (λ e. omega arith)) refl

with-same : (e m : ℕ) (w : Edges) → with_ms e m w w.level ≡ w
unfolding with_ms
with-same e m w = rw (no_edge w.level) refl

-- nor are many ms of it
with-run : (e m : ℕ) (w : Edges) (xs : List ℕ) → ((k : ℕ) → k < length xs → get_or xs k 0 ≡ w.level)
    → with_all e m w xs ≡ w
unfolding with_all
with-run e m w [] h = refl
with-run e m w (x ∷ xs) h =
    ap (λ (v : Edges). with_all e (m + 1) v xs) (ap (with_ms e m w) (h 0 (omega arith)) ∙ with-same e m w)
    ∙ with-run e (m + 1) w xs (λ (k : ℕ) (l : k < length xs). h (suc k) (omega arith))

-- ---- the loop: ms of a level, from a place of the list on

module _ (e m : ℕ) (heard : List ℕ) (to : ℕ) (fits : to ≤ length heard) where
  -- what is left, with the edges so far
  abbrev left : Edges → ℕ → Edges
  left w i = with_all e (m + i) w (part heard i to)

  left-next : (w : Edges) (i : ℕ) → i < to
      → left w i ≡ left (with_ms e (m + i) w (get_or heard i 0)) (i + 1)
  unfolding with_all
  left-next w i h =
      let v = with_ms e (m + i) w (get_or heard i 0) in
      let z : to - i ≡ suc (to - (i + 1)) = omega arith in
      let y : m + i + 1 ≡ m + (i + 1) = omega arith in
      ap (with_all e (m + i) w)
      (ap (λ (n : ℕ). take n (drop i heard)) z ∙ part-cons heard i (to - (i + 1)) (omega arith))
      ∙ ap (λ (n : ℕ). with_all e n v (part heard (i + 1) to)) y

  same_at : (x i j : ℕ) → Through heard i to x j → (k : ℕ) → k < j - i → get_or (part heard i j) k 0 ≡ x
  same_at x i j t k l =
      rw (get_or-take (j - i) (drop i heard) k 0 l, get_or-drop i heard k 0)
      (t.same (i + k) (omega arith) (omega arith))

  left-same : (w : Edges) (x i j : ℕ) → w.level ≡ x → Through heard i to x j → left w i ≡ left w j
  left-same w x i j level t =
      let low = t.low in
      let high = t.high in
      let a = part heard i j in
      let b = part heard j to in
      let n : length a ≡ j - i = simp (length-take, length-drop) (omega arith) in
      let y : m + i + length a ≡ m + j = omega arith in
      ap (with_all e (m + i) w) (part-chain heard i j to low high)
      ∙ with_append e (m + i) w a b
      ∙ ap (λ (k : ℕ). with_all e k (with_all e (m + i) w a) b) y
      ∙ ap (λ (v : Edges). with_all e (m + j) v b)
      (with-run e (m + i) w a
      (λ (k : ℕ) (h : k < length a). same_at x i j t k (omega arith) ∙ sym level))

  pub left-turn : (w : Edges) (i j : ℕ) → i < to → Through heard (i + 1) to (get_or heard i 0) j
      → left w i ≡ left (with_ms e (m + i) w (get_or heard i 0)) j
  unfolding with_ms
  left-turn w i j h t = left-next w i h ∙ left-same _ _ (i + 1) j refl t
