-- Edges that wait: which ms of a frame they are those of.
use mathlib.Core.Path.{◌≡◌, ◌∙◌, refl, sym, ap, subst₂}
use mathlib.Core.List.{List, [], ◌∷◌, ◌++◌}
use Prim.Native.Nat.{ℕ, suc, ◌+◌, ◌-◌, ◌≤◌, ◌<◌}
use native.Mathlib.Omega.{arith}
use lib.ListN.{length, take, drop, length-drop}
use lib.Seq.{take_all}
use Rattle.edges.specs.declared.Edges.{Edges}
use Rattle.edges.specs.Edges.{no_edges}
use Rattle.edges.specs.code.Measuring.{with_all}
use Rattle.edges_runs.specs.code.Latest.{OneMs, Falls, Begins, On, Goes}

-- No ms; the frame was dropped in the last one; it began among them; it went on through all.
pub data Seen (e p : ℕ) (w : Edges) (xs : List ℕ) (p' : ℕ) (w' : Edges) : Type 0 where
  Empty : length xs ≡ 0 → p ≡ p' → w ≡ w' → Seen e p w xs p' w'
  Fell : 1 ≤ length xs → p' < 2 → no_edges ≡ w' → Seen e p w xs p' w'
  Began : 2 ≤ p' → p' - 1 ≤ length xs → with_all e 0 no_edges (drop (length xs - (p' - 1)) xs) ≡ w'
      → Seen e p w xs p' w'
  Went : 1 ≤ length xs → 2 ≤ p → p' ≡ p + length xs → with_all e (p - 1) w xs ≡ w' → Seen e p w xs p' w'

module _ (e : ℕ) where
  first_alone : (p : ℕ) (w : Edges) (x q : ℕ) (v : Edges) (xs : List ℕ) (p' : ℕ) (w' : Edges) → length xs ≡ 0
      → OneMs e p w x q v → q ≡ p' → v ≡ w' → Seen e p w (x ∷ xs) p' w'
  unfolding with_all
  first_alone p w x q v [] p' w' n (Falls s t) a b = Fell (omega arith) (omega arith) (sym t ∙ b)
  first_alone p w x q v [] p' w' n (Begins s t k l) a b =
      let z : 1 - (p' - 1) ≡ 0 = omega arith in
      Began (omega arith) (omega arith) (rw z (sym l ∙ b))
  first_alone p w x q v [] p' w' n (On s t k) a b = Went (omega arith) s (omega arith) (sym k ∙ b)
  first_alone p w x q v (y ∷ xs) p' w' n s a b = absurd (omega arith)

  seen_more : (p : ℕ) (w : Edges) (x q : ℕ) (v : Edges) (xs : List ℕ) (p' : ℕ) (w' : Edges) → OneMs e p w x q v
      → Seen e q v xs p' w' → Seen e p w (x ∷ xs) p' w'
  unfolding with_all
  seen_more p w x q v xs p' w' s (Empty n a b) = first_alone p w x q v xs p' w' n s a b
  seen_more p w x q v xs p' w' s (Fell n a b) = Fell (omega arith) a b
  seen_more p w x q v xs p' w' s (Began a b c) =
      let z : suc (length xs) - (p' - 1) ≡ suc (length xs - (p' - 1)) = omega arith in
      Began a (omega arith) (rw z c)
  seen_more p w x q v xs p' w' (Falls a b) (Went n o k l) = absurd (omega arith)
  seen_more p w x q v xs p' w' (Begins a b c d) (Went n o k l) =
      let z : suc (length xs) - (p' - 1) ≡ 0 = omega arith in
      let y : q - 1 ≡ 0 + 1 = omega arith in
      Began (omega arith) (omega arith)
      (ap (λ (k : ℕ). with_all e 0 no_edges (drop k (x ∷ xs))) z
      ∙ ap (λ (u : Edges). with_all e (0 + 1) u xs) (sym d)
      ∙ ap (λ (k : ℕ). with_all e k v xs) (sym y)
      ∙ l)
  seen_more p w x q v xs p' w' (On a b c) (Went n o k l) =
      let y : q - 1 ≡ p - 1 + 1 = omega arith in
      Went (omega arith) a (omega arith)
      (ap (λ (u : Edges). with_all e (p - 1 + 1) u xs) (sym c) ∙ ap (λ (k : ℕ). with_all e k v xs) (sym y) ∙ l)

  pub seen : (p : ℕ) (w : Edges) (xs : List ℕ) (p' : ℕ) (w' : Edges) → Goes e p w xs p' w' → Seen e p w xs p' w'
  unfolding Goes
  seen p w [] p' w' g = Empty refl g.0 g.1
  seen p w (x ∷ xs) p' w' g = seen_more p w x g.0 g.1 xs p' w' g.2 (seen g.0 g.1 xs p' w' g.3)

  -- ---- one run of ms behind another

  pub goes-append : (p : ℕ) (w : Edges) (xs : List ℕ) (q : ℕ) (v : Edges) (ys : List ℕ) (p' : ℕ) (w' : Edges)
      → Goes e p w xs q v → Goes e q v ys p' w' → Goes e p w (xs ++ ys) p' w'
  unfolding Goes
  goes-append p w [] q v ys p' w' a b =
      subst₂ (λ (k : ℕ) (u : Edges). Goes e k u ys p' w') (sym a.0) (sym a.1) b
  goes-append p w (x ∷ xs) q v ys p' w' a b =
      (a.0, a.1, a.2, goes-append a.0 a.1 xs q v ys p' w' a.3 b)

  pub goes_one : (p : ℕ) (w : Edges) (x q : ℕ) (v : Edges) → OneMs e p w x q v → Goes e p w (x ∷ []) q v
  unfolding Goes
  goes_one p w x q v s = (q, v, s, (refl, refl))

-- ---- what is told by the places

module _ (e p : ℕ) (w : Edges) (xs : List ℕ) (p' : ℕ) (w' : Edges) where
  empty-case : length xs ≡ 0 → Seen e p w xs p' w' → w ≡ w'
  empty-case n (Empty a b c) = c
  empty-case n (Fell a b c) = absurd (omega arith)
  empty-case n (Began a b c) = absurd (omega arith)
  empty-case n (Went a b c d) = absurd (omega arith)

  fell-case : (length xs ≡ 0 → ⊥) → p' < 2 → Seen e p w xs p' w' → no_edges ≡ w'
  fell-case n l (Empty a b c) = absurd (n a)
  fell-case n l (Fell a b c) = c
  fell-case n l (Began a b c) = absurd (omega arith)
  fell-case n l (Went a b c d) = absurd (omega arith)

  -- the last ms of the list
  abbrev last-ms : List ℕ
  last-ms = take (length xs - (length xs - (p' - 1))) (drop (length xs - (p' - 1)) xs)

  last-is : last-ms ≡ drop (length xs - (p' - 1)) xs
  last-is =
      take_all (length xs - (length xs - (p' - 1))) (drop (length xs - (p' - 1)) xs) (rw length-drop (omega arith))

  began-case : (length xs ≡ 0 → ⊥) → 2 ≤ p' → p' - 1 ≤ length xs → Seen e p w xs p' w'
      → with_all e 0 no_edges last-ms ≡ w'
  began-case n l m (Empty a b c) = absurd (n a)
  began-case n l m (Fell a b c) = absurd (omega arith)
  began-case n l m (Began a b c) = ap (with_all e 0 no_edges) last-is ∙ c
  began-case n l m (Went a b c d) = absurd (omega arith)

  went-case : (length xs ≡ 0 → ⊥) → 2 ≤ p' → length xs < p' - 1 → Seen e p w xs p' w'
      → with_all e (p - 1) w xs ≡ w'
  went-case n l m (Empty a b c) = absurd (n a)
  went-case n l m (Fell a b c) = absurd (omega arith)
  went-case n l m (Began a b c) = absurd (omega arith)
  went-case n l m (Went a b c d) = d

  pub latest-empty : length xs ≡ 0 → Goes e p w xs p' w' → w ≡ w'
  latest-empty n g = empty-case n (seen e p w xs p' w' g)

  pub latest-fell : (length xs ≡ 0 → ⊥) → p' < 2 → Goes e p w xs p' w' → no_edges ≡ w'
  latest-fell n l g = fell-case n l (seen e p w xs p' w' g)

  pub latest-began : (length xs ≡ 0 → ⊥) → 2 ≤ p' → (n : ℕ) → n ≡ p' - 1 → n ≤ length xs → (u : Edges) → u ≡ no_edges
      → Goes e p w xs p' w' → with_all e 0 u (take (length xs - (length xs - n)) (drop (length xs - n) xs)) ≡ w'
  latest-began z l n en m u eu g = rw (en, eu) (began-case z l (omega arith) (seen e p w xs p' w' g))

  pub latest-went : (length xs ≡ 0 → ⊥) → 2 ≤ p' → (n : ℕ) → n ≡ p' - 1 → length xs < n → (m : ℕ) → m ≡ p - 1
      → Goes e p w xs p' w' → with_all e m w xs ≡ w'
  latest-went z l n en k m em g = rw em (went-case z l (omega arith) (seen e p w xs p' w' g))
