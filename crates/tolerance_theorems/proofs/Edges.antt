-- A line goes on at its level up to its next edge.
use mathlib.Core.Path.{◌≡◌, ◌∙◌, refl, sym, ap, subst}
use mathlib.Core.List.{List, [], ◌∷◌, ◌++◌, append_assoc}
use Prim.Native.Nat.{ℕ, zero, suc, ◌+◌, ◌-◌, ◌≤◌, ◌<◌}
use native.Mathlib.Nat.{add-zero}
use native.Mathlib.Omega.{arith}
use lib.Dec.{eqb}
use lib.ListN.{length, length-append, length-replicate, replicate}
use borrow.Author.Tests.{eq-eqb, ne_eqb, eqb-true, eqb-false}
use Rattle.lists.proofs.Lists.{by-test}
use Rattle.tolerance_theorems.specs.Edges.{Edge, edge, edges, EachDisplaced}

-- a level is another or not
pub by_level : {A : Type 0} (y x : ℕ) → (y ≡ x → A) → ((y ≡ x → ⊥) → A) → A
by_level y x f g = by-test (eqb y x) (λ e. f (eqb-true y x e)) (λ e. g (eqb-false y x e))

-- ---- the edges of a list

pub edges_none : (now x : ℕ) → edges now x [] ≡ []
unfolding edges
edges_none now x = refl

pub edges-same : (now x : ℕ) (ys : List ℕ) → edges now x (x ∷ ys) ≡ edges (suc now) x ys
unfolding edges
edges-same now x ys = rw (eq-eqb x x refl) refl

pub edges-other : (now x y : ℕ) (ys : List ℕ) → (y ≡ x → ⊥) → edges now x (y ∷ ys) ≡ edge now y ∷ edges (suc now) y ys
unfolding edges
edges-other now x y ys n = rw (ne_eqb y x n) refl

-- a stretch of the level that is on the line has none
pub edges-on : (n now x : ℕ) (zs : List ℕ) → edges now x (replicate n x ++ zs) ≡ edges (now + n) x zs
edges-on zero now x zs = rw add-zero
edges-on (suc n) now x zs =
    let c : suc now + n ≡ now + suc n = omega arith in
    edges-same now x (replicate n x ++ zs) ∙ edges-on n (suc now) x zs ∙ ap (λ (k : ℕ). edges k x zs) c

-- a stretch of another level has one
pub edges-to : (n now x y : ℕ) (zs : List ℕ) → 1 ≤ n → (y ≡ x → ⊥)
    → edges now x (replicate n y ++ zs) ≡ edge now y ∷ edges (now + n) y zs
edges-to zero now x y zs h ne = absurd (omega arith)
edges-to (suc n) now x y zs h ne =
    let c : suc now + n ≡ now + suc n = omega arith in
    edges-other now x y (replicate n y ++ zs) ne
    ∙ ap (λ (l : List Edge). edge now y ∷ l) (edges-on n (suc now) y zs ∙ ap (λ (k : ℕ). edges k y zs) c)

-- ---- a list that ends quiet

-- the first of these edges is there, and not before the ms n
abbrev pub FirstFrom : ℕ → List Edge → Type 0
FirstFrom n [] = ⊥
FirstFrom n (f ∷ fs) = n ≤ f.ms

first-later : (m n : ℕ) (fs : List Edge) → m ≤ n → FirstFrom n fs → FirstFrom m fs
first-later m n [] h f = f
first-later m n (g ∷ gs) h f = omega arith

-- behind a mark or space, an edge comes
abbrev pub Ends : List ℕ → Type 0
Ends zs = (now x : ℕ) → (x ≡ 0 → ⊥) → FirstFrom now (edges now x zs)

pub ends-quiet : (zs : List ℕ) → Ends (0 ∷ zs)
ends-quiet zs now x n = rw (edges-other now x 0 zs (λ q. n (sym q))) (omega arith)

pub ends-append : (ys zs : List ℕ) → Ends zs → Ends (ys ++ zs)
ends-append [] zs h = h
ends-append (y ∷ ys) zs h = λ now x n. by_level y x
    (λ e. rw (e, edges-same now x (ys ++ zs))
    (first-later now (suc now) (edges (suc now) x (ys ++ zs)) (omega arith) (ends-append ys zs h (suc now) x n)))
    (λ ne. rw (edges-other now x y (ys ++ zs) ne) (omega arith))

-- ---- a moved line; what holds of every list that it may be, holds of it

turn : (m y : ℕ) (r : List ℕ) → y ∷ (replicate m y ++ r) ≡ replicate m y ++ (y ∷ r)
turn zero y r = refl
turn (suc m) y r = ap (λ (l : List ℕ). y ∷ l) (turn m y r)

module _ (d : ℕ) where
  -- It comes to its next edge: unmoved to y at the ms p, with the edges es behind it.
  module _ (p x y : ℕ) (es : List Edge) where
    pub jumps : (P : List ℕ → Type 0) (q : ℕ) (ys : List ℕ) → EachDisplaced d (edge p y ∷ es) (edges q x ys)
        → ((n : ℕ) (rest : List ℕ) → p ≤ q + n + d → q + n ≤ p + d
        → EachDisplaced d es (edges (suc (q + n)) y rest) → P (replicate n x ++ (y ∷ rest)))
        → P ys
    jumps P q [] near k = absurd (rw (edges_none q x) at near)
    jumps P q (z ∷ ys) near k = by_level z x
        (λ e. subst (λ (w : ℕ). P (w ∷ ys)) (sym e)
        (jumps (λ (l : List ℕ). P (x ∷ l)) (suc q) ys (rw (edges-same q x ys) at (rw e at near))
        (λ n rest a b c. k (suc n) rest (omega arith) (omega arith)
        (let s : suc q + n ≡ q + suc n = omega arith in rw s at c))))
        (λ ne. here (rw (edges-other q x z ys ne) at near))
      where
        here : EachDisplaced d (edge p y ∷ es) (edge q z ∷ edges (suc q) z ys) → P (z ∷ ys)
        here m =
            let s : q + 0 ≡ q = omega arith in
            let l : z ≡ y = m.0.same_level in
            subst (λ (w : ℕ). P (w ∷ ys)) (sym l)
            (k 0 ys (omega (arith, m.0.early)) (omega (arith, m.0.late)) (rw (s, sym l) m.1))

  -- It goes on at its level for n ms, if the next edge is later than that even if it is early.
  module _ (y : ℕ) (es : List Edge) where
    pub stays : (P : List ℕ → Type 0) (n q : ℕ) (ys : List ℕ) → FirstFrom (q + n + d) es
        → EachDisplaced d es (edges q y ys)
        → ((rest : List ℕ) → EachDisplaced d es (edges (q + n) y rest) → P (replicate n y ++ rest)) → P ys
    stays P zero q ys f near k = k ys (let s : q + 0 ≡ q = omega arith in rw s near)
    stays P (suc n) q [] f near k = absurd (none_left es f (rw (edges_none q y) at near))
      where
        none_left : (es : List Edge) → FirstFrom (q + suc n + d) es → EachDisplaced d es [] → ⊥
        none_left [] f m = f
        none_left (g ∷ gs) f m = m
    stays P (suc n) q (z ∷ ys) f near k = by_level z y
        (λ e. subst (λ (w : ℕ). P (w ∷ ys)) (sym e)
        (let s : suc q + n ≡ q + suc n = omega arith in
        stays (λ (l : List ℕ). P (y ∷ l)) n (suc q) ys (rw s f) (rw (edges-same q y ys) at (rw e at near))
        (λ rest c. k rest (rw s at c))))
        (λ ne. absurd (too-soon es f (rw (edges-other q y z ys ne) at near)))
      where
        too-soon : (es : List Edge) → FirstFrom (q + suc n + d) es
            → EachDisplaced d es (edge q z ∷ edges (suc q) z ys) → ⊥
        too-soon [] f m = f
        too-soon (g ∷ gs) f m = omega (arith, m.0.early)

  -- At a ms that is d or more behind the begin of a stretch and more than d ahead of its end, it has the level of that
  -- stretch. Unmoved, the stretch is n ms of level y from the ms p on, with zs behind it. Of the moved line, ys is left
  -- from the ms q on, and the ms in question is q + m.
  pub within : (P : List ℕ → Type 0) (n p x y q m : ℕ) (zs ys : List ℕ) → Ends zs → (y ≡ 0 → ⊥) → 1 ≤ n
      → p + d ≤ q + m → q + m + d < p + n → EachDisplaced d (edges p x (replicate n y ++ zs)) (edges q x ys)
      → ((ahead rest : List ℕ) → length ahead ≡ m → EachDisplaced d (edges (p + n) y zs) (edges (suc (q + m)) y rest)
      → P (ahead ++ (y ∷ rest)))
      → P ys
  within P n p x y q m zs ys end ny one a b near k = by_level y x on over
    where
      es : List Edge
      es = edges (p + n) y zs

      first : (t : ℕ) → t ≤ p + n → FirstFrom t es
      first t h = first-later t (p + n) es h (end (p + n) y ny)

      on : y ≡ x → P ys
      on e =
          stays y es P (suc m) q ys (first (q + suc m + d) (omega arith))
          (rw (edges-on n p y zs) at (rw (sym e) at near))
          (λ rest c. let s : q + suc m ≡ suc (q + m) = omega arith in
          subst P (sym (turn m y rest)) (k (replicate m y) rest (length-replicate m y) (rw s at c)))

      over : (y ≡ x → ⊥) → P ys
      over ne =
          jumps p x y es P q ys (rw (edges-to n p x y zs one ne) at near)
          (λ i later u v c.
          let s : suc (q + i) + (m - i) ≡ suc (q + m) = omega arith in
          stays y es (λ (l : List ℕ). P (replicate i x ++ (y ∷ l))) (m - i) (suc (q + i)) later
          (first (suc (q + i) + (m - i) + d) (omega arith)) c
          (λ rest f.
          let ahead = replicate i x ++ replicate (m - i) y in
          let w : ahead ++ (y ∷ rest) ≡ replicate i x ++ (y ∷ (replicate (m - i) y ++ rest)) =
          append_assoc (replicate i x) (replicate (m - i) y) (y ∷ rest)
          ∙ ap (λ (l : List ℕ). replicate i x ++ l) (sym (turn (m - i) y rest)) in
          subst P w (k ahead rest (simp (length-append, length-replicate) (omega arith)) (rw s at f))))

  -- Without a further edge it stays for good.
  pub no_edges : (now x : ℕ) (ys : List ℕ) → EachDisplaced d [] (edges now x ys) → ys ≡ replicate (length ys) x
  no_edges now x [] near = refl
  no_edges now x (y ∷ ys) near = by_level y x
      (λ e. λ i. e i ∷ no_edges (suc now) x ys (rw (edges-same now x ys) at (rw e at near)) i)
      (λ ne. absurd (rw (edges-other now x y ys ne) at near))
