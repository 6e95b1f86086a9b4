-- The edges of a burst are more than 2 d ms apart. So, displaced by up to d each, they still follow one another, and
-- there are ms with just these edges.
use mathlib.Core.Path.{◌≡◌, ◌∙◌, refl, sym, ap, subst}
use mathlib.Core.List.{List, [], ◌∷◌, ◌++◌, append-nil, append_assoc}
use Prim.Native.Nat.{ℕ, suc, ◌+◌, ◌-◌, ◌*◌, ◌/◌, ◌<◌, ◌≤◌}
use native.Mathlib.Omega.{arith}
use lib.ListN.{replicate}
use Rattle.alphabet.specs.Modes.{element_of, preamble_of}
use Rattle.signal.specs.Signal.{quiet, mark, level_of, digits, held, baudot_signal}
use Rattle.tolerance_theorems.specs.Edges.{Edge, edge, edges, EachDisplaced}
use Rattle.tolerance_theorems.specs.Bursts.{codes_at}
use Rattle.tolerance_theorems.specs.Tolerance.{Unmoved, EveryChoice}
use Rattle.tolerance_theorems.proofs.Edges.{by_level, edges_none, edges-other, edges-on, edges-to}
use Rattle.tolerance_theorems.proofs.Frames.{first_edge}
use Rattle.tolerance_theorems.proofs.Modes.{elements, signals-are}

-- the burst itself is one of those that are moved
each-itself : (d : ℕ) (fs : List Edge) → EachDisplaced d fs fs
each-itself d [] = tt
each-itself d (f ∷ fs) =
    (record { same_level = refl; early = omega arith; late = omega arith }, each-itself d fs)

pub unmoved : Unmoved
unmoved d xs = each-itself d (edges 0 quiet xs)

-- Edges that are g ms apart, each to another level, the first not before the ms `now`.
abbrev Apart : ℕ → ℕ → ℕ → List Edge → Type 0
Apart g now x [] = Unit {0}
Apart g now x (f ∷ fs) = (now ≤ f.ms) × ((f.level ≡ x → ⊥) × Apart g (f.ms + g) f.level fs)

sooner : (g now m x : ℕ) (fs : List Edge) → m ≤ now → Apart g now x fs → Apart g m x fs
sooner g now m x [] h a = tt
sooner g now m x (f ∷ fs) h a = (omega (arith, a.0), a.1)

-- there are ms from the number `now` on, behind a ms of level x, that have these edges
record DrawnFrom (now x : ℕ) (fs : List Edge) : Type 0 where
  line : List ℕ
  edges_are : edges now x line ≡ fs

-- each of them displaced by less than half of that
draw : (d g now m x : ℕ) (es fs : List Edge) → 2 * d < g → m ≤ now - d → Apart g now x es → EachDisplaced d es fs
    → DrawnFrom m x fs
draw d g now m x [] [] h l a near = record { line = []; edges_are = edges_none m x }
draw d g now m x [] (f ∷ fs) h l a near = absurd near
draw d g now m x (e ∷ es) [] h l a near = absurd near
draw d g now m x (e ∷ es) (f ∷ fs) h l a near =
    let s = near.0.same_level in
    let later = draw d g (e.ms + g) (suc f.ms) f.level es fs h (omega (arith, near.0.late))
    (subst (λ (y : ℕ). Apart g (e.ms + g) y es) (sym s) a.1.1) near.1 in
    let c : m + (f.ms - m) ≡ f.ms = omega (arith, a.0, near.0.early) in
    record {
      line = replicate (f.ms - m) x ++ (f.level ∷ later.line);
      edges_are =
          edges-on (f.ms - m) m x (f.level ∷ later.line)
          ∙ ap (λ (k : ℕ). edges k x (f.level ∷ later.line)) c
          ∙ edges-other f.ms x f.level later.line (λ q. a.1.0 (sym s ∙ q))
          ∙ ap (λ (l : List Edge). f ∷ l) later.edges_are;
    }

-- lists whose stretches, but for the first and the last, are g ms or more
module _ (g : ℕ) (some : 1 ≤ g) where
  abbrev Wide : List ℕ → Type 0
  Wide zs = (now x : ℕ) → Apart g now x (edges now x zs)

  wide-on : (n y : ℕ) (zs : List ℕ) → g ≤ n → Wide zs → Wide (replicate n y ++ zs)
  wide-on n y zs h w now x = by_level y x
      (λ e. rw (e, edges-on n now x zs) (sooner g (now + n) now x (edges (now + n) x zs) (omega arith) (w (now + n) x)))
      (λ ne. rw (edges-to n now x y zs (omega arith) ne)
      (omega arith, (ne, sooner g (now + n) (now + g) y (edges (now + n) y zs) (omega arith) (w (now + n) y))))

  wide-last : (n : ℕ) → Wide (replicate (suc n) quiet)
  wide-last n now x =
      subst (λ (l : List ℕ). Apart g now x (edges now x l)) (append-nil (replicate (suc n) quiet))
      (by_level quiet x
      (λ e. rw (e, edges-on (suc n) now x [], edges_none (now + suc n) x) tt)
      (λ ne. rw (edges-to (suc n) now x quiet [] (omega arith) ne, edges_none (now + suc n) quiet)
      (omega arith, (ne, tt))))

  wide-held : (e : ℕ) (ds zs : List ℕ) → g ≤ e → Wide zs → Wide (held e ds ++ zs)
  unfolding held
  wide-held e [] zs h w = w
  wide-held e (b ∷ ds) zs h w =
      rw (append_assoc (replicate e (level_of b)) (held e ds) zs)
      (wide-on e (level_of b) (held e ds ++ zs) h (wide-held e ds zs h w))

  wide-codes : (e : ℕ) (ks zs : List ℕ) → g ≤ e → Wide zs → Wide (codes_at e ks ++ zs)
  unfolding codes_at baudot_signal
  wide-codes e [] zs h w = w
  wide-codes e (k ∷ ks) zs h w =
      let elements = held e (0 ∷ digits 5 k) in
      let stop = replicate (3 * e / 2) mark in
      let later = codes_at e ks ++ zs in
      rw (append_assoc (elements ++ stop) (codes_at e ks) zs, append_assoc elements stop later)
      (wide-held e (0 ∷ digits 5 k) (stop ++ later) h
      (wide-on (3 * e / 2) mark later (omega arith) (wide-codes e ks zs h w)))

pub every-choice : EveryChoice
every-choice mode d before after ks fs b h near =
    let m = elements mode b in
    let e = element_of mode in
    let ms = preamble_of mode in
    let g = suc (2 * d) in
    let quiets = replicate (suc after) quiet in
    let later = edges (before + ms) mark (codes_at e ks ++ quiets) in
    let first = first_edge e before ms after ks (omega (arith, m.preamble-is)) in
    let wide = wide-codes g (omega arith) e ks quiets (omega arith) (wide-last g (omega arith) after) in
    let behind = sooner g (before + ms) (before + g) mark later (omega (arith, m.preamble-is, m.most))
    (wide (before + ms) mark) in
    let drawn = draw d g before 0 quiet (edge before mark ∷ later) fs (omega arith) (omega arith)
    (omega arith, (λ q. omega arith, behind)) (rw first at (rw (signals-are mode m ks) at near)) in
    record { line = drawn.line; edges_are = drawn.edges_are }
