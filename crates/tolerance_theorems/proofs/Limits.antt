-- Baudot at 45.45 bit/s bears 5 ms and no more, Baudot at 50 bit/s 4 and no more. The code 11111 has one space, its
-- start: if that comes late and ends early, its sample falls on a mark, and the code is lost without a fault.
use mathlib.Core.Path.{◌≡◌, ◌∙◌, refl, sym}
use mathlib.Core.List.{List, [], ◌∷◌, ◌++◌}
use Prim.Native.Nat.{ℕ, ◌+◌, ◌≤◌}
use native.Mathlib.Omega.{arith}
use lib.ListN.{replicate}
use Rattle.lists.specs.Lists.{all_at_most}
use Rattle.lists.specs.Steps.{outputs}
use Rattle.alphabet.specs.declared.Mode.{Mode}
use Rattle.alphabet.specs.declared.Mode.TheVariants.{Baudot45, Baudot50}
use Rattle.signal.specs.Signal.{quiet, mark, space, digits, held, baudot_signal, signal, signals}
use Rattle.frames.specs.Samples.{samples_of, placed, sample_at, baudot_kinds}
use Rattle.frames.specs.Frames.{hunting, founds, sampled, frame_step}
use Rattle.reader.specs.Reader.{fresh}
use Rattle.tolerance_theorems.specs.Edges.{Edge, edge, edges, Displaced, EachDisplaced, Moved}
use Rattle.tolerance_theorems.specs.Bursts.{on_quiet, burst, found, codes_found}
use Rattle.tolerance_theorems.specs.Tolerance.{Bears, Limits}
use Rattle.tolerance_theorems.proofs.Modes.{bears}

-- "Line signal": E is "space 22, mark 22, space 88, mark 33". No edge between elements of one level.
edges-of-e : edges 0 quiet (on_quiet 0 (burst Baudot45 (0b00001 ∷ [])) 0)
    ≡ edge 0 mark ∷ edge 150 space ∷ edge 172 mark ∷ edge 194 space ∷ edge 282 mark ∷ edge 315 quiet ∷ []
unfolding edges signals signal baudot_signal held digits
edges-of-e = refl

-- a larger displacement allows what a smaller one does
wider : (c d : ℕ) (fs gs : List Edge) → c ≤ d → EachDisplaced c fs gs → EachDisplaced d fs gs
wider c d [] [] h near = tt
wider c d [] (g ∷ gs) h near = absurd near
wider c d (f ∷ fs) [] h near = absurd near
wider c d (f ∷ fs) (g ∷ gs) h near =
    let m = near.0 in (
      record { same_level = m.same_level; early = omega (arith, m.early); late = omega (arith, m.late) },
      wider c d fs gs h near.1,
    )

to : {d : ℕ} (x p q : ℕ) → p ≤ q + d → q ≤ p + d → Displaced d (edge p x) (edge q x)
to x p q a b = record { same_level = refl; early = a; late = b }

-- 5 quiet ms, a preamble that ends late, 10 ms of space, and mark up to the end of the burst
abbrev lost : ℕ → ℕ → List ℕ
lost preamble_ms stop_ms =
    replicate 5 quiet ++ (replicate preamble_ms mark ++ (replicate 10 space
    ++ (replicate stop_ms mark ++ (quiet ∷ []))))

-- the burst of 11111 behind 5 quiet ms
abbrev sent : Mode → List ℕ
sent mode = on_quiet 5 (burst mode (0b11111 ∷ [])) 0

moved-45 : Moved 6 (sent Baudot45) (lost 156 149)
unfolding edges signals signal baudot_signal held digits
moved-45 = (
  to mark 5 5 (omega arith) (omega arith),
  (
    to space 155 161 (omega arith) (omega arith),
    (to mark 177 171 (omega arith) (omega arith), (to quiet 320 320 (omega arith) (omega arith), tt)),
  ),
)

moved-50 : Moved 5 (sent Baudot50) (lost 155 135)
unfolding edges signals signal baudot_signal held digits
moved-50 = (
  to mark 5 5 (omega arith) (omega arith),
  (
    to space 155 160 (omega arith) (omega arith),
    (to mark 175 170 (omega arith) (omega arith), (to quiet 305 305 (omega arith) (omega arith), tt)),
  ),
)

none-45 : found (founds (samples_of Baudot45) hunting (lost 156 149)) ≡ []
unfolding found outputs frame_step sampled sample_at placed baudot_kinds samples_of
none-45 = refl

none-50 : found (founds (samples_of Baudot50) hunting (lost 155 135)) ≡ []
unfolding found outputs frame_step sampled sample_at placed baudot_kinds samples_of
none-50 = refl

one_code : [] ≡ codes_found (0b11111 ∷ []) → ⊥
unfolding codes_found
one_code e = let z : ◌≡◌ {A = ℕ} 0 1 = cc in omega arith

-- a mode that bears d does not lose the code on a line that is moved by no more
lost-not : (mode : Mode) (c d : ℕ) (ys : List ℕ) → Moved c (sent mode) ys
    → found (founds (samples_of mode) hunting ys) ≡ [] → c ≤ d → Bears mode d → ⊥
unfolding all_at_most
lost-not mode c d ys moved none h b =
    let near = wider c d (edges 0 quiet (sent mode)) (edges 0 quiet ys) h moved in
    one_code (sym none ∙ (b 5 0 (0b11111 ∷ []) ys fresh refl refl near).codes.codes-are)

pub limits : Limits
limits = (
  record {
    bears = λ d h. bears Baudot45 d refl (omega arith);
    no_more = λ d h. lost-not Baudot45 6 d (lost 156 149) moved-45 none-45 h;
  },
  record {
    bears = λ d h. bears Baudot50 d refl (omega arith);
    no_more = λ d h. lost-not Baudot50 5 d (lost 155 135) moved-50 none-50 h;
  },
)
