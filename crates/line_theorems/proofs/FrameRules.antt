-- Reading frames over lists of ms; and each reading rule by itself, for any places of the samples.
use mathlib.Core.Path.{◌≡◌, ◌∙◌, refl, ap}
use mathlib.Core.List.{List, [], ◌∷◌, ◌++◌}
use Prim.Native.Nat.{ℕ, ◌+◌, ◌-◌, ◌/◌, ◌≤◌}
use native.Mathlib.Omega.{arith}
use lib.Dec.{T}
use borrow.Author.Tests.{eq-eqb, ne_eqb}
use Rattle.frames.specs.declared.Cause.TheVariants.{Quiet, StopNotMark, OddParity}
use Rattle.frames.specs.declared.Frame.{Frame}
use Rattle.frames.specs.declared.Found.{Found}
use Rattle.frames.specs.declared.Found.TheVariants.{Nothing, Code}
use Rattle.frames.specs.declared.FrameRead.{FrameRead}
use Rattle.signal.specs.Signal.{parity_of}
use Rattle.frames.specs.Samples.{Sample, None, Start, Digit, Parity, Stop, Last, is_later, Placed, sample_at}
use Rattle.frames.specs.Frames.{in_frame, hunting, waiting, gives, goes_on, faulty, parity_heard, sampled, frame_step, frame_next, frame_found}
use Rattle.frames.proofs.Range as range
use Rattle.frames.proofs.Sampling as sampling
use Rattle.lists.proofs.Steps as steps
use Rattle.lists.proofs.Steps.{Takes}

-- from the reader f, the ms xs end in os, one each, and leave the reader g
abbrev pub Hears : List Placed → Frame → List ℕ → List Found → Frame → Type 0
Hears samples f xs os g = Takes (frame_next samples) (frame_found samples) f xs os g

module _ (samples : List Placed) where
  pub none : (f : Frame) → Hears samples f [] [] f
  none f = steps.none (frame_next samples) (frame_found samples) f

  pub chain : {f g h : Frame} {xs ys : List ℕ} {os ps : List Found} → Hears samples f xs os g → Hears samples g ys ps h
      → Hears samples f (xs ++ ys) (os ++ ps) h
  chain a b = steps.chain (frame_next samples) (frame_found samples) a b

  pub next : {f g h : Frame} {x : ℕ} {o : Found} {xs : List ℕ} {os : List Found} → frame_step samples f x ≡ gives g o
      → Hears samples g xs os h → Hears samples f (x ∷ xs) (o ∷ os) h
  next e b =
      steps.next (frame_next samples) (frame_found samples) (ap (λ (d : FrameRead). d.frame) e)
      (ap (λ (d : FrameRead). d.found) e) b

  -- hunting, a space ms is ms 0 of a frame; any other is passed over
  pub hunting-space : frame_step samples hunting 2 ≡ gives (in_frame 1 0) Nothing
  unfolding frame_step
  hunting-space = refl

  pub hunting-other : (x : ℕ) → (x ≡ 2 → ⊥) → frame_step samples hunting x ≡ gives hunting Nothing
  unfolding frame_step
  hunting-other x h = rw (ne_eqb x 2 h) refl

  -- after a fault: waiting for a ms that is not space; the ms after that one is hunted in
  pub waiting-space : frame_step samples waiting 2 ≡ gives waiting Nothing
  unfolding frame_step
  waiting-space = refl

  pub waiting-other : (x : ℕ) → (x ≡ 2 → ⊥) → frame_step samples waiting x ≡ gives hunting Nothing
  unfolding frame_step
  waiting-other x h = rw (ne_eqb x 2 h) refl

  -- in a frame, a ms is what its sample makes of it
  pub in_frame-step : (m d x : ℕ) → 1 ≤ m → frame_step samples (in_frame m d) x ≡ sampled (sample_at samples m) m d x
  in_frame-step m d x h =
      let p : m + 1 - 1 ≡ m = omega arith in
      range.in_frame-step samples (in_frame m d) x (omega arith) ∙ ap (λ (n : ℕ). sampled (sample_at samples n) n d x) p

  module _ (m d : ℕ) (first : 1 ≤ m) where
    by : (k : Sample) (x : ℕ) → sample_at samples m ≡ k → frame_step samples (in_frame m d) x ≡ sampled k m d x
    by k x e = in_frame-step m d x first ∙ ap (λ (s : Sample). sampled s m d x) e

    -- a ms without a sample changes nothing
    pub no-sample : (x : ℕ) → sample_at samples m ≡ None → frame_step samples (in_frame m d) x ≡ goes_on m d
    unfolding sampled
    no-sample x e = by None x e

    -- a start sample that is not space ends the frame without a word
    pub start-other : (x : ℕ) → sample_at samples m ≡ Start → (x ≡ 2 → ⊥)
        → frame_step samples (in_frame m d) x ≡ gives hunting Nothing
    unfolding sampled
    start-other x e h = by Start x e ∙ (rw (ne_eqb x 2 h) refl)

    pub start-space : sample_at samples m ≡ Start → frame_step samples (in_frame m d) 2 ≡ goes_on m d
    unfolding sampled
    start-space e = by Start 2 e

    -- quiet at a later sample, whatever it is for, gives one fault, of that cause and at this ms, and the wait
    pub later-quiet : T (is_later (sample_at samples m)) → frame_step samples (in_frame m d) 0 ≡ faulty Quiet m
    later-quiet t = in_frame-step m d 0 first ∙ sampling.later-quiet (sample_at samples m) d t m

    -- a digit: 1 as mark
    pub digit-mark : (top : ℕ) → sample_at samples m ≡ Digit top
        → frame_step samples (in_frame m d) 1 ≡ goes_on m (d / 2 + top)
    unfolding sampled
    digit-mark top e = by (Digit top) 1 e

    pub digit-space : (top : ℕ) → sample_at samples m ≡ Digit top
        → frame_step samples (in_frame m d) 2 ≡ goes_on m (d / 2 + 0)
    unfolding sampled
    digit-space top e = by (Digit top) 2 e

    -- odd parity gives a fault of its own; even parity goes on
    pub parity-odd : (x : ℕ) → sample_at samples m ≡ Parity → (x ≡ 0 → ⊥) → (parity_of d ≡ parity_heard x → ⊥)
        → frame_step samples (in_frame m d) x ≡ faulty OddParity m
    unfolding sampled
    parity-odd x e n h = by Parity x e ∙ (rw (ne_eqb x 0 n, ne_eqb (parity_of d) (parity_heard x) h) refl)

    pub parity-even : (x : ℕ) → sample_at samples m ≡ Parity → (x ≡ 0 → ⊥) → parity_of d ≡ parity_heard x
        → frame_step samples (in_frame m d) x ≡ goes_on m d
    unfolding sampled
    parity-even x e n h = by Parity x e ∙ (rw (ne_eqb x 0 n, eq-eqb (parity_of d) (parity_heard x) h) refl)

    -- a stop that is neither mark nor quiet gives a fault of its own, the first and the last
    pub stop-other : (x : ℕ) → sample_at samples m ≡ Stop → (x ≡ 0 → ⊥) → (x ≡ 1 → ⊥)
        → frame_step samples (in_frame m d) x ≡ faulty StopNotMark m
    unfolding sampled
    stop-other x e n h = by Stop x e ∙ (rw (ne_eqb x 0 n, ne_eqb x 1 h) refl)

    pub stop-mark : sample_at samples m ≡ Stop → frame_step samples (in_frame m d) 1 ≡ goes_on m d
    unfolding sampled
    stop-mark e = by Stop 1 e

    pub last-other : (x : ℕ) → sample_at samples m ≡ Last → (x ≡ 0 → ⊥) → (x ≡ 1 → ⊥)
        → frame_step samples (in_frame m d) x ≡ faulty StopNotMark m
    unfolding sampled
    last-other x e n h = by Last x e ∙ (rw (ne_eqb x 0 n, ne_eqb x 1 h) refl)

    -- after the last good sample the reader hunts again
    pub last-mark : sample_at samples m ≡ Last
        → frame_step samples (in_frame m d) 1 ≡ gives hunting (Code (record { 0 = d }))
    unfolding sampled
    last-mark e = by Last 1 e
