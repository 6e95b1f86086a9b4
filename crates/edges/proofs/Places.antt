-- The place of a reader of frames after a ms: a frame begins at place 2, goes on by one place, or ends at place 0 or 1.
use mathlib.Core.Path.{◌≡◌, refl}
use mathlib.Core.Bool.{true}
use mathlib.Core.List.{List}
use mathlib.Core.Logic.{◌⊎◌, inl, inr}
use Prim.Native.Nat.{ℕ, ◌+◌, ◌-◌, ◌≤◌}
use native.Mathlib.Omega.{arith}
use lib.Dec.{eqb, leb}
use borrow.Author.Tests.{eqb-true, eqb-false, leb-true}
use Rattle.lists.proofs.Lists.{either, either-by}
use Rattle.signal.specs.Signal.{parity_of}
use Rattle.frames.specs.declared.Cause.TheVariants.{Quiet, StopNotMark, OddParity}
use Rattle.frames.specs.declared.Frame.{Frame}
use Rattle.frames.specs.declared.Found.TheVariants.{Nothing, Code}
use Rattle.frames.specs.declared.FrameRead.{FrameRead}
use Rattle.frames.specs.Samples.{Sample, None, Start, Digit, Parity, Stop, Last, Placed, sample_at}
use Rattle.frames.specs.Frames.{in_frame, hunting, waiting, gives, goes_on, faulty, parity_heard, with_digit, sampled, frame_step, frame_next}
use Rattle.frames.proofs.Range.{tested}

-- from place p to place q, if q is in a frame
abbrev pub NextPlace : ℕ → ℕ → Type 0
NextPlace p q = leb 2 q ≡ true → ((p ≡ 0) × (q ≡ 2)) ⊎ ((2 ≤ p) × (q ≡ p + 1))

outside : (p q : ℕ) → q ≤ 1 → NextPlace p q
outside p q h e = let l = leb-true 2 q e in absurd (omega arith)

on : (p : ℕ) → 2 ≤ p → NextPlace p (p - 1 + 1 + 1)
on p h e = inr (h, omega arith)

abbrev From : ℕ → FrameRead → Type 0
From p r = NextPlace p r.frame.place

-- a sample in a frame
module _ (p digits heard : ℕ) (h : 2 ≤ p) where
  to-hunting : NextPlace p 0
  to-hunting = outside p 0 (omega arith)

  to-waiting : NextPlace p 1
  to-waiting = outside p 1 (omega arith)

  sampled-place : (k : Sample) → From p (sampled k (p - 1) digits heard)
  unfolding sampled
  sampled-place None = on p h
  sampled-place Start =
      either (From p) (eqb heard 2) (goes_on (p - 1) digits) (gives hunting Nothing) (on p h) to-hunting
  sampled-place (Digit top) =
      either (From p) (eqb heard 0) (faulty Quiet (p - 1)) (goes_on (p - 1) (with_digit top digits heard)) to-waiting
      (on p h)
  sampled-place Parity =
      tested (From p) (p - 1) heard (eqb (parity_of digits) (parity_heard heard)) (goes_on (p - 1) digits) OddParity
      to-waiting to-waiting (on p h)
  sampled-place Stop =
      tested (From p) (p - 1) heard (eqb heard 1) (goes_on (p - 1) digits) StopNotMark to-waiting to-waiting (on p h)
  sampled-place Last =
      tested (From p) (p - 1) heard (eqb heard 1) (gives hunting (Code (record { 0 = digits }))) StopNotMark
      to-waiting to-waiting to-hunting

pub next_place : (samples : List Placed) (f : Frame) (heard : ℕ) → leb 2 (frame_next samples f heard).place ≡ true
    → ((f.place ≡ 0) × ((frame_next samples f heard).place ≡ 2))
    ⊎ ((2 ≤ f.place) × ((frame_next samples f heard).place ≡ f.place + 1))
unfolding frame_step
next_place samples f heard =
    either-by (From f.place) (eqb f.place 0)
    (λ z.
    either (λ (g : Frame). NextPlace f.place g.place) (eqb heard 2) (in_frame 1 0) hunting
    (λ e. inl (eqb-true f.place 0 z, refl)) (outside f.place 0 (omega arith)))
    (λ z.
    either-by (From f.place) (eqb f.place 1)
    (λ o.
    either (λ (g : Frame). NextPlace f.place g.place) (eqb heard 2) waiting hunting
    (outside f.place 1 (omega arith)) (outside f.place 0 (omega arith)))
    (λ o.
    sampled-place f.place f.digits heard
    (two f.place (eqb-false f.place 0 z) (eqb-false f.place 1 o)) (sample_at samples (f.place - 1))))
  where
    two : (p : ℕ) → (p ≡ 0 → ⊥) → (p ≡ 1 → ⊥) → 2 ≤ p
    two p a b = omega (arith, a, b)
