-- The fault words of a mode: how they are made up, which they are, and that a reader of frames gives no other.
use mathlib.Core.Path.{◌≡◌, refl}
use mathlib.Core.Bool.{Bool, true, false, cond, ◌||◌}
use mathlib.Core.List.{List, [], ◌∷◌, ◌++◌}
use Prim.Native.Nat.{ℕ, ◌-◌}
use native.Mathlib.Omega.{arith}
use lib.Dec.{eqb}
use borrow.Author.Tests.{eqb-true, eq-eqb}
use Rattle.lists.proofs.Lists.{either, by-test}
use Rattle.alphabet.specs.declared.Mode.{Mode}
use Rattle.alphabet.specs.declared.Mode.TheVariants.{Baudot45, Baudot50, Dtmf, Edt}
use Rattle.signal.specs.Signal.{parity_of}
use Rattle.frames.specs.declared.Cause.{Cause}
use Rattle.frames.specs.declared.Cause.TheVariants.{Quiet, StopNotMark, OddParity}
use Rattle.frames.specs.declared.Frame.{Frame}
use Rattle.frames.specs.declared.Found.{Found}
use Rattle.frames.specs.declared.Found.TheVariants.{Nothing, Fault, Code}
use Rattle.frames.specs.declared.FrameRead.{FrameRead}
use Rattle.frames.specs.Samples.{Sample, None, Start, Digit, Parity, Stop, Last, Placed, placed, baudot_kinds, edt_kinds, samples_of, sample_at}
use Rattle.frames.specs.Frames.{in_frame, hunting, waiting, gives, goes_on, faulty, with_digit, parity_heard, sampled, frame_step}
use Rattle.frames.specs.code.Bounds.{Framed}
use Rattle.frames.proofs.Range.{tested}
use Rattle.reader.specs.Words.{fault_word}
use Rattle.reader.proofs.WordLists.{cause-few}
use Rattle.station_theorems.specs.Output.{causes_of, faults_at, faults_of, fault_words, is_one_of, FaultWords, FaultLayout}

-- ---- how they are made up, and which they are

pub fault-layout : FaultLayout
fault-layout c ms h =
    let few = cause-few c in
    record { kind = omega arith; told_ms = omega arith; zero = omega arith; cause = omega arith }

pub fault-words : FaultWords
unfolding fault_words faults_of faults_at samples_of placed baudot_kinds edt_kinds
fault-words = (refl, refl, refl, refl)

-- ---- one of several

pub or-second : (a : Bool) {b : Bool} → b ≡ true → (a || b) ≡ true
or-second true e = refl
or-second false e = e

or-either : (a : Bool) {b c : Bool} → (b ≡ true → c ≡ true) → (a || b) ≡ true → (a || c) ≡ true
or-either true f e = refl
or-either false f e = f e

one_left : (w : ℕ) (xs ys : List ℕ) → is_one_of w xs ≡ true → is_one_of w (xs ++ ys) ≡ true
unfolding is_one_of
one_left w [] ys e = cc
one_left w (x ∷ xs) ys e = or-either (eqb w x) (one_left w xs ys) e

one_right : (w : ℕ) (xs ys : List ℕ) → is_one_of w ys ≡ true → is_one_of w (xs ++ ys) ≡ true
unfolding is_one_of
one_right w [] ys e = e
one_right w (x ∷ xs) ys e = or-second (eqb w x) (one_right w xs ys e)

-- ---- the faults of a sample

-- those of the sample on a ms are among those of all samples
on-sample : (samples : List Placed) (m w : ℕ) → is_one_of w (faults_at m (causes_of (sample_at samples m))) ≡ true
    → is_one_of w (faults_of samples) ≡ true
unfolding sample_at faults_of faults_at
on-sample [] m w e = e
on-sample (s ∷ ss) m w e =
    let here = faults_at s.ms (causes_of s.kind) in
    by-test (eqb m s.ms)
    (λ b.
    let p = eqb-true m s.ms b in
    one_left w here (faults_of ss) (rw p at (rw b at e)))
    (λ b. one_right w here (faults_of ss) (on-sample ss m w (rw b at e)))

-- a fault that is found is one of those in the list
abbrev pub Among : List ℕ → Found → Type 0
Among ws Nothing = Unit {0}
Among ws (Fault c m) = is_one_of (fault_word c m) ws ≡ true
Among ws (Code k) = Unit {0}

module _ (m : ℕ) where
  abbrev Of : Sample → FrameRead → Type 0
  Of k r = Among (faults_at m (causes_of k)) r.found

  first : (c : Cause) (cs : List Cause) → is_one_of (fault_word c m) (faults_at m (c ∷ cs)) ≡ true
  unfolding faults_at is_one_of
  first c cs = rw (eq-eqb (fault_word c m) (fault_word c m) refl) refl

  second : (b c : Cause) (cs : List Cause) → is_one_of (fault_word c m) (faults_at m (b ∷ (c ∷ cs))) ≡ true
  unfolding faults_at is_one_of
  second b c cs = or-second (eqb (fault_word c m) (fault_word b m)) (first c cs)

  of-sample : (k : Sample) (digits heard : ℕ) → Of k (sampled k m digits heard)
  unfolding sampled
  of-sample None digits heard = tt
  of-sample Start digits heard = either (Of Start) (eqb heard 2) (goes_on m digits) (gives hunting Nothing) tt tt
  of-sample (Digit top) digits heard =
      either (Of (Digit top)) (eqb heard 0) (faulty Quiet m) (goes_on m (with_digit top digits heard)) (first Quiet [])
      tt
  of-sample Parity digits heard =
      tested (Of Parity) m heard (eqb (parity_of digits) (parity_heard heard)) (goes_on m digits) OddParity
      (first Quiet (OddParity ∷ [])) (second Quiet OddParity []) tt
  of-sample Stop digits heard =
      tested (Of Stop) m heard (eqb heard 1) (goes_on m digits) StopNotMark (first Quiet (StopNotMark ∷ []))
      (second Quiet StopNotMark []) tt
  of-sample Last digits heard =
      tested (Of Last) m heard (eqb heard 1) (gives hunting (Code (record { 0 = digits }))) StopNotMark
      (first Quiet (StopNotMark ∷ [])) (second Quiet StopNotMark []) tt

among-all : (samples : List Placed) (m : ℕ) (f : Found) → Among (faults_at m (causes_of (sample_at samples m))) f
    → Among (faults_of samples) f
among-all samples m Nothing h = tt
among-all samples m (Fault c n) h = on-sample samples m (fault_word c n) h
among-all samples m (Code k) h = tt

-- those of a ms
module _ (samples : List Placed) where
  abbrev Known : FrameRead → Type 0
  Known r = Among (faults_of samples) r.found

  pub step-faults : (f : Frame) (heard : ℕ) → Known (frame_step samples f heard)
  unfolding frame_step
  step-faults f heard =
      let m = f.place - 1 in
      let s = sampled (sample_at samples m) m f.digits heard in
      let w = gives (cond (eqb heard 2) waiting hunting) Nothing in
      either Known (eqb f.place 0) (gives (cond (eqb heard 2) (in_frame 1 0) hunting) Nothing)
      (cond (eqb f.place 1) w s) tt
      (either Known (eqb f.place 1) w s tt
      (among-all samples m s.found (of-sample m (sample_at samples m) f.digits heard)))

-- those of the samples of a mode
pub mode-faults : (mode : Mode) → Framed mode → faults_of (samples_of mode) ≡ fault_words mode
unfolding fault_words
mode-faults Baudot45 f = refl
mode-faults Baudot50 f = refl
mode-faults Dtmf f = absurd f
mode-faults Edt f = refl
