-- A frame in range: what question 1 says in facts, and that every step keeps it.
use mathlib.Core.Path.{◌≡◌, ◌∙◌, refl, sym, ap, subst}
use mathlib.Core.Bool.{Bool, true, false, cond}
use mathlib.Core.List.{List}
use Prim.Native.Nat.{ℕ, ◌+◌, ◌-◌, ◌*◌, ◌/◌, ◌<◌, ◌≤◌}
use native.Mathlib.Omega.{arith}
use lib.Dec.{eqb, leb, ltb}
use lib.ListN.{length}
use borrow.Author.Tests.{eqb-true, eqb-false, ne_eqb, leb-true, ltb-true, le-leb, lt-ltb}
use Rattle.lists.proofs.Lists.{either, and_left, and_right}
use Rattle.lists.proofs.Tables.{is_true}
use Rattle.alphabet.specs.declared.Mode.{Mode}
use Rattle.alphabet.specs.declared.Mode.TheVariants.{Baudot45, Baudot50, Dtmf, Edt}
use Rattle.signal.specs.Signal.{parity_of}
use Rattle.frames.specs.declared.Cause.{Cause}
use Rattle.frames.specs.declared.Cause.TheVariants.{Quiet, StopNotMark, OddParity}
use Rattle.frames.specs.declared.Frame.{Frame}
use Rattle.frames.specs.declared.Found.TheVariants.{Nothing, Code}
use Rattle.frames.specs.declared.FrameRead.{FrameRead}
use Rattle.frames.specs.code.Bounds.{FrameIn, FrameOf, Framed, FoundIn}
use Rattle.frames.specs.Samples.{Sample, None, Start, Digit, Parity, Stop, Last, Placed, placed, sample_at, samples_of, baudot_kinds, baudot_place, baudot_samples, edt_kinds, edt_place, edt_samples}
use Rattle.frames.specs.Frames.{in_frame, hunting, waiting, gives, goes_on, faulty, unless_quiet, parity_heard, with_digit, sampled, frame_step}
use Rattle.alphabet.specs.Modes.{frame_codes}
use Rattle.alphabet.specs.code.Numbers.{last_sample}
use Rattle.frames.specs.Range.{last_ms, frame_in}
use Rattle.frames.specs.code.Samples.{number_at}
use Rattle.frames.proofs.Sampling.{all_kinds, kinds-pass, baudot-on}

-- the constant of a mode is the ms of its last sample
pub last-is : (mode : Mode) → last_sample mode ≡ last_ms (samples_of mode)
unfolding samples_of last_ms placed baudot_kinds edt_kinds
last-is Baudot45 = refl
last-is Baudot50 = refl
last-is Dtmf = refl
last-is Edt = refl

pub last-few : (mode : Mode) → last_ms (samples_of mode) ≤ 143
unfolding samples_of last_ms placed baudot_kinds edt_kinds
last-few Baudot45 = omega arith
last-few Baudot50 = omega arith
last-few Dtmf = omega arith
last-few Edt = omega arith

-- question 1 in facts, and back
pub frame-in : (mode : Mode) (f : Frame) → frame_in mode f ≡ true → FrameOf mode f
frame-in mode f e =
    let last = last_ms (samples_of mode) in
    let p = leb f.place (last + 1) in
    let d = ltb f.digits (frame_codes mode) in
    record {
      place_in = leb-true f.place (last + 1) (and_left p d e);
      digits_in = ltb-true f.digits (frame_codes mode) (and_right p d e);
    }

pub frame_is : (mode : Mode) (f : Frame) → FrameOf mode f → frame_in mode f ≡ true
frame_is mode f h =
    rw (
      le-leb f.place (last_ms (samples_of mode) + 1) h.place_in,
      lt-ltb f.digits (frame_codes mode) h.digits_in,
    ) refl

pub digits-128 : (mode : Mode) (f : Frame) → FrameOf mode f → f.digits < 128
digits-128 Baudot45 f h = let d = h.digits_in in omega arith
digits-128 Baudot50 f h = let d = h.digits_in in omega arith
digits-128 Dtmf f h = let d = h.digits_in in omega arith
digits-128 Edt f h = h.digits_in

pub place-255 : (mode : Mode) (f : Frame) → FrameOf mode f → f.place < 255
place-255 mode f h =
    let p = h.place_in in
    let l = last-few mode in
    omega arith

-- what holds of both faults and of a good sample holds of one that is tested
pub tested : (P : FrameRead → Type 0) (m heard : ℕ) (test : Bool) (good : FrameRead) (cause : Cause)
    → P (faulty Quiet m) → P (faulty cause m) → P good → P (unless_quiet m heard (cond test good (faulty cause m)))
tested P m heard test good cause q f g =
    either P (eqb heard 0) (faulty Quiet m) (cond test good (faulty cause m)) q
    (either P test good (faulty cause m) g f)

-- a code that is found has the digits of its frame
module _ (n : ℕ) where
  abbrev Codes : FrameRead → Type 0
  Codes r = FoundIn n r.found

  sampled-in : (k : Sample) (m digits heard : ℕ) → digits < n → Codes (sampled k m digits heard)
  unfolding sampled
  sampled-in None m digits heard h = tt
  sampled-in Start m digits heard h = either Codes (eqb heard 2) (goes_on m digits) (gives hunting Nothing) tt tt
  sampled-in (Digit top) m digits heard h =
      either Codes (eqb heard 0) (faulty Quiet m) (goes_on m (with_digit top digits heard)) tt tt
  sampled-in Parity m digits heard h =
      tested Codes m heard (eqb (parity_of digits) (parity_heard heard)) (goes_on m digits) OddParity tt tt tt
  sampled-in Stop m digits heard h =
      tested Codes m heard (eqb heard 1) (goes_on m digits) StopNotMark tt tt tt
  sampled-in Last m digits heard h =
      tested Codes m heard (eqb heard 1) (gives hunting (Code (record { 0 = digits }))) StopNotMark tt tt h

  pub found_in : (samples : List Placed) (f : Frame) (heard : ℕ) → f.digits < n → Codes (frame_step samples f heard)
  unfolding frame_step
  found_in samples f heard h =
      let m = f.place - 1 in
      let s = sampled (sample_at samples m) m f.digits heard in
      let w = gives (cond (eqb heard 2) waiting hunting) Nothing in
      either Codes (eqb f.place 0) (gives (cond (eqb heard 2) (in_frame 1 0) hunting) Nothing)
      (cond (eqb f.place 1) w s) tt
      (either Codes (eqb f.place 1) w s tt (sampled-in (sample_at samples m) m f.digits heard h))

-- the weight of a digit's sample: half of n
abbrev weighs : ℕ → Sample → Bool
weighs n None = true
weighs n Start = true
weighs n (Digit top) = eqb (2 * top) n
weighs n Parity = true
weighs n Stop = true
weighs n Last = true

-- samples that keep a frame in range: below n digits, and at the last ms the last sample
module _ (samples : List Placed) (n : ℕ) (pos : 1 ≤ n) (weigh : (m : ℕ) → weighs n (sample_at samples m) ≡ true)
    (some : 1 ≤ last_ms samples) (end : sample_at samples (last_ms samples) ≡ Last) where
  abbrev In : Frame → Type 0
  In f = FrameIn (last_ms samples) n f

  abbrev Kept : FrameRead → Type 0
  Kept r = In r.frame

  hunting-in : In hunting
  hunting-in = record { place_in = omega arith; digits_in = pos }

  waiting-in : In waiting
  waiting-in = record { place_in = omega arith; digits_in = pos }

  on_in : (m digits : ℕ) → m < last_ms samples → digits < n → Kept (goes_on m digits)
  on_in m digits h d = record { place_in = omega arith; digits_in = d }

  digit-in : (top digits heard : ℕ) → 2 * top ≡ n → digits < n → with_digit top digits heard < n
  digit-in top digits heard w h = either (λ (x : ℕ). digits / 2 + x < n) (eqb heard 1) top 0 (omega arith) (omega arith)

  at_last : (m digits heard : ℕ) → Kept (sampled Last m digits heard)
  unfolding sampled
  at_last m digits heard =
      tested Kept m heard (eqb heard 1) (gives hunting (Code (record { 0 = digits }))) StopNotMark waiting-in waiting-in
      hunting-in

  -- ahead of the last ms
  ahead : (k : Sample) (m digits heard : ℕ) → weighs n k ≡ true → m < last_ms samples → digits < n
      → Kept (sampled k m digits heard)
  unfolding sampled
  ahead None m digits heard w h d = on_in m digits h d
  ahead Start m digits heard w h d =
      either Kept (eqb heard 2) (goes_on m digits) (gives hunting Nothing) (on_in m digits h d) hunting-in
  ahead (Digit top) m digits heard w h d =
      either Kept (eqb heard 0) (faulty Quiet m) (goes_on m (with_digit top digits heard)) waiting-in
      (on_in m (with_digit top digits heard) h (digit-in top digits heard (eqb-true (2 * top) n w) d))
  ahead Parity m digits heard w h d =
      tested Kept m heard (eqb (parity_of digits) (parity_heard heard)) (goes_on m digits) OddParity waiting-in
      waiting-in
      (on_in m digits h d)
  ahead Stop m digits heard w h d =
      tested Kept m heard (eqb heard 1) (goes_on m digits) StopNotMark waiting-in waiting-in (on_in m digits h d)
  ahead Last m digits heard w h d = at_last m digits heard

  pub step_in : (f : Frame) (heard : ℕ) → In f → Kept (frame_step samples f heard)
  unfolding frame_step
  step_in f heard h = go (eqb f.place 0) refl (eqb f.place 1) refl
    where
      later : (b : Bool) → eqb (f.place - 1) (last_ms samples) ≡ b → f.place - 1 ≤ last_ms samples
          → Kept (sampled (sample_at samples (f.place - 1)) (f.place - 1) f.digits heard)
      later true e l =
          let p = eqb-true (f.place - 1) (last_ms samples) e in
          rw (ap (sample_at samples) p ∙ end) (at_last (f.place - 1) f.digits heard)
      later false e l =
          let p = eqb-false (f.place - 1) (last_ms samples) e in
          ahead (sample_at samples (f.place - 1)) (f.place - 1) f.digits heard (weigh (f.place - 1)) (omega arith)
          h.digits_in

      go : (a : Bool) → eqb f.place 0 ≡ a → (b : Bool) → eqb f.place 1 ≡ b → Kept (frame_step samples f heard)
      go true e b g =
          rw e
          (either (λ (x : Frame). In x) (eqb heard 2) (in_frame 1 0) hunting
          (record { place_in = omega arith; digits_in = pos }) hunting-in)
      go false e true g = rw (e, g) (either (λ (x : Frame). In x) (eqb heard 2) waiting hunting waiting-in hunting-in)
      go false e false g =
          let z = eqb-false f.place 0 e in
          let p = h.place_in in
          rw (e, g) (later (eqb (f.place - 1) (last_ms samples)) refl (omega arith))

-- the samples of Baudot are such, for any element length from 2 on
weigh-baudot : (e m : ℕ) → weighs 32 (sample_at (baudot_samples e) m) ≡ true
unfolding baudot_kinds all_kinds
weigh-baudot e m = is_true _ (kinds-pass (weighs 32) tt (baudot_place e) baudot_kinds 0 m tt)

pub frame-baudot : (e : ℕ) → 2 ≤ e → (f : Frame) (heard : ℕ) → FrameIn (baudot_place e 6) 32 f
    → FrameIn (baudot_place e 6) 32 (frame_step (baudot_samples e) f heard).frame
unfolding last_ms placed baudot_kinds
frame-baudot e big f heard h =
    step_in (baudot_samples e) 32 (omega arith) (weigh-baudot e) (omega arith) (baudot-on e (omega arith) 6) f heard h

-- those of EDT too
weigh-edt : (m : ℕ) → weighs 128 (sample_at edt_samples m) ≡ true
unfolding edt_kinds all_kinds
weigh-edt m = is_true _ (kinds-pass (weighs 128) tt edt_place edt_kinds 0 m tt)

-- one ms keeps the frame of a mode in range
pub next-in : (mode : Mode) → Framed mode → (f : Frame) (heard : ℕ) → FrameOf mode f
    → FrameOf mode (frame_step (samples_of mode) f heard).frame
unfolding samples_of last_ms placed baudot_kinds edt_kinds sample_at
next-in Baudot45 t f heard h = frame-baudot 22 (omega arith) f heard h
next-in Baudot50 t f heard h = frame-baudot 20 (omega arith) f heard h
next-in Dtmf t f heard h = absurd t
next-in Edt t f heard h = step_in edt_samples 128 (omega arith) weigh-edt (omega arith) refl f heard h

-- ---- in a frame

pub place-on : (p : ℕ) → 1 ≤ p → p + 1 ≡ p - 1 + 1 + 1
place-on p h = omega arith

pub in_frame-step : (samples : List Placed) (f : Frame) (heard : ℕ) → 2 ≤ f.place
    → frame_step samples f heard ≡ sampled (sample_at samples (f.place - 1)) (f.place - 1) f.digits heard
unfolding frame_step
in_frame-step samples f heard h =
    rw (ne_eqb f.place 0 (λ e. omega arith), ne_eqb f.place 1 (λ e. omega arith)) refl

-- on a ms without a sample
pub in-frame-none : (samples : List Placed) (f : Frame) (heard : ℕ) → 2 ≤ f.place
    → sample_at samples (f.place - 1) ≡ None
    → frame_step samples f heard ≡ gives (record { place = f.place + 1; digits = f.digits }) Nothing
unfolding sampled
in-frame-none samples f heard h e =
    in_frame-step samples f heard h
    ∙ ap (λ (k : Sample). sampled k (f.place - 1) f.digits heard) e
    ∙ ap (λ (p : ℕ). gives (record { place = p; digits = f.digits }) Nothing) (sym (place-on f.place (omega arith)))

-- the next sample is one of the mode's
pub number_in : (mode : Mode) (m : ℕ) → 1 ≤ m → m ≤ last_ms (samples_of mode)
    → number_at mode m < length (samples_of mode)
unfolding number_at last_ms samples_of placed baudot_kinds edt_kinds
number_in Baudot45 m o h = omega arith
number_in Baudot50 m o h = omega arith
number_in Dtmf m o h = omega arith
number_in Edt m o h = omega arith

pub framed-in : (mode : Mode) (f : Frame) → FrameOf mode f → 2 ≤ f.place → Framed mode
unfolding samples_of last_ms
framed-in Baudot45 f h l = tt
framed-in Baudot50 f h l = tt
framed-in Dtmf f h l = let p = h.place_in in omega arith
framed-in Edt f h l = tt

-- a sample keeps the digits few
pub digits-few : (mode : Mode) (f : Frame) (heard : ℕ) → FrameOf mode f → 2 ≤ f.place
    → (sampled (sample_at (samples_of mode) (f.place - 1)) (f.place - 1) f.digits heard).frame.digits < 128
digits-few mode f heard h l =
    subst (λ (r : FrameRead). r.frame.digits < 128) (in_frame-step (samples_of mode) f heard l)
    (digits-128 mode _ (next-in mode (framed-in mode f h l) f heard h))
