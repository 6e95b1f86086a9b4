-- Frames: ms that end in nothing.
use mathlib.Core.Path.{◌≡◌, ◌∙◌, refl, sym, ap, subst}
use mathlib.Core.Bool.{Bool, true, false, cond}
use mathlib.Core.List.{List}
use Prim.Native.Nat.{ℕ, zero, suc, ◌+◌, ◌-◌, ◌≤◌, ◌<◌}
use native.Mathlib.Omega.{arith}
use lib.Dec.{eqb}
use lib.ListN.{length, get_or}
use borrow.Author.Tests.{ne_eqb}
use Rattle.lists.specs.code.Places.{Until, Through}
use Rattle.lists.proofs.Passing as passing
use Rattle.lists.proofs.Passing.{Silent}
use Rattle.alphabet.specs.declared.Mode.{Mode}
use Rattle.frames.specs.declared.Frame.{Frame}
use Rattle.frames.specs.declared.FrameRead.{FrameRead}
use Rattle.frames.specs.declared.Found.TheVariants.{Nothing as nothing}
use Rattle.frames.specs.Samples.{Sample, None, Placed, sample_at, samples_of}
use Rattle.frames.specs.Frames.{gives, sampled, frame_step, frame_next, frame_found}
use Rattle.frames.specs.code.Bounds.{Framed, FrameOf, is_found}
use Rattle.frames.proofs.Range.{digits-128, next-in, in_frame-step}
use Rattle.frames.specs.declared.samples.Effect.{Effect}
use Rattle.frames.specs.declared.samples.Effect.TheVariants.{On, Hunts, Breaks, Ends}
use Rattle.frames.specs.code.Samples.{number_at, sample_ms, kind_of, done_by, Does}
use Rattle.std.specs.Prelude.{Option, None, Some, MatchOption}
use Rattle.frames_runs.specs.declared.Walk.{Walk}
use Rattle.frames_runs.specs.declared.Stop.{Stop}
use Rattle.frames_runs.specs.code.Passing.{frame_at, FramePasses, FrameWalks, place_after, Stays}
use Rattle.frames_runs.specs.code.Walking.{frame_of, Gains, Stopped, StopsBy, Stops}
use Rattle.frames_runs.proofs.Walking.{walks-none, walks-one, walks-chain, walks-to}
use Rattle.frames_runs.proofs.Numbered.{next_of, number-next, ms-grows, ms-few}

-- ---- hunting and waiting: the place stays

module _ (heard : List ℕ) (place i to : ℕ) where
  pub hunts_stay : place ≡ 0 → Until heard i (length heard) 2 to → Stays heard place i to
  unfolding place_after
  hunts_stay e u = record {
    low = u.low;
    high = u.high;
    stays = λ (k : ℕ) (l : i ≤ k) (m : k < to). rw (ne_eqb (get_or heard k 0) 2 (u.others k l m)) (sym e);
  }

  pub waits_stay : place ≡ 1 → Through heard i (length heard) 2 to → Stays heard place i to
  unfolding place_after
  waits_stay e u = record {
    low = u.low;
    high = u.high;
    stays = λ (k : ℕ) (l : i ≤ k) (m : k < to). rw (u.same k l m, e) refl;
  }

either-place : (b : Bool) (p : ℕ)
    → gives (cond b (frame_at p 0) (frame_at 0 0)) nothing ≡ gives (frame_at (cond b p 0) 0) nothing
either-place true p = refl
either-place false p = refl

module _ (mode : Mode) (framed : Framed mode) (heard : List ℕ) where
  abbrev samples : List Placed
  samples = samples_of mode

  abbrev step : Frame → ℕ → FrameRead
  step f x = frame_step samples f x

  keeps : (i : ℕ) → i < length heard → (f : Frame) → FrameOf mode f
      → FrameOf mode (frame_next samples f (get_or heard i 0))
  keeps i l f h = next-in mode framed f (get_or heard i 0) h

  -- a ms that leaves the frame at g and finds nothing
  silent : (f g : Frame) (x : ℕ) → step f x ≡ gives g nothing
      → Silent (frame_next samples) (frame_found samples) is_found f x g
  silent f g x e = record {
    next = ap (λ (r : FrameRead). r.frame) e;
    nothing = ap (λ (r : FrameRead). is_found r.found) e;
  }

  pub pass-none : (f : Frame) (i : ℕ) → FrameOf mode f → i ≤ length heard → FramePasses mode heard f i f i
  pass-none = passing.pass-none (frame_next samples) (frame_found samples) is_found (FrameOf mode) heard keeps

  pass-one : (f g : Frame) (i : ℕ) → FrameOf mode f → i < length heard → step f (get_or heard i 0) ≡ gives g nothing
      → FramePasses mode heard f i g (i + 1)
  pass-one f g i h l e =
      passing.pass-one (frame_next samples) (frame_found samples) is_found (FrameOf mode) heard keeps f g i h l
      (silent f g (get_or heard i 0) e)

  pub pass-chain : (f g k : Frame) (i j to : ℕ) → FramePasses mode heard f i g j → FramePasses mode heard g j k to
      → FramePasses mode heard f i k to
  pass-chain = passing.pass-chain (frame_next samples) (frame_found samples) is_found (FrameOf mode) heard keeps

  -- the frame is f k after k ms
  pass-to : (f : ℕ → Frame) (i to : ℕ) → FrameOf mode (f 0) → i ≤ to → to ≤ length heard
      → ((k : ℕ) → k < to - i → step (f k) (get_or heard (i + k) 0) ≡ gives (f (suc k)) nothing)
      → FramePasses mode heard (f 0) i (f (to - i)) to
  pass-to f i to h l m s =
      passing.pass-to (frame_next samples) (frame_found samples) is_found (FrameOf mode) heard keeps f i to h l m
      (λ (k : ℕ) (g : k < to - i). silent (f k) (f (suc k)) (get_or heard (i + k) 0) (s k g))

  -- a frame that goes through the next ms as another
  pass_same : (f g : Frame) (i : ℕ) → FrameOf mode g → i < length heard
      → step g (get_or heard i 0) ≡ step f (get_or heard i 0) → FramePasses mode heard f i g i
  pass_same f g i h l e =
      passing.pass_same (frame_next samples) (frame_found samples) is_found (FrameOf mode) heard keeps f g i h l
      (ap (λ (r : FrameRead). r.frame) e) (ap (λ (r : FrameRead). r.found) e)

  -- ---- hunting and waiting

  alike-step : (place digits x : ℕ) → place ≤ 1
      → step (frame_at place digits) x ≡ gives (frame_at (place_after place x) 0) nothing
  unfolding frame_step place_after
  alike-step zero digits x h = either-place (eqb x 2) 2
  alike-step (suc zero) digits x h = either-place (eqb x 2) 1
  alike-step (suc (suc place)) digits x h = absurd (omega arith)

  pub alike-passes : (place digits i to : ℕ) → FrameOf mode (frame_at place digits) → place ≤ 1 → i < length heard
      → Stays heard place i to
      → FramePasses mode heard (frame_at place digits) i (frame_at place 0) to
  alike-passes place digits i to h l m s =
      let d = h.digits_in in
      let x = get_or heard i 0 in
      let none : FrameOf mode (frame_at place 0) = record { place_in = h.place_in; digits_in = omega arith } in
      pass-chain _ _ _ i i to
      (pass_same _ _ i none m (alike-step place 0 x l ∙ sym (alike-step place digits x l)))
      (pass-to (λ (k : ℕ). frame_at place 0) i to none s.low s.high
      (λ (k : ℕ) (g : k < to - i). alike-step place 0 (get_or heard (i + k) 0) l
      ∙ ap (λ (p : ℕ). gives (frame_at p 0) nothing) (s.stays (i + k) (omega arith) (omega arith))))

  pub alike_next : (place digits i at : ℕ) → FrameOf mode (frame_at place digits) → place ≤ 1 → i < length heard
      → Stays heard place i at → at < length heard
      → (p : ℕ) → p ≡ place_after place (get_or heard at 0)
      → FramePasses mode heard (frame_at place digits) i (frame_at p 0) (at + 1)
  alike_next place digits i at h l m s a p e =
      let b = alike-passes place digits i at h l m s in
      pass-chain _ _ _ i at (at + 1) b
      (pass-one _ _ at b.ranged a
      (alike-step place 0 (get_or heard at 0) l ∙ ap (λ (n : ℕ). gives (frame_at n 0) nothing) (sym e)))

  -- every ms on its way, if the digits are 0 as they are to be
  alike-walks : (place i to : ℕ) → place ≤ 1 → Stays heard place i to
      → FrameWalks mode heard (frame_at place 0) i (frame_at place 0) to
  alike-walks place i to l s =
      walks-to samples heard (λ (k : ℕ). frame_at place 0) i to s.low s.high
      (λ (k : ℕ) (g : k < to - i). alike-step place 0 (get_or heard (i + k) 0) l
      ∙ ap (λ (p : ℕ). gives (frame_at p 0) nothing) (s.stays (i + k) (omega arith) (omega arith)))

  alike-walks-next : (place i at : ℕ) → place ≤ 1 → Stays heard place i at → at < length heard
      → (p : ℕ) → p ≡ place_after place (get_or heard at 0)
      → FrameWalks mode heard (frame_at place 0) i (frame_at p 0) (at + 1)
  alike-walks-next place i at l s a p e =
      walks-chain samples heard _ _ _ i at (at + 1) s.low (omega arith) (alike-walks place i at l s)
      (walks-one samples heard _ _ at a
      (alike-step place 0 (get_or heard at 0) l ∙ ap (λ (n : ℕ). gives (frame_at n 0) nothing) (sym e)))

  -- with digits that are 0 outside a frame
  pub alike-walks-as : (place digits i to : ℕ) → (place ≤ 1 → digits ≡ 0) → place ≤ 1 → Stays heard place i to
      → FrameWalks mode heard (frame_at place digits) i (frame_at place 0) to
  alike-walks-as place digits i to d l s = rw (d l) (alike-walks place i to l s)

  pub alike-walks-next-as : (place digits i at : ℕ) → (place ≤ 1 → digits ≡ 0) → place ≤ 1 → Stays heard place i at
      → at < length heard → (p : ℕ) → p ≡ place_after place (get_or heard at 0)
      → FrameWalks mode heard (frame_at place digits) i (frame_at p 0) (at + 1)
  alike-walks-next-as place digits i at d l s a p e = rw (d l) (alike-walks-next place i at l s a p e)

-- ---- in a frame

module _ (mode : Mode) where
  -- without a sample on it
  none-step : (place digits k x : ℕ) → 2 ≤ place → sample_at (samples_of mode) (place - 1 + k) ≡ None
      → frame_step (samples_of mode) (frame_at (place + k) digits) x ≡ gives (frame_at (place + suc k) digits) nothing
  unfolding sampled
  none-step place digits k x l e =
      let m = place + k - 1 in
      let z : m ≡ place - 1 + k = omega arith in
      let y : m + 1 + 1 ≡ place + suc k = omega arith in
      in_frame-step (samples_of mode) (frame_at (place + k) digits) x (omega arith)
      ∙ ap (λ (a : Sample). sampled a m digits x) (ap (sample_at (samples_of mode)) z ∙ e)
      ∙ ap (λ (n : ℕ). gives (frame_at n digits) nothing) y

-- Before the sample number j, on ms s of the frame and at a place of the list; or at its end, if it ends before that.
pub record Ahead (mode : Mode) (heard : List ℕ) (f : Frame) (i j s at digits : ℕ) : Type 0 where
  pub ms : s ≡ sample_ms mode j
  pub number : j < length (samples_of mode)
  pub few : j ≤ 10
  pub grows : s < sample_ms mode (j + 1)
  pub next-high : sample_ms mode (j + 1) ≤ 254
  pub low : 1 ≤ s
  pub high : s ≤ 254
  pub from : i ≤ at
  pub far : at ≤ length heard + s
  pub digits_in : digits < 128
  pub passes : FramePasses mode heard f i (frame_at (s + 1 - (at - length heard)) digits) (at - (at - length heard))
  pub walks : FrameWalks mode heard f i (frame_at (s + 1 - (at - length heard)) digits) (at - (at - length heard))

module _ (mode : Mode) (framed : Framed mode) (heard : List ℕ) (f : Frame) (h : FrameOf mode f) (i : ℕ) where
  none_passes : (place digits t to : ℕ) → FrameOf mode (frame_at place digits) → 2 ≤ place → t ≤ to → to ≤ length heard
      → ((k : ℕ) → k < to - t → sample_at (samples_of mode) (place - 1 + k) ≡ None)
      → FramePasses mode heard (frame_at place digits) t (frame_at (place + (to - t)) digits) to
  none_passes place digits t to h l a b none =
      let z : place + 0 ≡ place = omega arith in
      rw z at (pass-to mode framed heard (λ (k : ℕ). frame_at (place + k) digits) t to (rw z h) a b
      (λ (k : ℕ) (g : k < to - t). none-step mode place digits k (get_or heard (t + k) 0) l (none k g)))

  none-walks : (place digits t to : ℕ) → 2 ≤ place → t ≤ to → to ≤ length heard
      → ((k : ℕ) → k < to - t → sample_at (samples_of mode) (place - 1 + k) ≡ None)
      → FrameWalks mode heard (frame_at place digits) t (frame_at (place + (to - t)) digits) to
  none-walks place digits t to l a b none =
      let z : place + 0 ≡ place = omega arith in
      rw z at (walks-to (samples_of mode) heard (λ (k : ℕ). frame_at (place + k) digits) t to a b
      (λ (k : ℕ) (g : k < to - t). none-step mode place digits k (get_or heard (t + k) 0) l (none k g)))

  -- from a place in a frame up to its next sample
  ahead : (place digits t : ℕ) → FramePasses mode heard f i (frame_at place digits) t
      → FrameWalks mode heard f i (frame_at place digits) t → 2 ≤ place
      → (j s at : ℕ) → j ≡ number_at mode (place - 1) → s ≡ sample_ms mode j → at ≡ t + (s - (place - 1))
      → Ahead mode heard f i j s at digits
  ahead place digits t p w l j s at ej es ea =
      let low = p.low in
      let high = p.high in
      let g = p.ranged in
      let n = next_of mode place digits g l j s ej es in
      let behind = n.low in
      let few = n.few in
      let grows = ms-grows mode j in
      let to = at - (at - length heard) in
      let z : place + (to - t) ≡ s + 1 - (at - length heard) = omega arith in
      let none : (k : ℕ) → k < to - t → sample_at (samples_of mode) (place - 1 + k) ≡ None
      = λ (k : ℕ) (e : k < to - t). n.none k (omega arith) in
      let b = none_passes place digits t to g l (omega arith) (omega arith) none in
      let v = none-walks place digits t to l (omega arith) (omega arith) none in
      record {
        ms = es;
        number = n.number;
        few = few;
        grows = omega arith;
        next-high = ms-few mode (j + 1) (omega arith);
        low = omega arith;
        high = n.high;
        from = omega arith;
        far = omega arith;
        digits_in = digits-128 mode _ g;
        passes = pass-chain mode framed heard _ _ _ i t to p (rw z at b);
        walks = walks-chain (samples_of mode) heard _ _ _ i t to low (omega arith) w (rw z at v);
      }

  pub ahead-start : (place digits : ℕ) → f ≡ frame_at place digits → 2 ≤ place → i ≤ length heard
      → (j s : ℕ) → j ≡ number_at mode (place - 1) → s ≡ sample_ms mode j
      → Ahead mode heard f i j s (i + (s - (place - 1))) digits
  ahead-start place digits e l m j s ej es =
      ahead place digits i (rw (← e) (pass-none mode framed heard f i h m))
      (rw (← e) (walks-none (samples_of mode) heard f i)) l j s _ ej es refl

  module _ (j s at digits : ℕ) (a : Ahead mode heard f i j s at digits) where
    module _ (l : at < length heard) where
      abbrev x : ℕ
      x = get_or heard at 0

      pub ahead-here : FramePasses mode heard f i (frame_at (s + 1) digits) at
      ahead-here =
          let z : s + 1 - (at - length heard) ≡ s + 1 = omega arith in
          let y : at - (at - length heard) ≡ at = omega arith in
          rw (z, y) at a.passes

      pub ahead-here-walks : FrameWalks mode heard f i (frame_at (s + 1) digits) at
      ahead-here-walks =
          let z : s + 1 - (at - length heard) ≡ s + 1 = omega arith in
          let y : at - (at - length heard) ≡ at = omega arith in
          rw (z, y) at a.walks

      pub sample-step : frame_step (samples_of mode) (frame_at (s + 1) digits) x ≡ sampled (kind_of mode j) s digits x
      sample-step =
          let low = a.low in
          let z : s + 1 - 1 ≡ s = omega arith in
          in_frame-step (samples_of mode) (frame_at (s + 1) digits) x (omega arith)
          ∙ ap (λ (m : ℕ). sampled (sample_at (samples_of mode) m) m digits x) z
          ∙ ap (λ (m : ℕ). sampled (sample_at (samples_of mode) m) s digits x) a.ms

      sample-passes : (g : Frame) → sampled (kind_of mode j) s digits x ≡ gives g nothing
          → FramePasses mode heard f i g (at + 1)
      sample-passes g e =
          pass-chain mode framed heard _ _ _ i at (at + 1) ahead-here
          (pass-one mode framed heard _ g at ahead-here.ranged l (sample-step ∙ e))

      sample-walks : (g : Frame) → sampled (kind_of mode j) s digits x ≡ gives g nothing
          → FrameWalks mode heard f i g (at + 1)
      sample-walks g e =
          walks-chain (samples_of mode) heard _ _ _ i at (at + 1) a.from (omega arith) ahead-here-walks
          (walks-one (samples_of mode) heard _ g at l (sample-step ∙ e))

      pub ahead-turn : (after : ℕ) → Does (kind_of mode j) digits x (On after)
          → (k next to : ℕ) → k ≡ j + 1 → next ≡ sample_ms mode k → to ≡ at + (next - s)
          → Ahead mode heard f i k next to after
      ahead-turn after e k next to ek en et =
          let low = a.low in
          let ms = a.ms in
          let grows = ms-grows mode j in
          let z : sample_ms mode j + 1 ≡ s + 1 + 1 - 1 = omega arith in
          let y : next ≡ sample_ms mode (j + 1) = en ∙ ap (sample_ms mode) ek in
          let g = frame_at (s + 1 + 1) after in
          ahead (s + 1 + 1) after (at + 1) (sample-passes g (e s)) (sample-walks g (e s)) (omega arith) k next to
          (ek ∙ sym (number-next mode j) ∙ ap (number_at mode) z) en (omega arith)

-- ---- where the walk ends

-- what does not let a frame go on
pub stopped : (e : Effect) → ((d : ℕ) → e ≡ On d → ⊥) → Stopped e
stopped (On d) p = absurd (p d refl)
stopped Hunts p = tt
stopped (Breaks cause) p = tt
stopped Ends p = tt

module _ (mode : Mode) (framed : Framed mode) (heard : List ℕ) (w : Walk) (h : FrameOf mode (frame_of w))
    (j s at digits : ℕ) (a : Ahead mode heard (frame_of w) w.to j s at digits) where
  pub stops-here : at < length heard → (e : Effect) → Does (kind_of mode j) digits (get_or heard at 0) e
      → ((d : ℕ) → e ≡ On d → ⊥)
      → Stops mode heard w (record { walk = record { place = s + 1; digits = digits; to = at }; effect = Some e })
  stops-here l e does n = record {
    passes = ahead-here mode framed heard (frame_of w) h w.to j s at digits a l;
    walks = ahead-here-walks mode framed heard (frame_of w) h w.to j s at digits a l;
    stops = record {
      inside = l;
      stopped = stopped e n;
      step = let z : s ≡ s + 1 - 1 = omega arith in
          sample-step mode framed heard (frame_of w) h w.to j s at digits a l ∙ does s
          ∙ ap (λ (m : ℕ). done_by e m digits) z;
    };
  }

-- past a start that is not space
pub hunts-on : (mode : Mode) → Framed mode → (heard : List ℕ) (w : Walk) (s : Stop) → Stops mode heard w s
    → s.effect ≡ Some Hunts → Gains mode heard w (record { place = 0; digits = 0; to = s.walk.to + 1 })
hunts-on mode framed heard w s p e =
    let b = subst (λ (o : Option Effect).
    MatchOption o (s.walk.to ≡ length heard) (λ e. StopsBy mode heard s.walk e)) e p.stops in
    let low = p.passes.low in
    record {
      passes = pass-chain mode framed heard _ _ _ w.to s.walk.to (s.walk.to + 1) p.passes
          (pass-one mode framed heard _ _ s.walk.to p.passes.ranged b.inside b.step);
      further = omega arith;
    }
