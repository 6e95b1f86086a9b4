-- Where a frame ends: from sample to sample, and from frame to frame.
use mathlib.Core.Path.{◌≡◌, ◌∙◌, refl, sym, ap, subst}
use mathlib.Core.List.{List}
use Prim.Native.Nat.{ℕ, ◌+◌, ◌-◌, ◌≤◌, ◌<◌}
use native.Mathlib.Omega.{arith}
use lib.ListN.{length, get_or}
use Rattle.alphabet.specs.declared.Mode.{Mode}
use Rattle.frames.specs.declared.Frame.{Frame}
use Rattle.frames.specs.declared.FrameRead.{FrameRead}
use Rattle.frames.specs.declared.samples.Effect.{Effect}
use Rattle.frames.specs.declared.samples.Effect.TheVariants.{On, Hunts, Breaks, Ends}
use Rattle.frames.specs.Samples.{samples_of}
use Rattle.frames.specs.code.Bounds.{Framed, FrameOf}
use Rattle.frames.specs.code.Samples.{done_by}
use Rattle.frames_runs.specs.code.Passing.{frame_at, place_after, Stays}
use Rattle.frames_runs.proofs.Walking.{walks-none, walks-chain}
use Rattle.std.specs.Prelude.{Option, None, Some, MatchOption}
use Rattle.frames_runs.specs.declared.Walk.{Walk}
use Rattle.frames_runs.specs.declared.Stop.{Stop}
use Rattle.frames_runs.specs.code.Walking.{frame_of, Stopped, StopsBy, Stops}
use Rattle.frames_runs.proofs.Framing.{alike_next, alike-walks-as, alike-walks-next-as}
use Rattle.edges.specs.Edges.{is_code}
use Rattle.edges_runs.specs.declared.Ended.{Ended}
use Rattle.edges_runs.specs.code.Counting.{Clean, Reached, place_behind, finds_code, ended_by, EndedAt, EndsNone, NextEnd}

-- ---- a sample that does not let its frame go on

done_next : (e : Effect) (m digits : ℕ) → Stopped e → (done_by e m digits).frame ≡ frame_at (place_behind e) 0
done_next (On d) m digits t = absurd t
done_next Hunts m digits t = refl
done_next (Breaks cause) m digits t = refl
done_next Ends m digits t = refl

done-code : (e : Effect) (m digits : ℕ) → is_code (done_by e m digits).found ≡ finds_code e
done-code (On d) m digits = refl
done-code Hunts m digits = refl
done-code (Breaks cause) m digits = refl
done-code Ends m digits = refl

module _ (mode : Mode) (heard : List ℕ) (w : Walk) (s : Stop) (t : Stops mode heard w s) where
  -- the walk up to where it ends
  walked : Reached mode heard (frame_of w) w.to (frame_of s.walk) s.walk.to
  walked = record { low = t.passes.low; high = t.passes.high; ranged = t.passes.ranged; walks = t.walks }

  pub ended_here : (e : Effect) → s.effect ≡ Some e → EndedAt mode heard w (ended_by s.walk.place s.walk.to e)
  ended_here e i =
      let b = subst (λ (o : Option Effect).
      MatchOption o (s.walk.to ≡ length heard) (λ e. StopsBy mode heard s.walk e)) i t.stops in
      let m = s.walk.place - 1 in
      record {
        frame = frame_of s.walk;
        reached = walked;
        inside = b.inside;
        ends = record {
          place = refl;
          next = ap (λ (r : FrameRead). r.frame) b.step ∙ done_next e m s.walk.digits b.stopped;
          code = ap (λ (r : FrameRead). is_code r.found) b.step ∙ done-code e m s.walk.digits;
        };
      }

  pub ended-list : s.effect ≡ None → EndsNone mode heard w
  ended-list i =
      let b = subst (λ (o : Option Effect).
      MatchOption o (s.walk.to ≡ length heard) (λ e. StopsBy mode heard s.walk e)) i t.stops in
      record { frame = frame_of s.walk; reached = rw b at walked }

-- ---- from frame to frame

module _ (mode : Mode) (framed : Framed mode) (heard : List ℕ) (f : Frame) (i : ℕ) where
  pub reached-start : FrameOf mode f → i ≤ length heard → Reached mode heard f i f i
  reached-start h l = record {
    low = omega arith;
    high = l;
    ranged = h;
    walks = walks-none (samples_of mode) heard f i;
  }

  pub reached-chain : (g k : Frame) (to end : ℕ) → Reached mode heard f i g to → Reached mode heard g to k end
      → Reached mode heard f i k end
  reached-chain g k to end a b =
      let l = a.low in
      let m = b.low in
      record {
        low = omega arith;
        high = b.high;
        ranged = b.ranged;
        walks = walks-chain (samples_of mode) heard f g k i to end l m a.walks b.walks;
      }

  module _ (place digits to : ℕ) (r : Reached mode heard f i (frame_at place digits) to)
      (clean : Clean (frame_at place digits)) where
    -- a frame that ends behind another reader
    pub ended-far : (w : Walk) → frame_of w ≡ f → w.to ≡ i → (p : Option Ended)
        → NextEnd mode heard (record { place = place; digits = digits; to = to }) p → NextEnd mode heard w p
    ended-far w ef ei None e = record { frame = e.frame; reached = rw (ef, ei) (reached-chain _ _ to _ r e.reached) }
    ended-far w ef ei (Some p) e = record {
      frame = e.frame;
      reached = rw (ef, ei) (reached-chain _ _ to _ r e.reached);
      inside = e.inside;
      ends = e.ends;
    }

    module _ (low : place ≤ 1) (k : ℕ) (s : Stays heard place to k) where
      pub reached-none : k ≡ length heard → Reached mode heard f i (frame_at place 0) (length heard)
      reached-none z =
          let g = r.ranged in
          let n = g.digits_in in
          rw (sym z) (reached-chain _ _ to k r (record {
            low = s.low;
            high = s.high;
            ranged = record { place_in = g.place_in; digits_in = omega arith };
            walks = alike-walks-as mode framed heard place digits to k clean low s;
          }))

      pub reached-next : k < length heard → (p : ℕ) → p ≡ place_after place (get_or heard k 0)
          → Reached mode heard f i (frame_at p 0) (k + 1)
      reached-next l p e =
          let m = s.low in
          let b = alike_next mode framed heard place digits to k r.ranged low (omega arith) s l p e in
          reached-chain _ _ to (k + 1) r (record {
            low = b.low;
            high = b.high;
            ranged = b.ranged;
            walks = alike-walks-next-as mode framed heard place digits to k clean low s l p e;
          })
