-- A station and its edges: they never change what the station does, and every ms keeps their range.
use mathlib.Core.Path.{◌≡◌, ◌∙◌, refl, sym, ap, subst}
use mathlib.Core.Bool.{Bool, true, false, cond}
use mathlib.Core.List.{List, [], ◌∷◌}
use Prim.Native.Nat.{ℕ, ◌≤◌}
use native.Mathlib.Omega.{arith}
use Rattle.lists.specs.Steps.{state_after}
use Rattle.lists.proofs.Lists.{either, and_left, and_right, both}
use Rattle.alphabet.specs.declared.Alphabet.{Alphabet}
use Rattle.alphabet.specs.declared.Alphabet.TheVariants.{Baudot, Dtmf as dtmf, Edt as edt}
use Rattle.alphabet.specs.declared.Mode.{Mode}
use Rattle.alphabet.specs.declared.Mode.TheVariants.{Baudot45, Baudot50, Dtmf, Edt}
use Rattle.alphabet.specs.Baudot.{letters}
use Rattle.alphabet.specs.Modes.{highest_level}
use Rattle.frames.specs.declared.Frame.{Frame}
use Rattle.frames.specs.code.Bounds.{FrameOf}
use Rattle.frames.specs.Frames.{hunting}
use Rattle.edges.specs.declared.Edges.{Edges}
use Rattle.edges.specs.Edges.{no_edges, is_measured, edges_ms}
use Rattle.edges.specs.Range.{edges_in}
use Rattle.edges.specs.code.Bounds.{EdgesOf}
use Rattle.edges.proofs.Range.{edges-in, edges-is, kept, none-counted}
use Rattle.reader.specs.declared.Reader.{Reader}
use Rattle.reader.specs.Reader.{with_shift, hear, inhibited}
use Rattle.half_duplex.specs.Core.{mode_in, inhibited_in, core_from}
use Rattle.station.specs.declared.Station.{Station}
use Rattle.station.specs.declared.Measured.{Measured}
use Rattle.station.specs.Station.{has_del, reader_offered, front, station_ms, station_after}
use Rattle.station.specs.Measured.{station_of, waiting_ms, measured_ms, measured_after}
use Rattle.station.specs.Range.{in_range, measured_in}
use Rattle.station.proofs.Range.{station-in}

-- ---- the station goes as it would without them

pub station-ms : (x : Measured) (heard : ℕ) → station_of (measured_ms x heard) ≡ station_ms (station_of x) heard
unfolding measured_ms station_ms
station-ms x heard = refl

pub station-after : (x : Measured) (heard : List ℕ)
    → station_of (measured_after x heard) ≡ station_after (station_of x) heard
unfolding state_after
station-after x [] = refl
station-after x (h ∷ hs) =
    station-after (measured_ms x h) hs ∙ ap (λ (s : Station). station_after s hs) (station-ms x h)

-- ---- the frame after a ms

frame-with : (b : Bool) (r q : Reader) → (cond b (inhibited r) q).frame ≡ cond b hunting q.frame
unfolding inhibited
frame-with true r q = refl
frame-with false r q = refl

pub frame-after : (s : Station) (heard : ℕ)
    → (station_ms s heard).core.reader.frame
    ≡ cond (inhibited_in s.core (front s)) hunting (hear (mode_in s.core) s.core.reader heard).reader.frame
unfolding station_ms core_from
frame-after s heard =
    frame-with (inhibited_in s.core (front s)) s.core.reader
    (hear (mode_in s.core) s.core.reader heard).reader

-- ---- their range, in facts

-- none wait outside a frame
pub outside_of : (mode : Mode) → EdgesOf mode hunting no_edges
outside_of mode = record {
  waiting = λ m h. absurd (omega arith);
  level_in = omega arith;
  outside = λ h. refl;
  unmeasured = λ m. refl;
}

unmeasured-of : (mode : Mode) (f : Frame) (w : Edges) → is_measured mode ≡ false → w ≡ no_edges → EdgesOf mode f w
unmeasured-of mode f w m e = record {
  waiting = λ t h. let z = ap {B = ℕ} (λ (b : Bool). cond b 1 0) (sym m ∙ t) in absurd (omega arith);
  level_in = subst (λ (v : Edges). v.level ≤ 2) (sym e) (omega arith);
  outside = λ h. e;
  unmeasured = λ t. e;
}

-- after a ms that is heard
heard-of : (mode : Mode) (r : Reader) (w : Edges) (heard : ℕ) → EdgesOf mode r.frame w → heard ≤ highest_level mode
    → EdgesOf mode (hear mode r heard).reader.frame (edges_ms mode r.frame w heard)
unfolding hear
heard-of Baudot45 r w heard h l = kept Baudot45 r.frame w heard h l
heard-of Baudot50 r w heard h l = kept Baudot50 r.frame w heard h l
heard-of Dtmf r w heard h l = unmeasured-of Dtmf r.frame _ refl (none-counted Dtmf r.frame w heard refl).1
heard-of Edt r w heard h l = kept Edt r.frame w heard h l

abbrev pub Edged : Measured → Type 0
Edged x = EdgesOf (mode_in x.core) x.core.reader.frame x.edges

pub ms-edged : (x : Measured) (heard : ℕ) → Edged x → heard ≤ highest_level (mode_in x.core)
    → Edged (measured_ms x heard)
unfolding measured_ms waiting_ms station_ms core_from
ms-edged x heard h l =
    let s = station_of x in
    let mode = mode_in x.core in
    let q = (hear mode x.core.reader heard).reader.frame in
    let w = edges_ms mode x.core.reader.frame x.edges heard in
    subst (λ (f : Frame). EdgesOf mode f (waiting_ms x heard)) (sym (frame-after s heard))
    (go (inhibited_in x.core (front s)) q w (heard-of mode x.core.reader x.edges heard h l))
  where
    go : (b : Bool) (q : Frame) (w : Edges) → EdgesOf (mode_in x.core) q w
        → EdgesOf (mode_in x.core) (cond b hunting q) (cond b no_edges w)
    go true q w k = outside_of (mode_in x.core)
    go false q w k = k

-- question 1, in facts and back
pub measured-in : (x : Measured) → measured_in x ≡ true → (in_range (station_of x) ≡ true) × Edged x
unfolding measured_in
measured-in x e =
    let s = in_range (station_of x) in
    let w = edges_in (mode_in x.core) x.core.reader.frame x.edges in
    (and_left s w e, edges-in _ _ _ (and_right s w e))

pub frame-of : (x : Measured) → in_range (station_of x) ≡ true → FrameOf (mode_in x.core) x.core.reader.frame
frame-of x i = (station-in (station_of x) i).core-in.reader-in.frame-in

-- an offer leaves the frame
pub frame-offered : (a : Alphabet) (text : List ℕ) (r : Reader) → (reader_offered a text r).frame ≡ r.frame
frame-offered Baudot text r =
    either (λ (q : Reader). q.frame ≡ r.frame) (has_del text) (with_shift r letters) r refl refl
frame-offered dtmf text r = refl
frame-offered edt text r = refl

pub measured-is : (x : Measured) → in_range (station_of x) ≡ true → Edged x → measured_in x ≡ true
unfolding measured_in
measured-is x i h = both i (edges-is _ _ _ (frame-of x i) h)
