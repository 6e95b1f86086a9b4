-- The edges that wait after a run, by the place of the frame before it and after it.
use mathlib.Core.Path.{◌≡◌, ◌∙◌, refl, sym, ap, subst}
use mathlib.Core.Bool.{Bool, true, false, cond}
use mathlib.Core.List.{List, [], ◌∷◌}
use Prim.Native.Nat.{ℕ, ◌<◌}
use native.Mathlib.Omega.{arith}
use Rattle.lists.specs.Lists.{all_at_most}
use Rattle.lists.specs.Steps.{state_after}
use Rattle.lists.proofs.Lists.{at-most-head, at-most-tail}
use Rattle.alphabet.specs.Modes.{element_of, highest_level}
use Rattle.frames.specs.declared.Frame.{Frame}
use Rattle.frames.specs.Frames.{hunting, frame_next}
use Rattle.frames.specs.Samples.{samples_of}
use Rattle.edges.specs.declared.Edges.{Edges}
use Rattle.edges.specs.Edges.{no_edges, is_measured, edges_ms}
use Rattle.edges_runs.specs.code.Latest.{OneMs, Falls, Goes}
use Rattle.edges_runs.proofs.Reading.{one-ms}
use Rattle.half_duplex.specs.declared.Core.{Core}
use Rattle.half_duplex.specs.Core.{mode_in, inhibited_in, core_from}
use Rattle.station.specs.declared.Station.{Station}
use Rattle.station.specs.declared.Measured.{Measured}
use Rattle.station.specs.Station.{mode_of_station, front, station_ms, station_after}
use Rattle.station.specs.Measured.{station_of, waiting_ms, measured_ms, measured_after}
use Rattle.station.proofs.Cuts.{mode-after}
use Rattle.station.proofs.Edged.{Edged, frame-after, ms-edged, station-after}
use Rattle.station.proofs.Kept.{after-edged}
use Rattle.drift.proofs.Hearing.{hear-frame}

abbrev place_of : Measured → ℕ
place_of x = x.core.reader.frame.place

-- one ms
module _ (x : Measured) (heard : ℕ) (m : is_measured (mode_in x.core) ≡ true) (h : Edged x) where
  abbrev e : ℕ
  e = element_of (mode_in x.core)

  abbrev f : Frame
  f = x.core.reader.frame

  abbrev w : Edges
  w = edges_ms (mode_in x.core) f x.edges heard

  abbrev g : Frame
  g = frame_next (samples_of (mode_in x.core)) f heard

  dropped-or-heard : (b : Bool) → OneMs e f.place x.edges heard (cond b hunting g).place (cond b no_edges w)
  dropped-or-heard true = Falls (omega arith) refl
  dropped-or-heard false = one-ms (mode_in x.core) m f x.edges heard h.outside

  next-frame : (station_ms (station_of x) heard).core.reader.frame
      ≡ cond (inhibited_in x.core (front (station_of x))) hunting g
  next-frame =
      frame-after (station_of x) heard
      ∙ ap (λ (k : Frame). cond (inhibited_in x.core (front (station_of x))) hunting k)
      (hear-frame (mode_in x.core) m x.core.reader heard)

  one : OneMs e f.place x.edges heard (place_of (measured_ms x heard)) (measured_ms x heard).edges
  unfolding measured_ms waiting_ms
  one =
      subst (λ (k : Frame). OneMs e f.place x.edges heard k.place (waiting_ms x heard)) (sym next-frame)
      (dropped-or-heard (inhibited_in x.core (front (station_of x))))

goes : (x : Measured) (heard : List ℕ) → is_measured (mode_in x.core) ≡ true → Edged x
    → all_at_most (highest_level (mode_in x.core)) heard ≡ true
    → Goes (element_of (mode_in x.core)) (place_of x) x.edges heard (place_of (measured_after x heard))
    (measured_after x heard).edges
unfolding Goes state_after measured_ms station_ms core_from
goes x [] m h l = (refl, refl)
goes x (y ∷ ys) m h l =
    let most = highest_level (mode_in x.core) in (
      place_of (measured_ms x y),
      (measured_ms x y).edges,
      one x y m h,
      goes (measured_ms x y) ys m (ms-edged x y h (at-most-head most y ys l)) (at-most-tail most y ys l),
    )

module _ (x : Measured) (heard : List ℕ) (h : Edged x)
    (l : all_at_most (highest_level (mode_in x.core)) heard ≡ true) where
  pub goes_to : is_measured (mode_in x.core) ≡ true → (d : Core) → d ≡ (station_after (station_of x) heard).core
      → Goes (element_of (mode_in x.core)) (place_of x) x.edges heard d.reader.frame.place
      (measured_after x heard).edges
  goes_to m d ed =
      let same = sym (ap (λ (s : Station). s.core) (station-after x heard)) in
      subst (λ (k : Core). Goes (element_of (mode_in x.core)) (place_of x) x.edges heard k.reader.frame.place
      (measured_after x heard).edges) (sym (ed ∙ same)) (goes x heard m h l)

  -- outside a frame, and in a mode that is not measured, none wait
  pub none-outside : (d : Core) → d ≡ (station_after (station_of x) heard).core → d.reader.frame.place < 2
      → no_edges ≡ (measured_after x heard).edges
  none-outside d ed p =
      let same = sym (ap (λ (s : Station). s.core) (station-after x heard)) in
      sym ((after-edged x heard h l).outside (subst (λ (k : Core). k.reader.frame.place < 2) (ed ∙ same) p))

  pub none-wait : is_measured (mode_in x.core) ≡ false → no_edges ≡ (measured_after x heard).edges
  none-wait m =
      let mode = ap mode_of_station (station-after x heard) ∙ mode-after (station_of x) heard in
      sym ((after-edged x heard h l).unmeasured (ap is_measured mode ∙ m))
