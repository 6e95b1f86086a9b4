-- The entries: what they give is in range, if what they are given is; and what a call that succeeds has.
use mathlib.Core.Path.{◌≡◌, ◌∙◌, refl, sym, ap, subst}
use mathlib.Core.Bool.{Bool, true, false, cond, ◌&&◌}
use mathlib.Core.List.{List, [], ◌∷◌}
use Prim.Native.Nat.{ℕ}
use native.Mathlib.Omega.{arith}
use lib.Dec.{eqb, leb}
use lib.ListN.{length}
use borrow.Author.Tests.{eqb-true}
use Rattle.lists.specs.Lists.{all_at_most}
use Rattle.lists.specs.Steps.{state_after}
use Rattle.lists.proofs.Lists.{either, and_left, and_right, at-most-head, at-most-tail}
use Rattle.alphabet.specs.Modes.{highest_level}
use Rattle.alphabet.specs.Normal.{all_chars}
use Rattle.frames.specs.declared.Frame.{Frame}
use Rattle.edges.specs.declared.Report.{Report}
use Rattle.edges.specs.code.Bounds.{EdgesOf}
use Rattle.edges.specs.Range.{report_in}
use Rattle.half_duplex.specs.Core.{core_from}
use Rattle.queue.specs.Queue.{room}
use Rattle.station.specs.declared.Station.{Station}
use Rattle.station.specs.declared.Measured.{Measured}
use Rattle.station.specs.Station.{mode_of_station, alphabet_of_station, queue_of, offered_to, station_ms, words_by}
use Rattle.station.specs.Station.{fresh_station}
use Rattle.station.specs.Measured.{measured, station_of, fresh_measured, measured_ms, measured_after, report_after}
use Rattle.station.specs.Range.{in_range, measured_in}
use Rattle.station.specs.Entries.{StationAnswered, StationRan, answered, is_mode, open_of, offer_answer, offer_of, run_answer, ran, ran_of}
use Rattle.station.specs.code.Accepted.{Accepted}
use Rattle.station.proofs.Range.{fresh_in, after-in, after-full, offered-in, offered-full}
use Rattle.station.proofs.Edged.{Edged, measured-in, measured-is, outside_of, ms-edged, frame-offered, station-after}

-- ---- the ms of a run

pub after-edged : (x : Measured) (heard : List ℕ) → Edged x
    → all_at_most (highest_level (mode_of_station (station_of x))) heard ≡ true
    → Edged (measured_after x heard)
unfolding state_after measured_ms station_ms core_from
after-edged x [] h l = h
after-edged x (y ∷ ys) h l =
    let most = highest_level (mode_of_station (station_of x)) in
    after-edged (measured_ms x y) ys (ms-edged x y h (at-most-head most y ys l)) (at-most-tail most y ys l)

pub after-measured : (x : Measured) (heard : List ℕ) → length x.chars ≡ 256 → measured_in x ≡ true
    → all_at_most (highest_level (mode_of_station (station_of x))) heard ≡ true → measured_in (measured_after x heard)
    ≡ true
after-measured x heard full i l =
    let k = measured-in x i in
    measured-is (measured_after x heard)
    (ap in_range (station-after x heard) ∙ after-in (station_of x) heard full k.0 l) (after-edged x heard k.1 l)

-- ---- an opening

pub fresh-measured : (mode : ℕ) → is_mode mode ≡ true → measured_in (fresh_measured mode) ≡ true
unfolding fresh_station
fresh-measured mode e = measured-is (fresh_measured mode) (fresh_in mode e) (outside_of _)

pub open_in : (mode : ℕ) → measured_in (open_of mode).station ≡ true
unfolding open_of
open_in mode = go (is_mode mode) refl
  where
    go : (b : Bool) → is_mode mode ≡ b
        → measured_in (cond b (answered (fresh_measured mode) 0) (answered (fresh_measured 1) 2)).station ≡ true
    go true e = fresh-measured mode e
    go false e = fresh-measured 1 refl

-- ---- an offer

module _ (x : Measured) (text : List ℕ) where
  abbrev s : Station
  s = station_of x

  pub accepted : offer_answer x text ≡ 0 → (measured_in x ≡ true) × Accepted s text
  unfolding offer_answer
  accepted = go (measured_in x) refl (all_chars text) refl (room (alphabet_of_station s) (queue_of s) text) refl
    where
      go : (a : Bool) → measured_in x ≡ a → (b : Bool) → all_chars text ≡ b
          → (c : Bool) → room (alphabet_of_station s) (queue_of s) text ≡ c
          → ◌≡◌ {A = ℕ} (cond a (cond b (cond c 0 4) 3) 1) 0 → (measured_in x ≡ true) × Accepted s text
      go true e true f true g z = (e, record { ranged = (measured-in x e).0; chars = f; space = g })
      go true e true f false g z = absurd (omega arith)
      go true e false f c g z = absurd (omega arith)
      go false e b f c g z = absurd (omega arith)

  abbrev offered : Measured
  offered = measured (offered_to s text) x.edges

  pub offer-full : length x.chars ≡ 256 → length (offer_of x text).station.chars ≡ 256
  unfolding offer_of
  offer-full full =
      either (λ (r : StationAnswered). length r.station.chars ≡ 256) (eqb (offer_answer x text) 0)
      (answered offered 0) (answered x (offer_answer x text)) (offered-full s text full) full

  pub offered-measured : length x.chars ≡ 256 → offer_answer x text ≡ 0 → measured_in offered ≡ true
  unfolding offered_to
  offered-measured full z =
      let k = accepted z in
      let i = measured-in x k.0 in
      let f = frame-offered (alphabet_of_station s) text x.core.reader in
      measured-is offered (offered-in s text full k.1)
      (subst (λ (g : Frame). EdgesOf (mode_of_station s) g x.edges) (sym f) i.1)

  pub offer-in : length x.chars ≡ 256 → measured_in x ≡ true → measured_in (offer_of x text).station ≡ true
  unfolding offer_of
  offer-in full i = go (eqb (offer_answer x text) 0) refl
    where
      go : (b : Bool) → eqb (offer_answer x text) 0 ≡ b
          → measured_in (cond b (answered offered 0) (answered x (offer_answer x text))).station ≡ true
      go true e = offered-measured full (eqb-true (offer_answer x text) 0 e)
      go false e = i

-- ---- a run

-- what a run that succeeds has
pub record Runs (x : Measured) (r : Report) (heard : List ℕ) (sent_room word_room : ℕ) : Type 0 where
  pub ranged : measured_in x ≡ true
  pub report-in : report_in r ≡ true
  pub few : leb (length heard) 4_096 ≡ true
  pub levels : all_at_most (highest_level (mode_of_station (station_of x))) heard ≡ true
  pub sent_fits : leb (length heard) sent_room ≡ true
  pub words_fit : leb (length heard) word_room ≡ true
  pub edges_few : leb (report_after x r heard).edges 65_536 ≡ true

module _ (x : Measured) (r : Report) (heard : List ℕ) (sent_room word_room : ℕ) where
  pub runs : run_answer x r heard sent_room word_room ≡ 0 → Runs x r heard sent_room word_room
  unfolding run_answer
  runs =
      go (measured_in x && report_in r) refl (leb (length heard) 4_096) refl
      (all_at_most (highest_level (mode_of_station (station_of x))) heard) refl
      (leb (length heard) sent_room) refl (leb (length heard) word_room) refl
      (leb (report_after x r heard).edges 65_536) refl
    where
      go : (a : Bool) → (measured_in x && report_in r) ≡ a → (b : Bool) → leb (length heard) 4_096 ≡ b
          → (c : Bool) → all_at_most (highest_level (mode_of_station (station_of x))) heard ≡ c
          → (d : Bool) → leb (length heard) sent_room ≡ d → (e : Bool) → leb (length heard) word_room ≡ e
          → (f : Bool) → leb (report_after x r heard).edges 65_536 ≡ f
          → ◌≡◌ {A = ℕ} (cond a (cond b (cond c (cond d (cond e (cond f 0 18) 8) 7) 6) 5) 1) 0
          → Runs x r heard sent_room word_room
      go true p true q true v true t true u true w z = record {
        ranged = and_left (measured_in x) (report_in r) p;
        report-in = and_right (measured_in x) (report_in r) p;
        few = q;
        levels = v;
        sent_fits = t;
        words_fit = u;
        edges_few = w;
      }
      go true p true q true v true t true u false w z = absurd (omega arith)
      go true p true q true v true t false u f w z = absurd (omega arith)
      go true p true q true v false t e u f w z = absurd (omega arith)
      go true p true q false v d t e u f w z = absurd (omega arith)
      go true p false q c v d t e u f w z = absurd (omega arith)
      go false p b q c v d t e u f w z = absurd (omega arith)

  abbrev answer : ℕ
  answer = run_answer x r heard sent_room word_room

  abbrev done : StationRan
  done = ran (measured_after x heard) (report_after x r heard) 0 (length (words_by (station_of x) heard))

  pub run-full : length x.chars ≡ 256 → length (ran_of x r heard sent_room word_room).station.chars ≡ 256
  unfolding ran_of
  run-full full =
      either (λ (q : StationRan). length q.station.chars ≡ 256) (eqb answer 0) done (ran x r answer 0)
      (ap (λ (s : Station). length s.chars) (station-after x heard) ∙ after-full (station_of x) heard full) full

  pub run_in : length x.chars ≡ 256 → measured_in x ≡ true
      → measured_in (ran_of x r heard sent_room word_room).station ≡ true
  unfolding ran_of
  run_in full i = go (eqb answer 0) refl
    where
      go : (b : Bool) → eqb answer 0 ≡ b → measured_in (cond b done (ran x r answer 0)).station ≡ true
      go true e = after-measured x heard full i (runs (eqb-true answer 0 e)).levels
      go false e = i
