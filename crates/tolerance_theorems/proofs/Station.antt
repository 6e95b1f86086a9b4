-- A station that is not inhibited reads as its reader does; and one that only listens is never inhibited.
use mathlib.Core.Path.{◌≡◌, ◌∙◌, refl, ap}
use mathlib.Core.List.{List, [], ◌∷◌}
use Prim.Native.Nat.{ℕ}
use Rattle.lists.specs.Steps.{state_after, outputs}
use Rattle.reader.specs.Words.{words_of, reader_after, events}
use Rattle.station.specs.declared.Station.{Station}
use Rattle.station.specs.Station.{mode_of_station, fresh_station, station_ms, station_after, events_by}
use Rattle.station.proofs.Listening.{ms-mode, ms-reader, ms-event, not-inhibited, still-listens}
use Rattle.tolerance_theorems.specs.Station.{NeverInhibited, reader_of, StationBears}
use Rattle.tolerance_theorems.specs.Station.{ListenersHear, FreshListens}
use Rattle.tolerance_theorems.proofs.Modes.{request}

-- ---- not inhibited

record AsReader (s : Station) (ys : List ℕ) : Type 0 where
  events-are : events_by s ys ≡ events (mode_of_station s) (reader_of s) ys
  reader-is : reader_of (station_after s ys) ≡ reader_after (mode_of_station s) (reader_of s) ys

as-reader : (s : Station) (ys : List ℕ) → NeverInhibited s ys → AsReader s ys
unfolding NeverInhibited state_after outputs
as-reader s [] free = record { events-are = refl; reader-is = refl }
as-reader s (x ∷ ys) free =
    let later = as-reader (station_ms s x) ys free.1 in
    let r = ms-reader s x free.0 in
    let m = ms-mode s x in
    record {
      events-are = λ i. ms-event s x free.0 i ∷ (later.events-are ∙ (λ j. events (m j) (r j) ys)) i;
      reader-is = later.reader-is ∙ (λ j. reader_after (m j) (r j) ys);
    }

pub station-bears : StationBears
station-bears s ks ys a free =
    let r = as-reader s ys free in
    let bears = request (mode_of_station s) a.baudot in
    let h = bears a.before a.after ks ys (reader_of s) a.codes a.hunts a.moved in
    record {
      words_are = ap words_of r.events-are ∙ h.words_are;
      reader-is = r.reader-is ∙ h.reader_then;
    }

-- ---- a station that only listens

pub listeners-hear : ListenersHear
unfolding NeverInhibited
listeners-hear s [] l = tt
listeners-hear s (x ∷ ys) l = (not-inhibited s l, listeners-hear (station_ms s x) ys (still-listens s l x))

pub fresh-listens : FreshListens
unfolding fresh_station
fresh-listens mode = (record { no-burst = refl; none-waiting = refl; none_to_come = refl }, refl)
