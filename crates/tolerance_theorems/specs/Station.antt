-- The tolerance carried up to a station: it hands out the words of a burst whose edges are moved.
use Rattle.std.specs.Prelude.{ℕ, true, false, List, [], ◌∷◌, ◌≡◌}
use Rattle.alphabet.specs.declared.Alphabet.TheVariants.{Baudot}
use Rattle.baudot.specs.Reading.{text_of, shift_after, all_codes}
use Rattle.frames.specs.Frames.{hunting}
use Rattle.reader.specs.declared.Reader.{Reader}
use Rattle.reader.specs.Reader.{with_shift}
use Rattle.half_duplex.specs.Core.{inhibited_in}
use Rattle.station.specs.declared.Station.{Station}
use Rattle.station.specs.Station.{mode_of_station, alphabet_of_station, fresh_station, front, station_ms, station_after, words_by}
use Rattle.station.specs.Listening.{Listens}
use Rattle.tolerance_theorems.specs.Edges.{Moved}
use Rattle.tolerance_theorems.specs.Bursts.{on_quiet, burst}

-- The station is inhibited in none of the ms that it hears.
unfoldable pub NeverInhibited : Station → List ℕ → Type 0
NeverInhibited s [] = Unit {0}
NeverInhibited s (x ∷ xs) = (inhibited_in s.core (front s) ≡ false) × NeverInhibited (station_ms s x) xs

-- Its reader.
abbrev pub reader_of : Station → Reader
reader_of s = s.core.reader

-- The ms ys are a burst of these codes in the station's mode, which is one of Baudot, with every edge moved by up to 4.
-- The station's reader hunts when they arrive.
pub record Arrives (s : Station) (ks ys : List ℕ) : Type 0 where
  pub baudot : alphabet_of_station s ≡ Baudot
  pub hunts : (reader_of s).frame ≡ hunting
  pub codes : all_codes ks ≡ true
  pub before : ℕ
  pub after : ℕ
  pub moved : Moved 4 (on_quiet before (burst (mode_of_station s) ks) after) ys

-- What a station hands out for them: the words of the codes, and no other. Of its reader only the shift is another, so
-- that it hunts again.
pub record HandsOut (s : Station) (ks words : List ℕ) (left : Station) : Type 0 where
  pub words_are : words ≡ text_of (reader_of s).shift ks
  pub reader-is : reader_of left ≡ with_shift (reader_of s) (shift_after (reader_of s).shift ks)

-- Every station that is not inhibited in them hands out the words of the codes. (That it is in range is not asked.)
abbrev pub StationBears : Type 0
StationBears =
    (s : Station) (ks ys : List ℕ) → Arrives s ks ys → NeverInhibited s ys
    → HandsOut s ks (words_by s ys) (station_after s ys)

-- A station that only listens is inhibited in no ms, whatever it hears.
abbrev pub ListenersHear : Type 0
ListenersHear = (s : Station) (ys : List ℕ) → Listens s → NeverInhibited s ys

-- A fresh station is one of these, and its reader hunts.
abbrev pub FreshListens : Type 0
FreshListens = (mode : ℕ) → Listens (fresh_station mode) × ((reader_of (fresh_station mode)).frame ≡ hunting)
