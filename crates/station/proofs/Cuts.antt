-- A run that is cut in two gives the same station, the same sent ms and the same words.
use mathlib.Core.Path.{◌≡◌, ◌∙◌, refl, ap}
use mathlib.Core.List.{List, [], ◌∷◌, ◌++◌}
use Prim.Native.Nat.{ℕ}
use Rattle.lists.specs.Steps.{state_after, outputs}
use Rattle.lists.proofs.Steps.{after-append, outputs-append}
use Rattle.reader.specs.Words.{words_of}
use Rattle.reader.proofs.WordLists.{words_append}
use Rattle.half_duplex.specs.Core.{core_from}
use Rattle.station.specs.declared.Station.{Station}
use Rattle.station.specs.Station.{mode_of_station, station_ms, sent_ms, event_of, station_after, sent_by, events_by, words_by}

-- no ms
module _ (s : Station) where
  pub after_none : station_after s [] ≡ s
  unfolding state_after
  after_none = refl

  pub sent-none : sent_by s [] ≡ []
  unfolding outputs
  sent-none = refl

  pub words-none : words_by s [] ≡ []
  unfolding outputs words_of
  words-none = refl

pub record Cut (s : Station) (xs ys : List ℕ) : Type 0 where
  pub station : station_after s (xs ++ ys) ≡ station_after (station_after s xs) ys
  pub sent : sent_by s (xs ++ ys) ≡ sent_by s xs ++ sent_by (station_after s xs) ys
  pub words : words_by s (xs ++ ys) ≡ words_by s xs ++ words_by (station_after s xs) ys

pub cut : (s : Station) (xs ys : List ℕ) → Cut s xs ys
cut s xs ys = record {
  station = after-append station_ms sent_ms s xs ys;
  sent = outputs-append station_ms sent_ms s xs ys;
  words =
      ap words_of (outputs-append station_ms event_of s xs ys)
      ∙ words_append (events_by s xs) (events_by (station_after s xs) ys);
}

pub mode-after : (s : Station) (heard : List ℕ) → mode_of_station (station_after s heard) ≡ mode_of_station s
unfolding state_after station_ms core_from
mode-after s [] = refl
mode-after s (x ∷ xs) = mode-after (station_ms s x) xs
