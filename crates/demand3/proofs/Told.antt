-- A send model that is told, ms by ms, when a burst begins and ends, whoever tells it, and the reader of its station.
-- The core of demand 3 is about any list of such ms. A station by itself tells its own (OwnRules.antt).
use Prim.Native.Nat.{ℕ}
use mathlib.Core.Path.{◌≡◌}
use mathlib.Core.Bool.{Bool}
use mathlib.Core.List.{List, [], ◌∷◌}
use lib.ListN.{length}
use Rattle.alphabet.specs.declared.Mode.{Mode}
use Rattle.alphabet.specs.Modes.{alphabet_of}
use Rattle.reader.specs.declared.Event.{Event}
use Rattle.reader.specs.declared.Reader.{Reader}
use Rattle.half_duplex.specs.Core.{reader_ms, event_ms}
use Rattle.station.specs.Station.{reader_offered}
use Rattle.demand3.specs.Model.{Model, Did, offered, load_by, did_from, inhibited_from, model_from}

-- An offer that succeeds. A ms: a burst is to begin if there is none, it is to end with its code, and the level heard.
pub data Told : Type 0 where
  offer : List ℕ → Told
  ms : Bool → Bool → ℕ → Told

-- What such a ms does, whether the receiver is inhibited in it, the model after it.
unfoldable pub did_by : Mode → Bool → Model → Did
did_by mode begins m = did_from (load_by begins mode m)

unfoldable pub inhibited_by : Mode → Bool → Model → Bool
inhibited_by mode begins m = inhibited_from m (load_by begins mode m)

unfoldable pub ms_by : Mode → Bool → Bool → Model → ℕ → Model
ms_by mode begins ends m heard = model_from mode ends m (load_by begins mode m) heard

-- The model after some steps, what each of their ms does, the levels heard in them.
unfoldable pub told_after : Mode → Model → List Told → Model
told_after mode m [] = m
told_after mode m (offer cs ∷ steps) = told_after mode (offered mode cs m) steps
told_after mode m (ms begins ends x ∷ steps) = told_after mode (ms_by mode begins ends m x) steps

unfoldable pub told_does : Mode → Model → List Told → List Did
told_does mode m [] = []
told_does mode m (offer cs ∷ steps) = told_does mode (offered mode cs m) steps
told_does mode m (ms begins ends x ∷ steps) = did_by mode begins m ∷ told_does mode (ms_by mode begins ends m x) steps

unfoldable pub told_heard : List Told → List ℕ
told_heard [] = []
told_heard (offer cs ∷ steps) = told_heard steps
told_heard (ms begins ends x ∷ steps) = x ∷ told_heard steps

abbrev pub told_ms : List Told → ℕ
told_ms steps = length (told_heard steps)

-- No offer that holds a character succeeds.
unfoldable pub ToldNone : List Told → Type 0
ToldNone [] = Unit {0}
ToldNone (offer cs ∷ steps) = (cs ≡ []) × ToldNone steps
ToldNone (ms begins ends x ∷ steps) = ToldNone steps

-- The reader after some steps, and what each of their ms ends in.
abbrev pub reader_by : Mode → Bool → Model → Reader → ℕ → Reader
reader_by mode begins m r x = reader_ms mode (inhibited_by mode begins m) r x

unfoldable pub told_reader : Mode → Model → Reader → List Told → Reader
told_reader mode m r [] = r
told_reader mode m r (offer cs ∷ steps) =
    told_reader mode (offered mode cs m) (reader_offered (alphabet_of mode) cs r) steps
told_reader mode m r (ms begins ends x ∷ steps) =
    told_reader mode (ms_by mode begins ends m x) (reader_by mode begins m r x) steps

unfoldable pub told_events : Mode → Model → Reader → List Told → List Event
told_events mode m r [] = []
told_events mode m r (offer cs ∷ steps) =
    told_events mode (offered mode cs m) (reader_offered (alphabet_of mode) cs r) steps
told_events mode m r (ms begins ends x ∷ steps) =
    event_ms mode (inhibited_by mode begins m) r x
    ∷ told_events mode (ms_by mode begins ends m x) (reader_by mode begins m r x) steps
