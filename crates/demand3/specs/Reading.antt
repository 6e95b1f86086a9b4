-- Document 01, demand 3, and document 02, #101: the synchronizing code (there: the settling code) after an idle period
-- (there: a rest), by what the send model does.
use Rattle.std.specs.Prelude.{ℕ, suc, ◌≡◌, Bool, true, false, cond, List, [], ◌∷◌}
use Rattle.alphabet.specs.declared.Alphabet.{Alphabet}
use Rattle.alphabet.specs.declared.Alphabet.TheVariants.{Baudot, Dtmf, Edt}
use Rattle.alphabet.specs.declared.Mode.{Mode}
use Rattle.alphabet.specs.Modes.{alphabet_of}
use Rattle.demand3.specs.Model.{Part, Preamble, ShiftCode, OwnCode, Did}

-- It is the first code, of whatever kind (Baudot); the first own code, which is the first digit with the quiet after
-- its key (DTMF).
unfoldable pub synchronizes : Alphabet → Part → Bool
synchronizes Baudot Preamble = false
synchronizes Baudot ShiftCode = true
synchronizes Baudot OwnCode = true
synchronizes Dtmf Preamble = false
synchronizes Dtmf ShiftCode = false
synchronizes Dtmf OwnCode = true
synchronizes Edt part = false

-- In EDT the end of the idle period synchronizes.
abbrev pub at_once : Alphabet → Bool
at_once Baudot = false
at_once Dtmf = false
at_once Edt = true

-- At most so many characters are taken before that point.
abbrev pub most_before : Alphabet → ℕ
most_before Baudot = 0
most_before Dtmf = 1
most_before Edt = 0

-- The ms is the last of such a code.
abbrev pub ends_synchronizing : Mode → List Part → Bool
ends_synchronizing mode [] = false
ends_synchronizing mode (part ∷ parts) = synchronizes (alphabet_of mode) part

-- How many ms there are up to the last one of the first such code, or so far while none has ended.
unfoldable pub until_synchronized : Mode → List Did → ℕ
until_synchronized mode [] = 0
until_synchronized mode (d ∷ ds) = cond (ends_synchronizing mode d.ended) 1 (suc (until_synchronized mode ds))

abbrev pub synchronized_after : Mode → List Did → ℕ
synchronized_after mode ds = cond (at_once (alphabet_of mode)) 0 (until_synchronized mode ds)

-- That code, if it has ended.
unfoldable pub synchronizing_code : Mode → List Did → List Part
synchronizing_code mode [] = []
synchronizing_code mode (d ∷ ds) = cond (ends_synchronizing mode d.ended) d.ended (synchronizing_code mode ds)

-- In none of the ms there is a burst.
unfoldable pub NoBurst : List Did → Type 0
NoBurst [] = Unit {0}
NoBurst (d ∷ ds) = (d.burst ≡ false) × NoBurst ds

-- In the last of the ms there is none.
unfoldable pub EndsIdle : List Did → Type 0
EndsIdle [] = Unit {0}
EndsIdle (d ∷ []) = d.burst ≡ false
EndsIdle (d ∷ (e ∷ ds)) = EndsIdle (e ∷ ds)
