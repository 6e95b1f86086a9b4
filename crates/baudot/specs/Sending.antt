-- Document 01, "Baudot alphabet (Annex A)": the sending rule. A shift (there: case) is 0 fresh, 1 letters, 2 figures.
use Rattle.std.specs.Prelude.{Option, Some, None}
use Rattle.alphabet.specs.declared.CharCode.{CharCode}
use Rattle.std.specs.Prelude.{ℕ, ◌+◌, ◌≤◌, Bool, cond, not, ◌&&◌, List, [], ◌∷◌, ◌++◌, eqb, leb}
use Rattle.alphabet.specs.declared.Alphabet.TheVariants.{Baudot}
use Rattle.alphabet.specs.Baudot.{letters, figures, any_shift, letters_code, figures_code}
use Rattle.alphabet.specs.Normal.{sends}
use Rattle.baudot.specs.declared.Sender.{Sender}

abbrev pub sender : ℕ → ℕ → Sender
sender shift count = record { shift = shift; count = count }

abbrev pub fresh : Sender
fresh = sender 0 0

-- The code that selects a shift.
abbrev pub shift_code : ℕ → ℕ
shift_code shift = cond (eqb shift figures) figures_code letters_code

-- A code of the shift `own` (3: of both) is not of this shift.
abbrev pub differs : ℕ → ℕ → Bool
differs own shift = not (eqb own any_shift) && not (eqb own shift)

-- The shift code that is wanted ahead of a code of the shift `own`, 0 for none: letters from a fresh sender; the code's
-- shift if it differs; the shift in force if 72 characters have gone since the last shift code.
unfoldable pub wanted : Sender → ℕ → ℕ
wanted s own =
    cond (eqb s.shift 0) letters
    (cond (differs own s.shift) own
    (cond (leb 72 s.count) s.shift 0))

-- The sender after a wanted shift code: the count starts again at each; shift codes are not counted.
abbrev pub shifted : Sender → ℕ → Sender
shifted s w = cond (eqb w 0) s (sender w 0)

abbrev pub shift_codes : ℕ → List ℕ
shift_codes w = cond (eqb w 0) [] (shift_code w ∷ [])

-- The sender after the shift codes ahead of a code of the shift `own`: two at most, a fresh sender's and a change.
abbrev pub opened : Sender → ℕ → Sender
opened s own = shifted s (wanted s own)

abbrev pub sender_ahead : Sender → ℕ → Sender
sender_ahead s own = shifted (opened s own) (wanted (opened s own) own)

abbrev pub codes_ahead : Sender → ℕ → List ℕ
codes_ahead s own = shift_codes (wanted s own) ++ shift_codes (wanted (opened s own) own)

-- One more character has gone.
abbrev pub counted : Sender → Sender
counted s = sender s.shift (s.count + 1)

-- What is sent for a character, and the sender after it.
unfoldable pub codes_for : Sender → Option CharCode → List ℕ
codes_for s None = []
codes_for s (Some o) = codes_ahead s o.shift ++ o.code.0 ∷ []

unfoldable pub sender_for : Sender → Option CharCode → Sender
sender_for s None = s
sender_for s (Some o) = counted (sender_ahead s o.shift)

-- What is sent for a text, and the sender after it.
unfoldable pub codes_of : Sender → List ℕ → List ℕ
codes_of s [] = []
codes_of s (c ∷ cs) = codes_for s (sends Baudot c) ++ codes_of (sender_for s (sends Baudot c)) cs

unfoldable pub sender_after : Sender → List ℕ → Sender
sender_after s [] = s
sender_after s (c ∷ cs) = sender_after (sender_for s (sends Baudot c)) cs

-- Question 1 of a sender: the shift is at most 2, the count at most 72.
abbrev pub in_range : Sender → Bool
in_range s = leb s.shift 2 && leb s.count 72

-- A sender that is in range and not fresh.
pub record Running (s : Sender) : Type 0 where
  pub shift_low : 1 ≤ s.shift
  pub shift_in : s.shift ≤ 2
  pub count_in : s.count ≤ 72
