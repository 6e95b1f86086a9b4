-- Document 01, "The calling set (5.1)": what is heard. Each heard ms is one of: 0 none, 1 ANSam, 2 ANS, 3 2225 Hz,
-- 4 1650, 5 1300, 6 1270, 7 980, 8 Baudot 45.45, 9 Baudot 50, 10 DTMF, 11 EDT.
use Rattle.std.specs.Prelude.{ℕ, Bool, cond, List, [], ◌∷◌, eqb}
use Rattle.lists.specs.Lists.{all_at_most}

abbrev pub none : ℕ
none = 0

-- A tone, and the ms that it must last in a row to be the choice.
pub record Lasts : Type 0 where
  pub tone : ℕ
  pub ms : ℕ

abbrev pub lasts : ℕ → ℕ → Lasts
lasts tone ms = record { tone = tone; ms = ms }

-- The lengths, as printed: 3 and 4: 500; 5: 1,700; 6: 700; 7: 1,500; ..
unfoldable pub lengths : List Lasts
lengths =
    lasts 3 500 ∷
    lasts 4 500 ∷
    lasts 5 1_700 ∷
    lasts 6 700 ∷
    lasts 7 1_500 ∷
    []

-- .. others: 1.
unfoldable pub length_in : ℕ → List Lasts → ℕ
length_in tone [] = 1
length_in tone (l ∷ ls) =
    let later = length_in tone ls in
    cond (eqb tone l.tone) l.ms later

abbrev pub length_of : ℕ → ℕ
length_of tone = length_in tone lengths

-- The longest of these: 1300 Hz.
abbrev pub longest : ℕ
longest = length_of 5

-- The last of the tones: EDT.
abbrev pub last_tone : ℕ
last_tone = 11

-- Question 11: every heard ms is 0 to 11.
abbrev pub all_tones : List ℕ → Bool
all_tones hs = all_at_most last_tone hs
