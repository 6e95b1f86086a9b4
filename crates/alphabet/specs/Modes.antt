-- Document 01, "Four modes": each mode brings its element length, its preamble (there: lead) and its alphabet.
use Rattle.std.specs.Prelude.{ℕ, ◌≡◌, ◌&&◌, false, cond, eqb, leb, Result, MatchResult}
use Rattle.refusals.specs.declared.Refusal.{Refusal}
use Rattle.refusals.specs.declared.Refusal.TheVariants as refusal
use Rattle.alphabet.specs.declared.Mode.{Mode}
use Rattle.alphabet.specs.declared.Mode.TheVariants.{Baudot45, Baudot50, Dtmf, Edt}
use Rattle.alphabet.specs.declared.Alphabet.{Alphabet}
use Rattle.alphabet.specs.declared.Alphabet.TheVariants.{Baudot as baudot, Dtmf as dtmf, Edt as edt}

-- 1 Baudot at 45.45 bit/s, 2 Baudot at 50 bit/s, 3 DTMF, 4 EDT.
abbrev pub mode_number : Mode → ℕ
mode_number Baudot45 = 1
mode_number Baudot50 = 2
mode_number Dtmf = 3
mode_number Edt = 4

-- The mode of a number; a number that is no mode's gives mode 1 (question 2).
abbrev pub mode_of : ℕ → Mode
mode_of n = cond (eqb n 2) Baudot50 (cond (eqb n 3) Dtmf (cond (eqb n 4) Edt Baudot45))

-- Question 2: is the mode 1 to 4? A number with its mode, or with the refusal.
abbrev pub IsModeOf : ℕ → Result Mode Refusal → Type 0
IsModeOf n r = MatchResult r (λ mode. mode_number mode ≡ n) (λ e. (e ≡ refusal.Mode) × ((leb 1 n && leb n 4) ≡ false))

-- "Line signal": a Baudot element in ms. DTMF has no elements, and those of EDT are no whole ms: 0.
abbrev pub element_of : Mode → ℕ
element_of Baudot45 = 22
element_of Baudot50 = 20
element_of Dtmf = 0
element_of Edt = 0

-- "The station's turn": the ms of the preamble. EDT: C.1's figure.
abbrev pub preamble_of : Mode → ℕ
preamble_of Baudot45 = 150
preamble_of Baudot50 = 150
preamble_of Dtmf = 0
preamble_of Edt = 300

abbrev pub alphabet_of : Mode → Alphabet
alphabet_of Baudot45 = baudot
alphabet_of Baudot50 = baudot
alphabet_of Dtmf = dtmf
alphabet_of Edt = edt

-- An alphabet's codes are below this: five bits; 16 times the prefix plus the digit's key; seven bits.
abbrev pub codes : Alphabet → ℕ
codes baudot = 32
codes dtmf = 256
codes edt = 128

-- The ms of its longest code, by the laws of `signal`: seven and a half elements; four keys; 100.
abbrev pub longest : Mode → ℕ
longest Baudot45 = 165
longest Baudot50 = 150
longest Dtmf = 480
longest Edt = 100

-- The digits of a frame are below this; DTMF has no frames.
abbrev pub frame_codes : Mode → ℕ
frame_codes Baudot45 = 32
frame_codes Baudot50 = 32
frame_codes Dtmf = 1
frame_codes Edt = 128

-- "Line signal": a heard or sent ms is 0 quiet, 1 mark, 2 space; in DTMF 0 quiet or a key, 1 to 16.
abbrev pub highest_level : Mode → ℕ
highest_level Baudot45 = 2
highest_level Baudot50 = 2
highest_level Dtmf = 16
highest_level Edt = 2
