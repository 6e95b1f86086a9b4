-- Document 01, "Line signal": what a code sounds like, as a list of ms.
use Rattle.std.specs.Prelude.{ℕ, zero, suc, ◌+◌, ◌*◌, ◌/◌, ◌%◌, cond, List, [], ◌∷◌, ◌++◌, eqb, get_or, replicate}
use Rattle.lists.specs.Tables.{tabulate}
use Rattle.alphabet.specs.declared.Mode.{Mode}
use Rattle.alphabet.specs.declared.Mode.TheVariants.{Baudot45, Baudot50, Dtmf, Edt}
use Rattle.alphabet.specs.Modes.{element_of, preamble_of}
use Rattle.alphabet.specs.Dtmf.{keys_of}

-- A sent or heard ms: 0 quiet, 1 mark, 2 space; in DTMF 0 quiet or a key.
abbrev pub quiet : ℕ
quiet = 0

abbrev pub mark : ℕ
mark = 1

abbrev pub space : ℕ
space = 2

-- A binary digit on the line: 1 as mark.
abbrev pub level_of : ℕ → ℕ
level_of d = cond (eqb d 1) mark space

-- The lowest n binary digits of a number, rightmost first.
unfoldable pub digits : ℕ → ℕ → List ℕ
digits zero k = []
digits (suc n) k = k % 2 ∷ digits n (k / 2)

-- Each digit held for e ms.
unfoldable pub held : ℕ → List ℕ → List ℕ
held e [] = []
held e (d ∷ ds) = replicate e (level_of d) ++ held e ds

-- A Baudot code at element e. Start: space, e. Five elements, rightmost digit first. Stop: mark, 3e/2.
unfoldable pub baudot_signal : ℕ → ℕ → List ℕ
baudot_signal e k = held e (0 ∷ digits 5 k) ++ replicate (3 * e / 2) mark

-- The sum of digits.
unfoldable pub sum : List ℕ → ℕ
sum [] = 0
sum (d ∷ ds) = d + sum ds

-- "EDT alphabet": even parity: with it the sum of the digits is even.
abbrev pub parity_of : ℕ → ℕ
parity_of c = sum (digits 7 c) % 2

-- Start, seven bits lowest first, even parity, two stop elements: eleven.
unfoldable pub edt_elements : ℕ → List ℕ
edt_elements c = 0 ∷ digits 7 c ++ parity_of c ∷ 1 ∷ 1 ∷ []

-- An EDT code: 100 ms; ms m belongs to element floor(11 m / 100).
unfoldable pub edt_signal : ℕ → List ℕ
edt_signal c = tabulate (λ (m : ℕ). level_of (get_or (edt_elements c) (11 * m / 100) 1)) 100 0

-- Keys one after the other, each `on` ms, then `off` quiet.
unfoldable pub held_keys : ℕ → ℕ → List ℕ → List ℕ
held_keys on off [] = []
held_keys on off (k ∷ ks) = replicate on k ++ (replicate off quiet ++ held_keys on off ks)

-- A DTMF key: 70 ms, then 50 quiet.
abbrev pub keys_signal : List ℕ → List ℕ
keys_signal ks = held_keys 70 50 ks

-- The line signal of a code.
unfoldable pub signal : Mode → ℕ → List ℕ
signal Baudot45 k = baudot_signal (element_of Baudot45) k
signal Baudot50 k = baudot_signal (element_of Baudot50) k
signal Dtmf k = keys_signal (keys_of k)
signal Edt k = edt_signal k

-- "The station's turn": the preamble (there: lead), all of mark.
abbrev pub preamble : Mode → List ℕ
preamble mode = replicate (preamble_of mode) mark

-- Codes follow without gap.
unfoldable pub signals : Mode → List ℕ → List ℕ
signals mode [] = []
signals mode (k ∷ ks) = signal mode k ++ signals mode ks
