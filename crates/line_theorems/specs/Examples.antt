-- Document 01, "Desk examples", first group: what a fresh sender sends for a text in Baudot, and what is read from
-- that; the elements of an EDT character.
use Rattle.std.specs.Prelude.{ℕ, ◌≡◌, List, [], ◌∷◌, ◌++◌, replicate}
use Prim.Native.Char.{code}
use Prim.Native.String.{String, [] as empty, ◌∷◌ as ◌then◌}
use Rattle.alphabet.specs.Baudot.{letters}
use Rattle.baudot.specs.Sending.{fresh, codes_of}
use Rattle.baudot.specs.Reading.{text_of}
use Rattle.signal.specs.Signal.{edt_elements}

unfoldable pub chars : String → List ℕ
chars empty = []
chars (c then s) = code c ∷ chars s

pub data Example : Type 0 where
  baudot : (text codes back : List ℕ) → Example
  edt : (char : ℕ) (elements : List ℕ) → Example

unfoldable pub examples : List Example
examples =
    baudot (chars "a") (0b11111 ∷ 0b00011 ∷ []) (chars "A") ∷
    baudot (chars "A1") (0b11111 ∷ 0b00011 ∷ 0b11011 ∷ 0b10111 ∷ []) (chars "A1") ∷
    baudot (chars "1") (0b11111 ∷ 0b11011 ∷ 0b10111 ∷ []) (chars "1") ∷
    baudot (chars "1 A") (0b11111 ∷ 0b11011 ∷ 0b10111 ∷ 0b00100 ∷ 0b11111 ∷ 0b00011 ∷ []) (chars "1 A") ∷
    baudot (chars "*") (0b11111 ∷ 0b11011 ∷ 0b11100 ∷ []) (chars ".") ∷
    baudot (chars "@") (0b11111 ∷ 0b11101 ∷ []) (chars "X") ∷
    baudot (0x60 ∷ []) (0b11111 ∷ 0b11011 ∷ 0b01011 ∷ []) (chars "'") ∷
    baudot (0x00 ∷ []) [] [] ∷
    baudot (0x09 ∷ []) (0b11111 ∷ 0b00100 ∷ []) (chars " ") ∷
    baudot (replicate 73 0x45) (0b11111 ∷ replicate 72 0b00001 ++ 0b11111 ∷ 0b00001 ∷ []) (replicate 73 0x45) ∷
    edt 0x41 (0 ∷ 1 ∷ 0 ∷ 0 ∷ 0 ∷ 0 ∷ 0 ∷ 1 ∷ 0 ∷ 1 ∷ 1 ∷ []) ∷
    []

abbrev pub Holds : Example → Type 0
Holds (baudot text codes back) = (codes_of fresh text ≡ codes) × (text_of letters codes ≡ back)
Holds (edt char elements) = edt_elements char ≡ elements

-- every example of a list holds
abbrev pub Hold : List Example → Type 0
Hold [] = Unit {0}
Hold (e ∷ es) = Holds e × Hold es
