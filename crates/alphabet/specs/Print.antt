-- How the printed tables of V.18's Annexes A and B are held and read.
use Rattle.std.specs.Prelude.{ℕ, ◌+◌, ◌*◌, ◌-◌, cond, ◌&&◌, List, [], ◌∷◌, ◌++◌, eqb, leb}
use Prim.Native.Char.{code}
use Prim.Native.String.{String, [] as empty, ◌∷◌ as ◌then◌}

-- One half of a printed line: what is converted, the character column, what it is converted to.
pub record Row : Type 0 where
  pub from : String
  pub sign : String
  pub to : String

-- A printed line: its left half, then its right half.
pub record Line : Type 0 where
  pub left : Row
  pub right : Row

abbrev pub line : String → String → String → String → String → String → Line
line a b c d e f =
    record { left = record { from = a; sign = b; to = c }; right = record { from = d; sign = e; to = f } }

unfoldable pub left_rows : List Line → List Row
left_rows [] = []
left_rows (l ∷ ls) = l.left ∷ left_rows ls

unfoldable pub right_rows : List Line → List Row
right_rows [] = []
right_rows (l ∷ ls) = l.right ∷ right_rows ls

-- The rows of a table, left half before right.
unfoldable pub rows : List Line → List Row
rows ls = left_rows ls ++ right_rows ls

-- n, then one printed sign as a binary digit; a blank changes nothing.
abbrev pub with_digit : ℕ → ℕ → ℕ
with_digit n c = cond (eqb c 0x30) (2 * n) (cond (eqb c 0x31) (2 * n + 1) n)

unfoldable pub bits_from : ℕ → String → ℕ
bits_from n empty = n
bits_from n (c then s) = bits_from (with_digit n (code c)) s

-- A code that is printed in binary, as "100 0001".
unfoldable pub bits : String → ℕ
bits s = bits_from 0 s

-- The key of a printed sign: 1 to 9 for the digits, 10 for 0, 11 for *, 12 for #; 0 for any other.
abbrev pub key_of : ℕ → ℕ
key_of c =
    cond (eqb c 0x30) 10
    (cond (eqb c 0x2a) 11
    (cond (eqb c 0x23) 12
    (cond (leb 0x31 c && leb c 0x39) (c - 0x30) 0)))

-- A DTMF code as printed, as "##*1".
unfoldable pub keys : String → List ℕ
keys empty = []
keys (c then s) = key_of (code c) ∷ keys s
