-- The shift codes of a list, counted.
use Rattle.std.specs.Prelude.{ℕ, ◌+◌, cond, List, [], ◌∷◌, eqb}
use Rattle.alphabet.specs.Baudot.{letters_code, figures_code}

abbrev pub shift_one : ℕ → ℕ
shift_one k = cond (eqb k letters_code) 1 (cond (eqb k figures_code) 1 0)

-- the shift codes of a list
unfoldable pub shifts_in : List ℕ → ℕ
shifts_in [] = 0
shifts_in (k ∷ ks) = shift_one k + shifts_in ks
