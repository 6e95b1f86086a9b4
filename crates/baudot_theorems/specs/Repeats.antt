-- Document 01, "Baudot alphabet (Annex A)", the count of 72, exactly: what any number of characters of one shift send.
use Rattle.std.specs.Prelude.{Option, Some, None}
use Rattle.alphabet.specs.declared.CharCode.{CharCode}
use Rattle.std.specs.Prelude.{ℕ, ◌+◌, ◌%◌, Bool, true, cond, not, ◌&&◌, List, [], ◌∷◌, ◌++◌, eqb, leb}
use Rattle.alphabet.specs.declared.Alphabet.TheVariants.{Baudot}
use Rattle.alphabet.specs.Baudot.{letters_code}
use Rattle.alphabet.specs.Normal.{sends}
use Rattle.baudot.specs.Sending.{shift_code, differs}

-- What a character sends is of a shift: a code of it or of both, or nothing.
abbrev pub of_shift : ℕ → Option CharCode → Bool
of_shift shift None = true
of_shift shift (Some o) = not (differs o.shift shift)

-- Every character of a text is.
unfoldable pub all_of_shift : ℕ → List ℕ → Bool
all_of_shift shift [] = true
all_of_shift shift (c ∷ cs) = of_shift shift (sends Baudot c) && all_of_shift shift cs

-- 72 characters have gone, or 144, or another multiple of 72.
abbrev pub repeats : ℕ → Bool
repeats gone = leb 1 gone && eqb (gone % 72) 0

-- Codes, with the shift code after each 72 and nowhere else. `gone` characters precede the first since the last shift
-- code; they are counted on and on, and no shift code starts them again.
unfoldable pub with_repeats : ℕ → ℕ → List ℕ → List ℕ
with_repeats shift gone [] = []
with_repeats shift gone (k ∷ ks) =
    cond (repeats gone) (shift_code shift ∷ []) [] ++ k ∷ with_repeats shift (gone + 1) ks

-- 11111 ahead of the first code, if there is one.
unfoldable pub letters_first : List ℕ → List ℕ
letters_first [] = []
letters_first (k ∷ ks) = letters_code ∷ k ∷ ks
