-- The characters and the shift codes of a list are its codes.
use mathlib.Core.Path.{◌≡◌, refl}
use mathlib.Core.Bool.{Bool, true, false}
use mathlib.Core.List.{List, [], ◌∷◌, ◌++◌}
use Prim.Native.Nat.{ℕ, ◌+◌, ◌-◌, ◌≤◌}
use native.Mathlib.Omega.{arith}
use lib.Dec.{eqb}
use lib.ListN.{length, length-append}
use Rattle.alphabet.specs.Baudot.{letters_code, figures_code, read_baudot}
use Rattle.alphabet.specs.Normal.{chars_of}
use Rattle.baudot.specs.Reading.{shift_by, text_of}
use Rattle.baudot.specs.Counting.{shift_one, shifts_in}

-- a code is a shift code or reads as one character
pub one_of : (s k : ℕ) → length (chars_of (read_baudot s k)) + shift_one k ≡ 1
unfolding read_baudot
one_of s k = go (eqb k letters_code) refl (eqb k figures_code) refl
  where
    go : (a : Bool) → eqb k letters_code ≡ a → (b : Bool) → eqb k figures_code ≡ b
        → length (chars_of (read_baudot s k)) + shift_one k ≡ 1
    go true e b f = simp e
    go false e true f = simp (e, f)
    go false e false f = simp (e, f)

-- so the characters and the shift codes of a list are its codes
pub text-length : (s : ℕ) (ks : List ℕ) → length (text_of s ks) + shifts_in ks ≡ length ks
unfolding text_of shifts_in
text-length s [] = refl
text-length s (k ∷ ks) =
    let a = one_of s k in
    let b = text-length (shift_by s (read_baudot s k)) ks in
    let n = length-append (chars_of (read_baudot s k)) (text_of (shift_by s (read_baudot s k)) ks) in
    omega arith

pub shifts-most : (ks : List ℕ) → shifts_in ks ≤ length ks
shifts-most ks = let a = text-length 1 ks in omega arith

pub shifts-append : (xs ys : List ℕ) → shifts_in (xs ++ ys) ≡ shifts_in xs + shifts_in ys
unfolding shifts_in
shifts-append [] ys = omega arith
shifts-append (x ∷ xs) ys = let e = shifts-append xs ys in omega arith

-- what is read is the codes less the shift codes
pub text-count : (s : ℕ) (ks : List ℕ) → length (text_of s ks) ≡ length ks - shifts_in ks
text-count s ks = let e = text-length s ks in omega arith

pub text-short : (s : ℕ) (ks : List ℕ) → length (text_of s ks) ≤ length ks
text-short s ks = let e = text-length s ks in omega arith
