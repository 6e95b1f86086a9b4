-- The numbering of DTMF codes, and what is never sent.
use Rattle.alphabet.specs.Codes.{char_code}
use mathlib.Core.Path.{◌≡◌, refl}
use mathlib.Core.Bool.{Bool, true, cond, not, ◌&&◌}
use Prim.Native.Nat.{ℕ, zero, suc, ◌+◌}
use lib.Dec.{T, eqb, eqb→eq}
use Rattle.lists.specs.Tables.{passes}
use Rattle.lists.proofs.Tables.{is_true, passes_at, both_left, both_right}
use Rattle.alphabet.specs.Print.{left_rows, right_rows, rows, bits_from, bits, keys}
use Rattle.alphabet.specs.TableB1.{b1}
use Rattle.alphabet.specs.TableB2.{b2}
use Rattle.alphabet.specs.Baudot.{printed_at}
use Rattle.alphabet.specs.Dtmf.{with_mark, is_dtmf_code, is_code, code_from, code_of_keys, prefixes, keys_of, marks_then_digit, among, not_struck, remaining, names, first_sign, named, send_in, has_row, send_from, send_dtmf}
use Rattle.alphabet.proofs.DtmfCodes.{number-few}
use Rattle.alphabet_theorems.proofs.Same.{same_sends}

-- the number of a code has the keys of one, and they have this number
abbrev numbered : ℕ → Bool
numbered n = cond (is_dtmf_code n) (is_code (keys_of n) && eqb (code_of_keys (keys_of n)) n) true

numbered-test : T (passes numbered 256 0)
unfolding passes is_dtmf_code keys with_mark code_from prefixes keys_of marks_then_digit
numbered-test = tt

pub code-keys : (n : ℕ) → is_dtmf_code n ≡ true → (is_code (keys_of n) ≡ true) × (code_of_keys (keys_of n) ≡ n)
code-keys n e =
    let t = passes_at numbered 256 numbered-test n (number-few n e) in
    let u = simp e at t in
    let same = eqb (code_of_keys (keys_of n)) n in
    let shape = is_true _ (both_left (is_code (keys_of n)) same u) in
    (shape, eqb→eq (code_of_keys (keys_of n)) n (both_right (is_code (keys_of n)) same u))

-- there are 150 of them
pub how_many : (ℕ → Bool) → ℕ → ℕ
how_many test zero = 0
how_many test (suc n) = cond (test n) 1 0 + how_many test n

pub dtmf-150 : how_many (is_dtmf_code) 256 ≡ 150
unfolding how_many is_dtmf_code
dtmf-150 = refl

abbrev not_null_code : ℕ → Bool
not_null_code c = not (same_sends (send_dtmf c) (char_code 3 (record { 0 = code_of_keys (keys "**0") })))

-- no character is sent as **0
pub never-null : T (passes not_null_code 128 0)
unfolding passes bits bits_from left_rows right_rows rows b1 b2 printed_at keys with_mark code_from marks_then_digit
    among
    not_struck remaining names first_sign named send_in has_row send_from send_dtmf
never-null = tt
