-- What a character sends is in range: its shift and its code. By the rows of the tables, each looked at once.
use Rattle.std.specs.Prelude.{Option, None}
use Rattle.alphabet.specs.declared.CharCode.{CharCode}
use Rattle.alphabet.specs.Codes.{char_code}
use mathlib.Core.Path.{◌≡◌, refl, subst}
use mathlib.Core.Bool.{Bool, true, false, cond, ◌&&◌}
use mathlib.Core.List.{List, [], ◌∷◌}
use Prim.Native.Nat.{ℕ, ◌+◌, ◌*◌, ◌-◌, ◌<◌, ◌≤◌}
use Prim.Native.Char.{code}
use Prim.Native.String.{String, [] as empty, ◌∷◌ as ◌then◌}
use native.Mathlib.Omega.{arith}
use lib.Dec.{T, eqb, leb, ltb, ltb→lt}
use borrow.Author.Tests.{leb-true, ltb-true}
use Rattle.lists.proofs.Lists.{either, and_right}
use Rattle.lists.proofs.Tables.{both_left, both_right}
use Rattle.alphabet.specs.declared.Alphabet.{Alphabet}
use Rattle.alphabet.specs.declared.Alphabet.TheVariants.{Baudot, Dtmf, Edt}
use Rattle.alphabet.specs.declared.LineCode.{LineCode}
use Rattle.alphabet.specs.declared.Reads.{Reads}
use Rattle.alphabet.specs.declared.Reads.TheVariants.{Character, Shift, NoRow}
use Rattle.alphabet.specs.Print.{Row, left_rows, right_rows, rows, bits_from, bits, key_of, keys}
use Rattle.alphabet.specs.TableA2.{a2}
use Rattle.alphabet.specs.TableB1.{b1}
use Rattle.alphabet.specs.TableB2.{b2}
use Rattle.alphabet.specs.Baudot.{in_both_shifts, belongs_to_letters, own_shift, printed_for, is_null, printed_at}
use Rattle.alphabet.specs.Baudot.{send_baudot}
use Rattle.alphabet.specs.Dtmf.{is_mark, with_mark, code_from, marks_then_digit, among, not_struck, remaining}
use Rattle.alphabet.specs.Dtmf.{names, first_sign, named, drawn, read_in, read_dtmf}
use Rattle.alphabet.specs.Dtmf.{send_in, has_row, send_from, send_dtmf}
use Rattle.alphabet.specs.Normal.{sends}
use Rattle.alphabet.specs.Modes.{codes}

-- the shifts of an alphabet's codes are at least this
abbrev pub least_shift : Alphabet → ℕ
least_shift Baudot = 1
least_shift Dtmf = 3
least_shift Edt = 3

pub some-shift : (a : Alphabet) → 1 ≤ least_shift a
some-shift Baudot = omega arith
some-shift Dtmf = omega arith
some-shift Edt = omega arith

-- a code fits a byte
pub few-codes : (a : Alphabet) → codes a ≤ 256
few-codes Baudot = omega arith
few-codes Dtmf = omega arith
few-codes Edt = omega arith

-- a shift and a code of an alphabet
pub record InRange (a : Alphabet) (s : ℕ) (k : LineCode) : Type 0 where
  pub shift_least : least_shift a ≤ s
  pub shift-most : s ≤ 3
  pub code-in : k.0 < codes a

-- nothing, or a code in range
pub data Fits (a : Alphabet) : Option CharCode → Type 0 where
  nothing : Fits a None
  a-code : (s : ℕ) (k : LineCode) → InRange a s k → Fits a (char_code s k)

-- ---- Baudot: the shift by its cases; the code by the last column of Table A.2

codes_below : ℕ → List Row → Bool
codes_below n [] = true
codes_below n (r ∷ rs) = ltb (bits r.to) n && codes_below n rs

a2-test : T (codes_below 32 (rows a2))
unfolding codes_below rows left_rows right_rows a2 bits bits_from
a2-test = tt

printed-below : (n m : ℕ) (rs : List Row) → 0 < n → T (codes_below n rs) → bits (printed_at m rs) < n
unfolding codes_below printed_at bits bits_from
printed-below n m [] z t = z
printed-below n m (r ∷ rs) z t =
    either (λ (s : String). bits s < n) (eqb (bits r.from) m) r.to (printed_at m rs)
    (ltb→lt (bits r.to) n (both_left (ltb (bits r.to) n) (codes_below n rs) t))
    (printed-below n m rs z (both_right (ltb (bits r.to) n) (codes_below n rs) t))

own-shift-in : (c k : ℕ) → (1 ≤ own_shift c k) × (own_shift c k ≤ 3)
own-shift-in c k =
    let P : ℕ → Type 0 = λ (n : ℕ). (1 ≤ n) × (n ≤ 3) in
    let letters = either P (belongs_to_letters c) 1 2 (omega arith, omega arith) (omega arith, omega arith) in
    either P (in_both_shifts k) 3 _ (omega arith, omega arith) letters

baudot-fits : (c : ℕ) → Fits Baudot (send_baudot c)
unfolding send_baudot
baudot-fits c =
    let k = bits (printed_for c) in
    let s = own-shift-in c k in
    either (Fits Baudot) (is_null (printed_for c)) None (char_code (own_shift c k) (record { 0 = k })) nothing
    (a-code _ _ (record {
      shift_least = s.0;
      shift-most = s.1;
      code-in = printed-below 32 _ (rows a2) (omega arith) a2-test;
    }))

-- ---- DTMF: a code of any keys is below 256

key-most : (c : ℕ) → key_of c ≤ 12
key-most c =
    let P : ℕ → Type 0 = λ (n : ℕ). n ≤ 12 in
    either P (eqb c 0x30) 10 _ (omega arith)
    (either P (eqb c 0x2a) 11 _ (omega arith)
    (either P (eqb c 0x23) 12 _ (omega arith) (go (leb 0x31 c && leb c 0x39) refl)))
  where
    go : (b : Bool) → (leb 0x31 c && leb c 0x39) ≡ b → cond b (c - 0x30) 0 ≤ 12
    go true e = let h = leb-true c 0x39 (and_right (leb 0x31 c) (leb c 0x39) e) in omega arith
    go false e = omega arith

mark-most : (p k : ℕ) → k ≤ 12 → with_mark p k ≤ 15
unfolding with_mark
mark-most p k h = go (ltb p 7) refl
  where
    go : (b : Bool) → ltb p 7 ≡ b → cond b (2 * p + (k - 10)) 15 ≤ 15
    go true e = let l = ltb-true p 7 e in omega arith
    go false e = omega arith

code_below : (p : ℕ) (s : String) → p ≤ 15 → code_from p (keys s) < 256
unfolding code_from keys
code_below p empty h = omega arith
code_below p (c then s) h =
    let k = key_of (code c) in
    let m = key-most (code c) in
    either (λ (n : ℕ). n < 256) (is_mark k) _ _ (code_below (with_mark p k) s (mark-most p k m)) (omega arith)

dtmf-code : (s : String) → Fits Dtmf (char_code 3 (record { 0 = code_from 0 (keys s) }))
dtmf-code s =
    a-code 3 (record { 0 = code_from 0 (keys s) })
    (record { shift_least = omega arith; shift-most = omega arith; code-in = code_below 0 s (omega arith) })

row_fits : (c : ℕ) (x : Option CharCode) → Fits Dtmf x → (rs : List Row) → Fits Dtmf (send_in c x rs)
unfolding send_in
row_fits c x f [] = f
row_fits c x f (r ∷ rs) =
    either (Fits Dtmf) (eqb (drawn r.sign) c) (char_code 3 (record { 0 = code_from 0 (keys r.from) })) (send_in c x rs)
    (dtmf-code r.from) (row_fits c x f rs)

dtmf-fits : (c : ℕ) → Fits Dtmf (send_dtmf c)
unfolding send_from send_dtmf
dtmf-fits c =
    let s = printed_at c (rows b2) in
    let k : Option CharCode = char_code 3 (record { 0 = code_from 0 (keys s) }) in
    let f = either (Fits Dtmf) (has_row s remaining) k None (dtmf-code s) nothing in
    either (Fits Dtmf) (eqb c 0x00) None _ nothing (row_fits c _ f remaining)

fits : (a : Alphabet) (c : ℕ) → c < 128 → Fits a (sends a c)
unfolding sends
fits Baudot c h = baudot-fits c
fits Dtmf c h = dtmf-fits c
fits Edt c h =
    let k : LineCode = record { 0 = c } in
    let r : InRange Edt 3 k = record { shift_least = omega arith; shift-most = omega arith; code-in = h } in
    either (Fits Edt) (leb c 0x7f) (char_code 3 k) None (a-code 3 k r) nothing

-- a code that a character sends is in range
pub range-of : (a : Alphabet) (c : ℕ) → c < 128 → (s : ℕ) (k : LineCode) → sends a c ≡ char_code s k → InRange a s k
range-of a c h s k e = taken (subst (Fits a) e (fits a c h))
  where
    taken : Fits a (char_code s k) → InRange a s k
    taken (a-code s k r) = r

-- ---- reading DTMF: the characters that remain in Table B.1 are below 128

chars_below : List Row → Bool
chars_below [] = true
chars_below (r ∷ rs) = ltb (drawn r.sign) 128 && chars_below rs

b1-test : T (chars_below remaining)
unfolding chars_below rows left_rows right_rows b1 keys with_mark code_from marks_then_digit among not_struck remaining
    names first_sign named
b1-test = tt

-- what is read of a DTMF code: a character below 128, or none
abbrev pub char_or_none : Reads → Bool
char_or_none (Character c) = ltb c.0 128
char_or_none (Shift s) = false
char_or_none NoRow = true

read-row : (n : ℕ) (rs : List Row) → T (chars_below rs) → T (char_or_none (read_in n rs))
unfolding chars_below read_in
read-row n [] t = tt
read-row n (r ∷ rs) t =
    let b = ltb (drawn r.sign) 128 in
    let k = code_from 0 (keys r.from) in
    either (λ (x : Reads). T (char_or_none x)) (eqb k n) (Character (record { 0 = drawn r.sign })) (read_in n rs)
    (both_left b (chars_below rs) t) (read-row n rs (both_right b (chars_below rs) t))

pub dtmf-read : (n : ℕ) → T (char_or_none (read_dtmf n))
unfolding read_dtmf
dtmf-read n = read-row n remaining b1-test
