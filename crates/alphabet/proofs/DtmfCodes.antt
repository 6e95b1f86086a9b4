-- Numbers of DTMF codes: what zero to three marks and one digit have is one, and so is what a character sends, by the
-- rows of the tables.
use Rattle.std.specs.Prelude.{Option, Some, None}
use Rattle.alphabet.specs.declared.CharCode.{CharCode}
use Rattle.alphabet.specs.Codes.{char_code}
use mathlib.Core.Path.{◌≡◌, ◌∙◌, refl, sym, subst}
use mathlib.Core.Bool.{Bool, true, false, cond, not, ◌&&◌, ◌||◌, false≢true}
use mathlib.Core.List.{List, [], ◌∷◌}
use Prim.Native.Nat.{ℕ, zero, suc, ◌+◌, ◌*◌, ◌-◌, ◌/◌, ◌%◌, ◌<◌, ◌≤◌}
use Prim.Native.String.{String}
use native.Mathlib.Omega.{arith}
use lib.Dec.{T, eqb, leb, ltb}
use lib.ListN.{length}
use lib.Text.{eqt, eqt→eq}
use borrow.Author.Tests.{eqb-true, ne_eqb, leb-true, ltb-true, ltb-false, le-leb, lt-ltb}
use Rattle.lists.proofs.Lists.{either, and_left, and_right}
use Rattle.alphabet.specs.declared.Alphabet.TheVariants.{Dtmf}
use Rattle.alphabet.specs.declared.LineCode.{LineCode}
use Rattle.alphabet.specs.Print.{Row, rows, keys}
use Rattle.alphabet.specs.TableB1.{b1}
use Rattle.alphabet.specs.TableB2.{b2}
use Rattle.alphabet.specs.Baudot.{printed_at}
use Rattle.alphabet.specs.Dtmf.{is_digit, is_mark, with_mark, is_dtmf_code, code_from, code_of_keys, marks_then_digit, is_code}
use Rattle.alphabet.specs.Dtmf.{among, not_struck, remaining, drawn, send_in, has_row, send_from, send_dtmf}
use Rattle.alphabet.specs.Normal.{sends}

-- the tests on a key, taken apart
pub digit-bounds : (k : ℕ) → is_digit k ≡ true → (1 ≤ k) × (k ≤ 10)
digit-bounds k t = (leb-true 1 k (and_left (leb 1 k) (leb k 10) t), leb-true k 10 (and_right (leb 1 k) (leb k 10) t))

pub mark-bounds : (k : ℕ) → is_mark k ≡ true → (11 ≤ k) × (k ≤ 12)
mark-bounds k t = go (eqb k 11) refl t
  where
    go : (b : Bool) → eqb k 11 ≡ b → (b || eqb k 12) ≡ true → (11 ≤ k) × (k ≤ 12)
    go true e u = let p = eqb-true k 11 e in (omega arith, omega arith)
    go false e u = let p = eqb-true k 12 u in (omega arith, omega arith)

pub not-mark : (k : ℕ) → k ≤ 10 → is_mark k ≡ false
not-mark k h = rw (ne_eqb k 11 (λ e. omega arith), ne_eqb k 12 (λ e. omega arith)) refl

pub prefix-few : (n : ℕ) → is_dtmf_code n ≡ true → n / 16 < 15
unfolding is_dtmf_code
prefix-few n e = ltb-true (n / 16) 15 (and_left (ltb (n / 16) 15) (is_digit (n % 16)) e)

pub number-few : (n : ℕ) → is_dtmf_code n ≡ true → n < 256
number-few n e = let h = prefix-few n e in omega arith

pub number-some : (n : ℕ) → is_dtmf_code n ≡ true → 1 ≤ n
unfolding is_dtmf_code
number-some n e = let d = (digit-bounds (n % 16) (and_right (ltb (n / 16) 15) (is_digit (n % 16)) e)).0 in omega arith

-- ---- the number of a code that is given by its keys

-- a prefix is below this where so many keys are left
limit : ℕ → ℕ
limit zero = 16
limit (suc zero) = 15
limit (suc (suc zero)) = 7
limit (suc (suc (suc zero))) = 3
limit (suc (suc (suc (suc zero)))) = 1
limit (suc (suc (suc (suc (suc n))))) = 0

limit-most : (n p : ℕ) → p < limit (suc n) → p < 15
unfolding limit
limit-most zero p h = h
limit-most (suc zero) p h = omega arith
limit-most (suc (suc zero)) p h = omega arith
limit-most (suc (suc (suc zero))) p h = omega arith
limit-most (suc (suc (suc (suc n)))) p h = absurd (omega arith)

limit-some : (n : ℕ) → n ≤ 4 → 0 < limit n
unfolding limit
limit-some zero h = omega arith
limit-some (suc zero) h = omega arith
limit-some (suc (suc zero)) h = omega arith
limit-some (suc (suc (suc zero))) h = omega arith
limit-some (suc (suc (suc (suc zero)))) h = omega arith
limit-some (suc (suc (suc (suc (suc n))))) h = absurd (omega arith)

limit-mark : (n p k : ℕ) → k ≤ 12 → p < limit (suc n) → with_mark p k < limit n
unfolding limit with_mark
limit-mark n p k m h = go n (ltb p 7) refl h
  where
    go : (n : ℕ) (b : Bool) → ltb p 7 ≡ b → p < limit (suc n) → cond b (2 * p + (k - 10)) 15 < limit n
    go zero true e h = let l = ltb-true p 7 e in omega arith
    go zero false e h = omega arith
    go (suc zero) true e h = omega arith
    go (suc (suc zero)) true e h = omega arith
    go (suc (suc (suc zero))) true e h = omega arith
    go (suc (suc (suc (suc n)))) b e h = absurd (omega arith)
    go (suc zero) false e h = let l = ltb-false p 7 e in absurd (omega arith)
    go (suc (suc zero)) false e h = let l = ltb-false p 7 e in absurd (omega arith)
    go (suc (suc (suc zero))) false e h = let l = ltb-false p 7 e in absurd (omega arith)

marked : (k : ℕ) (ks : List ℕ) → is_digit k ≡ false → marks_then_digit (k ∷ ks) ≡ (is_mark k && marks_then_digit ks)
unfolding marks_then_digit
marked k ks d = rw d refl

digit-number : (p k : ℕ) → p < 15 → is_digit k ≡ true → is_dtmf_code (16 * p + k) ≡ true
unfolding is_dtmf_code
digit-number p k h e =
    let d = digit-bounds k e in
    let n = 16 * p + k in
    rw (lt-ltb (n / 16) 15 (omega arith), le-leb 1 (n % 16) (omega arith), le-leb (n % 16) 10 (omega arith)) refl

keys-number : (p : ℕ) (ks : List ℕ) → p < limit (length ks) → marks_then_digit ks ≡ true
    → is_dtmf_code (code_from p ks) ≡ true
unfolding code_from marks_then_digit
keys-number p [] h e = absurd (false≢true e)
keys-number p (k ∷ ks) h e = go (is_digit k) refl (keys-number (with_mark p k) ks)
  where
    Rest : Type 0
    Rest = with_mark p k < limit (length ks) → marks_then_digit ks ≡ true
        → is_dtmf_code (code_from (with_mark p k) ks) ≡ true

    go : (b : Bool) → is_digit k ≡ b → Rest → is_dtmf_code (code_from p (k ∷ ks)) ≡ true
    go true d rest = rw (not-mark k (digit-bounds k d).1) (digit-number p k (limit-most (length ks) p h) d)
    go false d rest =
        let f = sym (marked k ks d) ∙ e in
        let m = and_left (is_mark k) (marks_then_digit ks) f in
        let l = limit-mark (length ks) p k (mark-bounds k m).1 h in
        rw m (rest l (and_right (is_mark k) (marks_then_digit ks) f))

-- the keys of a code have the number of one
pub keys-code : (ks : List ℕ) → is_code ks ≡ true → is_dtmf_code (code_of_keys ks) ≡ true
keys-code ks e =
    let n = leb-true (length ks) 4 (and_left (leb (length ks) 4) (marks_then_digit ks) e) in
    keys-number 0 ks (limit-some (length ks) n) (and_right (leb (length ks) 4) (marks_then_digit ks) e)

-- ---- what a character sends

AllCodes : List Row → Type 0
AllCodes [] = Unit {0}
AllCodes (r ∷ rs) = (is_dtmf_code (code_of_keys (keys r.from)) ≡ true) × AllCodes rs

rows-codes : (earlier : List String) (rs : List Row) → AllCodes (not_struck earlier rs)
unfolding AllCodes not_struck
rows-codes earlier [] = tt
rows-codes earlier (r ∷ rs) = go (is_code (keys r.from) && new) refl (rows-codes (r.from ∷ earlier) rs)
  where
    new : Bool
    new = not (among r.from earlier)

    later : List Row
    later = not_struck (r.from ∷ earlier) rs

    go : (b : Bool) → (is_code (keys r.from) && new) ≡ b → AllCodes later → AllCodes (cond b (r ∷ later) later)
    go true e rest = (keys-code (keys r.from) (and_left (is_code (keys r.from)) new e), rest)
    go false e rest = rest

row-code : (s : String) (rs : List Row) → AllCodes rs → has_row s rs ≡ true
    → is_dtmf_code (code_of_keys (keys s)) ≡ true
unfolding AllCodes has_row
row-code s [] h e = absurd (false≢true e)
row-code s (r ∷ rs) h e = go (eqt s r.from) refl e (row-code s rs h.1)
  where
    IsCode : String → Type 0
    IsCode t = is_dtmf_code (code_of_keys (keys t)) ≡ true

    go : (b : Bool) → eqt s r.from ≡ b → (b || has_row s rs) ≡ true → (has_row s rs ≡ true → IsCode s) → IsCode s
    go true f g rest = subst IsCode (sym (eqt→eq s r.from (subst T (sym f) tt))) h.0
    go false f g rest = rest g

abbrev CodeSent : Option CharCode → Type 0
CodeSent None = Unit {0}
CodeSent (Some o) = is_dtmf_code o.code.0 ≡ true

in_rows : (c : ℕ) (x : Option CharCode) (rs : List Row) → CodeSent x → AllCodes rs → CodeSent (send_in c x rs)
unfolding AllCodes send_in
in_rows c x [] f h = f
in_rows c x (r ∷ rs) f h = either CodeSent (eqb (drawn r.sign) c) _ _ h.0 (in_rows c x rs f h.1)

dtmf-sent : (c : ℕ) → CodeSent (send_dtmf c)
unfolding remaining send_from send_dtmf
dtmf-sent c = either CodeSent (eqb c 0x00) None _ tt (in_rows c _ remaining (by-b2 (has_row s remaining) refl) all)
  where
    s : String
    s = printed_at c (rows b2)

    all : AllCodes remaining
    all = rows-codes [] (rows b1)

    by-b2 : (b : Bool) → has_row s remaining ≡ b
        → CodeSent (cond b (char_code 3 (record { 0 = code_of_keys (keys s) })) None)
    by-b2 true e = row-code s remaining all e
    by-b2 false e = tt

-- a code that a character sends is one of these
pub dtmf-sends : (c s : ℕ) (k : LineCode) → sends Dtmf c ≡ char_code s k → is_dtmf_code k.0 ≡ true
unfolding sends
dtmf-sends c s k e = subst CodeSent e (dtmf-sent c)
