-- What the packed entries say.
use Rattle.std.specs.Prelude.{Option, Some, None}
use Rattle.alphabet.specs.declared.CharCode.{CharCode}
use Rattle.alphabet.specs.Codes.{char_code}
use mathlib.Core.Path.{◌≡◌, ◌∙◌, refl, sym, ap, subst}
use mathlib.Core.Bool.{Bool, true, false, cond, ◌&&◌}
use mathlib.Core.List.{List, [], ◌∷◌, ◌++◌}
use Prim.Native.Nat.{ℕ, zero, suc, ◌+◌, ◌*◌, ◌-◌, ◌/◌, ◌%◌, ◌<◌, ◌≤◌}
use native.Mathlib.Omega.{arith}
use lib.Dec.{T, eqb, ltb, ltb→lt}
use lib.ListN.{get_or}
use borrow.Author.Tests.{ne_eqb, eqb-true, lt-ltb, le-ltb}
use Rattle.lists.specs.Tables.{passes}
use Rattle.lists.proofs.Tables.{both_left, both_right, tabulate-at, passes_at}
use Rattle.alphabet.specs.declared.Alphabet.{Alphabet}
use Rattle.alphabet.specs.declared.Alphabet.TheVariants.{Baudot, Dtmf, Edt}
use Rattle.alphabet.specs.declared.Reads.{Reads}
use Rattle.alphabet.specs.declared.Reads.TheVariants.{Character, Shift, NoRow}
use Rattle.alphabet.specs.Print.{keys}
use Rattle.alphabet.specs.Baudot.{letters_code, figures_code, read_baudot}
use Rattle.alphabet.specs.Dtmf.{prefixes, keys_of, read_dtmf}
use Rattle.alphabet.specs.Normal.{sends}
use Rattle.alphabet.specs.code.Packing.{base, alphabet_at, sends_at, packed, unpacked, entry_at, send_table}
use Rattle.alphabet.specs.code.Packing.{read_table, shift_of, packed_read, char_in, baudot_at, dtmf_at, key_at}
use Rattle.alphabet.proofs.Ranges.{char_or_none, range-of, dtmf-read}
use Rattle.alphabet.proofs.DtmfCodes.{number-some, dtmf-sends}

-- ---- the table of sending

-- what is asked of the alphabet of a number and of what its character sends
abbrev pub asked : {A : Type 0} → (Alphabet → Option CharCode → A) → ℕ → A
asked f n = f (alphabet_at n) (sends_at n)

-- the number of a character, taken apart
pub number_of : {A : Type 0} (f : Alphabet → Option CharCode → A) (a : Alphabet) (c : ℕ) → c < 128
    → asked f (base a + c) ≡ f a (sends a c)
number_of f Baudot c h =
    let m : (0 + c) % 128 ≡ c = omega arith in
    simp (lt-ltb (0 + c) 128 (omega arith), m)
number_of f Dtmf c h =
    let m : (128 + c) % 128 ≡ c = omega arith in
    simp (le-ltb (128 + c) 128 (omega arith), lt-ltb (128 + c) 256 (omega arith), m)
number_of f Edt c h =
    let m : (256 + c) % 128 ≡ c = omega arith in
    simp (le-ltb (256 + c) 128 (omega arith), le-ltb (256 + c) 256 (omega arith), m)

pub number-below : (a : Alphabet) (c : ℕ) → c < 128 → base a + c < 384
number-below Baudot c h = omega arith
number-below Dtmf c h = omega arith
number-below Edt c h = omega arith

-- what was packed is unpacked as it was
pub unpacked-packed : (a : Alphabet) (c : ℕ) → c < 128 → unpacked a (packed a (sends a c)) ≡ sends a c
unpacked-packed a c h = go a (sends a c) refl
  where
    go : (a : Alphabet) (x : Option CharCode) → sends a c ≡ x → unpacked a (packed a x) ≡ x
    go a None e = refl
    go Baudot (Some o) e =
        let b = range-of Baudot c h o.shift o.code e in
        let l = b.shift_least in
        let i = b.code-in in
        let p : (32 * o.shift + o.code.0) / 32 ≡ o.shift = omega arith in
        let q : (32 * o.shift + o.code.0) % 32 ≡ o.code.0 = omega arith in
        simp (ne_eqb (32 * o.shift + o.code.0) 0 (λ z. omega arith)) (λ j. char_code (p j) (record { 0 = q j }))
    go Dtmf (Some o) e =
        let b = range-of Dtmf c h o.shift o.code e in
        let l = b.shift_least in
        let m = b.shift-most in
        let n = number-some o.code.0 (dtmf-sends c o.shift o.code e) in
        let p : 3 ≡ o.shift = omega arith in
        simp (ne_eqb o.code.0 0 (λ z. omega arith)) (λ j. char_code (p j) o.code)
    go Edt (Some o) e =
        let b = range-of Edt c h o.shift o.code e in
        let l = b.shift_least in
        let m = b.shift-most in
        let i = b.code-in in
        let p : 3 ≡ o.shift = omega arith in
        let q : (128 + o.code.0) % 128 ≡ o.code.0 = omega arith in
        simp (ne_eqb (128 + o.code.0) 0 (λ z. omega arith)) (λ j. char_code (p j) (record { 0 = q j }))

-- what a lookup makes of the entry at b + c of the table t
module _ (t : List ℕ) (is : t ≡ send_table) (a : Alphabet) (c b : ℕ) (h : c < 128) (at_base : b ≡ base a) where
  pub lookup-below : b + c < 384
  lookup-below = rw at_base (number-below a c h)

  pub lookup_entry : unpacked a (get_or t (b + c) 0) ≡ sends a c
  unfolding send_table entry_at
  lookup_entry =
      let found : get_or t (b + c) 0 ≡ packed a (sends a c) =
      ap (λ (l : List ℕ). get_or l (b + c) 0) is ∙ tabulate-at entry_at 0 384 (b + c) lookup-below
      ∙ ap (λ (n : ℕ). entry_at (n + c)) at_base ∙ number_of packed a c h in
      ap (unpacked a) found ∙ unpacked-packed a c h

-- what the lookup of a DTMF code makes of an entry e
module _ (i e : ℕ) (found : e ≡ dtmf_at i) where
  found-is : e ≡ packed_read (read_dtmf i)
  unfolding dtmf_at
  found-is = found

  pub dtmf-char : e < 128 → Character (record { 0 = e }) ≡ read_dtmf i
  dtmf-char g = rw found-is (go (read_dtmf i) (dtmf-read i) (subst (λ (n : ℕ). n < 128) found-is g))
    where
      go : (r : Reads) → T (char_or_none r) → packed_read r < 128 → Character (record { 0 = packed_read r }) ≡ r
      go (Character c) t h = refl
      go (Shift s) t h = absurd t
      go NoRow t h = absurd (omega arith)

  pub dtmf-none : 128 ≤ e → NoRow ≡ read_dtmf i
  dtmf-none g = go (read_dtmf i) (dtmf-read i) (subst (λ (n : ℕ). 128 ≤ n) found-is g)
    where
      go : (r : Reads) → T (char_or_none r) → 128 ≤ packed_read r → NoRow ≡ r
      go (Character c) t h = let l = ltb→lt c.0 128 t in absurd (omega arith)
      go (Shift s) t h = absurd t
      go NoRow t h = refl

read-as-letters : (s k : ℕ) → eqb s 2 ≡ false → read_baudot 1 k ≡ read_baudot s k
unfolding read_baudot
read-as-letters s k e = simp e

-- a shift other than figures reads as letters
pub reads-shift : (s k : ℕ) → read_baudot (shift_of s) k ≡ read_baudot s k
reads-shift s k = go (eqb s 2) refl
  where
    go : (b : Bool) → eqb s 2 ≡ b → read_baudot (cond b 2 1) k ≡ read_baudot s k
    go true e = simp (eqb-true s 2 e)
    go false e = read-as-letters s k e

-- the codes that select a shift
pub reads-figures-code : (s k : ℕ) → k ≡ figures_code → Shift 2 ≡ read_baudot s k
unfolding read_baudot
reads-figures-code s k e = simp e

pub reads-letters-code : (s k : ℕ) → k ≡ letters_code → Shift 1 ≡ read_baudot s k
unfolding read_baudot
reads-letters-code s k e = simp e

-- any other reads as a character, which the table t has
module _ (s k : ℕ) (l : k ≡ letters_code → ⊥) (f : k ≡ figures_code → ⊥) where
  other-char : Character (record { 0 = char_in (read_baudot s k) }) ≡ read_baudot s k
  unfolding read_baudot
  other-char = simp (ne_eqb k letters_code l, ne_eqb k figures_code f)

  pub table-char : (t : List ℕ) → t ≡ read_table → 1 ≤ s → s ≤ 2 → k < 32
      → Character (record { 0 = get_or t ((s - 1) * 32 + k) 0 }) ≡ read_baudot s k
  unfolding read_table baudot_at
  table-char t is lo hi h =
      let d : 1 + ((s - 1) * 32 + k) / 32 ≡ s = omega arith in
      let m : ((s - 1) * 32 + k) % 32 ≡ k = omega arith in
      let e : get_or t ((s - 1) * 32 + k) 0 ≡ char_in (read_baudot s k) =
      ap (λ (x : List ℕ). get_or x ((s - 1) * 32 + k) 0) is
      ∙ tabulate-at baudot_at 0 64 ((s - 1) * 32 + k) (omega arith) ∙ (simp (d, m)) in
      ap (λ (n : ℕ). Character (record { 0 = n })) e ∙ other-char

unfoldable all_marks : List ℕ → Bool
all_marks [] = true
all_marks (k ∷ ks) = ltb k 255 && all_marks ks

-- the digit stands where a prefix that ends in 255 has its 255
digit-place : (ms : List ℕ) → T (all_marks ms) → (d j : ℕ)
    → cond (eqb (get_or (ms ++ 255 ∷ []) j 0) 255) d (get_or (ms ++ 255 ∷ []) j 0) ≡ get_or (ms ++ d ∷ []) j 0
unfolding all_marks
digit-place [] t d zero = refl
digit-place [] t d (suc j) = refl
digit-place (m ∷ ms) t d zero =
    let h = ltb→lt m 255 (both_left (ltb m 255) (all_marks ms) t) in
    simp (ne_eqb m 255 (λ (e : m ≡ 255). omega arith))
digit-place (m ∷ ms) t d (suc j) = digit-place ms (both_right (ltb m 255) (all_marks ms) t) d j

abbrev marks_at : ℕ → Bool
marks_at p = all_marks (keys (get_or prefixes p ""))

marks-test : T (passes marks_at 16 0)
unfolding passes keys prefixes all_marks
marks-test = tt

pub key_of : (n j : ℕ) → n < 256 → j < 4
    → cond (eqb (key_at (n / 16 * 4 + j)) 255) (n % 16) (key_at (n / 16 * 4 + j)) ≡ get_or (keys_of n) j 0
unfolding key_at keys_of
key_of n j h g =
    let d : (n / 16 * 4 + j) / 4 ≡ n / 16 = omega arith in
    let m : (n / 16 * 4 + j) % 4 ≡ j = omega arith in
    let t = passes_at marks_at 16 marks-test (n / 16) (omega arith) in
    simp (d, m) (digit-place (keys (get_or prefixes (n / 16) "")) t (n % 16) j)

-- what the lookup of a key makes of an entry e
module _ (n j e : ℕ) (h : n < 256) (g : j < 4) (found : e ≡ key_at (n / 16 * 4 + j)) where
  pub key-digit : e ≡ 255 → n % 16 ≡ get_or (keys_of n) j 0
  key-digit d = simp (sym found ∙ d) at (key_of n j h g)

  pub key-mark : (e ≡ 255 → ⊥) → e ≡ get_or (keys_of n) j 0
  key-mark d =
      let r = ne_eqb (key_at (n / 16 * 4 + j)) 255 (λ (q : key_at (n / 16 * 4 + j) ≡ 255). d (found ∙ q)) in
      found ∙ simp r at (key_of n j h g)
