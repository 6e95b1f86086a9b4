-- Laws of reading a list of codes, and of counting its shift codes.
use mathlib.Core.Path.{◌≡◌, ◌∙◌, refl, sym, ap}
use mathlib.Core.Bool.{Bool, true, false}
use mathlib.Core.List.{List, [], ◌++◌}
use Prim.Native.Nat.{ℕ, ◌+◌, ◌≤◌, ◌<◌}
use native.Mathlib.Nat.{add-zero}
use native.Mathlib.Numerals.{add-one}
use native.Mathlib.Omega.{arith}
use lib.Dec.{eqb}
use lib.ListN.{length, get_or, set, drop, drop_of_length-le, length-append}
use lib.Seq.{sets, drop-cons, length-sets}
use Rattle.lists.proofs.Lists.{sets-append}
use Rattle.alphabet.specs.declared.Char.{Char}
use Rattle.alphabet.specs.declared.Reads.{Reads}
use Rattle.alphabet.specs.declared.Reads.TheVariants.{Character, Shift, NoRow}
use Rattle.alphabet.specs.Baudot.{letters_code, figures_code, read_baudot}
use Rattle.alphabet.specs.Normal.{chars_of}
use Rattle.baudot_reading.specs.declared.Taken.{Taken}
use Rattle.baudot.specs.Reading.{shift_by, text_of, shift_after}
use Rattle.baudot.specs.Counting.{shift_one, shifts_in}
use Rattle.std.specs.List.{sum_by}
use Rattle.std.proofs.lemmas.List.Recursion.{is_sum_by}
use Rattle.baudot.proofs.CountingRule.{shifts-append, shifts-most}

module _ (codes : List ℕ) (s i : ℕ) where
  abbrev got : ℕ → List ℕ
  got k = chars_of (read_baudot s k)

  pub text-left : i < length codes
      → text_of s (drop i codes)
      ≡ got (get_or codes i 0) ++ text_of (shift_by s (read_baudot s (get_or codes i 0))) (drop (i + 1) codes)
  unfolding text_of
  text-left h = rw (add-one, drop-cons codes i 0 h)

  pub shift-left : i < length codes
      → shift_after s (drop i codes) ≡ shift_after (shift_by s (read_baudot s (get_or codes i 0))) (drop (i + 1) codes)
  unfolding shift_after
  shift-left h = rw (add-one, drop-cons codes i 0 h)

  pub text-end : length codes ≤ i → text_of s (drop i codes) ≡ []
  unfolding text_of
  text-end h = rw (drop_of_length-le codes h)

  pub shift-end : length codes ≤ i → shift_after s (drop i codes) ≡ s
  unfolding shift_after
  shift-end h = rw (drop_of_length-le codes h)

-- a shift of letters or figures
abbrev pub InShift : ℕ → Type 0
InShift s = (1 ≤ s) × (s ≤ 2)

shift_kept : (s k : ℕ) → InShift s → InShift (shift_by s (read_baudot s k))
unfolding read_baudot
shift_kept s k r = go (eqb k letters_code) refl (eqb k figures_code) refl
  where
    go : (a : Bool) → eqb k letters_code ≡ a → (b : Bool) → eqb k figures_code ≡ b
        → InShift (shift_by s (read_baudot s k))
    go true e b f = simp e (omega arith, omega arith)
    go false e true f = simp (e, f) (omega arith, omega arith)
    go false e false f = simp (e, f) r

-- From the shift s₀ on a list of codes is read into the slice text₀; at the index i this is left.
pub record Reading (codes text₀ : List ℕ) (s₀ : ℕ) (text : List ℕ) (t : Taken) (i : ℕ) : Type 0 where
  pub in_shift : InShift t.shift
  pub size : length text ≡ length text₀
  pub place : t.at + length (text_of t.shift (drop i codes)) ≡ length (text_of s₀ codes)
  pub shift : shift_after t.shift (drop i codes) ≡ shift_after s₀ codes
  pub slice : sets text t.at (text_of t.shift (drop i codes)) ≡ sets text₀ 0 (text_of s₀ codes)

module _ (codes text₀ : List ℕ) (s₀ : ℕ) where
  pub reading-start : InShift s₀ → Reading codes text₀ s₀ text₀ (record { at = 0; shift = s₀ }) 0
  reading-start h = record { in_shift = h; size = refl; place = omega arith; shift = refl; slice = refl }

  module _ (text : List ℕ) (t : Taken) (i : ℕ) (r : Reading codes text₀ s₀ text t i) where
    abbrev here : List ℕ
    here = chars_of (read_baudot t.shift (get_or codes i 0))

    abbrev next : ℕ
    next = shift_by t.shift (read_baudot t.shift (get_or codes i 0))

    pub reading-turn : (u : Taken) (after : List ℕ) → i < length codes
        → u ≡ record { at = t.at + length here; shift = next } → after ≡ sets text t.at here
        → Reading codes text₀ s₀ after u (i + 1)
    reading-turn u after h e f =
        let l = text-left codes t.shift i h in
        let a = sets-append text t.at here (text_of next (drop (i + 1) codes)) in
        let n = ap length l ∙ length-append here (text_of next (drop (i + 1) codes)) in
        let p = r.place in
        rw (e, f)
        (record {
          in_shift = shift_kept t.shift (get_or codes i 0) r.in_shift;
          size = length-sets text t.at here ∙ r.size;
          place = omega arith;
          shift = sym (shift-left codes t.shift i h) ∙ r.shift;
          slice = sym a ∙ ap (sets text t.at) (sym l) ∙ r.slice;
        })

    pub reading-room : i < length codes → length (text_of s₀ codes) ≤ length text₀ → t.at + length here ≤ length text
    reading-room h g =
        let n = ap length (text-left codes t.shift i h) ∙ length-append here (text_of next (drop (i + 1) codes)) in
        let p = r.place in
        let z = r.size in
        omega arith

    pub reading-end : length codes ≤ i → t ≡ record { at = length (text_of s₀ codes); shift = shift_after s₀ codes }
    reading-end h =
        let n = ap (λ (l : List ℕ). t.at + length l) (text-end codes t.shift i h) in
        let a = sym r.place ∙ n ∙ add-zero t.at in
        let b = sym (shift-end codes t.shift i h) ∙ r.shift in
        λ k. record { at = sym a k; shift = b k }

    pub slice-end : length codes ≤ i → text ≡ sets text₀ 0 (text_of s₀ codes)
    slice-end h = ap (sets text t.at) (sym (text-end codes t.shift i h)) ∙ r.slice

-- the shift codes of a list, as a sum over its codes
pub shifts-sum : (ks : List ℕ) → shifts_in ks ≡ sum_by shift_one ks
unfolding shifts_in
shifts-sum = is_sum_by shifts_in shift_one refl (λ k ks. refl)

-- a block that is counted, and what is behind it
module _ (n k : ℕ) (rest block after all : List ℕ) (split : rest ≡ block ++ after) (block-is : k ≡ shifts_in block)
    (left : n + shifts_in rest ≡ shifts_in all) where
  pub block-turn : n + k + shifts_in after ≡ shifts_in all
  block-turn = let e = ap shifts_in split ∙ shifts-append block after in omega arith

  pub block-most : n + k ≤ length all
  block-most = let e = block-turn in let m = shifts-most all in omega arith

-- What a code that is read leaves: the place and shift after it, and the slice.
module _ (text : List ℕ) (at s : ℕ) where
  pub record Got (x : Reads) (t : Taken) (after : List ℕ) : Type 0 where
    pub placed : t ≡ record { at = at + length (chars_of x); shift = shift_by s x }
    pub stored : after ≡ sets text at (chars_of x)

  pub got-character : (x : Reads) (c : Char) → x ≡ Character c
      → Got x (record { at = at + 1; shift = s }) (set text at c.0)
  got-character x c e = record { placed = simp e; stored = simp e }

  pub got-shift : (x : Reads) (v : ℕ) → x ≡ Shift v → Got x (record { at = at; shift = v }) text
  got-shift x v e = record { placed = simp (e, add-zero); stored = simp e }

  pub got-none : (x : Reads) → x ≡ NoRow → Got x (record { at = at; shift = s }) text
  got-none x e = record { placed = simp (e, add-zero); stored = simp e }

  pub room-character : (x : Reads) (c : Char) → x ≡ Character c
      → at + length (chars_of x) ≤ length text → at < length text
  room-character x c e h = let n : length (chars_of x) ≡ 1 = simp e in omega arith
