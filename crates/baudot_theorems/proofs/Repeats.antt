-- The count of 72, exactly, for any number of characters: a shift code after each 72 of the shift in force, and nowhere
-- else.
use Rattle.std.specs.Prelude.{Option, Some, None}
use Rattle.alphabet.specs.declared.CharCode.{CharCode}
use Rattle.alphabet.specs.Codes.{char_code}
use mathlib.Core.Path.{◌≡◌, refl}
use mathlib.Core.Bool.{true, false}
use mathlib.Core.List.{List, [], ◌∷◌, ◌++◌}
use Prim.Native.Nat.{ℕ, zero, suc, ◌+◌, ◌*◌, ◌%◌, ◌≤◌, ◌<◌}
use native.Mathlib.Omega.{arith}
use lib.Dec.{leb}
use borrow.Author.Tests.{ne_eqb, eq-eqb, le-leb, leb-true, leb-false, not-true}
use Rattle.lists.proofs.Lists.{by-test, and_left, and_right}
use Rattle.alphabet.specs.declared.Alphabet.TheVariants.{Baudot}
use Rattle.alphabet.specs.declared.LineCode.{LineCode}
use Rattle.alphabet.specs.Baudot.{letters}
use Rattle.alphabet.specs.Normal.{sends, own_code, own_codes}
use Rattle.baudot.specs.Sending.{sender, shift_code, differs, wanted, codes_for, sender_for, codes_of, Running}
use Rattle.baudot.proofs.SendingRule.{wanted-again, wanted-none}
use Rattle.baudot_theorems.specs.Repeats.{of_shift, all_of_shift, repeats, with_repeats, letters_first}

-- the sender's count beside the characters that have gone, after m repeated shift codes, each followed by a character
record Counts (m gone count : ℕ) : Type 0 where
  sum : gone ≡ 72 * m + count
  most : count ≤ 72
  followed : 1 ≤ m → 1 ≤ count

due : (m gone count : ℕ) → Counts m gone count → 72 ≤ count → repeats gone ≡ true
due m gone count n h =
    let s = n.sum in
    let l = n.most in
    simp (le-leb 1 gone (omega arith), eq-eqb (gone % 72) 0 (omega arith))

not-due : (m gone count : ℕ) → Counts m gone count → count < 72 → repeats gone ≡ false
not-due zero gone zero n h = let e : gone ≡ 0 = let s = n.sum in omega arith in simp e
not-due (suc m) gone zero n h = let f = n.followed (omega arith) in absurd (omega arith)
not-due m gone (suc count) n h =
    let s = n.sum in
    simp (le-leb 1 gone (omega arith), ne_eqb (gone % 72) 0 (λ (e : gone % 72 ≡ 0). omega arith))

-- a character of the shift in force: the codes for it, and the sender after it
module _ (shift own : ℕ) (k : LineCode) (low : 1 ≤ shift) (high : shift ≤ 2) (same : differs own shift ≡ false) where
  running : (count : ℕ) → count ≤ 72 → Running (sender shift count)
  running count h = record { shift_low = low; shift_in = high; count_in = h }

  again : (count : ℕ) → count ≤ 72 → 72 ≤ count
      → (codes_for (sender shift count) (char_code own k) ≡ shift_code shift ∷ k.0 ∷ [])
      × (sender_for (sender shift count) (char_code own k) ≡ sender shift 1)
  unfolding codes_for sender_for
  again count h l =
      let w = wanted-again (sender shift count) own (running count h) same l in
      let n = wanted-none (sender shift 0) own (running 0 (omega arith)) same (omega arith) in
      let z = ne_eqb shift 0 (λ (e : shift ≡ 0). omega arith) in
      (simp (w, z, n), simp (w, z, n))

  plain : (count : ℕ) → count < 72
      → (codes_for (sender shift count) (char_code own k) ≡ k.0 ∷ [])
      × (sender_for (sender shift count) (char_code own k) ≡ sender shift (count + 1))
  unfolding codes_for sender_for
  plain count l =
      let w = wanted-none (sender shift count) own (running count (omega arith)) same l in
      (simp w, simp w)

module _ (shift : ℕ) (low : 1 ≤ shift) (high : shift ≤ 2) where
  abbrev Exactly : List ℕ → Type 0
  Exactly text =
      (m gone count : ℕ) → Counts m gone count
      → codes_of (sender shift count) text ≡ with_repeats shift gone (own_codes Baudot text)

  exactly : (text : List ℕ) → all_of_shift shift text ≡ true → Exactly text
  unfolding codes_for sender_for codes_of own_codes with_repeats all_of_shift
  exactly [] t m gone count n = refl
  exactly (c ∷ cs) t m gone count n =
      go (sends Baudot c) (and_left (of_shift shift (sends Baudot c)) (all_of_shift shift cs) t)
      (exactly cs (and_right (of_shift shift (sends Baudot c)) (all_of_shift shift cs) t))
    where
      go : (x : Option CharCode) → of_shift shift x ≡ true → Exactly cs
          → codes_for (sender shift count) x ++ codes_of (sender_for (sender shift count) x) cs
          ≡ with_repeats shift gone (own_code x ++ own_codes Baudot cs)
      go None o later = later m gone count n
      go (Some q) o later =
          let same = not-true (differs q.shift shift) o in
          let s = n.sum in
          let l = n.most in
          by-test (leb 72 count)
          (λ e.
          let h = leb-true 72 count e in
          let a = again shift q.shift q.code low high same count l h in
          let f : 1 ≤ m + 1 → 1 ≤ 1 = (λ _. omega arith) in
          let r : Counts (m + 1) (gone + 1) 1 = record { sum = omega arith; most = omega arith; followed = f } in
          rw (a.0, a.1, due m gone count n h, later (m + 1) (gone + 1) 1 r) refl)
          (λ e.
          let h = leb-false 72 count e in
          let p = plain shift q.shift q.code low high same count h in
          let f : 1 ≤ m → 1 ≤ count + 1 = (λ _. omega arith) in
          let r : Counts m (gone + 1) (count + 1) = record { sum = omega arith; most = omega arith; followed = f } in
          rw (p.0, p.1, not-due m gone count n h, later m (gone + 1) (count + 1) r) refl)

-- What any number of characters of the shift in force send, from any count: their codes, and a shift code after each 72
-- and nowhere else.
pub repeats-exactly : (text : List ℕ) (shift count : ℕ) → 1 ≤ shift → shift ≤ 2 → count ≤ 72
    → all_of_shift shift text ≡ true → codes_of (sender shift count) text
    ≡ with_repeats shift count (own_codes Baudot text)
repeats-exactly text shift count low high h t =
    exactly shift low high text t 0 count count
    (record { sum = omega arith; most = h; followed = (λ (l : 1 ≤ 0). absurd (omega arith)) })

-- The same from a fresh sender, whatever its count: 11111 comes first.
pub repeats-fresh : (text : List ℕ) (count : ℕ) → all_of_shift letters text ≡ true
    → codes_of (sender 0 count) text ≡ letters_first (with_repeats letters 0 (own_codes Baudot text))
unfolding wanted codes_for sender_for codes_of own_codes all_of_shift with_repeats letters_first
repeats-fresh [] count t = refl
repeats-fresh (c ∷ cs) count t =
    let tail = and_right (of_shift letters (sends Baudot c)) (all_of_shift letters cs) t in
    go (sends Baudot c) (and_left (of_shift letters (sends Baudot c)) (all_of_shift letters cs) t) tail
    (repeats-fresh cs count tail)
  where
    go : (x : Option CharCode) → of_shift letters x ≡ true → all_of_shift letters cs ≡ true
        → codes_of (sender 0 count) cs ≡ letters_first (with_repeats letters 0 (own_codes Baudot cs))
        → codes_for (sender 0 count) x ++ codes_of (sender_for (sender 0 count) x) cs
        ≡ letters_first (with_repeats letters 0 (own_code x ++ own_codes Baudot cs))
    go None o tail later = later
    go (Some q) o tail later =
        let i = repeats-exactly cs letters 1 (omega arith) (omega arith) (omega arith) tail in
        simp (not-true (differs q.shift letters) o, i)
