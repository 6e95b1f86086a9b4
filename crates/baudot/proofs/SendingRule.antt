-- Laws of the sending rule.
use Rattle.std.specs.Prelude.{Option, Some, None}
use Rattle.alphabet.specs.declared.CharCode.{CharCode}
use Rattle.alphabet.specs.Codes.{char_code}
use mathlib.Core.Path.{◌≡◌, ◌∙◌, refl, sym, ap}
use mathlib.Core.Bool.{Bool, true, false, cond, not, ◌&&◌, ◌||◌, false≢true}
use mathlib.Core.List.{List, [], ◌∷◌}
use mathlib.Core.Logic.{◌⊎◌, inl, inr, ⊎_elim}
use Prim.Native.Nat.{ℕ, ◌+◌, ◌*◌, ◌/◌, ◌%◌, ◌≤◌, ◌<◌}
use native.Mathlib.Omega.{arith}
use lib.Bits.{bit_and}
use lib.Dec.{T, eqb, leb}
use lib.ListN.{length, length-append}
use borrow.Author.Tests.{eq-eqb, ne_eqb, eqb-false, le-leb, lt-leb, leb-true, leb-false, eqb-true, not-true, not-false}
use Rattle.lists.specs.Tables.{passes}
use Rattle.lists.proofs.Tables.{agree, agreed, passes_at}
use Rattle.alphabet.specs.declared.Alphabet.TheVariants.{Baudot}
use Rattle.alphabet.specs.declared.LineCode.{LineCode}
use Rattle.alphabet.specs.Normal.{sends, all_chars}
use Rattle.lists.proofs.Lists.{at-most-head, at-most-tail}
use Rattle.alphabet.proofs.Ranges.{range-of}
use Rattle.baudot.specs.declared.Sender.{Sender}
use Rattle.baudot.specs.Sending.{sender, differs, wanted, opened, shifted, shift_codes, shift_code, counted, codes_for, sender_for, codes_of, Running}

meet_at : ℕ → Bool
meet_at i =
    cond (leb 1 (i / 4) && (leb 1 (i % 4) && leb (i % 4) 2))
    (agree (eqb (bit_and (i / 4) (i % 4)) 0) (differs (i / 4) (i % 4))) true

meet-test : T (passes meet_at 16 0)
unfolding passes meet_at
meet-test = tt

-- a code's shift and the shift in force have no common bit exactly where they differ
pub meet-differs : (own shift : ℕ) → 1 ≤ own → own ≤ 3 → 1 ≤ shift → shift ≤ 2
    → eqb (bit_and own shift) 0 ≡ differs own shift
unfolding meet_at
meet-differs own shift a b c d =
    let q : (own * 4 + shift) / 4 ≡ own = omega arith in
    let m : (own * 4 + shift) % 4 ≡ shift = omega arith in
    let t = passes_at meet_at 16 meet-test (own * 4 + shift) (omega arith) in
    agreed (eqb (bit_and own shift) 0) (differs own shift)
    (simp (q, m, le-leb 1 own a, le-leb 1 shift c, le-leb shift 2 d) at t)

module _ (s : Sender) (own : ℕ) (r : Running s) where
  not-fresh : eqb s.shift 0 ≡ false
  not-fresh = ne_eqb s.shift 0 (λ (e : s.shift ≡ 0). let l = r.shift_low in omega arith)

  pub wanted-change : differs own s.shift ≡ true → wanted s own ≡ own
  unfolding wanted
  wanted-change d = simp (not-fresh, d)

  pub wanted-again : differs own s.shift ≡ false → 72 ≤ s.count → wanted s own ≡ s.shift
  unfolding wanted
  wanted-again d l = simp (not-fresh, d, le-leb 72 s.count l)

  pub wanted-none : differs own s.shift ≡ false → s.count < 72 → wanted s own ≡ 0
  unfolding wanted
  wanted-none d l = simp (not-fresh, d, lt-leb 72 s.count l)

  -- behind a shift code that is wanted, its shift is in force
  pub behind-wanted : not (eqb (wanted s own) 0) ≡ true → (opened s own).shift ≡ wanted s own
  behind-wanted n = simp (not-true (eqb (wanted s own) 0) n)

  pub wants-no : not (eqb (wanted s own) 0) ≡ false → wanted s own ≡ 0
  wants-no n = eqb-true (wanted s own) 0 (not-false (eqb (wanted s own) 0) n)

  -- a code that is of the shift in force leaves it
  pub behind-same : differs own s.shift ≡ false → s.shift ≡ (opened s own).shift
  behind-same d = go (leb 72 s.count) refl
    where
      go : (b : Bool) → leb 72 s.count ≡ b → s.shift ≡ (opened s own).shift
      go true e = simp (wanted-again d (leb-true 72 s.count e), not-fresh)
      go false e = simp (wanted-none d (leb-false 72 s.count e))

  module _ (range : (1 ≤ own) × (own ≤ 3)) where
    pub meets : eqb (bit_and own s.shift) 0 ≡ differs own s.shift
    meets = meet-differs own s.shift range.0 range.1 r.shift_low r.shift_in

    -- another brings its own
    pub behind-other : differs own s.shift ≡ true → own ≡ (opened s own).shift
    behind-other d = simp (wanted-change d, ne_eqb own 0 (λ z. let l = range.0 in omega arith))

    -- whether a shift code is wanted, by the two tests
    pub wants_is : (differs own s.shift || leb 72 s.count) ≡ not (eqb (wanted s own) 0)
    wants_is = by-shift (differs own s.shift) refl
      where
        some : (w : ℕ) → 1 ≤ w → wanted s own ≡ w → true ≡ not (eqb (wanted s own) 0)
        some w l e = rw e (sym (ap not (ne_eqb w 0 (λ z. omega arith))))

        by_count : (b : Bool) → leb 72 s.count ≡ b → differs own s.shift ≡ false
            → b ≡ not (eqb (wanted s own) 0)
        by_count true e d = some s.shift r.shift_low (wanted-again d (leb-true 72 s.count e))
        by_count false e d = simp (wanted-none d (leb-false 72 s.count e))

        by-shift : (b : Bool) → differs own s.shift ≡ b → (b || leb 72 s.count) ≡ not (eqb (wanted s own) 0)
        by-shift true d = some own range.0 (wanted-change d)
        by-shift false d = by_count (leb 72 s.count) refl d

differs-self : (n : ℕ) → differs n n ≡ false
differs-self n = simp (eq-eqb n n refl) (go (not (eqb n 3)))
  where
    go : (b : Bool) → (b && false) ≡ false
    go true = refl
    go false = refl

module _ (s : Sender) (own : ℕ) (r : Running s) (lo : 1 ≤ own) (hi : own ≤ 3) where
  -- a shift code that is wanted is of a shift, after which no other is wanted
  pub record Ahead (w : ℕ) : Type 0 where
    pub low : 1 ≤ w
    pub high : w ≤ 2
    pub then_none : wanted (sender w 0) own ≡ 0

  pub record NoneAhead : Type 0 where
    pub none : wanted s own ≡ 0
    pub below : s.count < 72

  unwanted : (w : ℕ) → 1 ≤ w → w ≤ 2 → differs own w ≡ false → Ahead w
  unwanted w l h d =
      let r : Running (sender w 0) = record { shift_low = l; shift_in = h; count_in = omega arith } in
      record { low = l; high = h; then_none = wanted-none (sender w 0) own r d (omega arith) }

  different : differs own s.shift ≡ true → own ≤ 2
  different d = go (eqb own 3) refl
    where
      go : (b : Bool) → eqb own 3 ≡ b → own ≤ 2
      go true e = absurd (false≢true (simp e at d))
      go false e = let n = eqb-false own 3 e in omega arith

  -- what is wanted: nothing, below 72 characters, or a shift code
  pub ahead : NoneAhead ⊎ Ahead (wanted s own)
  ahead = by-shift (differs own s.shift) refl
    where
      by_count : (b : Bool) → leb 72 s.count ≡ b → differs own s.shift ≡ false → NoneAhead ⊎ Ahead (wanted s own)
      by_count true e d =
          rw (wanted-again s own r d (leb-true 72 s.count e))
          (inr (unwanted s.shift r.shift_low r.shift_in d))
      by_count false e d =
          let l = leb-false 72 s.count e in
          inl (record { none = wanted-none s own r d l; below = l })

      by-shift : (b : Bool) → differs own s.shift ≡ b → NoneAhead ⊎ Ahead (wanted s own)
      by-shift true d = inr (rw (wanted-change s own r d) (unwanted own lo (different d) (differs-self own)))
      by-shift false d = by_count (leb 72 s.count) refl d

  some-wanted : Ahead (wanted s own) → eqb (wanted s own) 0 ≡ false
  some-wanted a = ne_eqb (wanted s own) 0 (λ (e : wanted s own ≡ 0). let l = a.low in omega arith)

  module _ (k : LineCode) where
    -- no shift code is wanted: the code alone, and one more character
    pub codes-none : wanted s own ≡ 0 → codes_for s (char_code own k) ≡ k.0 ∷ []
    unfolding codes_for
    codes-none e = simp e

    pub sender-none : wanted s own ≡ 0 → sender_for s (char_code own k) ≡ counted s
    unfolding sender_for
    sender-none e = simp e

    -- a shift code is wanted: it comes first, and the character is the first after it
    pub codes-some : Ahead (wanted s own) → codes_for s (char_code own k) ≡ shift_code (wanted s own) ∷ k.0 ∷ []
    unfolding codes_for
    codes-some a = simp (some-wanted a, a.then_none)

    pub sender-some : Ahead (wanted s own) → sender_for s (char_code own k) ≡ sender (wanted s own) 1
    unfolding sender_for
    sender-some a = simp (some-wanted a, a.then_none)

    -- a running sender stays so
    running-code : Running (sender_for s (char_code own k))
    running-code = ⊎_elim by-none by-some ahead
      where
        by-none : NoneAhead → Running (sender_for s (char_code own k))
        by-none n =
            let b : s.count + 1 ≤ 72 = let l = n.below in omega arith in
            rw (sender-none n.none) (record { shift_low = r.shift_low; shift_in = r.shift_in; count_in = b })

        by-some : Ahead (wanted s own) → Running (sender_for s (char_code own k))
        by-some a = rw (sender-some a) (record { shift_low = a.low; shift_in = a.high; count_in = omega arith })

-- what a character sends is of a shift
pub own_range : (c own : ℕ) (k : LineCode) → c < 128 → sends Baudot c ≡ char_code own k → (1 ≤ own) × (own ≤ 3)
own_range c own k h e = ((range-of Baudot c h own k e).shift_least, (range-of Baudot c h own k e).shift-most)

pub running-for : (s : Sender) (c : ℕ) → c < 128 → Running s → Running (sender_for s (sends Baudot c))
unfolding sender_for
running-for s c h r = go (sends Baudot c) refl
  where
    go : (x : Option CharCode) → sends Baudot c ≡ x → Running (sender_for s x)
    go None e = r
    go (Some o) e =
        running-code s o.shift r (own_range c o.shift o.code h e).0 (own_range c o.shift o.code h e).1 o.code

-- the number of shift codes
pub shifts_none : (w : ℕ) → w ≡ 0 → length (shift_codes w) ≡ 0
shifts_none w e = simp e

pub shifts-one : (w : ℕ) → (w ≡ 0 → ⊥) → length (shift_codes w) ≡ 1
shifts-one w n = simp (ne_eqb w 0 n)

-- A running sender's codes, counted.
module _ (s : Sender) (own : ℕ) (k : LineCode) (r : Running s) (lo : 1 ≤ own) (hi : own ≤ 3) where
  pub codes-length : length (codes_for s (char_code own k)) ≡ length (shift_codes (wanted s own)) + 1
  codes-length = ⊎_elim by-none by-some (ahead s own r lo hi)
    where
      by-none : NoneAhead s own r lo hi
          → length (codes_for s (char_code own k)) ≡ length (shift_codes (wanted s own)) + 1
      by-none n = ap length (codes-none s own r lo hi k n.none) ∙ (simp n.none)

      by-some : Ahead s own r lo hi (wanted s own)
          → length (codes_for s (char_code own k)) ≡ length (shift_codes (wanted s own)) + 1
      by-some a =
          let l = a.low in
          let o = shifts-one (wanted s own) (λ (e : wanted s own ≡ 0). omega arith) in
          ap length (codes-some s own r lo hi k a) ∙ (simp o)

  pub sender-both : sender_for s (char_code own k) ≡ counted (shifted s (wanted s own))
  sender-both = ⊎_elim by-none by-some (ahead s own r lo hi)
    where
      by-none : NoneAhead s own r lo hi → sender_for s (char_code own k) ≡ counted (shifted s (wanted s own))
      by-none n = sender-none s own r lo hi k n.none ∙ (simp n.none)

      by-some : Ahead s own r lo hi (wanted s own) → sender_for s (char_code own k) ≡ counted (shifted s (wanted s own))
      by-some a = sender-some s own r lo hi k a ∙ (simp (some-wanted s own r lo hi a))

  pub shifted-count : (shifted s (wanted s own)).count ≤ 72
  shifted-count = go (eqb (wanted s own) 0)
    where
      go : (b : Bool) → (cond b s (sender (wanted s own) 0)).count ≤ 72
      go true = r.count_in
      go false = omega arith

-- a running sender's codes for a character are at most two
pub codes-two : (s : Sender) (c : ℕ) → c < 128 → Running s → length (codes_for s (sends Baudot c)) ≤ 2
unfolding codes_for
codes-two s c h r = go (sends Baudot c) refl
  where
    go : (x : Option CharCode) → sends Baudot c ≡ x → length (codes_for s x) ≤ 2
    go None e = omega arith
    go (Some o) e =
        let l = codes-length s o.shift o.code r (own_range c o.shift o.code h e).0 (own_range c o.shift o.code h e).1 in
        let o : length (shift_codes (wanted s o.shift)) ≤ 1 = few (eqb (wanted s o.shift) 0) in
        omega arith
      where
        few : (b : Bool) → length (cond b [] (shift_code (wanted s o.shift) ∷ [])) ≤ 1
        few true = omega arith
        few false = omega arith

-- and for a text at most twice its length
pub codes-twice : (s : Sender) (cs : List ℕ) → all_chars cs ≡ true → (0 < length cs → Running s)
    → length (codes_of s cs) ≤ 2 * length cs
unfolding codes_of
codes-twice s [] t r = omega arith
codes-twice s (c ∷ cs) t r =
    let h = at-most-head 0x7f c cs t in
    let g = r (omega arith) in
    let a = codes-two s c (omega arith) g in
    let f = running-for s c (omega arith) g in
    let b = codes-twice (sender_for s (sends Baudot c)) cs (at-most-tail 0x7f c cs t) (λ _. f) in
    rw length-append (omega arith)
