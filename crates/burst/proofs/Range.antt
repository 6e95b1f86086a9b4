-- What a ms starts with is in range, and every ms keeps what is on the line in range.
use Rattle.std.specs.Prelude.{Option, Some, None}
use Rattle.alphabet.specs.declared.CharCode.{CharCode}
use mathlib.Core.Path.{◌≡◌, refl, sym}
use mathlib.Core.Bool.{Bool, true, false, cond, not, ◌&&◌, ◌||◌, false≢true}
use Prim.Native.Nat.{ℕ, ◌<◌, ◌≤◌}
use native.Mathlib.Omega.{arith}
use lib.Dec.{eqb, leb, ltb}
use lib.ListN.{length}
use borrow.Author.Tests.{eqb-true, eqb-false, leb-true, leb-false, ltb-true, ne_eqb, le-leb, not-true}
use Rattle.lists.proofs.Lists.{either, either-by, and_left, and_right}
use Rattle.alphabet.specs.declared.Alphabet.{Alphabet}
use Rattle.alphabet.specs.declared.Alphabet.TheVariants.{Baudot, Dtmf, Edt}
use Rattle.alphabet.specs.declared.Mode.{Mode}
use Rattle.alphabet.specs.Modes.{alphabet_of, codes}
use Rattle.alphabet.specs.Normal.{sends}
use Rattle.alphabet.proofs.Ranges.{some-shift, range-of}
use Rattle.baudot.specs.declared.Sender.{Sender}
use Rattle.baudot.specs.Sending.{differs, wanted, shift_code}
use Rattle.burst.specs.declared.OnLine.{OnLine}
use Rattle.burst.specs.declared.Loaded.{Loaded}
use Rattle.burst.specs.Rules.{opens_with_shift, opening_shift, shift_wanted, sender_after_own}
use Rattle.burst.specs.Line.{on_line, further, idle, in_burst, is_code, part_ms, is_over, begun, loaded, shift_begins, code_begins}
use Rattle.burst.specs.Line.{is_opening, next_code, one_gone, front_is_next, closed}
use Rattle.burst.specs.Range.{is_code_of, code_in, line_in}
use Rattle.baudot.specs.code.Bounds.{SenderIn}
use Rattle.burst.specs.code.Bounds.{LineIn, SendsIn}
use Rattle.burst.proofs.Codes.{code-few, sent-code}

-- ---- question 1 in facts

some-codes : (a : Alphabet) → 0 < codes a
some-codes Baudot = omega arith
some-codes Dtmf = omega arith
some-codes Edt = omega arith

-- a code of the alphabet, or 0 where none is on the line, is below all codes
below-codes : (a : Alphabet) (l : OnLine) → code_in a l ≡ true → l.code.0 < codes a
below-codes a l = go (not (is_code l) && eqb l.code.0 0) refl
  where
    go : (b : Bool) → (not (is_code l) && eqb l.code.0 0) ≡ b → (b || is_code_of a l.code.0) ≡ true
        → l.code.0 < codes a
    go true e f =
        let z = eqb-true l.code.0 0 (and_right (not (is_code l)) (eqb l.code.0 0) e) in
        let s = some-codes a in
        omega arith
    go false e f = code-few a l.code.0 f

pub line-in : (mode : Mode) (l : OnLine) → line_in mode l ≡ true → LineIn mode l
line-in mode l e =
    let a = leb l.part 2 in
    let b = code_in (alphabet_of mode) l in
    let c = leb l.at (length (part_ms mode l)) in
    let ab = and_left (a && b) c e in
    let k = and_right a b ab in
    record {
      part_in = leb-true l.part 2 (and_left a b ab);
      code_is = k;
      code-in = below-codes (alphabet_of mode) l k;
      at_in = leb-true l.at (length (part_ms mode l)) (and_right (a && b) c e);
    }

pub line-is : (mode : Mode) (l : OnLine) → LineIn mode l → line_in mode l ≡ true
line-is mode l h =
    rw (
      le-leb l.part 2 h.part_in,
      h.code_is,
      le-leb l.at (length (part_ms mode l)) h.at_in,
    ) refl

pub record LoadedIn (mode : Mode) (x : Loaded) : Type 0 where
  pub line-in : LineIn mode x.line
  pub sender-in : SenderIn x.sender

-- ---- what characters send

pub sends-in : (a : Alphabet) (c : ℕ) → c < 128 → SendsIn a (sends a c)
sends-in a c h = go (sends a c) refl
  where
    go : (x : Option CharCode) → sends a c ≡ x → SendsIn a x
    go None e = tt
    go (Some o) e =
        let r = range-of a c h o.shift o.code e in
        let l = some-shift a in
        let m = r.shift_least in
        record { own_low = omega arith; own_in = r.shift-most; code_is = sent-code a c h o.shift o.code e }

-- ---- the sending rule

module _ (s : Sender) (own : ℕ) (lo : 1 ≤ own) (hi : own ≤ 3) (i : SenderIn s) where
  wanted-in : wanted s own ≤ 2
  unfolding wanted
  wanted-in = go (eqb s.shift 0) (differs own s.shift) (leb 72 s.count) refl
    where
      go : (a b c : Bool) → differs own s.shift ≡ b → cond a 1 (cond b own (cond c s.shift 0)) ≤ 2
      go true b c e = omega arith
      go false true c e =
          let n = eqb-false own 3 (not-true (eqb own 3) (and_left (not (eqb own 3)) (not (eqb own s.shift)) e)) in
          omega (arith, n)
      go false false true e = i.shift_in
      go false false false e = omega arith

  none_below : wanted s own ≡ 0 → s.count < 72
  unfolding wanted
  none_below = go (eqb s.shift 0) refl (differs own s.shift) (leb 72 s.count) refl
    where
      go : (a : Bool) → eqb s.shift 0 ≡ a → (b c : Bool) → leb 72 s.count ≡ c
          → cond a 1 (cond b own (cond c s.shift 0)) ≡ 0 → s.count < 72
      go true e b c f z = absurd (omega arith)
      go false e true c f z = absurd (omega arith)
      go false e false true f z = absurd (eqb-false s.shift 0 e z)
      go false e false false f z = leb-false 72 s.count f

  any-wanted-in : (a : Alphabet) → shift_wanted a s own ≤ 2
  any-wanted-in Baudot = wanted-in
  any-wanted-in Dtmf = omega arith
  any-wanted-in Edt = omega arith

  own-sender-in : (a : Alphabet) → eqb (shift_wanted a s own) 0 ≡ true → SenderIn (sender_after_own a s)
  own-sender-in Baudot e =
      let l = none_below (eqb-true (wanted s own) 0 e) in
      record { shift_in = i.shift_in; count_in = omega arith }
  own-sender-in Dtmf e = i
  own-sender-in Edt e = i

-- DTMF and EDT want none
baudot-wants : (a : Alphabet) (s : Sender) (own : ℕ) → eqb (shift_wanted a s own) 0 ≡ false → opens_with_shift a ≡ true
baudot-wants Baudot s own e = refl
baudot-wants Dtmf s own e = absurd (false≢true (sym e))
baudot-wants Edt s own e = absurd (false≢true (sym e))

pub opening-in : (s : Sender) → s.shift ≤ 2 → opening_shift s ≤ 2
opening-in s i = either (λ (w : ℕ). w ≤ 2) (eqb s.shift 0) 1 s.shift (omega arith) i

pub shift-code-is : (a : Alphabet) → opens_with_shift a ≡ true → (w : ℕ) → is_code_of a (shift_code w) ≡ true
unfolding is_code_of
shift-code-is Baudot e w = either (λ (n : ℕ). ltb n 32 ≡ true) (eqb w 2) 0b11011 0b11111 refl refl
shift-code-is Dtmf e w = absurd (false≢true e)
shift-code-is Edt e w = absurd (false≢true e)

-- ---- what a ms starts with

-- what is on the line stays; a shift code opens the burst; the front character is next
by_next : (mode : Mode) (P : Loaded → Type 0) (waiting front : ℕ) (l : OnLine) (s : Sender)
    → P (loaded l s false)
    → (opens_with_shift (alphabet_of mode) ≡ true → P (shift_begins (opening_shift s)))
    → (1 ≤ waiting → P (code_begins (alphabet_of mode) l s (sends (alphabet_of mode) front)))
    → P (next_code mode waiting front l s)
unfolding next_code
by_next mode P waiting front l s stays opens next =
    either-by P (is_over mode l)
    (λ e. either-by P (is_opening a l)
    (λ o. opens (and_right (eqb l.part 1) (opens_with_shift a) o))
    (λ o. either-by P (ltb 0 waiting) (λ w. let n = ltb-true 0 waiting w in next (omega arith)) (λ w. stays)))
    (λ e. stays)
  where
    a : Alphabet
    a = alphabet_of mode

code-starts : (mode : Mode) (code : ℕ) → is_code_of (alphabet_of mode) code ≡ true → LineIn mode (on_line 2 code 0)
code-starts mode code k =
    record { part_in = omega arith; code_is = k; code-in = code-few (alphabet_of mode) code k; at_in = omega arith }

pub shift-starts : (mode : Mode) → opens_with_shift (alphabet_of mode) ≡ true → (w : ℕ) → w ≤ 2
    → LoadedIn mode (shift_begins w)
shift-starts mode e w h = record {
  line-in = code-starts mode (shift_code w) (shift-code-is (alphabet_of mode) e w);
  sender-in = record { shift_in = h; count_in = omega arith };
}

-- with no code on the line
pub blank-in : (mode : Mode) (part : ℕ) → part ≤ 1 → LineIn mode (on_line part 0 0)
blank-in mode part p = record {
  part_in = omega arith;
  code_is = rw (ne_eqb part 2 (λ (e : part ≡ 2). omega arith)) refl;
  code-in = some-codes (alphabet_of mode);
  at_in = omega arith;
}

module _ (mode : Mode) (l : OnLine) (s : Sender) (i : LineIn mode l) (j : SenderIn s) where
  pub begins-in : (x : Option CharCode) → SendsIn (alphabet_of mode) x
      → LoadedIn mode (code_begins (alphabet_of mode) l s x)
  unfolding code_begins
  begins-in None h = record { line-in = i; sender-in = j }
  begins-in (Some o) h = go (eqb w 0) refl
    where
      a : Alphabet
      a = alphabet_of mode

      w : ℕ
      w = shift_wanted a s o.shift

      go : (b : Bool) → eqb w 0 ≡ b
          → LoadedIn mode (cond b (loaded (on_line 2 o.code.0 0) (sender_after_own a s) true) (shift_begins w))
      go true e = record {
        line-in = code-starts mode o.code.0 h.code_is;
        sender-in = own-sender-in s o.shift h.own_low h.own_in j a e;
      }
      go false e =
          shift-starts mode (baudot-wants a s o.shift e) w (any-wanted-in s o.shift h.own_low h.own_in j a)

  pub next-in : (waiting front : ℕ) → (1 ≤ waiting → front < 128) → LoadedIn mode (next_code mode waiting front l s)
  next-in waiting front h =
      by_next mode (LoadedIn mode) waiting front l s
      (record { line-in = i; sender-in = j })
      (λ e. shift-starts mode e (opening_shift s) (opening-in s j.shift_in))
      (λ n. begins-in (sends (alphabet_of mode) front) (sends-in (alphabet_of mode) front (h n)))

pub begun-in : (mode : Mode) (may : Bool) (l : OnLine) → LineIn mode l → LineIn mode (begun may l)
unfolding begun
begun-in mode may l i = either (LineIn mode) (may && not (in_burst l)) (on_line 1 0 0) l (blank-in mode 1 (omega arith))
    i

-- ---- after a ms

pub gone-in : (mode : Mode) (l : OnLine) → LineIn mode l → LineIn mode (one_gone mode l)
unfolding one_gone part_ms
gone-in mode l i = go (ltb l.at (length (part_ms mode l))) refl
  where
    go : (b : Bool) → ltb l.at (length (part_ms mode l)) ≡ b → LineIn mode (cond b (further l 1) l)
    go true e =
        let n = ltb-true l.at (length (part_ms mode l)) e in
        record { part_in = i.part_in; code_is = i.code_is; code-in = i.code-in; at_in = omega arith }
    go false e = i

pub closed_in : (mode : Mode) (ends : Bool) (l : OnLine) → LineIn mode l → LineIn mode (closed mode ends l)
unfolding closed
closed_in mode ends l i =
    either (LineIn mode) (front_is_next mode l && ends) idle l (blank-in mode 0 (omega arith)) i

-- one that is taken waits
pub next-takes : (mode : Mode) (waiting front : ℕ) (l : OnLine) (s : Sender)
    → (next_code mode waiting front l s).takes ≡ true → 1 ≤ waiting
next-takes mode waiting front l s =
    by_next mode (λ (x : Loaded). x.takes ≡ true → 1 ≤ waiting) waiting front l s
    (λ t. absurd (false≢true t))
    (λ e t. absurd (false≢true t))
    (λ n t. n)
