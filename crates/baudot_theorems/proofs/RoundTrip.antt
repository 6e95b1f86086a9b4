-- Reading what was sent gives the normal form of the text.
use Rattle.std.specs.Prelude.{Option, Some, None}
use Rattle.alphabet.specs.declared.CharCode.{CharCode}
use Rattle.alphabet.specs.Codes.{char_code}
use mathlib.Core.Path.{◌≡◌, ◌∙◌, refl, sym, ap, subst}
use mathlib.Core.Bool.{Bool, true, false}
use mathlib.Core.List.{List, [], ◌∷◌, ◌++◌, append_assoc}
use mathlib.Core.Logic.{◌⊎◌, inl, inr, ⊎_elim}
use Prim.Native.Nat.{ℕ, zero, suc, ◌≤◌, ◌<◌}
use native.Mathlib.Omega.{arith}
use lib.Dec.{eqb}
use borrow.Author.Tests.{eqb-true}
use Rattle.lists.proofs.Lists.{at-most-head, at-most-tail}
use Rattle.alphabet.specs.declared.Alphabet.TheVariants.{Baudot}
use Rattle.alphabet.specs.declared.LineCode.{LineCode}
use Rattle.alphabet.specs.declared.Reads.TheVariants.{Character, Shift}
use Rattle.alphabet.specs.Baudot.{read_baudot}
use Rattle.alphabet.specs.Normal.{sends, is_code, reads, chars_of, normal, normal_form, all_chars}
use Rattle.alphabet_theorems.proofs.Rule.{ReadBack, rule-of}
use Rattle.alphabet_theorems.proofs.Normal.{reads_in, normal-code}
use Rattle.baudot.specs.declared.Sender.{Sender}
use Rattle.baudot.specs.Sending.{sender, shift_code, differs, wanted, codes_for, sender_for, codes_of, sender_after, Running}
use Rattle.baudot.specs.Reading.{shift_by, text_of, shift_after}
use Rattle.baudot.proofs.SendingRule.{NoneAhead, Ahead, ahead, wanted-change, codes-none, codes-some, sender-none, sender-some, own_range, running-for}
use Rattle.baudot.proofs.Fresh.{running-letters, fresh-for}

-- the reader goes over the end of a front part
pub text-append : (r : ℕ) (xs ys : List ℕ) → text_of r (xs ++ ys) ≡ text_of r xs ++ text_of (shift_after r xs) ys
unfolding text_of shift_after
text-append r [] ys = refl
text-append r (x ∷ xs) ys =
    let q = chars_of (read_baudot r x) in
    let n = shift_by r (read_baudot r x) in
    ap (λ (l : List ℕ). q ++ l) (text-append n xs ys) ∙ sym (append_assoc q (text_of n xs)
    (text_of (shift_after n xs) ys))

pub shift-append : (r : ℕ) (xs ys : List ℕ) → shift_after r (xs ++ ys) ≡ shift_after (shift_after r xs) ys
unfolding shift_after
shift-append r [] ys = refl
shift-append r (x ∷ xs) ys = shift-append (shift_by r (read_baudot r x)) xs ys

-- a shift code selects its shift
pub reads-shift-code : (r w : ℕ) → 1 ≤ w → w ≤ 2 → read_baudot r (shift_code w) ≡ Shift w
unfolding read_baudot
reads-shift-code r zero a b = absurd (omega arith)
reads-shift-code r (suc zero) a b = refl
reads-shift-code r (suc (suc zero)) a b = refl
reads-shift-code r (suc (suc (suc w))) a b = absurd (omega arith)

-- a code ahead of which a running sender wants nothing belongs to the shift in force
belongs : (t : Sender) (own : ℕ) → Running t → 1 ≤ own → wanted t own ≡ 0 → (own ≡ 3) ⊎ (own ≡ t.shift)
belongs t own r lo e = go (eqb own 3) refl (eqb own t.shift) refl
  where
    go : (a : Bool) → eqb own 3 ≡ a → (b : Bool) → eqb own t.shift ≡ b → (own ≡ 3) ⊎ (own ≡ t.shift)
    go true f b g = inl (eqb-true own 3 f)
    go false f true g = inr (eqb-true own t.shift g)
    go false f false g =
        let d : differs own t.shift ≡ true = simp (f, g) in
        let w = sym (wanted-change t own r d) ∙ e in
        absurd (omega arith)

one-or-two : (n : ℕ) → 1 ≤ n → n ≤ 2 → (n ≡ 1) ⊎ (n ≡ 2)
one-or-two zero a b = absurd (omega arith)
one-or-two (suc zero) a b = inl refl
one-or-two (suc (suc zero)) a b = inr refl
one-or-two (suc (suc (suc n))) a b = absurd (omega arith)

-- what the reader makes of one character's codes: its normal form, and the sender's shift
record Follows (s : Sender) (c : ℕ) : Type 0 where
  text-is : text_of s.shift (codes_for s (sends Baudot c)) ≡ normal Baudot c
  shift_is : shift_after s.shift (codes_for s (sends Baudot c)) ≡ (sender_for s (sends Baudot c)).shift

module _ (s : Sender) (c : ℕ) (r : Running s) (h : c < 128) where
  module _ (own : ℕ) (k : LineCode) (e : sends Baudot c ≡ char_code own k) where
    abbrev lo : 1 ≤ own
    lo = (own_range c own k h e).0

    abbrev hi : own ≤ 3
    hi = (own_range c own k h e).1

    abbrev back : ReadBack Baudot own k
    back = rule-of Baudot c h own k e

    -- a running sender that wants nothing is read in its own shift
    own_read : (t : Sender) → Running t → wanted t own ≡ 0
        → read_baudot t.shift k.0 ≡ Character (record { 0 = back.char })
    unfolding reads
    own_read t q w =
        let o = one-or-two t.shift q.shift_low q.shift_in in
        reads_in Baudot own k back t.shift o (belongs t own q lo w)

    follows-none : NoneAhead s own r lo hi → Follows s c
    unfolding text_of shift_after
    follows-none n =
        let w = own_read s r n.none in
        record {
          text-is = rw (normal-code Baudot c h own k e) (simp (e, codes-none s own r lo hi k n.none, w));
          shift_is = simp (e, codes-none s own r lo hi k n.none, sender-none s own r lo hi k n.none, w);
        }

    follows-some : Ahead s own r lo hi (wanted s own) → Follows s c
    unfolding text_of shift_after
    follows-some a =
        let t = sender (wanted s own) 0 in
        let w = own_read t (record { shift_low = a.low; shift_in = a.high; count_in = omega arith }) a.then_none in
        let v = reads-shift-code s.shift (wanted s own) a.low a.high in
        record {
          text-is = rw (normal-code Baudot c h own k e) (simp (e, codes-some s own r lo hi k a, v, w));
          shift_is = simp (e, codes-some s own r lo hi k a, sender-some s own r lo hi k a, v, w);
        }

  follows : Follows s c
  unfolding codes_for sender_for text_of shift_after
  follows = go (sends Baudot c) refl
    where
      go : (x : Option CharCode) → sends Baudot c ≡ x → Follows s c
      go None e = record { text-is = simp e; shift_is = simp e }
      go (Some o) e =
          ⊎_elim (follows-none o.shift o.code e) (follows-some o.shift o.code e)
          (ahead s o.shift r (lo o.shift o.code e) (hi o.shift o.code e))

-- from a running sender, by a reader in its shift
pub round-trip-running : (text : List ℕ) → all_chars text ≡ true → (s : Sender) → Running s
    → text_of s.shift (codes_of s text) ≡ normal_form Baudot text
unfolding codes_of text_of normal_form
round-trip-running [] t s r = refl
round-trip-running (c ∷ cs) t s r =
    let x = sends Baudot c in
    let g = at-most-head 0x7f c cs t in
    let h : c < 128 = omega arith in
    let f = follows s c r h in
    let i = round-trip-running cs (at-most-tail 0x7f c cs t) (sender_for s x) (running-for s c h r) in
    text-append s.shift (codes_for s x) (codes_of (sender_for s x) cs) ∙ (rw (f.text-is, f.shift_is, i))

-- the reader ends in the sender's shift
pub shift-follows : (text : List ℕ) → all_chars text ≡ true → (s : Sender) → Running s
    → shift_after s.shift (codes_of s text) ≡ (sender_after s text).shift
unfolding codes_of shift_after sender_after
shift-follows [] t s r = refl
shift-follows (c ∷ cs) t s r =
    let x = sends Baudot c in
    let g = at-most-head 0x7f c cs t in
    let h : c < 128 = omega arith in
    let f = follows s c r h in
    let i = shift-follows cs (at-most-tail 0x7f c cs t) (sender_for s x) (running-for s c h r) in
    shift-append s.shift (codes_for s x) (codes_of (sender_for s x) cs) ∙ (rw (f.shift_is, i))

-- from a fresh sender, by a reader in any shift
pub round-trip-fresh : (text : List ℕ) → all_chars text ≡ true → (s : Sender) → s.shift ≡ 0 → (r : ℕ)
    → text_of r (codes_of s text) ≡ normal_form Baudot text
unfolding codes_for sender_for codes_of text_of normal_form read_baudot
round-trip-fresh [] t s z r = refl
round-trip-fresh (c ∷ cs) t s z r = go (sends Baudot c) refl (round-trip-fresh cs (at-most-tail 0x7f c cs t) s z r)
  where
    go : (x : Option CharCode) → sends Baudot c ≡ x → text_of r (codes_of s cs) ≡ normal_form Baudot cs
        → text_of r (codes_for s (sends Baudot c) ++ codes_of (sender_for s (sends Baudot c)) cs)
        ≡ normal Baudot c ++ normal_form Baudot cs
    go None e i = simp e i
    go (Some o) e i =
        let g = at-most-head 0x7f c cs t in
        let f = fresh-for s z c (omega arith) (ap is_code e) in
        rw (f.0, f.1) (round-trip-running (c ∷ cs) t (sender 1 0) running-letters)

-- For any text, shift and count: reading what was sent, by a reader in any shift if the sender was fresh and else in
-- the sender's, gives the normal form of the text.
pub round_trip : (text : List ℕ) → all_chars text ≡ true → (shift count : ℕ) → shift ≤ 2 → count ≤ 72
    → (r : ℕ) → (shift ≡ 0) ⊎ (shift ≡ r) → text_of r (codes_of (sender shift count) text) ≡ normal_form Baudot text
round_trip text t shift count h g r (inl z) = round-trip-fresh text t (sender shift count) z r
round_trip text t zero count h g r (inr e) = round-trip-fresh text t (sender 0 count) refl r
round_trip text t (suc n) count h g r (inr e) =
    subst (λ (m : ℕ). text_of m (codes_of (sender (suc n) count) text) ≡ normal_form Baudot text) e
    (round-trip-running text t (sender (suc n) count) (record { shift_low = omega arith; shift_in = h; count_in = g }))
