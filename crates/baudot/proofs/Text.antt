-- How many codes a text has.
use Rattle.std.specs.Prelude.{Option, Some, None}
use Rattle.alphabet.specs.declared.CharCode.{CharCode}
use Rattle.alphabet.specs.Codes.{char_code}
use mathlib.Core.Path.{◌≡◌, refl}
use mathlib.Core.Bool.{true, cond, not, false≢true}
use mathlib.Core.List.{List, [], ◌∷◌, ◌++◌}
use Prim.Native.Nat.{ℕ, ◌+◌, ◌*◌, ◌≤◌}
use native.Mathlib.Omega.{arith}
use lib.Dec.{eqb}
use lib.ListN.{length, length-append}
use borrow.Author.Tests.{eqb-true, eqb-false}
use Rattle.lists.proofs.Lists.{either, by-test}
use Rattle.alphabet.specs.declared.Alphabet.{Alphabet}
use Rattle.alphabet.specs.declared.Alphabet.TheVariants.{Baudot, Dtmf, Edt}
use Rattle.alphabet.specs.Normal.{sends, is_code, own_code, own_codes, all_chars}
use Rattle.baudot.specs.declared.Sender.{Sender}
use Rattle.baudot.specs.Sending.{codes_ahead, codes_for, sender_for, codes_of}
use Rattle.baudot.specs.Text.{text_codes}
use Rattle.baudot.specs.code.Bounds.{SenderIn}
use Rattle.baudot.proofs.SendingRule.{codes-twice}
use Rattle.baudot.proofs.Fresh.{fresh-bound, running-from}

-- own codes: one for each character
pub own-most : (a : Alphabet) (cs : List ℕ) → length (own_codes a cs) ≤ length cs
unfolding own_codes
own-most a [] = omega arith
own-most a (c ∷ cs) = go (sends a c) (own-most a cs)
  where
    go : (x : Option CharCode) → length (own_codes a cs) ≤ length cs
        → length (own_code x ++ own_codes a cs) ≤ length (c ∷ cs)
    go None i = omega arith
    go (Some o) i = omega arith

-- in Baudot two for each character, and one more from a fresh sender
pub baudot-most : (s : Sender) (cs : List ℕ) → SenderIn s → all_chars cs ≡ true
    → length (codes_of s cs) ≤ 2 * length cs + cond (not (eqb s.shift 0)) 0 1
baudot-most s cs i t =
    by-test (eqb s.shift 0) (λ e. rw e (fresh-bound cs t s (eqb-true s.shift 0 e)))
    (λ e.
    let r = running-from s i (eqb-false s.shift 0 e) in
    let m = codes-twice s cs t (λ _. r) in
    rw e (omega arith))

-- so many in each alphabet
pub text-most : (a : Alphabet) (s : Sender) (cs : List ℕ) → SenderIn s → all_chars cs ≡ true
    → length (text_codes a s cs) ≤ 2 * length cs + 1
text-most Baudot s cs i t =
    let m = baudot-most s cs i t in
    let o = either (λ (n : ℕ). n ≤ 1) (not (eqb s.shift 0)) 0 1 (omega arith) (omega arith) in
    omega arith
text-most Dtmf s cs i t = let m = own-most Dtmf cs in omega arith
text-most Edt s cs i t = let m = own-most Edt cs in omega arith

-- .. none for none, and one at least for a character that sends a code
pub text-none : (a : Alphabet) (s : Sender) → text_codes a s [] ≡ []
unfolding codes_of own_codes
text-none Baudot s = refl
text-none Dtmf s = refl
text-none Edt s = refl

own-some : (a : Alphabet) (c : ℕ) (cs : List ℕ) → is_code (sends a c) ≡ true → 1 ≤ length (own_codes a (c ∷ cs))
unfolding own_codes
own-some a c cs e = go (sends a c) e
  where
    go : (x : Option CharCode) → is_code x ≡ true → 1 ≤ length (own_code x ++ own_codes a cs)
    go None e = absurd (false≢true e)
    go (Some o) e = omega arith

pub text-some : (a : Alphabet) (s : Sender) (c : ℕ) (cs : List ℕ) → is_code (sends a c) ≡ true
    → 1 ≤ length (text_codes a s (c ∷ cs))
unfolding codes_for codes_of
text-some Baudot s c cs e = go (sends Baudot c) e
  where
    go : (x : Option CharCode) → is_code x ≡ true → 1 ≤ length (codes_for s x ++ codes_of (sender_for s x) cs)
    go None e = absurd (false≢true e)
    go (Some o) e =
        let l = length-append (codes_ahead s o.shift) (o.code.0 ∷ []) in
        let m = length-append (codes_for s (char_code o.shift o.code))
        (codes_of (sender_for s (char_code o.shift o.code)) cs) in
        omega arith
text-some Dtmf s c cs e = own-some Dtmf c cs e
text-some Edt s c cs e = own-some Edt c cs e
