-- The ms of the codes that characters send, code by code.
use Rattle.std.specs.Prelude.{Option, Some, None}
use Rattle.alphabet.specs.declared.CharCode.{CharCode}
use Rattle.alphabet.specs.Codes.{char_code}
use mathlib.Core.Path.{◌≡◌, ◌∙◌, refl, ap}
use mathlib.Core.Bool.{Bool, true, false, cond}
use mathlib.Core.List.{List, [], ◌∷◌, ◌++◌}
use Prim.Native.Nat.{ℕ, ◌+◌, ◌<◌}
use native.Mathlib.Omega.{arith}
use lib.Dec.{eqb, leb}
use lib.ListN.{length, length-append}
use borrow.Author.Tests.{eqb-true, eqb-false, le-leb}
use Rattle.lists.proofs.Lists.{either-by, at-most-head, at-most-tail}
use Rattle.alphabet.specs.declared.Alphabet.{Alphabet}
use Rattle.alphabet.specs.declared.Alphabet.TheVariants.{Baudot, Dtmf as dtmf, Edt as edt}
use Rattle.alphabet.specs.declared.Mode.{Mode}
use Rattle.alphabet.specs.Modes.{alphabet_of}
use Rattle.alphabet.specs.Normal.{sends, is_code, own_code, own_codes, all_chars}
use Rattle.baudot.specs.declared.Sender.{Sender}
use Rattle.baudot.specs.Sending.{wanted, codes_for, sender_for, codes_of}
use Rattle.baudot.specs.Text.{text_codes}
use Rattle.baudot.specs.code.Bounds.{SenderIn}
use Rattle.baudot.proofs.Fresh.{wanted-first}
use Rattle.baudot.proofs.Text.{text-none}
use Rattle.signal.specs.Signal.{signal, signals}
use Rattle.burst.specs.declared.OnLine.{OnLine}
use Rattle.burst.specs.declared.Loaded.{Loaded}
use Rattle.burst.specs.Line.{code_begins}
use Rattle.burst.specs.code.Bounds.{SendsIn}
use Rattle.burst.proofs.Range.{sends-in}
use Rattle.queue.specs.Queue.{waiters}
use Rattle.preview.specs.code.Count.{code_ms, chars_ms}

-- ---- the codes of a text, code by code

module _ (l : OnLine) (s : Sender) (c : ℕ) (cs : List ℕ) where
  -- the code that begins for the front character, and the codes behind it
  abbrev Then : Alphabet → Option CharCode → Loaded → List ℕ
  Then a x q = cond (is_code x) (q.line.code.0 ∷ []) [] ++ text_codes a q.sender (cond q.takes cs (c ∷ cs))

  baudot-step : SenderIn s → (x : Option CharCode) → sends Baudot c ≡ x → SendsIn Baudot x
      → codes_of s (c ∷ cs) ≡ Then Baudot x (code_begins Baudot l s x)
  unfolding codes_of codes_for sender_for code_begins
  baudot-step j None e i = rw e refl
  baudot-step j (Some o) e i =
      either-by (λ (q : Loaded). codes_of s (c ∷ cs) ≡ Then Baudot (char_code o.shift o.code) q)
      (eqb (wanted s o.shift) 0)
      (λ z. let f = eqb-true (wanted s o.shift) 0 z in rw (e, f, f) refl)
      (λ z.
      let f = wanted-first s o.shift o.code j i.own_low i.own_in (eqb-false (wanted s o.shift) 0 z) in
      rw (e, f.0, f.1) refl)

  own-step : (a : Alphabet) (x : Option CharCode) → sends a c ≡ x
      → own_codes a (c ∷ cs) ≡ own_code x ++ own_codes a cs
  unfolding own_codes
  own-step a x e = rw e refl

  text-step : (a : Alphabet) → SenderIn s → (x : Option CharCode) → sends a c ≡ x → SendsIn a x
      → text_codes a s (c ∷ cs) ≡ Then a x (code_begins a l s x)
  unfolding code_begins
  text-step Baudot j x e i = baudot-step j x e i
  text-step dtmf j None e i = own-step dtmf None e
  text-step dtmf j (Some o) e i = own-step dtmf (char_code o.shift o.code) e
  text-step edt j None e i = own-step edt None e
  text-step edt j (Some o) e i = own-step edt (char_code o.shift o.code) e

-- ---- their ms

first-ms : (mode : Mode) (b : Bool) (k : ℕ) (ks : List ℕ)
    → length (signals mode (cond b (k ∷ []) [] ++ ks)) ≡ cond b (code_ms mode k) 0 + length (signals mode ks)
unfolding signals
first-ms mode true k ks = length-append (signal mode k) (signals mode ks)
first-ms mode false k ks = omega arith

module _ (mode : Mode) (l : OnLine) (s : Sender) (j : SenderIn s) where
  -- the code that begins for the front character, what is left to send after it, and all that was left before it
  abbrev Steps : ℕ → List ℕ → Option CharCode → Loaded → Type 0
  Steps c cs x q =
      chars_ms mode s (c ∷ cs)
      ≡ cond (is_code x) (code_ms mode q.line.code.0) 0 + chars_ms mode q.sender (cond q.takes cs (c ∷ cs))

  pub chars-step : (c : ℕ) (cs : List ℕ) → c < 128
      → Steps c cs (sends (alphabet_of mode) c) (code_begins (alphabet_of mode) l s (sends (alphabet_of mode) c))
  unfolding chars_ms
  chars-step c cs h =
      let a = alphabet_of mode in
      let x = sends a c in
      let q = code_begins a l s x in
      ap (λ (ks : List ℕ). length (signals mode ks)) (text-step l s c cs a j x refl (sends-in a c h))
      ∙ first-ms mode (is_code x) q.line.code.0 (text_codes a q.sender (cond q.takes cs (c ∷ cs)))

pub no-chars : (mode : Mode) (s : Sender) → chars_ms mode s [] ≡ 0
unfolding chars_ms signals
no-chars mode s = rw (text-none (alphabet_of mode) s) refl

-- ---- those that send nothing add nothing

char-low : (c : ℕ) (cs : List ℕ) → all_chars (c ∷ cs) ≡ true → leb c 0x7f ≡ true
char-low c cs h = le-leb c 0x7f (at-most-head 0x7f c cs h)

baudot-waiters : (cs : List ℕ) → all_chars cs ≡ true → (s : Sender) → codes_of s (waiters Baudot cs) ≡ codes_of s cs
unfolding codes_of codes_for sender_for waiters
baudot-waiters [] h s = refl
baudot-waiters (c ∷ cs) h s =
    go (sends Baudot c) refl (char-low c cs h) (baudot-waiters cs (at-most-tail 0x7f c cs h))
  where
    go : (x : Option CharCode) → sends Baudot c ≡ x → leb c 0x7f ≡ true
        → ((t : Sender) → codes_of t (waiters Baudot cs) ≡ codes_of t cs)
        → codes_of s (waiters Baudot (c ∷ cs)) ≡ codes_of s (c ∷ cs)
    go None e low rest = rw (low, e) (rest s)
    go (Some o) e low rest =
        let x = sends Baudot c in
        rw (low, ap is_code e) (ap (λ (ks : List ℕ). codes_for s x ++ ks) (rest (sender_for s x)))

own-waiters : (a : Alphabet) (cs : List ℕ) → all_chars cs ≡ true → own_codes a (waiters a cs) ≡ own_codes a cs
unfolding own_codes waiters
own-waiters a [] h = refl
own-waiters a (c ∷ cs) h =
    go (sends a c) refl (char-low c cs h) (own-waiters a cs (at-most-tail 0x7f c cs h))
  where
    go : (x : Option CharCode) → sends a c ≡ x → leb c 0x7f ≡ true → own_codes a (waiters a cs) ≡ own_codes a cs
        → own_codes a (waiters a (c ∷ cs)) ≡ own_codes a (c ∷ cs)
    go None e low rest = rw (low, e) rest
    go (Some o) e low rest =
        rw (low, ap is_code e) (ap (λ (ks : List ℕ). own_code (sends a c) ++ ks) rest)

text-waiters : (a : Alphabet) (s : Sender) (cs : List ℕ) → all_chars cs ≡ true
    → text_codes a s (waiters a cs) ≡ text_codes a s cs
text-waiters Baudot s cs h = baudot-waiters cs h s
text-waiters dtmf s cs h = own-waiters dtmf cs h
text-waiters edt s cs h = own-waiters edt cs h

pub chars-waiters : (mode : Mode) (s : Sender) (cs : List ℕ) → all_chars cs ≡ true
    → chars_ms mode s (waiters (alphabet_of mode) cs) ≡ chars_ms mode s cs
unfolding chars_ms
chars-waiters mode s cs h =
    ap (λ (ks : List ℕ). length (signals mode ks)) (text-waiters (alphabet_of mode) s cs h)
