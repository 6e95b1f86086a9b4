-- The whole chain in Baudot and EDT.
use Rattle.std.specs.Prelude.{Option, Some, None}
use Rattle.alphabet.specs.declared.CharCode.{CharCode}
use mathlib.Core.Path.{◌≡◌, ◌∙◌, refl}
use mathlib.Core.Bool.{true}
use mathlib.Core.List.{List, [], ◌∷◌}
use Prim.Native.Nat.{ℕ, ◌<◌}
use native.Mathlib.Omega.{arith}
use lib.Dec.{eqb}
use borrow.Author.Tests.{le-leb}
use Rattle.lists.specs.Lists.{all_at_most}
use Rattle.lists.proofs.Lists.{either, at-most-head, at-most-tail, at-most-append}
use Rattle.alphabet.specs.declared.Alphabet.TheVariants.{Baudot}
use Rattle.alphabet.specs.declared.Mode.{Mode}
use Rattle.alphabet.specs.declared.Mode.TheVariants.{Baudot45, Baudot50, Edt}
use Rattle.alphabet.specs.declared.Reads.{Reads}
use Rattle.alphabet.specs.declared.Reads.TheVariants.{Shift}
use Rattle.alphabet.specs.Baudot.{read_baudot}
use Rattle.alphabet.specs.Normal.{sends, reads, chars_of, all_chars}
use Rattle.alphabet_theorems.proofs.Rule.{rule-of}
use Rattle.baudot.specs.declared.Sender.{Sender}
use Rattle.baudot.specs.Sending.{shift_code, shift_codes, wanted, opened, codes_ahead, codes_for, sender_for, codes_of}
use Rattle.baudot.specs.Reading.{shift_by, text_of, shift_after}
use Rattle.keys.specs.declared.Keys.{Keys}
use Rattle.signal.specs.Signal.{signal, signals}
use Rattle.frames.specs.Samples.{samples_of}
use Rattle.frames.specs.Frames.{hunting}
use Rattle.reader.specs.Reader.{reader, event_of, hear}
use Rattle.reader.specs.Words.{word_of}
use Rattle.line_theorems.proofs.AnyElement.{reads-code}
use Rattle.line_theorems.proofs.EdtReading.{reads-edt}
use Rattle.line_theorems.proofs.Chain.{Gives, none, chain, code_read}

-- reading Baudot gives the characters of a code: every code has a row
pub baudot-word : (s k : ℕ) → word_of (event_of (reads Baudot s k)) ≡ chars_of (reads Baudot s k)
unfolding reads read_baudot
baudot-word s k =
    let P : Reads → Type 0 = λ (r : Reads). word_of (event_of r) ≡ chars_of r in
    either P (eqb k 0b11111) (Shift 1) _ refl (either P (eqb k 0b11011) (Shift 2) _ refl refl)

-- the codes that are sent have five bits
shift-codes : (w : ℕ) → all_at_most 31 (shift_codes w) ≡ true
unfolding all_at_most
shift-codes w =
    either (λ (l : List ℕ). all_at_most 31 l ≡ true) (eqb w 0) [] (shift_code w ∷ []) refl
    (either (λ (n : ℕ). all_at_most 31 (n ∷ []) ≡ true) (eqb w 2) 0b11011 0b11111 refl refl)

codes-for : (s : Sender) (c : ℕ) → c < 128 → (x : Option CharCode) → sends Baudot c ≡ x
    → all_at_most 31 (codes_for s x) ≡ true
unfolding codes_for all_at_most
codes-for s c h None e = refl
codes-for s c h (Some o) e =
    let b = (rule-of Baudot c h o.shift o.code e).code-in in
    at-most-append 31 (codes_ahead s o.shift) (o.code.0 ∷ [])
    (at-most-append 31 (shift_codes (wanted s o.shift)) (shift_codes (wanted (opened s o.shift) o.shift))
    (shift-codes (wanted s o.shift))
    (shift-codes (wanted (opened s o.shift) o.shift)))
    (rw (le-leb o.code.0 31 (omega arith)) refl)

pub five-bits : (s : Sender) (cs : List ℕ) → all_chars cs ≡ true → all_at_most 31 (codes_of s cs) ≡ true
unfolding codes_of all_at_most
five-bits s [] t = refl
five-bits s (c ∷ cs) t =
    let h = at-most-head 0x7f c cs t in
    at-most-append 31 (codes_for s (sends Baudot c)) (codes_of (sender_for s (sends Baudot c)) cs)
    (codes-for s c (omega arith) (sends Baudot c) refl)
    (five-bits (sender_for s (sends Baudot c)) cs (at-most-tail 0x7f c cs t))

-- a mode of Baudot, with what its codes are read as
module _ (mode : Mode)
    (code : (k : Keys) (s p c : ℕ) → c < 32
    → Gives mode (reader hunting k s p) (signal mode c) (word_of (event_of (reads Baudot s c)))
    (reader hunting k (shift_by s (reads Baudot s c)) p)) where
  pub codes-read : (k : Keys) (s p : ℕ) (ks : List ℕ) → all_at_most 31 ks ≡ true
      → Gives mode (reader hunting k s p) (signals mode ks) (text_of s ks) (reader hunting k (shift_after s ks) p)
  unfolding signals text_of shift_after reads
  codes-read k s p [] h = none mode (reader hunting k s p)
  codes-read k s p (c ∷ ks) h =
      let l = at-most-head 31 c ks h in
      let w = baudot-word s c in
      let g = code k s p c (omega arith) in
      let next = reader hunting k (shift_by s (read_baudot s c)) p in
      let first : Gives mode (reader hunting k s p) (signal mode c) (chars_of (read_baudot s c)) next =
      record { after = g.after; heard = g.heard ∙ w } in
      chain mode first (codes-read k (shift_by s (read_baudot s c)) p ks (at-most-tail 31 c ks h))

pub code-45 : (k : Keys) (s p c : ℕ) → c < 32
    → Gives Baudot45 (reader hunting k s p) (signal Baudot45 c) (word_of (event_of (reads Baudot s c)))
    (reader hunting k (shift_by s (reads Baudot s c)) p)
unfolding hear signal samples_of
code-45 k s p c h = code_read Baudot45 tt k s p _ 143 21 c (reads-code 22 (omega arith) c h)

pub code-50 : (k : Keys) (s p c : ℕ) → c < 32
    → Gives Baudot50 (reader hunting k s p) (signal Baudot50 c) (word_of (event_of (reads Baudot s c)))
    (reader hunting k (shift_by s (reads Baudot s c)) p)
unfolding hear signal samples_of
code-50 k s p c h = code_read Baudot50 tt k s p _ 130 19 c (reads-code 20 (omega arith) c h)

pub code-edt : (k : Keys) (s p c : ℕ) → c < 128
    → Gives Edt (reader hunting k s p) (signal Edt c) (c ∷ []) (reader hunting k s p)
unfolding hear signal samples_of reads
code-edt k s p c h = code_read Edt tt k s p _ 95 4 c (reads-edt c h)
