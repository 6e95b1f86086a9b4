-- The whole chain: preamble and codes of a text, heard by a reader that is between codes and in the sender's shift,
-- give the words of the text's normal form, in order.
use Rattle.std.specs.Prelude.{Option, Some, None}
use Rattle.alphabet.specs.declared.CharCode.{CharCode}
use mathlib.Core.Path.{◌≡◌, ◌∙◌, refl, sym, ap}
use mathlib.Core.Bool.{true}
use mathlib.Core.Logic.{◌⊎◌, inl, inr}
use mathlib.Core.List.{List, [], ◌∷◌, ◌++◌, append-nil, append_assoc}
use Prim.Native.Nat.{ℕ, ◌<◌}
use native.Mathlib.Omega.{arith}
use Rattle.lists.proofs.Lists.{at-most-head, at-most-tail}
use Rattle.alphabet.specs.declared.Alphabet.{Alphabet}
use Rattle.alphabet.specs.declared.Alphabet.TheVariants.{Baudot, Dtmf as dtmf, Edt as edt}
use Rattle.alphabet.specs.declared.Mode.{Mode}
use Rattle.alphabet.specs.declared.Mode.TheVariants.{Baudot45, Baudot50, Dtmf, Edt}
use Rattle.alphabet.specs.Modes.{alphabet_of}
use Rattle.alphabet.specs.Normal.{sends, own_code, own_codes, reads, chars_of, read_back, normal_form, all_chars}
use Rattle.alphabet.specs.declared.LineCode.{LineCode}
use Rattle.alphabet_theorems.proofs.Rule.{ReadBack, rule-of}
use Rattle.alphabet_theorems.proofs.Normal.{own-shift}
use Rattle.baudot.specs.declared.Sender.{Sender}
use Rattle.baudot.specs.Sending.{codes_of, Running}
use Rattle.baudot.specs.Reading.{text_of}
use Rattle.baudot_theorems.proofs.RoundTrip.{round-trip-running, round-trip-fresh}
use Rattle.reader.specs.declared.Reader.{Reader}
use Rattle.signal.specs.Signal.{signal, signals}
use Rattle.frames.specs.Frames.{hunting}
use Rattle.keys.specs.Keys.{ready}
use Rattle.reader.specs.Reader.{reader, hear}
use Rattle.reader.specs.Words.{reader_after, words}
use Rattle.line_theorems.specs.Text.{text_signal, Between, InShift}
use Rattle.line_theorems.proofs.Chain.{Gives, none, chain, marks-pass}
use Rattle.line_theorems.proofs.BaudotChain.{five-bits, codes-read, code-45, code-50, code-edt}
use Rattle.line_theorems.proofs.DtmfChain.{row_read}

-- a reader between codes, written out
between : (r : Reader) → Between r → r ≡ reader hunting ready r.shift 0
between r b = λ i. record { frame = b.frame_is i; keys = b.keys-are i; shift = r.shift; prefix = b.prefix_is i }

-- what is read in the sender's shift
read_back-is : (s : Sender) (r : ℕ) (cs : List ℕ) → all_chars cs ≡ true → (s.shift ≡ 0) ⊎ (Running s × (s.shift ≡ r))
    → text_of r (codes_of s cs) ≡ normal_form Baudot cs
read_back-is s r cs t (inl z) = round-trip-fresh cs t s z r
read_back-is s r cs t (inr q) = ap (λ (n : ℕ). text_of n (codes_of s cs)) (sym q.1) ∙ round-trip-running cs t s q.0

signals-append : (mode : Mode) (ks js : List ℕ) → signals mode (ks ++ js) ≡ signals mode ks ++ signals mode js
unfolding signals
signals-append mode [] js = refl
signals-append mode (k ∷ ks) js =
    ap (λ (l : List ℕ). signal mode k ++ l) (signals-append mode ks js)
    ∙ sym (append_assoc (signal mode k) (signals mode ks) (signals mode js))

-- own codes, one after the other, each read in its own shift
module _ (mode : Mode) (a : Alphabet) (r : Reader)
    (law : (w : ℕ) (k : LineCode) → ReadBack a w k
    → Gives mode r (signal mode k.0) (chars_of (reads a w k.0)) r) where
  own_code-is : (c : ℕ) → c < 128 → (x : Option CharCode) → sends a c ≡ x
      → Gives mode r (signals mode (own_code x)) (chars_of (read_back a x)) r
  unfolding signals
  own_code-is c h None e = none mode r
  own_code-is c h (Some o) e =
      rw (append-nil (signal mode o.code.0)) (law o.shift o.code (rule-of a c h o.shift o.code e))

  own-codes : (cs : List ℕ) → all_chars cs ≡ true → Gives mode r (signals mode (own_codes a cs)) (normal_form a cs) r
  unfolding own_codes normal_form signals
  own-codes [] t = none mode r
  own-codes (c ∷ cs) t =
      let h = at-most-head 0x7f c cs t in
      rw (signals-append mode (own_code (sends a c)) (own_codes a cs))
      (chain mode (own_code-is c (omega arith) (sends a c) refl) (own-codes cs (at-most-tail 0x7f c cs t)))

edt-code : (s w : ℕ) (k : LineCode) → ReadBack edt w k
    → Gives Edt (reader hunting ready s 0) (signal Edt k.0) (chars_of (reads edt w k.0)) (reader hunting ready s 0)
unfolding reads
edt-code s w k b = code-edt ready s 0 k.0 b.code-in

dtmf-code : (s w : ℕ) (k : LineCode) → ReadBack dtmf w k
    → Gives Dtmf (reader hunting ready s 0) (signal Dtmf k.0) (chars_of (reads dtmf w k.0))
    (reader hunting ready s 0)
unfolding reads
dtmf-code s w k b =
    let e = own-shift dtmf w k b in
    rw e (row_read hunting s k.0 (record { 0 = b.char }) e)

-- the statement
pub record Chain (mode : Mode) (s : Sender) (r : Reader) (cs : List ℕ) : Type 0 where
  pub words_are : words mode r (text_signal mode s cs) ≡ normal_form (alphabet_of mode) cs
  pub between_after : Between (reader_after mode r (text_signal mode s cs))

-- from what is given to the statement
stated : (mode : Mode) (s : Sender) (r : Reader) (cs ws : List ℕ) (t : ℕ) → Between r
    → ws ≡ normal_form (alphabet_of mode) cs
    → Gives mode (reader hunting ready r.shift 0) (text_signal mode s cs) ws (reader hunting ready t 0)
    → Chain mode s r cs
stated mode s r cs ws t b e g =
    let p = between r b in
    let q : reader_after mode r (text_signal mode s cs) ≡ reader hunting ready t 0 =
    ap (λ (x : Reader). reader_after mode x (text_signal mode s cs)) p ∙ g.after in
    record {
      words_are = ap (λ (x : Reader). words mode x (text_signal mode s cs)) p ∙ g.heard ∙ e;
      between_after = record {
        frame_is = ap (λ (x : Reader). x.frame) q;
        keys-are = ap (λ (x : Reader). x.keys) q;
        prefix_is = ap (λ (x : Reader). x.prefix) q;
      };
    }

pub whole-chain : (mode : Mode) (s : Sender) (r : Reader) (cs : List ℕ) → all_chars cs ≡ true → Between r
    → InShift mode s r → Chain mode s r cs
unfolding hear
whole-chain Baudot45 s r cs t b f =
    stated Baudot45 s r cs (text_of r.shift (codes_of s cs)) _ b (read_back-is s r.shift cs t f)
    (chain Baudot45 (marks-pass Baudot45 (λ q x. refl) ready r.shift 0 150)
    (codes-read Baudot45 code-45 ready r.shift 0 (codes_of s cs) (five-bits s cs t)))
whole-chain Baudot50 s r cs t b f =
    stated Baudot50 s r cs (text_of r.shift (codes_of s cs)) _ b (read_back-is s r.shift cs t f)
    (chain Baudot50 (marks-pass Baudot50 (λ q x. refl) ready r.shift 0 150)
    (codes-read Baudot50 code-50 ready r.shift 0 (codes_of s cs) (five-bits s cs t)))
whole-chain Dtmf s r cs t b f =
    stated Dtmf s r cs _ r.shift b refl
    (own-codes Dtmf dtmf (reader hunting ready r.shift 0) (dtmf-code r.shift) cs t)
whole-chain Edt s r cs t b f =
    stated Edt s r cs _ r.shift b refl
    (chain Edt (marks-pass Edt (λ q x. refl) ready r.shift 0 300)
    (own-codes Edt edt (reader hunting ready r.shift 0) (edt-code r.shift) cs t))
