-- Laws of taking a text up: the silent characters ahead, and a fresh sender's first shift code.
use Rattle.std.specs.Prelude.{Option, Some, None}
use Rattle.alphabet.specs.declared.CharCode.{CharCode}
use mathlib.Core.Path.{◌≡◌, ◌∙◌, refl, sym, ap}
use mathlib.Core.Bool.{true, false, false≢true}
use mathlib.Core.List.{List, ◌∷◌, ◌++◌}
use Prim.Native.Nat.{ℕ, zero, suc, ◌+◌, ◌-◌, ◌/◌, ◌≤◌, ◌<◌}
use native.Mathlib.Omega.{arith}
use lib.Dec.{leb}
use lib.ListN.{length, get_or, set, drop, length-drop}
use lib.Seq.{sets}
use borrow.Author.Tests.{le-leb}
use Rattle.lists.proofs.Lists.{at-most-at}
use Rattle.alphabet.specs.declared.Alphabet.TheVariants.{Baudot}
use Rattle.alphabet.specs.Baudot.{letters_code}
use Rattle.alphabet.specs.Normal.{sends, is_code, all_chars}
use Rattle.baudot.specs.declared.Sender.{Sender}
use Rattle.baudot_sending.specs.declared.Placed.{Placed}
use Rattle.baudot.specs.Sending.{sender, codes_for, sender_for, codes_of, sender_after, Running}
use Rattle.baudot_sending.specs.code.Opening.{Silent, opening_codes, Opened}
use Rattle.baudot.specs.code.Bounds.{SenderIn}
use Rattle.baudot.proofs.SendingRule.{codes-twice}
use Rattle.baudot.proofs.Fresh.{running-letters, fresh-for}
use Rattle.baudot_sending.proofs.Left.{codes-left, sender-left}

-- the characters ahead of a place send nothing
pub record Quiet (text : List ℕ) (n : ℕ) : Type 0 where
  pub within : n ≤ length text
  pub same_codes : (s : Sender) → codes_of s text ≡ codes_of s (drop n text)
  pub same_sender : (s : Sender) → sender_after s text ≡ sender_after s (drop n text)

pub quiet-start : (text : List ℕ) → Quiet text 0
quiet-start text = record { within = omega arith; same_codes = λ s. refl; same_sender = λ s. refl }

nothing-of : (x : Option CharCode) → is_code x ≡ false → x ≡ None
nothing-of None e = refl
nothing-of (Some o) e = absurd (false≢true (sym e))

pub quiet-turn : (text : List ℕ) (n : ℕ) → Quiet text n → n < length text
    → is_code (sends Baudot (get_or text n 0)) ≡ false → Quiet text (n + 1)
unfolding codes_for sender_for
quiet-turn text n q h e =
    let x = nothing-of (sends Baudot (get_or text n 0)) e in
    record {
      within = omega arith;
      same_codes = λ s. q.same_codes s ∙ codes-left text s n h ∙ (simp x);
      same_sender = λ s. q.same_sender s ∙ sender-left text s n h ∙ (simp x);
    }

pub quiet-silent : (text : List ℕ) (n : ℕ) → Quiet text n
    → (n < length text → is_code (sends Baudot (get_or text n 0)) ≡ true) → Silent text n
quiet-silent text n q c =
    record { within = q.within; same_codes = q.same_codes; same_sender = q.same_sender; then_code = c }

pub quiet-end : (text : List ℕ) (n : ℕ) → Quiet text n → length text ≤ n → Silent text (length text)
quiet-end text n q h =
    let e : n ≡ length text = omega (arith, q.within) in
    rw e at (quiet-silent text n q (λ l. absurd (omega arith)))

-- a running sender goes on
pub open-running : (s : Sender) (text : List ℕ) → SenderIn s → (s.shift ≡ 0 → ⊥)
    → Opened text s text (record { at = 0; sender = s })
open-running s text h n =
    record {
      at_in = omega arith;
      shorter = omega arith;
      running = λ _. record { shift_low = omega (arith, n); shift_in = h.shift_in; count_in = h.count_in };
      codes-are = refl;
      sender-is = refl;
    }

-- a fresh sender's first shift code
module _ (s : Sender) (fresh : s.shift ≡ 0) (text : List ℕ) (n : ℕ) (q : Silent text n) (rest : List ℕ)
    (left : rest ≡ drop n text) where
  size : length rest ≡ length text - n
  size = ap length left ∙ length-drop n text

  -- with a character that sends something, at n
  pub open-fresh : 0 < length rest → all_chars text ≡ true
      → Opened text s rest (record { at = 1; sender = sender 1 0 })
  open-fresh l chars =
      let m = size in
      let h : n < length text = omega arith in
      let g : get_or text n 0 < 128 = omega (arith, at-most-at 0x7f text chars n h) in
      let x = sends Baudot (get_or text n 0) in
      let f = fresh-for s fresh (get_or text n 0) g (q.then_code h) in
      record {
        at_in = omega arith;
        shorter = omega arith;
        running = λ _. running-letters;
        codes-are =
            q.same_codes s ∙ codes-left text s n h ∙ (simp (f.0, f.1))
            ∙ ap (λ (l : List ℕ). letters_code ∷ l) (sym (codes-left text (sender 1 0) n h))
            ∙ ap (λ (l : List ℕ). letters_code ∷ codes_of (sender 1 0) l) (sym left);
        sender-is =
            q.same_sender s ∙ sender-left text s n h ∙ (simp f.1) ∙ sym (sender-left text (sender 1 0) n h)
            ∙ ap (sender_after (sender 1 0)) (sym left);
      }

  -- with none
  pub open_none : length rest ≡ 0 → Opened text s rest (record { at = 0; sender = s })
  open_none l =
      let m = size in
      record {
        at_in = omega arith;
        shorter = omega arith;
        running = λ g. absurd (omega (arith, l, g));
        codes-are = q.same_codes s ∙ ap (codes_of s) (sym left);
        sender-is = q.same_sender s ∙ ap (sender_after s) (sym left);
      }

-- twice the text and one more is enough for any result
pub room-enough : (text : List ℕ) (at : ℕ) (s : Sender) (room : ℕ) → all_chars text ≡ true
    → (0 < length text → Running s) → at ≤ 1 → length text < room - room / 2
    → true ≡ leb (at + length (codes_of s text)) room
room-enough text at s room chars r a h =
    let b = codes-twice s text chars r in
    sym (le-leb (at + length (codes_of s text)) room (omega arith))

-- The codes of an opened text, written from the front, behind a fresh sender's first shift code or without.
module _ (text : List ℕ) (p : Placed) where
  abbrev rest : List ℕ
  rest = codes_of p.sender text

  abbrev all : List ℕ
  all = opening_codes p.at ++ rest

  module _ (first : p.at ≤ 1) where
    pub all-length : length all ≡ p.at + length rest
    all-length = go p.at first
      where
        go : (n : ℕ) → n ≤ 1 → length (opening_codes n ++ rest) ≡ n + length rest
        go zero h = omega arith
        go (suc zero) h = omega arith
        go (suc (suc n)) h = absurd (omega arith)

    pub placed-all : (q : Placed) → q ≡ record { at = p.at + length rest; sender = sender_after p.sender text }
        → q ≡ record { at = length all; sender = sender_after p.sender text }
    placed-all q e = e ∙ (λ i. record { at = sym all-length i; sender = sender_after p.sender text })

    pub stored-none : (codes : List ℕ) → (p.at ≡ 1 → ⊥) → sets codes p.at rest ≡ sets codes 0 all
    stored-none codes n = let z : p.at ≡ 0 = omega (arith, n) in simp z

  pub stored-one : (codes : List ℕ) → p.at ≡ 1 → (k : ℕ) → k ≡ letters_code
      → sets (set codes 0 k) p.at rest ≡ sets codes 0 all
  stored-one codes e k f = simp (e, f)
