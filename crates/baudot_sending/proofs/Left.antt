-- A text that is taken up at a place: what is left of it, for the loops that send it.
use mathlib.Core.Path.{◌≡◌, ◌∙◌, refl, sym, ap}
use mathlib.Core.List.{List, [], ◌++◌}
use Prim.Native.Nat.{ℕ, ◌+◌, ◌≤◌, ◌<◌}
use native.Mathlib.Nat.{add-zero}
use native.Mathlib.Numerals.{add-one}
use native.Mathlib.Omega.{arith}
use lib.ListN.{length, get_or, drop, drop_of_length-le, length-append}
use lib.Seq.{sets, drop-cons, length-sets}
use Rattle.lists.proofs.Lists.{sets-append}
use Rattle.alphabet.specs.declared.Alphabet.TheVariants.{Baudot}
use Rattle.alphabet.specs.Normal.{sends}
use Rattle.baudot.specs.declared.Sender.{Sender}
use Rattle.baudot_sending.specs.declared.Placed.{Placed}
use Rattle.baudot.specs.Sending.{codes_for, sender_for, codes_of, sender_after, Running}
use Rattle.baudot.proofs.SendingRule.{running-for}

module _ (text : List ℕ) (s : Sender) (i : ℕ) where
  pub codes-left : i < length text
      → codes_of s (drop i text)
      ≡ codes_for s (sends Baudot (get_or text i 0))
      ++ codes_of (sender_for s (sends Baudot (get_or text i 0))) (drop (i + 1) text)
  unfolding codes_of
  codes-left h = rw (add-one, drop-cons text i 0 h)

  -- and their number
  length-left : i < length text
      → length (codes_of s (drop i text))
      ≡ length (codes_for s (sends Baudot (get_or text i 0)))
      + length (codes_of (sender_for s (sends Baudot (get_or text i 0))) (drop (i + 1) text))
  length-left h =
      let x = sends Baudot (get_or text i 0) in
      ap length (codes-left h) ∙ length-append (codes_for s x) (codes_of (sender_for s x) (drop (i + 1) text))

  pub sender-left : i < length text
      → sender_after s (drop i text) ≡ sender_after (sender_for s (sends Baudot (get_or text i 0))) (drop (i + 1) text)
  unfolding sender_after
  sender-left h = rw (add-one, drop-cons text i 0 h)

  pub codes-end : length text ≤ i → codes_of s (drop i text) ≡ []
  unfolding codes_of
  codes-end h = rw (drop_of_length-le text h)

  pub sender-end : length text ≤ i → sender_after s (drop i text) ≡ s
  unfolding sender_after
  sender-end h = rw (drop_of_length-le text h)

-- From the place p₀ on a text is sent; at the place p and the index i this is left.
pub record Left (text : List ℕ) (p₀ p : Placed) (i : ℕ) : Type 0 where
  pub running : i < length text → Running p.sender
  pub place : p.at + length (codes_of p.sender (drop i text)) ≡ p₀.at + length (codes_of p₀.sender text)
  pub sender : sender_after p.sender (drop i text) ≡ sender_after p₀.sender text

module _ (text : List ℕ) (p₀ : Placed) where
  pub left-start : (0 < length text → Running p₀.sender) → Left text p₀ p₀ 0
  left-start r = record { running = r; place = refl; sender = refl }

  module _ (p : Placed) (i : ℕ) (l : Left text p₀ p i) where
    -- one character more, for which n is sent, and after which t is the sender
    module _ (n : List ℕ) (t : Sender) (h : i < length text)
        (codes-are : n ≡ codes_for p.sender (sends Baudot (get_or text i 0)))
        (sender-is : t ≡ sender_for p.sender (sends Baudot (get_or text i 0))) where
      pub left-turn : get_or text i 0 < 128 → (q : Placed) → q ≡ record { at = p.at + length n; sender = t }
          → Left text p₀ q (i + 1)
      left-turn g q e =
          let a = length-left text p.sender i h in
          let b = l.place in
          rw (e, codes-are, sender-is)
          (record {
            running = λ _. running-for p.sender (get_or text i 0) g (l.running h);
            place = omega arith;
            sender = sym (sender-left text p.sender i h) ∙ l.sender;
          })

    -- the room for one character
    pub left-room : (room : ℕ) (n : List ℕ) → i < length text
        → n ≡ codes_for p.sender (sends Baudot (get_or text i 0))
        → p₀.at + length (codes_of p₀.sender text) ≤ room → p.at + length n ≤ room
    left-room room n h e g =
        let a = length-left text p.sender i h in
        let b = l.place in
        rw e (omega arith)

    -- nothing is left
    pub left_end : length text ≤ i
        → p ≡ record {
          at = p₀.at + length (codes_of p₀.sender text);
          sender = sender_after p₀.sender text;
        }
    left_end h =
        let n = ap (λ (xs : List ℕ). p.at + length xs) (codes-end text p.sender i h) in
        let a = sym l.place ∙ n ∙ add-zero p.at in
        let b = sym (sender-end text p.sender i h) ∙ l.sender in
        λ k. record { at = sym a k; sender = b k }

-- The same, with the slice that is written: codes₀ at first, codes at the place p.
pub record Writing (text codes₀ : List ℕ) (p₀ : Placed) (codes : List ℕ) (p : Placed) (i : ℕ) : Type 0 where
  pub left : Left text p₀ p i
  pub size : length codes ≡ length codes₀
  pub slice : sets codes p.at (codes_of p.sender (drop i text)) ≡ sets codes₀ p₀.at (codes_of p₀.sender text)

module _ (text codes₀ : List ℕ) (p₀ : Placed) where
  pub writing_start : (0 < length text → Running p₀.sender) → Writing text codes₀ p₀ codes₀ p₀ 0
  writing_start r = record { left = left-start text p₀ r; size = refl; slice = refl }

  module _ (codes : List ℕ) (p : Placed) (i : ℕ) (w : Writing text codes₀ p₀ codes p i) where
    pub writing-turn : (n : List ℕ) (t : Sender) → i < length text
        → n ≡ codes_for p.sender (sends Baudot (get_or text i 0))
        → t ≡ sender_for p.sender (sends Baudot (get_or text i 0))
        → get_or text i 0 < 128 → (q : Placed) → q ≡ record { at = p.at + length n; sender = t }
        → (after : List ℕ) → after ≡ sets codes p.at n → Writing text codes₀ p₀ after q (i + 1)
    writing-turn n t h c s g q e after f =
        let x = sends Baudot (get_or text i 0) in
        let m = codes_for p.sender x in
        let a = sets-append codes p.at m (codes_of (sender_for p.sender x) (drop (i + 1) text)) in
        record {
          left = left-turn text p₀ p i w.left n t h c s g q e;
          size = ap length f ∙ length-sets codes p.at n ∙ w.size;
          slice = rw (e, f, c, s) (sym a ∙ ap (sets codes p.at) (sym (codes-left text p.sender i h)) ∙ w.slice);
        }

    pub writing-end : length text ≤ i → codes ≡ sets codes₀ p₀.at (codes_of p₀.sender text)
    writing-end h = ap (sets codes p.at) (sym (codes-end text p.sender i h)) ∙ w.slice
