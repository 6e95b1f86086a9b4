-- What `send` answers: the questions in order, a refusal, a success.
use mathlib.Core.Path.{◌≡◌, ◌∙◌, sym, ap}
use mathlib.Core.Bool.{true, false}
use mathlib.Core.List.{List, ◌++◌}
use Prim.Native.Nat.{ℕ, ◌+◌, ◌≤◌, ◌<◌}
use lib.Dec.{eqb}
use lib.ListN.{length}
use lib.Seq.{sets}
use borrow.Author.Tests.{ne_eqb, le-leb, lt-leb}
use Rattle.lists.proofs.Lists.{sets-front}
use Rattle.alphabet.specs.Normal.{all_chars}
use Rattle.baudot.specs.declared.BaudotSent.{BaudotSent}
use Rattle.baudot_sending.specs.declared.Placed.{Placed}
use Rattle.baudot.specs.Sending.{sender, codes_of, sender_after, in_range}
use Rattle.baudot_sending.specs.code.Opening.{opening_codes, Opened}
use Rattle.baudot_sending.proofs.OpeningRule.{all-length}
use Rattle.baudot.specs.Entries.{sent, send_answer, sent_of, codes_after}

module _ (text : List ℕ) (shift count : ℕ) (codes : List ℕ) where
  abbrev answer : ℕ
  answer = send_answer text shift count (length codes)

  -- what the entry leaves: its result, and the slice
  pub record Sent (r : BaudotSent) (after : List ℕ) : Type 0 where
    pub result : r ≡ sent_of text shift count (length codes)
    pub slice : after ≡ codes_after text shift count codes

  -- a refusal gives back what it was given and leaves the slice
  pub refused : (a : ℕ) → answer ≡ a → (a ≡ 0 → ⊥) → Sent (sent a shift count 0) codes
  unfolding sent_of codes_after
  refused a e n =
      let z : eqb a 0 ≡ false = ne_eqb a 0 n in
      record { result = simp (e, z); slice = simp (e, z) }

  -- the first no decides
  pub no_sender : in_range (sender shift count) ≡ false → answer ≡ 1
  unfolding send_answer
  no_sender e = simp e

  module _ (a : in_range (sender shift count) ≡ true) where
    pub no-chars : all_chars text ≡ false → answer ≡ 3
    unfolding send_answer
    no-chars e = simp (a, e)

    module _ (c : all_chars text ≡ true) where
      pub no_room : length codes < length (codes_of (sender shift count) text) → answer ≡ 9
      unfolding send_answer
      no_room h = simp (a, c, lt-leb (length (codes_of (sender shift count) text)) (length codes) h)

      pub yes : length (codes_of (sender shift count) text) ≤ length codes → answer ≡ 0
      unfolding send_answer
      yes h = simp (a, c, le-leb (length (codes_of (sender shift count) text)) (length codes) h)

  -- success: the sender reached, and the codes written from the front
  module _ (rest : List ℕ) (o : Placed) (is : Opened text (sender shift count) rest o) where
    abbrev all : List ℕ
    all = opening_codes o.at ++ codes_of o.sender rest

    pub opening-length : o.at + length (codes_of o.sender rest) ≡ length (codes_of (sender shift count) text)
    opening-length = sym (all-length rest o is.at_in) ∙ ap length (sym is.codes-are)

    pub room-is : length (codes_of (sender shift count) text) ≤ length codes → length all ≤ length codes
    room-is h = rw is.codes-are at h

    pub accepted : answer ≡ 0 → length (codes_of (sender shift count) text) ≤ length codes
        → (p : Placed) (after : List ℕ)
        → p ≡ record { at = length all; sender = sender_after o.sender rest }
        → after ≡ sets codes 0 all
        → Sent (sent 0 p.sender.shift p.sender.count p.at) after
    unfolding sent_of codes_after
    accepted e h p after ep ea =
        let c = is.codes-are in
        let s = is.sender-is in
        record {
          result = rw ep (simp (e, c, s));
          slice = ea ∙ ap (sets codes 0) (sym c) ∙ sets-front codes (codes_of (sender shift count) text) h ∙ (simp e);
        }
