-- What `read` answers: the questions in order, a refusal, a success.
use mathlib.Core.Path.{◌≡◌, ◌∙◌, refl}
use mathlib.Core.Bool.{true, false, ◌||◌}
use mathlib.Core.List.{List}
use mathlib.Core.Logic.{◌⊎◌, inl, inr}
use Prim.Native.Nat.{ℕ, zero, suc, ◌≤◌, ◌<◌}
use native.Mathlib.Omega.{arith}
use lib.Dec.{eqb}
use lib.ListN.{length}
use lib.Seq.{sets}
use borrow.Author.Tests.{ne_eqb, le-leb, lt-leb}
use Rattle.lists.proofs.Lists.{sets-front}
use Rattle.baudot.specs.declared.BaudotText.{BaudotText}
use Rattle.baudot_reading.specs.declared.Taken.{Taken}
use Rattle.baudot.specs.Reading.{text_of, shift_after, all_codes}
use Rattle.baudot.specs.Entries.{read, read_answer, read_of, text_after}

module _ (codes : List ℕ) (shift : ℕ) (text : List ℕ) where
  abbrev reply : ℕ
  reply = read_answer codes shift (length text)

  pub record Read (r : BaudotText) (after : List ℕ) : Type 0 where
    pub result : r ≡ read_of codes shift (length text)
    pub slice : after ≡ text_after codes shift text

  -- a refusal gives back what it was given and leaves the slice
  pub read-refused : (a : ℕ) → reply ≡ a → (a ≡ 0 → ⊥) → Read (read a shift 0) text
  unfolding read_of text_after
  read-refused a e n =
      let z : eqb a 0 ≡ false = ne_eqb a 0 n in
      record { result = simp (e, z); slice = simp (e, z) }

  -- the first no decides
  pub no-shift : (shift ≡ 0) ⊎ ((shift ≡ 0 → ⊥) × (2 < shift)) → reply ≡ 1
  unfolding read_answer
  no-shift (inl e) = simp e
  no-shift (inr h) =
      let l = h.1 in
      simp (ne_eqb shift 1 (λ (e : shift ≡ 1). omega arith), ne_eqb shift 2 (λ (e : shift ≡ 2). omega arith))

  module _ (a : shift ≡ 0 → ⊥) (b : shift ≤ 2) where
    ranged : (eqb shift 1 || eqb shift 2) ≡ true
    ranged = go shift a b
      where
        go : (n : ℕ) → (n ≡ 0 → ⊥) → n ≤ 2 → (eqb n 1 || eqb n 2) ≡ true
        go zero z h = absurd (z refl)
        go (suc zero) z h = refl
        go (suc (suc zero)) z h = refl
        go (suc (suc (suc n))) z h = absurd (omega arith)

    pub no-codes : all_codes codes ≡ false → reply ≡ 10
    unfolding read_answer
    no-codes e = simp (ranged, e)

    module _ (c : all_codes codes ≡ true) where
      pub no-text-room : length text < length (text_of shift codes) → reply ≡ 9
      unfolding read_answer
      no-text-room h = simp (ranged, c, lt-leb (length (text_of shift codes)) (length text) h)

      pub read-yes : length (text_of shift codes) ≤ length text → reply ≡ 0
      unfolding read_answer
      read-yes h = simp (ranged, c, le-leb (length (text_of shift codes)) (length text) h)

  pub read-accepted : reply ≡ 0 → length (text_of shift codes) ≤ length text → (t : Taken) (after : List ℕ)
      → t ≡ record { at = length (text_of shift codes); shift = shift_after shift codes }
      → after ≡ sets text 0 (text_of shift codes)
      → Read (read 0 t.shift t.at) after
  unfolding read_of text_after
  read-accepted e h t after et ea =
      record { result = rw et (simp e); slice = ea ∙ sets-front text (text_of shift codes) h ∙ (simp e) }
