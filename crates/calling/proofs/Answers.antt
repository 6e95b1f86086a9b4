-- What a run answers: the questions in order, what a refusal leaves, and what success gives.
use mathlib.Core.Path.{◌≡◌, ◌∙◌, refl, ap}
use mathlib.Core.Bool.{Bool, true, false, cond}
use mathlib.Core.List.{List, ◌++◌}
use Prim.Native.Nat.{ℕ, ◌≤◌, ◌<◌}
use native.Mathlib.Omega.{arith}
use borrow.Author.Tests.{ne_eqb, le-leb, lt-leb, leb-true}
use lib.Dec.{leb}
use lib.ListN.{length, drop}
use lib.Seq.{sets}
use Rattle.lists.specs.Lists.{most_ms}
use Rattle.lists.proofs.Lists.{sets-front}
use Rattle.lists.proofs.Steps.{outputs-length}
use Rattle.calling.specs.declared.Calling.{Calling}
use Rattle.calling.specs.Tones.{all_tones}
use Rattle.calling.specs.Set.{in_range, calling_ms, sent_ms, after, sent_of}
use Rattle.calling.specs.Entry.{answer_to, ran, ran_of, sent_after}

-- the first no decides
module _ (s : Calling) (ts : List ℕ) (room : ℕ) where
  pub answer-12 : in_range s ≡ false → answer_to s ts room ≡ 12
  unfolding answer_to
  answer-12 e = simp e

  module _ (e : in_range s ≡ true) where
    pub answer-5 : most_ms < length ts → answer_to s ts room ≡ 5
    unfolding answer_to
    answer-5 h = simp (e, lt-leb _ _ h)

    module _ (h : length ts ≤ most_ms) where
      pub answer-11 : all_tones ts ≡ false → answer_to s ts room ≡ 11
      unfolding answer_to
      answer-11 f = simp (e, le-leb _ _ h, f)

      module _ (f : all_tones ts ≡ true) where
        pub answer-7 : room < length ts → answer_to s ts room ≡ 7
        unfolding answer_to
        answer-7 g = simp (e, le-leb _ _ h, f, lt-leb _ _ g)

        pub answer-0 : length ts ≤ room → answer_to s ts room ≡ 0
        unfolding answer_to
        answer-0 g = simp (e, le-leb _ _ h, f, le-leb _ _ g)

through : (b : Bool) (x k : ℕ) → (k ≡ 0 → ⊥) → cond b x k ≡ 0 → (b ≡ true) × (x ≡ 0)
through true x k n e = (refl, e)
through false x k n e = absurd (n e)

-- What a run has been given that succeeds.
pub record Given (s : Calling) (ts : List ℕ) (room : ℕ) : Type 0 where
  pub range : in_range s ≡ true
  pub short : length ts ≤ most_ms
  pub tones : all_tones ts ≡ true
  pub fits : length ts ≤ room

pub succeeds : (s : Calling) (ts : List ℕ) (room : ℕ) → answer_to s ts room ≡ 0 → Given s ts room
unfolding answer_to
succeeds s ts room e =
    let a = through (in_range s) _ 12 (λ z. omega arith) e in
    let b = through (leb (length ts) most_ms) _ 5 (λ z. omega arith) a.1 in
    let c = through (all_tones ts) _ 11 (λ z. omega arith) b.1 in
    let d = through (leb (length ts) room) _ 7 (λ z. omega arith) c.1 in
    record { range = a.0; short = leb-true _ _ b.0; tones = c.0; fits = leb-true _ _ d.0 }

module _ (s : Calling) (ts slice : List ℕ) where
  -- a refusal leaves the state and the slice
  pub refused : (a : ℕ) → (a ≡ 0 → ⊥) → answer_to s ts (length slice) ≡ a
      → (ran s a ≡ ran_of s ts (length slice)) × (slice ≡ sent_after s ts slice)
  unfolding ran_of sent_after
  refused a n e = let z = ne_eqb a 0 n in (simp (e, z), simp (e, z))

  -- success gives the state after all the ms, and one sent ms for each from the slice's front
  pub accepted : answer_to s ts (length slice) ≡ 0 → length ts ≤ length slice → (t : Calling) (written : List ℕ)
      → t ≡ after s ts → written ≡ sets slice 0 (sent_of s ts)
      → (ran t 0 ≡ ran_of s ts (length slice)) × (written ≡ sent_after s ts slice)
  unfolding ran_of sent_after
  accepted a h t written p q =
      let n = outputs-length calling_ms sent_ms s ts in
      let w = q ∙ sets-front slice (sent_of s ts) (omega arith) ∙ ap (λ (k : ℕ). sent_of s ts ++ drop k slice) n in
      (simp (a, p), simp a w)
