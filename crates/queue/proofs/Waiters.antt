-- Laws on the characters that wait.
use mathlib.Core.Path.{◌≡◌, ◌∙◌, refl, sym, ap}
use mathlib.Core.Bool.{Bool, true, false, cond, ◌&&◌, and_assoc, and-true}
use mathlib.Core.List.{List, [], ◌∷◌, ◌++◌}
use Prim.Native.Nat.{ℕ, suc, ◌+◌, ◌<◌, ◌≤◌}
use native.Mathlib.Omega.{arith}
use native.Mathlib.Numerals.{add-one}
use lib.ListN.{length, get_or, drop, drop_of_length-le, length-append}
use lib.Seq.{sets, drop-cons, length-sets}
use Rattle.std.specs.List.{filter, fold}
use Rattle.std.proofs.lemmas.List.Sums.{length-filter, count_by-le-length}
use Rattle.lists.proofs.Lists.{sets-append}
use Rattle.alphabet.specs.declared.Alphabet.{Alphabet}
use Rattle.queue.specs.Queue.{waits, waiters, all_wait}

module _ (a : Alphabet) where
  -- one character after the other
  pub waiters-cons : (c : ℕ) (cs : List ℕ) → waiters a (c ∷ cs) ≡ waiters a (c ∷ []) ++ waiters a cs
  unfolding waiters
  waiters-cons c cs = go (waits a c)
    where
      go : (b : Bool) → cond b (c ∷ waiters a cs) (waiters a cs) ≡ cond b (c ∷ []) [] ++ waiters a cs
      go true = refl
      go false = refl

  -- one that waits, and one that does not
  pub waiter : (c : ℕ) → waits a c ≡ true → waiters a (c ∷ []) ≡ c ∷ []
  unfolding waiters
  waiter c e = rw e refl

  pub no-waiter : (c : ℕ) → waits a c ≡ false → waiters a (c ∷ []) ≡ []
  unfolding waiters
  no-waiter c e = rw e refl

  -- what is left of a text at a place
  pub waiters-left : (text : List ℕ) (i : ℕ) → i < length text
      → waiters a (drop i text) ≡ waiters a (get_or text i 0 ∷ []) ++ waiters a (drop (i + 1) text)
  waiters-left text i h = rw (add-one, drop-cons text i 0 h) (waiters-cons (get_or text i 0) (drop (suc i) text))

  pub waiters-end : (text : List ℕ) (i : ℕ) → length text ≤ i → waiters a (drop i text) ≡ []
  unfolding waiters
  waiters-end text i h = rw (drop_of_length-le text h)

  pub left-length : (text : List ℕ) (i : ℕ) → i < length text
      → length (waiters a (drop i text))
      ≡ length (waiters a (get_or text i 0 ∷ [])) + length (waiters a (drop (i + 1) text))
  left-length text i h =
      ap length (waiters-left text i h)
      ∙ length-append (waiters a (get_or text i 0 ∷ [])) (waiters a (drop (i + 1) text))

  -- those that wait, and the test, by the list functions of the library
  pub waiters-filter : (cs : List ℕ) → waiters a cs ≡ filter (waits a) cs
  unfolding waiters
  waiters-filter [] = refl
  waiters-filter (c ∷ cs) = go (waits a c) (waiters-filter cs)
    where
      go : (b : Bool) → waiters a cs ≡ filter (waits a) cs
          → cond b (c ∷ waiters a cs) (waiters a cs) ≡ cond b (c ∷ filter (waits a) cs) (filter (waits a) cs)
      go true e = ap (λ (ws : List ℕ). c ∷ ws) e
      go false e = e

  pub waiters-few : (cs : List ℕ) → length (waiters a cs) ≤ length cs
  waiters-few cs = rw (waiters-filter cs, length-filter) (count_by-le-length (waits a) cs)

  pub wait-fold : (good : Bool) (cs : List ℕ) → fold (λ b c. b && waits a c) good cs ≡ (good && all_wait a cs)
  unfolding all_wait
  wait-fold good [] = sym (and-true good)
  wait-fold good (c ∷ cs) = wait-fold (good && waits a c) cs ∙ and_assoc good (waits a c) (all_wait a cs)

  -- characters that are written at a place: what is left of the text, behind what stands there, is the whole
  pub record Putting (text chars₀ : List ℕ) (at : ℕ) (chars : List ℕ) (n i : ℕ) : Type 0 where
    pub size : length chars ≡ length chars₀
    pub left : n + length (waiters a (drop i text)) ≡ at + length (waiters a text)
    pub whole : sets chars n (waiters a (drop i text)) ≡ sets chars₀ at (waiters a text)

  pub putting-start : (text chars₀ : List ℕ) (at : ℕ) → Putting text chars₀ at chars₀ at 0
  putting-start text chars₀ at = record { size = refl; left = refl; whole = refl }

  module _ (text chars₀ : List ℕ) (at : ℕ) (chars : List ℕ) (n i : ℕ) (p : Putting text chars₀ at chars n i) where
    pub putting-room : i < length text → at + length (waiters a text) ≤ length chars₀
        → n + length (waiters a (get_or text i 0 ∷ [])) ≤ length chars
    putting-room h r =
        let e = left-length text i h in
        let l = p.left in
        let s = p.size in
        omega arith

    pub putting-turn : (chars' : List ℕ) (n' : ℕ) → i < length text → n' ≡ n + length (waiters a (get_or text i 0 ∷ []))
        → chars' ≡ sets chars n (waiters a (get_or text i 0 ∷ [])) → Putting text chars₀ at chars' n' (i + 1)
    putting-turn chars' n' h e f =
        let w = waiters a (get_or text i 0 ∷ []) in
        let rest = waiters a (drop (i + 1) text) in
        let l = p.left in
        let k = left-length text i h in
        record {
          size = ap length f ∙ length-sets chars n w ∙ p.size;
          left = omega arith;
          whole =
              (λ j. sets (f j) (e j) rest)
              ∙ sym (sets-append chars n w rest)
              ∙ ap (λ (v : List ℕ). sets chars n v) (sym (waiters-left text i h))
              ∙ p.whole;
        }

    pub putting-end : length text ≤ i → chars ≡ sets chars₀ at (waiters a text)
    putting-end h = ap (λ (v : List ℕ). sets chars n v) (sym (waiters-end text i h)) ∙ p.whole
