-- Where the line is free, and where a burst is on it: within the run.
use mathlib.Core.Path.{◌≡◌, ◌∙◌, refl, sym, ap}
use mathlib.Core.List.{List, [], ◌∷◌}
use Prim.Native.Nat.{ℕ, suc, ◌+◌, ◌-◌, ◌≤◌, ◌<◌}
use native.Mathlib.Numerals.{add-one}
use native.Mathlib.Omega.{arith}
use lib.Dec.{eqb, leb, ltb}
use lib.ListN.{length, get_or, drop, drop_of_length-le}
use lib.Seq.{drop-cons}
use borrow.Author.Tests.{le-leb, lt-leb, lt-ltb, le-ltb, ltb-true, ltb-false}
use Rattle.lists.proofs.Lists.{either, by-test}
use Rattle.burst.specs.Rules.{free_ms, is_silent}
use Rattle.burst.specs.Line.{in_burst}
use Rattle.half_duplex.specs.declared.Core.{Core}
use Rattle.half_duplex.specs.Core.{silence_after}
use Rattle.drift.specs.code.Moments.{free_at, burst_at}

free-within : (s d : ℕ) (heard : List ℕ) → free_at s d heard ≤ length heard
unfolding free_at
free-within s d [] = omega arith
free-within s d (x ∷ xs) =
    let next = free_at (silence_after (is_silent (ltb 0 d) x) s) (d - 1) xs in
    let h = free-within (silence_after (is_silent (ltb 0 d) x) s) (d - 1) xs in
    either (λ (n : ℕ). n ≤ length (x ∷ xs)) (leb free_ms s) 0 (suc next) (omega arith) (omega arith)

pub burst-within : (c : Core) (heard : List ℕ) → burst_at c heard ≤ length heard
unfolding burst_at
burst-within c heard =
    either (λ (n : ℕ). n ≤ length heard) (in_burst c.line) _ _ (omega arith)
    (either (λ (n : ℕ). n ≤ length heard) (eqb c.waiting 0) _ _ (omega arith)
    (free-within c.silence c.inhibited heard))

-- ---- the loop that looks for it

abbrev pub from : ℕ → ℕ → List ℕ → ℕ → ℕ
from s d heard i = i + free_at s (d - i) (drop i heard)

pub first : (s d : ℕ) (heard : List ℕ) → from s d heard 0 ≡ free_at s d heard
first s d heard =
    let all : d - 0 ≡ d = omega arith in
    let e = ap (λ (k : ℕ). free_at s k heard) all in
    omega arith

-- some inhibited ms are to come
still-deaf : (d i : ℕ) → ltb 0 (d - i) ≡ ltb i d
still-deaf d i =
    by-test (ltb i d)
    (λ e. let h = ltb-true i d e in lt-ltb 0 (d - i) (omega arith) ∙ sym e)
    (λ e. let h = ltb-false i d e in le-ltb 0 (d - i) (omega arith) ∙ sym e)

module _ (s d : ℕ) (heard : List ℕ) (i : ℕ) where
  pub found-end : length heard ≤ i → from s d heard i ≡ i
  unfolding free_at
  found-end h = ap (λ (l : List ℕ). i + free_at s (d - i) l) (drop_of_length-le heard h) ∙ (omega arith)

  module _ (h : i < length heard) where
    abbrev x : ℕ
    x = get_or heard i 0

    here : drop i heard ≡ x ∷ drop (i + 1) heard
    here = drop-cons heard i 0 h ∙ ap (λ (k : ℕ). x ∷ drop k heard) (sym (add-one i))

    pub found : free_ms ≤ s → from s d heard i ≡ i
    unfolding free_at
    found f = rw (here, le-leb free_ms s f) (omega arith)

    pub turn : s < free_ms → from (silence_after (is_silent (ltb i d) x) s) d heard (i + 1) ≡ from s d heard i
    unfolding free_at
    turn f =
        let deaf = sym (still-deaf d i) in
        let less : d - (i + 1) ≡ d - i - 1 = omega arith in
        let next = free_at (silence_after (is_silent (ltb 0 (d - i)) x) s) (d - i - 1) (drop (i + 1) heard) in
        let one : i + 1 + next ≡ i + suc next = omega arith in
        (λ j.
        i + 1 + free_at (silence_after (is_silent (deaf j) x) s) (less j) (drop (i + 1) heard))
        ∙ one ∙ (rw (here, lt-leb free_ms s f) refl)
