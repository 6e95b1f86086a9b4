-- One ms of a calling set, by cases: after the choice, with a tone, with none before the pause is over and after it.
use mathlib.Core.Path.{◌≡◌, ◌∙◌, sym, ap}
use mathlib.Core.Bool.{true, false}
use Prim.Native.Nat.{ℕ, ◌+◌, ◌≤◌, ◌<◌}
use borrow.Author.Tests.{eq-eqb, ne_eqb, eqb-true, eqb-false, lt-ltb, le-ltb, leb-true}
use lib.Dec.{eqb, leb}
use Rattle.lists.proofs.Lists.{by-test, and_left, and_right}
use Rattle.calling.specs.declared.Calling.{Calling}
use Rattle.calling.specs.Timetable.{nothing, value_at, place_after}
use Rattle.calling.specs.Tones.{none, length_of}
use Rattle.calling.specs.Counting.{counted}
use Rattle.calling.specs.Set.{calling, pause, pause_over, ms_after, reached, chosen, calling_ms, sent_ms}

-- another tone starts its own count at 1; the same is counted on up to the most, and stays there
pub counted-other : (t m h k : ℕ) → (h ≡ t → ⊥) → counted t m h k ≡ 1
unfolding counted
counted-other t m h k n = simp (ne_eqb _ _ n)

pub counted-more : (t m h k : ℕ) → h ≡ t → m < k → counted t m h k ≡ m + 1
unfolding counted
counted-more t m h k e l = simp (eq-eqb _ _ e, lt-ltb _ _ l)

pub counted-most : (t m h k : ℕ) → h ≡ t → k ≤ m → counted t m h k ≡ m
unfolding counted
counted-most t m h k e l = simp (eq-eqb _ _ e, le-ltb _ _ l)

-- What a ms leaves and what it sends.
pub record Does (s : Calling) (h : ℕ) (t : Calling) (v : ℕ) : Type 0 where
  pub leaves : calling_ms s h ≡ t
  pub says : sent_ms s h ≡ v

module _ (s : Calling) (h : ℕ) where
  -- the choice is made: nothing changes, and nothing is sent
  pub does-chosen : (s.choice ≡ 0 → ⊥) → Does s h s nothing
  unfolding calling_ms sent_ms
  does-chosen c =
      let e = ne_eqb _ _ c in
      record { leaves = simp e; says = simp e }

  -- where none is made after a ms, none was made before it
  pub no-choice-before : (calling_ms s h).choice ≡ 0 → s.choice ≡ 0
  no-choice-before c =
      by-test (eqb s.choice 0) (λ e. eqb-true _ _ e)
      (λ e.
      let z = eqb-false _ _ e in
      absurd (z (sym (ap (λ (t : Calling). t.choice) (does-chosen z).leaves) ∙ c)))

  module _ (c : s.choice ≡ 0) where
    -- until the choice is made, what is heard is counted ..
    pub tone-after : (calling_ms s h).tone ≡ h
    unfolding calling_ms
    tone-after = simp (eq-eqb _ _ c)

    pub ms-after : (calling_ms s h).ms ≡ ms_after s h
    unfolding calling_ms
    ms-after = simp (eq-eqb _ _ c)

    -- .. and makes the choice or not
    pub choice-after : (calling_ms s h).choice ≡ chosen h (ms_after s h)
    unfolding calling_ms
    choice-after = simp (eq-eqb _ _ c)

    -- a tone: nothing is sent, and the timetable goes back to its first place
    pub does-tone : (l m : ℕ) → l ≡ length_of h → m ≡ counted s.tone s.ms h l → (h ≡ none → ⊥)
        → Does s h (calling h m 0 (reached h m l)) nothing
    unfolding calling_ms sent_ms
    does-tone l m p q t =
        let e = eq-eqb _ _ c in
        let f = ne_eqb _ _ t in
        rw (q, p) (record { leaves = simp (e, f); says = simp (e, f) })

    module _ (n : h ≡ none) where
      -- none, and the pause is not over: nothing is sent
      pub does-pause : pause_over s.tone s.ms ≡ false
          → Does s h (calling none (counted s.tone s.ms none pause) 0 0) nothing
      unfolding calling_ms sent_ms
      does-pause p =
          let e = eq-eqb _ _ c in
          rw n (record { leaves = simp (e, p); says = simp (e, p) })

      -- none after the pause: the timetable runs, and the count stays
      pub does-timetable : pause_over s.tone s.ms ≡ true
          → Does s h (calling s.tone s.ms (place_after s.place) 0) (value_at s.place)
      unfolding calling_ms sent_ms
      does-timetable p =
          let e = eq-eqb _ _ c in
          let t : s.tone ≡ none = eqb-true _ _ (and_left (eqb s.tone none) (leb pause s.ms) p) in
          let m : pause ≤ s.ms = leb-true _ _ (and_right (eqb s.tone none) (leb pause s.ms) p) in
          let k = counted-most s.tone s.ms none pause (sym t) m in
          rw n
          (record {
            leaves = simp (e, p, k) (λ i. calling (sym t i) s.ms (place_after s.place) 0);
            says = simp (e, p);
          })
