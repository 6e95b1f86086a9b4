-- A tone shorter than its length is no choice; one that reaches it is, in that ms, and it is for good.
use mathlib.Core.Path.{◌≡◌, ◌∙◌, refl, sym, ap}
use mathlib.Core.Bool.{Bool, true, false, cond, ◌&&◌, ◌||◌, and-true, and-false, or-true}
use mathlib.Core.List.{List, [], ◌∷◌, ◌++◌}
use Prim.Native.Nat.{ℕ, zero, suc, ◌+◌, ◌≤◌, ◌<◌}
use native.Mathlib.Omega.{arith}
use borrow.Author.Tests.{eq-eqb, ne_eqb, lt-ltb, le-ltb, eqb-true, eqb-false, ltb-true, ltb-false}
use lib.Dec.{eqb, ltb}
use lib.ListN.{length, replicate}
use Rattle.lists.specs.Steps.{state_after}
use Rattle.lists.proofs.Lists.{by-test, and_left, and_right}
use Rattle.lists.proofs.Steps.{Takes, stays}
use Rattle.calling.specs.declared.Calling.{Calling}
use Rattle.calling.specs.Timetable.{nothing}
use Rattle.calling.specs.Tones.{none, length_of}
use Rattle.calling.specs.Set.{fresh, pause, enough, ms_after, chosen, calling_ms, sent_ms, after, sent_of}
use Rattle.calling_theorems.specs.Choosing.{in_arow, too_short, all_short}
use Rattle.calling.proofs.OneMs.{counted-more, counted-most, counted-other, tone-after, ms-after, choice-after, does-chosen}

-- a choice is for good: every later ms leaves the state as it is and sends nothing
module _ (s : Calling) (hs : List ℕ) (c : s.choice ≡ 0 → ⊥) where
  abbrev still : Takes calling_ms sent_ms s hs (replicate (length hs) nothing) s
  still = stays calling_ms sent_ms s nothing (λ h. (does-chosen s h c).leaves) (λ h. (does-chosen s h c).says) hs

  pub for-good : after s hs ≡ s
  for-good = still.after

  pub for-good-sent : sent_of s hs ≡ replicate (length hs) nothing
  for-good-sent = still.found

neither-first : (a b : Bool) → a || b ≡ false → a ≡ false
neither-first true b e = e
neither-first false b e = refl

-- A count of n ms that is exact below k, and reaches k when n does.
record Bounded (ms n k : ℕ) : Type 0 where
  below : n < k → ms ≡ n
  above : k ≤ n → k ≤ ms

-- it tells whether n is below k
bounded-below : (ms n k : ℕ) → Bounded ms n k → ltb ms k ≡ ltb n k
bounded-below ms n k b =
    by-test (ltb n k)
    (λ e.
    let m = b.below (ltb-true _ _ e) in
    rw m)
    (λ e. le-ltb ms k (b.above (ltb-false _ _ e)) ∙ sym e)

-- What was heard last is t, for n ms in a row.
record Counts (s : Calling) (t n : ℕ) : Type 0 where
  tone_is : s.tone ≡ t
  ms_is : Bounded s.ms n (enough t)

-- one ms more
counted-on : (s : Calling) (t n h : ℕ) → Counts s t n → Bounded (ms_after s h) (in_arow t n h) (enough h)
counted-on s t n h c =
    by-test (eqb h t)
    (λ e.
    let q : h ≡ s.tone = eqb-true _ _ e ∙ sym c.tone_is in
    let b : Bounded s.ms n (enough h) = rw (eqb-true h t e) c.ms_is in
    simp e
    (by-test (ltb n (enough h))
    (λ f.
    let g : n < enough h = ltb-true _ _ f in
    let m = b.below g in
    rw (counted-more s.tone s.ms h (enough h) q (rw m g))
    (record { below = λ _. ap (λ (k : ℕ). k + 1) m; above = λ l. omega arith }))
    (λ f.
    let g : enough h ≤ n = ltb-false _ _ f in
    let m = b.above g in
    rw (counted-most s.tone s.ms h (enough h) q m)
    (record { below = λ l. absurd (omega arith); above = λ _. m }))))
    (λ e.
    let q = counted-other s.tone s.ms h (enough h) (λ z. eqb-false _ _ e (z ∙ c.tone_is)) in
    rw q (simp e (record { below = λ _. refl; above = λ l. l })))

counts-on : (s : Calling) (t n h : ℕ) → s.choice ≡ 0 → Counts s t n → Counts (calling_ms s h) h (in_arow t n h)
counts-on s t n h z c =
    record { tone_is = tone-after s h z; ms_is = rw (ms-after s h z) (counted-on s t n h c) }

-- the count tells whether this ms makes the choice
counts-chosen : (h ms n : ℕ) → Bounded ms n (enough h) → chosen h ms ≡ cond (too_short h n) 0 h
counts-chosen h ms n b =
    by-test (eqb h none) (λ e. simp e)
    (λ e.
    let l : ltb ms (length_of h) ≡ ltb n (length_of h) = bounded-below ms n (length_of h) (simp e at b) in
    simp (e, l))

-- until the choice is made, a ms makes it or not by the ms in a row
choice-by : (s : Calling) (h t n : ℕ) → s.choice ≡ 0 → Counts s t n
    → (calling_ms s h).choice ≡ cond (too_short h (in_arow t n h)) 0 h
choice-by s h t n c k = choice-after s h c ∙ counts-chosen h (ms_after s h) (in_arow t n h) (counted-on s t n h k)

-- a ms in which no tone reaches its length makes no choice, and the count goes on
short-ms : (s : Calling) (h t n : ℕ) → s.choice ≡ 0 → Counts s t n → too_short h (in_arow t n h) ≡ true
    → ((calling_ms s h).choice ≡ 0) × Counts (calling_ms s h) h (in_arow t n h)
short-ms s h t n c k e = (choice-by s h t n c k ∙ simp e, counts-on s t n h c k)

-- the ms in which one does makes it, for good
long-ms : (s : Calling) (h t n : ℕ) (ys : List ℕ) → s.choice ≡ 0 → Counts s t n → too_short h (in_arow t n h) ≡ false
    → (after s (h ∷ ys)).choice ≡ h
unfolding state_after
long-ms s h t n ys c k e =
    let d : (calling_ms s h).choice ≡ h = choice-by s h t n c k ∙ simp e in
    let z : h ≡ none → ⊥ = λ q. eqb-false h none (neither-first (eqb h none) (ltb (in_arow t n h) (length_of h)) e) q in
    ap (λ (r : Calling). r.choice) (for-good (calling_ms s h) ys (λ q. z (sym d ∙ q))) ∙ d

none_made : (hs : List ℕ) (s : Calling) (t n : ℕ) → s.choice ≡ 0 → Counts s t n → all_short t n hs ≡ true
    → (after s hs).choice ≡ 0
unfolding state_after all_short
none_made [] s t n c k e = c
none_made (h ∷ hs) s t n c k e =
    let m = in_arow t n h in
    let d = short-ms s h t n c k (and_left (too_short h m) (all_short h m hs) e) in
    none_made hs (calling_ms s h) h m d.0 d.1 (and_right (too_short h m) (all_short h m hs) e)

made : (hs : List ℕ) (h : ℕ) (ys : List ℕ) (s : Calling) (t n : ℕ) → s.choice ≡ 0 → Counts s t n
    → all_short t n hs ≡ true → all_short t n (hs ++ (h ∷ [])) ≡ false → (after s (hs ++ (h ∷ ys))).choice ≡ h
unfolding state_after all_short
made [] h ys s t n c k e f = long-ms s h t n ys c k (sym (and-true (too_short h (in_arow t n h))) ∙ f)
made (x ∷ hs) h ys s t n c k e f =
    let m = in_arow t n x in
    let b = and_left (too_short x m) (all_short x m hs) e in
    let d = short-ms s x t n c k b in
    made hs h ys (calling_ms s x) x m d.0 d.1 (and_right (too_short x m) (all_short x m hs) e) (simp b at f)

counts-own : (s : Calling) → Counts s s.tone s.ms
counts-own s = record { tone_is = refl; ms_is = record { below = λ _. refl; above = λ g. g } }

module _ (s : Calling) (unmade : s.choice ≡ 0) where
  -- no choice is made while no tone reaches its length ..
  pub no-choice : (hs : List ℕ) → all_short s.tone s.ms hs ≡ true → (after s hs).choice ≡ 0
  no-choice hs e = none_made hs s s.tone s.ms unmade (counts-own s) e

  -- .. and the tone that reaches it first is the choice, from that ms on, whatever is heard later
  pub choice-made : (hs : List ℕ) (h : ℕ) (ys : List ℕ) → all_short s.tone s.ms hs ≡ true
      → all_short s.tone s.ms (hs ++ (h ∷ [])) ≡ false → (after s (hs ++ (h ∷ ys))).choice ≡ h
  choice-made hs h ys e f = made hs h ys s s.tone s.ms unmade (counts-own s) e f

-- how long none has lasted is of no account
none-count : (hs : List ℕ) (m n : ℕ) → all_short none m hs ≡ all_short none n hs
unfolding all_short
none-count [] m n = refl
none-count (h ∷ hs) m n =
    by-test (eqb h none)
    (λ e. simp e (rw (eqb-true h none e) (none-count hs (m + 1) (n + 1))))
    (λ e. simp e)

-- The same for a set that was fresh, by the ms that it heard alone: no tone reached its length ..
pub fresh-no-choice : (hs : List ℕ) → all_short none 0 hs ≡ true → (after fresh hs).choice ≡ 0
unfolding fresh
fresh-no-choice hs e = no-choice fresh refl hs (none-count hs pause 0 ∙ e)

-- .. or this was the first
pub fresh-choice-made : (hs : List ℕ) (h : ℕ) (ys : List ℕ) → all_short none 0 hs ≡ true
    → all_short none 0 (hs ++ (h ∷ [])) ≡ false → (after fresh (hs ++ (h ∷ ys))).choice ≡ h
unfolding fresh
fresh-choice-made hs h ys e f =
    choice-made fresh refl hs h ys (none-count hs pause 0 ∙ e) (none-count (hs ++ (h ∷ [])) pause 0 ∙ f)

or_short : (b : Bool) → (b || true) && true ≡ true
or_short b = and-true (b || true) ∙ or-true b

-- k ms of a tone and n more of it are too short
row-short : (n k t : ℕ) → k + n < length_of t → all_short t k (replicate n t) ≡ true
unfolding all_short
row-short zero k t h = refl
row-short (suc n) k t h =
    simp (eq-eqb t t refl, lt-ltb (k + 1) (length_of t) (omega arith), row-short n (k + 1) t (omega arith))
    (or_short (eqb t none))

-- and one ms more is not, if they reach its length
row-long : (n k t : ℕ) → (t ≡ none → ⊥) → suc (k + n) ≡ length_of t → all_short t k (replicate n t ++ (t ∷ [])) ≡ false
unfolding all_short
row-long zero k t z h = simp (ne_eqb t none z, eq-eqb t t refl, le-ltb (k + 1) (length_of t) (omega arith))
row-long (suc n) k t z h =
    simp (ne_eqb t none z, eq-eqb t t refl, row-long n (k + 1) t z (omega arith))
    (and-false (ltb (k + 1) (length_of t)))

-- the same of a tone that comes after something else
first_short : (n u m t : ℕ) → (t ≡ u → ⊥) → n < length_of t → all_short u m (replicate n t) ≡ true
unfolding all_short
first_short zero u m t other h = refl
first_short (suc n) u m t other h =
    simp (ne_eqb t u other, lt-ltb 1 (length_of t) (omega arith), row-short n 1 t (omega arith)) (or_short (eqb t none))

first-long : (n u m t : ℕ) → (t ≡ u → ⊥) → (t ≡ none → ⊥) → suc n ≡ length_of t
    → all_short u m (replicate n t ++ (t ∷ [])) ≡ false
unfolding all_short
first-long zero u m t other z h = simp (ne_eqb t none z, ne_eqb t u other, le-ltb 1 (length_of t) (omega arith))
first-long (suc n) u m t other z h =
    simp (ne_eqb t none z, ne_eqb t u other, row-long n 1 t z (omega arith)) (and-false (ltb 1 (length_of t)))

module _ (s : Calling) (t n : ℕ) (unmade : s.choice ≡ 0) (other : t ≡ s.tone → ⊥) where
  -- a tone that is shorter than its length is no choice
  pub tone-too-short : n < length_of t → (after s (replicate n t)).choice ≡ 0
  tone-too-short h = no-choice s unmade (replicate n t) (first_short n _ _ t other h)

  -- one that reaches it is, in that ms, and for good
  pub tone-reaches : (ys : List ℕ) → (t ≡ none → ⊥) → suc n ≡ length_of t
      → (after s (replicate n t ++ (t ∷ ys))).choice ≡ t
  tone-reaches ys z h =
      choice-made s unmade (replicate n t) t ys (first_short n _ _ t other (omega arith)) (first-long n _ _ t other z h)
