-- From the ms of a tone on nothing is sent until 400 ms of none in a row have passed, and the ms after them is the
-- timetable's first.
use mathlib.Core.Path.{◌≡◌, ◌∙◌, refl, sym, ap}
use mathlib.Core.Bool.{true, false, cond}
use mathlib.Core.List.{List, [], ◌∷◌, ◌++◌}
use Prim.Native.Nat.{ℕ, zero, suc, ◌+◌, ◌≤◌, ◌<◌}
use native.Mathlib.Nat.{add-zero, zero-add, add-suc, suc-add}
use native.Mathlib.Numerals.{add-one}
use native.Mathlib.Omega.{arith}
use borrow.Author.Tests.{ne_eqb, lt-leb, le-leb, eqb-true, eqb-false, lt-ltb, ltb-true}
use lib.Dec.{eqb, ltb}
use lib.ListN.{length, replicate, length-replicate}
use Rattle.lists.specs.Steps.{state_after, outputs}
use Rattle.lists.proofs.Lists.{by-test, and_left, and_right}
use Rattle.calling.specs.declared.Calling.{Calling}
use Rattle.calling.specs.Timetable.{nothing}
use Rattle.calling.specs.Tones.{none}
use Rattle.calling.specs.Counting.{counted}
use Rattle.calling.specs.Set.{pause, pause_over, sent_ms, calling_ms, after, sent_of}
use Rattle.calling.proofs.OneMs.{counted-more, counted-other, no-choice-before, tone-after, ms-after, does-chosen, does-tone, does-pause}
use Rattle.calling_theorems.specs.Periods.{periods}
use Rattle.calling_theorems.specs.Pauses.{none_after, waits}
use Rattle.calling_theorems.proofs.Cuts.{after-append, sent-append}
use Rattle.calling_theorems.proofs.Periods.{Runs, runs-sent-first}

one-after : (s : Calling) (h : ℕ) → after s (h ∷ []) ≡ calling_ms s h
unfolding state_after
one-after s h = refl

-- The ms of none in a row, by what was heard last.
abbrev none_ms : Calling → ℕ
none_ms s = cond (eqb s.tone none) s.ms 0

-- the ms of none are counted on, until they are enough
none-counted : (s : Calling) → none_ms s < pause → counted s.tone s.ms none pause ≡ none_ms s + 1
none-counted s short =
    by-test (eqb s.tone none)
    (λ e. simp e (counted-more s.tone s.ms none pause (sym (eqb-true _ _ e)) (rw e at short)))
    (λ e. simp e (counted-other s.tone s.ms none pause (λ q. eqb-false _ _ e (sym q))))

none_after-short : (s : Calling) (h : ℕ) → (calling_ms s h).choice ≡ 0 → none_ms s < pause
    → none_ms (calling_ms s h) ≡ none_after (none_ms s) h
none_after-short s h c short =
    let z = no-choice-before s h c in
    by-test (eqb h none)
    (λ e.
    let n : h ≡ none = eqb-true _ _ e in
    simp (tone-after s h z, ms-after s h z, e) (rw n (none-counted s short)))
    (λ e. simp (tone-after s h z, e))

-- the pause is not over
not-over : (s : Calling) → none_ms s < pause → pause_over s.tone s.ms ≡ false
not-over s h =
    by-test (eqb s.tone none)
    (λ e. simp (e, lt-leb pause s.ms (rw e at h)))
    (λ e. simp e)

tone-none : (s : Calling) (h : ℕ) → (h ≡ none → ⊥) → (calling_ms s h).choice ≡ 0 → none_ms (calling_ms s h) ≡ 0
tone-none s h t c = simp (tone-after s h (no-choice-before s h c), ne_eqb h none t)

-- before the pause is over a ms sends nothing, and the ms of none are counted on
module _ (s : Calling) (h n : ℕ) (w : s.choice ≡ 0 → none_ms s ≡ n) (short : n < pause) where
  waits-sent : sent_ms s h ≡ nothing
  waits-sent =
      by-test (eqb s.choice 0)
      (λ c.
      let z : s.choice ≡ 0 = eqb-true _ _ c in
      by-test (eqb h none)
      (λ e. (does-pause s h z (eqb-true _ _ e) (not-over s (rw (w z) short))).says)
      (λ e. (does-tone s h z _ _ refl refl (eqb-false _ _ e)).says))
      (λ c. (does-chosen s h (eqb-false _ _ c)).says)

  waits-next : (calling_ms s h).choice ≡ 0 → none_ms (calling_ms s h) ≡ none_after n h
  waits-next c =
      let e = w (no-choice-before s h c) in
      none_after-short s h c (rw e short) ∙ ap (λ (m : ℕ). none_after m h) e

-- nothing is sent while fewer than 400 ms of none in a row have passed
waiting : (hs : List ℕ) (s : Calling) (n : ℕ) → (s.choice ≡ 0 → none_ms s ≡ n) → waits n hs ≡ true
    → sent_of s hs ≡ replicate (length hs) nothing
unfolding waits outputs
waiting [] s n w e = refl
waiting (h ∷ hs) s n w e =
    let m = none_after n h in
    let short = ltb-true _ _ (and_left (ltb n pause) (waits m hs) e) in
    let rest = and_right (ltb n pause) (waits m hs) e in
    let now = waits-sent s h n w short in
    let later = waiting hs (calling_ms s h) m (waits-next s h n w short) rest in
    λ i. now i ∷ later i

-- from the ms of a tone on nothing is sent until 400 ms of none in a row have passed
pub tone-sent : (s : Calling) (h : ℕ) (hs : List ℕ) → (h ≡ none → ⊥) → waits 0 hs ≡ true
    → sent_of s (h ∷ hs) ≡ replicate (suc (length hs)) nothing
unfolding outputs
tone-sent s h hs t e =
    let now : sent_ms s h ≡ nothing =
    by-test (eqb s.choice 0)
    (λ c. (does-tone s h (eqb-true _ _ c) _ _ refl refl t).says)
    (λ c. (does-chosen s h (eqb-false _ _ c)).says)
    in
    let later = waiting hs (calling_ms s h) 0 (tone-none s h t) e in
    λ i. now i ∷ later i

-- A set in its pause: k ms of none in a row have passed, the timetable stands at its first place, and no choice is
-- made.
record Pausing (s : Calling) (k : ℕ) : Type 0 where
  no-choice : s.choice ≡ 0
  none_is : none_ms s ≡ k
  place_is : s.place ≡ 0

pausing-on : (s : Calling) (k : ℕ) → k < pause → Pausing s k → Pausing (calling_ms s none) (suc k)
pausing-on s k h p =
    let short : none_ms s < pause = rw p.none_is h in
    let d = does-pause s none p.no-choice refl (not-over s short) in
    let e : counted s.tone s.ms none pause ≡ suc k =
    none-counted s short ∙ ap (λ (m : ℕ). m + 1) p.none_is ∙ add-one k
    in
    rw d.leaves (record { no-choice = refl; none_is = e; place_is = refl })

pausing-all : (n k : ℕ) (s : Calling) → k + n ≤ pause → Pausing s k → Pausing (after s (replicate n none)) (k + n)
unfolding state_after
pausing-all zero k s h p = rw add-zero p
pausing-all (suc n) k s h p =
    let e : k + suc n ≡ suc k + n = add-suc k n ∙ sym (suc-add k n) in
    rw e (pausing-all n (suc k) (calling_ms s none) (rw e at h) (pausing-on s k (omega arith) p))

over_runs : (s : Calling) (k : ℕ) → k ≡ pause → Pausing s k → Runs s 0
over_runs s k k-is p =
    let m = p.none_is ∙ k-is in
    let ready : pause_over s.tone s.ms ≡ true =
    by-test (eqb s.tone none)
    (λ e. simp (e, le-leb pause s.ms (omega (arith, rw e at m))))
    (λ e.
    let z : ◌≡◌ {A = ℕ} 0 pause = rw e at m in
    absurd (omega arith))
    in
    record { no-choice = p.no-choice; ready = ready; place_is = p.place_is }

tone-pausing : (s : Calling) (t : ℕ) → (t ≡ none → ⊥) → (calling_ms s t).choice ≡ 0 → Pausing (calling_ms s t) 0
tone-pausing s t n c =
    let d = does-tone s t (no-choice-before s t c) _ _ refl refl n in
    record { no-choice = c; none_is = tone-none s t n c; place_is = ap (λ (r : Calling). r.place) d.leaves }

module _ (s : Calling) (t m : ℕ) (tone : t ≡ none → ⊥) (m-is : m ≡ pause) where
  -- a tone that makes no choice, then 400 ms of none: the ms after them is the timetable's first
  pub pause-runs : (calling_ms s t).choice ≡ 0 → Runs (after s (t ∷ replicate m none)) 0
  unfolding state_after
  pause-runs c =
      let p = pausing-all m 0 (calling_ms s t) (omega arith) (tone-pausing s t tone c) in
      over_runs (after (calling_ms s t) (replicate m none)) (0 + m) (zero-add m ∙ m-is) p

none-waits : (m n : ℕ) → n + m ≤ pause → waits n (replicate m none) ≡ true
unfolding waits
none-waits zero n h = refl
none-waits (suc m) n h = simp (lt-ltb n pause (omega arith), none-waits m (n + 1) (omega arith))

-- after any ms, a tone that makes no choice and then 400 ms of none: nothing in these, and then the timetable from its
-- first ms on
pub pause-sent : (s : Calling) (hs : List ℕ) (t m n : ℕ) → (t ≡ none → ⊥) → m ≡ pause
    → (after s (hs ++ (t ∷ []))).choice ≡ 0
    → sent_of s (hs ++ ((t ∷ replicate m none) ++ replicate n none))
    ≡ sent_of s hs ++ (replicate (suc m) nothing ++ periods n)
pause-sent s hs t m n tone m-is c =
    let r = after s hs in
    let xs = t ∷ replicate m none in
    let ys = replicate n none in
    let d : (calling_ms r t).choice ≡ 0 = rw (after-append, one-after) at c in
    let e : sent_of r xs ≡ replicate (suc m) nothing =
    tone-sent r t (replicate m none) tone (none-waits m 0 (omega arith))
    ∙ ap (λ (k : ℕ). replicate (suc k) nothing) (length-replicate m none)
    in
    sent-append s hs (xs ++ ys)
    ∙ ap (λ (l : List ℕ). sent_of s hs ++ l)
    (sent-append r xs ys ∙ ap (λ (l : List ℕ). l ++ sent_of (after r xs) ys) e
    ∙ ap (λ (l : List ℕ). replicate (suc m) nothing ++ l)
    (runs-sent-first n (after r xs) (pause-runs r t m tone m-is d)))
