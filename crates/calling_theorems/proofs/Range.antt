-- Range is kept: a fresh state is in range, and so is the state after every run on one.
use mathlib.Core.Path.{◌≡◌, refl}
use mathlib.Core.Bool.{true, ◌&&◌}
use mathlib.Core.List.{List}
use Prim.Native.Nat.{ℕ, ◌+◌, ◌≤◌, ◌<◌}
use native.Mathlib.Omega.{arith}
use borrow.Author.Tests.{le-leb, lt-ltb, leb-true, ltb-true, eqb-true}
use lib.Dec.{eqb, leb, ltb}
use Rattle.lists.proofs.Lists.{either, either-by, and_left, and_right}
use Rattle.lists.proofs.Steps.{after-keeps-most}
use Rattle.calling.specs.declared.Calling.{Calling}
use Rattle.calling.specs.Timetable.{timetable, total, period, place_after}
use Rattle.calling.specs.Tones.{none, lengths, length_in, length_of, longest, last_tone, all_tones}
use Rattle.calling.specs.Counting.{counted}
use Rattle.calling.specs.Set.{fresh, in_range, enough, ms_after, chosen, sends, calling_ms, after}
use Rattle.calling.specs.Entry.{Ran, answer_to, ran_of}
use Rattle.calling.proofs.Answers.{succeeds}

-- the period is 11,200 ms
pub period-is : period ≡ 11_200
unfolding timetable total period
period-is = refl

-- Question 12 in facts.
pub record CallingIn (s : Calling) : Type 0 where
  pub choice_in : s.choice ≤ last_tone
  pub tone_in : s.tone ≤ last_tone
  pub ms_low : 1 ≤ s.ms
  pub ms-in : s.ms ≤ longest
  pub place_in : s.place < period

pub calling-in : (s : Calling) → in_range s ≡ true → CallingIn s
unfolding in_range
calling-in s e =
    let a = leb s.choice last_tone in
    let b = leb s.tone last_tone in
    let c = leb 1 s.ms in
    let d = leb s.ms longest in
    let f = ltb s.place period in
    let abcd = and_left (a && b && c && d) f e in
    let abc = and_left (a && b && c) d abcd in
    let ab = and_left (a && b) c abc in
    record {
      choice_in = leb-true _ _ (and_left a b ab);
      tone_in = leb-true _ _ (and_right a b ab);
      ms_low = leb-true _ _ (and_right (a && b) c abc);
      ms-in = leb-true _ _ (and_right (a && b && c) d abcd);
      place_in = ltb-true _ _ (and_right (a && b && c && d) f e);
    }

pub calling-is : (s : Calling) → CallingIn s → in_range s ≡ true
unfolding in_range
calling-is s r =
    simp (
      le-leb _ _ r.choice_in,
      le-leb _ _ r.tone_in,
      le-leb 1 _ r.ms_low,
      le-leb _ _ r.ms-in,
      lt-ltb _ _ r.place_in,
    )

-- no rule asks for more ms in a row
enough-in : (h : ℕ) → enough h ≤ longest
unfolding lengths length_in
enough-in h =
    let P : ℕ → Type 0 = λ n. n ≤ 1_700 in
    either P (eqb h none) _ _ (omega arith)
    (either P (eqb h 3) _ _ (omega arith)
    (either P (eqb h 4) _ _ (omega arith)
    (either P (eqb h 5) _ _ (omega arith)
    (either P (eqb h 6) _ _ (omega arith)
    (either P (eqb h 7) _ _ (omega arith) (omega arith))))))

counted-in : (t m h k most : ℕ) → 1 ≤ m → m ≤ most → k ≤ most → (1 ≤ counted t m h k) × (counted t m h k ≤ most)
unfolding counted
counted-in t m h k most low high cap =
    let P : ℕ → Type 0 = λ n. (1 ≤ n) × (n ≤ most) in
    either P (eqb h t) _ _
    (either-by P (ltb m k)
    (λ e.
    let g : m < k = ltb-true _ _ e in
    (omega arith, omega arith))
    (λ e. (low, high)))
    (omega arith, omega arith)

first-in : 0 < period
first-in = rw period-is (omega arith)

place-after-in : (k : ℕ) → place_after k < period
unfolding place_after
place-after-in k = either-by (λ (n : ℕ). n < period) (ltb (k + 1) period) (λ e. ltb-true _ _ e) (λ e. first-in)

chosen-in : (h m : ℕ) → h ≤ last_tone → chosen h m ≤ last_tone
chosen-in h m l =
    let P : ℕ → Type 0 = λ n. n ≤ last_tone in
    either P (eqb h none) 0 _ (omega arith) (either P (ltb m (length_of h)) 0 _ (omega arith) l)

-- a ms keeps range
pub ms-in-range : (s : Calling) (h : ℕ) → h ≤ last_tone → CallingIn s → CallingIn (calling_ms s h)
unfolding calling_ms
ms-in-range s h t r =
    let n = counted-in s.tone s.ms h (enough h) longest r.ms_low r.ms-in (enough-in h) in
    either CallingIn (eqb s.choice 0) _ _
    (record {
      choice_in = chosen-in h (ms_after s h) t;
      tone_in = t;
      ms_low = n.0;
      ms-in = n.1;
      place_in = either (λ (p : ℕ). p < period) (sends s h) _ _ (place-after-in s.place) first-in;
    })
    r

-- a fresh state is in range
pub fresh-in-range : in_range fresh ≡ true
unfolding timetable total period lengths length_in fresh in_range
fresh-in-range = refl

-- the tones of a run that succeeds keep range
pub after-in-range : (s : Calling) (hs : List ℕ) → all_tones hs ≡ true → in_range s ≡ true → in_range (after s hs)
    ≡ true
after-in-range s hs e r =
    calling-is (after s hs) (after-keeps-most CallingIn calling_ms last_tone ms-in-range s hs e (calling-in s r))

-- every run keeps range, whatever it is given and whatever it answers
pub run-in-range : (s : Calling) (ts : List ℕ) (room : ℕ) → in_range s ≡ true → in_range (ran_of s ts room).state ≡ true
unfolding ran_of
run-in-range s ts room r =
    either-by (λ (x : Ran). in_range x.state ≡ true) (eqb (answer_to s ts room) 0)
    (λ e. after-in-range s ts (succeeds s ts room (eqb-true _ _ e)).tones r)
    (λ e. r)
