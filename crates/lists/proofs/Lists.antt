-- Laws on tests, and on lists that are written and read from the front.
use mathlib.Core.Path.{◌≡◌, ◌∙◌, refl, sym, ap}
use mathlib.Core.Bool.{Bool, true, false, cond, ◌&&◌, and-true, and-false, and_assoc}
use mathlib.Core.List.{List, [], ◌∷◌, ◌++◌}
use Prim.Native.Nat.{ℕ, zero, suc, ◌+◌, ◌-◌, ◌≤◌, ◌<◌, max, min}
use native.Mathlib.Nat.{add-zero, zero-add, add-suc, suc-add, le_of_suc-le-suc, not-suc-le-zero}
use native.Mathlib.Numerals.{add-one}
use Rattle.std.proofs.Math.Nat.{le-max_left, le-max_right, max-le, min-le_left, min-le_right, le-min}
use native.Mathlib.Omega.{arith}
use lib.Dec.{leb}
use lib.ListN.{length, get_or, set, take, drop, drop_of_length-le, take-append-drop}
use lib.Seq.{sets, sets-eq, drop-cons, drop-drop}
use borrow.Author.Tests.{leb-true, le-leb}
use Rattle.lists.specs.Lists.{all_at_most, all_at_least}

-- two runs of values, one behind the other
pub sets-append : {A : Type 0} (l : List A) (i : ℕ) (xs ys : List A)
    → sets l i (xs ++ ys) ≡ sets (sets l i xs) (i + length xs) ys
sets-append l i [] ys = rw add-zero
sets-append l i (x ∷ xs) ys = sets-append (set l i x) (suc i) xs ys ∙ (simp (suc-add, add-suc))

-- values written from the front
pub sets-front : {A : Type 0} (l vs : List A) → length vs ≤ length l → sets l 0 vs ≡ vs ++ drop (length vs) l
sets-front l vs h = sets-eq vs l 0 (rw zero-add h) ∙ (rw zero-add)

-- one of two, by a test
pub either : {A : Type 0} (P : A → Type 0) (b : Bool) (x y : A) → P x → P y → P (cond b x y)
either P true x y p q = p
either P false x y p q = q

-- the same, with what the test says
pub either-by : {A : Type 0} (P : A → Type 0) (b : Bool) {x y : A} → (b ≡ true → P x) → (b ≡ false → P y)
    → P (cond b x y)
either-by P true f g = f refl
either-by P false f g = g refl

-- a test is true or false
pub by-test : {A : Type 0} (b : Bool) → (b ≡ true → A) → (b ≡ false → A) → A
by-test true f g = f refl
by-test false f g = g refl

pub and_left : (a b : Bool) → (a && b) ≡ true → a ≡ true
and_left true b e = refl
and_left false b e = e

pub and_right : (a b : Bool) → (a && b) ≡ true → b ≡ true
and_right true b e = e
and_right false b e = cc

pub both : {a b : Bool} → a ≡ true → b ≡ true → (a && b) ≡ true
both e f = rw (e, f) refl

-- where the test before it has passed, the last one decides
pub last-decides : {a b : Bool} → a ≡ true → b ≡ (a && b)
last-decides e = rw e refl

-- two tests that follow from each other
each_way : (a b : Bool) → (a ≡ true → b ≡ true) → (b ≡ true → a ≡ true) → a ≡ b
each_way true b f g = sym (f refl)
each_way false true f g = g refl
each_way false false f g = refl

-- the larger of two is at most m if both are; the smaller one is at least m if both are
pub larger-at-most : (a b m : ℕ) → leb (max a b) m ≡ (leb a m && leb b m)
larger-at-most a b m =
    let l = le-max_left a b in
    let r = le-max_right a b in
    each_way (leb (max a b) m) (leb a m && leb b m)
    (λ e. let h = leb-true (max a b) m e in both (le-leb a m (omega arith)) (le-leb b m (omega arith)))
    (λ e.
    le-leb (max a b) m
    (max-le (leb-true a m (and_left (leb a m) (leb b m) e)) (leb-true b m (and_right (leb a m) (leb b m) e))))

pub smaller-at-least : (a b m : ℕ) → leb m (min a b) ≡ (leb m a && leb m b)
smaller-at-least a b m =
    let l = min-le_left a b in
    let r = min-le_right a b in
    each_way (leb m (min a b)) (leb m a && leb m b)
    (λ e. let h = leb-true m (min a b) e in both (le-leb m a (omega arith)) (le-leb m b (omega arith)))
    (λ e.
    le-leb m (min a b)
    (le-min (leb-true m a (and_left (leb m a) (leb m b) e)) (leb-true m b (and_right (leb m a) (leb m b) e))))

-- two pairs of tests, one of each first
pub and-across : (a b c d : Bool) → (a && b && (c && d)) ≡ (a && c && (b && d))
and-across true true c d = refl
and-across true false c d = sym (and-false c)
and-across false b c d = refl

-- A test of every number of a list, by its equations.
record Every (test : ℕ → Bool) (all : List ℕ → Bool) : Type 0 where
  none : all [] ≡ true
  more : (x : ℕ) (xs : List ℕ) → all (x ∷ xs) ≡ (test x && all xs)

module _ {test : ℕ → Bool} {all : List ℕ → Bool} (every : Every test all) where
  every-head : (x : ℕ) (xs : List ℕ) → all (x ∷ xs) ≡ true → test x ≡ true
  every-head x xs e = and_left (test x) (all xs) (sym (every.more x xs) ∙ e)

  every-tail : (x : ℕ) (xs : List ℕ) → all (x ∷ xs) ≡ true → all xs ≡ true
  every-tail x xs e = and_right (test x) (all xs) (sym (every.more x xs) ∙ e)

  every-at : (xs : List ℕ) → all xs ≡ true → (i : ℕ) → i < length xs → test (get_or xs i 0) ≡ true
  every-at [] e i h = absurd (not-suc-le-zero h)
  every-at (x ∷ xs) e zero h = every-head x xs e
  every-at (x ∷ xs) e (suc i) h = every-at xs (every-tail x xs e) i (le_of_suc-le-suc h)

  every-end : (xs : List ℕ) (i : ℕ) → length xs ≤ i → all (drop i xs) ≡ true
  every-end xs i h = rw (drop_of_length-le xs h) every.none

  -- a loop that looks at every number and answers by what it keeps of those passed: one more, ..
  module _ (xs : List ℕ) (i : ℕ) (kept : Bool) where
    abbrev now : Bool
    now = test (get_or xs i 0)

    abbrev rest : Bool
    rest = all (drop (i + 1) xs)

    every-left : i < length xs → all (drop i xs) ≡ (now && rest)
    every-left h = rw (add-one, drop-cons xs i 0 h) (every.more (get_or xs i 0) (drop (suc i) xs))

    every-kept : i < length xs → (kept && now && rest) ≡ (kept && all (drop i xs))
    every-kept h = and_assoc kept now rest ∙ ap (λ (b : Bool). kept && b) (sym (every-left h))

    -- .. until there is none left
    every-all : length xs ≤ i → (kept && all (drop i xs)) ≡ all xs → kept ≡ all xs
    every-all h e = sym (and-true kept) ∙ ap (λ (b : Bool). kept && b) (sym (every-end xs i h)) ∙ e

-- a list whose numbers are at most m, by its front, by a place, and from a place on
every-most : (m : ℕ) → Every (λ x. leb x m) (all_at_most m)
unfolding all_at_most
every-most m = record { none = refl; more = λ x xs. refl }

pub at-most-head : (m x : ℕ) (xs : List ℕ) → all_at_most m (x ∷ xs) ≡ true → x ≤ m
at-most-head m x xs e = leb-true x m (every-head (every-most m) x xs e)

pub at-most-tail : (m x : ℕ) (xs : List ℕ) → all_at_most m (x ∷ xs) ≡ true → all_at_most m xs ≡ true
at-most-tail m x xs e = every-tail (every-most m) x xs e

pub at-most-at : (m : ℕ) (xs : List ℕ) → all_at_most m xs ≡ true → (i : ℕ) → i < length xs → get_or xs i 0 ≤ m
at-most-at m xs e i h = leb-true (get_or xs i 0) m (every-at (every-most m) xs e i h)

pub at-most-drop : (m : ℕ) (xs : List ℕ) (i : ℕ) → all_at_most m xs ≡ true → all_at_most m (drop i xs) ≡ true
at-most-drop m xs zero e = e
at-most-drop m [] (suc i) e = e
at-most-drop m (x ∷ xs) (suc i) e = at-most-drop m xs i (at-most-tail m x xs e)

-- of two lists, one behind the other
pub at-most-append : (m : ℕ) (xs ys : List ℕ) → all_at_most m xs ≡ true → all_at_most m ys ≡ true
    → all_at_most m (xs ++ ys) ≡ true
unfolding all_at_most
at-most-append m [] ys p q = q
at-most-append m (x ∷ xs) ys p q =
    rw (le-leb x m (at-most-head m x xs p)) (at-most-append m xs ys (at-most-tail m x xs p) q)

pub at-most-front : (m : ℕ) (xs ys : List ℕ) → all_at_most m (xs ++ ys) ≡ true → all_at_most m xs ≡ true
unfolding all_at_most
at-most-front m [] ys e = refl
at-most-front m (x ∷ xs) ys e =
    rw (le-leb x m (at-most-head m x (xs ++ ys) e)) (at-most-front m xs ys (at-most-tail m x (xs ++ ys) e))

pub at-most-behind : (m : ℕ) (xs ys : List ℕ) → all_at_most m (xs ++ ys) ≡ true → all_at_most m ys ≡ true
at-most-behind m [] ys e = e
at-most-behind m (x ∷ xs) ys e = at-most-behind m xs ys (at-most-tail m x (xs ++ ys) e)

-- one more of the first ones
pub at-most-take : (m : ℕ) (xs : List ℕ) (i : ℕ) → i < length xs
    → all_at_most m (take (suc i) xs) ≡ (all_at_most m (take i xs) && leb (get_or xs i 0) m)
unfolding all_at_most
at-most-take m [] i h = absurd (not-suc-le-zero h)
at-most-take m (x ∷ xs) zero h = and-true (leb x m)
at-most-take m (x ∷ xs) (suc i) h =
    ap (λ (b : Bool). leb x m && b) (at-most-take m xs i (le_of_suc-le-suc h))
    ∙ sym (and_assoc (leb x m) (all_at_most m (take i xs)) (leb (get_or xs i 0) m))

-- the first ones, and those from a place on that is not behind them, are all
module _ (m : ℕ) (xs : List ℕ) (i j : ℕ) where
  abbrev first : Bool
  first = all_at_most m (take i xs)

  abbrev last : Bool
  last = all_at_most m (drop j xs)

  pub at-most-ends : j ≤ i → (first && last) ≡ all_at_most m xs
  at-most-ends h =
      each_way (first && last) (all_at_most m xs)
      (λ e.
      let k : j + (i - j) ≡ i = omega arith in
      let d : drop (i - j) (drop j xs) ≡ drop i xs = drop-drop (i - j) j xs ∙ (rw k) in
      let p = at-most-drop m (drop j xs) (i - j) (and_right first last e) in
      rw take-append-drop at (at-most-append m (take i xs) (drop i xs) (and_left first last e) (rw d at p)))
      (λ e. both (at-most-front m (take i xs) (drop i xs) (rw take-append-drop e)) (at-most-drop m xs j e))

-- a loop that looks at every number: the largest of those passed
pub at-most-larger : (m : ℕ) (xs : List ℕ) (i largest : ℕ) → i < length xs
    → (leb (max largest (get_or xs i 0)) m && all_at_most m (drop (i + 1) xs))
    ≡ (leb largest m && all_at_most m (drop i xs))
at-most-larger m xs i largest h =
    ap (λ (b : Bool). b && all_at_most m (drop (i + 1) xs)) (larger-at-most largest (get_or xs i 0) m)
    ∙ every-kept (every-most m) xs i (leb largest m) h

pub at-most-all : (m : ℕ) (xs : List ℕ) (i : ℕ) (ok : Bool) → length xs ≤ i
    → (ok && all_at_most m (drop i xs)) ≡ all_at_most m xs → ok ≡ all_at_most m xs
at-most-all m xs i ok = every-all (every-most m) xs i ok

-- a larger bound
pub at-most-more : (m n : ℕ) (xs : List ℕ) → m ≤ n → all_at_most m xs ≡ true → all_at_most n xs ≡ true
unfolding all_at_most
at-most-more m n [] h p = refl
at-most-more m n (x ∷ xs) h p =
    let k = at-most-head m x xs p in
    rw (le-leb x n (omega arith)) (at-most-more m n xs h (at-most-tail m x xs p))

-- a list whose numbers are at least m, by a place, and from a place on
every-least : (m : ℕ) → Every (λ x. leb m x) (all_at_least m)
unfolding all_at_least
every-least m = record { none = refl; more = λ x xs. refl }

pub at-least-at : (m : ℕ) (xs : List ℕ) → all_at_least m xs ≡ true → (i : ℕ) → i < length xs → m ≤ get_or xs i 0
at-least-at m xs e i h = leb-true m (get_or xs i 0) (every-at (every-least m) xs e i h)

pub at-least-end : (m : ℕ) (xs : List ℕ) (i : ℕ) → length xs ≤ i → all_at_least m (drop i xs) ≡ true
at-least-end m = every-end (every-least m)

-- a loop that looks at every number: the smallest of those passed
pub at-least-smaller : (m : ℕ) (xs : List ℕ) (i smallest : ℕ) → i < length xs
    → (leb m (min smallest (get_or xs i 0)) && all_at_least m (drop (i + 1) xs))
    ≡ (leb m smallest && all_at_least m (drop i xs))
at-least-smaller m xs i smallest h =
    ap (λ (b : Bool). b && all_at_least m (drop (i + 1) xs)) (smaller-at-least smallest (get_or xs i 0) m)
    ∙ every-kept (every-least m) xs i (leb m smallest) h

pub at-least-all : (m : ℕ) (xs : List ℕ) (i : ℕ) (ok : Bool) → length xs ≤ i
    → (ok && all_at_least m (drop i xs)) ≡ all_at_least m xs → ok ≡ all_at_least m xs
at-least-all m xs i ok = every-all (every-least m) xs i ok
