-- Ms that lead from a frame to another and find nothing: none, one, several, and those behind others.
use mathlib.Core.Path.{◌≡◌, ◌∙◌, refl, sym, ap, subst}
use mathlib.Core.List.{List, [], ◌∷◌, ◌++◌}
use Prim.Native.Nat.{ℕ, zero, suc, ◌+◌, ◌-◌, ◌≤◌, ◌<◌}
use native.Mathlib.Numerals.{add-one}
use native.Mathlib.Omega.{arith}
use lib.ListN.{length, get_or, take, drop}
use lib.Seq.{drop-cons, drop-drop, take-add}
use Rattle.frames.specs.declared.Frame.{Frame}
use Rattle.frames.specs.declared.FrameRead.{FrameRead}
use Rattle.frames.specs.declared.Found.TheVariants.{Nothing as nothing}
use Rattle.frames.specs.Samples.{Placed}
use Rattle.frames.specs.Frames.{gives, frame_step}
use Rattle.frames_runs.specs.code.Passing.{Walks}

-- the numbers of a list from a place to another, and on to a third
abbrev pub part : List ℕ → ℕ → ℕ → List ℕ
part xs i to = take (to - i) (drop i xs)

pub part-chain : (xs : List ℕ) (i j to : ℕ) → i ≤ j → j ≤ to → part xs i to ≡ part xs i j ++ part xs j to
part-chain xs i j to l m =
    let e : to - i ≡ (j - i) + (to - j) = omega arith in
    let f : i + (j - i) ≡ j = omega arith in
    ap (λ (n : ℕ). take n (drop i xs)) e
    ∙ take-add (j - i) (to - j) (drop i xs)
    ∙ ap (λ (l : List ℕ). part xs i j ++ take (to - j) l) (drop-drop (j - i) i xs ∙ ap (λ (n : ℕ). drop n xs) f)

pub part-cons : (xs : List ℕ) (i n : ℕ) → i < length xs
    → take (suc n) (drop i xs) ≡ get_or xs i 0 ∷ take n (drop (i + 1) xs)
part-cons xs i n l = rw (add-one, drop-cons xs i 0 l) refl

module _ (ss : List Placed) where
  pub walks-append : (xs ys : List ℕ) (f g k : Frame) → Walks ss f xs g → Walks ss g ys k → Walks ss f (xs ++ ys) k
  unfolding Walks
  walks-append [] ys f g k a b = subst (λ (h : Frame). Walks ss h ys k) (sym a) b
  walks-append (x ∷ xs) ys f g k a b = (a.0, walks-append xs ys (frame_step ss f x).frame g k a.1 b)

  walks-cons : (f g k : Frame) (x : ℕ) (xs : List ℕ) → frame_step ss f x ≡ gives g nothing → Walks ss g xs k
      → Walks ss f (x ∷ xs) k
  unfolding Walks
  walks-cons f g k x xs e w = (
    ap (λ (r : FrameRead). r.found) e,
    subst (λ (h : Frame). Walks ss h xs k) (sym (ap (λ (r : FrameRead). r.frame) e)) w,
  )

  module _ (heard : List ℕ) where
    abbrev Over : Frame → ℕ → Frame → ℕ → Type 0
    Over f i g to = Walks ss f (part heard i to) g

    pub walks-none : (f : Frame) (i : ℕ) → Over f i f i
    unfolding Walks
    walks-none f i = let z : i - i ≡ 0 = omega arith in rw z refl

    pub walks-chain : (f g k : Frame) (i j to : ℕ) → i ≤ j → j ≤ to → Over f i g j → Over g j k to → Over f i k to
    walks-chain f g k i j to l m a b =
        rw (part-chain heard i j to l m) (walks-append (part heard i j) (part heard j to) f g k a b)

    -- the frame is f k after k ms
    walks-many : (f : ℕ → Frame) (n i : ℕ) → i + n ≤ length heard
        → ((k : ℕ) → k < n → frame_step ss (f k) (get_or heard (i + k) 0) ≡ gives (f (suc k)) nothing)
        → Walks ss (f 0) (take n (drop i heard)) (f n)
    unfolding Walks
    walks-many f zero i l s = refl
    walks-many f (suc n) i l s =
        let e : i + 0 ≡ i = omega arith in
        let rest = walks-many (λ (k : ℕ). f (suc k)) n (i + 1) (omega arith)
        (λ (k : ℕ) (g : k < n). let z : i + 1 + k ≡ i + suc k = omega arith in rw z (s (suc k) (omega arith))) in
        rw (part-cons heard i n (omega arith))
        (walks-cons (f 0) (f 1) (f (suc n)) (get_or heard i 0) (take n (drop (i + 1) heard))
        (rw e at (s 0 (omega arith))) rest)

    -- up to a place
    pub walks-to : (f : ℕ → Frame) (i to : ℕ) → i ≤ to → to ≤ length heard
        → ((k : ℕ) → k < to - i → frame_step ss (f k) (get_or heard (i + k) 0) ≡ gives (f (suc k)) nothing)
        → Over (f 0) i (f (to - i)) to
    walks-to f i to l m s = walks-many f (to - i) i (omega arith) s

    pub walks-one : (f g : Frame) (i : ℕ) → i < length heard → frame_step ss f (get_or heard i 0) ≡ gives g nothing
        → Over f i g (i + 1)
    unfolding Walks
    walks-one f g i l e =
        let z : i + 1 - i ≡ suc 0 = omega arith in
        rw (z, part-cons heard i 0 l) (walks-cons f g g (get_or heard i 0) [] e refl)
