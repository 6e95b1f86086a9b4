-- Baudot, for every element length from 2 on: a code's signal is read as that code; where a frame breaks, and why.
use mathlib.Core.Path.{◌≡◌, ◌∙◌, refl, sym, ap}
use mathlib.Core.Bool.{Bool}
use mathlib.Core.List.{List, [], ◌∷◌, ◌++◌, append-nil, append_assoc}
use Prim.Native.Nat.{ℕ, zero, suc, ◌+◌, ◌-◌, ◌*◌, ◌/◌, ◌%◌, ◌<◌, ◌≤◌}
use native.Mathlib.Omega.{arith}
use native.Mathlib.Nat.{add-zero, zero-add, mul-add-div, div-eq_of_lt}
use lib.Dec.{T, eqb, eqb→eq}
use lib.ListN.{get_or, replicate, replicate-append-replicate}
use Rattle.lists.specs.Tables.{passes}
use Rattle.lists.proofs.Tables.{passes_at}
use Rattle.frames.specs.declared.Cause.TheVariants.{Quiet, StopNotMark}
use Rattle.frames.specs.declared.Found.{Found}
use Rattle.frames.specs.declared.Found.TheVariants.{Nothing, Code}
use Rattle.signal.specs.Signal.{level_of, digits, held, baudot_signal}
use Rattle.frames.specs.Samples.{Sample, None, Digit, is_later, Placed, baudot_kinds, baudot_place, baudot_samples}
use Rattle.frames.specs.Frames.{in_frame, hunting, gives, goes_on, faulty, sampled, frame_step}
use Rattle.frames.proofs.Sampling.{baudot-on, baudot-off, place-element}
use Rattle.line_theorems.proofs.FrameRules.{Hears, none, chain, next, hunting-space, hunting-other, in_frame-step, no-sample, start-other, later-quiet, last-other}

abbrev silent : ℕ → List Found
silent n = replicate n Nothing

split : {A : Type 0} (n h t : ℕ) (x : A) → n ≡ h + suc t → replicate n x ≡ replicate h x ++ (x ∷ replicate t x)
split n h t x e = ap (λ (k : ℕ). replicate k x) e ∙ sym (replicate-append-replicate h (suc t) x)

sixfold : (e : ℕ) → e + (e + (e + (e + (e + e)))) ≡ e * 6
sixfold e = omega arith

-- five digits that came in at the top are the code
abbrev came_in : ℕ → ℕ
came_in k =
    ((((0 / 2 + 16 * (k % 2)) / 2 + 16 * (k / 2 % 2)) / 2 + 16 * (k / 2 / 2 % 2)) / 2 + 16 * (k / 2 / 2 / 2 % 2)) / 2
    + 16 * (k / 2 / 2 / 2 / 2 % 2)

digits-test : T (passes (λ (k : ℕ). eqb (came_in k) k) 32 0)
unfolding passes
digits-test = tt

pub digits-back : (k : ℕ) → k < 32 → came_in k ≡ k
digits-back k h = eqb→eq (came_in k) k (passes_at (λ (i : ℕ). eqb (came_in i) i) 32 digits-test k h)

-- the samples behind the start's
abbrev is_later_one : ℕ → Bool
is_later_one j = is_later (get_or baudot_kinds (suc j) None)

later-test : T (passes is_later_one 6 0)
unfolding passes baudot_kinds
later-test = tt

module _ (e : ℕ) (big : 2 ≤ e) where
  abbrev samples : List Placed
  samples = baudot_samples e

  -- a ms of element j that is not its sample
  off : (j i d x : ℕ) → i < e → (i ≡ e / 2 → ⊥) → 1 ≤ e * j + i
      → frame_step samples (in_frame (e * j + i) d) x ≡ gives (in_frame (e * j + i + 1) d) Nothing
  unfolding sampled
  off j i d x h n p =
      let q : (k : ℕ) → e * j + i ≡ baudot_place e k → ⊥ =
      λ k r. (let a =
      sym (mul-add-div {m = e} (omega arith) j i ∙ ap (λ (z : ℕ). j + z) (div-eq_of_lt h) ∙ add-zero j)
      ∙ ap (λ (z : ℕ). z / e) r
      ∙ place-element e (omega arith) k in
      n (let s : e * j + i ≡ e * j + e / 2 = r ∙ ap (λ (z : ℕ). e * z + e / 2) (sym a) in omega arith)) in
      no-sample samples (e * j + i) d p x (baudot-off e (omega arith) (e * j + i) q)

  -- the sample of element j
  pub on : (j d x : ℕ) → 1 ≤ baudot_place e j
      → frame_step samples (in_frame (baudot_place e j) d) x ≡ sampled (get_or baudot_kinds j None) (baudot_place e j) d
      x
  on j d x p =
      in_frame-step samples (baudot_place e j) d x p
      ∙ ap (λ (k : Sample). sampled k (baudot_place e j) d x) (baudot-on e (omega arith) j)

  -- ms of element j between samples
  skip : (n i j d x : ℕ) → i + n ≤ e → 1 ≤ e * j + i → ((p : ℕ) → i ≤ p → p < i + n → p ≡ e / 2 → ⊥)
      → Hears samples (in_frame (e * j + i) d) (replicate n x) (silent n) (in_frame (e * j + (i + n)) d)
  skip zero i j d x h z ok = rw add-zero (none samples (in_frame (e * j + i) d))
  skip (suc n) i j d x h z ok =
      let s : e * j + i + 1 ≡ e * j + suc i = omega arith in
      let t : i + suc n ≡ suc i + n = omega arith in
      let u = skip n (suc i) j d x (omega arith) (omega arith) (λ p a b. ok p (omega arith) (omega arith)) in
      let o = off j i d x (omega arith) (ok i (omega arith) (omega arith)) z in
      rw t (next samples (o ∙ ap (λ (m : ℕ). gives (in_frame m d) Nothing) s) u)

  -- the ms of element j behind its sample
  rest : (j d x : ℕ)
      → Hears samples (in_frame (baudot_place e j + 1) d) (replicate (e - e / 2 - 1) x) (silent (e - e / 2 - 1))
      (in_frame (e * suc j + 0) d)
  rest j d x =
      let w : e * j + (suc (e / 2) + (e - e / 2 - 1)) ≡ e * suc j + 0 = omega arith in
      let v : e * j + suc (e / 2) ≡ baudot_place e j + 1 = omega arith in
      rw (w, v) at (skip (e - e / 2 - 1) (suc (e / 2)) j d x (omega arith) (omega arith) (λ p a b. omega arith))

  -- a whole element of a frame, behind the start, whose sample leads on
  element : (j d x q : ℕ)
      → sampled (get_or baudot_kinds (suc j) None) (baudot_place e (suc j)) d x ≡ goes_on (baudot_place e (suc j)) q
      → Hears samples (in_frame (e * suc j + 0) d) (replicate e x) (silent e) (in_frame (e * suc (suc j) + 0) q)
  element j d x q l =
      let t : e ≡ e / 2 + suc (e - e / 2 - 1) = omega arith in
      rw (split e (e / 2) (e - e / 2 - 1) x t, split e (e / 2) (e - e / 2 - 1) Nothing t)
      (chain samples (rw zero-add at (skip (e / 2) 0 (suc j) d x (omega arith) (omega arith) (λ p a b. omega arith)))
      (next samples (on (suc j) d x (omega arith) ∙ l) (rest (suc j) q x)))

  pub leads : (m d b : ℕ) → b < 2 → sampled (Digit 16) m d (level_of b) ≡ goes_on m (d / 2 + 16 * b)
  unfolding sampled
  leads m d zero h = refl
  leads m d (suc zero) h = refl
  leads m d (suc (suc b)) h = absurd (omega arith)

  -- the element of a digit b
  digit : (j d b : ℕ) → b < 2 → get_or baudot_kinds (suc j) None ≡ Digit 16
      → Hears samples (in_frame (e * suc j + 0) d) (replicate e (level_of b)) (silent e)
      (in_frame (e * suc (suc j) + 0) (d / 2 + 16 * b))
  digit j d b h k =
      element j d (level_of b) (d / 2 + 16 * b)
      (ap (λ (s : Sample). sampled s (baudot_place e (suc j)) d (level_of b)) k ∙ leads (baudot_place e (suc j)) d b h)

  -- hunting, a space is ms 0 of a frame
  start : Hears samples hunting (replicate e 2) (silent e) (in_frame (e * 1 + 0) 0)
  unfolding frame_step sampled baudot_kinds
  start =
      let s : e ≡ suc (e - 1) = omega arith in
      let t : e - 1 ≡ e / 2 - 1 + suc (e - e / 2 - 1) = omega arith in
      let z : e * 0 + 1 ≡ 1 = omega arith in
      let o : e * 0 + (1 + (e / 2 - 1)) ≡ baudot_place e 0 = omega arith in
      let xs : replicate {A = ℕ} e 2 ≡ 2 ∷ (replicate (e / 2 - 1) 2 ++ (2 ∷ replicate (e - e / 2 - 1) 2)) =
      ap (λ (k : ℕ). replicate {A = ℕ} k 2) s
      ∙ ap (λ (l : List ℕ). 2 ∷ l) (split (e - 1) (e / 2 - 1) (e - e / 2 - 1) 2 t) in
      let os : silent e ≡ Nothing ∷ (silent (e / 2 - 1) ++ (Nothing ∷ silent (e - e / 2 - 1))) =
      ap silent s ∙ ap (λ (l : List Found). Nothing ∷ l) (split (e - 1) (e / 2 - 1) (e - e / 2 - 1) Nothing t) in
      rw (xs, os)
      (next samples (hunting-space samples)
      (chain samples (rw (z, o) at (skip (e / 2 - 1) 1 0 0 2 (omega arith) (omega arith) (λ p a b. omega arith)))
      (next samples (on 0 0 2 (omega arith)) (rest 0 0 2))))

  -- hunting, marks and quiet are passed over
  pub hunts-on : (n x : ℕ) → (x ≡ 2 → ⊥) → Hears samples hunting (replicate n x) (silent n) hunting
  unfolding frame_step
  hunts-on zero x h = none samples hunting
  hunts-on (suc n) x h = next samples (hunting-other samples x h) (hunts-on n x h)

  -- the stop: the code at its sample, and then hunting
  stop : (d : ℕ)
      → Hears samples (in_frame (e * 6 + 0) d) (replicate (3 * e / 2) 1)
      (silent (e / 2) ++ (Code (record { 0 = d }) ∷ silent (3 * e / 2 - e / 2 - 1))) hunting
  unfolding sampled baudot_kinds
  stop d =
      rw (split {A = ℕ} (3 * e / 2) (e / 2) (3 * e / 2 - e / 2 - 1) 1 (omega arith))
      (chain samples (rw zero-add at (skip (e / 2) 0 6 d 1 (omega arith) (omega arith) (λ p a b. omega arith)))
      (next samples (on 6 d 1 (omega arith)) (hunts-on (3 * e / 2 - e / 2 - 1) 1 (λ q. omega arith))))

  -- six elements that end in nothing, and what is ahead of the stop's sample
  quiet-ahead : (os : List Found)
      → (silent e ++ (silent e ++ (silent e ++ (silent e ++ (silent e ++ (silent e ++ [])))))) ++ (silent (e / 2) ++ os)
      ≡ silent (baudot_place e 6) ++ os
  quiet-ahead os =
      let six : silent e ++ (silent e ++ (silent e ++ (silent e ++ (silent e ++ (silent e ++ []))))) ≡ silent (e * 6) =
      rw (
        append-nil (silent e),
        replicate-append-replicate e e Nothing,
        replicate-append-replicate e (e + e) Nothing,
        replicate-append-replicate e (e + (e + e)) Nothing,
        replicate-append-replicate e (e + (e + (e + e))) Nothing,
        replicate-append-replicate e (e + (e + (e + (e + e)))) Nothing,
      )
      (ap silent (sixfold e)) in
      ap (λ (l : List Found). l ++ (silent (e / 2) ++ os)) six ∙ sym (append_assoc (silent (e * 6)) (silent (e / 2)) os)
      ∙ ap (λ (l : List Found). l ++ os) (replicate-append-replicate (e * 6) (e / 2) Nothing)

  pub reads-code : (k : ℕ) → k < 32
      → Hears samples hunting (baudot_signal e k)
      (silent (baudot_place e 6) ++ (Code (record { 0 = k }) ∷ silent (3 * e / 2 - e / 2 - 1))) hunting
  unfolding baudot_signal held digits baudot_kinds
  reads-code k h =
      let w = digits-back k h in
      rw quiet-ahead at
      (rw w at
      (chain samples
      (chain samples start
      (chain samples (digit 0 _ (k % 2) (omega arith) refl)
      (chain samples (digit 1 _ (k / 2 % 2) (omega arith) refl)
      (chain samples (digit 2 _ (k / 2 / 2 % 2) (omega arith) refl)
      (chain samples (digit 3 _ (k / 2 / 2 / 2 % 2) (omega arith) refl)
      (chain samples (digit 4 _ (k / 2 / 2 / 2 / 2 % 2) (omega arith) refl) (none samples _))))))) (stop _)))

  -- ---- where a frame breaks: number j of the samples falls on ms ej + e/2

  -- a start that is not space, number 0: no word
  pub start-breaks : (d x : ℕ) → (x ≡ 2 → ⊥) → frame_step samples (in_frame (baudot_place e 0) d) x
      ≡ gives hunting Nothing
  unfolding baudot_kinds
  start-breaks d x = start-other samples (baudot_place e 0) d (omega arith) x (baudot-on e (omega arith) 0)

  -- quiet at a later one, numbers 1 to 6
  pub quiet-breaks : (j d : ℕ) → j < 6
      → frame_step samples (in_frame (baudot_place e (suc j)) d) 0 ≡ faulty Quiet (baudot_place e (suc j))
  quiet-breaks j d h =
      later-quiet samples (baudot_place e (suc j)) d (omega arith)
      (rw (baudot-on e (omega arith) (suc j)) (passes_at is_later_one 6 later-test j h))

  -- a stop that is neither mark nor quiet, number 6
  pub stop-breaks : (d x : ℕ) → (x ≡ 0 → ⊥) → (x ≡ 1 → ⊥)
      → frame_step samples (in_frame (baudot_place e 6) d) x ≡ faulty StopNotMark (baudot_place e 6)
  unfolding baudot_kinds
  stop-breaks d x = last-other samples (baudot_place e 6) d (omega arith) x (baudot-on e (omega arith) 6)
