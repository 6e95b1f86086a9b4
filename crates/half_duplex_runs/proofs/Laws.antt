-- What the functions on cores need of the definitions.
use mathlib.Core.Path.{◌≡◌, ◌∙◌, refl, sym, ap, subst}
use mathlib.Core.Bool.{Bool, true, false, cond, not, ◌||◌, false≢true}
use mathlib.Core.List.{List, [], ◌∷◌}
use Prim.Native.Nat.{ℕ, zero, suc, ◌+◌, ◌-◌, ◌≤◌, ◌<◌, min}
use native.Mathlib.Omega.{arith}
use lib.Dec.{eqb, ltb}
use lib.ListN.{length, get_or, take, length-reverse}
use Rattle.std.proofs.Common.{None, Some, reverse}
use Rattle.std.specs.List.{position}
use Rattle.std.proofs.lemmas.List.{length-take, get_or-take, get_or-reverse}
use Rattle.std.proofs.lemmas.List.Quantifiers.{position-Some}
use Rattle.std.proofs.lemmas.List.Sums.{fails_before_first}
use lib.Seq.{take-suc, take_all}
use borrow.Author.Tests.{eqb-true, eqb-false, ne_eqb, lt-ltb, le-ltb, le-leb, ltb-true, ltb-false}
use Rattle.lists.specs.Lists.{all_at_most}
use Rattle.lists.specs.Steps.{state_after}
use Rattle.lists.proofs.Lists.{at-most-head, at-most-tail}
use Rattle.lists.proofs.Steps.{after-append}
use Rattle.frames.specs.Frames.{hunting}
use Rattle.keys.specs.Keys.{needs}
use Rattle.reader.specs.declared.Reader.{Reader}
use Rattle.reader.specs.Reader.{reader}
use Rattle.half_duplex.specs.declared.Core.{Core}
use Rattle.burst.specs.Rules.{may_begin, is_silent}
use Rattle.burst.specs.Line.{in_burst}
use Rattle.half_duplex.specs.Core.{silence_after}
use Rattle.half_duplex_runs.specs.code.Cores.{silence_for, silence_next, silence_over, deaf_reader, burst_left}

-- ---- silence

module _ (s n : ℕ) where
  pub silence-full : 300 ≤ s + n → silence_for s n ≡ 300
  silence-full h = rw (le-ltb (s + n) 300 h) refl

  pub silence-sum : s + n < 300 → silence_for s n ≡ s + n
  silence-sum h = rw (lt-ltb (s + n) 300 h) refl

pub silence-none : (s : ℕ) → s ≤ 300 → silence_for s 0 ≡ s
silence-none s h = go (ltb (s + 0) 300) refl
  where
    go : (a : Bool) → ltb (s + 0) 300 ≡ a → cond a (s + 0) 300 ≡ s
    go true e = omega arith
    go false e = let g = ltb-false (s + 0) 300 e in omega arith

after-in : (silent : Bool) (s : ℕ) → s ≤ 300 → silence_after silent s ≤ 300
unfolding silence_after
after-in false s h = omega arith
after-in true s h = go (ltb s 300) refl
  where
    go : (b : Bool) → ltb s 300 ≡ b → cond b (s + 1) s ≤ 300
    go true e = let l = ltb-true s 300 e in omega arith
    go false e = h

over-in : (s : ℕ) (xs : List ℕ) → s ≤ 300 → silence_over s xs ≤ 300
unfolding state_after
over-in s [] h = h
over-in s (x ∷ xs) h = over-in (silence_next s x) xs (after-in (is_silent false x) s h)

silence-shift : (s n : ℕ) → s ≤ 300 → silence_for (silence_after true s) n ≡ silence_for s (n + 1)
unfolding silence_after
silence-shift s n h = go (ltb s 300) refl
  where
    go : (b : Bool) → ltb s 300 ≡ b → silence_for (cond b (s + 1) s) n ≡ silence_for s (n + 1)
    go true e = let z : s + 1 + n ≡ s + (n + 1) = omega arith in ap (λ (m : ℕ). cond (ltb m 300) m 300) z
    go false e =
        let l = ltb-false s 300 e in silence-full s n (omega arith) ∙ sym (silence-full s (n + 1) (omega arith))

-- all of them quiet
pub over-quiet : (s : ℕ) (xs : List ℕ) → s ≤ 300 → all_at_most 0 xs ≡ true → silence_for s (length xs)
    ≡ silence_over s xs
unfolding state_after
over-quiet s [] h e = silence-none s h
over-quiet s (x ∷ xs) h e =
    let m = at-most-head 0 x xs e in
    let z : x ≡ 0 = omega arith in
    let n : length (x ∷ xs) ≡ length xs + 1 = omega arith in
    ap (silence_for s) n ∙ sym (silence-shift s (length xs) h)
    ∙ over-quiet (silence_after true s) xs (after-in true s h) (at-most-tail 0 x xs e)
    ∙ sym (ap (λ (y : ℕ). silence_over (silence_next s y) xs) z)

-- the last ms of a list
over_last : (s : ℕ) (xs : List ℕ) (j : ℕ) → j < length xs
    → silence_over s (take (suc j) xs) ≡ silence_next (silence_over s (take j xs)) (get_or xs j 0)
unfolding state_after
over_last s xs j h =
    ap (silence_over s) (take-suc xs j 0 h) ∙ after-append silence_next (λ (t x : ℕ). t) s (take j xs)
    (get_or xs j 0 ∷ [])

-- The n last ms of a list are quiet, and so many are left before them.
pub record Tail (heard : List ℕ) (silence left n : ℕ) : Type 0 where
  pub all : left + n ≡ length heard
  pub few : n ≤ 300
  pub silent : silence_for (silence_over silence (take left heard)) n ≡ silence_over silence heard

module _ (heard : List ℕ) (silence : ℕ) (h : silence ≤ 300) where
  pub tail-start : Tail heard silence (length heard) 0
  tail-start = record {
    all = omega arith;
    few = omega arith;
    silent =
        silence-none (silence_over silence (take (length heard) heard)) (over-in silence (take (length heard) heard) h)
        ∙ ap (silence_over silence) (take_all (length heard) heard (omega arith));
  }

  module _ (left n : ℕ) (t : Tail heard silence left n) where
    pub tail-free : n ≡ 300 → 300 ≡ silence_over silence heard
    tail-free e = sym (silence-full (silence_over silence (take left heard)) n (omega arith)) ∙ t.silent

    tail-last : 0 < left
        → silence_over silence (take left heard) ≡ silence_next (silence_over silence (take (left - 1) heard))
        (get_or heard (left - 1) 0)
    tail-last o =
        let a = t.all in
        let e : left ≡ suc (left - 1) = omega arith in
        ap (λ (m : ℕ). silence_over silence (take m heard)) e ∙ over_last silence heard (left - 1) (omega arith)

    pub tail-signal : 0 < left → (n ≡ 300 → ⊥) → (get_or heard (left - 1) 0 ≡ 0 → ⊥) → n ≡ silence_over silence heard
    unfolding silence_after
    tail-signal o f g =
        let few = t.few in
        let z : silence_over silence (take left heard) ≡ 0 =
        tail-last o ∙ (rw (ne_eqb (get_or heard (left - 1) 0) 0 g) refl) in
        let s = silence-sum 0 n (omega arith) in
        (omega arith) ∙ sym s ∙ sym (ap (λ (m : ℕ). silence_for m n) z) ∙ t.silent

    pub tail-quiet : 0 < left → (n ≡ 300 → ⊥) → get_or heard (left - 1) 0 ≡ 0 → Tail heard silence (left - 1) (n + 1)
    tail-quiet o f g =
        let all = t.all in
        let few = t.few in
        let u = silence_over silence (take (left - 1) heard) in
        let z : silence_over silence (take left heard) ≡ silence_after true u = tail-last o ∙ (rw g refl) in
        record {
          all = omega arith;
          few = omega arith;
          silent =
              sym (silence-shift u n (over-in silence (take (left - 1) heard) h))
              ∙ sym (ap (λ (m : ℕ). silence_for m n) z) ∙ t.silent;
        }

    pub tail-end : left ≤ 0 → silence_for silence n ≡ silence_over silence heard
    unfolding state_after
    tail-end o =
        let e : left ≡ 0 = omega arith in
        sym (ap (λ (m : ℕ). silence_for (silence_over silence (take m heard)) n) e) ∙ t.silent

  -- so many are quiet, from the last one back
  quiet-tail : (n : ℕ) → n ≤ 300 → n ≤ length heard
      → ((k : ℕ) → k < n → get_or heard (length heard - 1 - k) 0 ≡ 0) → Tail heard silence (length heard - n) n
  quiet-tail zero a b q = let z : length heard ≡ length heard - 0 = omega arith in rw z at tail-start
  quiet-tail (suc n) a b q =
      let t = quiet-tail n (omega arith) (omega arith) (λ (k : ℕ) (l : k < n). q k (omega arith)) in
      let z : length heard - 1 - n ≡ length heard - n - 1 = omega arith in
      let y : length heard - n - 1 ≡ length heard - suc n = omega arith in
      let x : n + 1 ≡ suc n = omega arith in
      let u = tail-quiet (length heard - n) n t (omega arith) (λ (e : n ≡ 300). omega arith)
      (ap (λ (i : ℕ). get_or heard i 0) (sym z) ∙ q n (omega arith)) in
      subst (λ (l : ℕ). Tail heard silence l (suc n)) y (subst (Tail heard silence (length heard - n - 1)) x u)

quiet-is : (x : ℕ) → not (eqb x 0) ≡ false → x ≡ 0
quiet-is x = go (eqb x 0) refl
  where
    go : (b : Bool) → eqb x 0 ≡ b → not b ≡ false → x ≡ 0
    go true e f = eqb-true x 0 e
    go false e f = absurd (false≢true (sym f))

signal-is : (x : ℕ) → not (eqb x 0) ≡ true → x ≡ 0 → ⊥
signal-is x = go (eqb x 0) refl
  where
    go : (b : Bool) → eqb x 0 ≡ b → not b ≡ true → x ≡ 0 → ⊥
    go true e f = absurd (false≢true f)
    go false e f = eqb-false x 0 e

none-false : (b : Bool) (n : ℕ) → cond b (Some n) None ≡ None → b ≡ false
none-false true n e = cc
none-false false n e = refl

-- the place of the last ms with a signal, from the last one back, among 300
module _ (heard : List ℕ) (silence : ℕ) (h : silence ≤ 300) where
  abbrev is_signal : ℕ → Bool
  is_signal x = not (eqb x 0)

  abbrev backwards : List ℕ
  backwards = take 300 (reverse heard)

  back-length : length backwards ≡ min 300 (length heard)
  back-length = length-take 300 (reverse heard) ∙ ap (min 300) (length-reverse heard)

  back-at : (k : ℕ) → k < length backwards → get_or backwards k 0 ≡ get_or heard (length heard - 1 - k) 0
  back-at k l =
      let b = back-length in get_or-take 300 (reverse heard) k 0 (omega arith) ∙ get_or-reverse heard k 0 (omega arith)

  pub signal-few : (n : ℕ) → position is_signal backwards ≡ Some n → n < 300
  signal-few n e = let l = (position-Some is_signal backwards n 0 e).0 in let b = back-length in omega arith

  pub signal-at : (n : ℕ) → position is_signal backwards ≡ Some n → n ≡ silence_over silence heard
  signal-at n e =
      let s = position-Some is_signal backwards n 0 e in
      let l = s.0 in
      let b = back-length in
      let t = quiet-tail heard silence h n (omega arith) (omega arith)
      (λ (k : ℕ) (g : k < n). sym (back-at k (omega arith)) ∙ quiet-is _ (s.2 k g)) in
      let z : length heard - 1 - n ≡ length heard - n - 1 = omega arith in
      tail-signal heard silence h (length heard - n) n t (omega arith) (λ (f : n ≡ 300). omega arith)
      (λ (f : get_or heard (length heard - n - 1) 0 ≡ 0).
      signal-is _ s.1 (back-at n l ∙ ap (λ (i : ℕ). get_or heard i 0) z ∙ f))

  pub signal-none : position is_signal backwards ≡ None
      → silence_for silence (length heard) ≡ silence_over silence heard
  signal-none e =
      let f = ltb-false _ _ (none-false _ _ e) in
      let b = back-length in
      let quiet = λ (k : ℕ) (g : k < length backwards).
      sym (back-at k g) ∙ quiet-is _ (fails_before_first is_signal backwards k 0 (omega arith)) in
      go (ltb (length heard) 300) refl quiet
    where
      go : (b : Bool) → ltb (length heard) 300 ≡ b
          → ((k : ℕ) → k < length backwards → get_or heard (length heard - 1 - k) 0 ≡ 0)
          → silence_for silence (length heard) ≡ silence_over silence heard
      go true e quiet =
          let l = ltb-true (length heard) 300 e in
          let b = back-length in
          let t = quiet-tail heard silence h (length heard) (omega arith) (omega arith)
          (λ (k : ℕ) (g : k < length heard). quiet k (omega arith)) in
          tail-end heard silence h (length heard - length heard) (length heard) t (omega arith)
      go false e quiet =
          let l = ltb-false (length heard) 300 e in
          let b = back-length in
          let t = quiet-tail heard silence h 300 (omega arith) (omega arith)
          (λ (k : ℕ) (g : k < 300). quiet k (omega arith)) in
          silence-full silence (length heard) (omega arith)
          ∙ tail-free heard silence h (length heard - 300) 300 t refl

-- no burst may begin while characters wait: the line is not free
pub not_free : (waiting silence : ℕ) → may_begin waiting silence ≡ false → (waiting ≡ 0 → ⊥) → silence < 300
unfolding may_begin
not_free waiting silence e n = go (ltb silence 300) refl
  where
    go : (b : Bool) → ltb silence 300 ≡ b → silence < 300
    go true f = ltb-true silence 300 f
    go false f =
        let z : ◌≡◌ {A = Bool} true false =
        sym (rw (lt-ltb 0 waiting (omega arith), le-leb 300 silence (ltb-false silence 300 f)) refl) ∙ e in
        let y : ◌≡◌ {A = ℕ} 0 1 = cc in
        absurd (omega arith)

-- in no burst, and none may begin
pub sends-not : (c : Core) → (in_burst c.line || may_begin c.waiting c.silence) ≡ false
    → (c.line.part ≡ 0) × (may_begin c.waiting c.silence ≡ false)
sends-not c = go (eqb c.line.part 0) refl
  where
    go : (b : Bool) → eqb c.line.part 0 ≡ b → (not b || may_begin c.waiting c.silence) ≡ false
        → (c.line.part ≡ 0) × (may_begin c.waiting c.silence ≡ false)
    go true e f = (eqb-true c.line.part 0 e, f)
    go false e f = absurd (false≢true (sym f))

-- ---- readers

pub deaf_some : (r : Reader) (n : ℕ) → 1 ≤ n
    → reader hunting (needs (r.keys.needed - n)) r.shift r.prefix ≡ deaf_reader r n
unfolding deaf_reader
deaf_some r zero h = absurd (omega arith)
deaf_some r (suc n) h = refl

pub burst_some : (i n : ℕ) → 1 ≤ n → 300 ≡ burst_left i n
unfolding burst_left
burst_some i zero h = absurd (omega arith)
burst_some i (suc n) h = refl
