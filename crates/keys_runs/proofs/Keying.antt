-- DTMF: ms in which no key counts.
use mathlib.Core.Path.{◌≡◌, ◌∙◌, refl, sym, ap, subst}
use mathlib.Core.Bool.{Bool, true, false, cond}
use mathlib.Core.List.{List}
use Prim.Native.Nat.{ℕ, zero, suc, ◌+◌, ◌-◌, ◌≤◌, ◌<◌}
use native.Mathlib.Nat.{add-zero}
use native.Mathlib.Omega.{arith}
use lib.Dec.{eqb}
use lib.ListN.{length, get_or}
use borrow.Author.Tests.{eqb-true, ne_eqb}
use Rattle.lists.specs.Lists.{all_at_most}
use Rattle.lists.specs.code.Places.{UpTo, Through}
use Rattle.lists.proofs.Lists.{at-most-at}
use Rattle.lists.proofs.Passing as passing
use Rattle.lists.proofs.Passing.{Silent}
use Rattle.keys.specs.declared.Keys.{Keys}
use Rattle.keys.specs.declared.KeyRead.{KeyRead}
use Rattle.keys.specs.Keys.{keys_at, ready, needs, counts, nth_ms, key_step, key_next, key_counts}
use Rattle.keys.specs.code.Bounds.{KeysIn, is_key}
use Rattle.keys.proofs.Range.{key-step-in}
use Rattle.keys_runs.specs.declared.levels.Keyed.{Keyed}
use Rattle.keys_runs.specs.code.Passing.{keys_of, KeysPass, QuietFrom, ms_next, key_after, ms_after}
use Rattle.keys_runs.proofs.Rows.{next-40, after-most}

-- a quiet ms, and one of a key while quiet is needed
pub quiet_step : (k : Keys) (x : ℕ) → x ≡ 0 → key_step k x ≡ counts (needs (k.needed - 1)) 0
unfolding key_step
quiet_step k x e = rw e (go (eqb k.needed 0) refl)
  where
    go : (b : Bool) → eqb k.needed 0 ≡ b
        → cond b (counts ready 0) (counts (needs (k.needed - 1)) 0) ≡ counts (needs (k.needed - 1)) 0
    go true z = let y = eqb-true k.needed 0 z in rw y refl
    go false z = refl

pub still-step : (k : Keys) (x : ℕ) → (k.needed ≡ 0 → ⊥) → (x ≡ 0 → ⊥) → key_step k x ≡ counts (needs 40) 0
unfolding key_step
still-step k x n e = rw (ne_eqb k.needed 0 n, ne_eqb x 0 e) refl

pub next-step : (key ms x : ℕ) → (ms_next key ms x ≡ 40 → ⊥)
    → key_step (keys_at key ms 0) x ≡ counts (keys_at x (ms_next key ms x) 0) 0
unfolding key_step ms_next
next-step key ms x = go (eqb x 0) refl (eqb x key)
  where
    go : (b : Bool) → eqb x 0 ≡ b → (c : Bool) → (cond b 0 (cond c (ms + 1) 1) ≡ 40 → ⊥)
        → cond b (counts (keys_at 0 0 0) 0) (nth_ms x (cond c (ms + 1) 1))
        ≡ counts (keys_at x (cond b 0 (cond c (ms + 1) 1)) 0) 0
    go true e c n = sym (ap (λ (m : ℕ). counts (keys_at m 0 0) 0) (eqb-true x 0 e))
    go false e c n = rw (ne_eqb (cond c (ms + 1) 1) 40 n) refl

next-in : (key ms x : ℕ) → ms < 40 → (ms_next key ms x ≡ 40 → ⊥) → ms_next key ms x < 40
unfolding ms_next
next-in key ms x h = go (eqb x 0) (eqb x key)
  where
    go : (b c : Bool) → (cond b 0 (cond c (ms + 1) 1) ≡ 40 → ⊥) → cond b 0 (cond c (ms + 1) 1) < 40
    go true c n = omega arith
    go false true n = omega arith
    go false false n = omega arith

-- a ms in which no key counts
silent : (k q : Keys) (x : ℕ) → key_step k x ≡ counts q 0 → Silent key_next key_counts is_key k x q
silent k q x e = record {
  next = ap (λ (r : KeyRead). r.keys) e;
  nothing = ap (λ (r : KeyRead). is_key r.key) e;
}

-- Up to a place, no key counts; there, a key is heard, so many ms in a row.
pub record Counted (heard : List ℕ) (s : Keys) (i key ms to : ℕ) : Type 0 where
  pub few : ms < 40
  pub passes : KeysPass heard s i (keys_at key ms 0) to

module _ (heard : List ℕ) (levels : all_at_most 16 heard ≡ true) where
  keeps : (i : ℕ) → i < length heard → (k : Keys) → KeysIn k → KeysIn (key_next k (get_or heard i 0))
  keeps i l k h = key-step-in k (get_or heard i 0) (at-most-at 16 heard levels i l) h

  pub pass-none : (k : Keys) (i : ℕ) → KeysIn k → i ≤ length heard → KeysPass heard k i k i
  pass-none = passing.pass-none key_next key_counts is_key KeysIn heard keeps

  pub pass-chain : (s t u : Keys) (i j to : ℕ) → KeysPass heard s i t j → KeysPass heard t j u to
      → KeysPass heard s i u to
  pass-chain = passing.pass-chain key_next key_counts is_key KeysIn heard keeps

  module _ (s : Keys) (h : KeysIn s) (i : ℕ) where
    -- the keys are f k after k ms
    pub keys-pass : (f : ℕ → Keys) → f 0 ≡ s → (to : ℕ) → i ≤ to → to ≤ length heard
        → ((k : ℕ) → k < to - i → key_step (f k) (get_or heard (i + k) 0) ≡ counts (f (suc k)) 0)
        → KeysPass heard s i (f (to - i)) to
    keys-pass f e to l m n =
        subst (λ (k : Keys). KeysPass heard k i (f (to - i)) to) e
        (passing.pass-to key_next key_counts is_key KeysIn heard keeps f i to (subst KeysIn (sym e) h) l m
        (λ (k : ℕ) (g : k < to - i). silent (f k) (f (suc k)) (get_or heard (i + k) 0) (n k g)))

    -- up to where quiet begins
    still-passes : s.key ≡ 0 → s.ms ≡ 0 → (to : ℕ) → QuietFrom heard s.needed i to → KeysPass heard s i s to
    still-passes a b to t =
        let same : (n : ℕ) → s.needed ≡ n → keys_at 0 0 n ≡ s
        = λ (n : ℕ) (c : s.needed ≡ n). λ j. keys_at (sym a j) (sym b j) (sym c j) in
        keys-pass (λ (k : ℕ). s) refl to t.low t.high
        (λ (k : ℕ) (g : k < to - i). let n = t.still (omega arith) in
        still-step s (get_or heard (i + k) 0) (λ (z : s.needed ≡ 0). omega arith)
        (t.others (i + k) (omega arith) (omega arith)) ∙ ap (λ (x : Keys). counts x 0) (same 40 n))

    needed-passes : s.key ≡ 0 → s.ms ≡ 0 → (end to : ℕ) → UpTo i s.needed (length heard) end
        → Through heard i end 0 to
        → KeysPass heard s i (needs (s.needed - (to - i))) to
    needed-passes a b end to u t =
        let n = s.needed in
        let few = u.few in
        let high = u.high in
        let le = t.high in
        let z : n - 0 ≡ n = omega arith in
        keys-pass (λ (k : ℕ). needs (n - k)) (λ j. keys_at (sym a j) (sym b j) (z j)) to t.low (omega arith)
        (λ (k : ℕ) (g : k < to - i). let y : n - k - 1 ≡ n - suc k = omega arith in
        quiet_step (needs (n - k)) (get_or heard (i + k) 0) (t.same (i + k) (omega arith) (omega arith))
        ∙ ap (λ (m : ℕ). counts (needs m) 0) y)

  -- a key and its ms in a row, at each place
  module _ (s : Keys) (i : ℕ) where
    counted-turn : (key ms to : ℕ) → Counted heard s i key ms to → to < length heard
        → (n : ℕ) → n ≡ ms_next key ms (get_or heard to 0) → (n ≡ 40 → ⊥)
        → Counted heard s i (get_or heard to 0) n (to + 1)
    counted-turn key ms to c l n e f =
        let x = get_or heard to 0 in
        let g : ms_next key ms x ≡ 40 → ⊥ = rw e at f in
        let q = keys_at x (ms_next key ms x) 0 in
        let o = passing.pass-one key_next key_counts is_key KeysIn heard keeps (keys_at key ms 0) q to
        c.passes.ranged l
        (silent (keys_at key ms 0) q x (next-step key ms x g)) in
        rw e (record {
          few = next-in key ms x c.few g;
          passes = pass-chain s (keys_at key ms 0) q i to (to + 1) c.passes o;
        })

    -- some ms in which no key can count
    counted-many : (key ms to : ℕ) → Counted heard s i key ms to → (k : ℕ) → ms + k < 40 → to + k ≤ length heard
        → Counted heard s i (key_after heard to key k) (ms_after heard to key ms k) (to + k)
    unfolding key_after ms_after
    counted-many key ms to c zero f l = rw add-zero c
    counted-many key ms to c (suc k) f l =
        let m = after-most heard to key ms (suc k) in
        let z : to + k + 1 ≡ to + suc k = omega arith in
        let d = counted-many key ms to c k (omega arith) (omega arith) in
        rw z at (counted-turn _ _ (to + k) d (omega arith) (ms_after heard to key ms (suc k)) refl
        (λ (e : ms_after heard to key ms (suc k) ≡ 40). omega arith))

    module _ (key ms to last : ℕ) (c : Counted heard s i key ms to) (a : to ≤ last) (l : last < length heard)
        (f : ms + (last - to) < 40) (n : ℕ) (e : n ≡ ms_after heard to key ms (suc (last - to))) where
      before_last : Counted heard s i (key_after heard to key (last - to)) (ms_after heard to key ms (last - to)) last
      before_last =
          let z : to + (last - to) ≡ last = omega arith in
          rw z at (counted-many key ms to c (last - to) f (omega arith))

      next_last : n
          ≡ ms_next (key_after heard to key (last - to)) (ms_after heard to key ms (last - to)) (get_or heard last 0)
      unfolding ms_after
      next_last = let z : to + (last - to) ≡ last = omega arith in e ∙ (rw z refl)

      counted-row : (n ≡ 40 → ⊥) → Counted heard s i (get_or heard last 0) n (last + 1)
      counted-row g = counted-turn _ _ last before_last l n next_last g

      counted-40 : n ≡ 40 → KeysPass heard s i (keys_at (get_or heard last 0) 39 0) last
      counted-40 g =
          let q = next-40 _ _ _ (sym next_last ∙ g) in
          rw (q.0, q.1) at before_last.passes

    -- up to the first ms in which a key can count
    module _ (key ms to last : ℕ) (c : Counted heard s i key ms to) (l : to < length heard)
        (u : UpTo to (39 - ms) (length heard - 1) last) (n : ℕ)
        (e : n ≡ ms_after heard to key ms (suc (last - to))) where
      inside : last < length heard
      inside = let high = u.high in omega arith

      soon : ms + (last - to) < 40
      soon = let few = c.few in let near = u.few in omega arith

      pub turn-row : (n ≡ 40 → ⊥) → Counted heard s i (get_or heard last 0) n (last + 1)
      turn-row g = counted-row key ms to last c u.low inside soon n e g

      pub turn-40 : n ≡ 40 → KeysPass heard s i (keys_at (get_or heard last 0) 39 0) last
      turn-40 g = counted-40 key ms to last c u.low inside soon n e g

  pub counted_start : (key ms i : ℕ) → key ≤ 16 → ms < 40 → i ≤ length heard
      → Counted heard (keys_at key ms 0) i key ms i
  counted_start key ms i k f l = record {
    few = f;
    passes = pass-none (keys_at key ms 0) i (record { key_in = k; ms-in = f; needed_in = omega arith }) l;
  }

  -- quiet that is needed
  pub passes-quiet : (s : Keys) → KeysIn s → s.key ≡ 0 → s.ms ≡ 0 → (i from end to : ℕ)
      → QuietFrom heard s.needed i from
      → UpTo from s.needed (length heard) end → Through heard from end 0 to
      → KeysPass heard s i (needs (s.needed - (to - from))) to
  passes-quiet s h a b i from end to f u t =
      pass-chain s s _ i from to (still-passes s h i a b from f) (needed-passes s h from a b end to u t)

-- keys that need no quiet
pub needs-none : (heard : List ℕ) (k : Keyed) (s : Keys) (to : ℕ) → k.needed ≡ 0
    → KeysPass heard (keys_at k.key k.ms 0) k.to s to → KeysPass heard (keys_of k) k.to s to
needs-none heard k s to n p = subst (λ (m : ℕ). KeysPass heard (keys_at k.key k.ms m) k.to s to) (sym n) p
