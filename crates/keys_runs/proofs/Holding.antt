-- DTMF: ms of one level.
use mathlib.Core.Path.{◌≡◌, ◌∙◌, refl, sym, ap, subst, subst₂}
use mathlib.Core.Bool.{Bool, true, false, cond}
use mathlib.Core.List.{List}
use Prim.Native.Nat.{ℕ, zero, suc, ◌+◌, ◌-◌, ◌≤◌, ◌<◌}
use native.Mathlib.Omega.{arith}
use lib.Dec.{eqb, ltb}
use lib.ListN.{length, get_or}
use borrow.Author.Tests.{eqb-true, eqb-false, ne_eqb, ltb-true, ltb-false}
use Rattle.lists.specs.Lists.{all_at_most}
use Rattle.lists.specs.code.Places.{UpTo}
use Rattle.lists.proofs.Lists.{either}
use Rattle.keys.specs.declared.Keys.{Keys}
use Rattle.keys.specs.Keys.{keys_at, needs, counts, key_step}
use Rattle.keys_runs.specs.declared.levels.Keyed.{Keyed}
use Rattle.keys_runs.specs.code.Passing.{keys_of, row_of, KeysPass, ms_next}
use Rattle.keys_runs.proofs.Rows.{next-same}
use Rattle.keys_runs.proofs.Keying.{quiet_step, still-step, next-step, pass-none, keys-pass}

-- keys, then those after n ms
after : Keys → (ℕ → Keys) → ℕ → Keys
after k g zero = k
after k g (suc n) = g (suc n)

after-some : (k : Keys) (g : ℕ → Keys) (n : ℕ) → 1 ≤ n → after k g n ≡ g n
unfolding after
after-some k g zero h = absurd (omega arith)
after-some k g (suc n) h = refl

-- from the place of a reader on, keys are then others
abbrev pub PassesTo : List ℕ → Keyed → Keys → ℕ → Type 0
PassesTo heard k q to = KeysPass heard (keys_of k) k.to q to

pub passes-as : (heard : List ℕ) (k : Keyed) {q s : Keys} {i to : ℕ} → q ≡ s → i ≡ to → PassesTo heard k s to
    → PassesTo heard k q i
passes-as heard k e f p = subst₂ (λ (x : Keys) (n : ℕ). PassesTo heard k x n) (sym e) (sym f) p

-- the quiet that is left to be needed
pub quiet-left : (needed n to : ℕ) → UpTo 0 needed n to → needed - to ≡ needed - n
quiet-left needed n to u = go (ltb to n) refl
  where
    go : (b : Bool) → ltb to n ≡ b → needed - to ≡ needed - n
    go true e = let f = u.full (ltb-true to n e) in omega arith
    go false e = let f = ltb-false to n e in let h = u.high in omega arith

-- ms in a row
pub row-few : (k : Keys) (x : ℕ) → k.ms < 40 → row_of k x < 40
row-few k x h = either (λ (n : ℕ). n < 40) (eqb x k.key) k.ms 0 h (omega arith)

row_next : (k : Keys) (x : ℕ) → (x ≡ 0 → ⊥) → ms_next k.key k.ms x ≡ row_of k x + 1
unfolding ms_next
row_next k x n = rw (ne_eqb x 0 n) (go (eqb x k.key))
  where
    go : (b : Bool) → cond b (k.ms + 1) 1 ≡ cond b k.ms 0 + 1
    go true = refl
    go false = refl

row-39 : (k : Keys) (x : ℕ) → row_of k x ≡ 39 → (x ≡ k.key) × (k.ms ≡ 39)
row-39 k x = go (eqb x k.key) refl
  where
    go : (b : Bool) → eqb x k.key ≡ b → cond b k.ms 0 ≡ 39 → (x ≡ k.key) × (k.ms ≡ 39)
    go true e h = (eqb-true x k.key e, h)
    go false e h = absurd (omega arith)

module _ (heard : List ℕ) (levels : all_at_most 16 heard ≡ true) (k : Keyed) (level to : ℕ)
    (h : to ≤ length heard)
    (same : (j : ℕ) → k.to ≤ j → j < to → get_or heard j 0 ≡ level) (some : k.to < to) where
  held : (g : ℕ → Keys) → key_step (keys_of k) level ≡ counts (g 1) 0
      → ((n : ℕ) → 1 ≤ n → n < to - k.to → key_step (g n) level ≡ counts (g (suc n)) 0)
      → PassesTo heard k (g (to - k.to)) to
  unfolding after
  held g first next =
      subst (λ (x : Keys). PassesTo heard k x to) (after-some (keys_of k) g (to - k.to) (omega arith))
      (keys-pass heard levels (keys_of k) k.ranged k.to (after (keys_of k) g) refl to (omega arith) h step)
    where
      step : (n : ℕ) → n < to - k.to
          → key_step (after (keys_of k) g n) (get_or heard (k.to + n) 0) ≡ counts (after (keys_of k) g (suc n)) 0
      step zero m = ap (key_step (keys_of k)) (same (k.to + 0) (omega arith) (omega arith)) ∙ first
      step (suc n) m =
          ap (key_step (g (suc n))) (same (k.to + suc n) (omega arith) (omega arith)) ∙ next (suc n) (omega arith) m

  -- quiet
  pub held-quiet : level ≡ 0 → (left : ℕ) → left ≡ k.needed - (to - k.to)
      → PassesTo heard k (keys_at 0 0 left) to
  held-quiet e left p =
      rw p (held (λ (n : ℕ). needs (k.needed - n)) (quiet_step (keys_of k) level e)
      (λ (n : ℕ) (a : 1 ≤ n) (b : n < to - k.to). let z : k.needed - n - 1 ≡ k.needed - suc n = omega arith in
      quiet_step (needs (k.needed - n)) level e ∙ ap (λ (m : ℕ). counts (needs m) 0) z))

  -- a key, while quiet is needed
  pub held-still : (level ≡ 0 → ⊥) → (k.needed ≡ 0 → ⊥)
      → PassesTo heard k (keys_at 0 0 40) to
  held-still e n =
      held (λ (m : ℕ). needs 40) (still-step (keys_of k) level n e)
      (λ (m : ℕ) (a : 1 ≤ m) (b : m < to - k.to). still-step (needs 40) level (λ z. omega arith) e)

  -- a key that does not count yet
  pub held-row : (level ≡ 0 → ⊥) → k.needed ≡ 0 → row_of (keys_of k) level + (to - k.to) < 40
      → (ms : ℕ) → ms ≡ row_of (keys_of k) level + (to - k.to)
      → PassesTo heard k (keys_at level ms 0) to
  held-row e n f ms p = rw p (held (λ (m : ℕ). keys_at level (row + m) 0) first next)
    where
      row : ℕ
      row = row_of (keys_of k) level

      first : key_step (keys_of k) level ≡ counts (keys_at level (row + 1) 0) 0
      first =
          let r = row_next (keys_of k) level e in
          ap (λ (m : ℕ). key_step (keys_at k.key k.ms m) level) n
          ∙ next-step k.key k.ms level (λ (z : ms_next k.key k.ms level ≡ 40). omega arith)
          ∙ ap (λ (m : ℕ). counts (keys_at level m 0) 0) r

      next : (m : ℕ) → 1 ≤ m → m < to - k.to
          → key_step (keys_at level (row + m) 0) level ≡ counts (keys_at level (row + suc m) 0) 0
      next m a b =
          let r = next-same level (row + m) level e refl in
          let z : row + m + 1 ≡ row + suc m = omega arith in
          next-step level (row + m) level (λ (y : ms_next level (row + m) level ≡ 40). omega arith)
          ∙ ap (λ (i : ℕ). counts (keys_at level i 0) 0) (r ∙ z)

-- up to the ms in which a key counts
pub held-count : (heard : List ℕ) → all_at_most 16 heard ≡ true → (k : Keyed) → (level end : ℕ)
    → end ≤ length heard
    → ((j : ℕ) → k.to ≤ j → j < end → get_or heard j 0 ≡ level) → (level ≡ 0 → ⊥) → k.needed ≡ 0 → k.ms < 40
    → (to : ℕ) → to ≡ k.to + (39 - row_of (keys_of k) level) → to < end
    → PassesTo heard k (keys_at level 39 0) to
held-count heard levels k level end h same e n f to p l = go (eqb (row_of (keys_of k) level) 39) refl
  where
    go : (b : Bool) → eqb (row_of (keys_of k) level) 39 ≡ b
        → PassesTo heard k (keys_at level 39 0) to
    go true z =
        let r = eqb-true (row_of (keys_of k) level) 39 z in
        let q = row-39 (keys_of k) level r in
        let t : to ≡ k.to = omega arith in
        rw (q.0, sym q.1, sym n, t) (pass-none heard levels (keys_of k) k.to k.ranged (omega arith))
    go false z =
        let r = eqb-false (row_of (keys_of k) level) 39 z in
        let s = row-few (keys_of k) level f in
        held-row heard levels k level to (omega arith)
        (λ (j : ℕ) (a : k.to ≤ j) (b : j < to). same j a (omega arith)) (omega (arith, r)) e n (omega arith) 39
        (omega arith)
