-- DTMF: the ms in a row of a key, after some ms.
use mathlib.Core.Path.{◌≡◌, ◌∙◌, refl, sym, ap}
use mathlib.Core.Bool.{Bool, true, false, cond}
use mathlib.Core.List.{List}
use Prim.Native.Nat.{ℕ, zero, suc, ◌+◌, ◌-◌, ◌≤◌, ◌<◌}
use native.Mathlib.Omega.{arith}
use lib.Dec.{eqb}
use lib.ListN.{get_or}
use borrow.Author.Tests.{eqb-true, eqb-false, eq-eqb, ne_eqb}
use Rattle.lists.specs.code.Places.{Back}
use Rattle.keys_runs.specs.code.Passing.{ms_next, key_after, ms_after}

-- ---- one ms

pub next-same : (key ms x : ℕ) → (x ≡ 0 → ⊥) → x ≡ key → ms_next key ms x ≡ ms + 1
unfolding ms_next
next-same key ms x n e = rw (ne_eqb x 0 n, eq-eqb x key e) refl

next-other : (key ms x : ℕ) → (x ≡ 0 → ⊥) → (x ≡ key → ⊥) → ms_next key ms x ≡ 1
unfolding ms_next
next-other key ms x n e = rw (ne_eqb x 0 n, ne_eqb x key e) refl

next-most : (key ms x : ℕ) → ms_next key ms x ≤ ms + 1
unfolding ms_next
next-most key ms x = go (eqb x 0) (eqb x key)
  where
    go : (b c : Bool) → cond b 0 (cond c (ms + 1) 1) ≤ ms + 1
    go true c = omega arith
    go false true = omega arith
    go false false = omega arith

-- a key counts after 39 ms of it
pub next-40 : (key ms x : ℕ) → ms_next key ms x ≡ 40 → (key ≡ x) × (ms ≡ 39)
unfolding ms_next
next-40 key ms x = go (eqb x 0) (eqb x key) refl
  where
    go : (b c : Bool) → eqb x key ≡ c → cond b 0 (cond c (ms + 1) 1) ≡ 40 → (key ≡ x) × (ms ≡ 39)
    go true c e h = absurd (omega arith)
    go false true e h = (sym (eqb-true x key e), omega arith)
    go false false e h = absurd (omega arith)

-- ---- some ms

module _ (heard : List ℕ) (to key ms : ℕ) where
  pub after-most : (k : ℕ) → ms_after heard to key ms k ≤ ms + k
  unfolding ms_after
  after-most zero = omega arith
  after-most (suc k) =
      let a = after-most k in
      let b = next-most (key_after heard to key k) (ms_after heard to key ms k) (get_or heard (to + k) 0) in
      omega arith

  -- after b ms in a row, p more
  run : (x q b : ℕ) → (x ≡ 0 → ⊥) → ms_next (key_after heard to key q) (ms_after heard to key ms q) x ≡ b
      → (p n : ℕ) → n ≡ q + p → ((k : ℕ) → q ≤ k → k ≤ n → get_or heard (to + k) 0 ≡ x)
      → ms_after heard to key ms (suc n) ≡ b + p
  unfolding ms_after key_after
  run x q b z h zero n e same =
      let y : n ≡ q = omega arith in
      let w : b ≡ b + 0 = omega arith in
      rw (same n (omega arith) (omega arith), y) (h ∙ w)
  run x q b z h (suc p) zero e same = absurd (omega arith)
  run x q b z h (suc p) (suc n) e same =
      let w : b + p + 1 ≡ b + suc p = omega arith in
      let a = run x q b z h p n (omega arith) (λ (k : ℕ) (l : q ≤ k) (m : k ≤ n). same k l (omega arith)) in
      let u = same n (omega arith) (omega arith) in
      let v = same (suc n) (omega arith) (omega arith) in
      next-same (get_or heard (to + n) 0) (ms_after heard to key ms (suc n)) (get_or heard (to + suc n) 0)
      (λ (y : get_or heard (to + suc n) 0 ≡ 0). z (sym v ∙ y)) (v ∙ sym u)
      ∙ ap (λ (m : ℕ). m + 1) a
      ∙ w

  module _ (last : ℕ) (l : to ≤ last) where
    pub row-quiet : get_or heard last 0 ≡ 0 → 0 ≡ ms_after heard to key ms (suc (last - to))
    unfolding ms_after ms_next
    row-quiet e = let z : to + (last - to) ≡ last = omega arith in rw (z, e) refl

    module _ (x from : ℕ) (e : get_or heard last 0 ≡ x) (n : x ≡ 0 → ⊥) (b : Back heard to last x from) where
      row_same : (k : ℕ) → from - to ≤ k → k ≤ last - to → get_or heard (to + k) 0 ≡ x
      row_same k g m = go (eqb (to + k) last) refl
        where
          go : (c : Bool) → eqb (to + k) last ≡ c → get_or heard (to + k) 0 ≡ x
          go true q = let z = eqb-true (to + k) last q in rw z e
          go false q = let z = eqb-false (to + k) last q in b.same (to + k) (omega arith) (omega arith)

      row : (first : ℕ) → ms_next (key_after heard to key (from - to)) (ms_after heard to key ms (from - to)) x ≡ first
          → first + (last - from) ≡ ms_after heard to key ms (suc (last - to))
      row first h =
          let low = b.low in
          let high = b.high in
          sym (run x (from - to) first n h (last - from) (last - to) (omega arith) row_same)

      pub row-later : to < from → last + 1 - from ≡ ms_after heard to key ms (suc (last - to))
      unfolding key_after
      row-later g =
          let high = b.high in
          let k = from - to - 1 in
          let z : from - to ≡ suc k = omega arith in
          let y : last + 1 - from ≡ 1 + (last - from) = omega arith in
          y
          ∙ row 1
          (rw z
          (next-other (get_or heard (to + k) 0) _ x n
          (λ (q : x ≡ get_or heard (to + k) 0). b.other (to + k) (omega arith) (omega arith) (sym q))))

      module _ (g : from ≤ to) where
        at_first : from - to ≡ 0
        at_first = omega arith

        pub row_other : (x ≡ key → ⊥) → last + 1 - from ≡ ms_after heard to key ms (suc (last - to))
        unfolding key_after ms_after
        row_other q =
            let high = b.high in
            let y : last + 1 - from ≡ 1 + (last - from) = omega arith in
            y ∙ row 1 (rw at_first (next-other key ms x n q))

        pub row_on : x ≡ key → ms + (last + 1 - from) ≡ ms_after heard to key ms (suc (last - to))
        unfolding key_after ms_after
        row_on q =
            let high = b.high in
            let y : ms + (last + 1 - from) ≡ ms + 1 + (last - from) = omega arith in
            y ∙ row (ms + 1) (rw at_first (next-same key ms x n q))
