-- Keys in range: what question 1 says in facts, and that every step keeps it.
use mathlib.Core.Path.{◌≡◌, refl}
use mathlib.Core.Bool.{Bool, true, false, ◌&&◌}
use Prim.Native.Nat.{ℕ, ◌+◌, ◌-◌, ◌≤◌}
use native.Mathlib.Omega.{arith}
use lib.Dec.{eqb, leb, ltb}
use borrow.Author.Tests.{eqb-false, leb-true, ltb-true, le-leb, lt-ltb}
use Rattle.lists.proofs.Lists.{either, and_left, and_right}
use Rattle.keys.specs.declared.Keys.{Keys}
use Rattle.keys.specs.declared.KeyRead.{KeyRead}
use Rattle.keys.specs.Keys.{ready, needs, nth_ms, key_step}
use Rattle.keys.specs.Range.{keys_in}
use Rattle.keys.specs.code.Bounds.{KeysIn}

-- question 1 in facts, and back
pub keys_ranged : (k : Keys) → keys_in k ≡ true → KeysIn k
keys_ranged k e =
    let a = leb k.key 16 in
    let b = ltb k.ms 40 in
    let c = leb k.needed 40 in
    let ab = and_left (a && b) c e in
    record {
      key_in = leb-true k.key 16 (and_left a b ab);
      ms-in = ltb-true k.ms 40 (and_right a b ab);
      needed_in = leb-true k.needed 40 (and_right (a && b) c e);
    }

pub keys-are : (k : Keys) → KeysIn k → keys_in k ≡ true
keys-are k h =
    rw (le-leb k.key 16 h.key_in, lt-ltb k.ms 40 h.ms-in, le-leb k.needed 40 h.needed_in) refl

pub ready-in : KeysIn ready
ready-in = record { key_in = omega arith; ms-in = omega arith; needed_in = omega arith }

needs-in : (n : ℕ) → n ≤ 40 → KeysIn (needs n)
needs-in n h = record { key_in = omega arith; ms-in = omega arith; needed_in = h }

nth_in : (x n : ℕ) → x ≤ 16 → n ≤ 40 → KeysIn (nth_ms x n).keys
nth_in x n l h = go (eqb n 40) refl
  where
    go : (b : Bool) → eqb n 40 ≡ b → KeysIn (nth_ms x n).keys
    go true e = rw e (needs-in 40 (omega arith))
    go false e = let f = eqb-false n 40 e in rw e (record { key_in = l; ms-in = omega arith; needed_in = omega arith })

pub key-step-in : (s : Keys) (x : ℕ) → x ≤ 16 → KeysIn s → KeysIn (key_step s x).keys
unfolding key_step
key-step-in s x l h =
    let P : KeyRead → Type 0 = λ (r : KeyRead). KeysIn r.keys in
    let m = h.ms-in in
    let d = h.needed_in in
    either P (eqb s.needed 0) _ _
    (either P (eqb x 0) _ _ ready-in
    (nth_in x _ l (either (λ (n : ℕ). n ≤ 40) (eqb x s.key) (s.ms + 1) 1 (omega arith) (omega arith))))
    (needs-in _ (either (λ (n : ℕ). n ≤ 40) (eqb x 0) (s.needed - 1) 40 (omega arith) (omega arith)))
