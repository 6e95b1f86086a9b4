-- Each rule on DTMF keys by itself, and what a key of any length with quiet behind it gives.
use mathlib.Core.Path.{◌≡◌, ◌∙◌, refl, ap, subst}
use mathlib.Core.List.{List, [], ◌∷◌, ◌++◌, append_assoc}
use Prim.Native.Nat.{ℕ, zero, suc, ◌+◌, ◌-◌, ◌<◌, ◌≤◌}
use native.Mathlib.Omega.{arith}
use native.Mathlib.Nat.{add-zero, zero-add, suc-add}
use lib.ListN.{replicate, replicate-append-replicate}
use borrow.Author.Tests.{eq-eqb, ne_eqb}
use Rattle.keys.specs.declared.Keys.{Keys}
use Rattle.keys.specs.declared.KeyRead.{KeyRead}
use Rattle.keys.specs.Keys.{keys_at, ready, needs, counts, key_step, key_next, key_counts}
use Rattle.lists.proofs.Steps as steps
use Rattle.lists.proofs.Steps.{Takes}

-- from the reader s, in each of the ms xs the key that counts is in ks (0: none), and they leave the reader t
abbrev pub KeysTake : Keys → List ℕ → List ℕ → Keys → Type 0
KeysTake s xs ks t = Takes key_next key_counts s xs ks t

none : (s : Keys) → KeysTake s [] [] s
none s = steps.none key_next key_counts s

pub chain : {s t u : Keys} {xs ys ks js : List ℕ} → KeysTake s xs ks t → KeysTake t ys js u
    → KeysTake s (xs ++ ys) (ks ++ js) u
chain a b = steps.chain key_next key_counts a b

next : {s t u : Keys} {x k : ℕ} {xs ks : List ℕ} → key_step s x ≡ counts t k → KeysTake t xs ks u
    → KeysTake s (x ∷ xs) (k ∷ ks) u
next e b = steps.next key_next key_counts (ap (λ (d : KeyRead). d.keys) e) (ap (λ (d : KeyRead). d.key) e) b

-- quiet ends a key that has not counted
pub quiet-ends : (k n : ℕ) → key_step (keys_at k n 0) 0 ≡ counts ready 0
unfolding key_step
quiet-ends k n = refl

-- another key, without quiet in between, starts a count of its own
pub other_key : (k n j : ℕ) → (j ≡ 0 → ⊥) → (j ≡ k → ⊥) → key_step (keys_at k n 0) j ≡ counts (keys_at j 1 0) 0
unfolding key_step
other_key k n j z h = rw (ne_eqb j 0 z, ne_eqb j k h) refl

-- the next ms of a key, short of its 40th
pub one_more : (k n : ℕ) → (k ≡ 0 → ⊥) → n + 1 < 40 → key_step (keys_at k n 0) k ≡ counts (keys_at k (n + 1) 0) 0
unfolding key_step
one_more k n z h = rw (ne_eqb k 0 z, eq-eqb k k refl, ne_eqb (n + 1) 40 (λ e. omega arith)) refl

-- a key counts at its 40th ms in a row
pub fortieth : (k : ℕ) → (k ≡ 0 → ⊥) → key_step (keys_at k 39 0) k ≡ counts (needs 40) k
unfolding key_step
fortieth k z = rw (ne_eqb k 0 z, eq-eqb k k refl) refl

-- while quiet is needed, a key starts the 40 again, and no key counts
pub key-too-soon : (n k : ℕ) → (k ≡ 0 → ⊥) → key_step (needs (suc n)) k ≡ counts (needs 40) 0
unfolding key_step
key-too-soon n k z = rw (ne_eqb (suc n) 0 (λ e. omega arith), ne_eqb k 0 z) refl

-- a quiet ms less
pub quiet-ms : (n : ℕ) → key_step (needs (suc n)) 0 ≡ counts (needs n) 0
unfolding key_step
quiet-ms n =
    let p : suc n - 1 ≡ n = omega arith in
    rw (ne_eqb (suc n) 0 (λ e. omega arith), p) refl

-- a key that goes on
held_on : (n k m : ℕ) → (k ≡ 0 → ⊥) → m + n ≤ 39
    → KeysTake (keys_at k m 0) (replicate n k) (replicate n 0) (keys_at k (m + n) 0)
held_on zero k m z h = rw (add-zero m) (none (keys_at k m 0))
held_on (suc n) k m z h =
    let p : m + suc n ≡ m + 1 + n = omega arith in
    rw p (next (one_more k m z (omega arith)) (held_on n k (m + 1) z (omega arith)))

-- a key that is too short
first-ms : (k : ℕ) → (k ≡ 0 → ⊥) → key_step ready k ≡ counts (keys_at k 1 0) 0
first-ms k z = other_key 0 0 k z z

pub too_short : (n k : ℕ) → (k ≡ 0 → ⊥) → suc n ≤ 39
    → KeysTake ready (replicate (suc n) k) (replicate (suc n) 0) (keys_at k (suc n) 0)
too_short n k z h =
    let p : 1 + n ≡ suc n = omega arith in
    rw p at (next (first-ms k z) (held_on n k 1 z (omega arith)))

-- a key that has counted and is held
pub still-held : (n k : ℕ) → (k ≡ 0 → ⊥) → KeysTake (needs 40) (replicate n k) (replicate n 0) (needs 40)
still-held zero k z = none (needs 40)
still-held (suc n) k z = next (key-too-soon 39 k z) (still-held n k z)

-- quiet ms in a row
pub quiet_row : (n m : ℕ) → KeysTake (needs (n + m)) (replicate n 0) (replicate n 0) (needs m)
quiet_row zero m = rw (zero-add m) (none (needs m))
quiet_row (suc n) m = rw (suc-add n m) (next (quiet-ms (n + m)) (quiet_row n m))

-- a reader that needs no quiet
pub stays-ready : (n : ℕ) → KeysTake ready (replicate n 0) (replicate n 0) ready
stays-ready zero = none ready
stays-ready (suc n) = next (quiet-ends 0 0) (stays-ready n)

-- a key of at least 40 ms with at least 40 quiet behind it counts once, at its 40th ms
pub key_counts-on : (k on off : ℕ) → (k ≡ 0 → ⊥)
    → KeysTake ready (replicate (40 + on) k ++ replicate (40 + off) 0)
    (replicate 39 0 ++ (k ∷ replicate (on + (40 + off)) 0)) ready
key_counts-on k on off z =
    let a = chain (too_short 38 k z (omega arith)) (next (fortieth k z) (still-held on k z)) in
    let b = chain (quiet_row 40 0) (stays-ready off) in
    let one : 39 + suc on ≡ 40 + on = omega arith in
    let xs : replicate 39 k ++ (k ∷ replicate on k) ≡ replicate (40 + on) k = replicate-append-replicate 39 (suc on) k
    ∙ ap (λ (n : ℕ). replicate n k) one in
    let ys : replicate {A = ℕ} 40 0 ++ replicate off 0 ≡ replicate (40 + off) 0 = replicate-append-replicate 40 off 0 in
    let zs : replicate {A = ℕ} on 0 ++ replicate (40 + off) 0 ≡ replicate (on + (40 + off)) 0 =
    replicate-append-replicate on (40 + off) 0 in
    let os : (replicate 39 0 ++ (k ∷ replicate on 0)) ++ (replicate 40 0 ++ replicate off 0)
    ≡ replicate 39 0 ++ (k ∷ replicate (on + (40 + off)) 0) =
    append_assoc (replicate 39 0) (k ∷ replicate on 0) (replicate 40 0 ++ replicate off 0)
    ∙ ap (λ (l : List ℕ). replicate 39 0 ++ (k ∷ l)) (ap (λ (l : List ℕ). replicate on 0 ++ l) ys ∙ zs) in
    subst (λ (l : List ℕ). KeysTake ready l (replicate 39 0 ++ (k ∷ replicate (on + (40 + off)) 0)) ready)
    (λ i. xs i ++ ys i)
    (subst
    (λ (l : List ℕ).
    KeysTake ready ((replicate 39 k ++ (k ∷ replicate on k)) ++ (replicate 40 0 ++ replicate off 0)) l ready) os
    (chain a b))
