-- Eight bytes as one number: as far as its lowest bits are those of eight equal bytes, its bytes are.
use mathlib.Core.Path.{◌≡◌, ◌∙◌, refl, sym, ap, subst}
use mathlib.Core.List.{List}
use Prim.Native.Nat.{ℕ, zero, suc, ◌+◌, ◌*◌, ◌/◌, ◌%◌, ◌≤◌, ◌<◌}
use native.Mathlib.Omega.{arith}
use native.Mathlib.Nat.{add_assoc, div-div-eq-div-mul}
use lib.Arith.{mod-mul}
use lib.Bits.{bit_xor, differ, xor_step}
use lib.Count.{count_trailing_zeros, under, trailing_of_zero}
use lib.Dec.{ltb}
use lib.ListN.{get_or}
use borrow.Author.Tests.{ltb-true, ltb-false}
use Rattle.lists.specs.code.Places.{Through, eight_at}
use Rattle.lists.proofs.Lists.{by-test}
use Rattle.lists.proofs.Searching.{two-parts, through-turn}

-- ---- one bit

differ-few : (p q : ℕ) → p < 2 → q < 2 → differ p q < 2
differ-few zero q h l = l
differ-few (suc p) zero h l = h
differ-few (suc p) (suc q) h l = differ-few p q (omega arith) (omega arith)

differ_same : (p q : ℕ) → differ p q ≡ 0 → p ≡ q
differ_same zero q e = sym e
differ_same (suc p) zero e = e
differ_same (suc p) (suc q) e = ap suc (differ_same p q e)

module _ (a b : ℕ) where
  few : differ (a % 2) (b % 2) < 2
  few = differ-few (a % 2) (b % 2) (omega arith) (omega arith)

  low_same : bit_xor a b % 2 ≡ 0 → a % 2 ≡ b % 2
  low_same e =
      let s = xor_step a b in
      let f = few in
      differ_same (a % 2) (b % 2) (omega arith)

  half_is : bit_xor a b / 2 ≡ bit_xor (a / 2) (b / 2)
  half_is =
      let s = xor_step a b in
      let f = few in
      omega arith

-- two numbers are alike in their lowest w bits, where p is 2 to the w, and then as what is above these
record Alike (w p k a b : ℕ) : Type 0 where
  low : a % p ≡ b % p
  rest : count_trailing_zeros (w + k) (bit_xor a b) ≡ w + count_trailing_zeros k (bit_xor (a / p) (b / p))

abbrev Lowest : ℕ → ℕ → Type 0
Lowest w p = (k a b : ℕ) → w ≤ count_trailing_zeros (w + k) (bit_xor a b) → Alike w p k a b

bit-step : Lowest 1 2
unfolding count_trailing_zeros
bit-step k a b l =
    let fuel : 1 + k ≡ suc k = omega arith in
    go (bit_xor a b % 2) refl (ap (λ (n : ℕ). count_trailing_zeros n (bit_xor a b)) fuel)
  where
    go : (d : ℕ) → bit_xor a b % 2 ≡ d
        → count_trailing_zeros (1 + k) (bit_xor a b) ≡ under d (count_trailing_zeros k (bit_xor a b / 2))
        → Alike 1 2 k a b
    go zero e z = record {
      low = low_same a b e;
      rest = let h = ap (count_trailing_zeros k) (half_is a b) in omega arith;
    }
    go (suc d) e z = absurd (omega arith)

-- ---- one byte

-- twice as many bits
twice : (w p : ℕ) → 0 < p → Lowest w p → Lowest (w + w) (p * p)
twice w p o lowest k a b l =
    let all : count_trailing_zeros (w + w + k) (bit_xor a b) ≡ count_trailing_zeros (w + (w + k)) (bit_xor a b)
    = ap (λ (n : ℕ). count_trailing_zeros n (bit_xor a b)) (add_assoc w w k) in
    let s = lowest (w + k) a b (omega arith) in
    let r = s.rest in
    let t = lowest k (a / p) (b / p) (omega arith) in
    let q = t.rest in
    let above : count_trailing_zeros k (bit_xor (a / p / p) (b / p / p))
    ≡ count_trailing_zeros k (bit_xor (a / (p * p)) (b / (p * p)))
    = λ i. count_trailing_zeros k (bit_xor (div-div-eq-div-mul a p p i) (div-div-eq-div-mul b p p i)) in
    record {
      low = mod-mul a o o ∙ (λ i. t.low i * p + s.low i) ∙ sym (mod-mul b o o);
      rest = omega arith;
    }

byte_step : Lowest 8 256
byte_step = twice 4 16 (omega arith) (twice 2 4 (omega arith) (twice 1 2 (omega arith) bit-step))

-- ---- many bytes

-- the bits of m bytes, m bytes of a list as one number, and m bytes of x
bits : ℕ → ℕ
bits zero = zero
bits (suc m) = 8 + bits m

value : List ℕ → ℕ → ℕ → ℕ
value xs i zero = 0
value xs i (suc m) = get_or xs i 0 + value xs (i + 1) m * 256

equal : ℕ → ℕ → ℕ
equal x zero = 0
equal x (suc m) = x + equal x m * 256

no_bits : (n : ℕ) → count_trailing_zeros zero n ≡ 0
unfolding count_trailing_zeros
no_bits n = refl

first_byte : (k g x v s : ℕ) → g < 256 → x < 256 → 8 ≤ count_trailing_zeros (8 + k)
    (bit_xor (g + v * 256) (x + s * 256))
    → (g ≡ x)
    × (count_trailing_zeros (8 + k) (bit_xor (g + v * 256) (x + s * 256)) ≡ 8 + count_trailing_zeros k (bit_xor v s))
first_byte k g x v s h b l =
    let t = byte_step k (g + v * 256) (x + s * 256) l in
    let e = t.low in
    let r = t.rest in
    let zv : (g + v * 256) / 256 ≡ v = omega arith in
    let zs : (x + s * 256) / 256 ≡ s = omega arith in
    let p : count_trailing_zeros k (bit_xor ((g + v * 256) / 256) ((x + s * 256) / 256))
    ≡ count_trailing_zeros k (bit_xor v s)
    = λ i. count_trailing_zeros k (bit_xor (zv i) (zs i)) in
    (omega arith, omega arith)

module _ (xs : List ℕ) (bytes : (k : ℕ) → get_or xs k 0 < 256) (x : ℕ) (below : x < 256) (from end : ℕ) where
  abbrev Up : ℕ → Type 0
  Up i = Through xs from end x i

  first-turn : (k i v s : ℕ) → Up i → i < end → (Up (i + 1) → Up (i + 1 + count_trailing_zeros k (bit_xor v s) / 8))
      → Up (i + count_trailing_zeros (8 + k) (bit_xor (get_or xs i 0 + v * 256) (x + s * 256)) / 8)
  first-turn k i v s t l rest =
      let z = count_trailing_zeros (8 + k) (bit_xor (get_or xs i 0 + v * 256) (x + s * 256)) in
      by-test (ltb z 8)
      (λ e.
      let m = ltb-true z 8 e in
      let q : i ≡ i + z / 8 = omega arith in
      subst Up q t)
      (λ e.
      let f = first_byte k (get_or xs i 0) x v s (bytes i) below (ltb-false z 8 e) in
      let r = f.1 in
      let q : i + 1 + count_trailing_zeros k (bit_xor v s) / 8 ≡ i + z / 8 = omega arith in
      subst Up q (rest (through-turn xs from end x i t l f.0)))

  alike : (m i : ℕ) → Up i → i + m ≤ end → Up (i + count_trailing_zeros (bits m) (bit_xor (value xs i m) (equal x m)) /
      8)
  unfolding bits value equal
  alike zero i t l =
      let n = no_bits (bit_xor 0 0) in
      let z : i ≡ i + count_trailing_zeros zero (bit_xor 0 0) / 8 = omega arith in
      subst Up z t
  alike (suc m) i t l =
      first-turn (bits m) i (value xs (i + 1) m) (equal x m) t (omega arith)
      (λ (u : Up (i + 1)). alike m (i + 1) u (omega arith))

  -- eight bytes
  eight_is : (i : ℕ) → eight_at xs i ≡ value xs i 8
  unfolding value
  eight_is i =
      let at : ℕ → ℕ = λ (k : ℕ). get_or xs k 0 in
      let a : at (i + 2) ≡ at (i + 1 + 1) = ap at (omega arith) in
      let b : at (i + 2 + 1) ≡ at (i + 1 + 1 + 1) = ap at (omega arith) in
      let c : at (i + 4) ≡ at (i + 1 + 1 + 1 + 1) = ap at (omega arith) in
      let d : at (i + 4 + 1) ≡ at (i + 1 + 1 + 1 + 1 + 1) = ap at (omega arith) in
      let e : at (i + 4 + 2) ≡ at (i + 1 + 1 + 1 + 1 + 1 + 1) = ap at (omega arith) in
      let f : at (i + 4 + 2 + 1) ≡ at (i + 1 + 1 + 1 + 1 + 1 + 1 + 1) = ap at (omega arith) in
      omega arith

  ones-are : x * 72_340_172_838_076_673 ≡ equal x 8
  unfolding equal
  ones-are = omega arith

  module _ (i w y : ℕ) (t : Up i) (l : i + 8 ≤ end) (ew : w ≡ eight_at xs i) (ey : y ≡ x) where
    others-are : bit_xor w (y * 72_340_172_838_076_673) ≡ bit_xor (value xs i 8) (equal x 8)
    others-are =
        let a : w ≡ value xs i 8 = ew ∙ eight_is i in
        let b : y * 72_340_172_838_076_673 ≡ equal x 8
        = ap (λ (k : ℕ). k * 72_340_172_838_076_673) ey ∙ ones-are in
        λ j. bit_xor (a j) (b j)

    -- as many as are alike
    pub eight-turn : (n : ℕ) → n ≡ count_trailing_zeros 64 (bit_xor w (y * 72_340_172_838_076_673)) / 8 → Up (i + n)
    unfolding bits
    eight-turn n e =
        let z = e ∙ ap (λ (d : ℕ). count_trailing_zeros 64 d / 8) others-are in
        subst (λ (k : ℕ). Up (i + k)) (sym z) (alike 8 i t l)

    -- all of them
    pub eight-all : bit_xor w (y * 72_340_172_838_076_673) ≡ 0 → Up (i + 8)
    eight-all e =
        let n = trailing_of_zero 64 in
        let z = ap (λ (d : ℕ). count_trailing_zeros 64 d / 8) e in
        eight-turn 8 (omega arith)

-- a search that goes on behind another
pub through_chain : (xs : List ℕ) (from mid end x to : ℕ) → Through xs from end x mid → Through xs mid end x to
    → Through xs from end x to
through_chain xs from mid end x to a b = record {
  low = let l = a.low in let m = b.low in omega arith;
  high = b.high;
  same = two-parts (λ (k : ℕ). get_or xs k 0 ≡ x) from mid to a.same b.same;
}
