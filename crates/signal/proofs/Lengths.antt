-- How many ms a signal has, and document 01's example of EDT.
use mathlib.Core.Path.{◌≡◌, ◌∙◌, refl, sym, ap}
use mathlib.Core.Bool.{Bool, cond, ◌&&◌}
use mathlib.Core.List.{List, [], ◌∷◌, ◌++◌}
use Prim.Native.Nat.{ℕ, zero, suc, ◌+◌, ◌*◌, ◌/◌, ◌%◌, ◌<◌, ◌≤◌}
use native.Mathlib.Omega.{arith}
use native.Mathlib.Nat.{mul-zero, mul-suc, add_comm}
use lib.Dec.{T, eqb, leb, ltb, eqb→eq}
use borrow.Author.Tests.{leb-true}
use lib.ListN.{length, get_or, replicate, length-replicate, length-append}
use Rattle.lists.specs.Tables.{passes}
use Rattle.lists.proofs.Tables.{is_true, tabulate-length, both_left, both_right, passes_at}
use Rattle.alphabet.specs.Print.{keys}
use Rattle.alphabet.specs.declared.Mode.{Mode}
use Rattle.alphabet.specs.declared.Mode.TheVariants.{Baudot45, Baudot50, Dtmf, Edt}
use Rattle.alphabet.specs.Dtmf.{prefixes, keys_of}
use Rattle.alphabet.specs.Modes.{longest}
use Rattle.signal.specs.Signal.{level_of, digits, held, baudot_signal, edt_elements, edt_signal, held_keys, keys_signal, signal, signals}

pub digits-length : (n k : ℕ) → length (digits n k) ≡ n
unfolding digits
digits-length zero k = refl
digits-length (suc n) k = ap suc (digits-length n (k / 2))

pub held-length : (e : ℕ) (ds : List ℕ) → length (held e ds) ≡ e * length ds
unfolding held
held-length e [] = sym (mul-zero e)
held-length e (d ∷ ds) =
    let a = length-append (replicate e (level_of d)) (held e ds) in
    let b = length-replicate e (level_of d) in
    let i = held-length e ds in
    a ∙ ap (λ (n : ℕ). n + length (held e ds)) b ∙ ap (λ (n : ℕ). e + n) i
    ∙ sym (mul-suc e (length ds) ∙ add_comm (e * length ds) e)

-- start, five elements, stop
pub baudot-length : (e k : ℕ) → length (baudot_signal e k) ≡ e * 6 + 3 * e / 2
unfolding baudot_signal
baudot-length e k =
    let h = held-length e (0 ∷ digits 5 k) ∙ ap (λ (n : ℕ). e * suc n) (digits-length 5 k) in
    length-append (held e (0 ∷ digits 5 k)) (replicate (3 * e / 2) 1)
    ∙ ap (λ (n : ℕ). n + length (replicate {A = ℕ} (3 * e / 2) 1)) h
    ∙ ap (λ (n : ℕ). e * 6 + n) (length-replicate {A = ℕ} (3 * e / 2) 1)

pub baudot-165 : (k : ℕ) → length (signal Baudot45 k) ≡ 165
unfolding signal
baudot-165 k = baudot-length 22 k

pub baudot-150 : (k : ℕ) → length (signal Baudot50 k) ≡ 150
unfolding signal
baudot-150 k = baudot-length 20 k

pub edt-100 : (c : ℕ) → length (signal Edt c) ≡ 100
unfolding signal edt_signal
edt-100 c = tabulate-length (λ (m : ℕ). level_of (get_or (edt_elements c) (11 * m / 100) 1)) 100 0

keys-120 : (ks : List ℕ) → length (keys_signal ks) ≡ 120 * length ks
unfolding held_keys
keys-120 [] = refl
keys-120 (k ∷ ks) =
    let i = keys-120 ks in
    let a = length-append (replicate 70 k) (replicate 50 0 ++ keys_signal ks) in
    let b = length-append {A = ℕ} (replicate 50 0) (keys_signal ks) in
    let p = length-replicate 70 k in
    let q = length-replicate {A = ℕ} 50 0 in
    omega arith

-- each key has 120 ms, the quiet behind it included
pub dtmf-120 : (c : ℕ) → length (signal Dtmf c) ≡ 120 * length (keys_of c)
unfolding signal
dtmf-120 c = keys-120 (keys_of c)

-- the keys of a code by its prefix
abbrev pub key_count : ℕ → ℕ
key_count p = cond (eqb p 0) 1 (cond (ltb p 3) 2 (cond (ltb p 7) 3 (cond (ltb p 15) 4 1)))

abbrev keys_counted : ℕ → Bool
keys_counted n = eqb (length (keys_of n)) (key_count (n / 16)) && leb (length (keys_of n)) 4

key-count-test : T (passes keys_counted 256 0)
unfolding passes keys_of keys prefixes
key-count-test = tt

module _ (n : ℕ) (h : n < 256) where
  both : T (keys_counted n)
  both = passes_at keys_counted 256 key-count-test n h

  pub key-count : length (keys_of n) ≡ key_count (n / 16)
  key-count = eqb→eq _ _ (both_left (eqb (length (keys_of n)) (key_count (n / 16))) (leb (length (keys_of n)) 4) both)

  pub four-keys : length (keys_of n) ≤ 4
  four-keys =
      let t = both_right (eqb (length (keys_of n)) (key_count (n / 16))) (leb (length (keys_of n)) 4) both in
      leb-true _ 4 (is_true _ t)

-- codes that have so many ms each
pub signals-each : (mode : Mode) (m : ℕ) → ((k : ℕ) → length (signal mode k) ≡ m) → (ks : List ℕ)
    → length (signals mode ks) ≡ m * length ks
unfolding signals
signals-each mode m each [] = sym (mul-zero m)
signals-each mode m each (k ∷ ks) =
    let a = length-append (signal mode k) (signals mode ks) in
    let i = signals-each mode m each ks in
    let e = each k in
    let d = mul-suc m (length ks) in
    a ∙ (omega arith) ∙ sym d

-- every signal has a ms
some-keys : (n : ℕ) → 1 ≤ length (keys_of n)
unfolding keys_of
some-keys n = let a = length-append (keys (get_or prefixes (n / 16) "")) (n % 16 ∷ []) in omega arith

pub some-ms : (mode : Mode) (k : ℕ) → 0 < length (signal mode k)
some-ms Baudot45 k = let n = baudot-165 k in omega arith
some-ms Baudot50 k = let n = baudot-150 k in omega arith
some-ms Dtmf k = let n = dtmf-120 k in let f = some-keys k in omega arith
some-ms Edt k = let n = edt-100 k in omega arith

pub signals-some : (mode : Mode) (ks : List ℕ) → 1 ≤ length ks → 1 ≤ length (signals mode ks)
unfolding signals
signals-some mode [] h = absurd (omega arith)
signals-some mode (k ∷ ks) h =
    let a = length-append (signal mode k) (signals mode ks) in
    let o = some-ms mode k in
    omega arith

-- no signal is longer than the longest of its mode
pub within-longest : (mode : Mode) (k : ℕ) → k < 256 → length (signal mode k) ≤ longest mode
within-longest Baudot45 k h = let n = baudot-165 k in omega arith
within-longest Baudot50 k h = let n = baudot-150 k in omega arith
within-longest Dtmf k h = let n = dtmf-120 k in let f = four-keys k h in omega arith
within-longest Edt k h = let n = edt-100 k in omega arith

-- the length of a signal in a mode that is known
pub length-in : (d o : Mode) (k n : ℕ) → d ≡ o → n ≡ length (signal o k) → n ≡ length (signal d k)
length-in d o k n p q = q ∙ ap (λ (x : Mode). length (signal x k)) (sym p)
