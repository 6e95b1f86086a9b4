-- The signals by their ms: what the code computes at a ms is what the list has there.
use mathlib.Core.Path.{◌≡◌, ◌∙◌, refl, sym, ap, subst}
use mathlib.Core.Bool.{Bool, true, false, ◌&&◌}
use mathlib.Core.List.{List, [], ◌∷◌, ◌++◌}
use Prim.Native.Nat.{ℕ, suc, ◌+◌, ◌*◌, ◌-◌, ◌/◌, ◌%◌, ◌^◌, ◌<◌, ◌≤◌}
use native.Mathlib.Omega.{arith}
use lib.Dec.{T, eqb, ltb, eqb→eq}
use lib.ListN.{length, get_or, replicate, length-replicate, get_or-replicate, get_or-append}
use lib.Seq.{get_or-append-add}
use borrow.Author.Tests.{ltb-true, ltb-false}
use Rattle.lists.specs.Tables.{tabulate, passes}
use Rattle.lists.proofs.Tables.{both_left, both_right, tabulate-at, passes_at}
use Rattle.signal.specs.Signal.{level_of, digits, held, baudot_signal, sum, parity_of, edt_elements, edt_signal, held_keys, keys_signal, signal}
use Rattle.signal.specs.code.Packing.{edt_frame}
use Rattle.alphabet.specs.declared.Mode.{Mode}
use Rattle.alphabet.specs.declared.Mode.TheVariants.{Baudot45, Baudot50, Dtmf, Edt}
use Rattle.alphabet.specs.Modes.{alphabet_of, codes, longest}
use Rattle.alphabet.specs.Dtmf.{keys_of}

-- two lists that a test finds equal
pub same_list : List ℕ → List ℕ → Bool
same_list [] [] = true
same_list [] (y ∷ ys) = false
same_list (x ∷ xs) [] = false
same_list (x ∷ xs) (y ∷ ys) = eqb x y && same_list xs ys

same-list : (xs ys : List ℕ) → T (same_list xs ys) → xs ≡ ys
unfolding same_list
same-list [] [] t = refl
same-list [] (y ∷ ys) t = absurd t
same-list (x ∷ xs) [] t = absurd t
same-list (x ∷ xs) (y ∷ ys) t =
    let p = eqb→eq x y (both_left (eqb x y) (same_list xs ys) t) in
    let q = same-list xs ys (both_right (eqb x y) (same_list xs ys) t) in
    λ i. p i ∷ q i

-- a frame's level at an element
abbrev pub frame_level : ℕ → ℕ → ℕ
frame_level frame j = level_of (frame / 2 ^ j % 2)

-- a Baudot signal by its ms
abbrev pub by_frame : ℕ → ℕ → ℕ → List ℕ
by_frame e n k = tabulate (λ (m : ℕ). frame_level (192 + 2 * k) (m / e)) n 0

pub baudot_test : ℕ → ℕ → Bool
baudot_test e n = passes (λ (k : ℕ). same_list (baudot_signal e k) (by_frame e n k)) 32 0

pub test-22 : T (baudot_test 22 165)
unfolding baudot_test passes same_list tabulate baudot_signal held digits
test-22 = tt

pub test-20 : T (baudot_test 20 150)
unfolding baudot_test passes same_list tabulate baudot_signal held digits
test-20 = tt

module _ (e n : ℕ) (t : T (baudot_test e n)) (k : ℕ) (h : k < 32) where
  pub baudot-list : baudot_signal e k ≡ by_frame e n k
  unfolding baudot_test
  baudot-list =
      same-list (baudot_signal e k) (by_frame e n k)
      (passes_at (λ (i : ℕ). same_list (baudot_signal e i) (by_frame e n i)) 32 t k h)

  pub baudot-at : (m : ℕ) → m < n → get_or (baudot_signal e k) m 0 ≡ frame_level (192 + 2 * k) (m / e)
  baudot-at m g =
      ap (λ (l : List ℕ). get_or l m 0) baudot-list
      ∙ tabulate-at (λ (i : ℕ). frame_level (192 + 2 * k) (i / e)) 0 n m g

-- the parity of seven digits, as the code adds it up
abbrev pub folded_sum : ℕ → ℕ
folded_sum c = (c + c / 2 + c / 4 + c / 8 + c / 16 + c / 32 + c / 64) % 2

abbrev parity_at : ℕ → Bool
parity_at c = eqb (folded_sum c) (parity_of c)

parity-test : T (passes parity_at 128 0)
unfolding passes digits sum
parity-test = tt

pub parity-sum : (c : ℕ) → c < 128 → folded_sum c ≡ parity_of c
parity-sum c h = eqb→eq (folded_sum c) (parity_of c) (passes_at parity_at 128 parity-test c h)

-- an EDT code's elements by its frame
abbrev element_levels : ℕ → List ℕ
element_levels c = tabulate (λ (j : ℕ). level_of (get_or (edt_elements c) j 1)) 11 0

abbrev edt_same : ℕ → Bool
edt_same c = same_list (element_levels c) (tabulate (frame_level (edt_frame c)) 11 0)

edt-test : T (passes edt_same 128 0)
unfolding passes same_list tabulate edt_elements digits sum
edt-test = tt

pub edt-at : (c m : ℕ) → c < 128 → m < 100 → get_or (edt_signal c) m 0 ≡ frame_level (edt_frame c) (11 * m / 100)
unfolding edt_signal
edt-at c m h g =
    let f : ℕ → ℕ = λ (j : ℕ). level_of (get_or (edt_elements c) j 1) in
    let j : 11 * m / 100 < 11 = omega arith in
    let t = passes_at edt_same 128 edt-test c h in
    let e = same-list (element_levels c) (tabulate (frame_level (edt_frame c)) 11 0) t in
    tabulate-at (λ (i : ℕ). level_of (get_or (edt_elements c) (11 * i / 100) 1)) 0 100 m g
    ∙ sym (tabulate-at f 0 11 (11 * m / 100) j)
    ∙ ap (λ (l : List ℕ). get_or l (11 * m / 100) 0) e
    ∙ tabulate-at (frame_level (edt_frame c)) 0 11 (11 * m / 100) j

-- a value that is held, and what is behind it
in_held : (n x : ℕ) (l : List ℕ) (m : ℕ) → m < n → get_or (replicate n x ++ l) m 0 ≡ x
in_held n x l m h = get_or-append (replicate n x) l 0 m (rw length-replicate h) ∙ get_or-replicate n m x 0 h

behind-held : (n x : ℕ) (l : List ℕ) (m : ℕ) → n ≤ m → get_or (replicate n x ++ l) m 0 ≡ get_or l (m - n) 0
behind-held n x l m h =
    let e : m ≡ length (replicate n x) + (m - n) = rw length-replicate (omega arith) in
    ap (λ (i : ℕ). get_or (replicate n x ++ l) i 0) e ∙ get_or-append-add (replicate n x) l (m - n) 0

-- a key sequence by its ms, with keys of any length and any quiet behind them
keys-first : (on off k : ℕ) (ks : List ℕ) (m : ℕ) → m < on → get_or (held_keys on off (k ∷ ks)) m 0 ≡ k
unfolding held_keys
keys-first on off k ks m h = in_held on k (replicate off 0 ++ held_keys on off ks) m h

keys-quiet : (on off k : ℕ) (ks : List ℕ) (m : ℕ) → on ≤ m → m < on + off → get_or (held_keys on off (k ∷ ks)) m 0 ≡ 0
unfolding held_keys
keys-quiet on off k ks m l h =
    behind-held on k (replicate off 0 ++ held_keys on off ks) m l
    ∙ in_held off 0 (held_keys on off ks) (m - on) (omega arith)

keys-next : (on off k : ℕ) (ks : List ℕ) (m : ℕ) → on + off ≤ m
    → get_or (held_keys on off (k ∷ ks)) m 0 ≡ get_or (held_keys on off ks) (m - on - off) 0
unfolding held_keys
keys-next on off k ks m h =
    behind-held on k (replicate off 0 ++ held_keys on off ks) m (omega arith)
    ∙ behind-held off 0 (held_keys on off ks) (m - on) (omega arith)

-- 70 of each 120 ms are the key's, the others quiet
pub keys_on : (ks : List ℕ) (m : ℕ) → m % 120 < 70 → get_or (held_keys 70 50 ks) m 0 ≡ get_or ks (m / 120) 0
unfolding held_keys
keys_on [] m h = refl
keys_on (k ∷ ks) m h = go (ltb m 120) refl (keys_on ks (m - 70 - 50))
  where
    go : (b : Bool) → ltb m 120 ≡ b
        → ((m - 70 - 50) % 120 < 70 → get_or (held_keys 70 50 ks) (m - 70 - 50) 0 ≡ get_or ks ((m - 70 - 50) / 120) 0)
        → get_or (held_keys 70 50 (k ∷ ks)) m 0 ≡ get_or (k ∷ ks) (m / 120) 0
    go true e i =
        let l = ltb-true m 120 e in
        let z : m / 120 ≡ 0 = omega arith in
        keys-first 70 50 k ks m (omega arith) ∙ ap (λ (n : ℕ). get_or (k ∷ ks) n 0) (sym z)
    go false e i =
        let l = ltb-false m 120 e in
        let z : m / 120 ≡ suc ((m - 70 - 50) / 120) = omega arith in
        keys-next 70 50 k ks m (omega arith) ∙ i (omega arith) ∙ ap (λ (n : ℕ). get_or (k ∷ ks) n 0) (sym z)

pub keys-off : (ks : List ℕ) (m : ℕ) → 70 ≤ m % 120 → get_or (held_keys 70 50 ks) m 0 ≡ 0
unfolding held_keys
keys-off [] m h = refl
keys-off (k ∷ ks) m h = go (ltb m 120) refl (keys-off ks (m - 70 - 50))
  where
    go : (b : Bool) → ltb m 120 ≡ b
        → (70 ≤ (m - 70 - 50) % 120 → get_or (held_keys 70 50 ks) (m - 70 - 50) 0 ≡ 0)
        → get_or (held_keys 70 50 (k ∷ ks)) m 0 ≡ 0
    go true e i = let l = ltb-true m 120 e in keys-quiet 70 50 k ks m (omega arith) (omega arith)
    go false e i = let l = ltb-false m 120 e in keys-next 70 50 k ks m (omega arith) ∙ i (omega arith)

-- the level of a mode's code, from its frame
baudot-level : (e n : ℕ) → T (baudot_test e n) → (k m f r : ℕ) → k < 32 → m < n
    → f ≡ 192 + 2 * k → r ≡ frame_level f (m / e) → r ≡ get_or (baudot_signal e k) m 0
baudot-level e n t k m f r h g p q = q ∙ ap (λ (i : ℕ). frame_level i (m / e)) p ∙ sym (baudot-at e n t k h m g)

-- the mode, its code and the ms, as `level` is given them
module _ (d : Mode) (k m : ℕ) (h : k < codes (alphabet_of d)) (g : m < longest d) where
  pub code-in : (o : Mode) → d ≡ o → k < codes (alphabet_of o)
  code-in o e = subst (λ (x : Mode). k < codes (alphabet_of x)) e h

  pub ms-in : (o : Mode) → d ≡ o → m < longest o
  ms-in o e = subst (λ (x : Mode). m < longest x) e g

  in-mode : (o : Mode) (r : ℕ) → d ≡ o → r ≡ get_or (signal o k) m 0 → r ≡ get_or (signal d k) m 0
  in-mode o r e p = p ∙ ap (λ (x : Mode). get_or (signal x k) m 0) (sym e)

  pub level-45 : (f r : ℕ) → d ≡ Baudot45 → f ≡ 192 + 2 * k → r ≡ frame_level f (m / 22) → r ≡ get_or (signal d k) m 0
  unfolding signal
  level-45 f r e p q =
      in-mode Baudot45 r e (baudot-level 22 165 test-22 k m f r (code-in Baudot45 e) (ms-in Baudot45 e) p q)

  pub level-50 : (f r : ℕ) → d ≡ Baudot50 → f ≡ 192 + 2 * k → r ≡ frame_level f (m / 20) → r ≡ get_or (signal d k) m 0
  unfolding signal
  level-50 f r e p q =
      in-mode Baudot50 r e (baudot-level 20 150 test-20 k m f r (code-in Baudot50 e) (ms-in Baudot50 e) p q)

  pub level-dtmf : (r : ℕ) → d ≡ Dtmf → r ≡ get_or (keys_signal (keys_of k)) m 0 → r ≡ get_or (signal d k) m 0
  unfolding signal
  level-dtmf r e p = in-mode Dtmf r e p

  pub level-edt : (f r : ℕ) → d ≡ Edt → f ≡ edt_frame k → r ≡ frame_level f (11 * m / 100) → r ≡ get_or (signal d k) m 0
  unfolding signal
  level-edt f r e p q =
      let l = edt-at k m (code-in Edt e) (ms-in Edt e) in
      in-mode Edt r e (q ∙ ap (λ (i : ℕ). frame_level i (11 * m / 100)) p ∙ sym l)
