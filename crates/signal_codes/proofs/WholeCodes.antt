-- The levels of whole codes, element by element or key by key.
use Rattle.std.proofs.Common.{◌≡◌, ◌∙◌, refl, sym, ap, ℕ, suc, ◌+◌, ◌-◌, ◌*◌, ◌/◌, ◌%◌, ◌^◌, ◌≤◌, ◌<◌, List, [], ◌++◌, length, get_or, take, drop, replicate, append_assoc, arith}
use Rattle.std.specs.List.{between}
use Rattle.std.proofs.lemmas.List.{length-take}
use Rattle.std.proofs.lemmas.List.Edits.{sets}
use borrow.Rule.Slice.PartMut.{put_mid}
use mathlib.Core.List.{append-nil}
use native.Mathlib.Numerals.{add-one}
use lib.ListN.{drop_of_length-le}
use lib.Seq.{drop-cons}
use Rattle.lists.specs.Tables.{tabulate}
use Rattle.lists.proofs.Lists.{sets-front}
use Rattle.alphabet.specs.Dtmf.{keys_of}
use Rattle.alphabet.specs.declared.Mode.{Mode}
use Rattle.alphabet.specs.declared.Mode.TheVariants.{Dtmf, Edt}
use Rattle.signal.specs.Signal.{mark, space, quiet, level_of, digits, held, baudot_signal, parity_of, edt_elements, edt_signal, held_keys, keys_signal, signal}
use Rattle.signal.proofs.Lengths.{digits-length, held-length, baudot-length, edt-100, dtmf-120, four-keys}
use Rattle.signal_runs.proofs.Filling.{Writing, writing-at, writing-part, level-fits, level-written, level-first, writing-end}

-- the elements of digits: the lowest digit's, and those above it
module _ (all sent : List ℕ) (i ms n k m : ℕ) (w : Writing all sent i (held ms (digits n k))) (z : n ≡ m + 1) where
  digit-parts : held ms (digits n k) ≡ replicate ms (level_of (k % 2)) ++ held ms (digits m (k / 2))
  unfolding held digits
  digit-parts = let e : n ≡ suc m = omega arith in ap (λ (o : ℕ). held ms (digits o k)) e

  pub digit-fits : i + ms ≤ length sent
  digit-fits = level-fits all sent i _ w ms _ _ digit-parts

  pub digit-written : (level : ℕ) → level ≡ level_of (k / 2 ^ 0 % 2) → (to : ℕ) → i + ms ≡ to → (new : List ℕ)
      → new ≡ replicate (length (between i to sent)) level
      → Writing all (put_mid i (to - i) sent new) to (held ms (digits m (k / 2)))
  digit-written level e to t new a =
      let z : k / 1 % 2 ≡ k % 2 = omega arith in
      level-written all sent i _ w ms _ _ digit-parts to t new
      (a ∙ ap (λ (l : ℕ). replicate (length (between i to sent)) l) (e ∙ ap level_of z))

pub digits-end : (all sent : List ℕ) (i ms n k : ℕ) → Writing all sent i (held ms (digits n k)) → n ≤ 0 → sent ≡ all
unfolding held digits
digits-end all sent i ms n k w none =
    let e : n ≡ 0 = omega arith in
    writing-end all sent i _ w (ap (λ (m : ℕ). held ms (digits m k)) e)

pub digits_ms : (ms n k : ℕ) → length (held ms (digits n k)) ≡ ms * n
digits_ms ms n k = held-length ms (digits n k) ∙ ap (λ (m : ℕ). ms * m) (digits-length n k)

pub baudot_ms : (e k : ℕ) → length (baudot_signal e k) ≡ e * 6 + 3 * e / 2
baudot_ms = baudot-length

pub edt_ms : (c : ℕ) → length (signal Edt c) ≡ 100
edt_ms = edt-100

-- Baudot: start, five elements, stop
module _ (e k : ℕ) where
  baudot-parts : baudot_signal e k ≡ replicate e space ++ (held e (digits 5 k) ++ replicate (3 * e / 2) mark)
  unfolding baudot_signal held
  baudot-parts = append_assoc (replicate e space) (held e (digits 5 k)) (replicate (3 * e / 2) mark)

  pub baudot-written : (sent start five stop : List ℕ) → length sent ≡ length (baudot_signal e k)
      → start ≡ replicate (length (take e sent)) space
      → five ≡ held e (digits 5 k)
      → stop ≡ replicate (length (between (6 * e) (6 * e + 3 * e / 2)
      (put_mid e (6 * e - e) (start ++ drop e sent) five))) mark
      → put_mid (6 * e) (6 * e + 3 * e / 2 - 6 * e) (put_mid e (6 * e - e) (start ++ drop e sent) five) stop
      ≡ baudot_signal e k
  baudot-written sent start five stop h p q r =
      let d = digits_ms e 5 k in
      let w₁ = level-first _ sent h e space _ baudot-parts start p in
      let w₂ = writing-part _ _ _ _ w₁ (6 * e) (held e (digits 5 k)) _ five refl (omega arith) q in
      let w₃ = level-written _ _ _ _ w₂ (3 * e / 2) mark [] (sym (append-nil _)) (6 * e + 3 * e / 2) refl stop r in
      writing-end _ _ _ _ w₃ refl

-- EDT: start, seven elements, parity, two stops
module _ (c : ℕ) where
  edt-parts : signal Edt c
      ≡ replicate 10 space ++ (held 9 (digits 7 c) ++ (replicate 9 (level_of (parity_of c)) ++ replicate 18 mark))
  unfolding signal edt_signal edt_elements held digits tabulate
  edt-parts = refl

  pub edt-written : (digit level : ℕ) → digit ≡ parity_of c → level ≡ level_of (digit / 2 ^ 0 % 2)
      → (sent start seven parity stop : List ℕ) → length sent ≡ length (signal Edt c)
      → start ≡ replicate (length (take 10 sent)) space
      → seven ≡ held 9 (digits 7 c)
      → parity ≡ replicate (length (between 73 82 (put_mid 10 63 (start ++ drop 10 sent) seven))) level
      → stop ≡ replicate (length (between 82 100 (put_mid 73 9 (put_mid 10 63 (start ++ drop 10 sent) seven) parity)))
      mark
      → put_mid 82 18 (put_mid 73 9 (put_mid 10 63 (start ++ drop 10 sent) seven) parity) stop ≡ signal Edt c
  edt-written digit level d e sent start seven parity stop h p q r s =
      let z : digit / 1 % 2 ≡ parity_of c = omega arith in
      let l : level ≡ level_of (parity_of c) = e ∙ ap level_of z in
      let m = digits_ms 9 7 c in
      let w₁ = level-first _ sent h 10 space _ edt-parts start p in
      let w₂ = writing-part _ _ _ _ w₁ 73 (held 9 (digits 7 c)) _ seven refl (omega arith) q in
      let w₃ = level-written _ _ _ _ w₂ 9 (level_of (parity_of c)) _ refl 82 refl parity
      (r ∙ ap (λ (x : ℕ). replicate (length (between 73 82 (put_mid 10 63 (start ++ drop 10 sent) seven))) x) l) in
      let w₄ = level-written _ _ _ _ w₃ 18 mark [] refl 100 refl stop s in
      writing-end _ _ _ _ w₄ refl

-- DTMF: the keys from one on
pub dtmf_keys : (c : ℕ) → c < 256 → (n k : ℕ) → n ≡ length (signal Dtmf c) → k < n / 120
    → (k < length (keys_of c)) × (k < 4)
dtmf_keys c h n k e l =
    let m = dtmf-120 c in
    let f = four-keys c h in
    (omega arith, omega arith)

module _ (ks sent : List ℕ) (k : ℕ) (w : Writing (keys_signal ks) sent (k * 120) (keys_signal (drop k ks))) where
  module _ (h : k < length ks) where
    key-parts : keys_signal (drop k ks)
        ≡ replicate 70 (get_or ks k 0) ++ (replicate 50 quiet ++ keys_signal (drop (k + 1) ks))
    unfolding held_keys
    key-parts = rw (drop-cons ks k 0) (rw (add-one k) refl)

    pub keying-turn : (key : ℕ) → key ≡ get_or ks k 0 → (on off : List ℕ)
        → on ≡ replicate (length (between (k * 120) (k * 120 + 70) sent)) key
        → off ≡ replicate (length (between (k * 120 + 70) (k * 120 + 120)
        (put_mid (k * 120) (k * 120 + 70 - k * 120) sent on))) 0
        → Writing (keys_signal ks) (put_mid (k * 120 + 70) (k * 120 + 120 - (k * 120 + 70))
        (put_mid (k * 120) (k * 120 + 70 - k * 120) sent on) off) ((k + 1) * 120) (keys_signal (drop (k + 1) ks))
    keying-turn key e on off a b =
        let n : k * 120 + 120 ≡ (k + 1) * 120 = omega arith in
        let w₁ = level-written _ _ _ _ w 70 (get_or ks k 0) _ key-parts (k * 120 + 70) refl on
        (a ∙ ap (λ (l : ℕ). replicate (length (between (k * 120) (k * 120 + 70) sent)) l) e) in
        writing-at n (level-written _ _ _ _ w₁ 50 quiet _ refl (k * 120 + 120) (omega arith) off b)

  pub keying-end : length ks ≤ k → sent ≡ keys_signal ks
  unfolding held_keys
  keying-end h = writing-end _ _ _ _ w (ap keys_signal (drop_of_length-le ks h))

-- a whole code at the front of a slice
module _ (xs : List ℕ) (mode m : Mode) (k n : ℕ) (e : mode ≡ m) (d : n ≡ length (signal mode k))
    (h : length (signal mode k) ≤ length xs) where
  pub front-length : length (take n xs) ≡ length (signal m k)
  front-length =
      let f = ap (λ (o : Mode). length (signal o k)) e in
      omega (arith, length-take {A = ℕ})

  pub front-written : (new : List ℕ) → new ≡ signal m k → new ++ drop n xs ≡ sets xs 0 (signal mode k)
  front-written new w =
      ap (λ (l : List ℕ). l ++ drop n xs) (w ∙ sym (ap (λ (o : Mode). signal o k) e))
      ∙ ap (λ (j : ℕ). signal mode k ++ drop j xs) d ∙ sym (sets-front xs (signal mode k) h)
