-- Where the samples of a frame fall.
use mathlib.Core.Path.{◌≡◌, ◌∙◌, refl, sym, ap, subst}
use mathlib.Core.Bool.{Bool, true, false, cond, ◌&&◌, ◌||◌}
use mathlib.Core.List.{List, [], ◌∷◌, ◌++◌}
use Prim.Native.Nat.{ℕ, zero, suc, ◌+◌, ◌/◌, ◌<◌, ◌≤◌}
use native.Mathlib.Omega.{arith}
use native.Mathlib.Nat.{add-zero, zero-add, add-suc, suc-add, mul-add-div, div-eq_of_lt}
use lib.Dec.{T, eqb}
use lib.ListN.{length, get_or, replicate, length-replicate, get_or-replicate, get_or-append}
use borrow.Author.Tests.{eq-eqb, ne_eqb}
use Rattle.lists.specs.Tables.{passes}
use Rattle.lists.proofs.Tables.{both_left, both_right, passes_at}
use Rattle.alphabet.specs.declared.Mode.{Mode}
use Rattle.alphabet.specs.declared.Mode.TheVariants.{Baudot45, Baudot50, Dtmf, Edt}
use Rattle.frames.specs.declared.Found.TheVariants.{Code}
use Rattle.frames.specs.declared.Cause.TheVariants.{Quiet, StopNotMark}
use Rattle.frames.specs.declared.samples.Effect.{Effect}
use Rattle.frames.specs.declared.samples.Effect.TheVariants.{On, Breaks, Ends}
use Rattle.frames.specs.Frames.{hunting, gives, goes_on, faulty, sampled}
use Rattle.frames.specs.Samples.{Sample, None, Start, Digit, Parity, Stop, Last, is_later, samples_of, placed, sample_at, baudot_kinds, baudot_place, baudot_samples, edt_kinds, edt_place, edt_samples}
use Rattle.frames.specs.code.Samples.{number_at, sample_ms, kind_of, done_by, Does}

-- samples at any places
module _ (place : ℕ → ℕ) where
  -- a ms that is no place has no sample
  pub none-at : (ks : List Sample) (j m : ℕ) → ((i : ℕ) → m ≡ place i → ⊥) → sample_at (placed place j ks) m ≡ None
  unfolding sample_at placed
  none-at [] j m h = refl
  none-at (k ∷ ks) j m h = rw (ne_eqb m (place j) (h j)) (none-at ks (suc j) m h)

  -- the sample number i is of the i-th kind, if no two fall on one ms
  pub some_at : ((a b : ℕ) → place a ≡ place b → a ≡ b) → (ks : List Sample) (j i : ℕ)
      → sample_at (placed place j ks) (place (j + i)) ≡ get_or ks i None
  unfolding sample_at placed
  some_at inj [] j i = refl
  some_at inj (k ∷ ks) j zero = rw (add-zero j, eq-eqb (place j) (place j) refl)
  some_at inj (k ∷ ks) j (suc i) =
      let n : place (j + suc i) ≡ place j → ⊥ = λ e. (let q = inj (j + suc i) j e in omega arith) in
      rw (ne_eqb (place (j + suc i)) (place j) n)
      (rw (← (add-suc j i)) at (rw (suc-add j i) at (some_at inj ks (suc j) i)))

-- Baudot, for any element length
module _ (e : ℕ) (big : 1 ≤ e) where
  -- the sample number j is in element j
  pub place-element : (j : ℕ) → baudot_place e j / e ≡ j
  place-element j = mul-add-div big j (e / 2) ∙ ap (λ (k : ℕ). j + k) (div-eq_of_lt (omega arith)) ∙ add-zero j

  place-once : (a b : ℕ) → baudot_place e a ≡ baudot_place e b → a ≡ b
  place-once a b p = sym (place-element a) ∙ ap (λ (n : ℕ). n / e) p ∙ place-element b

  pub baudot-on : (j : ℕ) → sample_at (baudot_samples e) (baudot_place e j) ≡ get_or baudot_kinds j None
  baudot-on j = rw zero-add at (some_at (baudot_place e) place-once baudot_kinds 0 j)

  pub baudot-off : (m : ℕ) → ((j : ℕ) → m ≡ baudot_place e j → ⊥) → sample_at (baudot_samples e) m ≡ None
  baudot-off m h = none-at (baudot_place e) baudot_kinds 0 m h

-- EDT
edt-once : (a b : ℕ) → edt_place a ≡ edt_place b → a ≡ b
edt-once a b p = omega arith

pub edt-on : (j : ℕ) → sample_at edt_samples (edt_place j) ≡ get_or edt_kinds j None
edt-on j = rw zero-add at (some_at edt_place edt-once edt_kinds 0 j)

pub edt-off : (m : ℕ) → ((j : ℕ) → m ≡ edt_place j → ⊥) → sample_at edt_samples m ≡ None
edt-off m h = none-at edt_place edt_kinds 0 m h

-- the kinds by their number
digits-at : (n top : ℕ) (ks : List Sample) (j : ℕ) → (j ≡ 0 → ⊥) → j ≤ n
    → get_or (Start ∷ (replicate n (Digit top) ++ ks)) j None ≡ Digit top
digits-at n top ks zero p h = absurd (p refl)
digits-at n top ks (suc j) p h =
    let l = length-replicate n (Digit top) in
    get_or-append (replicate n (Digit top)) ks None j (omega arith)
    ∙ get_or-replicate n j (Digit top) None (omega arith)

pub kind-digit : (j : ℕ) → (j ≡ 0 → ⊥) → j < 6 → get_or baudot_kinds j None ≡ Digit 16
unfolding baudot_kinds
kind-digit j n h = digits-at 5 16 (Last ∷ []) j n (omega arith)

pub edt-digit : (j : ℕ) → (j ≡ 0 → ⊥) → j < 8 → get_or edt_kinds j None ≡ Digit 64
unfolding edt_kinds
edt-digit j n h = digits-at 7 64 (Parity ∷ Stop ∷ Last ∷ []) j n (omega arith)

pub kind-last : (j : ℕ) → 6 ≤ j → j < 7 → get_or baudot_kinds j None ≡ Last
unfolding baudot_kinds
kind-last j l h = ap (λ (k : ℕ). get_or baudot_kinds k None) (six j l h)
  where
    six : (j : ℕ) → 6 ≤ j → j < 7 → j ≡ 6
    six j l h = omega arith

pub edt-last : (j : ℕ) → 10 ≤ j → j < 11 → get_or edt_kinds j None ≡ Last
unfolding edt_kinds
edt-last j l h = ap (λ (k : ℕ). get_or edt_kinds k None) (ten j l h)
  where
    ten : (j : ℕ) → 10 ≤ j → j < 11 → j ≡ 10
    ten j l h = omega arith

abbrev pub samples_count : Mode → ℕ
samples_count Baudot45 = 7
samples_count Baudot50 = 7
samples_count Dtmf = 0
samples_count Edt = 11

-- how many samples a mode has
pub length-samples_of : (mode : Mode) → length (samples_of mode) ≡ samples_count mode
unfolding samples_of placed baudot_kinds edt_kinds
length-samples_of Baudot45 = refl
length-samples_of Baudot50 = refl
length-samples_of Dtmf = refl
length-samples_of Edt = refl

-- of which kind each is
module _ (mode : Mode) (j : ℕ) where
  pub kind-45 : mode ≡ Baudot45 → kind_of mode j ≡ get_or baudot_kinds j None
  unfolding samples_of sample_ms
  kind-45 e = ap (λ (m : Mode). kind_of m j) e ∙ baudot-on 22 (omega arith) j

  pub kind-50 : mode ≡ Baudot50 → kind_of mode j ≡ get_or baudot_kinds j None
  unfolding samples_of sample_ms
  kind-50 e = ap (λ (m : Mode). kind_of m j) e ∙ baudot-on 20 (omega arith) j

  pub kind-edt : mode ≡ Edt → kind_of mode j ≡ get_or edt_kinds j None
  unfolding samples_of sample_ms
  kind-edt e = ap (λ (m : Mode). kind_of m j) e ∙ edt-on j

pub number_of : (mode : Mode) (j : ℕ) → number_at mode (sample_ms mode j) ≡ j
unfolding number_at sample_ms
number_of Baudot45 j = omega arith
number_of Baudot50 j = omega arith
number_of Dtmf j = refl
number_of Edt j = omega arith

pub number-few : (mode : Mode) (m : ℕ) → number_at mode m ≤ m
unfolding number_at
number-few Baudot45 m = omega arith
number-few Baudot50 m = omega arith
number-few Dtmf m = omega arith
number-few Edt m = omega arith

-- a ms that is that of no sample has none
pub off-samples : (mode : Mode) (m : ℕ) → ((j : ℕ) → m ≡ sample_ms mode j → ⊥) → sample_at (samples_of mode) m ≡ None
unfolding samples_of sample_ms sample_at
off-samples Baudot45 m h = baudot-off 22 (omega arith) m h
off-samples Baudot50 m h = baudot-off 20 (omega arith) m h
off-samples Dtmf m h = refl
off-samples Edt m h = edt-off m h

pub not_on : (mode : Mode) (m : ℕ) → (sample_ms mode (number_at mode m) ≡ m → ⊥) → sample_at (samples_of mode) m ≡ None
not_on mode m h =
    off-samples mode m
    (λ j e. h (ap (sample_ms mode) (ap (number_at mode) e ∙ number_of mode j) ∙ sym e))

-- what a kind does, another does that is the same
pub does-as : (k l : Sample) (digits heard : ℕ) (e : Effect) → k ≡ l → Does l digits heard e → Does k digits heard e
does-as k l digits heard e p = subst (λ (x : Sample). Does x digits heard e) (sym p)

-- a stop, and the last one
pub stop-does : (digits heard : ℕ) {e : Effect} → (heard ≡ 0 → ⊥)
    → e ≡ cond (eqb heard 1) (On digits) (Breaks StopNotMark) → Does Stop digits heard e
unfolding sampled
stop-does digits heard n p = λ m. simp (ne_eqb heard 0 n, p) (go m (eqb heard 1))
  where
    go : (m : ℕ) (b : Bool) → cond b (goes_on m digits) (faulty StopNotMark m)
        ≡ done_by (cond b (On digits) (Breaks StopNotMark)) m digits
    go m true = refl
    go m false = refl

pub last-does : (digits heard : ℕ) {e : Effect} → (heard ≡ 0 → ⊥)
    → e ≡ cond (eqb heard 1) Ends (Breaks StopNotMark) → Does Last digits heard e
unfolding sampled
last-does digits heard n p = λ m. simp (ne_eqb heard 0 n, p) (go m (eqb heard 1))
  where
    go : (m : ℕ) (b : Bool) → cond b (gives hunting (Code (record { 0 = digits }))) (faulty StopNotMark m)
        ≡ done_by (cond b Ends (Breaks StopNotMark)) m digits
    go m true = refl
    go m false = refl

-- the first sample is the start's
pub first-start : (mode : Mode) (j : ℕ) → j ≡ 0 → j < length (samples_of mode) → kind_of mode j ≡ Start
unfolding samples_of sample_ms sample_at placed baudot_kinds edt_kinds
first-start Baudot45 j e h = ap (kind_of Baudot45) e
first-start Baudot50 j e h = ap (kind_of Baudot50) e
first-start Dtmf j e h = absurd (omega arith)
first-start Edt j e h = ap (kind_of Edt) e

-- and quiet at each behind it breaks the frame off
pub later-quiet : (k : Sample) (digits : ℕ) → T (is_later k) → Does k digits 0 (Breaks Quiet)
unfolding sampled
later-quiet None digits t = absurd t
later-quiet Start digits t = absurd t
later-quiet (Digit top) digits t = λ m. refl
later-quiet Parity digits t = λ m. refl
later-quiet Stop digits t = λ m. refl
later-quiet Last digits t = λ m. refl

later_test : Mode → ℕ → Bool
later_test mode j = eqb j 0 || is_later (kind_of mode j)

later-test : (mode : Mode) → T (passes (later_test mode) (samples_count mode) 0)
unfolding later_test passes sample_ms samples_of sample_at placed baudot_kinds edt_kinds
later-test Baudot45 = tt
later-test Baudot50 = tt
later-test Dtmf = tt
later-test Edt = tt

pub quiet-breaks : (mode : Mode) (j digits heard : ℕ) → (j ≡ 0 → ⊥) → j < length (samples_of mode) → heard ≡ 0
    → Does (kind_of mode j) digits heard (Breaks Quiet)
unfolding later_test
quiet-breaks mode j digits heard n h e =
    let few = subst (λ (k : ℕ). j < k) (length-samples_of mode) h in
    let t = passes_at (later_test mode) (samples_count mode) (later-test mode) j few in
    rw e (later-quiet (kind_of mode j) digits (rw (ne_eqb j 0 n) at t))

-- a test that every kind passes
unfoldable pub all_kinds : (Sample → Bool) → List Sample → Bool
all_kinds q [] = true
all_kinds q (k ∷ ks) = q k && all_kinds q ks

-- what passes for every kind, and for none, passes for the sample at a ms
pub kinds-pass : (q : Sample → Bool) → T (q None) → (place : ℕ → ℕ) (ks : List Sample) (j m : ℕ) → T (all_kinds q ks)
    → T (q (sample_at (placed place j ks) m))
unfolding sample_at placed all_kinds
kinds-pass q n place [] j m h = n
kinds-pass q n place (k ∷ ks) j m h =
    go (eqb m (place j)) (kinds-pass q n place ks (suc j) m (both_right (q k) (all_kinds q ks) h))
  where
    go : (b : Bool) → T (q (sample_at (placed place (suc j) ks) m))
        → T (q (cond b k (sample_at (placed place (suc j) ks) m)))
    go true t = both_left (q k) (all_kinds q ks) h
    go false t = t
