-- What a code or a key that counts ends in, as the code's functions find it.
use mathlib.Core.Path.{◌≡◌, ◌∙◌, refl, sym, ap, subst}
use mathlib.Core.Bool.{Bool, true, false, ◌||◌, ◌&&◌}
use Prim.Native.Nat.{ℕ, zero, suc, ◌<◌, ◌≤◌}
use native.Mathlib.Omega.{arith}
use lib.Dec.{T, eqb, leb}
use borrow.Author.Tests.{eqb-false, eq-eqb, ne_eqb, le-leb, lt-leb}
use Rattle.alphabet.specs.declared.Alphabet.{Alphabet}
use Rattle.alphabet.specs.declared.Alphabet.TheVariants.{Baudot, Dtmf as dtmf, Edt}
use Rattle.alphabet.specs.declared.LineCode.{LineCode}
use Rattle.alphabet.specs.declared.Mode.{Mode}
use Rattle.alphabet.specs.declared.Mode.TheVariants.{Baudot45, Baudot50, Dtmf, Edt as edt}
use Rattle.alphabet.specs.declared.Reads.{Reads}
use Rattle.alphabet.specs.Modes.{alphabet_of, frame_codes}
use Rattle.alphabet.specs.Dtmf.{with_mark, dtmf_code}
use Rattle.alphabet.specs.Normal.{reads}
use Rattle.frames.specs.declared.Cause.TheVariants.{LetterKey}
use Rattle.frames.specs.declared.Found.{Found}
use Rattle.frames.specs.declared.Found.TheVariants.{Code}
use Rattle.reader.specs.declared.Event.{Event}
use Rattle.reader.specs.declared.Event.TheVariants.{Fault, Nothing}
use Rattle.frames.specs.code.Bounds.{FoundIn}
use Rattle.reader.specs.code.Outcomes.{outcome}
use Rattle.reader.specs.Reader.{event_of, key_event, prefix_after, hear_key, hear}
use Rattle.reader.specs.declared.Reader.{Reader}
use Rattle.reader.specs.declared.Reading.{Reading}

abbrev is_baudot : Alphabet → Bool
is_baudot Baudot = true
is_baudot dtmf = false
is_baudot Edt = false

pub is-baudot : (a : Alphabet) → a ≡ Baudot → T (is_baudot a)
is-baudot a e = subst (λ (b : Alphabet). T (is_baudot b)) (sym e) tt

-- a code that was found in a Baudot frame has five bits
in-baudot : (mode : Mode) (n : ℕ) → n < frame_codes mode → alphabet_of mode ≡ Baudot → n < 32
in-baudot Baudot45 n h p = h
in-baudot Baudot50 n h p = h
in-baudot Dtmf n h p = omega arith
in-baudot edt n h p = absurd (is-baudot Edt p)

pub found-code : (mode : Mode) (f : Found) (k : LineCode) (a : Alphabet) → FoundIn (frame_codes mode) f → f ≡ Code k
    → a ≡ alphabet_of mode → a ≡ Baudot → k.0 < 32
found-code mode f k a h p q b = in-baudot mode k.0 (subst (FoundIn (frame_codes mode)) p h) (sym q ∙ b)

-- the tests on a key
digit-tests : (key : ℕ) → (key ≡ 0 → ⊥) → key ≤ 10
    → (eqb key 0 ≡ false) × ((eqb key 11 || eqb key 12) ≡ false) × ((leb 1 key && leb key 10) ≡ true)
digit-tests key n h = (
  ne_eqb key 0 n,
  simp (ne_eqb key 11 (λ p. omega arith), ne_eqb key 12 (λ p. omega arith)),
  simp (le-leb 1 key (pos key n), le-leb key 10 h),
)
  where
    pos : (k : ℕ) → (k ≡ 0 → ⊥) → 1 ≤ k
    pos zero f = absurd (f refl)
    pos (suc k) f = omega arith

pub digit-outcome : (prefix key : ℕ) (k : LineCode) (r : Reads) (e : Event) → (key ≡ 0 → ⊥) → key ≤ 10
    → k.0 ≡ dtmf_code prefix key → r ≡ reads dtmf 1 k.0 → e ≡ event_of r
    → outcome 0 e ≡ outcome (prefix_after prefix key) (key_event prefix key)
unfolding key_event prefix_after
digit-outcome prefix key k r e n h p q s =
    let t = digit-tests key n h in
    rw (t.0, t.1, t.2) (ap (λ (x : Event). outcome 0 x) (s ∙ ap event_of (q ∙ ap (reads dtmf 1) p)))

pub mark-outcome : (prefix key w : ℕ) → 10 < key → key ≤ 12 → w ≡ with_mark prefix key
    → outcome w Nothing ≡ outcome (prefix_after prefix key) (key_event prefix key)
unfolding key_event prefix_after
mark-outcome prefix key w l h p =
    rw (ne_eqb key 0 (λ q. omega arith), go key l h (eqb key 11) refl) (ap (λ (x : ℕ). outcome x Nothing) p)
  where
    go : (n : ℕ) → 10 < n → n ≤ 12 → (b : Bool) → eqb n 11 ≡ b → (b || eqb n 12) ≡ true
    go n a h true e = refl
    go n a h false e = let f = eqb-false n 11 e in eq-eqb n 12 (omega arith)

pub other-outcome : (prefix key : ℕ) → 10 < key → 12 < key
    → outcome 0 (Fault LetterKey 0) ≡ outcome (prefix_after prefix key) (key_event prefix key)
unfolding key_event prefix_after
other-outcome prefix key l h =
    rw (
      ne_eqb key 0 (λ q. omega arith),
      ne_eqb key 11 (λ q. omega arith),
      ne_eqb key 12 (λ q. omega arith),
      lt-leb key 10 l,
      le-leb 1 key (omega arith),
    ) refl

-- DTMF reads keys
pub hear-keys : (mode : Mode) (r : Reader) (x : ℕ) (q : Reading) → mode ≡ Dtmf → q ≡ hear_key r x → q ≡ hear mode r x
unfolding hear
hear-keys mode r x q p e = e ∙ ap (λ (m : Mode). hear m r x) (sym p)
