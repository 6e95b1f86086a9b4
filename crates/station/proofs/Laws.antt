-- DEL, by the library's test; the numbers of refusals, of which none is 0; the numbers of modes.
use mathlib.Core.Path.{◌≡◌, refl, sym}
use mathlib.Core.Bool.{true, ◌||◌}
use mathlib.Core.List.{List, [], ◌∷◌}
use Prim.Native.Nat.{ℕ}
use native.Mathlib.Omega.{arith}
use lib.Dec.{eqb}
use Rattle.std.specs.List.{list_any}
use Rattle.refusals.specs.declared.Refusal.{Refusal}
use Rattle.refusals.specs.declared.Refusal.TheVariants as refusal
use Rattle.refusals.specs.Refusals.{number}
use Rattle.alphabet.specs.declared.Mode.{Mode}
use Rattle.alphabet.specs.declared.Mode.TheVariants.{Baudot45, Baudot50, Dtmf, Edt}
use Rattle.alphabet.specs.Modes.{mode_number}
use Rattle.station.specs.Station.{has_del}
use Rattle.station.specs.Entries.{is_mode}

pub del-any : (cs : List ℕ) → list_any (λ c. eqb c 0x7f) cs ≡ has_del cs
unfolding has_del
del-any [] = refl
del-any (c ∷ cs) = λ i. eqb c 0x7f || del-any cs i

pub number-some : (r : Refusal) → number r ≡ 0 → ⊥
number-some refusal.State e = omega arith
number-some refusal.Mode e = omega arith
number-some refusal.Character e = omega arith
number-some refusal.Full e = omega arith
number-some refusal.Duration e = omega arith
number-some refusal.Heard e = omega arith
number-some refusal.SentSlice e = omega arith
number-some refusal.WordSlice e = omega arith
number-some refusal.ResultSlice e = omega arith
number-some refusal.Code e = omega arith
number-some refusal.Tone e = omega arith
number-some refusal.CallingState e = omega arith
number-some refusal.ReportFull e = omega arith

-- a number of a mode is 1 to 4
pub mode-number : (n : ℕ) (mode : Mode) → mode_number mode ≡ n → is_mode n ≡ true
mode-number n Baudot45 e = rw (sym e) refl
mode-number n Baudot50 e = rw (sym e) refl
mode-number n Dtmf e = rw (sym e) refl
mode-number n Edt e = rw (sym e) refl
