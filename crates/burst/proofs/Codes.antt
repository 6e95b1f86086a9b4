-- Codes of an alphabet: each is below all codes, and what a character sends is one.
use Rattle.alphabet.specs.Codes.{char_code}
use mathlib.Core.Path.{◌≡◌}
use mathlib.Core.Bool.{true}
use Prim.Native.Nat.{ℕ, ◌<◌}
use borrow.Author.Tests.{ltb-true, lt-ltb}
use Rattle.alphabet.specs.declared.Alphabet.{Alphabet}
use Rattle.alphabet.specs.declared.Alphabet.TheVariants.{Baudot, Dtmf, Edt}
use Rattle.alphabet.specs.declared.LineCode.{LineCode}
use Rattle.alphabet.specs.Normal.{sends}
use Rattle.alphabet.specs.Modes.{codes}
use Rattle.alphabet.proofs.Ranges.{range-of}
use Rattle.alphabet.proofs.DtmfCodes.{number-few, dtmf-sends}
use Rattle.burst.specs.Range.{is_code_of}

pub code-few : (a : Alphabet) (n : ℕ) → is_code_of a n ≡ true → n < codes a
unfolding is_code_of
code-few Baudot n e = ltb-true n 32 e
code-few Dtmf n e = number-few n e
code-few Edt n e = ltb-true n 128 e

-- a code that a character sends is a code of its alphabet
pub sent-code : (a : Alphabet) (c : ℕ) → c < 128 → (own : ℕ) (k : LineCode) → sends a c ≡ char_code own k
    → is_code_of a k.0 ≡ true
unfolding is_code_of
sent-code Baudot c h own k e = lt-ltb k.0 32 (range-of Baudot c h own k e).code-in
sent-code Dtmf c h own k e = dtmf-sends c own k e
sent-code Edt c h own k e = lt-ltb k.0 128 (range-of Edt c h own k e).code-in
