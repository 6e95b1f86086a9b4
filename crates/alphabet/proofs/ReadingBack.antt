-- What `table::reads` and `table::normal` need of the definitions.
use Rattle.std.specs.Prelude.{Option}
use Rattle.alphabet.specs.declared.CharCode.{CharCode}
use Rattle.alphabet.specs.Codes.{char_code}
use mathlib.Core.Path.{◌≡◌, ◌∙◌, sym, subst}
use Prim.Native.Nat.{ℕ, ◌<◌}
use Rattle.alphabet.specs.declared.Alphabet.{Alphabet}
use Rattle.alphabet.specs.declared.Alphabet.TheVariants.{Baudot}
use Rattle.alphabet.specs.declared.LineCode.{LineCode}
use Rattle.alphabet.specs.declared.Reads.{Reads}
use Rattle.alphabet.specs.Normal.{sends, reads, read_back}
use Rattle.alphabet.proofs.Ranges.{range-of}

pub code_read : (a : Alphabet) (c shift : ℕ) (k : LineCode) (s : Option CharCode) (r : Reads)
    → s ≡ sends a c → s ≡ char_code shift k → r ≡ reads a shift k.0 → r ≡ read_back a (sends a c)
code_read a c shift k s r e d q = q ∙ (simp (sym e ∙ d))

pub baudot-code-in : (a : Alphabet) (c shift : ℕ) (k : LineCode) (s : Option CharCode)
    → c < 128 → s ≡ sends a c → s ≡ char_code shift k → a ≡ Baudot → k.0 < 32
baudot-code-in a c shift k s h e d p =
    let q = subst (λ (b : Alphabet). sends b c ≡ char_code shift k) p (sym e ∙ d) in
    (range-of Baudot c h shift k q).code-in
