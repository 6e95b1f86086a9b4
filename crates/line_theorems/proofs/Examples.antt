-- The worked examples of document 01's first group, together.
use mathlib.Core.Path.{refl}
use Rattle.alphabet.specs.Print.{left_rows, right_rows, rows, bits_from, bits}
use Rattle.alphabet.specs.TableA1.{a1}
use Rattle.alphabet.specs.TableA2.{a2}
use Rattle.alphabet.specs.Baudot.{printed_at, read_baudot, send_baudot}
use Rattle.alphabet.specs.Normal.{sends}
use Rattle.baudot.specs.Sending.{wanted, codes_for, sender_for, codes_of}
use Rattle.baudot.specs.Reading.{text_of}
use Rattle.signal.specs.Signal.{edt_elements, digits, sum}
use Rattle.line_theorems.specs.Examples.{chars, examples, Hold}

pub worked-examples : Hold examples
unfolding chars examples wanted codes_for sender_for codes_of text_of sends send_baudot read_baudot
    printed_at left_rows right_rows rows bits bits_from a1 a2 edt_elements digits sum
worked-examples = (
  (refl, refl),
  (
    (refl, refl),
    (
      (refl, refl),
      (
        (refl, refl),
        ((refl, refl), ((refl, refl), ((refl, refl), ((refl, refl), ((refl, refl), ((refl, refl), (refl, tt))))))),
      ),
    ),
  ),
)
