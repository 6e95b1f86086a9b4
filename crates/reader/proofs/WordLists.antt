-- The numbers of the causes, and the words of what some ms end in.
use mathlib.Core.Path.{◌≡◌, ◌∙◌, refl, sym, ap}
use mathlib.Core.List.{List, [], ◌∷◌, ◌++◌, append_assoc}
use Prim.Native.Nat.{ℕ, ◌≤◌, ◌<◌}
use native.Mathlib.Omega.{arith}
use lib.ListN.{length}
use Rattle.frames.specs.declared.Cause.{Cause}
use Rattle.frames.specs.declared.Cause.TheVariants.{Quiet, StopNotMark, OddParity, NoRow, LetterKey}
use Rattle.reader.specs.declared.Event.{Event}
use Rattle.reader.specs.declared.Event.TheVariants.{Character, Fault, Nothing}
use Rattle.reader.specs.Words.{cause_number, word_of, words_of}

-- a cause is a number of four bits
pub cause-few : (c : Cause) → cause_number c < 16
cause-few Quiet = omega arith
cause-few StopNotMark = omega arith
cause-few OddParity = omega arith
cause-few NoRow = omega arith
cause-few LetterKey = omega arith

-- at most one a ms
pub one_word : (e : Event) → length (word_of e) ≤ 1
one_word (Character c) = omega arith
one_word (Fault cause ms) = omega arith
one_word Nothing = omega arith

-- and then those of others
pub words_append : (es fs : List Event) → words_of (es ++ fs) ≡ words_of es ++ words_of fs
unfolding words_of
words_append [] fs = refl
words_append (e ∷ es) fs =
    ap (λ (l : List ℕ). word_of e ++ l) (words_append es fs) ∙ sym
    (append_assoc (word_of e) (words_of es) (words_of fs))
