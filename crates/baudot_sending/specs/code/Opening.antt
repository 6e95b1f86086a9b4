-- Where the code takes a text up: a fresh sender's first shift code, ahead of the first character that sends anything.
use Rattle.std.specs.Prelude.{◌≡◌, true, cond, List, [], ◌∷◌, ◌++◌, ℕ, ◌≤◌, ◌<◌, eqb, length, get_or, drop}
use Rattle.alphabet.specs.declared.Alphabet.TheVariants.{Baudot}
use Rattle.alphabet.specs.Baudot.{letters_code}
use Rattle.alphabet.specs.Normal.{sends, is_code}
use Rattle.baudot.specs.declared.Sender.{Sender}
use Rattle.baudot_sending.specs.declared.Placed.{Placed}
use Rattle.baudot.specs.Sending.{codes_of, sender_after, Running}

-- The characters of a text ahead of the place n send nothing, and the one there sends a code.
pub record Silent (text : List ℕ) (n : ℕ) : Type 0 where
  pub within : n ≤ length text
  pub same_codes : (s : Sender) → codes_of s text ≡ codes_of s (drop n text)
  pub same_sender : (s : Sender) → sender_after s text ≡ sender_after s (drop n text)
  pub then_code : n < length text → is_code (sends Baudot (get_or text n 0)) ≡ true

abbrev pub opening_codes : ℕ → List ℕ
opening_codes n = cond (eqb n 0) [] (letters_code ∷ [])

-- What is left to be sent of a text by a sender: the rest, by the sender p from its place on.
pub record Opened (text : List ℕ) (s : Sender) (rest : List ℕ) (p : Placed) : Type 0 where
  pub at_in : p.at ≤ 1
  pub shorter : length rest ≤ length text
  pub running : 0 < length rest → Running p.sender
  pub codes-are : codes_of s text ≡ opening_codes p.at ++ codes_of p.sender rest
  pub sender-is : sender_after s text ≡ sender_after p.sender rest
