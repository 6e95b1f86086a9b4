-- Document 01, "The station's turn": the characters that wait.
use Rattle.std.specs.Prelude.{ℕ, zero, suc, ◌+◌, ◌-◌, Bool, true, cond, ◌&&◌, List, [], ◌∷◌, leb, length, take, drop}
use Rattle.std.proofs.lemmas.List.Edits.{sets}
use Rattle.lists.specs.Lists.{written}
use Rattle.alphabet.specs.declared.Alphabet.{Alphabet}
use Rattle.alphabet.specs.Normal.{sends, is_code}

-- A station keeps up to 256 characters waiting.
abbrev pub most : ℕ
most = 256

-- Those that send nothing never wait.
abbrev pub waits : Alphabet → ℕ → Bool
waits a c = leb c 0x7f && is_code (sends a c)

-- The characters of a text that wait, in the order offered.
unfoldable pub waiters : Alphabet → List ℕ → List ℕ
waiters a [] = []
waiters a (c ∷ cs) = cond (waits a c) (c ∷ waiters a cs) (waiters a cs)

unfoldable pub all_wait : Alphabet → List ℕ → Bool
all_wait a [] = true
all_wait a (c ∷ cs) = waits a c && all_wait a cs

-- How many characters wait, and the characters, the front one first; those behind them mean nothing.
pub record Queue : Type 0 where
  pub waiting : ℕ
  pub chars : List ℕ

abbrev pub queue : ℕ → List ℕ → Queue
queue n chars = record { waiting = n; chars = chars }

-- Those waiting in it.
abbrev pub waiting_of : Queue → List ℕ
waiting_of q = take q.waiting q.chars

-- Question 1: waiting at most 256, and each a character that sends something.
unfoldable pub in_range : Alphabet → Queue → Bool
in_range a q = leb q.waiting most && all_wait a (waiting_of q)

-- Question 4: is there space for all that send something?
unfoldable pub room : Alphabet → Queue → List ℕ → Bool
room a q text = leb (q.waiting + length (waiters a text)) most

-- An offer puts them behind those waiting, in the order offered.
unfoldable pub offered : Alphabet → Queue → List ℕ → Queue
offered a q text = queue (q.waiting + length (waiters a text)) (sets q.chars q.waiting (waiters a text))

-- The one in front is taken first: the others move up one place.
abbrev pub moved : List ℕ → List ℕ
moved chars = written (drop 1 chars) chars

-- The characters after so many are taken.
unfoldable pub moved_by : ℕ → List ℕ → List ℕ
moved_by zero chars = chars
moved_by (suc n) chars = moved (moved_by n chars)

unfoldable pub taken : Queue → Queue
taken q = queue (q.waiting - 1) (moved q.chars)
