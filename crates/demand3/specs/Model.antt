-- Document 01, "Demand 3 is a single claim": the send model (there: a station's book), ms by ms. It is kept from offers
-- that succeed and heard ms alone, and never looks at a station.
use Rattle.std.specs.Prelude.{Option, Some, None}
use Rattle.alphabet.specs.declared.CharCode.{CharCode}
use Rattle.std.specs.Prelude.{ℕ, suc, ◌≡◌, Bool, true, false, cond, not, ◌&&◌, List, [], ◌∷◌, ◌++◌, map, eqb, length}
use Rattle.alphabet.specs.declared.Alphabet.{Alphabet}
use Rattle.alphabet.specs.declared.LineCode.{LineCode}
use Rattle.alphabet.specs.declared.Mode.{Mode}
use Rattle.alphabet.specs.Modes.{alphabet_of}
use Rattle.alphabet.specs.Normal.{sends}
use Rattle.baudot.specs.declared.Sender.{Sender}
use Rattle.baudot.specs.Sending.{sender, fresh, shift_code}
use Rattle.signal.specs.Signal.{quiet, signal, preamble}
use Rattle.burst.specs.Rules.{free_ms, may_begin, may_end, opens_with_shift, opening_shift, shift_wanted, sender_after_own}
use Rattle.burst.specs.Rules.{is_inhibited, inhibited_after, is_silent}
use Rattle.queue.specs.Queue.{waiters}

-- What is on the line in a burst: the preamble (there: lead), a shift code (there: case code), a character's own code.
pub data Part : Type 0 where
  Preamble ShiftCode OwnCode : Part

-- In no burst; or in one, with the part on the line and the ms of it that are left.
pub data OnLine : Type 0 where
  Idle : OnLine
  Sending : Part → List ℕ → OnLine

-- The characters that wait, front first; what is on the line; the sender; the ms of silence in a row; the inhibited ms
-- that are still to come after a burst.
pub record Model : Type 0 where
  pub waiting : List ℕ
  pub on_line : OnLine
  pub sender : Sender
  pub silence : ℕ
  pub inhibited_ms : ℕ

-- It starts with none waiting, no burst, a fresh sender and 300 ms of silence.
abbrev pub fresh_model : Model
fresh_model = record { waiting = []; on_line = Idle; sender = fresh; silence = free_ms; inhibited_ms = 0 }

-- An offer that succeeds puts those that send something behind those waiting; the others never wait.
unfoldable pub offered : Mode → List ℕ → Model → Model
offered mode cs m = record {
  waiting = m.waiting ++ waiters (alphabet_of mode) cs;
  on_line = m.on_line;
  sender = m.sender;
  silence = m.silence;
  inhibited_ms = m.inhibited_ms;
}

-- In no burst, one begins with its preamble where it is to begin.
unfoldable pub begun : Mode → Bool → OnLine → OnLine
begun mode begins Idle = cond begins (Sending Preamble (preamble mode)) Idle
begun mode begins (Sending part left) = Sending part left

-- What a ms starts with: those waiting, what is on the line, the sender, and what is taken.
pub record Loaded : Type 0 where
  pub waiting : List ℕ
  pub on_line : OnLine
  pub sender : Sender
  pub taken : List ℕ

abbrev pub loaded : List ℕ → OnLine → Sender → List ℕ → Loaded
loaded waiting on s taken = record { waiting = waiting; on_line = on; sender = s; taken = taken }

-- A shift code takes no character, and the count starts again at it; an own code takes its own.
abbrev pub shift_begins : Mode → List ℕ → ℕ → Loaded
shift_begins mode waiting w = loaded waiting (Sending ShiftCode (signal mode (shift_code w))) (sender w 0) []

abbrev pub own_begins : Mode → ℕ → List ℕ → Sender → LineCode → Loaded
own_begins mode c cs s k = loaded cs (Sending OwnCode (signal mode k.0)) (sender_after_own (alphabet_of mode) s)
    (c ∷ [])

-- The front character is next: a shift code where one is wanted ahead of it, else its own code. (A character that sends
-- nothing never waits.)
unfoldable pub code_begins : Mode → ℕ → List ℕ → Sender → Option CharCode → Loaded
code_begins mode c cs s None = loaded cs (Sending OwnCode []) s (c ∷ [])
code_begins mode c cs s (Some o) =
    let w = shift_wanted (alphabet_of mode) s o.shift in
    cond (eqb w 0) (own_begins mode c cs s o.code) (shift_begins mode (c ∷ cs) w)

-- The next code for those that wait, behind a part; none if none waits.
abbrev pub front_begins : Mode → List ℕ → Part → Sender → Loaded
front_begins mode [] part s = loaded [] (Sending part []) s []
front_begins mode (c ∷ cs) part s = code_begins mode c cs s (sends (alphabet_of mode) c)

-- Document 02, #101: a shift code is to open the burst behind this part.
abbrev pub is_opening : Alphabet → Part → Bool
is_opening a Preamble = opens_with_shift a
is_opening a ShiftCode = false
is_opening a OwnCode = false

-- In a burst with no ms of a part left, the next code begins in that ms: the one that opens the burst, or the next for
-- those that wait.
unfoldable pub next_code : Mode → List ℕ → OnLine → Sender → Loaded
next_code mode waiting Idle s = loaded waiting Idle s []
next_code mode waiting (Sending part (x ∷ left)) s = loaded waiting (Sending part (x ∷ left)) s []
next_code mode waiting (Sending part []) s =
    cond (is_opening (alphabet_of mode) part) (shift_begins mode waiting (opening_shift s))
    (front_begins mode waiting part s)

-- A ms is told when a burst begins and ends: `begins`, one is to begin now if there is none; `ends`, this one is to end
-- with this code. Within each ms, sending is settled first.
abbrev pub load_by : Bool → Mode → Model → Loaded
load_by begins mode m = next_code mode m.waiting (begun mode begins m.on_line) m.sender

-- The level that is sent: quiet outside a burst.
unfoldable pub level_on : OnLine → ℕ
level_on Idle = quiet
level_on (Sending part []) = quiet
level_on (Sending part (x ∷ left)) = x

abbrev pub in_burst : OnLine → Bool
in_burst Idle = false
in_burst (Sending part left) = true

-- One ms of it has gone.
unfoldable pub one_gone : OnLine → OnLine
one_gone Idle = Idle
one_gone (Sending part []) = Sending part []
one_gone (Sending part (x ∷ left)) = Sending part left

-- The part that has no ms left, if one is on the line.
unfoldable pub ended : OnLine → List Part
ended Idle = []
ended (Sending part []) = part ∷ []
ended (Sending part (x ∷ left)) = []

-- If a code's last ms has come, the burst ends with that ms where it is to end. (It never ends with a preamble's: a
-- shift code is to open it, or characters wait, `preamble-waits` in proofs/Opening.antt.)
unfoldable pub closed : Mode → Bool → OnLine → OnLine
closed mode ends Idle = Idle
closed mode ends (Sending part []) = cond (not (is_opening (alphabet_of mode) part) && ends) Idle (Sending part [])
closed mode ends (Sending part (x ∷ left)) = Sending part (x ∷ left)

-- Then silence grows by that ms if it was heard as 0 or is inhibited; otherwise it is 0 again.
abbrev pub silence_after : Bool → ℕ → ℕ
silence_after silent silence = cond silent (suc silence) 0

-- What a ms does: the level sent, whether in a burst, the character taken, the part that ended with it.
pub record Did : Type 0 where
  pub sent : ℕ
  pub burst : Bool
  pub taken : List ℕ
  pub ended : List Part

-- By what the ms starts with: what it does, whether the receiver is inhibited in it, and the model after it.
abbrev pub did_from : Loaded → Did
did_from l = record {
  sent = level_on l.on_line;
  burst = in_burst l.on_line;
  taken = l.taken;
  ended = ended (one_gone l.on_line);
}

abbrev pub inhibited_from : Model → Loaded → Bool
inhibited_from m l = is_inhibited (in_burst l.on_line) m.inhibited_ms

abbrev pub model_from : Mode → Bool → Model → Loaded → ℕ → Model
model_from mode ends m l heard = record {
  waiting = l.waiting;
  on_line = closed mode ends (one_gone l.on_line);
  sender = l.sender;
  silence = silence_after (is_silent (inhibited_from m l) heard) m.silence;
  inhibited_ms = inhibited_after (in_burst l.on_line) m.inhibited_ms;
}

-- A station by itself: a burst begins with characters waiting and at least 300 ms of silence, and ends if none waits.
abbrev pub begins_in : Model → Bool
begins_in m = may_begin (length m.waiting) m.silence

unfoldable pub load : Mode → Model → Loaded
load mode m = load_by (begins_in m) mode m

abbrev pub ends_in : Mode → Model → Bool
ends_in mode m = may_end (length (load mode m).waiting)

-- What its ms does, and its model after it.
unfoldable pub did : Mode → Model → Did
did mode m = did_from (load mode m)

unfoldable pub ms_after : Mode → Model → ℕ → Model
ms_after mode m heard = model_from mode (ends_in mode m) m (load mode m) heard

-- What a model is kept from: an offer that succeeds, and a ms with the level heard.
pub data Step : Type 0 where
  Offer : List ℕ → Step
  Ms : ℕ → Step

-- The model after some steps, and what each of their ms does.
unfoldable pub model_after : Mode → Model → List Step → Model
model_after mode m [] = m
model_after mode m (Offer cs ∷ steps) = model_after mode (offered mode cs m) steps
model_after mode m (Ms heard ∷ steps) = model_after mode (ms_after mode m heard) steps

unfoldable pub does : Mode → Model → List Step → List Did
does mode m [] = []
does mode m (Offer cs ∷ steps) = does mode (offered mode cs m) steps
does mode m (Ms heard ∷ steps) = did mode m ∷ does mode (ms_after mode m heard) steps

-- The levels heard in some steps.
unfoldable pub heard_in : List Step → List ℕ
heard_in [] = []
heard_in (Offer cs ∷ steps) = heard_in steps
heard_in (Ms heard ∷ steps) = heard ∷ heard_in steps

-- How many ms there are in them.
abbrev pub ms_in : List Step → ℕ
ms_in steps = length (heard_in steps)

-- No offer that holds a character succeeds.
unfoldable pub OffersNone : List Step → Type 0
OffersNone [] = Unit {0}
OffersNone (Offer cs ∷ steps) = (cs ≡ []) × OffersNone steps
OffersNone (Ms heard ∷ steps) = OffersNone steps

-- The levels sent and the characters taken in some ms, in order.
abbrev pub sent_in : List Did → List ℕ
sent_in ds = map (λ (d : Did). d.sent) ds

unfoldable pub taken_in : List Did → List ℕ
taken_in [] = []
taken_in (d ∷ ds) = d.taken ++ taken_in ds
