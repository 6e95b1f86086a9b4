-- What a ms of a model that is told can begin with and end in: views that every proof over it goes by. In them it is
-- left open when a burst begins and ends.
use Rattle.std.specs.Prelude.{Option, Some, None}
use Rattle.alphabet.specs.declared.CharCode.{CharCode}
use mathlib.Core.Path.{◌≡◌, refl, sym, subst}
use mathlib.Core.Bool.{Bool, true, false, not, ◌&&◌, true≢false, false≢true}
use mathlib.Core.List.{List, [], ◌∷◌, ◌++◌}
use Prim.Native.Nat.{ℕ}
use native.Mathlib.Omega.{arith}
use lib.Dec.{eqb, leb}
use borrow.Author.Tests.{leb-true}
use Rattle.lists.proofs.Lists.{either, either-by, and_left, and_right}
use Rattle.alphabet.specs.declared.Alphabet.{Alphabet}
use Rattle.alphabet.specs.declared.Mode.{Mode}
use Rattle.alphabet.specs.Modes.{alphabet_of}
use Rattle.alphabet.specs.Normal.{sends, is_code}
use Rattle.baudot.specs.declared.Sender.{Sender}
use Rattle.signal.specs.Signal.{preamble}
use Rattle.burst.specs.Rules.{opens_with_shift, opening_shift, shift_wanted}
use Rattle.queue.specs.Queue.{waits, waiters, all_wait}
use Rattle.queue.proofs.Laws.{waiters-wait}
use Rattle.demand3.specs.Model.{Part, Preamble, ShiftCode, OwnCode, OnLine, Idle, Sending, Model, Loaded}
use Rattle.demand3.specs.Model.{begun, loaded, shift_begins, own_begins, code_begins, front_begins, is_opening, next_code}
use Rattle.demand3.specs.Model.{closed, offered, load_by}
use Rattle.demand3.proofs.Told.{Told, offer, ms, ms_by, told_after}
use Rattle.demand3.proofs.Laws.{Waits, SenderIn, ShiftIn, LawsOf}

-- the ms that are left of what is on the line
abbrev pub left : OnLine → List ℕ
left Idle = []
left (Sending part xs) = xs

abbrev pub AllWait : Mode → List ℕ → Type 0
AllWait mode [] = Unit {0}
AllWait mode (c ∷ cs) = Waits (alphabet_of mode) c × AllWait mode cs

-- a burst begins, or what is on the line goes on
pub data Opens (mode : Mode) : OnLine → OnLine → Type 0 where
  opens : Opens mode Idle (Sending Preamble (preamble mode))
  goes_on : {on : OnLine} → Opens mode on on

-- a code begins, or what is on the line goes on
pub data Begins (mode : Mode) : List ℕ → OnLine → Sender → Loaded → Type 0 where
  stays : {waiting : List ℕ} {on : OnLine} {s : Sender} → Begins mode waiting on s (loaded waiting on s [])
  shifts : {waiting : List ℕ} {part : Part} {s : Sender} (k : ℕ) → ShiftIn (alphabet_of mode) k
      → Begins mode waiting (Sending part []) s (shift_begins mode waiting k)
  owns : (part : Part) → is_opening (alphabet_of mode) part ≡ false
      → (c : ℕ) (cs : List ℕ) (s : Sender) (w : Waits (alphabet_of mode) c)
      → eqb (shift_wanted (alphabet_of mode) s w.own) 0 ≡ true
      → Begins mode (c ∷ cs) (Sending part []) s (own_begins mode c cs s w.code)

-- the burst ends, or goes on
pub data Closes : OnLine → OnLine → Type 0 where
  closes : {part : Part} → Closes (Sending part []) Idle
  keeps : {on : OnLine} → Closes on on

begun-view : (mode : Mode) (begins : Bool) (on : OnLine) → Opens mode on (begun mode begins on)
unfolding begun
begun-view mode true Idle = opens
begun-view mode false Idle = goes_on
begun-view mode begins (Sending part xs) = goes_on

pub closed-view : (mode : Mode) (ends : Bool) (on : OnLine) → Closes on (closed mode ends on)
unfolding closed
closed-view mode ends Idle = keeps
closed-view mode ends (Sending part (x ∷ xs)) = keeps
closed-view mode ends (Sending part []) =
    let last = not (is_opening (alphabet_of mode) part) && ends in
    either (Closes (Sending part [])) last Idle (Sending part []) closes keeps

-- what each ms keeps: those that wait send something, and the sender is one that the rule can have
pub record Fine (mode : Mode) (m : Model) : Type 0 where
  pub waits : AllWait mode m.waiting
  pub sender-in : SenderIn (alphabet_of mode) m.sender

waits-append : (mode : Mode) (xs ys : List ℕ) → AllWait mode xs → AllWait mode ys → AllWait mode (xs ++ ys)
waits-append mode [] ys h k = k
waits-append mode (x ∷ xs) ys h k = (h.0, waits-append mode xs ys h.1 k)

waiter : (a : Alphabet) (c : ℕ) → waits a c ≡ true → Waits a c
waiter a c h = go (sends a c) refl (and_right (leb c 0x7f) (is_code (sends a c)) h)
  where
    go : (x : Option CharCode) → sends a c ≡ x → is_code x ≡ true → Waits a c
    go None e z = absurd (true≢false (sym z))
    go (Some o) e z =
        let l = leb-true c 0x7f (and_left (leb c 0x7f) (is_code (sends a c)) h) in
        record { char-in = omega arith; own = o.shift; code = o.code; sent = e }

all-wait : (mode : Mode) (cs : List ℕ) → all_wait (alphabet_of mode) cs ≡ true → AllWait mode cs
unfolding all_wait
all-wait mode [] h = tt
all-wait mode (c ∷ cs) h =
    let a = alphabet_of mode in
    (waiter a c (and_left (waits a c) (all_wait a cs) h), all-wait mode cs (and_right (waits a c) (all_wait a cs) h))

pub fine-offered : (mode : Mode) (cs : List ℕ) (m : Model) → Fine mode m → Fine mode (offered mode cs m)
unfolding offered
fine-offered mode cs m f =
    let ws = waiters (alphabet_of mode) cs in
    let all = all-wait mode ws (waiters-wait (alphabet_of mode) cs) in
    record { waits = waits-append mode m.waiting ws f.waits all; sender-in = f.sender-in }

opens-shift : (a : Alphabet) (part : Part) → is_opening a part ≡ true → opens_with_shift a ≡ true
opens-shift a Preamble e = e
opens-shift a ShiftCode e = absurd (false≢true e)
opens-shift a OwnCode e = absurd (false≢true e)

module _ (mode : Mode) (L : LawsOf mode) where
  abbrev a : Alphabet
  a = alphabet_of mode

  code_view : (part : Part) → is_opening a part ≡ false → (c : ℕ) (cs : List ℕ) (s : Sender) → SenderIn a s
      → (w : Waits a c) → Begins mode (c ∷ cs) (Sending part []) s (code_begins mode c cs s (sends a c))
  unfolding code_begins
  code_view part o c cs s i w =
      subst (λ (x : Option CharCode). Begins mode (c ∷ cs) (Sending part []) s (code_begins mode c cs s x)) (sym w.sent)
      (either-by (Begins mode (c ∷ cs) (Sending part []) s) (eqb (shift_wanted a s w.own) 0)
      (owns part o c cs s w) (λ e. shifts (shift_wanted a s w.own) (L.wanted-in s c w i e)))

  front-view : (waiting : List ℕ) (part : Part) → is_opening a part ≡ false → (s : Sender) → SenderIn a s
      → AllWait mode waiting → Begins mode waiting (Sending part []) s (front_begins mode waiting part s)
  front-view [] part o s i h = stays
  front-view (c ∷ cs) part o s i h = code_view part o c cs s i h.0

  next-view : (waiting : List ℕ) (on : OnLine) (s : Sender) → SenderIn a s → AllWait mode waiting
      → Begins mode waiting on s (next_code mode waiting on s)
  unfolding next_code
  next-view waiting Idle s i h = stays
  next-view waiting (Sending part (x ∷ xs)) s i h = stays
  next-view waiting (Sending part []) s i h =
      either-by (Begins mode waiting (Sending part []) s) (is_opening a part)
      (λ o. shifts (opening_shift s) (L.opening-in (opens-shift a part o) s i)) (λ o. front-view waiting part o s i h)

  fine-begins : {waiting : List ℕ} {on : OnLine} {s : Sender} {l : Loaded} → Begins mode waiting on s l
      → AllWait mode waiting → SenderIn (alphabet_of mode) s
      → AllWait mode l.waiting × SenderIn (alphabet_of mode) l.sender
  fine-begins stays h i = (h, i)
  fine-begins (shifts k r) h i = (h, L.shift_sender k r)
  fine-begins (owns part o c cs s w e) h i = (h.1, L.own_sender s c w i e)

  pub load_view : (begins : Bool) (m : Model) → Fine mode m
      → (on : OnLine) × Opens mode m.on_line on × Begins mode m.waiting on m.sender (load_by begins mode m)
  load_view begins m f =
      let on = begun mode begins m.on_line in
      (on, begun-view mode begins m.on_line, next-view m.waiting on m.sender f.sender-in f.waits)

  pub fine-ms : (begins ends : Bool) (m : Model) (x : ℕ) → Fine mode m → Fine mode (ms_by mode begins ends m x)
  unfolding ms_by
  fine-ms begins ends m x f =
      let k = fine-begins (load_view begins m f).2 f.waits f.sender-in in
      record { waits = k.0; sender-in = k.1 }

  pub fine-after : (steps : List Told) (m : Model) → Fine mode m → Fine mode (told_after mode m steps)
  unfolding told_after
  fine-after [] m f = f
  fine-after (offer cs ∷ steps) m f = fine-after steps (offered mode cs m) (fine-offered mode cs m f)
  fine-after (ms begins ends x ∷ steps) m f =
      fine-after steps (ms_by mode begins ends m x) (fine-ms begins ends m x f)
