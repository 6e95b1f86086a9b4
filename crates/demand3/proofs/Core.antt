-- THE CORE OF DEMAND 3: after an idle period (there: a rest) a reader reads what a model takes that is told, ms by ms,
-- when a burst begins and ends, whoever tells it.
use Rattle.std.specs.Prelude.{Option, Some, None}
use Rattle.alphabet.specs.declared.CharCode.{CharCode}
use mathlib.Core.Path.{◌≡◌, ◌∙◌, refl, sym, ap, subst}
use mathlib.Core.Bool.{Bool, true, false, cond, true≢false}
use mathlib.Core.Logic.{inl}
use mathlib.Core.List.{List, [], ◌∷◌, ◌++◌}
use Prim.Native.Nat.{ℕ, zero, suc, ◌<◌, ◌≤◌}
use native.Mathlib.Omega.{arith}
use lib.ListN.{length, take, drop, replicate}
use lib.Seq.{take_at, drop_at}
use borrow.Author.Tests.{le-leb}
use Rattle.lists.specs.Lists.{all_at_most}
use Rattle.lists.specs.Steps.{state_after, outputs}
use Rattle.lists.proofs.Lists.{at-most-head, at-most-tail, at-most-append, at-most-behind}
use Rattle.alphabet.specs.declared.Alphabet.{Alphabet}
use Rattle.alphabet.specs.declared.Mode.{Mode}
use Rattle.alphabet.specs.declared.Mode.TheVariants.{Baudot45, Baudot50, Dtmf, Edt}
use Rattle.alphabet.specs.Modes.{alphabet_of}
use Rattle.alphabet.specs.Normal.{sends, normal, normal_form, all_chars}
use Rattle.alphabet_theorems.proofs.Normal.{normal-code}
use Rattle.alphabet_theorems.proofs.Rule.{rule-of}
use Rattle.baudot.specs.declared.Sender.{Sender}
use Rattle.reader.specs.declared.Event.{Event}
use Rattle.reader.specs.declared.Event.TheVariants.{Nothing as nothing}
use Rattle.reader.specs.declared.Reader.{Reader}
use Rattle.reader.specs.Reader.{hear, inhibited}
use Rattle.reader.specs.code.Bounds.{ReaderIn}
use Rattle.reader.specs.Words.{words_of, events, words}
use Rattle.line_theorems.specs.Silence.{silent_all, Settled}
use Rattle.line_theorems.proofs.Silence.{settles}
use Rattle.demand3.specs.Model.{OnLine, Idle, Sending, Model, Loaded, Did, fresh_model, offered, load_by}
use Rattle.demand3.specs.Model.{level_on, in_burst, one_gone, closed, sent_in, taken_in}
use Rattle.demand3.specs.Reading.{at_once, most_before, until_synchronized, synchronized_after, NoBurst, EndsIdle}
use Rattle.demand3.proofs.Told.{Told, offer, ms, did_by, ms_by, told_after, told_does, told_heard, told_ms}
use Rattle.demand3.proofs.Cuts.{behind, sent-append, does-length, Cut, cut-after, does-cut}
use Rattle.demand3.proofs.Laws.{SenderIn, LawsOf, laws}
use Rattle.demand3.proofs.Views.{left, Begins, stays, shifts, owns, Fine, fine-offered, fine-ms, fine-after}
use Rattle.demand3.proofs.Views.{load_view}
use Rattle.demand3.proofs.Following.{follows, follows-after}
use Rattle.demand3.proofs.Bound.{ShiftFirst, bound}

-- ---- the statement

-- What each ms ends in for a reader that is inhibited in the first n of them.
unfoldable pub events_inhibited : Mode → ℕ → Reader → List ℕ → List Event
events_inhibited mode n r [] = []
events_inhibited mode zero r (x ∷ xs) = (hear mode r x).event ∷ events_inhibited mode zero (hear mode r x).reader xs
events_inhibited mode (suc n) r (x ∷ xs) = nothing ∷ events_inhibited mode n (inhibited r) xs

-- The premises. A's model is fresh at first; `past` may be anything; in the first 40 ms of `on`, the last of an idle
-- period, it is in no burst. The reader is in range at the first of them, whatever it heard before, and is inhibited in
-- the first n of them, if at all. (That A was in no burst in the 260 ms before them, too, is not needed here: B's own
-- inhibited ms run out in them.)
pub record AfterIdle (mode : Mode) (past on : List Told) (r : Reader) (n : ℕ) : Type 0 where
  pub forty_ms : 40 ≤ told_ms on
  pub idle : NoBurst (take 40 (told_does mode (told_after mode fresh_model past) on))
  pub reader-in : ReaderIn mode r
  pub inhibited-in : n ≤ 40

-- What A did in the ms that follow, and what those ms end in for a reader that hears them, up to a ms that is asked
-- about.
pub record Reads (mode : Mode) (ds : List Did) (es : List Event) : Type 0 where
  -- at most 0, 1, 0 characters are taken up to the synchronizing code's last ms, or so far while none has ended; in
  -- Baudot that code is a shift code
  pub before : length (taken_in (take (synchronized_after mode ds) ds)) ≤ most_before (alphabet_of mode)
  pub shift_first : ShiftFirst mode ds
  -- in no burst, the words after that ms are those of the normal form of the characters taken after it, in order
  pub text : EndsIdle ds
      → words_of (drop (synchronized_after mode ds) es)
      ≡ normal_form (alphabet_of mode) (taken_in (drop (synchronized_after mode ds) ds))
  -- and no fault is among them: each is a character
  pub no_fault : EndsIdle ds → all_chars (words_of (drop (synchronized_after mode ds) es)) ≡ true

-- The reader hears all that A sends from the first of the 40 ms on. `on` is any list of steps, so it ends in any later
-- ms.
abbrev pub ReadsAfterIdle : Mode → Type 0
ReadsAfterIdle mode = (past on : List Told) (r : Reader) (n : ℕ) → AfterIdle mode past on r n
    → let ds = told_does mode (told_after mode fresh_model past) on in
    Reads mode (drop 40 ds) (drop 40 (events_inhibited mode n r (sent_in ds)))

-- ---- ms in no burst

idle-of : (on : OnLine) → in_burst on ≡ false → on ≡ Idle
idle-of Idle e = refl
idle-of (Sending part xs) e = absurd (true≢false e)

-- if the last ms has no burst, there is none after it
ends-tail : (d : Did) (ds : List Did) → EndsIdle (d ∷ ds) → EndsIdle ds
unfolding EndsIdle
ends-tail d [] h = tt
ends-tail d (e ∷ ds) h = h

no-burst-ends : (ds : List Did) → NoBurst ds → EndsIdle ds
unfolding NoBurst EndsIdle
no-burst-ends [] h = tt
no-burst-ends (d ∷ []) h = h.0
no-burst-ends (d ∷ (e ∷ ds)) h = no-burst-ends (e ∷ ds) h.1

module _ (mode : Mode) where
  module _ (begins : Bool) (m : Model) (e : (did_by mode begins m).burst ≡ false) where
    ms-idle : (ends : Bool) (x : ℕ) → (ms_by mode begins ends m x).on_line ≡ Idle
    unfolding did_by ms_by one_gone closed
    ms-idle ends x = ap (λ (on : OnLine). closed mode ends (one_gone on)) (idle-of (load_by begins mode m).on_line e)

    ms-quiet : (did_by mode begins m).sent ≡ 0
    unfolding did_by level_on
    ms-quiet = ap level_on (idle-of (load_by begins mode m).on_line e)

  idle-after : (steps : List Told) (m : Model) → (told_does mode m steps ≡ [] → m.on_line ≡ Idle)
      → EndsIdle (told_does mode m steps) → (told_after mode m steps).on_line ≡ Idle
  unfolding told_after told_does offered EndsIdle
  idle-after [] m i h = i refl
  idle-after (offer cs ∷ steps) m i h = idle-after steps (offered mode cs m) i h
  idle-after (ms begins ends x ∷ steps) m i h =
      let d = did_by mode begins m in
      let m' = ms_by mode begins ends m x in
      idle-after steps m' (λ e. ms-idle begins m (subst (λ (ds : List Did). EndsIdle (d ∷ ds)) e h) ends x)
      (ends-tail d (told_does mode m' steps) h)

  -- quiet is sent
  all_quiet : (steps : List Told) (m : Model) → NoBurst (told_does mode m steps)
      → sent_in (told_does mode m steps) ≡ replicate (told_ms steps) 0
  unfolding told_does told_heard NoBurst
  all_quiet [] m h = refl
  all_quiet (offer cs ∷ steps) m h = all_quiet steps (offered mode cs m) h
  all_quiet (ms begins ends x ∷ steps) m h =
      λ i. ms-quiet begins m h.0 i ∷ all_quiet steps (ms_by mode begins ends m x) h.1 i

  -- a reader that is not inhibited
  none-inhibited : (xs : List ℕ) (r : Reader) → events_inhibited mode zero r xs ≡ events mode r xs
  unfolding events_inhibited outputs
  none-inhibited [] r = refl
  none-inhibited (x ∷ xs) r = behind (none-inhibited xs (hear mode r x).reader)

  -- quiet ms, the first n of them inhibited, and then others
  quiet-silent : (k n : ℕ) (r : Reader) (xs : List ℕ) → n ≤ k
      → (bs : List Bool) × (length bs ≡ k)
      × (drop k (events_inhibited mode n r (replicate k 0 ++ xs)) ≡ events mode (silent_all mode r bs) xs)
  unfolding events_inhibited silent_all
  quiet-silent zero zero r xs h = ([], refl, none-inhibited xs r)
  quiet-silent zero (suc n) r xs h = absurd (omega arith)
  quiet-silent (suc k) zero r xs h =
      let i = quiet-silent k zero (hear mode r 0).reader xs (omega arith) in
      (false ∷ i.0, ap suc i.1, i.2)
  quiet-silent (suc k) (suc n) r xs h =
      let i = quiet-silent k n (inhibited r) xs (omega arith) in
      (true ∷ i.0, ap suc i.1, i.2)

-- ---- what is taken are characters, and so are their normal forms

one_char : (c : ℕ) → c < 128 → all_chars (c ∷ []) ≡ true
unfolding all_at_most
one_char c h = rw (le-leb c 0x7f (omega arith)) refl

normal-chars : (a : Alphabet) (c : ℕ) → c < 128 → all_chars (normal a c) ≡ true
unfolding all_at_most
normal-chars a c h = go (sends a c) refl
  where
    go : (x : Option CharCode) → sends a c ≡ x → all_chars (normal a c) ≡ true
    go None e = simp e
    go (Some o) e = rw (normal-code a c h o.shift o.code e) (one_char _ (rule-of a c h o.shift o.code e).char-in)

normal-form-chars : (a : Alphabet) (cs : List ℕ) → all_chars cs ≡ true → all_chars (normal_form a cs) ≡ true
unfolding normal_form all_at_most
normal-form-chars a [] t = refl
normal-form-chars a (c ∷ cs) t =
    let h = at-most-head 0x7f c cs t in
    at-most-append 0x7f (normal a c) (normal_form a cs) (normal-chars a c (omega arith))
    (normal-form-chars a cs (at-most-tail 0x7f c cs t))

taken-drop : (k : ℕ) (ds : List Did) → all_chars (taken_in ds) ≡ true → all_chars (taken_in (drop k ds)) ≡ true
unfolding taken_in
taken-drop zero ds t = t
taken-drop (suc k) [] t = t
taken-drop (suc k) (d ∷ ds) t = taken-drop k ds (at-most-behind 0x7f d.taken (taken_in ds) t)

module _ (mode : Mode) (L : LawsOf mode) where
  begins-chars : {waiting : List ℕ} {on : OnLine} {s : Sender} {l : Loaded} → Begins mode waiting on s l
      → all_chars l.taken ≡ true
  unfolding all_at_most
  begins-chars stays = refl
  begins-chars (shifts k i) = refl
  begins-chars (owns part o c cs s w e) = one_char c w.char-in

  taken-chars : (steps : List Told) (m : Model) → Fine mode m → all_chars (taken_in (told_does mode m steps)) ≡ true
  unfolding told_does did_by taken_in all_at_most
  taken-chars [] m f = refl
  taken-chars (offer cs ∷ steps) m f = taken-chars steps (offered mode cs m) (fine-offered mode cs m f)
  taken-chars (ms begins ends x ∷ steps) m f =
      at-most-append 0x7f (load_by begins mode m).taken _ (begins-chars (load_view mode L begins m f).2)
      (taken-chars steps (ms_by mode begins ends m x) (fine-ms mode L begins ends m x f))

  -- ---- from a model in no burst and a reader between codes on
  module _ (next : List Told) (m : Model) (r : Reader)
      (f : Fine mode m) (idle : m.on_line ≡ Idle) (between : Settled mode r) where
    abbrev a : Alphabet
    a = alphabet_of mode

    abbrev ds : List Did
    ds = told_does mode m next

    ends : EndsIdle ds → (told_after mode m next).on_line ≡ Idle
    ends z = idle-after mode next m (λ _. idle) z

    text-by : (b : Bool) → at_once a ≡ b → EndsIdle ds
        → let k = cond b 0 (until_synchronized mode ds) in
        words_of (drop k (events mode r (sent_in ds))) ≡ normal_form a (taken_in (drop k ds))
    unfolding state_after outputs words_of
    text-by true e z =
        follows mode L next m r f (rw idle (L.at_once-law e m.sender r between)) (ends z)
        ∙ ap (λ (on : OnLine). words mode r (left on) ++ normal_form a (taken_in ds)) idle
    text-by false e z = follows-after mode L e next m r f (rw idle (record { between = between; due = tt })) (ends z)

    before-by : (b : Bool) → at_once a ≡ b
        → (length (taken_in (take (cond b 0 (until_synchronized mode ds)) ds)) ≤ most_before a) × ShiftFirst mode ds
    unfolding taken_in
    before-by true e = (omega arith, λ t. absurd (true≢false (sym e ∙ ap at_once t)))
    before-by false e = bound mode L e next m (most_before a) f (rw idle (omega arith))

    reads : Reads mode ds (events mode r (sent_in ds))
    reads =
        let w = text-by (at_once a) refl in
        let k = synchronized_after mode ds in
        let chars = normal-form-chars a (taken_in (drop k ds)) (taken-drop k ds (taken-chars next m f)) in
        let early = before-by (at_once a) refl in
        record { before = early.0; shift_first = early.1; text = w; no_fault = λ z. rw (w z) chars }

-- ---- from a fresh model on

fresh-sender : (mode : Mode) → SenderIn (alphabet_of mode) fresh_model.sender
fresh-sender Baudot45 = inl refl
fresh-sender Baudot50 = inl refl
fresh-sender Dtmf = tt
fresh-sender Edt = tt

fresh-fine : (mode : Mode) → Fine mode fresh_model
fresh-fine mode = record { waits = tt; sender-in = fresh-sender mode }

module _ (mode : Mode) (past on : List Told) (r : Reader) (n : ℕ) (p : AfterIdle mode past on r n) (c : Cut 40 on) where
  abbrev m : Model
  m = told_after mode fresh_model past

  abbrev m' : Model
  m' = told_after mode m c.front

  abbrev forty : List Did
  forty = told_does mode m c.front

  abbrev next : List Did
  next = told_does mode m' c.back

  on-is : told_does mode m on ≡ forty ++ next
  on-is = does-cut mode c m

  forty-length : length forty ≡ 40
  forty-length = does-length mode c.front m ∙ c.front-ms

  idle-forty : NoBurst forty
  idle-forty = subst NoBurst (ap (take 40) on-is ∙ take_at forty next 40 forty-length) p.idle

  -- 40 quiet ms are sent, and then those that follow; there is no burst between them
  sent_is : sent_in (told_does mode m on) ≡ replicate 40 0 ++ sent_in next
  sent_is =
      let quiets = all_quiet mode c.front m idle-forty ∙ ap (λ (i : ℕ). replicate {A = ℕ} i 0) c.front-ms in
      ap sent_in on-is ∙ sent-append forty next ∙ ap (λ (l : List ℕ). l ++ sent_in next) quiets

  idle_then : m'.on_line ≡ Idle
  idle_then =
      let some = forty-length in
      idle-after mode c.front m (λ e. let z = ap length e in absurd (omega arith)) (no-burst-ends forty idle-forty)

  reads-cut : let ds = told_does mode m on in Reads mode (drop 40 ds) (drop 40 (events_inhibited mode n r (sent_in ds)))
  reads-cut =
      let L = laws mode in
      let f = fine-after mode L c.front m (fine-after mode L past fresh_model (fresh-fine mode)) in
      let b = quiet-silent mode 40 n r (sent_in next) p.inhibited-in in
      let next-is = ap (drop 40) on-is ∙ drop_at forty next 40 forty-length in
      let heard-is = ap (λ (l : List ℕ). drop 40 (events_inhibited mode n r l)) sent_is ∙ b.2 in
      rw (next-is, heard-is)
      (reads mode L c.back m' (silent_all mode r b.0) f idle_then (settles mode r p.reader-in b.0 b.1))

pub reads-after-idle : (mode : Mode) → ReadsAfterIdle mode
reads-after-idle mode past on r n p = reads-cut mode past on r n p (cut-after 40 on p.forty_ms)
