-- What a reader makes of what a model sends that is told when a burst begins and ends, ms by ms: once it is
-- synchronized, and before.
use mathlib.Core.Path.{◌≡◌, ◌∙◌, refl, sym, ap, subst}
use mathlib.Core.Bool.{Bool, true, false, cond, false≢true}
use mathlib.Core.List.{List, [], ◌∷◌, ◌++◌, append-nil, append_assoc}
use Prim.Native.Nat.{ℕ, suc}
use lib.ListN.{drop}
use Rattle.lists.specs.Steps.{state_after, outputs}
use Rattle.lists.proofs.Lists.{by-test}
use Rattle.alphabet.specs.declared.Mode.{Mode}
use Rattle.alphabet.specs.Modes.{alphabet_of}
use Rattle.alphabet.specs.Normal.{normal, normal_form}
use Rattle.alphabet_theorems.proofs.Normal.{normal-append}
use Rattle.baudot.specs.declared.Sender.{Sender}
use Rattle.signal.specs.Signal.{signal}
use Rattle.burst.specs.Rules.{sender_after_own}
use Rattle.reader.specs.declared.Event.{Event}
use Rattle.reader.specs.declared.Reader.{Reader}
use Rattle.reader.specs.Reader.{hear}
use Rattle.reader.specs.Words.{word_of, words_of, reader_after, events, words}
use Rattle.line_theorems.specs.Silence.{Settled}
use Rattle.demand3.specs.Model.{OwnCode, OnLine, Idle, Sending, Model, Loaded, Did, offered, load_by}
use Rattle.demand3.specs.Model.{level_on, one_gone, ended, sent_in, taken_in}
use Rattle.demand3.specs.Reading.{synchronizes, at_once, ends_synchronizing, until_synchronized}
use Rattle.demand3.proofs.Told.{Told, offer, ms, did_by, ms_by, told_after, told_does}
use Rattle.demand3.proofs.Laws.{Synchronized, OwnFirst, LawsOf}
use Rattle.demand3.proofs.Views.{left, Opens, opens, goes_on, Begins, stays, shifts, owns, Closes, closes, keeps}
use Rattle.demand3.proofs.Views.{closed-view, Fine, fine-offered, fine-ms, load_view}

closes-left : {on on' : OnLine} → Closes on on' → left on' ≡ left on
closes-left closes = refl
closes-left keeps = refl

module _ (mode : Mode) (L : LawsOf mode) where
  -- the reader is synchronized with the sender
  abbrev InStep : Sender → Reader → Type 0
  InStep s r = Synchronized (alphabet_of mode) s r

  -- after the ms that are left, the reader is synchronized
  abbrev After : Sender → Reader → OnLine → Type 0
  After s r on = InStep s (reader_after mode r (left on))

  abbrev normals : List ℕ → List ℕ
  normals cs = normal_form (alphabet_of mode) cs

  -- the reader after a level, and the words that it ends in
  abbrev next : Reader → ℕ → Reader
  next r x = (hear mode r x).reader

  abbrev words_in : Reader → ℕ → List ℕ
  words_in r x = word_of (hear mode r x).event

  quiet_is : (r : Reader) → Settled mode r → next r 0 ≡ r
  unfolding state_after
  quiet_is r h = (L.quiet_passes r h).after

  quiet_word : (r : Reader) → Settled mode r → words_in r 0 ≡ []
  unfolding outputs words_of
  quiet_word r h = sym (append-nil (words_in r 0)) ∙ (L.quiet_passes r h).heard

  -- a burst begins
  opens-after : {on on' : OnLine} (s : Sender) (r : Reader) → Opens mode on on' → After s r on
      → After s r on' × (words mode r (left on') ≡ words mode r (left on))
  unfolding state_after outputs words_of
  opens-after s r opens h =
      let g = L.preamble_passes r (L.between s r h) in
      (subst (InStep s) (sym g.after) h, g.heard)
  opens-after s r goes_on h = (h, refl)

  -- a code begins: with what it takes, the words are those of what was taken
  begins-after : {waiting : List ℕ} {on : OnLine} {s : Sender} {l : Loaded} (r : Reader) → Begins mode waiting on s l
      → After s r on
      → After l.sender r l.on_line
      × (words mode r (left l.on_line) ≡ words mode r (left on) ++ normals l.taken)
  unfolding state_after outputs words_of normal_form
  begins-after r stays h = (h, sym (append-nil _))
  begins-after {s = s} r (shifts k q) h =
      let g = L.shift_law k q r (L.between s r h) in
      (g.after, g.heard)
  begins-after r (owns part o c cs s w e) h =
      let g = L.own_law s c w e r h in
      (g.after, g.heard ∙ sym (append-nil (normal (alphabet_of mode) c)))

  -- a ms goes
  Gone : Sender → Reader → OnLine → Type 0
  Gone s r on =
      let q = next r (level_on on) in
      After s q (one_gone on) × (words_in r (level_on on) ++ words mode q (left (one_gone on)) ≡ words mode r (left on))

  quiet-goes : (s : Sender) (r : Reader) → InStep s r → InStep s (next r 0) × (words_in r 0 ++ [] ≡ [])
  quiet-goes s r h =
      let b = L.between s r h in
      (subst (InStep s) (sym (quiet_is r b)) h, append-nil _ ∙ quiet_word r b)

  gone-after : (s : Sender) (r : Reader) (on : OnLine) → After s r on → Gone s r on
  unfolding Gone state_after outputs words_of level_on one_gone
  gone-after s r Idle h = quiet-goes s r h
  gone-after s r (Sending part []) h = quiet-goes s r h
  gone-after s r (Sending part (x ∷ xs)) h = (h, refl)

  -- one ms, heard by a synchronized reader
  pub record Followed (m m' : Model) (d : Did) (r : Reader) : Type 0 where
    pub then : After m'.sender (next r d.sent) m'.on_line
    pub text : words_in r d.sent ++ words mode (next r d.sent) (left m'.on_line)
        ≡ words mode r (left m.on_line) ++ normals d.taken

  followed : (begins ends : Bool) (m : Model) (x : ℕ) (r : Reader) → Fine mode m → After m.sender r m.on_line
      → Followed m (ms_by mode begins ends m x) (did_by mode begins m) r
  unfolding ms_by did_by Gone
  followed begins ends m x r f h =
      let v = load_view mode L begins m f in
      let o = opens-after m.sender r v.1 h in
      let b = begins-after r v.2 o.0 in
      let l = load_by begins mode m in
      let g = gone-after l.sender r l.on_line b.0 in
      let c = closes-left (closed-view mode ends (one_gone l.on_line)) in
      record { then = rw c g.0; text = rw (c, ← o.1) (g.1 ∙ b.1) }

  -- what is heard first and what is taken first stand in front
  joins : (ws us vs : List ℕ) (ts ts' : List ℕ) → ws ++ us ≡ vs ++ normals ts
      → ws ++ (us ++ normals ts') ≡ vs ++ normals (ts ++ ts')
  joins ws us vs ts ts' e =
      sym (append_assoc ws us (normals ts')) ∙ ap (λ (l : List ℕ). l ++ normals ts') e
      ∙ append_assoc vs (normals ts) (normals ts')
      ∙ ap (λ (l : List ℕ). vs ++ l) (sym (normal-append (alphabet_of mode) ts ts'))

  -- from a synchronized reader on, up to no burst: the words are those of what is left of a code and of all that is
  -- taken
  pub follows : (steps : List Told) (m : Model) (r : Reader) → Fine mode m → After m.sender r m.on_line
      → (told_after mode m steps).on_line ≡ Idle
      → let ds = told_does mode m steps in
      words mode r (sent_in ds) ≡ words mode r (left m.on_line) ++ normals (taken_in ds)
  unfolding told_after told_does offered taken_in normal_form outputs words_of
  follows [] m r f h z = rw z refl
  follows (offer cs ∷ steps) m r f h z = follows steps (offered mode cs m) r (fine-offered mode cs m f) h z
  follows (ms begins ends x ∷ steps) m r f h z =
      let g = followed begins ends m x r f h in
      let d = did_by mode begins m in
      let m' = ms_by mode begins ends m x in
      let q = next r d.sent in
      let ds = told_does mode m' steps in
      ap (λ (l : List ℕ). words_in r d.sent ++ l) (follows steps m' q (fine-ms mode L begins ends m x f) g.then z)
      ∙ joins (words_in r d.sent) (words mode q (left m'.on_line)) (words mode r (left m.on_line))
      d.taken (taken_in ds) g.text

  -- ---- before the synchronizing code has ended

  -- after the ms that are left, the reader is between codes; and synchronized, if they end a synchronizing code
  abbrev Due : Sender → Reader → OnLine → Type 0
  Due s r Idle = Unit {0}
  Due s r (Sending part xs) = synchronizes (alphabet_of mode) part ≡ true → InStep s (reader_after mode r xs)

  pub record Before (s : Sender) (r : Reader) (on : OnLine) : Type 0 where
    pub between : Settled mode (reader_after mode r (left on))
    pub due : Due s r on

  opens_before : {on on' : OnLine} (s : Sender) (r : Reader) → Opens mode on on' → Before s r on → Before s r on'
  unfolding state_after
  opens_before s r opens h = record {
    between = subst (Settled mode) (sym (L.preamble_passes r h.between).after) h.between;
    due = λ e. absurd (false≢true (sym L.preamble_not ∙ e));
  }
  opens_before s r goes_on h = h

  gone-before : (s : Sender) (r : Reader) (on : OnLine) → Before s r on → Before s (next r (level_on on)) (one_gone on)
  unfolding state_after level_on one_gone
  gone-before s r Idle h =
      record { between = subst (Settled mode) (sym (quiet_is r h.between)) h.between; due = tt }
  gone-before s r (Sending part []) h =
      let e = sym (quiet_is r h.between) in
      record { between = subst (Settled mode) e h.between; due = λ y. subst (InStep s) e (h.due y) }
  gone-before s r (Sending part (x ∷ xs)) h = record { between = h.between; due = h.due }

  closes_before : {on on' : OnLine} (s : Sender) (r : Reader) → Closes on on' → Before s r on → Before s r on'
  closes_before s r closes h = record { between = h.between; due = tt }
  closes_before s r keeps h = h

  -- a synchronizing code has ended
  ends-before : (s : Sender) (r : Reader) (on : OnLine) → Before s r on → ends_synchronizing mode (ended on) ≡ true
      → After s r on × (left on ≡ [])
  unfolding ended
  ends-before s r Idle h e = absurd (false≢true e)
  ends-before s r (Sending part []) h e = (h.due e, refl)
  ends-before s r (Sending part (x ∷ xs)) h e = absurd (false≢true e)

  -- one ms, heard by a reader that is not synchronized
  pub record Awaited (m' : Model) (d : Did) (r : Reader) : Type 0 where
    pub before : Before m'.sender (next r d.sent) m'.on_line
    pub at_last : ends_synchronizing mode d.ended ≡ true
        → After m'.sender (next r d.sent) m'.on_line × (left m'.on_line ≡ [])

  -- the words after the first synchronizing code are those of what is taken after it
  abbrev ReadAfter : List Did → List Event → Type 0
  ReadAfter ds es =
      let k = until_synchronized mode ds in words_of (drop k es) ≡ normals (taken_in (drop k ds))

  module _ (later : at_once (alphabet_of mode) ≡ false) where
    -- a code begins: after it the reader is synchronized
    begins-before : {waiting : List ℕ} {on : OnLine} {s : Sender} {l : Loaded} (r : Reader)
        → Begins mode waiting on s l → Before s r on → Before l.sender r l.on_line
    unfolding state_after
    begins-before r stays h = h
    begins-before r (shifts k q) h =
        let g = (L.shift_law k q r h.between).after in
        record { between = L.between _ _ g; due = λ y. g }
    begins-before r (owns part o c cs s w e) h = record { between = L.between _ _ g; due = λ y. g }
      where
        first : synchronizes (alphabet_of mode) part ≡ false → OwnFirst (alphabet_of mode) part
        first n = record { later = later; not_opening = o; not_yet = n }

        g : After (sender_after_own (alphabet_of mode) s) r (Sending OwnCode (signal mode w.code.0))
        g =
            by-test (synchronizes (alphabet_of mode) part) (λ y. (L.own_law s c w e r (h.due y)).after)
            (λ n. L.first_law part (first n) _ c w r h.between)

    awaited : (begins ends : Bool) (m : Model) (x : ℕ) (r : Reader) → Fine mode m → Before m.sender r m.on_line
        → Awaited (ms_by mode begins ends m x) (did_by mode begins m) r
    unfolding ms_by did_by
    awaited begins ends m x r f h =
        let v = load_view mode L begins m f in
        let l = load_by begins mode m in
        let b = begins-before r v.2 (opens_before m.sender r v.1 h) in
        let g = gone-before l.sender r l.on_line b in
        let c = closed-view mode ends (one_gone l.on_line) in
        let k = closes-left c in
        record {
          before = closes_before l.sender _ c g;
          at_last = λ e. let a = ends-before l.sender _ (one_gone l.on_line) g e in (rw k a.0, k ∙ a.1);
        }

    -- so it is up to no burst
    pub follows-after : (steps : List Told) (m : Model) (r : Reader) → Fine mode m → Before m.sender r m.on_line
        → (told_after mode m steps).on_line ≡ Idle
        → let ds = told_does mode m steps in ReadAfter ds (events mode r (sent_in ds))
    unfolding told_after told_does offered taken_in normal_form outputs words_of until_synchronized
    follows-after [] m r f h z = refl
    follows-after (offer cs ∷ steps) m r f h z =
        follows-after steps (offered mode cs m) r (fine-offered mode cs m f) h z
    follows-after (ms begins ends x ∷ steps) m r f h z = go (ends_synchronizing mode d.ended) at_last
        (follows-after steps m' q (fine-ms mode L begins ends m x f) g.before z)
      where
        m' : Model
        m' = ms_by mode begins ends m x

        d : Did
        d = did_by mode begins m

        q : Reader
        q = next r d.sent

        ds : List Did
        ds = told_does mode m' steps

        g : Awaited m' d r
        g = awaited begins ends m x r f h

        at_last : ends_synchronizing mode d.ended ≡ true → words mode q (sent_in ds) ≡ normals (taken_in ds)
        at_last e =
            let a = g.at_last e in
            follows steps m' q (fine-ms mode L begins ends m x f) a.0 z
            ∙ ap (λ (l : List ℕ). words mode q l ++ normals (taken_in ds)) a.1

        go : (b : Bool) → (b ≡ true → words mode q (sent_in ds) ≡ normals (taken_in ds))
            → ReadAfter ds (events mode q (sent_in ds))
            → let k = cond b 1 (suc (until_synchronized mode ds)) in
            words_of (drop k ((hear mode r d.sent).event ∷ events mode q (sent_in ds)))
            ≡ normals (taken_in (drop k (d ∷ ds)))
        go true p i = p refl
        go false p i = i
