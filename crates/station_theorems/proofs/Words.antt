-- Every output word is well formed, whatever is heard.
use mathlib.Core.Path.{◌≡◌, refl, sym, subst}
use mathlib.Core.Bool.{Bool, true, false, cond, ◌||◌}
use mathlib.Core.List.{List, [], ◌∷◌, ◌++◌}
use Prim.Native.Nat.{ℕ, ◌<◌}
use native.Mathlib.Omega.{arith}
use lib.Dec.{T, eqb, leb, ltb}
use lib.ListN.{length, drop}
use lib.Seq.{take-append_seam}
use borrow.Author.Tests.{eqb-true, ltb-true, le-leb, lt-ltb}
use Rattle.lists.specs.Steps.{outputs}
use Rattle.lists.specs.Tables.{passes}
use Rattle.lists.proofs.Lists.{either, by-test, and_left, and_right, both}
use Rattle.lists.proofs.Tables.{is_true, passes_at}
use Rattle.alphabet.specs.declared.Alphabet.TheVariants.{Dtmf as dtmf}
use Rattle.alphabet.specs.declared.Char.{Char}
use Rattle.alphabet.specs.declared.Mode.{Mode}
use Rattle.alphabet.specs.declared.Mode.TheVariants.{Baudot45, Baudot50, Dtmf, Edt}
use Rattle.alphabet.specs.declared.Reads.{Reads}
use Rattle.alphabet.specs.declared.Reads.TheVariants.{Character as character, Shift, NoRow}
use Rattle.alphabet.specs.Modes.{alphabet_of, frame_codes}
use Rattle.alphabet.specs.Print.{left_rows, right_rows, bits, bits_from}
use Rattle.alphabet.specs.TableA1.{a1}
use Rattle.alphabet.specs.Baudot.{letters, figures, printed_at, read_baudot}
use Rattle.alphabet.specs.Dtmf.{is_mark, is_digit, dtmf_code, read_dtmf}
use Rattle.alphabet.specs.Normal.{reads}
use Rattle.alphabet.proofs.Ranges.{char_or_none, dtmf-read}
use Rattle.frames.specs.declared.Cause.{Cause}
use Rattle.frames.specs.declared.Cause.TheVariants.{LetterKey}
use Rattle.frames.specs.declared.Found.{Found}
use Rattle.frames.specs.declared.Found.TheVariants.{Nothing as nothing, Fault as fault, Code}
use Rattle.frames.specs.Samples.{samples_of}
use Rattle.frames.specs.Frames.{frame_step}
use Rattle.frames.specs.code.Bounds.{Framed, FrameOf, FoundIn}
use Rattle.frames.proofs.Range.{found_in, next-in}
use Rattle.reader.specs.declared.Event.{Event}
use Rattle.reader.specs.declared.Event.TheVariants.{Character, Fault, Nothing}
use Rattle.reader.specs.declared.Reader.{Reader}
use Rattle.reader.specs.Reader.{event_of, found_event, key_event, hear, inhibited}
use Rattle.reader.specs.Words.{fault_word, word_of, words_of}
use Rattle.reader.proofs.Range.{fresh_in}
use Rattle.half_duplex.specs.Core.{inhibited_in, core_from}
use Rattle.station.specs.declared.Station.{Station}
use Rattle.station.specs.Station as station
use Rattle.station.specs.Station.{mode_of_station, front, station_ms, words_by}
use Rattle.station.specs.Measured.{station_of}
use Rattle.station.specs.Entries.{run_answer, ran_of, words_after}
use Rattle.station.proofs.Range.{core-in}
use Rattle.station.proofs.Edged.{measured-in}
use Rattle.station.proofs.Kept.{runs}
use Rattle.station_theorems.proofs.Faults.{or-second, Among, step-faults, mode-faults}
use Rattle.station_theorems.specs.Output.{highest_char, faults_at, faults_of, fault_words, is_one_of, is_word, all_words, WordsWellFormed, RunWordsWellFormed}

-- ---- words of a mode

-- what a ms ends in gives a word of the mode or none
abbrev Good : Mode → Event → Type 0
Good mode e = all_words mode (word_of e) ≡ true

character-good : (mode : Mode) (c : Char) → T (ltb c.0 128) → Good mode (Character c)
unfolding all_words
character-good mode c t =
    let h = ltb-true c.0 128 (is_true _ t) in
    rw (le-leb c.0 highest_char (omega arith)) refl

fault-good : (mode : Mode) (c : Cause) (ms : ℕ) → is_one_of (fault_word c ms) (fault_words mode) ≡ true
    → Good mode (Fault c ms)
unfolding all_words
fault-good mode c ms e = both (or-second (leb (fault_word c ms) highest_char) e) refl

-- ---- what a code reads as

-- in a frame: a character below 128, or a shift
abbrev fits : Reads → Bool
fits (character c) = ltb c.0 128
fits (Shift s) = true
fits NoRow = false

code-good : (mode : Mode) (x : Reads) → T (fits x) → Good mode (event_of x)
unfolding all_words
code-good mode (character c) t = character-good mode c t
code-good mode (Shift s) t = refl
code-good mode NoRow t = absurd t

-- Table A.1, computed for each code in each shift
letters-test : T (passes (λ n. fits (read_baudot letters n)) 32 0)
unfolding passes read_baudot printed_at left_rows right_rows bits bits_from a1
letters-test = tt

figures-test : T (passes (λ n. fits (read_baudot figures n)) 32 0)
unfolding passes read_baudot printed_at left_rows right_rows bits bits_from a1
figures-test = tt

baudot-fits : (shift n : ℕ) → n < 32 → T (fits (read_baudot shift n))
unfolding read_baudot
baudot-fits shift n h =
    by-test (eqb shift figures)
    (λ e. rw e (passes_at (λ m. fits (read_baudot figures m)) 32 figures-test n h))
    (λ e. rw e (passes_at (λ m. fits (read_baudot letters m)) 32 letters-test n h))

-- a code of a frame
frame-fits : (mode : Mode) → Framed mode → (shift n : ℕ) → n < frame_codes mode
    → T (fits (reads (alphabet_of mode) shift n))
unfolding reads
frame-fits Baudot45 f shift n h = baudot-fits shift n h
frame-fits Baudot50 f shift n h = baudot-fits shift n h
frame-fits Dtmf f shift n h = absurd f
frame-fits Edt f shift n h = subst T (sym (lt-ltb n 128 h)) tt

-- ---- one ms of a reader

module _ (mode : Mode) (framed : Framed mode) (shift : ℕ) where
  found-good : (f : Found) → FoundIn (frame_codes mode) f → Among (faults_of (samples_of mode)) f
      → Good mode (found_event (alphabet_of mode) shift f)
  unfolding all_words
  found-good nothing h a = refl
  found-good (fault c m) h a =
      fault-good mode c m (subst (λ (ws : List ℕ). is_one_of (fault_word c m) ws ≡ true) (mode-faults mode framed) a)
  found-good (Code k) h a =
      code-good mode (reads (alphabet_of mode) shift k.0) (frame-fits mode framed shift k.0 h)

-- DTMF: a code may have no row
dtmf-good : (n : ℕ) → Good Dtmf (event_of (read_dtmf n))
unfolding all_words fault_words faults_at is_one_of
dtmf-good n = go (read_dtmf n) (dtmf-read n)
  where
    go : (x : Reads) → T (char_or_none x) → Good Dtmf (event_of x)
    go (character c) t = character-good Dtmf c t
    go (Shift s) t = refl
    go NoRow t = refl

key-good : (prefix key : ℕ) → Good Dtmf (key_event prefix key)
unfolding all_words fault_words faults_at is_one_of key_event reads
key-good prefix key =
    let x = reads dtmf letters (dtmf_code prefix key) in
    let f = Fault LetterKey 0 in
    either (Good Dtmf) (eqb key 0 || is_mark key) Nothing (cond (is_digit key) (event_of x) f) refl
    (either (Good Dtmf) (is_digit key) (event_of x) f (dtmf-good (dtmf_code prefix key)) refl)

module _ (r : Reader) (x : ℕ) where
  frame-good : (mode : Mode) → Framed mode → FrameOf mode r.frame
      → Good mode (found_event (alphabet_of mode) r.shift (frame_step (samples_of mode) r.frame x).found)
  frame-good mode framed h =
      found-good mode framed r.shift (frame_step (samples_of mode) r.frame x).found
      (found_in (frame_codes mode) (samples_of mode) r.frame x h.digits_in)
      (step-faults (samples_of mode) r.frame x)

  hear-good : (mode : Mode) → FrameOf mode r.frame → Good mode (hear mode r x).event
  unfolding hear
  hear-good Baudot45 h = frame-good Baudot45 tt h
  hear-good Baudot50 h = frame-good Baudot50 tt h
  hear-good Dtmf h = key-good r.prefix _
  hear-good Edt h = frame-good Edt tt h

  -- its frame stays in range, whatever is heard
  hear-frame : (mode : Mode) → FrameOf mode r.frame → FrameOf mode (hear mode r x).reader.frame
  unfolding hear
  hear-frame Baudot45 h = next-in Baudot45 tt r.frame x h
  hear-frame Baudot50 h = next-in Baudot50 tt r.frame x h
  hear-frame Dtmf h = h
  hear-frame Edt h = next-in Edt tt r.frame x h

-- ---- the ms of a station

-- the frame of its reader is in range
abbrev Framing : Station → Type 0
Framing s = FrameOf (mode_of_station s) s.core.reader.frame

module _ (s : Station) (x : ℕ) (h : Framing s) where
  abbrev mode : Mode
  mode = mode_of_station s

  ms-good : Good mode (station.event_of s x)
  unfolding all_words station.event_of
  ms-good =
      let r = s.core.reader in
      either (Good mode) (inhibited_in s.core (front s)) Nothing (hear mode r x).event refl (hear-good r x mode h)

  ms-frame : Framing (station_ms s x)
  unfolding station_ms core_from inhibited
  ms-frame =
      let r = s.core.reader in
      either (λ (q : Reader). FrameOf mode q.frame) (inhibited_in s.core (front s))
      (inhibited r) (hear mode r x).reader (fresh_in mode).frame-in (hear-frame r x mode h)

words_append : (mode : Mode) (xs ys : List ℕ) → all_words mode xs ≡ true → all_words mode ys ≡ true
    → all_words mode (xs ++ ys) ≡ true
unfolding all_words
words_append mode [] ys p q = q
words_append mode (x ∷ xs) ys p q =
    let a = is_word mode x in
    both (and_left a (all_words mode xs) p) (words_append mode xs ys (and_right a (all_words mode xs) p) q)

all-good : (heard : List ℕ) (s : Station) → Framing s → all_words (mode_of_station s) (words_by s heard) ≡ true
unfolding all_words words_of outputs station_ms core_from
all-good [] s h = refl
all-good (x ∷ xs) s h =
    let next = station_ms s x in
    words_append (mode_of_station s) (word_of (station.event_of s x)) (words_by next xs) (ms-good s x h)
    (all-good xs next (ms-frame s x h))

-- every output word of a station in range is well formed, whatever is heard
pub words-well-formed : WordsWellFormed
words-well-formed s heard i = all-good heard s (core-in s i).reader-in.frame-in

-- and so is every word that a run counts, of any station
pub run-words-well-formed : RunWordsWellFormed
unfolding ran_of words_after all_words
run-words-well-formed x r heard sent_room slice =
    let answer = run_answer x r heard sent_room (length slice) in
    let ws = words_by (station_of x) heard in
    by-test (eqb answer 0)
    (λ e.
    let i = (measured-in x (runs x r heard sent_room (length slice) (eqb-true answer 0 e)).ranged).0 in
    rw (e, take-append_seam ws (drop (length ws) slice)) (words-well-formed (station_of x) heard i))
    (λ e. rw e refl)
