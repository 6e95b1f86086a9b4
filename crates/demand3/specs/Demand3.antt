-- DEMAND 3, over whole lists of calls: its premises, its conclusion, and what it says besides.
-- Each line names the words of the demand (D3) or of document 01 (01) that it is.
-- A rest is called idle period here, the settling code synchronizing code, a station's book send model, a lead
-- preamble, a case shift.
use Rattle.std.specs.Prelude.{ℕ, ◌+◌, ◌-◌, ◌≤◌, ◌<◌, ◌≡◌, true, ◌⊎◌, List, [], ◌∷◌, ◌++◌, map, length, take, drop}
use Rattle.alphabet.specs.declared.Alphabet.{Alphabet}
use Rattle.alphabet.specs.declared.Alphabet.TheVariants.{Baudot}
use Rattle.alphabet.specs.declared.Mode.{Mode}
use Rattle.alphabet.specs.Modes.{mode_of, alphabet_of}
use Rattle.alphabet.specs.Normal.{normal_form, all_chars}
use Rattle.edges.specs.declared.Report.{Report}
use Rattle.reader.specs.Words.{character_word}
use Rattle.demand3.specs.Model.{ShiftCode, Step, Did, fresh_model, model_after, does, heard_in, ms_in, OffersNone}
use Rattle.demand3.specs.Model.{sent_in, taken_in}
use Rattle.demand3.specs.Reading.{synchronizing_code, synchronized_after, most_before, NoBurst, EndsIdle}
use Rattle.demand3.specs.Calls.{Call, RunCall, opened, report_left, succeeds, left_by, sent_by, words_by, steps_by}
use Rattle.demand3.specs.Calls.{up_to}

-- D3: "every list of offers and runs on station A and every such list on station B, refused calls among them",
-- "whatever A hears": any calls. 01: "One clock numbers the ms of both."
pub record Lists : Type 0 where
  -- D3: "both stations fresh and of one mode". The number that both openings are given; one that is no mode's opens
  -- mode 1.
  pub mode : ℕ
  pub calls_a : List Call
  pub calls_b : List Call
  -- 01: "Either may be opened at any ms". The numbers of the first ms of each.
  pub open_a : ℕ
  pub open_b : ℕ
  -- D3: "the start of the rest", "every later millisecond". The first ms of the idle period, and the ms asked about.
  pub start : ℕ
  pub asked : ℕ

-- D3: "of one mode".
abbrev pub the_mode : Lists → Mode
the_mode d = mode_of d.mode

abbrev pub the_alphabet : Lists → Alphabet
the_alphabet d = alphabet_of (the_mode d)

-- 01: "A station's book is kept from its calls alone". The steps of each model.
abbrev pub steps_a : Lists → List Step
steps_a d = steps_by (opened d.mode) d.calls_a

abbrev pub steps_b : Lists → List Step
steps_b d = steps_by (opened d.mode) d.calls_b

-- 01: "A run that succeeds goes in ms by ms." What A's model does in each of its ms.
abbrev pub dids_a : Lists → List Did
dids_a d = does (the_mode d) fresh_model (steps_a d)

-- 01: "A's sent ms", "each heard ms". The sent ms that A's successful runs hand out; the ms that B's hear.
abbrev pub sent_a : Lists → List ℕ
sent_a d = sent_by (opened d.mode) d.calls_a

abbrev pub heard_b : Lists → List ℕ
heard_b d = heard_in (steps_b d)

-- 01: "the words up to a ms inside a run are those up to a cut after it". The words of B before the ms t of the clock.
abbrev pub words_before : Lists → ℕ → List ℕ
words_before d t = words_by (opened d.mode) (up_to (opened d.mode) d.calls_b (t - d.open_b))

-- Of a list with one entry for each ms from `first` on: the entries of the ms from `from` on and before `to`. Those
-- before `first` have none.
abbrev pub between : {X : Type 0} → ℕ → ℕ → ℕ → List X → List X
between first from to xs = drop (from - first) (take (to - first) xs)

-- D3: "the last 40 ms of a rest of 300 ms". The first of them.
abbrev pub last_forty : Lists → ℕ
last_forty d = d.start + 260

-- D3: "The premises". 01: "Waiting, bursts and codes in demand 3 are the book's". No line says what B heard before the
-- 40 ms, D3: "however the line spoiled all that B heard".
pub record Premises (d : Lists) : Type 0 where
  -- D3: "a rest of 300 ms on A's sending". 01: "300 ms in a row in which a station is in no burst"; "Either may be
  -- opened at any ms": A is in none in those of them that it has run.
  pub idle-A : NoBurst (between d.open_a d.start (d.start + 300) (dids_a d))
  -- D3: "every later millisecond that both have run". (That both have follows from `ms_since` and `hears`.)
  pub later : d.start + 300 ≤ d.asked
  pub run_A : d.asked < d.open_a + ms_in (steps_a d)
  pub run_B : d.asked < d.open_b + ms_in (steps_b d)
  -- 01: "B at the latest at the first of the 40"
  pub opened_B : d.open_b ≤ last_forty d
  -- D3: "from the start of the rest". B's steps before that, from there up to the ms asked about, and beyond it.
  pub past : List Step
  pub since : List Step
  pub beyond : List Step
  pub cut : steps_b d ≡ past ++ (since ++ beyond)
  pub ms_past : ms_in past ≡ d.start - d.open_b
  pub ms_since : ms_in (past ++ since) ≡ d.asked + 1 - d.open_b
  -- 01: "if the rest began earlier, B's premises hold from its opening". (The proof does not need it.)
  pub from_opening : d.start < d.open_b → past ≡ []
  -- D3: "B has nothing waiting"; with no character offered, nothing waits later either. (The proof does not need it.)
  pub none-waits : (model_after (the_mode d) fresh_model past).waiting ≡ []
  -- D3: "is in no burst"
  pub idle-B : NoBurst (does (the_mode d) (model_after (the_mode d) fresh_model past) since)
  -- D3: "no offer to it that holds a character succeeds"
  pub no_offers : OffersNone since
  -- D3: "from those 40 ms on B hears exactly what A sends". 01: "up to the one asked about"; "where A has run no such
  -- ms, it does not": the lists are equally long, so A has run each of the 40.
  pub hears : between d.open_b (last_forty d) (d.asked + 1) (heard_b d)
      ≡ between d.open_a (last_forty d) (d.asked + 1) (sent_a d)

-- 01: "what A takes after the rest". What A's model does from there up to the ms asked about.
abbrev pub follows_a : Lists → List Did
follows_a d = between d.open_a (d.start + 300) (d.asked + 1) (dids_a d)

-- 01: "What comes after it comes after its last ms." How many of these ms there are up to the synchronizing code's
-- last, "or so far while no settling code has ended".
abbrev pub synchronized : Lists → ℕ
synchronized d = synchronized_after (the_mode d) (follows_a d)

-- D3: "the words of kind 0 for the normal form of the characters" that A's model has "by then taken after it, in the
-- order taken".
abbrev pub words_due : Lists → List ℕ
words_due d = map character_word (normal_form (the_alphabet d) (taken_in (drop (synchronized d) (follows_a d))))

-- D3: "the words B has handed out after the settling code", up to the ms asked about.
abbrev pub handed_out : Lists → List ℕ
handed_out d = drop (length (words_before d (d.start + 300 + synchronized d))) (words_before d (d.asked + 1))

-- D3: "Then".
pub record Conclusion (d : Lists) : Type 0 where
  -- D3: "At most 72 characters in Baudot, one in DTMF and none in EDT precede that point"; in a burst, too. (Document
  -- 02, #101: "the 72 becomes none".)
  pub before : length (taken_in (take (synchronized d) (follows_a d))) ≤ most_before (the_alphabet d)
  -- D3: "at which A is in no burst, the words B has handed out after the settling code are exactly" these.
  pub text : EndsIdle (follows_a d)
      → words_before d (d.asked + 1) ≡ words_before d (d.start + 300 + synchronized d) ++ words_due d
  -- D3: "with no fault". Each word that is due is a character, of kind 0; and so is each that B has handed out.
  pub no_fault_due : EndsIdle (follows_a d) → all_chars (words_due d) ≡ true
  pub no_fault : EndsIdle (follows_a d) → all_chars (handed_out d) ≡ true

-- Document 02, #101: "Each Baudot burst opens, after its lead, with the case code in force". So in Baudot the
-- synchronizing code is a shift code, once it has ended.
abbrev pub OpensWithShift : Lists → Type 0
OpensWithShift d =
    let code = synchronizing_code (the_mode d) (follows_a d) in
    the_alphabet d ≡ Baudot → (code ≡ []) ⊎ (code ≡ ShiftCode ∷ [])

-- 01: "each sent ms is the line signal of the book's lead or code, and quiet outside a burst". For each station by
-- itself.
abbrev pub SendsAsModel : Type 0
SendsAsModel = (mode : ℕ) (calls : List Call)
    → sent_by (opened mode) calls ≡ sent_in (does (mode_of mode) fresh_model (steps_by (opened mode) calls))

-- 01: a list's words are "the same if such a run is cut in two"; and so are its sent ms and the steps of its model. In
-- place of a run that succeeds after some calls: the run on its first ms, with its report, and the run on the others,
-- with the report that the first gives back; each with any slices that are long enough.
pub record Same (cs ds : List Call) (mode : ℕ) : Type 0 where
  pub same-words : words_by (opened mode) cs ≡ words_by (opened mode) ds
  pub same_sent : sent_by (opened mode) cs ≡ sent_by (opened mode) ds
  pub same_steps : steps_by (opened mode) cs ≡ steps_by (opened mode) ds

abbrev pub CutInTwo : Type 0
CutInTwo =
    (mode : ℕ) (past next : List Call) (r : Report) (xs ys sent words sent1 words1 sent2 words2 : List ℕ)
    → let s = left_by (opened mode) past in
    let whole = RunCall r (xs ++ ys) sent words in
    let first = RunCall r xs sent1 words1 in
    let second = RunCall (report_left s first) ys sent2 words2 in
    succeeds s whole ≡ true
    → length xs ≤ length sent1 → length xs ≤ length words1
    → length ys ≤ length sent2 → length ys ≤ length words2
    → Same (past ++ (whole ∷ next)) (past ++ (first ∷ second ∷ next)) mode

-- D3: "taking the normal form twice equals taking it once", in every mode.
abbrev pub NormalTwice : Type 0
NormalTwice = (mode : Mode) (text : List ℕ) → all_chars text ≡ true
    → normal_form (alphabet_of mode) (normal_form (alphabet_of mode) text) ≡ normal_form (alphabet_of mode) text
