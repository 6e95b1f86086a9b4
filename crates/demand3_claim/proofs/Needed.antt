-- Premises that demand 3 needs: for each two lists of calls for which all others hold, and a weaker one in its place,
-- and the conclusion does not.
use mathlib.Core.Path.{◌≡◌, ◌∙◌, refl, sym, ap}
use mathlib.Core.Bool.{Bool, true, false, false≢true}
use mathlib.Core.List.{List, [], ◌∷◌, ◌++◌}
use Prim.Native.Nat.{ℕ, ◌+◌, ◌-◌}
use lib.Dec.{leb}
use lib.ListN.{get_or, set, take, drop, replicate}
use borrow.Author.Tests.{eq-eqb}
use Rattle.lists.specs.Lists.{all_at_most}
use Rattle.alphabet.specs.declared.Mode.TheVariants.{Baudot50}
use Rattle.alphabet.specs.Print.{left_rows, right_rows, rows, bits_from, bits, keys}
use Rattle.alphabet.specs.TableA1.{a1}
use Rattle.alphabet.specs.TableA2.{a2}
use Rattle.alphabet.specs.TableB1.{b1}
use Rattle.alphabet.specs.TableB2.{b2}
use Rattle.alphabet.specs.Baudot.{printed_at, read_baudot, send_baudot}
use Rattle.alphabet.specs.Dtmf.{with_mark, code_from, prefixes, keys_of, marks_then_digit, among, not_struck, remaining}
use Rattle.alphabet.specs.Dtmf.{names, first_sign, named, read_in, read_dtmf, send_in, has_row, send_from, send_dtmf}
use Rattle.alphabet.specs.Normal.{sends, reads, normal_form}
use Rattle.baudot.specs.Sending.{wanted}
use Rattle.signal.specs.Signal.{preamble, digits, held, baudot_signal, held_keys, signal, signals}
use Rattle.frames.specs.Samples.{placed, sample_at, samples_of, baudot_kinds}
use Rattle.frames.specs.Frames.{sampled, frame_step}
use Rattle.frames.specs.Range.{last_ms}
use Rattle.keys.specs.Keys.{key_step}
use Rattle.reader.specs.Reader.{fresh, key_event, prefix_after, hear, inhibited}
use Rattle.reader.specs.Words.{words_of}
use Rattle.line_theorems.specs.Examples.{chars}
use Rattle.queue.specs.Queue.{waiters}
use Rattle.burst.specs.Rules.{may_begin, may_end}
use Rattle.station.specs.Station.{has_del}
use Rattle.demand3.specs.Model.{Step, Did, fresh_model, offered, begun, code_begins, next_code, load}
use Rattle.demand3.specs.Model.{level_on, one_gone, ended, closed, did, ms_after, model_after, does, sent_in, taken_in}
use Rattle.demand3.specs.Model.{heard_in}
use Rattle.demand3.specs.Reading.{synchronizes, until_synchronized, synchronized_after}
use Rattle.demand3.specs.Calls.{OfferCall}
use Rattle.demand3.specs.Accepts.{accepts, is_plain}
use Rattle.demand3.specs.Demand3.{Lists, the_mode, the_alphabet, steps_b, dids_a, between, follows_a}
use Rattle.demand3.specs.Demand3.{synchronized, Conclusion}
use Rattle.demand3_claim.specs.Examples.{ms, run, key}
use Rattle.demand3.proofs.Told.{inhibited_by, ms_by, told_events}
use Rattle.demand3.proofs.OwnRules.{told_of}
use Rattle.demand3.proofs.Accepts.{model_steps, all_plain}
use Rattle.demand3.proofs.Demand3.{same-words, words_are}
use Rattle.demand3_claim.proofs.Examples.{no_burst, ends_idle, ends_by, same, offers_none, front_ms, back_ms, past_of}
use Rattle.demand3_claim.proofs.Examples.{since_of, follows, premise_tests, model_b, dids_of, plain, steps_of}

-- ---- what is computed of two lists: A does ds, and B has these steps

-- a weaker premise
abbrev pub Weaker : Type 0
Weaker = Lists → List Did → List Step → Bool

-- the words of B before a ms of the clock
abbrev words_to : Lists → List Step → ℕ → List ℕ
words_to d steps t =
    words_of (take (t - d.open_b) (told_events (the_mode d) fresh_model fresh (told_of (the_mode d) fresh_model steps)))

-- they are those that the conclusion says
as_concluded : Lists → List Did → List Step → Bool
as_concluded d ds steps =
    let fs = follows d ds in
    let k = synchronized_after (the_mode d) fs in
    same (words_to d steps (d.asked + 1))
    (words_to d steps (d.start + 300 + k) ++ normal_form (the_alphabet d) (taken_in (drop k fs)))

outcome : Lists → Weaker → List Did → List Step → List Bool
outcome d weaker ds steps =
    as_concluded d ds steps ∷ ends_idle (follows d ds) ∷ weaker d ds steps ∷ premise_tests d ds steps

-- all premises but the n-th (its place in `premise_tests`), the weaker one, and not the conclusion
abbrev expected : ℕ → List Bool
expected n = false ∷ true ∷ true ∷ set (replicate 11 true) n false

abbrev Computes : Lists → ℕ → Weaker → Type 0
Computes d n weaker = (plain d ≡ true) × (outcome d weaker (dids_of d) (model_b d) ≡ expected n)

-- what these lists of calls show: all premises but the n-th, the weaker one, and not the conclusion
pub record Fails (d : Lists) (n : ℕ) (weaker : Weaker) : Type 0 where
  pub premises : premise_tests d (dids_a d) (steps_b d) ≡ set (replicate 11 true) n false
  pub weaker_holds : weaker d (dids_a d) (steps_b d) ≡ true
  pub fails : Conclusion d → ⊥

same_self : (xs : List ℕ) → same xs xs ≡ true
unfolding same
same_self [] = refl
same_self (x ∷ xs) = rw (eq-eqb x x refl) (same_self xs)

module _ (d : Lists) (n : ℕ) (weaker : Weaker) (c : Computes d n weaker) where
  are : outcome d weaker (dids_a d) (steps_b d) ≡ expected n
  are =
      let s = steps_of d c.0 in
      (λ i. outcome d weaker (does (the_mode d) fresh_model (s.0 i)) (s.1 i)) ∙ c.1

  refuted : Conclusion d → ⊥
  unfolding outcome as_concluded
  refuted r =
      let k = synchronized d in
      let z = ends_by (follows_a d) (ap (λ (l : List Bool). get_or l 1 true) are) in
      let due = same-words (normal_form (the_alphabet d) (taken_in (drop k (follows_a d)))) in
      let text = sym (words_are d (d.asked + 1)) ∙ r.text z
      ∙ (λ i. words_are d (d.start + 300 + k) i ++ due i) in
      let words = words_to d (steps_b d) (d.asked + 1) in
      false≢true
      (sym (ap (λ (l : List Bool). get_or l 0 true) are) ∙ ap (same words) (sym text) ∙ same_self words)

  fails : Fails d n weaker
  unfolding outcome
  fails = record {
    premises = ap (drop 3) are;
    weaker_holds = ap (λ (l : List Bool). get_or l 2 true) are;
    fails = refuted;
  }

-- ---- in DTMF

-- A sends bb from ms n on. B has heard * for 40 ms and then 39 quiet ms: it misses the first b, and takes the second
-- for *1.
pub missed : ℕ → Lists
missed n = record {
  mode = 3;
  calls_a = run (ms n 0) ∷ OfferCall (chars "bb") ∷ run (ms 241 0) ∷ [];
  calls_b = run (ms 40 11 ++ ms 39 0 ++ key 1 ++ key 1 ++ 0 ∷ []) ∷ [];
  open_a = 0;
  open_b = n - 79;
  start = 0;
  asked = n + 240;
}

-- A is in no burst in the first 299 ms; B hears it from the 39 ms on
pub idle299 : Weaker
idle299 d ds steps = no_burst (between d.open_a d.start (d.start + 299) ds)

pub hears39 : Weaker
hears39 d ds steps =
    same (between d.open_b (d.start + 261) (d.asked + 1) (heard_in steps))
    (between d.open_a (d.start + 261) (d.asked + 1) (sent_in ds))

-- B's own burst of : goes on into the idle period. It is inhibited for 300 ms after it, and misses bb.
pub own_burst : Lists
own_burst = record {
  mode = 3;
  calls_a = run (ms 300 0) ∷ OfferCall (chars "bb") ∷ run (ms 241 0) ∷ [];
  calls_b = OfferCall (chars ":") ∷ run (ms 400 0 ++ key 1 ++ key 1 ++ 0 ∷ []) ∷ [];
  open_a = 100;
  open_b = 0;
  start = 100;
  asked = 640;
}

-- B is in no burst from the 40 ms on
pub idle40 : Weaker
idle40 d ds steps =
    let past = model_after (the_mode d) fresh_model (past_of d steps) in
    no_burst (drop 260 (does (the_mode d) past (since_of d steps)))

-- Both are opened 100 ms after the idle period, and A sends b at once.
pub opened_late : Lists
opened_late = record {
  mode = 3;
  calls_a = OfferCall (chars "b") ∷ run (ms 121 0) ∷ [];
  calls_b = run (key 1 ++ 0 ∷ []) ∷ [];
  open_a = 400;
  open_b = 400;
  start = 0;
  asked = 520;
}

-- B is opened before the ms asked about
pub opened : Weaker
opened d ds steps = leb d.open_b d.asked

dtmf-computed : Computes (missed 299) 0 idle299 × Computes (missed 300) 10 hears39 × Computes own_burst 8 idle40
    × Computes opened_late 4 opened
unfolding outcome as_concluded missed own_burst opened_late idle299 hears39 idle40 opened
    premise_tests no_burst ends_idle same offers_none front_ms back_ms is_plain all_plain accepts model_steps
    chars waiters heard_in offered may_begin may_end begun code_begins next_code load level_on one_gone ended closed did
    ms_after model_after does taken_in all_at_most sends reads signal signals normal_form synchronizes
    until_synchronized
    keys prefixes keys_of held_keys with_mark code_from marks_then_digit among not_struck remaining names first_sign
    named
    read_in read_dtmf send_in has_row send_from send_dtmf left_rows right_rows rows b1 b2 printed_at
    told_of told_events ms_by inhibited_by hear inhibited words_of key_step key_event prefix_after
dtmf-computed = ((refl, refl), (refl, refl), (refl, refl), (refl, refl))

-- ---- in Baudot

-- A sends 1. An offer of DEL puts B in letters ahead of its own code, and B takes it for Q.
pub del_offered : Lists
del_offered = record {
  mode = 2;
  calls_a = run (ms 300 0) ∷ OfferCall (chars "1") ∷ run (ms 601 0) ∷ [];
  calls_b =
      run (ms 300 0 ++ preamble Baudot50 ++ signals Baudot50 (0b11111 ∷ 0b11011 ∷ [])) ∷
      OfferCall (0x7f ∷ []) ∷
      run (signals Baudot50 (0b10111 ∷ []) ++ 0 ∷ []) ∷
      [];
  open_a = 0;
  open_b = 0;
  start = 0;
  asked = 900;
}

-- no offer to B holds a character that sends something
pub none_waits : Weaker
none_waits d ds steps = same (model_after (the_mode d) fresh_model steps).waiting []

-- A sends nothing. B is in a frame at the ms asked about, the first of the 40; its fault comes after it.
pub in_frame : Lists
in_frame = record {
  mode = 2;
  calls_a = run (ms 300 0) ∷ [];
  calls_b = run (ms 245 0 ++ ms 15 2 ++ ms 40 0) ∷ [];
  open_a = 0;
  open_b = 0;
  start = 0;
  asked = 260;
}

-- the ms asked about is the first of the 40, or later
pub later40 : Weaker
later40 d ds steps = leb (d.start + 260) d.asked

baudot-computed : Computes del_offered 9 none_waits × Computes in_frame 1 later40
unfolding outcome as_concluded del_offered in_frame none_waits later40
    premise_tests no_burst ends_idle same offers_none front_ms back_ms is_plain all_plain accepts model_steps
    chars waiters has_del heard_in offered may_begin may_end begun code_begins next_code load level_on one_gone ended
    closed did
    ms_after model_after does taken_in all_at_most sends reads signal signals normal_form synchronizes
    until_synchronized
    wanted send_baudot read_baudot printed_at left_rows right_rows rows bits bits_from a1 a2 digits held baudot_signal
    told_of told_events ms_by inhibited_by hear inhibited words_of last_ms placed sample_at samples_of sampled
    frame_step
    baudot_kinds
baudot-computed = ((refl, refl), (refl, refl))

-- ---- so each of these premises is needed

pub record Needed : Type 0 where
  pub idle-A : Fails (missed 299) 0 idle299
  pub later : Fails in_frame 1 later40
  pub opened_B : Fails opened_late 4 opened
  pub idle-B : Fails own_burst 8 idle40
  pub no_offers : Fails del_offered 9 none_waits
  pub hears : Fails (missed 300) 10 hears39

pub needed : Needed
needed = record {
  idle-A = fails (missed 299) 0 idle299 dtmf-computed.0;
  later = fails in_frame 1 later40 baudot-computed.1;
  opened_B = fails opened_late 4 opened dtmf-computed.3;
  idle-B = fails own_burst 8 idle40 dtmf-computed.2;
  no_offers = fails del_offered 9 none_waits baudot-computed.0;
  hears = fails (missed 300) 10 hears39 dtmf-computed.1;
}
