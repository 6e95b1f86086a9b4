-- Demand 3: each station is told by its own rules, and two lists of calls on one clock are two such stations.
use mathlib.Core.Path.{◌≡◌, ◌∙◌, refl, sym, ap, subst}
use mathlib.Core.Bool.{true}
use mathlib.Core.List.{List, [], ◌∷◌, ◌++◌, map}
use Prim.Native.Nat.{ℕ, ◌+◌, ◌-◌, ◌≤◌}
use native.Mathlib.Omega.{arith}
use lib.ListN.{length, drop}
use lib.Seq.{drop-append_seam}
use Rattle.alphabet.specs.declared.Mode.{Mode}
use Rattle.alphabet.specs.Modes.{mode_of}
use Rattle.alphabet.specs.Normal.{normal_form, all_chars}
use Rattle.reader.specs.Reader.{fresh}
use Rattle.reader.specs.Words.{character_word}
use Rattle.demand3.specs.Model.{Model, Did, fresh_model, model_after, does, sent_in, taken_in, heard_in}
use Rattle.demand3.specs.Reading.{NoBurst, EndsIdle}
use Rattle.demand3.specs.Calls.{Call, opened, sent_by, steps_by}
use Rattle.demand3.specs.Demand3.{Lists, the_mode, the_alphabet, steps_a, steps_b, dids_a, between, Premises, follows_a}
use Rattle.demand3.specs.Demand3.{last_forty, synchronized, words_before, words_due, Conclusion, OpensWithShift}
use Rattle.demand3.specs.Demand3.{SendsAsModel}
use Rattle.demand3.proofs.Told.{Told, told_after, told_does, told_heard}
use Rattle.demand3.proofs.Cuts.{behind, idle-later}
use Rattle.demand3.proofs.OneClock.{Clock, OneClock, ReadsOn, follows_in, words_in, reads_on}
use Rattle.demand3.proofs.OwnRules.{told_of, own-after, own-does, own-heard, own-none, own-append}
use Rattle.demand3.proofs.StationLike.{opened-matches}
use Rattle.demand3.proofs.Calls.{CallsLike, calls-like, words-up-to}

pub same-words : (cs : List ℕ) → map character_word cs ≡ cs
same-words [] = refl
same-words (c ∷ cs) = behind (same-words cs)

-- ---- a list of calls from an opening on

abbrev pub told_in : ℕ → List Call → List Told
told_in n calls = told_of (mode_of n) fresh_model (steps_by (opened n) calls)

of_calls : (n : ℕ) (calls : List Call) → CallsLike (mode_of n) calls (opened n) fresh_model (told_in n calls)
of_calls n calls = calls-like (mode_of n) calls (opened n) fresh_model fresh (opened-matches n)

pub sends-as-model : SendsAsModel
sends-as-model n calls =
    (of_calls n calls).sent_are ∙ ap sent_in (own-does (mode_of n) (steps_by (opened n) calls) fresh_model)

-- ---- two of them on one clock

abbrev pub clock_of : Lists → Clock
clock_of d = record { open_a = d.open_a; open_b = d.open_b; start = d.start; asked = d.asked }

module _ (d : Lists) where
  abbrev pub mode : Mode
  mode = the_mode d

  abbrev told_a : List Told
  told_a = told_in d.mode d.calls_a

  abbrev pub told_b : List Told
  told_b = told_in d.mode d.calls_b

  dids-are : told_does mode fresh_model told_a ≡ dids_a d
  dids-are = own-does mode (steps_a d) fresh_model

  pub words_are : (t : ℕ) → words_before d t ≡ words_in mode (clock_of d) told_b t
  words_are t =
      words-up-to mode d.calls_b (t - d.open_b) (opened d.mode) fresh_model fresh (opened-matches d.mode)

  module _ (p : Premises d) where
    -- B's steps, as they are told
    abbrev past : List Told
    past = told_of mode fresh_model p.past

    abbrev since : List Told
    since = told_of mode (told_after mode fresh_model past) p.since

    abbrev beyond : List Told
    beyond = told_of mode (told_after mode (told_after mode fresh_model past) since) p.beyond

    told-parts : told_b ≡ past ++ (since ++ beyond)
    told-parts =
        ap (told_of mode fresh_model) p.cut ∙ own-append mode p.past (p.since ++ p.beyond) fresh_model
        ∙ ap (λ (l : List Told). past ++ l) (own-append mode p.since p.beyond (told_after mode fresh_model past))

    since-told : told_heard (past ++ since) ≡ heard_in (p.past ++ p.since)
    since-told =
        ap told_heard (sym (own-append mode p.past p.since fresh_model))
        ∙ own-heard mode (p.past ++ p.since) fresh_model

    -- at the start of the idle period B's model is the one that it is told
    model-past : told_after mode fresh_model past ≡ model_after mode fresh_model p.past
    model-past = own-after mode p.past fresh_model

    idle-B : NoBurst (told_does mode (told_after mode fresh_model past) since)
    idle-B =
        let m = told_after mode fresh_model past in
        subst NoBurst (ap (λ (k : Model). does mode k p.since) (sym model-past) ∙ sym (own-does mode p.since m))
        p.idle-B

    -- of A's idle period the last 40 ms
    idle-A : NoBurst (between d.open_a (d.start + 260) (d.start + 300) (told_does mode fresh_model told_a))
    idle-A =
        subst (λ (l : List Did). NoBurst (between d.open_a (d.start + 260) (d.start + 300) l)) (sym dids-are)
        (idle-later (d.start - d.open_a) (d.start + 260 - d.open_a) _ (omega arith) p.idle-A)

    one-clock : OneClock mode (clock_of d) told_a told_b
    one-clock =
        let later : d.start + 300 ≤ d.asked = let h = p.later in omega arith in
        let forty : last_forty d ≡ d.start + 260 = omega arith in
        let in-time : d.open_b ≤ d.start + 260 = let h = p.opened_B in omega arith in
        let heard_b = own-heard mode (steps_b d) fresh_model in
        let sent = sends-as-model d.mode d.calls_a ∙ ap sent_in (sym dids-are) in
        record {
          idle-A = idle-A;
          later = later;
          opened_B = in-time;
          past = past;
          since = since;
          beyond = beyond;
          cut = told-parts;
          ms_past = ap length (own-heard mode p.past fresh_model) ∙ p.ms_past;
          ms_since = ap length since-told ∙ p.ms_since;
          idle-B = idle-B;
          no_offers = own-none mode p.since (told_after mode fresh_model past) p.no_offers;
          levels = (of_calls d.mode d.calls_b).levels;
          hears =
              ap (between d.open_b (d.start + 260) (d.asked + 1)) heard_b
              ∙ subst (λ (t : ℕ). between d.open_b t (d.asked + 1) (heard_in (steps_b d))
              ≡ between d.open_a t (d.asked + 1) (sent_by (opened d.mode) d.calls_a)) forty p.hears
              ∙ ap (between d.open_a (d.start + 260) (d.asked + 1)) sent;
        }

    follows-are : follows_in mode (clock_of d) told_a ≡ follows_a d
    follows-are = ap (between d.open_a (d.start + 300) (d.asked + 1)) dids-are

    reads : ReadsOn mode (clock_of d) told_b (follows_a d)
    reads = subst (ReadsOn mode (clock_of d) told_b) follows-are (reads_on mode (clock_of d) told_a told_b one-clock)

    pub opens-with-shift : OpensWithShift d
    opens-with-shift = reads.shift_first

    pub concludes : Conclusion d
    concludes =
        let r = reads in
        let k = synchronized d in
        let due = same-words (normal_form (the_alphabet d) (taken_in (drop k (follows_a d)))) in
        let point = d.start + 300 + k in
        let text : EndsIdle (follows_a d) → words_before d (d.asked + 1) ≡ words_before d point ++ words_due d =
        λ z. words_are (d.asked + 1) ∙ r.text z ∙ (λ i. sym (words_are point) i ++ sym due i) in
        let no_fault_due : EndsIdle (follows_a d) → all_chars (words_due d) ≡ true =
        λ z. subst (λ (l : List ℕ). all_chars l ≡ true) (sym due) (r.no_fault z) in
        record {
          before = r.before;
          text = text;
          no_fault_due = no_fault_due;
          no_fault = λ z. rw (text z, drop-append_seam (words_before d point) (words_due d)) (no_fault_due z);
        }
