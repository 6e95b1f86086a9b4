-- In place of a run that succeeds, two runs: the same words, sent ms and steps, whatever calls stand around it.
use mathlib.Core.Path.{◌≡◌, ◌∙◌, refl, sym, ap, subst}
use mathlib.Core.List.{List, [], ◌∷◌, ◌++◌, map, append_assoc}
use Prim.Native.Nat.{ℕ, ◌≤◌}
use lib.ListN.{length}
use Rattle.lists.specs.Steps.{joined, state_after}
use Rattle.edges.specs.declared.Report.{Report}
use Rattle.station.specs.declared.Station.{Station}
use Rattle.station.specs.declared.Measured.{Measured}
use Rattle.station.specs.Measured.{station_of, measured_after, report_after}
use Rattle.station.specs.Station.{station_after, sent_by as sent_run, words_by as words_run}
use Rattle.station.proofs.Edged.{station-after}
use Rattle.station.proofs.Kept.{offer-full, run-full}
use Rattle.station.proofs.Cuts.{cut}
use Rattle.station.proofs.Reports.{measured-append, first_runs, second_runs}
use Rattle.demand3.specs.Model.{Ms}
use Rattle.demand3.specs.Calls.{Call, OfferCall, RunCall, opened, left, report_left, sent_for, words_for, steps_for}
use Rattle.demand3.specs.Calls.{left_by, sent_by, words_by, steps_by}
use Rattle.demand3.specs.Demand3.{CutInTwo}
use Rattle.demand3.proofs.StationLike.{opened-matches}
use Rattle.demand3.proofs.Cuts.{behind}
use Rattle.demand3.proofs.Calls.{answer_to, run-answer, left-of, report-of, words-of, sent-of, steps_of}

-- the calls a and b in place of c leave the same station and hand out the same
record Two (s : Measured) (c a b : Call) : Type 0 where
  left_is : left (left s a) b ≡ left s c
  words_are : words_for s c ≡ words_for s a ++ words_for (left s a) b
  sent_are : sent_for s c ≡ sent_for s a ++ sent_for (left s a) b
  steps-are : steps_for s c ≡ steps_for s a ++ steps_for (left s a) b

map-append : (xs ys : List ℕ) → map Ms (xs ++ ys) ≡ map Ms xs ++ map Ms ys
map-append [] ys = refl
map-append (x ∷ xs) ys = behind (map-append xs ys)

module _ (r : Report) (xs ys sent words sent1 words1 sent2 words2 : List ℕ) (s : Measured)
    (full : length s.chars ≡ 256) (z : answer_to s r (xs ++ ys) sent words ≡ 0)
    (p : length xs ≤ length sent1) (q : length xs ≤ length words1)
    (u : length ys ≤ length sent2) (v : length ys ≤ length words2) where
  abbrev c : Call
  c = RunCall r (xs ++ ys) sent words

  abbrev a : Call
  a = RunCall r xs sent1 words1

  -- the station and the report between the two
  abbrev t : Measured
  t = measured_after s xs

  abbrev w : Report
  w = report_after s r xs

  abbrev b : Call
  b = RunCall w ys sent2 words2

  first : answer_to s r xs sent1 words1 ≡ 0
  first = first_runs s r xs ys (length sent) (length words) z (length sent1) (length words1) p q

  second : answer_to t w ys sent2 words2 ≡ 0
  second = second_runs s r xs ys (length sent) (length words) z full (length sent2) (length words2) u v

  -- what the two hand out, by what each of them does
  behind-first : {X : Type 0} (of : Measured → Call → List X) {fs gs : List X} → of s a ≡ fs → of t b ≡ gs
      → fs ++ gs ≡ of s a ++ of (left s a) b
  behind-first of e g = sym (λ i. e i ++ (ap (λ (t : Measured). of t b) (left-of s r xs sent1 words1 first) ∙ g) i)

  -- the second goes on where the first left the inner station
  goes_on : (of : Station → List ℕ → List ℕ) → of (station_of t) ys ≡ of (station_after (station_of s) xs) ys
  goes_on of = ap (λ (k : Station). of k ys) (station-after s xs)

  two-with : Two s c a b
  two-with =
      let k = cut (station_of s) xs ys in
      let words-b = words-of t w ys sent2 words2 second ∙ goes_on words_run in
      let sent-b = sent-of t w ys sent2 words2 second ∙ goes_on sent_run in
      record {
        left_is =
            ap (λ (t : Measured). left t b) (left-of s r xs sent1 words1 first) ∙ left-of t w ys sent2 words2 second
            ∙ sym (measured-append s xs ys) ∙ sym (left-of s r (xs ++ ys) sent words z);
        words_are =
            words-of s r (xs ++ ys) sent words z ∙ k.words
            ∙ behind-first words_for (words-of s r xs sent1 words1 first) words-b;
        sent_are =
            sent-of s r (xs ++ ys) sent words z ∙ k.sent
            ∙ behind-first sent_for (sent-of s r xs sent1 words1 first) sent-b;
        steps-are =
            steps_of s r (xs ++ ys) sent words z ∙ map-append xs ys
            ∙ behind-first steps_for (steps_of s r xs sent1 words1 first) (steps_of t w ys sent2 words2 second);
      }

  two : Two s c a (RunCall (report_left s a) ys sent2 words2)
  two =
      subst (λ (q : Report). Two s c a (RunCall q ys sent2 words2)) (sym (report-of s r xs sent1 words1 first)) two-with

-- the calls around them: `of` is what a call hands out, `by` what a list does
module _ {X : Type 0} (of : Measured → Call → List X) (by : Measured → List Call → List X)
    (step : (s : Measured) (c : Call) (cs : List Call) → by s (c ∷ cs) ≡ of s c ++ by (left s c) cs) where
  around : (past next : List Call) (c a b : Call) (s : Measured) → let t = left_by s past in
      left (left t a) b ≡ left t c → of t c ≡ of t a ++ of (left t a) b
      → by s (past ++ (c ∷ next)) ≡ by s (past ++ (a ∷ b ∷ next))
  unfolding state_after
  around [] next c a b s l e =
      step s c next ∙ (λ i. e i ++ by (sym l i) next)
      ∙ append_assoc (of s a) (of (left s a) b) (by (left (left s a) b) next)
      ∙ ap (λ r. of s a ++ r) (sym (step (left s a) b next)) ∙ sym (step s a (b ∷ next))
  around (q ∷ past) next c a b s l e =
      step s q (past ++ (c ∷ next)) ∙ ap (λ r. of s q ++ r) (around past next c a b (left s q) l e)
      ∙ sym (step s q (past ++ (a ∷ b ∷ next)))

-- every station of a list has 256 places
left-full : (cs : List Call) (s : Measured) → length s.chars ≡ 256 → length (left_by s cs).chars ≡ 256
unfolding state_after
left-full [] s f = f
left-full (OfferCall text ∷ cs) s f = left-full cs (left s (OfferCall text)) (offer-full s text f)
left-full (RunCall r heard sent words ∷ cs) s f =
    left-full cs (left s (RunCall r heard sent words)) (run-full s r heard (length sent) (length words) f)

pub cut-in-two : CutInTwo
unfolding joined
cut-in-two n past next r xs ys sent words sent1 words1 sent2 words2 e p q u v =
    let o = opened n in
    let s = left_by o past in
    let c = RunCall r (xs ++ ys) sent words in
    let a = RunCall r xs sent1 words1 in
    let b = RunCall (report_left s a) ys sent2 words2 in
    let full = left-full past o (opened-matches n).like.full in
    let z = run-answer s r (xs ++ ys) sent words e in
    let t = two r xs ys sent words sent1 words1 sent2 words2 s full z p q u v in
    record {
      same-words = around words_for words_by (λ s c cs. refl) past next c a b o t.left_is t.words_are;
      same_sent = around sent_for sent_by (λ s c cs. refl) past next c a b o t.left_is t.sent_are;
      same_steps = around steps_for steps_by (λ s c cs. refl) past next c a b o t.left_is t.steps-are;
    }
