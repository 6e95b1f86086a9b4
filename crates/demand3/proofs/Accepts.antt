-- Which calls succeed, told by the send model and by a run's report; and where no run has one by the send model alone,
-- so that whole lists of such calls can be computed over it.
use mathlib.Core.Path.{◌≡◌, ◌∙◌, refl, sym, ap, subst}
use mathlib.Core.Bool.{Bool, true, false, cond, ◌&&◌}
use mathlib.Core.List.{List, [], ◌∷◌, ◌++◌}
use Prim.Native.Nat.{ℕ, ◌+◌}
use lib.Dec.{eqb, leb}
use lib.ListN.{length}
use borrow.Author.Tests.{leb-true, le-leb}
use Rattle.lists.specs.Steps.{state_after, joined}
use Rattle.lists.specs.Lists.{all_at_most}
use Rattle.lists.proofs.Lists.{and_left, and_right, both}
use Rattle.alphabet.specs.declared.Mode.{Mode}
use Rattle.alphabet.specs.Modes.{mode_of, alphabet_of, highest_level}
use Rattle.alphabet.specs.Normal.{all_chars}
use Rattle.reader.specs.declared.Reader.{Reader}
use Rattle.reader.specs.Reader.{fresh}
use Rattle.queue.specs.Queue.{waiters, room}
use Rattle.edges.specs.declared.Report.{Report}
use Rattle.edges.specs.Edges.{no_edge}
use Rattle.edges.specs.Range.{report_in}
use Rattle.edges.proofs.Range.{empty-is}
use Rattle.station.specs.declared.Measured.{Measured}
use Rattle.station.specs.Station.{mode_of_station, alphabet_of_station, queue_of}
use Rattle.station.specs.Measured.{station_of, report_after}
use Rattle.station.specs.Entries.{offer_answer, run_answer}
use Rattle.station.proofs.Reports.{plain-few}
use Rattle.demand3.specs.Model.{Model, Step, Offer, Ms, fresh_model, offered, ms_after, model_after}
use Rattle.demand3.specs.Accepts.{accepts, has_room, model_left, is_plain, SucceedsAsModel, PlainAsModel}
use Rattle.demand3.specs.Calls.{Call, OfferCall, RunCall, opened, left, succeeds, steps_for, steps_if, left_by, steps_by}
use Rattle.demand3.proofs.Told.{told_reader}
use Rattle.demand3.proofs.OwnRules.{own-after}
use Rattle.demand3.proofs.StationLike.{Matches, mode-same, count_same, opened-matches}
use Rattle.demand3.proofs.Calls.{offer-succeeds, run-succeeds, told_for, call-like}

-- the steps of a list of calls, of which those succeed that the model accepts
unfoldable pub model_steps : Mode → Model → List Call → List Step
model_steps mode m [] = []
model_steps mode m (c ∷ cs) =
    let steps = cond (accepts mode m c) (steps_if c) [] in
    steps ++ model_steps mode (model_after mode m steps) cs

-- each of them an offer or a run without a report
unfoldable pub all_plain : List Call → Bool
all_plain [] = true
all_plain (c ∷ cs) = is_plain c && all_plain cs

-- the answers to questions 3 and 4; to 5 to 8 with the two of a report, 1 and 18
two-asked : (a b : Bool) → eqb (cond a (cond b 0 4) 3) 0 ≡ (a && b && true)
two-asked true true = refl
two-asked true false = refl
two-asked false b = refl

six-asked : (a b c d e f : Bool)
    → eqb (cond e (cond a (cond b (cond c (cond d (cond f 0 18) 8) 7) 6) 5) 1) 0 ≡ (a && b && c && d && (e && f))
six-asked true true true true true true = refl
six-asked true true true true true false = refl
six-asked true true true true false f = refl
six-asked true true true false true f = refl
six-asked true true true false false f = refl
six-asked true true false d true f = refl
six-asked true true false d false f = refl
six-asked true false c d true f = refl
six-asked true false c d false f = refl
six-asked false b c d true f = refl
six-asked false b c d false f = refl

-- a report of no edge is in range
no-report-in : report_in no_edge ≡ true
unfolding report_in
no-report-in = refl

module _ (mode : Mode) where
  accepts-is : (c : Call) (s : Measured) (m : Model) (r : Reader) → Matches mode s m r
      → succeeds s c ≡ (accepts mode m c && has_room s c)
  unfolding accepts has_room offer_answer run_answer room
  accepts-is (OfferCall text) s m r h =
      let l = h.like in
      let t = station_of s in
      let fits = leb (length m.waiting + length (waiters (alphabet_of mode) text)) 256 in
      let e : room (alphabet_of_station t) (queue_of t) text ≡ fits =
      λ i. leb (count_same mode t m r l i + length (waiters (alphabet_of (mode-same mode t m r l i)) text)) 256 in
      offer-succeeds s text ∙ (λ i. eqb (cond (h.ranged i) (cond (all_chars text) (cond (e i) 0 4) 3) 1) 0)
      ∙ two-asked (all_chars text) fits
  accepts-is (RunCall report heard sent words) s m r h =
      let few = leb (length heard) 4_096 in
      let sent_fits = leb (length heard) (length sent) in
      let words_fit = leb (length heard) (length words) in
      let edges_few = leb (report_after s report heard).edges 65_536 in
      let levels : all_at_most (highest_level (mode_of_station (station_of s))) heard
      ≡ all_at_most (highest_level mode) heard =
      λ i. all_at_most (highest_level (mode-same mode (station_of s) m r h.like i)) heard in
      run-succeeds s report heard sent words
      ∙ (λ i. eqb (cond (h.ranged i && report_in report)
      (cond few (cond (levels i) (cond sent_fits (cond words_fit (cond edges_few 0 18) 8) 7) 6) 5) 1) 0)
      ∙ six-asked few (all_at_most (highest_level mode) heard) sent_fits words_fit (report_in report) edges_few

  -- a plain call that the model accepts has room
  plain-room : (c : Call) (s : Measured) (m : Model) (r : Reader) → Matches mode s m r → is_plain c ≡ true
      → accepts mode m c ≡ true → has_room s c ≡ true
  unfolding accepts has_room is_plain
  plain-room (OfferCall text) s m r h p a = refl
  plain-room (RunCall report heard sent words) s m r h p a =
      let few = leb-true (length heard) 4_096 (and_left _ _ (and_left _ _ (and_left _ _ a))) in
      subst (λ (q : Report). (report_in q && leb (report_after s q heard).edges 65_536) ≡ true)
      (sym (empty-is report p)) (both no-report-in (le-leb _ 65_536 (plain-few s heard h.ranged few)))

  plain-is : (c : Call) (s : Measured) (m : Model) (r : Reader) → Matches mode s m r → is_plain c ≡ true
      → succeeds s c ≡ accepts mode m c
  plain-is c s m r h p = accepts-is c s m r h ∙ go (accepts mode m c) (plain-room c s m r h p)
    where
      go : (b : Bool) → (b ≡ true → has_room s c ≡ true) → (b && has_room s c) ≡ b
      go true has = has refl
      go false has = refl

  -- a station after a call, and its model
  next-matches : (c : Call) (s : Measured) (m : Model) (r : Reader) → Matches mode s m r
      → Matches mode (left s c) (model_after mode m (steps_for s c)) (told_reader mode m r (told_for mode m s c))
  next-matches c s m r h =
      subst (λ (k : Model). Matches mode (left s c) k (told_reader mode m r (told_for mode m s c)))
      (own-after mode (steps_for s c) m) (call-like mode c s m r h).matches

  model-append : (xs ys : List Step) (m : Model)
      → model_after mode m (xs ++ ys) ≡ model_after mode (model_after mode m xs) ys
  unfolding model_after
  model-append [] ys m = refl
  model-append (Offer cs ∷ xs) ys m = model-append xs ys (offered mode cs m)
  model-append (Ms x ∷ xs) ys m = model-append xs ys (ms_after mode m x)

  -- the reader beside the model that some calls leave
  record After (s : Measured) (m : Model) : Type 0 where
    reader : Reader
    matches : Matches mode s m reader

  calls-match : (past : List Call) (s : Measured) (m : Model) (r : Reader) → Matches mode s m r
      → After (left_by s past) (model_after mode m (steps_by s past))
  unfolding state_after joined model_after
  calls-match [] s m r h = record { reader = r; matches = h }
  calls-match (p ∷ past) s m r h =
      let steps = steps_for s p in
      subst (After (left_by (left s p) past)) (sym (model-append steps (steps_by (left s p) past) m))
      (calls-match past (left s p) (model_after mode m steps) (told_reader mode m r (told_for mode m s p))
      (next-matches p s m r h))

  model-steps : (cs : List Call) (s : Measured) (m : Model) (r : Reader) → Matches mode s m r → all_plain cs ≡ true
      → steps_by s cs ≡ model_steps mode m cs
  unfolding joined model_steps all_plain
  model-steps [] s m r h p = refl
  model-steps (c ∷ cs) s m r h p =
      let steps = steps_for s c in
      let e : steps ≡ cond (accepts mode m c) (steps_if c) [] =
      ap (λ (b : Bool). cond b (steps_if c) []) (plain-is c s m r h (and_left (is_plain c) (all_plain cs) p)) in
      let r' = told_reader mode m r (told_for mode m s c) in
      let later = and_right (is_plain c) (all_plain cs) p in
      let i = model-steps cs (left s c) (model_after mode m steps) r' (next-matches c s m r h) later in
      (λ j. steps ++ i j) ∙ ap (λ (l : List Step). l ++ model_steps mode (model_after mode m l) cs) e

-- after any calls on a fresh station
after-calls : (n : ℕ) (past : List Call) → After (mode_of n) (left_by (opened n) past) (model_left n past)
after-calls n past = calls-match (mode_of n) past (opened n) fresh_model fresh (opened-matches n)

pub succeeds-as-model : SucceedsAsModel
succeeds-as-model n past c = let a = after-calls n past in accepts-is (mode_of n) c _ _ a.reader a.matches

pub plain-as-model : PlainAsModel
plain-as-model n past c p = let a = after-calls n past in plain-is (mode_of n) c _ _ a.reader a.matches p

pub steps-are : (n : ℕ) (calls : List Call) → all_plain calls ≡ true
    → steps_by (opened n) calls ≡ model_steps (mode_of n) fresh_model calls
steps-are n calls p = model-steps (mode_of n) calls (opened n) fresh_model fresh (opened-matches n) p
