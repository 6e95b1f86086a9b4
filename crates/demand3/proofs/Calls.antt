-- A list of calls on a station goes with its model and reader, told by the station's own rules: what it sends, what it
-- hears, and its words up to a cut after any ms.
use mathlib.Core.Path.{◌≡◌, ◌∙◌, refl, sym, ap, subst}
use mathlib.Core.Bool.{Bool, true, false, cond}
use mathlib.Core.Logic.{◌⊎◌, inl, inr}
use mathlib.Core.List.{List, [], ◌∷◌, ◌++◌, map}
use Prim.Native.Nat.{ℕ, zero, suc, ◌-◌}
use native.Mathlib.Omega.{arith}
use lib.Dec.{eqb, leb}
use lib.ListN.{length, take, drop, length-take, take-append-drop}
use lib.Seq.{take-nil, take_all, take_at, take-append_seam}
use borrow.Author.Tests.{eqb-true, eqb-false, leb-true, leb-false}
use Rattle.lists.specs.Lists.{all_at_most}
use Rattle.lists.specs.Steps.{state_after, outputs, joined}
use Rattle.lists.proofs.Lists.{at-most-head, at-most-tail, at-most-more, at-most-append}
use Rattle.alphabet.specs.declared.Mode.{Mode}
use Rattle.alphabet.specs.Modes.{highest_level}
use Rattle.reader.specs.declared.Event.{Event}
use Rattle.reader.specs.declared.Reader.{Reader}
use Rattle.reader.specs.Words.{words_of}
use Rattle.reader.proofs.WordLists.{words_append}
use Rattle.edges.specs.declared.Report.{Report}
use Rattle.station.specs.declared.Station.{Station}
use Rattle.station.specs.declared.Measured.{Measured}
use Rattle.station.specs.Station.{mode_of_station, offered_to, station_ms, station_after, events_by, sent_by as sent_run, words_by as words_run}
use Rattle.station.specs.Measured.{measured, station_of, measured_after, report_after}
use Rattle.station.specs.Entries.{StationAnswered, StationRan, answered, ran, offer_answer, offer_of, run_answer, ran_of}
use Rattle.station.specs.Entries.{sent_after, words_after}
use Rattle.station.proofs.Range.{highest-16}
use Rattle.station.proofs.Lengths.{sent-length}
use Rattle.station.proofs.Edged.{station-after}
use Rattle.station.proofs.Kept.{after-measured, accepted, offered-measured, runs}
use Rattle.station.proofs.Answers.{refused-offer, refused-run}
use Rattle.station.proofs.Reports.{first_runs}
use Rattle.demand3.specs.Model.{Model, Ms, begins_in, load, ends_in, ms_after, sent_in, heard_in, ms_in}
use Rattle.demand3.specs.Calls.{Call, OfferCall, RunCall, left, report_left, succeeds, sent_for, words_for, steps_for}
use Rattle.demand3.specs.Calls.{sent_by, words_by, steps_by, cut_for, up_to}
use Rattle.demand3.proofs.Told.{Told, ms_by, reader_by, told_after, told_does, told_heard, told_ms, told_reader}
use Rattle.demand3.proofs.Told.{told_events}
use Rattle.demand3.proofs.Cuts.{behind, take-append, heard-append, sent-append, does-append, events-append}
use Rattle.demand3.proofs.Cuts.{events-length}
use Rattle.demand3.proofs.OwnRules.{told_of, own-heard, own-append}
use Rattle.demand3.proofs.StationLike.{Like, Matches, mode-same, sent-same, event-same, ms-like, offer-like}

-- ---- which calls succeed, and what they leave

-- a station that was offered a text
abbrev offered_text : Measured → List ℕ → Measured
offered_text s text = measured (offered_to (station_of s) text) s.edges

offer-yes : (s : Measured) (text : List ℕ) → offer_answer s text ≡ 0 → offer_of s text
    ≡ answered (offered_text s text) 0
unfolding offer_of
offer-yes s text e = rw e refl

pub offer-succeeds : (s : Measured) (text : List ℕ) → succeeds s (OfferCall text) ≡ eqb (offer_answer s text) 0
unfolding offer_of
offer-succeeds s text = go (offer_answer s text) (eqb (offer_answer s text) 0) refl
  where
    go : (a : ℕ) (b : Bool) → eqb a 0 ≡ b
        → eqb (cond b (answered (offered_text s text) 0) (answered s a)).answer 0 ≡ eqb a 0
    go a true e = sym e
    go a false e = refl

-- the answer to a run, and what it gives if it succeeds
abbrev pub answer_to : Measured → Report → List ℕ → List ℕ → List ℕ → ℕ
answer_to s r heard sent words = run_answer s r heard (length sent) (length words)

abbrev done_by : Measured → Report → List ℕ → StationRan
done_by s r heard =
    ran (measured_after s heard) (report_after s r heard) 0 (length (words_run (station_of s) heard))

module _ (s : Measured) (r : Report) (heard sent words : List ℕ) where
  abbrev the_run : Call
  the_run = RunCall r heard sent words

  pub run-succeeds : succeeds s the_run ≡ eqb (answer_to s r heard sent words) 0
  unfolding ran_of
  run-succeeds = go (answer_to s r heard sent words) (eqb (answer_to s r heard sent words) 0) refl
    where
      go : (a : ℕ) (b : Bool) → eqb a 0 ≡ b → eqb (cond b (done_by s r heard) (ran s r a 0)).answer 0 ≡ eqb a 0
      go a true e = sym e
      go a false e = refl

  pub run-answer : succeeds s the_run ≡ true → answer_to s r heard sent words ≡ 0
  run-answer e = eqb-true (answer_to s r heard sent words) 0 (sym run-succeeds ∙ e)

  -- what a run that succeeds hands out
  module _ (z : answer_to s r heard sent words ≡ 0) where
    run_is : ran_of s r heard (length sent) (length words) ≡ done_by s r heard
    unfolding ran_of
    run_is = rw z refl

    it-succeeds : succeeds s the_run ≡ true
    it-succeeds = ap (λ (a : StationRan). eqb a.answer 0) run_is

    pub left-of : left s the_run ≡ measured_after s heard
    left-of = ap (λ (a : StationRan). a.station) run_is

    pub report-of : report_left s the_run ≡ report_after s r heard
    report-of = ap (λ (a : StationRan). a.report) run_is

    pub words-of : words_for s the_run ≡ words_run (station_of s) heard
    unfolding words_after
    words-of =
        let done = words_run (station_of s) heard in
        rw (it-succeeds, run_is, z) (take-append_seam done (drop (length done) words))

    pub sent-of : sent_for s the_run ≡ sent_run (station_of s) heard
    unfolding sent_after
    sent-of =
        let done = sent_run (station_of s) heard in
        rw (it-succeeds, z) (take_at done (drop (length done) sent) (length heard) (sent-length (station_of s) heard))

    pub steps_of : steps_for s the_run ≡ map Ms heard
    steps_of = rw it-succeeds refl

    -- it succeeds on its first n ms, too
    run-cut : (n : ℕ) → answer_to s r (take n heard) sent words ≡ 0
    run-cut n =
        let k = runs s r heard (length sent) (length words) z in
        let l = length-take n heard in
        let a = leb-true (length heard) (length sent) k.sent_fits in
        let b = leb-true (length heard) (length words) k.words_fit in
        let y = subst (λ (l : List ℕ). answer_to s r l sent words ≡ 0) (sym (take-append-drop n heard)) z in
        first_runs s r (take n heard) (drop n heard) (length sent) (length words) y (length sent) (length words)
        (omega arith) (omega arith)

-- a refused call leaves the station
pub refused-left : (s : Measured) (c : Call) → succeeds s c ≡ false → left s c ≡ s
refused-left s (OfferCall text) e =
    let no = eqb-false (offer_answer s text) 0 (sym (offer-succeeds s text) ∙ e) in
    ap (λ (a : StationAnswered). a.station) (refused-offer s text no)
refused-left s (RunCall r heard sent words) e =
    let no = eqb-false (answer_to s r heard sent words) 0 (sym (run-succeeds s r heard sent words) ∙ e) in
    ap (λ (a : StationRan). a.station) (refused-run s r heard (length sent) (length words) no)

-- of the first n ms, the first n events
outputs-take : (n : ℕ) (heard : List ℕ) (s : Station) → events_by s (take n heard) ≡ take n (events_by s heard)
unfolding outputs
outputs-take zero heard s = refl
outputs-take (suc n) [] s = refl
outputs-take (suc n) (x ∷ xs) s = behind (outputs-take n xs (station_ms s x))

heard-run : (heard : List ℕ) → heard_in (map Ms heard) ≡ heard
unfolding heard_in
heard-run [] = refl
heard-run (x ∷ xs) = behind (heard-run xs)

-- before the first ms there is no call
up-zero : (s : Measured) (cs : List Call) → up_to s cs 0 ≡ []
unfolding up_to
up-zero s [] = refl
up-zero s (c ∷ cs) = refl

no_words : (n : ℕ) → ◌≡◌ {A = List ℕ} [] (words_of (take n []))
unfolding words_of
no_words n = rw (take-nil {A = Event} n) refl

module _ (mode : Mode) where
  -- ---- a run
  record RunLike (s : Station) (m : Model) (r : Reader) (heard : List ℕ) (told : List Told) : Type 0 where
    like : Like mode (station_after s heard) (told_after mode m told) (told_reader mode m r told)
    sent_are : sent_run s heard ≡ sent_in (told_does mode m told)
    events-are : events_by s heard ≡ told_events mode m r told

  run-like : (heard : List ℕ) (s : Station) (m : Model) (r : Reader) → all_at_most (highest_level mode) heard ≡ true
      → Like mode s m r → RunLike s m r heard (told_of mode m (map Ms heard))
  unfolding state_after outputs told_of told_after told_reader told_does told_events ms_by ms_after load
  run-like [] s m r a h = record { like = h; sent_are = refl; events-are = refl }
  run-like (x ∷ xs) s m r a h =
      let k = at-most-head (highest_level mode) x xs a in
      let m' = ms_by mode (begins_in m) (ends_in mode m) m x in
      let r' = reader_by mode (begins_in m) m r x in
      let l = at-most-tail (highest_level mode) x xs a in
      let g = run-like xs (station_ms s x) m' r' l (ms-like mode s m r h x k) in
      record {
        like = g.like;
        sent_are = λ i. sent-same mode s m r h x i ∷ g.sent_are i;
        events-are = λ i. event-same mode s m r h x i ∷ g.events-are i;
      }

  -- ---- a call
  abbrev pub told_for : Model → Measured → Call → List Told
  told_for m s c = told_of mode m (steps_for s c)

  pub record CallLike (c : Call) (s : Measured) (m : Model) (r : Reader) (told : List Told) : Type 0 where
    pub matches : Matches mode (left s c) (told_after mode m told) (told_reader mode m r told)
    pub sent_are : sent_for s c ≡ sent_in (told_does mode m told)
    pub levels : all_at_most 16 (told_heard told) ≡ true
    -- cut after n ms: its words, and the station that it leaves, if n ms are not fewer than it has
    pub words_cut : (n : ℕ) → words_for s (cut_for s c n) ≡ words_of (take n (told_events mode m r told))
    pub left_cut : (n : ℕ) → (left s (cut_for s c n) ≡ left s c) ⊎ (n - told_ms told ≡ 0)

  -- it is refused
  refused : (c : Call) (s : Measured) (m : Model) (r : Reader) → succeeds s c ≡ false → Matches mode s m r
      → CallLike c s m r (told_for m s c)
  unfolding told_of told_after told_reader told_does told_events told_heard all_at_most
  refused c s m r e h = record {
    matches = rw (e, refused-left s c e) h;
    sent_are = rw e refl;
    levels = rw e refl;
    words_cut = λ n. rw (e, e) (no_words n);
    left_cut = λ n. inl (rw e refl);
  }

  -- an offer that succeeds
  offers : (text : List ℕ) (s : Measured) (m : Model) (r : Reader) → offer_answer s text ≡ 0 → Matches mode s m r
      → CallLike (OfferCall text) s m r (told_for m s (OfferCall text))
  unfolding told_of told_after told_reader told_does told_events told_heard all_at_most
  offers text s m r z h =
      let y = offer-yes s text z in
      let e : succeeds s (OfferCall text) ≡ true = ap (λ (a : StationAnswered). eqb a.answer 0) y in
      let l : left s (OfferCall text) ≡ offered_text s text = ap (λ (a : StationAnswered). a.station) y in
      record {
        matches =
            rw (e, l)
            (record {
              ranged = offered-measured s text h.like.full z;
              like = offer-like mode (station_of s) m r h.like text (accepted s text z).1;
            });
        sent_are = rw e refl;
        levels = rw e refl;
        words_cut = λ n. rw (e, e) (no_words n);
        left_cut = λ n. inl (rw e refl);
      }

  -- a run that succeeds
  module _ (report : Report) (heard sent words : List ℕ) (s : Measured) (m : Model) (r : Reader)
      (z : answer_to s report heard sent words ≡ 0) (h : Matches mode s m r) where
    abbrev run : Call
    run = RunCall report heard sent words

    abbrev told : List Told
    told = told_of mode m (map Ms heard)

    own-levels : all_at_most (highest_level (mode_of_station (station_of s))) heard ≡ true
    own-levels = (runs s report heard (length sent) (length words) z).levels

    levels-in : all_at_most (highest_level mode) heard ≡ true
    levels-in =
        subst (λ (k : Mode). all_at_most (highest_level k) heard ≡ true) (mode-same mode (station_of s) m r h.like)
        own-levels

    heard-is : told_heard told ≡ heard
    heard-is = own-heard mode (map Ms heard) m ∙ heard-run heard

    cut_by : (n : ℕ) (b : Bool) → leb (length heard) n ≡ b
        → (left s (RunCall report (take n heard) sent words) ≡ left s run) ⊎ (n - told_ms told ≡ 0)
    cut_by n true b =
        inl
        (ap (λ (xs : List ℕ). left s (RunCall report xs sent words)) (take_all n heard (leb-true (length heard) n b)))
    cut_by n false b =
        let k = leb-false (length heard) n b in
        let e = ap length heard-is in
        inr (omega arith)

    ran-like : CallLike run s m r (told_for m s run)
    ran-like =
        let g = run-like heard (station_of s) m r levels-in h.like in
        let e = it-succeeds s report heard sent words z in
        subst (CallLike run s m r) (ap (told_of mode m) (sym (steps_of s report heard sent words z)))
        (record {
          matches =
              rw (left-of s report heard sent words z)
              (record {
                ranged = after-measured s heard h.like.full h.ranged own-levels;
                like =
                    subst (λ (t : Station). Like mode t (told_after mode m told) (told_reader mode m r told))
                    (sym (station-after s heard)) g.like;
              });
          sent_are = sent-of s report heard sent words z ∙ g.sent_are;
          levels = rw heard-is (at-most-more (highest_level mode) 16 heard (highest-16 mode) levels-in);
          words_cut = λ n.
              let y = run-cut s report heard sent words z n in
              let es = outputs-take n heard (station_of s) ∙ ap (take n) g.events-are in
              rw e (words-of s report (take n heard) sent words y ∙ ap words_of es);
          left_cut = λ n. rw e (cut_by n (leb (length heard) n) refl);
        })

  pub call-like : (c : Call) (s : Measured) (m : Model) (r : Reader) → Matches mode s m r
      → CallLike c s m r (told_for m s c)
  call-like (OfferCall text) s m r h = go (eqb (offer_answer s text) 0) refl
    where
      go : (b : Bool) → eqb (offer_answer s text) 0 ≡ b → CallLike (OfferCall text) s m r
          (told_for m s (OfferCall text))
      go true e = offers text s m r (eqb-true (offer_answer s text) 0 e) h
      go false e = refused (OfferCall text) s m r (offer-succeeds s text ∙ e) h
  call-like (RunCall report heard sent words) s m r h = go (eqb (answer_to s report heard sent words) 0) refl
    where
      c : Call
      c = RunCall report heard sent words

      go : (b : Bool) → eqb (answer_to s report heard sent words) 0 ≡ b → CallLike c s m r (told_for m s c)
      go true e = ran-like report heard sent words s m r (eqb-true (answer_to s report heard sent words) 0 e) h
      go false e = refused c s m r (run-succeeds s report heard sent words ∙ e) h

  -- ---- a list of calls
  abbrev pub told_by : Model → Measured → List Call → List Told
  told_by m s cs = told_of mode m (steps_by s cs)

  -- the first call, and the others
  told-calls : (c : Call) (cs : List Call) (s : Measured) (m : Model)
      → told_by m s (c ∷ cs) ≡ told_for m s c ++ told_by (told_after mode m (told_for m s c)) (left s c) cs
  unfolding joined
  told-calls c cs s m = own-append mode (steps_for s c) (steps_by (left s c) cs) m

  pub record CallsLike (cs : List Call) (s : Measured) (m : Model) (told : List Told) : Type 0 where
    pub sent_are : sent_by s cs ≡ sent_in (told_does mode m told)
    pub levels : all_at_most 16 (told_heard told) ≡ true

  pub calls-like : (cs : List Call) (s : Measured) (m : Model) (r : Reader) → Matches mode s m r
      → CallsLike cs s m (told_by m s cs)
  unfolding joined told_of told_does told_heard all_at_most
  calls-like [] s m r h = record { sent_are = refl; levels = refl }
  calls-like (c ∷ cs) s m r h =
      let g = call-like c s m r h in
      let told = told_for m s c in
      let m' = told_after mode m told in
      let i = calls-like cs (left s c) m' (told_reader mode m r told) g.matches in
      let next = told_by m' (left s c) cs in
      subst (CallsLike (c ∷ cs) s m) (sym (told-calls c cs s m))
      (record {
        sent_are =
            (λ j. g.sent_are j ++ i.sent_are j) ∙ sym (sent-append (told_does mode m told) (told_does mode m' next))
            ∙ ap sent_in (sym (does-append mode told next m));
        levels =
            rw (heard-append told next) (at-most-append 16 (told_heard told) (told_heard next) g.levels i.levels);
      })

  -- the words up to a cut after n ms
  pub words-up-to : (cs : List Call) (n : ℕ) (s : Measured) (m : Model) (r : Reader) → Matches mode s m r
      → words_by s (up_to s cs n) ≡ words_of (take n (told_events mode m r (told_by m s cs)))
  unfolding up_to joined told_of told_events words_of
  words-up-to [] n s m r h = no_words n
  words-up-to (c ∷ cs) zero s m r h = refl
  words-up-to (c ∷ cs) (suc n) s m r h =
      let g = call-like c s m r h in
      let told = told_for m s c in
      let m' = told_after mode m told in
      let r' = told_reader mode m r told in
      let es = told_events mode m r told in
      let next = told_by m' (left s c) cs in
      let fs = told_events mode m' r' next in
      let k = suc n - ms_in (steps_for s c) in
      let heard = ap length (own-heard mode (steps_for s c) m) in
      let z : suc n - length es ≡ k = ap (λ (j : ℕ). suc n - j) (events-length mode told m r ∙ heard) in
      let t = left s (cut_for s c (suc n)) in
      let cut = subst (λ (j : ℕ). (t ≡ left s c) ⊎ (suc n - j ≡ 0)) heard (g.left_cut (suc n)) in
      let i = words-up-to cs k (left s c) m' r' g.matches in
      let all : told_events mode m r (told_by m s (c ∷ cs)) ≡ es ++ fs =
      ap (told_events mode m r) (told-calls c cs s m) ∙ events-append mode told next m r in
      let parts = take-append (suc n) es fs ∙ ap (λ (j : ℕ). take (suc n) es ++ take j fs) z in
      (λ j. g.words_cut (suc n) j ++ go k fs t cut i j)
      ∙ sym (words_append (take (suc n) es) (take k fs))
      ∙ ap words_of (sym (ap (take (suc n)) all ∙ parts))
    where
      go : (k : ℕ) (fs : List Event) (t : Measured) → (t ≡ left s c) ⊎ (k ≡ 0)
          → words_by (left s c) (up_to (left s c) cs k) ≡ words_of (take k fs)
          → words_by t (up_to (left s c) cs k) ≡ words_of (take k fs)
      go k fs t (inl e) i = ap (λ (x : Measured). words_by x (up_to (left s c) cs k)) e ∙ i
      go k fs t (inr e) i =
          ap (λ (j : ℕ). words_by t (up_to (left s c) cs j)) e ∙ ap (words_by t) (up-zero (left s c) cs)
          ∙ ap (λ (j : ℕ). words_of (take j fs)) (sym e)
