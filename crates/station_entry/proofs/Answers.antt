-- What a run answers: what a refusal leaves, and what success gives.
use mathlib.Core.Path.{◌≡◌, ◌∙◌, refl, sym, ap, subst}
use mathlib.Core.Bool.{Bool, true, false, cond, ◌&&◌, and-true}
use mathlib.Core.List.{List}
use Prim.Native.Nat.{ℕ, ◌≤◌, ◌<◌}
use native.Mathlib.Omega.{arith}
use lib.Dec.{eqb, leb}
use lib.ListN.{length}
use borrow.Author.Tests.{eqb-true, leb-true, le-leb}
use lib.Seq.{sets}
use Rattle.lists.specs.Lists.{all_at_most}
use Rattle.lists.proofs.Lists.{sets-front, and_left, and_right, both}
use Rattle.alphabet.specs.Modes.{highest_level}
use Rattle.edges.specs.declared.Report.{Report}
use Rattle.edges.specs.Edges.{no_edge}
use Rattle.edges.specs.Range.{report_in}
use Rattle.edges.proofs.Range.{report-is, none_of}
use Rattle.station.specs.declared.Measured.{Measured}
use Rattle.station.specs.Station.{mode_of_station, sent_by, words_by}
use Rattle.station.specs.Measured.{station_of, measured_after, report_after}
use Rattle.station.specs.Range.{measured_in}
use Rattle.station.specs.Entries.{StationRan, run_answer, ran, ran_of, sent_after, words_after}
use Rattle.station.proofs.Answers.{refused-run, refused-sent, refused-words, run-18}
use Rattle.station.proofs.Kept.{runs}
use Rattle.station.proofs.Lengths.{sent-length, few_words}
use Rattle.station.proofs.Reports.{plain-few}
use Rattle.station_entry.specs.code.Asking.{all_in, Counts}

-- what a run gives that succeeds
pub done : (x : Measured) (r : Report) (heard : List ℕ) (sent_room word_room : ℕ)
    → run_answer x r heard sent_room word_room ≡ 0
    → ran_of x r heard sent_room word_room
    ≡ ran (measured_after x heard) (report_after x r heard) 0 (length (words_by (station_of x) heard))
unfolding ran_of
done x r heard sent_room word_room a = simp a

-- ---- what a run leaves

module _ (x : Measured) (heard sent words : List ℕ) where
  module _ (r : Report) where
    abbrev pub given : StationRan
    given = ran_of x r heard (length sent) (length words)

    abbrev answer : ℕ
    answer = run_answer x r heard (length sent) (length words)

    -- the answer, and what is left of the station and of the two slices
    pub record Leaves (n : ℕ) (y : Measured) (zs ws : List ℕ) : Type 0 where
      pub answer-is : n ≡ given.answer
      pub station-is : y ≡ given.station
      pub sent_is : zs ≡ sent_after x r heard (length words) sent
      pub words_are : ws ≡ words_after x r heard (length sent) words

    -- by whether the answer a is 0
    abbrev ends : ℕ → Bool → StationRan
    ends a b =
        cond b (ran (measured_after x heard) (report_after x r heard) 0 (length (words_by (station_of x) heard)))
        (ran x r a 0)

    pub given-answer : given.answer ≡ answer
    unfolding ran_of
    given-answer = go (eqb answer 0) refl
      where
        go : (b : Bool) → eqb answer 0 ≡ b → (ends answer b).answer ≡ answer
        go true e = sym (eqb-true answer 0 e)
        go false e = refl

    -- a refusal leaves the station, the report and the slices, and counts no word
    module _ (n : ℕ) (z : n ≡ 0 → ⊥) (e : answer ≡ n) where
      no : answer ≡ 0 → ⊥
      no y = z (sym e ∙ y)

      g : given ≡ ran x r answer 0
      g = refused-run x r heard (length sent) (length words) no

      pub refused : Leaves n x sent words
      refused = record {
        answer-is = sym e ∙ sym given-answer;
        station-is = sym (ap (λ (k : StationRan). k.station) g);
        sent_is = sym (refused-sent x r heard (length words) sent no);
        words_are = sym (refused-words x r heard (length sent) words no);
      }

      pub refused-report : r ≡ given.report
      refused-report = sym (ap (λ (k : StationRan). k.report) g)

      pub refused-count : 0 ≡ given.words
      refused-count = sym (ap (λ (k : StationRan). k.words) g)

  -- success gives the station after all the ms, one sent ms for each and the words from the slices' fronts
  module _ (a : answer no_edge ≡ 0) where
    d : given no_edge
        ≡ ran (measured_after x heard) (report_after x no_edge heard) 0 (length (words_by (station_of x) heard))
    d = done x no_edge heard (length sent) (length words) a

    pub accepted : length heard ≤ length sent → length heard ≤ length words
        → (y : Measured) → y ≡ measured_after x heard
        → (sent' : List ℕ) → sent' ≡ sets sent 0 (sent_by (station_of x) heard)
        → (words' : List ℕ) → words' ≡ sets words 0 (words_by (station_of x) heard)
        → Leaves no_edge 0 y sent' words'
    unfolding sent_after words_after
    accepted p q y e sent' g words' i =
        let n = sent-length (station_of x) heard in
        let m = few_words (station_of x) heard in
        record {
          answer-is = sym (ap (λ (z : StationRan). z.answer) d);
          station-is = e ∙ sym (ap (λ (z : StationRan). z.station) d);
          sent_is = simp a (g ∙ sets-front sent (sent_by (station_of x) heard) (omega arith));
          words_are = simp a (i ∙ sets-front words (words_by (station_of x) heard) (omega arith));
        }

    pub accepted-count : length (words_by (station_of x) heard) ≡ (given no_edge).words
    accepted-count = sym (ap (λ (z : StationRan). z.words) d)

  -- two runs that answer the same differ in the report alone
  module _ (r q : Report) (e : answer r ≡ answer q) where
    abbrev told : StationRan → (ℕ × ℕ) × Measured
    told k = ((k.answer, k.words), k.station)

    same-told : told (given q) ≡ told (given r)
    unfolding ran_of
    same-told = rw e (go (eqb (answer q) 0))
      where
        go : (b : Bool) → told (ends q (answer q) b) ≡ told (ends r (answer q) b)
        go true = refl
        go false = refl

    same-slices : (sent_after x q heard (length words) sent ≡ sent_after x r heard (length words) sent)
        × (words_after x q heard (length sent) words ≡ words_after x r heard (length sent) words)
    unfolding sent_after words_after
    same-slices = (rw e refl, rw e refl)

    pub leaves-same : {n : ℕ} {y : Measured} {zs ws : List ℕ} → Leaves q n y zs ws → Leaves r n y zs ws
    leaves-same k =
        record {
          answer-is = k.answer-is ∙ ap (λ (m : (ℕ × ℕ) × Measured). m.0.0) same-told;
          station-is = k.station-is ∙ ap (λ (m : (ℕ × ℕ) × Measured). m.1) same-told;
          sent_is = k.sent_is ∙ same-slices.0;
          words_are = k.words_are ∙ same-slices.1;
        }

    pub count-same : (given q).words ≡ (given r).words
    count-same = ap (λ (m : (ℕ × ℕ) × Measured). m.0.1) same-told

  -- a run with the report r, whose count is not refused and gives the report p
  module _ (r p : Report) (c : Counts x r heard (length sent) (length words) 0 p) where
    -- the run without a report is refused
    pub drifts-refused : (n : ℕ) → (n ≡ 0 → ⊥) → {y : Measured} {zs ws : List ℕ} → Leaves no_edge n y zs ws
        → Leaves r n y zs ws × (r ≡ (given r).report)
    drifts-refused n z k =
        let e = c.as_plain refl in
        let a = e ∙ sym (given-answer no_edge) ∙ sym k.answer-is in
        (leaves-same r no_edge e k, refused-report r n z a)

    -- it succeeds
    pub drifts-done : {y : Measured} {zs ws : List ℕ} → Leaves no_edge 0 y zs ws
        → (Leaves r 0 y zs ws × (p ≡ (given r).report)) × ((given no_edge).words ≡ (given r).words)
    drifts-done k =
        let e = c.as_plain refl in
        let a = sym (given-answer no_edge) ∙ sym k.answer-is in (
          (
            leaves-same r no_edge e k,
            c.counted refl a
                ∙ sym (ap (λ (q : StationRan). q.report) (done x r heard (length sent) (length words) (e ∙ a))),
          ),
          count-same r no_edge e,
        )

-- ---- the answer to a run with a report, by the one without it

-- the answer by the six questions of a run
abbrev answer_by : Bool → Bool → Bool → Bool → Bool → Bool → ℕ
answer_by a b c d e f = cond a (cond b (cond c (cond d (cond e (cond f 0 18) 8) 7) 6) 5) 1

-- the last is answered yes without a report, and with it if the run without it succeeds
alike : (a b c d e f g : Bool) → (a ≡ true → b ≡ true → g ≡ true)
    → (answer_by a b c d e g ≡ 0 → f ≡ true) → answer_by a b c d e f ≡ answer_by a b c d e g
alike true true true true true f g h k = let y = h refl refl in simp (y, k (simp y))
alike true true true true false f g h k = refl
alike true true true false e f g h k = refl
alike true true false d e f g h k = refl
alike true false c d e f g h k = refl
alike false b c d e f g h k = refl

module _ (x : Measured) (heard : List ℕ) where
  abbrev levels : Bool
  levels = all_at_most (highest_level (mode_of_station (station_of x))) heard

  pub all_in-both : all_in x heard ≡ true → (measured_in x ≡ true) × (levels ≡ true)
  unfolding all_in
  all_in-both e = (and_left (measured_in x) levels e, and_right (measured_in x) levels e)

  module _ (sent_room word_room : ℕ) where
    abbrev plain : ℕ
    plain = run_answer x no_edge heard sent_room word_room

    abbrev fits : Bool
    fits = leb (length heard) sent_room && leb (length heard) word_room

    -- what a run without a report has that succeeds
    pub plain_in : plain ≡ 0 → all_in x heard ≡ true
    unfolding all_in
    plain_in z = let k = runs x no_edge heard sent_room word_room z in both k.ranged k.levels

    pub plain-accepts : plain ≡ 0 → (all_in x heard && fits) ≡ true
    plain-accepts z =
        let k = runs x no_edge heard sent_room word_room z in both (plain_in z) (both k.sent_fits k.words_fit)

    -- the answer by the questions, with a report in range
    by-questions : (q : Report) → report_in q ≡ true
        → run_answer x q heard sent_room word_room
        ≡ answer_by (measured_in x) (leb (length heard) 4_096) levels (leb (length heard) sent_room)
        (leb (length heard) word_room) (leb (report_after x q heard).edges 65_536)
    unfolding run_answer
    by-questions q i = rw (i, and-true) refl

    module _ (r : Report) where
      -- a refusal of the report's own
      pub counts-none : (n : ℕ) → (n ≡ 0 → ⊥) → run_answer x r heard sent_room word_room ≡ n → (q : Report)
          → Counts x r heard sent_room word_room n q
      counts-none n z e q = record { refuses = λ y. e; as_plain = λ y. absurd (z y); counted = λ y. absurd (z y) }

      module _ (i : report_in r ≡ true) where
        -- none, and q is the report after a run that succeeds
        pub counts_some : (q : Report) → (plain ≡ 0 → (q ≡ report_after x r heard) × (q.edges ≤ 65_536))
            → Counts x r heard sent_room word_room 0 q
        counts_some q k =
            let p = by-questions no_edge (report-is no_edge (none_of 65_536)) in
            record {
              refuses = λ n. absurd (n refl);
              as_plain = λ y.
                  by-questions r i
                  ∙ alike _ _ levels (leb (length heard) sent_room) (leb (length heard) word_room) _ _
                  (λ a b. le-leb _ _ (plain-few x heard a (leb-true _ _ b))) (λ z. few (k (p ∙ z)))
                  ∙ sym p;
              counted = λ y z. (k z).0;
            }
          where
            few : (q ≡ report_after x r heard) × (q.edges ≤ 65_536)
                → leb (report_after x r heard).edges 65_536 ≡ true
            few h = le-leb _ _ (subst (λ (p : Report). p.edges ≤ 65_536) h.0 h.1)

        -- none, since the run is too long
        pub counts-long : 4_096 < length heard → (q : Report) → Counts x r heard sent_room word_room 0 q
        counts-long l q =
            counts_some q (λ z.
            let f = leb-true (length heard) 4_096 (runs x no_edge heard sent_room word_room z).few in
            absurd (omega arith))

        -- the report has no room for a run that is accepted
        pub full : length heard ≤ 4_096 → (all_in x heard && fits) ≡ true → 65_536 < (report_after x r heard).edges
            → run_answer x r heard sent_room word_room ≡ 18
        full l a m =
            let s = leb (length heard) sent_room in
            let w = leb (length heard) word_room in
            let t = all_in-both (and_left (all_in x heard) fits a) in
            let f = and_right (all_in x heard) fits a in
            run-18 x r heard sent_room word_room t.0 i l t.1
            (leb-true (length heard) sent_room (and_left s w f)) (leb-true (length heard) word_room (and_right s w f)) m
