-- The first no decides; a refusal gives back the station and the report as given and leaves the slices.
use mathlib.Core.Path.{◌≡◌, refl}
use mathlib.Core.Bool.{true, false, and-false}
use mathlib.Core.List.{List}
use Prim.Native.Nat.{ℕ, ◌<◌, ◌≤◌}
use lib.ListN.{length}
use borrow.Author.Tests.{le-leb, lt-leb, ne_eqb}
use Rattle.lists.specs.Lists.{all_at_most}
use Rattle.alphabet.specs.Modes.{highest_level}
use Rattle.alphabet.specs.Normal.{all_chars}
use Rattle.edges.specs.declared.Report.{Report}
use Rattle.edges.specs.Range.{report_in}
use Rattle.queue.specs.Queue.{room}
use Rattle.station.specs.declared.Measured.{Measured}
use Rattle.station.specs.declared.Station.{Station}
use Rattle.station.specs.Station.{mode_of_station, alphabet_of_station, queue_of}
use Rattle.station.specs.Measured.{station_of, fresh_measured, report_after}
use Rattle.station.specs.Range.{measured_in}
use Rattle.station.specs.Entries.{answered, is_mode, open_of, offer_answer, offer_of, run_answer, ran, ran_of, sent_after, words_after}

pub refused-open : (mode : ℕ) → is_mode mode ≡ false → open_of mode ≡ answered (fresh_measured 1) 2
unfolding open_of
refused-open mode e = simp e

module _ (x : Measured) (text : List ℕ) where
  abbrev s : Station
  s = station_of x

  pub refused-offer : (offer_answer x text ≡ 0 → ⊥) → offer_of x text ≡ answered x (offer_answer x text)
  unfolding offer_of
  refused-offer n = simp (ne_eqb (offer_answer x text) 0 n)

  pub offer-1 : measured_in x ≡ false → offer_answer x text ≡ 1
  unfolding offer_answer
  offer-1 e = simp e

  pub offer-3 : measured_in x ≡ true → all_chars text ≡ false → offer_answer x text ≡ 3
  unfolding offer_answer
  offer-3 a e = simp (a, e)

  pub offer-4 : measured_in x ≡ true → all_chars text ≡ true → room (alphabet_of_station s) (queue_of s) text ≡ false
      → offer_answer x text ≡ 4
  unfolding offer_answer
  offer-4 a b e = simp (a, b, e)

  pub offer-0 : measured_in x ≡ true → all_chars text ≡ true → room (alphabet_of_station s) (queue_of s) text ≡ true
      → offer_answer x text ≡ 0
  unfolding offer_answer
  offer-0 a b e = simp (a, b, e)

module _ (x : Measured) (r : Report) (heard : List ℕ) (sent_room word_room : ℕ) where
  abbrev answer : ℕ
  answer = run_answer x r heard sent_room word_room

  pub refused-run : (answer ≡ 0 → ⊥) → ran_of x r heard sent_room word_room ≡ ran x r answer 0
  unfolding ran_of
  refused-run n = simp (ne_eqb answer 0 n)

  pub run-1 : measured_in x ≡ false → answer ≡ 1
  unfolding run_answer
  run-1 e = simp e

  pub run-1-report : report_in r ≡ false → answer ≡ 1
  unfolding run_answer
  run-1-report e = rw (e, and-false) refl

  module _ (a : measured_in x ≡ true) where
    module _ (q : report_in r ≡ true) where
      pub run-5 : 4_096 < length heard → answer ≡ 5
      unfolding run_answer
      run-5 h = simp (a, q, lt-leb (length heard) 4_096 h)

      module _ (b : length heard ≤ 4_096) where
        pub run-6 : all_at_most (highest_level (mode_of_station (station_of x))) heard ≡ false → answer ≡ 6
        unfolding run_answer
        run-6 e = simp (a, q, le-leb (length heard) 4_096 b, e)

        module _ (c : all_at_most (highest_level (mode_of_station (station_of x))) heard ≡ true) where
          pub run-7 : sent_room < length heard → answer ≡ 7
          unfolding run_answer
          run-7 h = simp (a, q, le-leb (length heard) 4_096 b, c, lt-leb (length heard) sent_room h)

          module _ (d : length heard ≤ sent_room) where
            pub run-8 : word_room < length heard → answer ≡ 8
            unfolding run_answer
            run-8 h =
                let few = le-leb (length heard) 4_096 b in
                simp (a, q, few, c, le-leb (length heard) sent_room d, lt-leb (length heard) word_room h)

            module _ (f : length heard ≤ word_room) where
              pub run-18 : 65_536 < (report_after x r heard).edges → answer ≡ 18
              unfolding run_answer
              run-18 h =
                  let few = le-leb (length heard) 4_096 b in
                  let sent = le-leb (length heard) sent_room d in
                  let words = le-leb (length heard) word_room f in
                  simp (a, q, few, c, sent, words, lt-leb (report_after x r heard).edges 65_536 h)

              pub run-0 : (report_after x r heard).edges ≤ 65_536 → answer ≡ 0
              unfolding run_answer
              run-0 h =
                  let few = le-leb (length heard) 4_096 b in
                  let sent = le-leb (length heard) sent_room d in
                  let words = le-leb (length heard) word_room f in
                  simp (a, q, few, c, sent, words, le-leb (report_after x r heard).edges 65_536 h)

-- the slices of a refused run
pub refused-sent : (x : Measured) (r : Report) (heard : List ℕ) (word_room : ℕ) (slice : List ℕ)
    → (run_answer x r heard (length slice) word_room ≡ 0 → ⊥) → sent_after x r heard word_room slice ≡ slice
unfolding sent_after
refused-sent x r heard word_room slice n = simp (ne_eqb (run_answer x r heard (length slice) word_room) 0 n)

pub refused-words : (x : Measured) (r : Report) (heard : List ℕ) (sent_room : ℕ) (slice : List ℕ)
    → (run_answer x r heard sent_room (length slice) ≡ 0 → ⊥) → words_after x r heard sent_room slice ≡ slice
unfolding words_after
refused-words x r heard sent_room slice n = simp (ne_eqb (run_answer x r heard sent_room (length slice)) 0 n)
