-- One sent ms for each ms heard, and at most one word.
use mathlib.Core.Path.{◌≡◌}
use mathlib.Core.List.{List, [], ◌∷◌}
use Prim.Native.Nat.{ℕ, ◌≤◌}
use native.Mathlib.Omega.{arith}
use lib.ListN.{length, length-append}
use Rattle.lists.specs.Steps.{outputs}
use Rattle.lists.proofs.Steps.{outputs-length}
use Rattle.reader.specs.Words.{word_of, words_of}
use Rattle.reader.proofs.WordLists.{one_word}
use Rattle.station.specs.declared.Station.{Station}
use Rattle.station.specs.Station.{station_ms, sent_ms, event_of, sent_by, words_by}

pub sent-length : (s : Station) (xs : List ℕ) → length (sent_by s xs) ≡ length xs
sent-length s xs = outputs-length station_ms sent_ms s xs

pub few_words : (s : Station) (xs : List ℕ) → length (words_by s xs) ≤ length xs
unfolding outputs words_of
few_words s [] = omega arith
few_words s (x ∷ xs) =
    let a = one_word (event_of s x) in
    let b = few_words (station_ms s x) xs in
    let c = length-append (word_of (event_of s x)) (words_by (station_ms s x) xs) in
    omega arith
