-- Every sent ms is a value of the mode.
use mathlib.Core.Path.{◌≡◌, refl}
use mathlib.Core.Bool.{Bool, true, ◌&&◌}
use mathlib.Core.List.{List, [], ◌∷◌}
use Prim.Native.Nat.{ℕ, zero, suc, ◌*◌, ◌/◌, ◌%◌, ◌≤◌}
use Prim.Native.String.{String}
use native.Mathlib.Omega.{arith}
use lib.Dec.{eqb}
use lib.ListN.{length, get_or, drop, replicate}
use lib.Seq.{take_at}
use borrow.Author.Tests.{le-leb}
use Rattle.lists.specs.Lists.{all_at_most}
use Rattle.lists.specs.Steps.{outputs}
use Rattle.lists.specs.Tables.{tabulate}
use Rattle.lists.proofs.Lists.{either, and_left, and_right, both, at-most-head, at-most-tail, at-most-append}
use Rattle.lists.proofs.Steps.{outputs-length}
use Rattle.alphabet.specs.declared.Mode.{Mode}
use Rattle.alphabet.specs.declared.Mode.TheVariants.{Baudot45, Baudot50, Dtmf, Edt}
use Rattle.alphabet.specs.Modes.{highest_level, preamble_of, element_of}
use Rattle.alphabet.specs.Print.{keys}
use Rattle.alphabet.specs.Dtmf.{prefixes, keys_of}
use Rattle.signal.specs.Signal.{quiet, mark, level_of, digits, held, baudot_signal, edt_elements, edt_signal, held_keys, signal}
use Rattle.burst.specs.declared.OnLine.{OnLine}
use Rattle.burst.specs.Line.{in_burst, is_code, part_ms, level_on}
use Rattle.half_duplex.specs.Core.{settled, core_from}
use Rattle.station.specs.Station.{mode_of_station, front, station_ms, sent_ms, sent_by}
use Rattle.station.specs.Measured.{station_of}
use Rattle.station.specs.Entries.{sent_after}
use Rattle.station_theorems.specs.Output.{highest_sent, SentInMode, RunSentInMode}

-- ---- what a code sounds like

module _ (m : ℕ) where
  abbrev All : List ℕ → Type 0
  All xs = all_at_most m xs ≡ true

  held-for : (n x : ℕ) → x ≤ m → All (replicate n x)
  unfolding all_at_most
  held-for zero x h = refl
  held-for (suc n) x h = both (le-leb x m h) (held-for n x h)

  tabulated : (f : ℕ → ℕ) → ((k : ℕ) → f k ≤ m) → (n i : ℕ) → All (tabulate f n i)
  unfolding all_at_most tabulate
  tabulated f h zero i = refl
  tabulated f h (suc n) i = both (le-leb (f i) m (h i)) (tabulated f h n (suc i))

  -- at any place, and behind the end
  at_place : (xs : List ℕ) (i : ℕ) → All xs → get_or xs i quiet ≤ m
  at_place [] i h = omega arith
  at_place (x ∷ xs) zero h = at-most-head m x xs h
  at_place (x ∷ xs) (suc i) h = at_place xs i (at-most-tail m x xs h)

  keys-held : (on off : ℕ) (ks : List ℕ) → All ks → All (held_keys on off ks)
  unfolding held_keys
  keys-held on off [] h = h
  keys-held on off (k ∷ ks) h =
      let quiets = held-for off quiet (omega arith) in
      let rest = keys-held on off ks (at-most-tail m k ks h) in
      at-most-append m (replicate on k) _ (held-for on k (at-most-head m k ks h))
      (at-most-append m (replicate off quiet) (held_keys on off ks) quiets rest)

-- Baudot and EDT: mark or space
level-2 : (d : ℕ) → level_of d ≤ 2
level-2 d = either (λ (x : ℕ). x ≤ 2) (eqb d 1) 1 2 (omega arith) (omega arith)

held-2 : (e : ℕ) (ds : List ℕ) → all_at_most 2 (held e ds) ≡ true
unfolding held all_at_most
held-2 e [] = refl
held-2 e (d ∷ ds) =
    at-most-append 2 (replicate e (level_of d)) (held e ds) (held-for 2 e (level_of d) (level-2 d)) (held-2 e ds)

baudot-2 : (e k : ℕ) → all_at_most 2 (baudot_signal e k) ≡ true
unfolding baudot_signal
baudot-2 e k =
    at-most-append 2 (held e (0 ∷ digits 5 k)) (replicate (3 * e / 2) mark) (held-2 e (0 ∷ digits 5 k))
    (held-for 2 (3 * e / 2) mark (omega arith))

-- DTMF: the keys of any number's prefix, and its digit
all_keys : List String → Bool
all_keys [] = true
all_keys (s ∷ ss) = all_at_most 16 (keys s) && all_keys ss

prefixes-test : all_keys prefixes ≡ true
unfolding all_keys prefixes keys all_at_most
prefixes-test = refl

prefix-16 : (ss : List String) (i : ℕ) → all_keys ss ≡ true → all_at_most 16 (keys (get_or ss i "")) ≡ true
unfolding all_keys keys all_at_most
prefix-16 [] i h = refl
prefix-16 (s ∷ ss) zero h = and_left (all_at_most 16 (keys s)) (all_keys ss) h
prefix-16 (s ∷ ss) (suc i) h = prefix-16 ss i (and_right (all_at_most 16 (keys s)) (all_keys ss) h)

keys-16 : (n : ℕ) → all_at_most 16 (keys_of n) ≡ true
unfolding keys_of all_at_most
keys-16 n =
    let d : n % 16 ≤ 16 = omega arith in
    at-most-append 16 (keys (get_or prefixes (n / 16) "")) (n % 16 ∷ []) (prefix-16 prefixes (n / 16) prefixes-test)
    (both (le-leb (n % 16) 16 d) refl)

signal-levels : (mode : Mode) (k : ℕ) → all_at_most (highest_level mode) (signal mode k) ≡ true
unfolding signal edt_signal
signal-levels Baudot45 k = baudot-2 (element_of Baudot45) k
signal-levels Baudot50 k = baudot-2 (element_of Baudot50) k
signal-levels Dtmf k = keys-held 16 70 50 (keys_of k) (keys-16 k)
signal-levels Edt k = tabulated 2 _ (λ m. level-2 (get_or (edt_elements k) (11 * m / 100) 1)) 100 0

mark-level : (mode : Mode) → mark ≤ highest_level mode
mark-level Baudot45 = omega arith
mark-level Baudot50 = omega arith
mark-level Dtmf = omega arith
mark-level Edt = omega arith

-- ---- the ms of a station

-- what is on the line is sent in values of the mode, wherever in it
part-levels : (mode : Mode) (l : OnLine) → all_at_most (highest_level mode) (part_ms mode l) ≡ true
unfolding part_ms all_at_most
part-levels mode l =
    let P : List ℕ → Type 0 = λ xs. all_at_most (highest_level mode) xs ≡ true in
    either P (is_code l) _ _ (signal-levels mode l.code.0)
    (either P (in_burst l) _ _ (held-for (highest_level mode) (preamble_of mode) mark (mark-level mode)) refl)

level_in : (mode : Mode) (l : OnLine) → level_on mode l ≤ highest_level mode
unfolding level_on
level_in mode l = at_place (highest_level mode) (part_ms mode l) l.at (part-levels mode l)

-- every sent ms is a value of the mode
pub sent-in-mode : SentInMode
unfolding all_at_most outputs station_ms core_from sent_ms
sent-in-mode s [] = refl
sent-in-mode s (x ∷ xs) =
    let l = (settled s.core (front s)).line in
    let h = level_in (mode_of_station s) l in
    both (le-leb (level_on (mode_of_station s) l) (highest_sent s) (omega arith)) (sent-in-mode (station_ms s x) xs)

-- and so is each that a run writes
pub run-sent-in-mode : RunSentInMode
unfolding sent_after
run-sent-in-mode x r heard word_room slice z =
    let s = station_of x in
    let sent = sent_by s heard in
    let n = outputs-length station_ms sent_ms s heard in
    rw (z, take_at sent (drop (length sent) slice) (length heard) n) (sent-in-mode s heard)
