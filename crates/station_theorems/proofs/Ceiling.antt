-- The ceiling on sending time: no count is above it.
use mathlib.Core.Path.{◌≡◌, ◌∙◌, refl, sym}
use mathlib.Core.Bool.{true, false, cond, not}
use mathlib.Core.List.{List}
use Prim.Native.Nat.{ℕ, ◌+◌, ◌*◌, ◌-◌, ◌≤◌, max}
use native.Mathlib.Nat.{mul-le-mul_left}
use native.Mathlib.Omega.{arith}
use lib.Dec.{eqb}
use lib.ListN.{length, length-replicate}
use borrow.Author.Tests.{eqb-true, eqb-false, ne_eqb}
use Rattle.lists.proofs.Lists.{either, either-by, by-test, and_left, and_right}
use Rattle.alphabet.specs.declared.Alphabet.{Alphabet}
use Rattle.alphabet.specs.declared.Alphabet.TheVariants.{Baudot, Dtmf as dtmf, Edt as edt}
use Rattle.alphabet.specs.declared.Mode.{Mode}
use Rattle.alphabet.specs.declared.Mode.TheVariants.{Baudot45, Baudot50, Dtmf, Edt}
use Rattle.alphabet.specs.Modes.{alphabet_of, preamble_of, longest}
use Rattle.alphabet.specs.Normal.{all_chars}
use Rattle.alphabet.proofs.Ranges.{few-codes}
use Rattle.baudot.specs.declared.Sender.{Sender}
use Rattle.baudot.specs.Sending.{sender}
use Rattle.baudot.specs.Text.{text_codes}
use Rattle.baudot.specs.code.Bounds.{SenderIn}
use Rattle.baudot.proofs.Text.{own-most, baudot-most}
use Rattle.signal.specs.Signal.{mark}
use Rattle.signal.proofs.Lengths.{within-longest}
use Rattle.burst.specs.declared.OnLine.{OnLine}
use Rattle.burst.specs.Rules.{free_ms, opens_with_shift, opening_shift}
use Rattle.burst.specs.Line.{on_line, in_burst, is_code, part_ms, is_opening}
use Rattle.burst.specs.code.Bounds.{LineIn}
use Rattle.burst.proofs.Laws.{opening-some, begun_first}
use Rattle.queue.specs.Queue.{all_wait, waiting_of}
use Rattle.station.specs.declared.Station.{Station}
use Rattle.station.specs.Station.{mode_of_station, queue_of, offered_to}
use Rattle.station.specs.Measured.{station_of}
use Rattle.station.specs.Entries.{offer_answer}
use Rattle.station.proofs.Range.{core-in, all-waiting, waiting-count, offered-in, offered-full}
use Rattle.station.proofs.Kept.{accepted}
use Rattle.preview.specs.code.Count.{behind_ms, some_ms, ms_left}
use Rattle.preview.proofs.Idle.{idle-in}
use Rattle.preview.proofs.Lowers.{left-burst, some_is, some-behind}
use Rattle.preview.proofs.Most.{codes_behind, behind-longest, opening-sender}
use Rattle.preview.proofs.Offered.{all-chars}
use Rattle.station_theorems.specs.Ceiling.{most_codes, opening_codes, ceiling, InNumbers, Counted, PreviewCounts}
use Rattle.station_theorems.specs.Ceiling.{Ceiling, PreviewCeiling, NoneWaiting, ceiling_not_free, CeilingNotFree}
use Rattle.station_theorems.specs.Ceiling.{part_left, has_opened, ceiling_in_burst, CeilingInBurst, NoneLonger}
use Rattle.station_theorems.proofs.Idle.{in-one-number}

-- ---- the codes of a text, at most

-- a sender that is not fresh wants no code of its own
abbrev first_codes : Alphabet → Sender → ℕ
first_codes a s = cond (not (eqb s.shift 0)) 0 (opening_codes a)

codes-within : (a : Alphabet) (s : Sender) (cs : List ℕ) → SenderIn s → all_chars cs ≡ true
    → length (text_codes a s cs) ≤ most_codes a (length cs) + first_codes a s
codes-within Baudot s cs i t = let m = baudot-most s cs i t in omega arith
codes-within dtmf s cs i t = let m = own-most dtmf cs in omega arith
codes-within edt s cs i t = let m = own-most edt cs in omega arith

-- .. and behind what is on the line
abbrev most_codes_behind : Alphabet → OnLine → Sender → ℕ → ℕ
most_codes_behind a l s n = most_codes a n + cond (has_opened l s) 0 (opening_codes a)

abbrev pub most_behind : Mode → OnLine → Sender → ℕ → ℕ
most_behind mode l s n = longest mode * most_codes_behind (alphabet_of mode) l s n

module _ (a : Alphabet) (l : OnLine) (s : Sender) (cs : List ℕ) (i : SenderIn s) (t : all_chars cs ≡ true) where
  -- the code that opens the burst is to come
  opening-within : is_opening a l ≡ true → codes_behind a l s cs ≤ most_codes_behind a l s (length cs)
  opening-within o =
      let v = opening_shift s in
      let p = eqb-true l.part 1 (and_left (eqb l.part 1) (opens_with_shift a) o) in
      let n : first_codes a (sender v 0) ≡ 0 = rw (ne_eqb v 0 (opening-some s)) refl in
      let c = codes-within a (sender v 0) cs (opening-sender s i) t in
      rw (o, p, and_right (eqb l.part 1) (opens_with_shift a) o) (omega arith)

  fewer : first_codes a s ≤ cond (has_opened l s) 0 (opening_codes a)
  fewer =
      by-test (is_code l) (λ e. rw e (omega arith))
      (λ e. rw e (either (λ (n : ℕ). n ≤ opening_codes a) (not (eqb s.shift 0)) 0 _ (omega arith) (omega arith)))

  codes-behind : codes_behind a l s cs ≤ most_codes_behind a l s (length cs)
  codes-behind =
      by-test (is_opening a l) opening-within
      (λ o.
      let c = codes-within a s cs i t in
      let f = fewer in
      rw o (omega arith))

behind-within : (mode : Mode) (l : OnLine) (s : Sender) (cs : List ℕ) → SenderIn s → all_chars cs ≡ true
    → behind_ms mode l s cs ≤ most_behind mode l s (length cs)
behind-within mode l s cs i t =
    let m = behind-longest mode l s cs t in
    let k = mul-le-mul_left (longest mode) (codes-behind (alphabet_of mode) l s cs i t) in
    omega arith

-- ---- a station

some-within : (k b : ℕ) → k ≤ b → some_ms k ≤ max 1 b
some-within k b h = either-by (λ (n : ℕ). n ≤ max 1 b) (eqb k 0) (λ e. omega arith) (λ e. omega arith)

module _ (s : Station) (ms : ℕ) (c : Counted s ms) where
  abbrev mode : Mode
  mode = mode_of_station s

  abbrev n : ℕ
  n = s.core.waiting

  abbrev cs : List ℕ
  cs = waiting_of (queue_of s)

  pub count-is : ms ≡ ms_left s
  count-is = in-one-number s ms (ms_left s) c.idle-in (idle-in s c.full c.ranged)

  pub waiting-length : length cs ≡ n
  waiting-length = waiting-count s c.ranged c.full

  pub waiting-wait : all_wait (alphabet_of mode) cs ≡ true
  waiting-wait = all-waiting s c.ranged

  behind : (l : OnLine) → behind_ms mode l s.core.sender cs ≤ most_behind mode l s.core.sender n
  behind l =
      rw waiting-length at (behind-within mode l s.core.sender cs (core-in s c.ranged).sender-in
      (all-chars (alphabet_of mode) cs waiting-wait))

  -- in no burst
  module _ (b : in_burst s.core.line ≡ false) where
    none_left : n ≡ 0 → ms_left s ≡ 0
    none_left z = rw (b, z) refl

    pub first-left : 1 ≤ n → ms_left s
        ≡ free_ms - s.core.silence + preamble_of mode + behind_ms mode (on_line 1 0 0) s.core.sender cs
    first-left o =
        let k = waiting-length in
        let m = some-behind mode (on_line 1 0 0) s.core.sender cs (omega arith) waiting-wait in
        rw (b, ne_eqb n 0 (λ z. omega arith), begun_first s.core.line b) (some_is _ (omega arith))

    not_free : ms ≤ ceiling_not_free s n
    not_free =
        let e = count-is in
        let m = behind (on_line 1 0 0) in
        by-test (eqb n 0)
        (λ z. let f = none_left (eqb-true n 0 z) in omega arith)
        (λ z.
        let some = eqb-false n 0 z in
        let f = first-left (omega (arith, some)) in
        omega arith)

  in-burst : in_burst s.core.line ≡ true → ms ≤ max 1 (ceiling_in_burst s n)
  in-burst b =
      let e = count-is in
      let f = left-burst mode s.core.line s.core.sender n s.core.silence cs b in
      let m = behind s.core.line in
      let w = some-within (part_left s + behind_ms mode s.core.line s.core.sender cs) (ceiling_in_burst s n)
      (omega arith) in
      omega arith

-- ---- the statements

pub in-numbers : InNumbers
in-numbers = record { baudot45 = λ n. refl; baudot50 = λ n. refl; dtmf = λ n. omega arith; edt = λ n. omega arith }

pub preview-counts : PreviewCounts
preview-counts x text ms full p =
    let s = station_of x in
    let z = sym p.as_offered in
    let i = offered-in s text full (accepted x text z).1 in
    record { full = offered-full s text full; ranged = i; idle-in = p.idle-in z }

pub none-waiting : NoneWaiting
none-waiting s ms c b z = count-is s ms c ∙ none_left s ms c b z

pub ceiling-not-free : CeilingNotFree
ceiling-not-free s ms c b = not_free s ms c b

pub ceiling-holds : Ceiling
ceiling-holds s ms c t =
    let m = not_free s ms c t.no-burst in
    let f = t.free in
    omega arith

pub preview-ceiling : PreviewCeiling
unfolding offered_to
preview-ceiling x text ms full p t =
    ceiling-holds (offered_to (station_of x) text) ms (preview-counts x text ms full p)
    (record { no-burst = t.no-burst; free = t.free })

pub ceiling-in-burst : CeilingInBurst
ceiling-in-burst s ms c b = in-burst s ms c b

-- ---- none is longer

part-most : (mode : Mode) (l : OnLine) → LineIn mode l → length (part_ms mode l) ≤ max (preamble_of mode) (longest mode)
unfolding part_ms
part-most mode l i =
    let P : List ℕ → Type 0 = λ ms. length ms ≤ max (preamble_of mode) (longest mode) in
    let f = few-codes (alphabet_of mode) in
    let k = i.code-in in
    let c = within-longest mode l.code.0 (omega arith) in
    let p = length-replicate (preamble_of mode) mark in
    either P (eqb l.part 2) _ _ (omega arith) (either P (in_burst l) _ _ (omega arith) (omega arith))

-- in numbers
module _ (n part more : ℕ) (few : n ≤ 256) where
  burst-few : (mode : Mode) → part ≤ max (preamble_of mode) (longest mode) → more ≤ opening_codes (alphabet_of mode)
      → part + longest mode * (most_codes (alphabet_of mode) n + more) ≤ 123_360
  burst-few Baudot45 p o = omega arith
  burst-few Baudot50 p o = omega arith
  burst-few Dtmf p o = omega arith
  burst-few Edt p o = omega arith

ceiling-few : (mode : Mode) (n : ℕ) → n ≤ 256 → ceiling mode n ≤ 122_880
ceiling-few Baudot45 n few = omega arith
ceiling-few Baudot50 n few = omega arith
ceiling-few Dtmf n few = omega arith
ceiling-few Edt n few = omega arith

counted-few : (s : Station) (ms : ℕ) → Counted s ms → ms ≤ 123_360
counted-few s ms c =
    let mode = mode_of_station s in
    let a = alphabet_of mode in
    let i = core-in s c.ranged in
    let n = i.waiting-in in
    by-test (in_burst s.core.line)
    (λ b.
    let p = part-most mode s.core.line i.line-in in
    let opened = has_opened s.core.line s.core.sender in
    let k = cond opened 0 (opening_codes a) in
    let m : k ≤ opening_codes a =
    either (λ (j : ℕ). j ≤ opening_codes a) opened 0 _ (omega arith) (omega arith) in
    let f = burst-few s.core.waiting (part_left s) k n mode (omega arith) m in
    let t = in-burst s ms c b in
    omega arith)
    (λ b.
    let f = ceiling-few mode s.core.waiting n in
    let t = not_free s ms c b in
    omega arith)

pub none-longer : NoneLonger
none-longer x text answer ms full p =
    by-test (eqb (offer_answer x text) 0)
    (λ e.
    let z = eqb-true (offer_answer x text) 0 e in
    counted-few (offered_to (station_of x) text) ms
    (preview-counts x text ms full
    (record { as_offered = sym z; idle-in = p.idle-in; refused = p.refused })))
    (λ e. let z = p.refused (eqb-false (offer_answer x text) 0 e) in omega arith)
