-- The ceiling on sending time is reached: for each number of characters by a text, in EDT by every text.
use Rattle.std.specs.Prelude.{Option, Some, None}
use Rattle.alphabet.specs.declared.CharCode.{CharCode}
use Rattle.alphabet.specs.Codes.{char_code}
use mathlib.Core.Path.{◌≡◌, ◌∙◌, refl, sym, ap, subst}
use mathlib.Core.Bool.{Bool, true, false, cond, not, false≢true}
use mathlib.Core.List.{List, [], ◌∷◌, ◌++◌, append-nil}
use Prim.Native.Nat.{ℕ, zero, suc, ◌+◌, ◌*◌, ◌≤◌}
use native.Mathlib.Nat.{mul-add}
use native.Mathlib.Omega.{arith}
use lib.Dec.{eqb, leb}
use lib.ListN.{length, take, replicate, length-append, length-replicate}
use borrow.Author.Tests.{not-true, eqb-true, eqb-false, le-leb}
use Rattle.lists.proofs.Lists.{either, by-test, and_left, and_right, both}
use Rattle.alphabet.specs.declared.Alphabet.{Alphabet}
use Rattle.alphabet.specs.declared.Alphabet.TheVariants.{Baudot, Dtmf as dtmf, Edt as edt}
use Rattle.alphabet.specs.declared.Mode.{Mode}
use Rattle.alphabet.specs.declared.Mode.TheVariants.{Baudot45, Baudot50, Dtmf, Edt}
use Rattle.alphabet.specs.Print.{bits, bits_from, keys, rows, left_rows, right_rows}
use Rattle.alphabet.specs.Baudot.{printed_at, send_baudot}
use Rattle.alphabet.specs.Dtmf.{with_mark, code_from, prefixes, keys_of, marks_then_digit, among, not_struck, remaining}
use Rattle.alphabet.specs.Dtmf.{names, first_sign, named, send_in, has_row, send_from, send_dtmf}
use Rattle.alphabet.specs.Modes.{mode_number, alphabet_of, preamble_of}
use Rattle.alphabet.specs.Normal.{sends, is_code, own_code, own_codes}
use Rattle.alphabet.specs.TableA2.{a2}
use Rattle.alphabet.specs.TableB1.{b1}
use Rattle.alphabet.specs.TableB2.{b2}
use Rattle.baudot.specs.declared.Sender.{Sender}
use Rattle.baudot.specs.Sending.{sender, shift_code, wanted, codes_for, sender_for, codes_of}
use Rattle.signal.specs.Signal.{signal, signals}
use Rattle.signal.proofs.Lengths.{signals-each, baudot-165, baudot-150, dtmf-120, edt-100}
use Rattle.burst.specs.Rules.{opening_shift}
use Rattle.burst.specs.declared.OnLine.{OnLine}
use Rattle.burst.specs.Line.{on_line, in_burst}
use Rattle.queue.specs.Queue.{waits, waiters, all_wait, waiting_of, room, offered}
use Rattle.queue.proofs.Laws.{waiting-offered}
use Rattle.station.specs.declared.Station.{Station}
use Rattle.station.specs.declared.Measured.{Measured}
use Rattle.station.specs.Station.{mode_of_station, alphabet_of_station, queue_of, offered_to, fresh_station}
use Rattle.station.specs.Measured.{station_of, fresh_measured}
use Rattle.station.specs.Range.{in_range, measured_in}
use Rattle.station.specs.Entries.{offer_answer}
use Rattle.station.proofs.Range.{core-in, offered-in, offered-full, number_in, fresh-full}
use Rattle.station.proofs.Edged.{measured-in}
use Rattle.station.proofs.Kept.{accepted, fresh-measured}
use Rattle.preview.specs.Preview.{IdleIn}
use Rattle.preview.specs.code.Count.{code_ms, chars_ms, behind_ms, ms_left}
use Rattle.preview.proofs.Idle.{idle-in}
use Rattle.preview.proofs.Lowers.{left-burst, some_is, some-behind}
use Rattle.preview.proofs.Most.{chars-each}
use Rattle.preview.proofs.Offered.{all-waiters, all-chars}
use Rattle.station_theorems.specs.Ceiling.{ceiling, Counted, ceiling_not_free, part_left, ceiling_in_burst, other_shift, in_turn}
use Rattle.station_theorems.specs.Ceiling.{longest_text, text_for, Reaches, Reached, ReachedNotFree, ReachedInBurst, EdtAlways}
use Rattle.station_theorems.proofs.Ceiling.{most_behind, count-is, waiting-length, waiting-wait, first-left}

-- ---- what the characters send

one-sends : sends Baudot 0x31 ≡ char_code 2 (record { 0 = 0b10111 })
unfolding sends send_baudot printed_at rows left_rows right_rows a2 bits bits_from
one-sends = refl

a-sends : sends Baudot 0x41 ≡ char_code 1 (record { 0 = 0b00011 })
unfolding sends send_baudot printed_at rows left_rows right_rows a2 bits bits_from
a-sends = refl

-- ##*1: 16 times 13, the number of the prefix ##*, and 1
a-keys : sends dtmf 0x41 ≡ char_code 3 (record { 0 = 209 })
unfolding sends send_dtmf send_from send_in has_row printed_at rows left_rows right_rows b1 b2 bits bits_from keys
    with_mark
    code_from marks_then_digit among not_struck remaining names first_sign named
a-keys = refl

four-keys : length (keys_of 209) ≡ 4
unfolding keys_of keys prefixes
four-keys = refl

-- ---- a text whose characters all wait

waiters-all : (a : Alphabet) (cs : List ℕ) → all_wait a cs ≡ true → waiters a cs ≡ cs
unfolding waiters
waiters-all a cs w = rw (append-nil cs) at (all-waiters a cs [] w)

own-all : (a : Alphabet) (cs : List ℕ) → all_wait a cs ≡ true → length (own_codes a cs) ≡ length cs
unfolding own_codes all_wait
own-all a [] w = refl
own-all a (c ∷ cs) w =
    let v = and_left (waits a c) (all_wait a cs) w in
    go (sends a c) (and_right (leb c 0x7f) (is_code (sends a c)) v)
    (own-all a cs (and_right (waits a c) (all_wait a cs) w))
  where
    go : (x : Option CharCode) → is_code x ≡ true → length (own_codes a cs) ≡ length cs
        → length (own_code x ++ own_codes a cs) ≡ length (c ∷ cs)
    go None e i = absurd (false≢true e)
    go (Some o) e i = omega arith

-- ---- the text that takes the longest

all_same : (a : Alphabet) (c : ℕ) → waits a c ≡ true → (n : ℕ) → all_wait a (replicate n c) ≡ true
unfolding all_wait
all_same a c w zero = refl
all_same a c w (suc n) = both w (all_same a c w n)

turn-waits : (n shift : ℕ) → all_wait Baudot (in_turn shift n) ≡ true
unfolding in_turn all_wait
turn-waits zero shift = refl
turn-waits (suc n) shift =
    let one : waits Baudot 0x31 ≡ true = rw one-sends refl in
    let a : waits Baudot 0x41 ≡ true = rw a-sends refl in
    both (either (λ (c : ℕ). waits Baudot c ≡ true) (eqb (other_shift shift) 2) 0x31 0x41 one a)
    (turn-waits n (other_shift shift))

turn-length : (n shift : ℕ) → length (in_turn shift n) ≡ n
unfolding in_turn
turn-length zero shift = refl
turn-length (suc n) shift = ap suc (turn-length n (other_shift shift))

text-waits : (a : Alphabet) (shift n : ℕ) → all_wait a (longest_text a shift n) ≡ true
unfolding sends
text-waits Baudot shift n = turn-waits n shift
text-waits dtmf shift n = all_same dtmf 0x41 (rw a-keys refl) n
text-waits edt shift n = all_same edt 0x41 refl n

text-length : (a : Alphabet) (shift n : ℕ) → length (longest_text a shift n) ≡ n
text-length Baudot shift n = turn-length n shift
text-length dtmf shift n = length-replicate n 0x41
text-length edt shift n = length-replicate n 0x41

-- in Baudot each character brings a shift code: behind letters and behind figures
abbrev TwoEach : ℕ → ℕ → ℕ → Type 0
TwoEach n shift count = length (codes_of (sender shift count) (in_turn shift n)) ≡ 2 * n

two-each : (n count : ℕ) → TwoEach n 1 count × TwoEach n 2 count
unfolding wanted codes_for sender_for codes_of in_turn
two-each zero count = (refl, refl)
two-each (suc n) count =
    let i = two-each n 1 in
    let f = i.0 in
    let g = i.1 in
    (rw one-sends (omega arith), rw a-sends (omega arith))

-- behind the code that opens the burst; and behind another, where a fresh sender sends 11111 first
first-turn : (n : ℕ) → in_turn 0 n ≡ in_turn 1 n
unfolding in_turn
first-turn zero = refl
first-turn (suc n) = refl

opened-each : (n shift : ℕ) → shift ≤ 2
    → length (codes_of (sender (opening_shift (sender shift 0)) 0) (in_turn shift n)) ≡ 2 * n
opened-each n zero h = rw (first-turn n) (two-each n 0).0
opened-each n (suc zero) h = (two-each n 0).0
opened-each n (suc (suc zero)) h = (two-each n 0).1
opened-each n (suc (suc (suc k))) h = absurd (omega arith)

later-each : (n shift count : ℕ) → shift ≤ 2 → 1 ≤ n
    → length (codes_of (sender shift count) (in_turn shift n)) ≡ 2 * n + cond (not (eqb shift 0)) 0 1
unfolding wanted codes_for sender_for codes_of in_turn
later-each zero shift count h o = absurd (omega arith)
later-each (suc n) zero count h o = let g = (two-each n 1).1 in rw one-sends (omega arith)
later-each (suc n) (suc zero) count h o = let g = (two-each (suc n) count).0 in g ∙ (omega arith)
later-each (suc n) (suc (suc zero)) count h o = let g = (two-each (suc n) count).1 in g ∙ (omega arith)
later-each (suc n) (suc (suc (suc k))) count h o = absurd (omega arith)

-- in DTMF each has four keys
keys-each : (n : ℕ) → length (signals Dtmf (own_codes dtmf (replicate n 0x41))) ≡ 480 * n
unfolding own_codes signals
keys-each zero = refl
keys-each (suc n) =
    let i = keys-each n in
    let k = dtmf-120 209 in
    let f = four-keys in
    let a = length-append (signal Dtmf 209) (signals Dtmf (own_codes dtmf (replicate n 0x41))) in
    rw a-keys (omega arith)

own-each : (n : ℕ) (s : Sender) → chars_ms Edt s (replicate n 0x41) ≡ 100 * n
own-each n s =
    let c = chars-each Edt edt-100 s (replicate n 0x41) in
    let o = own-all edt (replicate n 0x41) (text-waits edt 0 n) in
    let l = text-length edt 0 n in
    omega arith

-- ---- its ms, behind what is on the line

abbrev long_text : Mode → Sender → ℕ → List ℕ
long_text mode s n = longest_text (alphabet_of mode) s.shift n

no_more : (b : Bool) → cond {A = ℕ} b 0 0 ≡ 0
no_more b = either (λ (k : ℕ). k ≡ 0) b 0 0 refl refl

-- in a mode of Baudot, whose codes have m ms each: with the code that opens the burst, and behind it
module _ (mode : Mode) (m : ℕ) (each : (k : ℕ) → code_ms mode k ≡ m) (s : Sender) (h : s.shift ≤ 2) (n : ℕ) where
  opening-ms : code_ms mode (shift_code (opening_shift s))
      + length (signals mode (codes_of (sender (opening_shift s) 0) (in_turn s.shift n)))
      ≡ m * (2 * n + 1)
  opening-ms =
      let o = each (shift_code (opening_shift s)) in
      let c = signals-each mode m each (codes_of (sender (opening_shift s) 0) (in_turn s.shift n)) in
      let t = ap (λ (k : ℕ). m * k) (opened-each n s.shift h) in
      let d = mul-add m (2 * n) 1 in
      omega arith

  later-ms : 1 ≤ n
      → length (signals mode (codes_of s (in_turn s.shift n))) ≡ m * (2 * n + cond (not (eqb s.shift 0)) 0 1)
  later-ms o =
      signals-each mode m each (codes_of s (in_turn s.shift n))
      ∙ ap (λ (k : ℕ). m * k) (later-each n s.shift s.count h o)

preamble-reached : (mode : Mode) (l : OnLine) (s : Sender) (n : ℕ) → l.part ≡ 1 → s.shift ≤ 2
    → behind_ms mode l s (long_text mode s n) ≡ most_behind mode l s n
unfolding chars_ms
preamble-reached Baudot45 l s n p h = rw p (opening-ms Baudot45 165 baudot-165 s h n)
preamble-reached Baudot50 l s n p h = rw p (opening-ms Baudot50 150 baudot-150 s h n)
preamble-reached Dtmf l s n p h = let k = keys-each n in rw p (omega arith)
preamble-reached Edt l s n p h = let k = own-each n s in rw p (omega arith)

code-reached : (mode : Mode) (l : OnLine) (s : Sender) (n : ℕ) → l.part ≡ 2 → s.shift ≤ 2 → 1 ≤ n
    → behind_ms mode l s (long_text mode s n) ≡ most_behind mode l s n
unfolding chars_ms
code-reached Baudot45 l s n p h o = rw p (later-ms Baudot45 165 baudot-165 s h n o)
code-reached Baudot50 l s n p h o = rw p (later-ms Baudot50 150 baudot-150 s h n o)
code-reached Dtmf l s n p h o =
    let k = keys-each n in
    let z = no_more (not (eqb s.shift 0)) in
    rw p (omega arith)
code-reached Edt l s n p h o =
    let k = own-each n s in
    let z = no_more (not (eqb s.shift 0)) in
    rw p (omega arith)

behind-reached : (mode : Mode) (l : OnLine) (s : Sender) (n : ℕ) → in_burst l ≡ true → l.part ≤ 2 → s.shift ≤ 2
    → 1 ≤ n → behind_ms mode l s (long_text mode s n) ≡ most_behind mode l s n
behind-reached mode l s n b p h o =
    let z = eqb-false l.part 0 (not-true (eqb l.part 0) b) in
    by-test (eqb l.part 1) (λ e. preamble-reached mode l s n (eqb-true l.part 1 e) h)
    (λ e.
    let f = eqb-false l.part 1 e in
    code-reached mode l s n (omega (arith, z, f)) h o)

-- ---- a station with nothing waiting, and its offer

module _ (x : Measured) (full : length x.chars ≡ 256) (r : measured_in x ≡ true) (none : x.core.waiting ≡ 0)
    (n : ℕ) (low : 1 ≤ n) (high : n ≤ 256) where
  abbrev s : Station
  s = station_of x

  i : in_range s ≡ true
  i = (measured-in x r).0

  abbrev a : Alphabet
  a = alphabet_of_station s

  abbrev mode : Mode
  mode = mode_of_station s

  abbrev text : List ℕ
  text = text_for s n

  abbrev after : Station
  after = offered_to s text

  all-wait : all_wait a text ≡ true
  all-wait = text-waits a s.core.sender.shift n

  wait-length : length (waiters a text) ≡ n
  wait-length = ap length (waiters-all a text all-wait) ∙ text-length a s.core.sender.shift n

  space : room a (queue_of s) text ≡ true
  unfolding room
  space = let l = wait-length in le-leb (s.core.waiting + length (waiters a text)) 256 (omega arith)

  taken : offer_answer x text ≡ 0
  unfolding offer_answer
  taken = rw (r, all-chars a text all-wait, space) refl

  waiting-is : after.core.waiting ≡ n
  unfolding offered_to offered
  waiting-is = let l = wait-length in omega arith

  chars-are : waiting_of (queue_of after) ≡ text
  unfolding offered_to
  chars-are =
      waiting-offered a (queue_of s) full text space
      ∙ ap (λ (k : ℕ). take k s.chars ++ waiters a text) none
      ∙ waiters-all a text all-wait

  counted : Counted after (ms_left after)
  counted =
      let f = offered-full s text full in
      let k = offered-in s text full (accepted x text taken).1 in
      record { full = f; ranged = k; idle-in = idle-in after f k }

  reaches : (ms : ℕ) → ms_left after ≡ ms → Reaches x n ms
  reaches ms e = record {
    waiting = waiting-is;
    previews = record {
      as_offered = sym taken;
      idle-in = λ _. subst (IdleIn after) e counted.idle-in;
      refused = λ no. absurd (no taken);
    };
  }

  -- the text's ms behind what is on the line
  behind-text : (l : OnLine) → in_burst l ≡ true → l.part ≤ 2
      → behind_ms mode l s.core.sender (waiting_of (queue_of after)) ≡ most_behind mode l s.core.sender n
  behind-text l b p =
      ap (behind_ms mode l s.core.sender) chars-are
      ∙ behind-reached mode l s.core.sender n b p (core-in s i).sender-in.shift_in low

  not_free : in_burst s.core.line ≡ false → ms_left after ≡ ceiling_not_free s n
  unfolding offered_to
  not_free b =
      let w = waiting-is in
      let e = first-left after (ms_left after) counted b (omega arith) in
      let t = behind-text (on_line 1 0 0) refl (omega arith) in
      omega arith

  in-burst : in_burst s.core.line ≡ true → ms_left after ≡ ceiling_in_burst s n
  unfolding offered_to
  in-burst b =
      let l = s.core.line in
      let w = waiting-is in
      let len = waiting-length after (ms_left after) counted in
      let wait = waiting-wait after (ms_left after) counted in
      let m = some-behind mode l s.core.sender (waiting_of (queue_of after)) (omega arith) wait in
      let t = behind-text l b (core-in s i).line-in.part_in in
      let k = part_left s + behind_ms mode l s.core.sender (waiting_of (queue_of after)) in
      let e = left-burst mode l s.core.sender after.core.waiting s.core.silence
      (waiting_of (queue_of after)) b in
      let f = some_is k (omega arith) in
      e ∙ f ∙ (omega arith)

-- ---- the statements

pub reached-not-free : ReachedNotFree
reached-not-free x full r b none n low high =
    reaches x full r none n low high (ceiling_not_free (station_of x) n) (not_free x full r none n low high b)

pub reached-in-burst : ReachedInBurst
reached-in-burst x full r b none n low high =
    reaches x full r none n low high (ceiling_in_burst (station_of x) n) (in-burst x full r none n low high b)

fresh-ceiling : (mode : Mode) (n : ℕ) → ceiling_not_free (fresh_station (mode_number mode)) n ≡ ceiling mode n
unfolding fresh_station
fresh-ceiling Baudot45 n = omega arith
fresh-ceiling Baudot50 n = omega arith
fresh-ceiling Dtmf n = omega arith
fresh-ceiling Edt n = omega arith

pub reached : Reached
unfolding fresh_station
reached mode n low high =
    let m = mode_number mode in
    let x = fresh_measured m in
    subst (Reaches x n) (fresh-ceiling mode n)
    (reached-not-free x (fresh-full m) (fresh-measured m (number_in mode)) refl refl n low high)

-- in EDT all codes have 100 ms, and each that waits has one
edt-behind : (mode : Mode) → mode ≡ Edt → (s : Sender) (cs : List ℕ) → all_wait (alphabet_of mode) cs ≡ true
    → preamble_of mode + behind_ms mode (on_line 1 0 0) s cs ≡ ceiling Edt (length cs)
edt-behind Baudot45 e s cs w = cc
edt-behind Baudot50 e s cs w = cc
edt-behind Dtmf e s cs w = cc
edt-behind Edt e s cs w =
    let c = chars-each Edt edt-100 s cs in
    let o = own-all edt cs w in
    omega arith

pub edt-always : EdtAlways
edt-always s ms c q e low =
    let m = count-is s ms c in
    let f = first-left s ms c q.no-burst low in
    let l = waiting-length s ms c in
    let b = edt-behind (mode_of_station s) e s.core.sender (waiting_of (queue_of s)) (waiting-wait s ms c) in
    let z = q.free in
    let d = ap (ceiling Edt) l in
    omega arith
