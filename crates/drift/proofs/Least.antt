-- A burst in Baudot takes 150 ms at least for each character that waits.
use Rattle.std.specs.Prelude.{Option, Some, None}
use Rattle.alphabet.specs.declared.CharCode.{CharCode}
use Rattle.alphabet.specs.Codes.{char_code}
use mathlib.Core.Path.{◌≡◌, sym, subst}
use mathlib.Core.Bool.{true, false≢true}
use mathlib.Core.List.{List, [], ◌∷◌, ◌++◌}
use Prim.Native.Nat.{ℕ, suc, ◌+◌, ◌*◌, ◌≤◌}
use native.Mathlib.Omega.{arith}
use lib.Dec.{T, eqb, leb}
use lib.ListN.{length, length-append}
use borrow.Author.Tests.{eqb-true}
use Rattle.lists.proofs.Lists.{either, either-by, and_left, and_right}
use Rattle.alphabet.specs.declared.Alphabet.TheVariants.{Baudot}
use Rattle.alphabet.specs.declared.Mode.{Mode}
use Rattle.alphabet.specs.declared.Mode.TheVariants.{Baudot45, Baudot50, Dtmf, Edt}
use Rattle.alphabet.specs.Modes.{alphabet_of}
use Rattle.alphabet.specs.Normal.{sends, is_code}
use Rattle.baudot.specs.declared.Sender.{Sender}
use Rattle.baudot.specs.Sending.{sender, codes_ahead, codes_for, sender_for, codes_of}
use Rattle.signal.proofs.Lengths.{baudot-165, baudot-150}
use Rattle.edges.specs.Edges.{is_measured}
use Rattle.burst.specs.declared.OnLine.{OnLine}
use Rattle.burst.specs.Rules.{free_ms, opening_shift}
use Rattle.burst.specs.Line.{begun, is_opening}
use Rattle.queue.specs.Queue.{waits, all_wait, waiting_of}
use Rattle.station.specs.declared.Station.{Station}
use Rattle.station.specs.Station.{mode_of_station, queue_of}
use Rattle.station.specs.Range.{in_range}
use Rattle.station.proofs.Range.{all-waiting, waiting-count}
use Rattle.preview.specs.code.Count.{chars_ms, behind_ms, ahead_ms, some_ms}
use Rattle.preview.proofs.Most.{chars-each}
use Rattle.drift.specs.code.Moments.{burst_ms}

-- a code at least for each
codes-least : (s : Sender) (cs : List ℕ) → all_wait Baudot cs ≡ true → length cs ≤ length (codes_of s cs)
unfolding codes_for codes_of all_wait
codes-least s [] w = omega arith
codes-least s (c ∷ cs) w =
    let v = and_left (waits Baudot c) (all_wait Baudot cs) w in
    let others = and_right (waits Baudot c) (all_wait Baudot cs) w in
    go (sends Baudot c) (and_right (leb c 0x7f) (is_code (sends Baudot c)) v) (λ t. codes-least t cs others)
  where
    go : (x : Option CharCode) → is_code x ≡ true → ((t : Sender) → length cs ≤ length (codes_of t cs))
        → suc (length cs) ≤ length (codes_for s x ++ codes_of (sender_for s x) cs)
    go None e rest = absurd (false≢true e)
    go (Some o) e rest =
        let l = length-append (codes_ahead s o.shift) (o.code.0 ∷ []) in
        let m = length-append (codes_for s (char_code o.shift o.code))
        (codes_of (sender_for s (char_code o.shift o.code)) cs) in
        let n = rest (sender_for s (char_code o.shift o.code)) in
        omega arith

module _ (mode : Mode) (m : is_measured mode ≡ true) (cs : List ℕ) (w : all_wait (alphabet_of mode) cs ≡ true) where
  chars-least : (s : Sender) → 150 * length cs ≤ chars_ms mode s cs
  chars-least = go mode m w
    where
      go : (k : Mode) → is_measured k ≡ true → all_wait (alphabet_of k) cs ≡ true → (s : Sender)
          → 150 * length cs ≤ chars_ms k s cs
      go Baudot45 m w s = let e = chars-each Baudot45 baudot-165 s cs in let l = codes-least s cs w in omega arith
      go Baudot50 m w s = let e = chars-each Baudot50 baudot-150 s cs in let l = codes-least s cs w in omega arith
      go Dtmf m w s = absurd (subst T (sym m) tt)
      go Edt m w s = absurd (subst T (sym m) tt)

  behind-least : (l : OnLine) (s : Sender) → 150 * length cs ≤ behind_ms mode l s cs
  behind-least l s =
      let h = chars-least (sender (opening_shift s) 0) in
      either (λ (n : ℕ). 150 * length cs ≤ n) (is_opening (alphabet_of mode) l) _ _ (omega arith) (chars-least s)

some-least : (n : ℕ) → n ≤ some_ms n
some-least n =
    either-by (λ (k : ℕ). n ≤ k) (eqb n 0) (λ e. let z = eqb-true n 0 e in omega arith) (λ e. omega arith)

pub burst-least : (s : Station) → length s.chars ≡ 256 → in_range s ≡ true → is_measured (mode_of_station s) ≡ true
    → 150 * s.core.waiting ≤ burst_ms s.core s.chars
burst-least s full i m =
    let c = s.core in
    let cs = waiting_of (queue_of s) in
    let n = waiting-count s i full in
    let b = behind-least (mode_of_station s) m cs (all-waiting s i) (begun true c.line) c.sender in
    let k = some-least
    (ahead_ms (mode_of_station s) c.line free_ms
    + behind_ms (mode_of_station s) (begun true c.line) c.sender cs) in
    omega arith
