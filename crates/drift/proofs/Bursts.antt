-- A burst: every ms of it is inhibited, as many as the station needs to be idle, and those after it.
use Rattle.std.specs.Prelude.{Option, Some, None}
use Rattle.alphabet.specs.declared.CharCode.{CharCode}
use mathlib.Core.Path.{◌≡◌, ◌∙◌, refl, sym, ap, subst}
use mathlib.Core.Bool.{Bool, true, false, cond, not, ◌&&◌, and-false, false≢true}
use mathlib.Core.List.{List}
use Prim.Native.Nat.{ℕ, zero, suc, ◌+◌, ◌-◌}
use native.Mathlib.Omega.{arith}
use lib.Dec.{eqb, ltb}
use lib.ListN.{length, drop}
use borrow.Author.Tests.{not-true, eqb-true}
use Rattle.lists.proofs.Lists.{either, by-test, and_left, and_right}
use Rattle.alphabet.specs.declared.Alphabet.{Alphabet}
use Rattle.alphabet.specs.declared.Mode.{Mode}
use Rattle.alphabet.specs.Modes.{alphabet_of}
use Rattle.alphabet.specs.Normal.{sends}
use Rattle.baudot.specs.declared.Sender.{Sender}
use Rattle.signal.specs.Signal.{quiet}
use Rattle.frames.specs.Frames.{hunting}
use Rattle.edges.specs.declared.Report.{Report}
use Rattle.edges.specs.Edges.{no_edge, no_edges, is_measured}
use Rattle.edges.specs.code.Measuring.{report_over}
use Rattle.burst.specs.declared.OnLine.{OnLine}
use Rattle.burst.specs.declared.Loaded.{Loaded}
use Rattle.burst.specs.Rules.{shift_wanted, may_begin, may_end}
use Rattle.burst.specs.Line.{further, idle, in_burst, part_ms, is_over, begun, code_begins}
use Rattle.burst.specs.Line.{is_opening, next_code, one_gone, front_is_next, closed}
use Rattle.burst.proofs.Laws.{begun-same, begun_first}
use Rattle.half_duplex.specs.Core.{mode_in, settled, core_from, waiting_after, inhibited_in}
use Rattle.station.specs.declared.Station.{Station}
use Rattle.station.specs.declared.Measured.{Measured}
use Rattle.station.specs.Station.{front, station_ms}
use Rattle.station.specs.Measured.{station_of, report_after}
use Rattle.station.specs.Range.{in_range}
use Rattle.station.proofs.Range.{ms-in, ms-full}
use Rattle.preview.specs.Preview.{is_idle}
use Rattle.preview.specs.code.Count.{ms_left}
use Rattle.preview.proofs.Idle.{lowers, idle-none, busy-some}
use Rattle.drift.proofs.Deaf.{Deaf, report-deaf, deaf-idle}

-- ---- what is on the line

abbrev Busy : Loaded → Type 0
Busy q = in_burst q.line ≡ true

-- a code begins in a burst
code-bursts : (a : Alphabet) (l : OnLine) (s : Sender) (x : Option CharCode) → in_burst l ≡ true
    → Busy (code_begins a l s x)
unfolding code_begins
code-bursts a l s None b = b
code-bursts a l s (Some o) b =
    either Busy (eqb (shift_wanted a s o.shift) 0) _ _ refl refl

next-bursts : (mode : Mode) (n c : ℕ) (l : OnLine) (s : Sender) → in_burst l ≡ true → Busy (next_code mode n c l s)
unfolding next_code
next-bursts mode n c l s b =
    let a = alphabet_of mode in
    either Busy (is_over mode l) _ _
    (either Busy (is_opening a l) _ _ refl
    (either Busy (ltb 0 n) _ _ (code-bursts a l s (sends a c) b) b)) b

gone-bursts : (mode : Mode) (l : OnLine) → in_burst l ≡ true → in_burst (one_gone mode l) ≡ true
unfolding one_gone
gone-bursts mode l b =
    either (λ (k : OnLine). in_burst k ≡ true) (ltb l.at (length (part_ms mode l))) (further l 1) l b b

-- a burst ends only where none waits
closed-bursts : (mode : Mode) (n : ℕ) (l : OnLine) → in_burst l ≡ true
    → (not (in_burst (closed mode (may_end n) l)) && eqb n 0) ≡ false → in_burst (closed mode (may_end n) l) ≡ true
unfolding closed may_end
closed-bursts mode n l b = go (front_is_next mode l) (eqb n 0)
  where
    go : (next ends : Bool) → (not (in_burst (cond (next && ends) idle l)) && ends) ≡ false
        → in_burst (cond (next && ends) idle l) ≡ true
    go true true e = absurd (false≢true (sym e))
    go true false e = b
    go false ends e = b

-- ---- a ms of a burst

-- In a burst, or in the ms in which one begins.
abbrev pub Bursts : Station → Type 0
Bursts s = Busy (settled s.core (front s))

pub burst-goes : (s : Station) → in_burst s.core.line ≡ true → Bursts s
unfolding settled
burst-goes s b =
    let c = s.core in
    let may = may_begin c.waiting c.silence in
    let same = begun-same may c.line (rw (b, and-false) refl) in
    next-bursts (mode_in c) c.waiting (front s) (begun may c.line) c.sender (ap in_burst same ∙ b)

pub burst-begins : (s : Station) → in_burst s.core.line ≡ false
    → may_begin s.core.waiting s.core.silence ≡ true → Bursts s
unfolding settled
burst-begins s b may =
    let c = s.core in
    let first = ap (λ (begins : Bool). begun begins c.line) may ∙ begun_first c.line b in
    next-bursts (mode_in c) c.waiting (front s) (begun (may_begin c.waiting c.silence) c.line) c.sender
    (ap in_burst first)

module _ (s : Station) (b : Bursts s) where
  abbrev next : Station
  next = station_ms s quiet

  deaf-now : inhibited_in s.core (front s) ≡ true
  deaf-now = rw b refl

  goes_on : is_idle next ≡ false → Bursts next
  unfolding station_ms core_from
  goes_on e =
      let q = settled s.core (front s) in
      let mode = mode_in s.core in
      burst-goes next
      (closed-bursts mode (waiting_after q.takes s.core.waiting) (one_gone mode q.line)
      (gone-bursts mode q.line b) e)

  all-to-come : next.core.inhibited ≡ 300
  unfolding station_ms core_from
  all-to-come = rw b refl

-- ---- all of them

-- an idle station
module _ (s : Station) (e : is_idle s ≡ true) where
  idle-line : in_burst s.core.line ≡ false
  idle-line = not-true (in_burst s.core.line) (and_left (not (in_burst s.core.line)) (eqb s.core.waiting 0) e)

  idle-queue : s.core.waiting ≡ 0
  idle-queue =
      eqb-true s.core.waiting 0 (and_right (not (in_burst s.core.line)) (eqb s.core.waiting 0) e)

deaf-burst : (k : ℕ) → k ≡ 300 → (n : ℕ) (s : Station) → length s.chars ≡ 256 → in_range s ≡ true → Bursts s
    → ms_left s ≡ suc n → Deaf (suc (n + k)) s
unfolding Deaf
deaf-burst k h zero s full i b e =
    let t = station_ms s quiet in
    let z = lowers s full i in
    let over : is_idle t ≡ true =
    by-test (is_idle t) (λ d. d) (λ d. let o = busy-some t d in absurd (omega arith)) in
    let none : k ≡ 0 + k = omega arith in (
      deaf-now s b,
      subst (λ (m : ℕ). Deaf m t) none
          (deaf-idle k t (idle-line t over) (idle-queue t over) (all-to-come s b ∙ sym h)),
    )
deaf-burst k h (suc n) s full i b e =
    let t = station_ms s quiet in
    let z = lowers s full i in
    let left : ms_left t ≡ suc n = omega arith in
    let on : is_idle t ≡ false =
    by-test (is_idle t) (λ d. let o = idle-none t d in absurd (omega arith)) (λ d. d) in
    let one : suc (n + k) ≡ suc n + k = omega arith in (
      deaf-now s b,
      subst (λ (m : ℕ). Deaf m t) one
          (deaf-burst k h n t (ms-full s quiet full) (ms-in s quiet full i (omega arith)) (goes_on s b on) left),
    )

-- a station in whose next ms a burst is on the line counts nothing until it only listens
pub report-burst : (y : Measured) (r : Report) (heard : List ℕ) → length y.chars ≡ 256
    → in_range (station_of y) ≡ true → Bursts (station_of y) → is_idle (station_of y) ≡ false
    → is_measured (mode_in y.core) ≡ true → (r.edges ≡ 0 → r ≡ no_edge)
    → report_after y r heard
    ≡ report_over (mode_in y.core) hunting no_edges r (drop (ms_left (station_of y) + 300) heard)
report-burst y r heard full i b e m none =
    let s = station_of y in
    let o = busy-some s e in
    let n = ms_left s - 1 in
    let left : ms_left s ≡ suc n = omega arith in
    let all : suc (n + 300) ≡ ms_left s + 300 = omega arith in
    report-deaf (suc (n + 300)) y r heard (deaf-burst 300 refl n s full i b left) m none
    ∙ ap (λ (k : ℕ). report_over (mode_in y.core) hunting no_edges r (drop k heard)) all
