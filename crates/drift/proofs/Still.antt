-- A station in no burst, in which none may begin: a ms leaves all but its timers and its reader.
use mathlib.Core.Path.{◌≡◌, ◌∙◌, refl, ap}
use mathlib.Core.Bool.{Bool, false}
use Prim.Native.Nat.{ℕ, ◌-◌}
use native.Mathlib.Omega.{arith}
use lib.Dec.{ltb}
use Rattle.alphabet.specs.declared.Mode.{Mode}
use Rattle.burst.specs.declared.OnLine.{OnLine}
use Rattle.burst.specs.declared.Loaded.{Loaded}
use Rattle.burst.specs.Rules.{may_begin, may_end, is_silent}
use Rattle.burst.specs.Line.{in_burst, next_code, loaded, one_gone, closed}
use Rattle.burst.proofs.Laws.{begun-same, not-over, gone-none, stays-left}
use Rattle.half_duplex.specs.declared.Core.{Core}
use Rattle.half_duplex.specs.Core.{core, silence_after, reader_ms, mode_in, settled, core_from, inhibited_in}
use Rattle.station.specs.declared.Station.{Station}
use Rattle.station.specs.Station.{station, front, chars_after, station_ms}
use Rattle.preview.proofs.Idle.{no_part, no-over}

line-still : (mode : Mode) (l : OnLine) → in_burst l ≡ false → (ends : Bool) → closed mode ends (one_gone mode l) ≡ l
line-still mode l b ends =
    let n = no_part mode l b in
    ap (closed mode ends) (gone-none mode l (omega arith)) ∙ stays-left mode l ends (no-over mode l b)

pub none-begins : (silence : ℕ) → may_begin 0 silence ≡ false
unfolding may_begin
none-begins silence = refl

module _ (s : Station) (b : in_burst s.core.line ≡ false)
    (may : may_begin s.core.waiting s.core.silence ≡ false) where
  abbrev c : Core
  c = s.core

  settled-still : settled c (front s) ≡ loaded c.line c.sender false
  unfolding settled
  settled-still =
      let same = begun-same (may_begin c.waiting c.silence) c.line (rw may refl) in
      ap (λ (l : OnLine). next_code (mode_in c) c.waiting (front s) l c.sender) same
      ∙ not-over (mode_in c) c.waiting (front s) c.line c.sender (no-over (mode_in c) c.line b)

  pub inhibited-still : inhibited_in c (front s) ≡ ltb 0 c.inhibited
  inhibited-still = rw (settled-still, b) refl

  -- with these timers
  abbrev pub timed : ℕ → Core
  timed x =
      let deaf = ltb 0 c.inhibited in
      core c.waiting (silence_after (is_silent deaf x) c.silence) (c.inhibited - 1) c.line c.sender
      (reader_ms (mode_in c) deaf c.reader x) c.mode

  pub ms-still : (x : ℕ) → station_ms s x ≡ station (timed x) s.chars
  unfolding station_ms core_from
  ms-still x =
      ap (λ (l : Loaded). station (core_from c l x) (chars_after l.takes s.chars)) settled-still
      ∙ (rw (b, line-still (mode_in c) c.line b (may_end c.waiting)) refl)
