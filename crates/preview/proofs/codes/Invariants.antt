-- `codes` meets its contract. The invariant: what is counted and what is left are all.
-- ---- the moments of the walk
-- ---- a turn of the loop
use mathlib.Core.List.{◌++◌}
use Prim.Native.Nat.{◌+◌}
use Rattle.preview.specs.code.Count.{chars_ms}
use Rattle.preview.proofs.Turns.{Counts, left}
use Rattle.preview.proofs.codes.Given as goal

abbrev pub invariant-loop-i : goal.invariant-loop-i
invariant-loop-i l = let cs = l.own ++ l.text in
    Counts l.mode cs (l.initial.ms + chars_ms l.mode l.initial.sender cs) l.ms l.sender l.i

abbrev pub decreases-loop-i : goal.decreases-loop-i
decreases-loop-i l = left l.mode (l.own ++ l.text) l.sender l.i
