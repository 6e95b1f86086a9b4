-- `count_shifts` meets its contract. The invariant: the shift codes counted and those left are all.
use mathlib.Core.Path.{◌≡◌}
use Prim.Native.Nat.{◌+◌}
use Rattle.std.specs.Slice.Iter.{chunks_rest, chunks_size}
use Rattle.baudot.specs.Counting.{shifts_in}
use Rattle.baudot_reading.proofs.count_shifts.Given as goal

abbrev pub invariant-loop-block : goal.invariant-loop-block
invariant-loop-block l =
    ((goal.iterator-loop-block).can_next l.block-iterator × (goal.iterator-loop-block).is_finite l.block-iterator)
    × ((chunks_size l.block-iterator ≡ 128) × (l.n + shifts_in (chunks_rest l.block-iterator) ≡ shifts_in l.codes))
