-- A prefix is at most 15.
use Rattle.std.proofs.Common.{◌≤◌}
use Rattle.alphabet_tables.proofs.Marks.prefix.Given as goal

abbrev pub invariant-loop-place : goal.invariant-loop-place
invariant-loop-place l = l.prefix ≤ 15
