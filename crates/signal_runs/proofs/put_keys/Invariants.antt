-- `put_keys` meets its contract. The invariant: what is written.
use Rattle.std.proofs.Common.{◌≡◌, ◌≤◌, ◌-◌, length, take}
use Rattle.lists.specs.Tables.{tabulate}
use Rattle.alphabet.specs.declared.Mode.TheVariants.{Dtmf}
use Rattle.signal_runs.specs.code.Levels.{code_level}
use Rattle.signal_runs.proofs.put_keys.Given as goal

abbrev pub invariant-loop-i : goal.invariant-loop-i
invariant-loop-i l = record {
  within : l.i ≤ length l.sent;
  written : take l.i l.sent ≡ tabulate (code_level Dtmf l.code.0 l.at) l.i 0;
}

abbrev pub decreases-loop-i : goal.decreases-loop-i
decreases-loop-i l = length l.initial.sent - l.i
