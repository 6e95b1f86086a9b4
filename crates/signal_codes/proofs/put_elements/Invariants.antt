-- `put_elements` meets its contract. The invariant: what is left.
use Rattle.std.proofs.Common.{◌-◌, ◌*◌}
use Rattle.signal.specs.Signal.{digits, held}
use Rattle.signal_runs.proofs.Filling.{Writing}
use Rattle.signal_codes.proofs.put_elements.Given as goal

abbrev pub invariant-loop-j : goal.invariant-loop-j
invariant-loop-j l =
    Writing (held l.ms (digits l.count l.number)) l.sent (l.j * l.ms) (held l.ms (digits (l.count - l.j) l.rest))
