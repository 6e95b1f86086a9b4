-- `put_dtmf` meets its contract. The invariant: the keys that are left.
use Rattle.std.proofs.Common.{◌*◌, drop}
use Rattle.alphabet.specs.Dtmf.{keys_of}
use Rattle.signal.specs.Signal.{keys_signal}
use Rattle.signal_runs.proofs.Filling.{Writing}
use Rattle.signal_codes.proofs.put_dtmf.Given as goal

abbrev pub invariant-loop-k : goal.invariant-loop-k
invariant-loop-k l =
    Writing (keys_signal (keys_of l.code.0)) l.sent (l.k * 120) (keys_signal (drop l.k (keys_of l.code.0)))
