-- `run_all` meets its contract. The invariant: what is left of the tones, and the slice as written so far.
use Rattle.lists.proofs.Steps.{Left}
use Rattle.calling.specs.Set.{calling_ms, sent_ms}
use Rattle.calling.proofs.Calling.run_all.Given as goal

abbrev pub invariant-loop-i : goal.invariant-loop-i
invariant-loop-i l = Left calling_ms sent_ms l.tones l.initial.state l.initial.sent l.state l.sent l.i
