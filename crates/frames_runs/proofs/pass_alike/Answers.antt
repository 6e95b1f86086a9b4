use native.Mathlib.Omega.{arith}
use Rattle.frames_runs.proofs.Framing.{hunts_stay, waits_stay}
use Rattle.frames_runs.proofs.pass_alike.Goals as goal

pub returns-then-place-eq0 : goal.returns-then-place-eq0
returns-then-place-eq0 c = hunts_stay _ _ _ _ c.if-place-eq0.true c.until.ensures

pub returns-else-place-eq0 : goal.returns-else-place-eq0
returns-else-place-eq0 c = waits_stay _ _ _ _ (omega arith) c.through.ensures
