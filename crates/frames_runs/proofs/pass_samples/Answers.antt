use mathlib.Core.Path.{◌∙◌, ap}
use Rattle.std.specs.Prelude.{Some}
use Rattle.frames.specs.declared.samples.Effect.{Effect}
use Rattle.frames_runs.proofs.Framing.{hunts-on}
use Rattle.frames_runs.proofs.pass_samples.Goals as goal

pub returns-in-Some-Hunts : goal.returns-in-Some-Hunts
returns-in-Some-Hunts c =
    let e = rw c.in-Some-Hunts.is at c.in-Some-Hunts.field-0-is in
    hunts-on c.args.mode c.requires.framed _ _ c.to_stop-s.result c.to_stop-s.ensures
    (c.in-Some-Hunts.is ∙ ap (λ (e : Effect). Some e) e)
