-- `baudot_effect` meets its contract.
use native.Mathlib.Omega.{arith}
use Rattle.frames.proofs.Sampling.{kind-digit, kind-last, last-does, does-as}
use Rattle.frames.proofs.samples.Look.baudot.Goals as goal

pub returns-then-j-lt6 : goal.returns-then-j-lt6
returns-then-j-lt6 c =
    let l = c.requires.low in
    does-as _ _ c.args.self.digits c.args.self.heard c.digit.result
    (kind-digit _ (λ e. omega arith) c.if-j-lt6.true) c.digit.ensures

pub returns-else-j-lt6 : goal.returns-else-j-lt6
returns-else-j-lt6 c =
    does-as _ _ c.args.self.digits c.args.self.heard c.stop.result
    (kind-last _ c.if-j-lt6.false c.requires.high)
    (last-does _ _ c.args.self.not_quiet c.stop.ensures)
