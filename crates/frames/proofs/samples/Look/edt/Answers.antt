-- `edt_effect` meets its contract.
use mathlib.Core.Path.{ap}
use Prim.Native.Nat.{ℕ}
use native.Mathlib.Omega.{arith}
use lib.ListN.{get_or}
use Rattle.frames.specs.Samples.{None, edt_kinds}
use Rattle.frames.proofs.Sampling.{edt-digit, edt-last, stop-does, last-does, does-as}
use Rattle.frames.proofs.samples.Look.edt.Goals as goal

pub returns-in-0-to-7 : goal.returns-in-0-to-7
returns-in-0-to-7 c =
    let l = c.requires.low in
    does-as _ _ c.args.self.digits c.args.self.heard c.digit.result
    (edt-digit _ (λ e. omega arith) (omega arith)) c.digit.ensures

pub returns-in-8 : goal.returns-in-8
unfolding edt_kinds
returns-in-8 c =
    does-as _ _ c.args.self.digits c.args.self.heard c.parity.result
    (ap (λ (j : ℕ). get_or edt_kinds j None) c.in-8.is) c.parity.ensures

pub returns-in-9 : goal.returns-in-9
unfolding edt_kinds
returns-in-9 c =
    does-as _ _ c.args.self.digits c.args.self.heard c.stop.result
    (ap (λ (j : ℕ). get_or edt_kinds j None) c.in-9.is) (stop-does _ _ c.args.self.not_quiet c.stop.ensures)

pub returns-in_default : goal.returns-in_default
returns-in_default c =
    does-as _ _ c.args.self.digits c.args.self.heard c.stop-in_default.result (edt-last _ (omega arith) c.requires.high)
    (last-does _ _ c.args.self.not_quiet c.stop-in_default.ensures)
