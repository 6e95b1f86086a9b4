-- `effect_of` meets its contract: the start, quiet, the others.
use native.Mathlib.Omega.{arith}
use Rattle.frames.proofs.Sampling.{first-start, quiet-breaks, does-as}
use Rattle.frames.proofs.samples.effect_of.Goals as goal

pub returns-then-j-eq0 : goal.returns-then-j-eq0
returns-then-j-eq0 c =
    does-as _ _ c.args.digits c.args.heard c.start.result
    (first-start c.args.mode c.args.j c.if-j-eq0.true c.requires.j_in_bounds) c.start.ensures

pub returns-then-heard-eq0 : goal.returns-then-heard-eq0
returns-then-heard-eq0 c =
    quiet-breaks c.args.mode c.args.j c.args.digits c.args.heard c.if-j-eq0.false c.requires.j_in_bounds
    c.if-heard-eq0.true

pub of-requires : goal.of-requires
of-requires c =
    let n = c.if-j-eq0.false in
    record { low = omega arith; high = c.requires.j_in_bounds }
