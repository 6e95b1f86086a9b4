use native.Mathlib.Omega.{arith}
use Rattle.frames_runs.proofs.Framing.{alike-passes, alike_next}
use Rattle.frames_runs.proofs.pass.Goals as goal

pub returns-then-at-heard : goal.returns-then-at-heard
returns-then-at-heard c =
    alike-passes c.args.mode c.requires.framed _ _ _ _ _ c.requires.frame_of c.if-w-gt1.false c.requires.to_in_bounds
    c.pass_alike-at.ensures

pub returns : goal.returns
returns c =
    let low = c.pass_alike-at.ensures.low in
    let high = c.pass_alike-at.ensures.high in
    record {
      passes = alike_next c.args.mode c.requires.framed _ _ _ _ _ c.requires.frame_of c.if-w-gt1.false
          c.requires.to_in_bounds c.pass_alike-at.ensures (omega (arith, c.if-at-heard.false)) _ c.place_after.ensures;
      further = omega arith;
    }
