use mathlib.Core.Path.{refl}
use native.Mathlib.Omega.{arith}
use Rattle.frames_runs.specs.code.Walking.{frame_of}
use Rattle.edges_runs.specs.code.Counting.{Clean}
use Rattle.edges_runs.proofs.Sampling.{reached-clean}
use Rattle.edges_runs.proofs.Measuring.{measured-framed}
use Rattle.edges_runs.proofs.Ending.{reached-start, reached-next, reached-none, ended-far}
use Rattle.edges_runs.proofs.next_end.Goals as goal

pub loop-at-init : goal.loop-at-init
loop-at-init c =
    reached-start _ (measured-framed c.args.mode c.requires.mode_value) _ _ _ c.requires.frame_of
    c.requires.to_in_bounds

pub returns-then-k-heard : goal.returns-then-k-heard
returns-then-k-heard c =
    let clean : Clean (frame_of c.loop-at.at) = reached-clean _ _ _ _ _ _ c.requires.clean c.loop-at.invariant in
    record {
      frame = _;
      reached = reached-none _ (measured-framed c.args.mode c.requires.mode_value) _ _ _ _ _ _ c.loop-at.invariant
          clean (omega arith) _ c.between-k.ensures c.if-k-heard.true;
    }

pub loop-at-preserved : goal.loop-at-preserved
loop-at-preserved c =
    let clean : Clean (frame_of c.loop-at.at) = reached-clean _ _ _ _ _ _ c.requires.clean c.loop-at.invariant in
    let high = c.between-k.ensures.high in
    reached-next _ (measured-framed c.args.mode c.requires.mode_value) _ _ _ _ _ _ c.loop-at.invariant
    clean (omega arith) _ c.between-k.ensures (omega (arith, c.if-k-heard.false)) _ c.place_after.ensures

pub returns : goal.returns
returns c =
    let clean : Clean (frame_of c.loop-at.at) = reached-clean _ _ _ _ _ _ c.requires.clean c.loop-at.invariant in
    ended-far _ (measured-framed c.args.mode c.requires.mode_value) _ _ _ _ _ _ c.loop-at.invariant clean
    c.args.w refl refl _ c.measured_end.ensures
