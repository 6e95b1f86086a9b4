use mathlib.Core.Path.{refl, subst}
use native.Mathlib.Omega.{arith}
use lib.ListN.{get_or}
use Rattle.frames.proofs.Range.{place-255}
use Rattle.frames.specs.code.Samples.{kind_of, Does}
use Rattle.frames_runs.proofs.Numbered.{next_of}
use Rattle.frames_runs.proofs.Framing.{ahead-start, ahead-turn, stops-here}
use Rattle.frames_runs.proofs.to_stop.Goals as goal

pub number_at-j-requires : goal.number_at-j-requires
number_at-j-requires c =
    let p = place-255 c.args.mode _ c.requires.frame_of in omega arith

pub sample_ms-s-requires : goal.sample_ms-s-requires
sample_ms-s-requires c =
    let n = next_of c.args.mode _ _ c.requires.frame_of c.requires.le_place _ _ c.number_at-j.ensures refl in
    omega arith

pub overflow_sub-at : goal.overflow_sub-at
overflow_sub-at c =
    let n = next_of c.args.mode _ _ c.requires.frame_of c.requires.le_place _ _ c.number_at-j.ensures
    c.sample_ms-s.ensures in
    omega arith

pub overflow_add-at : goal.overflow_add-at
overflow_add-at c =
    let n = next_of c.args.mode _ _ c.requires.frame_of c.requires.le_place _ _ c.number_at-j.ensures
    c.sample_ms-s.ensures in
    omega arith

pub loop-at-init : goal.loop-at-init
loop-at-init c =
    ahead-start c.args.mode c.requires.framed _ _ c.requires.frame_of _ _ _ refl c.requires.le_place
    c.requires.to_in_bounds _ _ c.number_at-j.ensures c.sample_ms-s.ensures

pub returns-in_default : goal.returns-in_default
returns-in_default c =
    stops-here c.args.mode c.requires.framed _ _ c.requires.frame_of _ _ _ _ c.loop-at.invariant c.loop-at-test.true _
    c.effect_of-e.ensures c.in_default.not-On

pub loop-at-preserved : goal.loop-at-preserved
loop-at-preserved c =
    ahead-turn c.args.mode c.requires.framed _ _ c.requires.frame_of _ _ _ _ _ c.loop-at.invariant c.loop-at-test.true _
    (subst (Does (kind_of c.args.mode c.loop-at.j) c.loop-at.d (get_or c.args.heard.now c.loop-at.at 0)) c.in-On.is
    c.effect_of-e.ensures) _ _ _ refl c.sample_ms-next.ensures refl
