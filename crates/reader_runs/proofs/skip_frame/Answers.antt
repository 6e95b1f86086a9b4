use mathlib.Core.Path.{sym, subst}
use native.Mathlib.Omega.{arith}
use Rattle.frames.proofs.Range.{place-255}
use Rattle.reader_runs.specs.code.Skipping.{Skips}
use Rattle.reader_runs.proofs.Skipping.{frame-skips}
use Rattle.frames_runs.proofs.Framing.{pass-chain}
use Rattle.reader_runs.proofs.skip_frame.Goals as goal

pub with_walk-requires-clause-place_bound : goal.with_walk-requires-clause-place_bound
with_walk-requires-clause-place_bound c =
    let few = place-255 c.args.mode _ c.in-Break.ensures.ranged in omega arith

pub returns-in-Break : goal.returns-in-Break
returns-in-Break c =
    let p = pass-chain c.args.mode c.requires.framed _ _ _ _ _ _ _ c.loop-w.invariant c.in-Break.ensures in
    subst (Skips c.args.mode c.args.heard.now c.args.r c.args.i) (sym c.with_walk.ensures)
    (frame-skips c.args.mode c.requires.framed _ c.args.r c.requires.reader_in _ _ _ p)

pub with_walk-requires-2-clause-place_bound : goal.with_walk-requires-2-clause-place_bound
with_walk-requires-2-clause-place_bound c =
    let few = place-255 c.args.mode _ c.loop-w.invariant.ranged in omega arith

pub returns : goal.returns
returns c =
    subst (Skips c.args.mode c.args.heard.now c.args.r c.args.i) (sym c.with_walk-2.ensures)
    (frame-skips c.args.mode c.requires.framed _ c.args.r c.requires.reader_in _ _ _ c.loop-w.invariant)
