use borrow.Author.Rules.{rules}
use Rattle.frames.proofs.Range.{place-255}
use Rattle.edges_runs.proofs.frame_end.Goals as goal

pub overflow_cast-s : goal.overflow_cast-s
overflow_cast-s c =
    let few = place-255 c.args.mode _ c.to_stop-s.ensures.passes.ranged in search (rules, few)
