-- `line_after` meets its contract.
use Rattle.burst.specs.Line.{closed}
use Rattle.burst.proofs.line_after.Goals as goal

pub returns : goal.returns
unfolding closed
returns c =
    simp (
      c.ended.ensures,
      c.front_is_next-next.ensures,
      c.is_over.ensures,
      c.alphabet.ensures,
      c.one_gone-gone.ensures,
    )
