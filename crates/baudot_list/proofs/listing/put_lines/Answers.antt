use native.Mathlib.Omega.{arith}
use Rattle.baudot_list.proofs.ListingRule.{listed_start, listed-turn, listed-end}
use Rattle.baudot_list.proofs.listing.put_lines.Goals as goal

pub loop-i-init : goal.loop-i-init
loop-i-init c = listed_start _ _

pub put_line-requires : goal.put_line-requires
put_line-requires c = omega (arith, c.requires, c.loop-i.invariant.size)

pub loop-i-preserved : goal.loop-i-preserved
loop-i-preserved c = listed-turn _ _ _ _ c.loop-i.invariant _ (omega arith) c.put_line.ensures

pub returns : goal.returns
returns c = listed-end _ _ _ _ c.loop-i.invariant (omega arith)
