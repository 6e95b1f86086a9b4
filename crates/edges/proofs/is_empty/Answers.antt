-- `is_empty` meets its contract: the four fields in order.
use mathlib.Core.Bool.{◌&&◌}
use lib.Dec.{eqb}
use mir.Syntax.{w32}
use mir.Val.{SFits}
use borrow.Author.Rules.{rules}
use Rattle.edges.proofs.Integers.{zero_test}
use Rattle.edges.proofs.is_empty.Goals as goal

pub returns : goal.returns
returns c =
    let r = c.args.r in
    let sum : SFits w32 r.sum = search rules in
    let smallest : SFits w32 r.smallest = search rules in
    let largest : SFits w32 r.largest = search rules in
    λ i. eqb r.edges 0 && zero_test r.sum sum i && zero_test r.smallest smallest i && zero_test r.largest largest i
