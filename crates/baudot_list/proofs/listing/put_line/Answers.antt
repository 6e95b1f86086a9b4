-- `listing::put_line` meets its contract: six stores, one behind the other.
use native.Mathlib.Omega.{arith}
use lib.ListN.{length-set}
use Rattle.baudot_list.proofs.ListingRule.{six-stores}
use Rattle.baudot_list.proofs.listing.put_line.Goals as goal

pub bounds-lines-at-2 : goal.bounds-lines-at-2
bounds-lines-at-2 c = simp length-set (omega arith)

pub bounds-lines-at-3 : goal.bounds-lines-at-3
bounds-lines-at-3 c = simp length-set (omega arith)

pub bounds-lines-at-4 : goal.bounds-lines-at-4
bounds-lines-at-4 c = simp length-set (omega arith)

pub bounds-lines-at-5 : goal.bounds-lines-at-5
bounds-lines-at-5 c = simp length-set (omega arith)

pub bounds-lines-at-6 : goal.bounds-lines-at-6
bounds-lines-at-6 c = simp length-set (omega arith)

pub returns : goal.returns
returns c =
    six-stores c.args.lines.now c.args.at c.args.code.0 _ _ _ _ _
    c.digit.ensures c.digit-2.ensures c.digit-3.ensures
    c.digit-4.ensures c.digit-5.ensures
