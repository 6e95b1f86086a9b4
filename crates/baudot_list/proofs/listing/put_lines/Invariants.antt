-- `listing::put_lines` meets its contract. The invariant: the lines left, behind those written.
use Rattle.baudot_list.proofs.ListingRule.{Listed}
use Rattle.baudot_list.proofs.listing.put_lines.Given as goal

abbrev pub invariant-loop-i : goal.invariant-loop-i
invariant-loop-i l = Listed l.codes l.initial.lines l.lines l.i
