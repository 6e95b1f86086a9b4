-- `free_end` meets its contract.
use native.Mathlib.Omega.{arith}
use Rattle.half_duplex_runs.proofs.Laws.{not_free}
use borrow.Author.Rules.{rules}
use Rattle.station_stretches.proofs.free_end.Goals as goal

pub up_to-requires : goal.up_to-requires
up_to-requires c = omega arith

pub returns-else-waiting-eq0 : goal.returns-else-waiting-eq0
returns-else-waiting-eq0 c =
    let l = not_free c.args.waiting c.args.silence c.requires.silence_value c.if-waiting-eq0.false in
    let on = c.up_to.ensures.on (omega arith) c.requires.i_lt_len in
    search (rules, on)
