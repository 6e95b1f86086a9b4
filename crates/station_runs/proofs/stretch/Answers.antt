use Rattle.std.proofs.Common.{◌∙◌, ◌≤◌, arith}
use Rattle.queue.proofs.Moves.{moved-by-length}
use Rattle.station.specs.Station.{station}
use Rattle.station.proofs.Range.{station-in, front-in}
use Rattle.station_runs.proofs.stretch.Goals as goal

pub begin-requires-clause-core_in : goal.begin-requires-clause-core_in
begin-requires-clause-core_in c = (station-in (station c.args.c _) c.requires.chars_value).core-in

pub begin-requires-clause-front_bound : goal.begin-requires-clause-front_bound
begin-requires-clause-front_bound c =
    let f = front-in (station c.args.c _) (moved-by-length c.args.taken c.args.chars.now ∙ c.requires.chars_len)
    c.requires.chars_value in
    λ (w : 1 ≤ c.args.c.waiting). let b = f w in omega arith

pub wait-requires-clause-core_in : goal.wait-requires-clause-core_in
wait-requires-clause-core_in c = (station-in (station c.args.c _) c.requires.chars_value).core-in

pub listen-requires-clause-core_in : goal.listen-requires-clause-core_in
listen-requires-clause-core_in c = (station-in (station c.args.c _) c.requires.chars_value).core-in

pub returns-then-follows : goal.returns-then-follows
returns-then-follows c = c.codes.ensures _

pub returns-then-c-ne0 : goal.returns-then-c-ne0
returns-then-c-ne0 c = c.wait.ensures _ _

pub returns-else-c-ne0 : goal.returns-else-c-ne0
returns-else-c-ne0 c = c.listen.ensures _
