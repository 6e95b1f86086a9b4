use Rattle.std.proofs.Common.{◌∙◌, sym, ap, subst, Bool, true, ◌+◌, ◌≤◌, length, arith, rules}
use Rattle.burst.specs.Line.{ended}
use Rattle.burst.specs.code.Bounds.{SendsIn}
use Rattle.burst.proofs.Range.{sends-in}
use Rattle.station.specs.Station.{station}
use Rattle.station.proofs.Range.{station-in}
use Rattle.burst_runs.proofs.Coding.{coded-start, char-below, code-whole, code-turn}
use Rattle.burst_runs.proofs.codes.Goals as goal

pub loop-table-init : goal.loop-table-init
loop-table-init c =
    let j = (station-in (station c.args.c _) c.requires.chars_value).core-in in
    coded-start _ _ _ _ _ (omega arith) j.sender-in j.silence_in c.requires.line_value

pub lookup-sends-requires : goal.lookup-sends-requires
lookup-sends-requires c =
    char-below _ _ _ _ _ _ (omega arith) c.requires.chars_value c.requires.chars_len c.requires.waiting_bound _ _ _ _ _
    c.loop-table.invariant _ c.of-mode.ensures _ c.longest-most.ensures _ c.goes_on.ensures c.loop-table-test.true

pub whole_code-next-requires-clause-sends_in : goal.whole_code-next-requires-clause-sends_in
whole_code-next-requires-clause-sends_in c =
    let below = char-below _ _ _ _ _ _ (omega arith) c.requires.chars_value c.requires.chars_len
    c.requires.waiting_bound _ _ _ _ _ c.loop-table.invariant _ c.of-mode.ensures _ c.longest-most.ensures
    _ c.goes_on.ensures c.loop-table-test.true in
    subst (SendsIn _) (sym c.lookup-sends.ensures) (sends-in _ _ below)

pub slice_bounds-put_whole-end : goal.slice_bounds-put_whole-end
slice_bounds-put_whole-end c =
    let w = code-whole _ _ _ _ _ _ (omega arith) c.requires.chars_value c.requires.chars_len c.requires.waiting_bound
    _ _ _ _ _ c.loop-table.invariant _ c.of-mode.ensures _ c.longest-most.ensures _ c.goes_on.ensures
    c.loop-table-test.true _ c.alphabet-a.ensures _ c.lookup-sends.ensures _ c.whole_code-next.ensures in
    let behind : c.loop-table.at + c.whole_code-next.result.line.at ≤ length c.loop-table.sent = omega arith in
    search (rules, behind)

pub put_whole-requires-clause-code_bound : goal.put_whole-requires-clause-code_bound
put_whole-requires-clause-code_bound c =
    let w = code-whole _ _ _ _ _ _ (omega arith) c.requires.chars_value c.requires.chars_len c.requires.waiting_bound
    _ _ _ _ _ c.loop-table.invariant _ c.of-mode.ensures _ c.longest-most.ensures _ c.goes_on.ensures
    c.loop-table-test.true _ c.alphabet-a.ensures _ c.lookup-sends.ensures _ c.whole_code-next.ensures in
    w.code-in

pub loop-table-smaller : goal.loop-table-smaller
loop-table-smaller c =
    let w = code-whole _ _ _ _ _ _ (omega arith) c.requires.chars_value c.requires.chars_len c.requires.waiting_bound
    _ _ _ _ _ c.loop-table.invariant _ c.of-mode.ensures _ c.longest-most.ensures _ c.goes_on.ensures
    c.loop-table-test.true _ c.alphabet-a.ensures _ c.lookup-sends.ensures _ c.whole_code-next.ensures in
    omega arith

pub loop-table-preserved : goal.loop-table-preserved
loop-table-preserved c =
    code-turn _ _ _ _ _ _ (omega arith) c.requires.chars_value c.requires.chars_len c.requires.waiting_bound
    _ _ _ _ _ c.loop-table.invariant _ c.of-mode.ensures _ c.longest-most.ensures _ c.goes_on.ensures
    c.loop-table-test.true _ c.alphabet-a.ensures _ c.lookup-sends.ensures _ c.whole_code-next.ensures
    (omega arith) _ c.put_whole.ensures _ c.place_after-taken.ensures _
    (c.ended-line.ensures ∙ ap (λ (e : Bool). ended true e c.whole_code-next.result.line) c.may_end.ensures)

pub coded-requires-clause-silence_le_free_ms : goal.coded-requires-clause-silence_le_free_ms
coded-requires-clause-silence_le_free_ms c =
    (station-in (station c.args.c _) c.requires.chars_value).core-in.silence_in
