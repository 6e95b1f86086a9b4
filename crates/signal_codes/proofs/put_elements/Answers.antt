use Rattle.std.proofs.Common.{◌+◌, ◌-◌, ◌*◌, ◌≤◌, length, arith, rules}
use Rattle.signal_codes.proofs.WholeCodes.{digit-fits, digit-written, digits-end}
use Rattle.signal_codes.proofs.put_elements.Goals as goal

pub slice_bounds-fill_ms-end : goal.slice_bounds-fill_ms-end
slice_bounds-fill_ms-end c =
    let f = digit-fits _ _ _ _ _ _ (c.args.count - (c.loop-j.j + 1)) c.loop-j.invariant (omega arith) in
    let g : (c.loop-j.j + 1) * c.args.ms ≤ length c.loop-j.sent = omega arith in
    search (rules, g)

pub loop-j-preserved : goal.loop-j-preserved
loop-j-preserved c =
    digit-written _ _ _ _ _ _ _ c.loop-j.invariant (omega arith) _ c.frame_level.ensures _ (omega arith) _
    c.fill_ms.ensures

pub returns : goal.returns
returns c = digits-end _ _ _ _ _ _ c.loop-j.invariant (omega arith)
