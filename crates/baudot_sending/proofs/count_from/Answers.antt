use mathlib.Core.Path.{ap, refl}
use Prim.Native.Nat.{◌+◌, ◌*◌}
use native.Mathlib.Omega.{arith}
use lib.ListN.{length}
use Rattle.lists.proofs.Lists.{at-most-at}
use Rattle.baudot.proofs.SendingRule.{codes-twice}
use Rattle.baudot_sending.specs.declared.Placed.{Placed}
use Rattle.baudot_sending.proofs.Left.{left-turn, left-room, left_end}
use Rattle.baudot_sending.proofs.count_from.Goals as goal

pub count_char-placed-requires-clause-c_bound : goal.count_char-placed-requires-clause-c_bound
count_char-placed-requires-clause-c_bound c =
    let t = c.args.text in
    omega (arith, at-most-at 0x7f t.bytes.now t.chars c.loop-byte.byte-index c.loop-byte-test.true)

pub count_char-placed-requires-clause-c_bound_2 : goal.count_char-placed-requires-clause-c_bound_2
count_char-placed-requires-clause-c_bound_2 c =
    let t = c.args.text in
    let b = codes-twice c.args.start.sender t.bytes.now t.chars c.requires.running in
    let r = left-room _ _ _ _ c.loop-byte.invariant (c.args.start.at + 2 * length t.bytes.now) _ c.loop-byte-test.true
    refl (omega (arith, b)) in
    omega (arith, r, c.requires.at_bound, c.well_formed)

pub loop-byte-preserved : goal.loop-byte-preserved
loop-byte-preserved c =
    let t = c.args.text in
    let h = at-most-at 0x7f t.bytes.now t.chars c.loop-byte.byte-index c.loop-byte-test.true in
    left-turn _ _ _ _ c.loop-byte.invariant _ _ c.loop-byte-test.true refl refl (omega (arith, h)) _
    c.count_char-placed.ensures

pub returns : goal.returns
returns c = ap (λ (p : Placed). p.at) (left_end _ _ _ _ c.loop-byte.invariant c.loop-byte-test.false)
