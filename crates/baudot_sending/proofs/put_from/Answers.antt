use mathlib.Core.Path.{refl}
use native.Mathlib.Omega.{arith}
use Rattle.lists.proofs.Lists.{at-most-at}
use Rattle.baudot_sending.proofs.Left.{left-room, left_end, writing-turn, writing-end}
use Rattle.baudot_sending.proofs.put_from.Goals as goal

pub put_char-placed-requires-clause-c_bound : goal.put_char-placed-requires-clause-c_bound
put_char-placed-requires-clause-c_bound c =
    let t = c.args.text in
    omega (arith, at-most-at 0x7f t.bytes.now t.chars c.loop-byte.byte-index c.loop-byte-test.true)

pub put_char-placed-requires-clause-c_in_bounds : goal.put_char-placed-requires-clause-c_in_bounds
put_char-placed-requires-clause-c_in_bounds c =
    let w = c.loop-byte.invariant in
    left-room _ _ _ _ w.left _ _ c.loop-byte-test.true refl (omega (arith, w.size, c.requires.text_in_bounds))

pub loop-byte-preserved : goal.loop-byte-preserved
loop-byte-preserved c =
    let t = c.args.text in
    let h = at-most-at 0x7f t.bytes.now t.chars c.loop-byte.byte-index c.loop-byte-test.true in
    let e = c.put_char-placed.ensures in
    writing-turn _ _ _ _ _ _ c.loop-byte.invariant _ _ c.loop-byte-test.true refl refl (omega (arith, h)) _ e.value
    _ e.codes_after

pub returns-clause-value : goal.returns-clause-value
returns-clause-value c = left_end _ _ _ _ c.loop-byte.invariant.left c.loop-byte-test.false

pub returns-clause-codes_after : goal.returns-clause-codes_after
returns-clause-codes_after c = writing-end _ _ _ _ _ _ c.loop-byte.invariant c.loop-byte-test.false
