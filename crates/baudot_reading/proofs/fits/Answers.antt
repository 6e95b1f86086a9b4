-- `reading::fits` meets its contract: what is read is the codes less the shift codes.
use mathlib.Core.Path.{◌∙◌, sym, ap}
use Prim.Native.Nat.{ℕ, ◌-◌}
use native.Mathlib.Omega.{arith}
use lib.Dec.{leb}
use lib.ListN.{length}
use borrow.Author.Tests.{le-leb}
use Rattle.baudot.specs.Reading.{text_of}
use Rattle.baudot.proofs.CountingRule.{text-count, text-short, shifts-most}
use Rattle.baudot_reading.proofs.fits.Goals as goal

pub returns-then-codes-room : goal.returns-then-codes-room
returns-then-codes-room c =
    λ s.
    let l = text-short s c.args.codes.now in
    le-leb _ _ c.if-codes-room.true
    ∙ sym (le-leb (length (text_of s c.args.codes.now)) c.args.room (omega (arith, c.if-codes-room.true, l)))

pub overflow_sub-result : goal.overflow_sub-result
overflow_sub-result c =
    omega (arith, c.count_shifts.ensures, shifts-most c.args.codes.now)

pub returns-else-codes-room : goal.returns-else-codes-room
returns-else-codes-room c =
    λ s.
    ap (λ (n : ℕ). leb (length c.args.codes.now - n) c.args.room) c.count_shifts.ensures
    ∙ ap (λ (n : ℕ). leb n c.args.room) (sym (text-count s c.args.codes.now))
