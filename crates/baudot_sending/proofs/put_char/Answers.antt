-- `put_char` meets its contract, by what is wanted ahead of the character's code.
use mathlib.Core.Path.{◌∙◌, sym}
use native.Mathlib.Omega.{arith}
use lib.ListN.{length-set}
use Rattle.baudot.proofs.SendingRule.{own_range}
use Rattle.baudot_sending.proofs.Put.{put-nothing, put-alone, put-shifted, alone-length, shifted-length}
use Rattle.baudot_sending.proofs.put_char.Goals as goal

pub returns-in_default : goal.returns-in_default
returns-in_default c =
    let p = put-nothing c.args.codes.now c.args.placed.at _ _ (sym c.lookup-e.ensures ∙ c.in_default.is) in
    record { value = p.placed; codes_after = p.stored }

pub invariant_of-next : goal.invariant_of-next
invariant_of-next c =
    let own = own_range _ _ _ c.requires.c_bound (sym c.lookup-e.ensures ∙ c.in-Some.is) in
    record { running = c.requires.running; own_in = own }

pub bounds-codes-at : goal.bounds-codes-at
bounds-codes-at c =
    let x = sym c.lookup-e.ensures ∙ c.in-Some.is in
    let own = own_range _ _ _ c.requires.c_bound x in
    let n = shifted-length _ _ _ _ x c.requires.running own (sym c.if-wants_shift.ensures) in
    omega (arith, n, c.requires.c_in_bounds)

pub bounds-codes-at-then-wants_shift : goal.bounds-codes-at-then-wants_shift
bounds-codes-at-then-wants_shift c =
    let x = sym c.lookup-e.ensures ∙ c.in-Some.is in
    let own = own_range _ _ _ c.requires.c_bound x in
    let n = shifted-length _ _ _ _ x c.requires.running own (sym c.if-wants_shift.ensures) in
    rw length-set (omega (arith, n, c.requires.c_in_bounds))

pub returns-then-wants_shift : goal.returns-then-wants_shift
returns-then-wants_shift c =
    let x = sym c.lookup-e.ensures ∙ c.in-Some.is in
    let own = own_range _ _ _ c.requires.c_bound x in
    let p = put-shifted c.args.codes.now c.args.placed.at _ _ _ _ x c.requires.running own _
    c.shift_behind-shift.ensures (sym c.if-wants_shift.ensures) in
    record { value = p.placed; codes_after = rw c.shift_code.ensures p.stored }

pub bounds-codes-at-else-wants_shift : goal.bounds-codes-at-else-wants_shift
bounds-codes-at-else-wants_shift c =
    let x = sym c.lookup-e.ensures ∙ c.in-Some.is in
    let own = own_range _ _ _ c.requires.c_bound x in
    let n = alone-length _ _ _ _ x c.requires.running own (sym c.if-wants_shift.ensures) in
    omega (arith, n, c.requires.c_in_bounds)

pub returns-else-wants_shift : goal.returns-else-wants_shift
returns-else-wants_shift c =
    let x = sym c.lookup-e.ensures ∙ c.in-Some.is in
    let own = own_range _ _ _ c.requires.c_bound x in
    let p = put-alone c.args.codes.now c.args.placed.at _ _ _ _ x c.requires.running own
    (sym c.if-wants_shift.ensures) in
    record { value = p.placed; codes_after = p.stored }
