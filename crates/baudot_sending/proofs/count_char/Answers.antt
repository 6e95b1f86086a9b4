-- `count_char` meets its contract, by what is wanted ahead of the character's code.
use mathlib.Core.Path.{◌∙◌, sym}
use mathlib.Core.List.{[]}
use native.Mathlib.Omega.{arith}
use Rattle.baudot.proofs.SendingRule.{own_range}
use Rattle.baudot_sending.proofs.Put.{put-nothing, put-alone, put-shifted, alone-length, shifted-length}
use Rattle.baudot_sending.proofs.count_char.Goals as goal

pub returns-in_default : goal.returns-in_default
returns-in_default c =
    (put-nothing [] c.args.placed.at _ _ (sym c.lookup-e.ensures ∙ c.in_default.is)).placed

pub invariant_of-next : goal.invariant_of-next
invariant_of-next c =
    let own = own_range _ _ _ c.requires.c_bound (sym c.lookup-e.ensures ∙ c.in-Some.is) in
    record { running = c.requires.running; own_in = own }

pub overflow_add-result : goal.overflow_add-result
overflow_add-result c =
    let x = sym c.lookup-e.ensures ∙ c.in-Some.is in
    let own = own_range _ _ _ c.requires.c_bound x in
    let n = shifted-length _ _ _ _ x c.requires.running own (sym c.if-wants_shift.ensures) in
    omega (arith, n, c.requires.c_bound_2)

pub returns-then-wants_shift : goal.returns-then-wants_shift
returns-then-wants_shift c =
    let x = sym c.lookup-e.ensures ∙ c.in-Some.is in
    let own = own_range _ _ _ c.requires.c_bound x in
    (put-shifted [] c.args.placed.at _ _ _ _ x c.requires.running own _ c.shift_behind.ensures
    (sym c.if-wants_shift.ensures)).placed

pub overflow_add-result-else-wants_shift : goal.overflow_add-result-else-wants_shift
overflow_add-result-else-wants_shift c =
    let x = sym c.lookup-e.ensures ∙ c.in-Some.is in
    let own = own_range _ _ _ c.requires.c_bound x in
    omega (arith, alone-length _ _ _ _ x c.requires.running own (sym c.if-wants_shift.ensures), c.requires.c_bound_2)

pub returns-else-wants_shift : goal.returns-else-wants_shift
returns-else-wants_shift c =
    let x = sym c.lookup-e.ensures ∙ c.in-Some.is in
    let own = own_range _ _ _ c.requires.c_bound x in
    (put-alone [] c.args.placed.at _ _ _ _ x c.requires.running own (sym c.if-wants_shift.ensures)).placed
