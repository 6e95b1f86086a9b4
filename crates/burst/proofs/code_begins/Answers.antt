-- `code_begins` meets its contract: none, an own code, a shift code.
use mathlib.Core.Path.{◌≡◌, ◌∙◌, sym, ap, subst}
use Prim.Native.Nat.{ℕ}
use Rattle.burst.specs.Line.{shift_begins}
use Rattle.burst.specs.code.Bounds.{SendsIn}
use Rattle.burst.proofs.Laws.{no_code, own_code, shift-code, shift_made}
use Rattle.burst.proofs.code_begins.Goals as goal

pub returns-in_default : goal.returns-in_default
returns-in_default c = sym (no_code c.args.a c.args.l c.args.s _ c.in_default.is)

pub shift_ahead-w-requires : goal.shift_ahead-w-requires
shift_ahead-w-requires c =
    let k = subst (SendsIn c.args.a) c.in-Some.is c.requires.sends_in in
    record { sender_in = c.requires.sender_in; le_own = (k.own_low, k.own_in) }

pub returns-then-w-eq0 : goal.returns-then-w-eq0
returns-then-w-eq0 c =
    let w = sym c.shift_ahead-w.ensures ∙ c.if-w-eq0.true in
    let own = own_code c.args.a c.args.l c.args.s _ _ _ c.in-Some.is w in
    simp (c.code.ensures, c.sender_after_own.ensures) (sym own)

pub returns : goal.returns
returns c =
    let some = subst (λ (m : ℕ). m ≡ 0 → ⊥) c.shift_ahead-w.ensures c.if-w-eq0.false in
    simp c.code-2.ensures
    (shift_made _ _ c.shift_code.ensures ∙ ap shift_begins c.shift_ahead-w.ensures
    ∙ sym (shift-code c.args.a c.args.l c.args.s _ _ _ c.in-Some.is some))
