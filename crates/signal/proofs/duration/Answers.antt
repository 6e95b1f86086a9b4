-- `duration` meets its contract, by the mode.
use mathlib.Core.Path.{◌∙◌, sym, ap}
use Prim.Native.Nat.{ℕ, ◌*◌}
use native.Mathlib.Omega.{arith}
use Rattle.alphabet.specs.declared.Mode.TheVariants.{Baudot45, Baudot50, Dtmf, Edt}
use Rattle.signal.proofs.Lengths.{four-keys, length-in, baudot-165, baudot-150, dtmf-120, edt-100}
use borrow.Author.Rules.{rules}
use Rattle.signal.proofs.duration.Goals as goal

pub overflow_mul-result : goal.overflow_mul-result
overflow_mul-result c =
    let h = four-keys c.args.code.0 (search rules) in
    omega arith

pub returns-in-Baudot45 : goal.returns-in-Baudot45
returns-in-Baudot45 c =
    length-in _ Baudot45 _ _ c.in-Baudot45.is (sym (baudot-165 _))

pub returns-in-Baudot50 : goal.returns-in-Baudot50
returns-in-Baudot50 c =
    length-in _ Baudot50 _ _ c.in-Baudot50.is (sym (baudot-150 _))

pub returns-in-Dtmf : goal.returns-in-Dtmf
returns-in-Dtmf c =
    length-in _ Dtmf _ _ c.in-Dtmf.is
    (ap (λ (n : ℕ). 120 * n) c.key_count.ensures ∙ sym (dtmf-120 _))

pub returns-in-Edt : goal.returns-in-Edt
returns-in-Edt c = length-in _ Edt _ _ c.in-Edt.is (sym (edt-100 _))
