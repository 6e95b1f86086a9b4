-- `number_at` meets its contract.
use mathlib.Core.Path.{◌∙◌, sym, ap}
use Rattle.alphabet.specs.declared.Mode.{Mode}
use Rattle.frames.specs.code.Samples.{number_at}
use Rattle.frames.proofs.samples.number_at.Goals as goal

pub returns-in-Baudot45 : goal.returns-in-Baudot45
unfolding number_at
returns-in-Baudot45 c =
    c.baudot_number.ensures ∙ sym (ap (λ (d : Mode). number_at d c.args.m) c.in-Baudot45.is)

pub returns-in-Baudot50 : goal.returns-in-Baudot50
unfolding number_at
returns-in-Baudot50 c =
    c.baudot_number-in-Baudot50.ensures ∙ sym (ap (λ (d : Mode). number_at d c.args.m) c.in-Baudot50.is)

pub returns-in-Dtmf : goal.returns-in-Dtmf
unfolding number_at
returns-in-Dtmf c = sym (ap (λ (d : Mode). number_at d c.args.m) c.in-Dtmf.is)

pub returns-in-Edt : goal.returns-in-Edt
unfolding number_at
returns-in-Edt c = sym (ap (λ (d : Mode). number_at d c.args.m) c.in-Edt.is)
