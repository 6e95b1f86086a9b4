-- `sample_ms` meets its contract.
use mathlib.Core.Path.{◌∙◌, sym, ap}
use Rattle.alphabet.specs.declared.Mode.{Mode}
use Rattle.frames.specs.code.Samples.{sample_ms}
use Rattle.frames.proofs.samples.sample_ms.Goals as goal

pub returns-in-Baudot45 : goal.returns-in-Baudot45
unfolding sample_ms
returns-in-Baudot45 c =
    c.baudot_ms.ensures ∙ sym (ap (λ (d : Mode). sample_ms d c.args.j) c.in-Baudot45.is)

pub returns-in-Baudot50 : goal.returns-in-Baudot50
unfolding sample_ms
returns-in-Baudot50 c =
    c.baudot_ms-in-Baudot50.ensures ∙ sym (ap (λ (d : Mode). sample_ms d c.args.j) c.in-Baudot50.is)

pub returns-in-Dtmf : goal.returns-in-Dtmf
unfolding sample_ms
returns-in-Dtmf c = sym (ap (λ (d : Mode). sample_ms d c.args.j) c.in-Dtmf.is)

pub returns-in-Edt : goal.returns-in-Edt
unfolding sample_ms
returns-in-Edt c = sym (ap (λ (d : Mode). sample_ms d c.args.j) c.in-Edt.is)
