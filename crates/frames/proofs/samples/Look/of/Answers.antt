-- `later_effect` meets its contract, by the mode.
use mathlib.Core.Logic.{inl, inr}
use mathlib.Core.Path.{◌≡◌, ◌∙◌, ap, subst}
use Prim.Native.Nat.{ℕ}
use native.Mathlib.Omega.{arith}
use lib.ListN.{length}
use Rattle.alphabet.specs.declared.Mode.{Mode}
use Rattle.frames.specs.Samples.{samples_of}
use Rattle.frames.specs.code.Samples.{Later}
use Rattle.frames.proofs.Sampling.{samples_count, length-samples_of, kind-45, kind-50, kind-edt, does-as}
use Rattle.frames.proofs.samples.Look.of.Goals as goal

-- below the number of a mode's samples
later : {mode o : Mode} {j : ℕ} → mode ≡ o → Later (length (samples_of mode)) j → Later (samples_count o) j
later {mode} {o} {j} e h = subst (λ (n : ℕ). Later n j) (length-samples_of mode ∙ ap samples_count e) h

pub baudot-requires : goal.baudot-requires
baudot-requires c =
    elim c.in-Baudot45.is [ inl e ↦ later e c.requires | inr e ↦ later e c.requires ]

pub edt-requires : goal.edt-requires
edt-requires c = later c.in-Edt.is c.requires

pub returns-in-Baudot45 : goal.returns-in-Baudot45
returns-in-Baudot45 c =
    does-as _ _ c.args.self.digits c.args.self.heard c.baudot.result
    (elim c.in-Baudot45.is [ inl e ↦ kind-45 _ _ e | inr e ↦ kind-50 _ _ e ]) c.baudot.ensures

pub returns-in-Dtmf : goal.returns-in-Dtmf
returns-in-Dtmf c =
    let none = later c.in-Dtmf.is c.requires in
    absurd (omega arith)

pub returns-in-Edt : goal.returns-in-Edt
returns-in-Edt c =
    does-as _ _ c.args.self.digits c.args.self.heard c.edt.result (kind-edt _ _ c.in-Edt.is) c.edt.ensures
