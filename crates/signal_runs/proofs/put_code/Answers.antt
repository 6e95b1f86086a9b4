-- `put_code` meets its contract: a frame, or keys.
use Rattle.std.proofs.Common.{◌≡◌, ◌∙◌, refl, ap, ℕ, length, arith}
use Rattle.lists.specs.Tables.{tabulate}
use Rattle.alphabet.specs.declared.Mode.{Mode}
use Rattle.alphabet.specs.declared.Mode.TheVariants.{Baudot45, Baudot50, Dtmf, Edt}
use Rattle.signal_runs.specs.code.Levels.{Framed, frame_level}
use Rattle.signal_runs.proofs.Elements.{framed-45, framed-50, framed-edt, frame-levels, short}
use Rattle.signal_runs.proofs.put_code.Goals as goal

-- any mode but DTMF
framed : (m : Mode) → (m ≡ Dtmf → ⊥) → Framed m
framed Baudot45 p = framed-45
framed Baudot50 p = framed-50
framed Dtmf p = absurd (p refl)
framed Edt p = framed-edt

pub put_frame-requires : goal.put_frame-requires
put_frame-requires c =
    let most = (short c.args.mode c.args.code.0 c.requires.code_bound).longest in
    record {
      framed = framed _ c.in_default.not-Dtmf;
      le_sent = c.requires.le_sent;
      sent_bound = omega arith;
    }

pub returns-in_default : goal.returns-in_default
returns-in_default c =
    let n = length c.args.sent.now in
    c.put_frame.ensures
    ∙ ap (λ (k : ℕ). tabulate (frame_level c.args.mode k c.args.at) n 0) c.frame_of.ensures
    ∙ frame-levels c.args.mode (framed _ c.in_default.not-Dtmf) c.args.code.0 c.args.at n c.requires.code_bound
    c.requires.sent_in_bounds
