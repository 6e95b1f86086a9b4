-- `hear` meets its contract: frames, or keys.
use mathlib.Core.Path.{◌∙◌, sym}
use Rattle.reader.proofs.Outcomes.{hear-keys}
use Rattle.reader.proofs.Parts.{hears-frames}
use Rattle.reader.proofs.Tags.{framed-by}
use Rattle.reader.proofs.hear.Goals as goal

pub returns-in-Dtmf : goal.returns-in-Dtmf
returns-in-Dtmf c = hear-keys _ _ _ _ c.in-Dtmf.is c.hear_key.ensures

pub returns-in_default : goal.returns-in_default
returns-in_default c =
    let mode = c.args.mode in
    c.hear_frame.ensures ∙ sym (hears-frames mode (framed-by mode c.in_default.not-Dtmf) _ _)
