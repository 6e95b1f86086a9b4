-- `hear_frame` meets its contract.
use mathlib.Core.Path.{sym, ap, subst}
use Rattle.frames.specs.declared.FrameRead.{FrameRead}
use Rattle.frames.specs.code.Bounds.{FoundIn}
use Rattle.frames.proofs.Range.{found_in}
use Rattle.reader.proofs.hear_frame.Goals as goal

pub frame_step-f-requires : goal.frame_step-f-requires
frame_step-f-requires c = c.requires

pub found_outcome-o-requires : goal.found_outcome-o-requires
found_outcome-o-requires c =
    subst (FoundIn _) (sym (ap (λ (r : FrameRead). r.found) c.frame_step-f.ensures))
    (found_in _ _ _ _ c.requires.digits_in)

pub returns : goal.returns
returns c = simp (c.found_outcome-o.ensures, c.frame_step-f.ensures)
