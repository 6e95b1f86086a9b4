-- `preview` meets its contract.
use mathlib.Core.Path.{sym}
use Rattle.station.proofs.Kept.{accepted}
use Rattle.preview.proofs.preview.Goals as goal

pub ms_left-requires-clause-accepted : goal.ms_left-requires-clause-accepted
ms_left-requires-clause-accepted c = (accepted _ _ (sym c.in_ok-waiting.ensures.answer_value)).1
