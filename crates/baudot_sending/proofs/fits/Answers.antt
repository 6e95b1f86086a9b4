-- `fits` meets its contract: twice the text and one more is enough for any result.
use mathlib.Core.Path.{◌∙◌}
use borrow.Author.Tests.{lt-ltb}
use Rattle.baudot_sending.proofs.OpeningRule.{room-enough}
use Rattle.baudot_sending.proofs.fits.Goals as goal

pub returns-then-text-room : goal.returns-then-text-room
returns-then-text-room c =
    lt-ltb _ _ c.if-text-room.true
    ∙ room-enough _ _ _ _ c.args.text.chars c.requires.running c.requires.at_bound c.if-text-room.true
