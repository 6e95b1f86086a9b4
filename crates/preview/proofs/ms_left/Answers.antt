-- `ms_left` meets its contract.
use mathlib.Core.Path.{◌≡◌}
use mathlib.Core.Bool.{true}
use lib.ListN.{length}
use Rattle.burst.specs.Line.{begun}
use Rattle.station.specs.Measured.{station_of}
use Rattle.station.proofs.Range.{core-in}
use Rattle.preview.proofs.Offered.{chars-low, behind-few, idle-now, idle-later}
use borrow.Author.Rules.{rules}
use Rattle.preview.proofs.ms_left.Goals as goal

pub returns-then-c-waiting : goal.returns-then-c-waiting
returns-then-c-waiting c = idle-now _ c.args.text.now _ c.requires.waiting_value c.if-c-waiting.true

pub shared_ref_as_front-busy_ms : goal.shared_ref_as_front-busy_ms
shared_ref_as_front-busy_ms c = (core-in _ c.requires.accepted.ranged).waiting-in

pub busy_ms-requires : goal.busy_ms-requires
busy_ms-requires c =
    let full : length c.args.station.now.chars ≡ 256 = search rules in
    let s = station_of c.args.station.now in
    let text = c.args.text.now in
    record {
      core_in = core-in s c.requires.accepted.ranged;
      text_value = chars-low s text full c.requires.accepted;
      text_bound = behind-few s text full c.requires.accepted (begun true s.core.line);
    }

pub returns-else-c-waiting : goal.returns-else-c-waiting
returns-else-c-waiting c =
    let full : length c.args.station.now.chars ≡ 256 = search rules in
    idle-later _ c.args.text.now _ c.requires.waiting_value full c.requires.accepted c.if-c-waiting.false _
    c.busy_ms.ensures
