-- `count_block` meets its contract: the shift codes of a list are the sum over its codes.
use mathlib.Core.Path.{◌≡◌, ◌∙◌, sym}
use Rattle.std.specs.List.{sum_by}
use Rattle.std.proofs.Common.{rules}
use Rattle.baudot.specs.Counting.{shift_one}
use Rattle.baudot_reading.proofs.ReadingRule.{shifts-sum}
use Rattle.baudot_reading.proofs.count_block.Goals as goal

pub returns : goal.returns
returns c =
    let e : c.sum.result ≡ sum_by shift_one c.args.codes.now = search rules in
    e ∙ sym (shifts-sum c.args.codes.now)
