use Rattle.std.proofs.Common.{◌-◌, length, arith, rules}
use Rattle.signal_runs.proofs.Filling.{filled_front, filled_more, whole}
use Rattle.signal_runs.proofs.fill.Goals as goal

pub loop-i-preserved : goal.loop-i-preserved
loop-i-preserved c = record {
  within = search rules;
  written =
      filled_more _ _ _ (omega arith) (omega arith) _ _ c.fill_ms.ensures c.loop-i.invariant.written _ (omega arith);
}

pub returns : goal.returns
returns c =
    let before = filled_front _ _ (length c.args.sent.now - 64) _ c.loop-i.invariant.written (omega arith) in
    whole (length c.args.sent.now) _ _ (search rules)
    (filled_more _ _ _ (omega arith) (omega arith) _ _ c.fill_ms-2.ensures before _ (omega arith))
