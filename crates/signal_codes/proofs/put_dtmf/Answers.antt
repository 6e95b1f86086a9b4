use Rattle.std.proofs.Common.{arith, rules}
use Rattle.signal.specs.Signal.{signal}
use Rattle.signal.proofs.Lengths.{dtmf-120}
use Rattle.signal_runs.proofs.Filling.{writing-start}
use Rattle.signal_codes.proofs.WholeCodes.{dtmf_keys, keying-turn, keying-end}
use Rattle.signal_codes.proofs.put_dtmf.Goals as goal

pub loop-k-init : goal.loop-k-init
unfolding signal
loop-k-init c = writing-start _ _ c.requires

pub overflow_cast-k : goal.overflow_cast-k
overflow_cast-k c =
    let few = (dtmf_keys c.args.code.0 (search rules) _ c.loop-k.k c.requires (omega arith)).1 in omega arith

pub key-requires : goal.key-requires
key-requires c = (dtmf_keys c.args.code.0 (search rules) _ c.loop-k.k c.requires (omega arith)).1

pub loop-k-preserved : goal.loop-k-preserved
loop-k-preserved c =
    keying-turn _ _ _ c.loop-k.invariant
    (dtmf_keys c.args.code.0 (search rules) _ c.loop-k.k c.requires (omega arith)).0
    _ c.key.ensures _ _ c.fill_ms.ensures c.fill_ms-in-loop-k.ensures

pub returns : goal.returns
unfolding signal
returns c = let n = dtmf-120 c.args.code.0 in keying-end _ _ _ c.loop-k.invariant (omega arith)
