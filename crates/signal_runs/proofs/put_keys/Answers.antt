use Rattle.std.proofs.Common.{◌≡◌, ◌∙◌, refl, sym, ap, ℕ, ◌+◌, ◌-◌, ◌<◌, ◌≤◌, get_or, arith, rules}
use Rattle.lists.specs.Tables.{tabulate}
use Rattle.alphabet.specs.declared.Mode.TheVariants.{Dtmf}
use Rattle.signal.specs.Signal.{signal}
use Rattle.signal_runs.specs.code.Levels.{code_level}
use Rattle.signal_runs.proofs.Filling.{level_more}
use Rattle.signal_runs.proofs.Elements.{even-some, even-same, short}
use Rattle.signal_runs.proofs.put_keys.Goals as goal

pub loop-i-init : goal.loop-i-init
unfolding tabulate
loop-i-init c = record { within = search rules; written = refl }

pub overflow_add-m : goal.overflow_add-m
overflow_add-m c = let k = (short Dtmf c.args.code.0 c.requires.code_bound).most in omega arith

pub overflow_cast-m : goal.overflow_cast-m
overflow_cast-m c = let k = (short Dtmf c.args.code.0 c.requires.code_bound).most in omega arith

pub level-requires-clause-at_bound : goal.level-requires-clause-at_bound
level-requires-clause-at_bound c = let k = (short Dtmf c.args.code.0 c.requires.code_bound).most in omega arith

pub loop-i-smaller : goal.loop-i-smaller
loop-i-smaller c =
    let on = c.up_to-end.ensures.on (rw c.even_ms.ensures (even-some _)) c.loop-i-test.true in omega arith

pub loop-i-preserved : goal.loop-i-preserved
loop-i-preserved c =
    let i = c.loop-i.i in
    let end = c.up_to-end.result in
    let few = c.up_to-end.ensures.few in
    let same : (k : ℕ) → i ≤ k → k < end → code_level Dtmf c.args.code.0 c.args.at k ≡ c.level.result =
    λ (k : ℕ) (a : i ≤ k) (b : k < end).
    let z : c.args.at + k ≡ c.args.at + i + (k - i) = omega arith in
    ap (λ (m : ℕ). get_or (signal Dtmf c.args.code.0) m 0) z
    ∙ even-same c.args.code.0 (c.args.at + i) (k - i) (omega arith) ∙ sym c.level.ensures in
    record {
      within = search rules;
      written =
          level_more _ _ _ c.up_to-end.ensures.low c.up_to-end.ensures.high _ _ c.fill.ensures _
          c.loop-i.invariant.written same;
    }
