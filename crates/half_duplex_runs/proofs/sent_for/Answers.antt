-- `sent_for` meets its contract.
use mathlib.Core.Path.{◌≡◌, ◌∙◌}
use Rattle.burst.specs.Rules.{may_end}
use Rattle.burst.specs.Line.{further, ended, closed}
use Rattle.half_duplex.specs.Core.{core, mode_in}
use Rattle.half_duplex_runs.specs.code.Cores.{sent_for}
use Rattle.half_duplex_runs.proofs.Laws.{burst_some}
use Rattle.half_duplex_runs.proofs.sent_for.Goals as goal

pub returns : goal.returns
unfolding sent_for closed
returns c =
    let s = c.args.c in
    let n = c.args.n in
    let after : c.ended.result ≡ closed (mode_in s) (may_end s.waiting) (further s.line n) =
    c.ended.ensures ∙ (λ j. ended (c.requires.next_value j) (c.may_end.ensures j) (c.further.ensures j)) in
    let inhibited = burst_some s.inhibited n c.requires.le_n in
    λ j. core s.waiting (c.silence_for.ensures j) (inhibited j) (after j) s.sender
    (c.deaf_reader.ensures j) s.mode
