-- `only_hears` meets its contract.
use mathlib.Core.Path.{◌≡◌, ap}
use mathlib.Core.Bool.{true, not}
use mathlib.Core.Logic.{⊎_elim}
use lib.Dec.{eqb}
use borrow.Author.Tests.{eq-eqb, eqb-true}
use Rattle.station_entry.proofs.only_hears.Goals as goal
use Rattle.station_entry.proofs.only_hears.Goals.{then-c-eq-IDLE, else-c-eq-IDLE}

pub returns-then-c-eq0 : goal.returns-then-c-eq0
returns-then-c-eq0 c =
    λ e. record {
      no-burst = ap not (eq-eqb _ 0 c.if-c-eq0.true.0);
      none-waiting = c.if-c-eq0.true.1;
      none_to_come = eqb-true _ 0 e;
    }

pub returns-else-c-eq0 : goal.returns-else-c-eq0
returns-else-c-eq0 c =
    λ e. elim c.if-c-eq-IDLE.branch [
      | then-c-eq-IDLE w ↦ (let z : eqb c.args.station.now.core.waiting 0 ≡ true = cc in
          absurd (⊎_elim (λ p. p.1 (eqb-true _ 0 z)) (λ n. n w.if-c-eq-IDLE.true) c.if-c-eq0.either))
      | else-c-eq-IDLE w ↦ cc
    ]
