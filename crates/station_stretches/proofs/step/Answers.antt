-- `step` meets its contract.
use mathlib.Core.Path.{◌≡◌, ◌∙◌, refl, ap}
use mathlib.Core.List.{List}
use Prim.Native.Nat.{ℕ}
use lib.ListN.{get_or}
use Rattle.burst.specs.declared.Loaded.{Loaded}
use Rattle.half_duplex.specs.Core.{settled, stepped}
use Rattle.station_stretches.proofs.Joining.{step-stretch}
use Rattle.station_stretches.proofs.step.Goals as goal

pub step-x-requires : goal.step-x-requires
step-x-requires c =
    record { core_in = c.requires.core_in; line_in = c.requires.line_in }

pub returns : goal.returns
returns c =
    let heard = get_or c.args.heard.now c.args.i 0 in
    λ (chars : List ℕ) (e : c.args.l ≡ settled c.args.c (get_or chars 0 0)).
    step-stretch _ _ _ _ _ _ _ c.step-x.result c.requires.i_in_bounds
    (c.step-x.ensures ∙ ap (λ (l : Loaded). stepped c.args.c l heard) e)
    _ refl _ c.put_word.ensures.value _ c.put_word.ensures.words_after
