-- `burst_ms` meets its contract.
use mathlib.Core.Path.{◌∙◌, sym, ap}
use mathlib.Core.List.{List, append-nil}
use Prim.Native.Nat.{ℕ}
use native.Mathlib.Omega.{arith}
use lib.Seq.{length-take-le}
use Rattle.burst.specs.Rules.{free_ms}
use Rattle.half_duplex.specs.Core.{mode_in}
use Rattle.station.specs.declared.Station.{Station}
use Rattle.station.specs.Station.{station}
use Rattle.station.proofs.Range.{core-in}
use Rattle.preview.specs.code.Count.{busy_ms}
use Rattle.drift.proofs.Counting.{free_in, own-chars, own-few}
use Rattle.drift.proofs.burst_ms.Goals as goal

pub slice_bounds-busy_ms-end : goal.slice_bounds-busy_ms-end
slice_bounds-busy_ms-end c =
    let s : Station = station c.args.c c.args.chars.now in
    let w = (core-in s c.requires.chars_value).waiting-in in
    sym (length-take-le _ _ (omega arith))

pub busy_ms-requires : goal.busy_ms-requires
busy_ms-requires c =
    let s : Station = station c.args.c c.args.chars.now in
    record {
      core_in = free_in s c.requires.chars_value;
      text_value =
          own-chars s c.requires.chars_value c.requires.chars_len;
      text_bound = own-few s c.requires.chars_value c.requires.chars_len;
    }

pub returns : goal.returns
returns c =
    let k = c.args.c in
    c.busy_ms.ensures
    ∙ ap (λ (cs : List ℕ). busy_ms (mode_in k) k.line k.sender free_ms cs) (append-nil _)
