-- `wait` meets its contract.
use mathlib.Core.List.{List}
use Prim.Native.Nat.{ℕ, ◌+◌, ◌-◌, ◌≤◌, ◌<◌}
use native.Mathlib.Omega.{arith}
use Rattle.station_stretches.proofs.Joining.{quiet-set, wait-stretch}
use Rattle.station_stretches.proofs.wait.Goals as goal

pub free_end-free-requires : goal.free_end-free-requires
free_end-free-requires c =
    record {
      silence_value = c.requires.silence_value;
      silence_bound = c.requires.core_in.silence_in;
      i_lt_len = c.requires.i_in_bounds;
    }

pub up_to-to-requires : goal.up_to-to-requires
up_to-to-requires c = let h = c.free_end-free.ensures.low in omega arith

pub overflow_sub-to : goal.overflow_sub-to
overflow_sub-to c = omega arith

pub deaf_for-requires : goal.deaf_for-requires
deaf_for-requires c =
    let further : c.args.i < c.up_to-to.result = c.up_to-to.ensures.on c.requires.le_inhibited
    c.free_end-free.ensures.low in
    let on = further in
    record { le_n = omega arith; n_le_inhibited = omega arith; silence_le_free_ms = c.requires.core_in.silence_in }

pub returns : goal.returns
returns c =
    let further : c.args.i < c.up_to-to.result = c.up_to-to.ensures.on c.requires.le_inhibited
    c.free_end-free.ensures.low in
    let k = c.args.c in
    let on = further in
    let g : 1 ≤ k.waiting → k.silence + (c.up_to-to.result - c.args.i) ≤ 300 =
    λ (o : 1 ≤ k.waiting). let h = c.free_end-free.ensures.free o in omega arith in
    λ (chars words : List ℕ).
    wait-stretch _ _ chars _ words _ _ _ on (omega arith) _ c.requires.core_in.silence_in c.requires.part_value
    c.up_to-to.ensures.few g
    c.deaf_for.ensures _ (quiet-set _ _ _ c.up_to-to.ensures.low (omega arith) _ c.fill.ensures)
