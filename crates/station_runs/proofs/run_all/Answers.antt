use mathlib.Core.Path.{◌≡◌, ◌∙◌, sym, ap, subst}
use Prim.Native.Nat.{ℕ, ◌≤◌}
use mathlib.Core.Bool.{true}
use native.Mathlib.Omega.{arith}
use Rattle.lists.proofs.Lists.{at-most-more}
use Rattle.half_duplex.specs.Core.{mode_in}
use Rattle.queue.specs.Queue.{moved_by}
use Rattle.station.specs.declared.Station.{Station}
use Rattle.station.specs.Station.{station}
use Rattle.station.specs.Range.{in_range}
use Rattle.alphabet.specs.Modes.{highest_level}
use Rattle.station.proofs.Range.{highest-16, station-in}
use Rattle.station_runs.proofs.Fold.{left-start, left-turn, left-station, left-sent, left-place, left-words}
use Rattle.station_runs.proofs.run_all.Goals as goal

pub loop-i-init : goal.loop-i-init
loop-i-init c =
    left-start _ _ _ _ _ c.requires.chars_value c.requires.chars_len

pub taken_since-taken-requires : goal.taken_since-taken-requires
taken_since-taken-requires c = c.loop-i.invariant.fewer

pub stretch-x-requires : goal.stretch-x-requires
stretch-x-requires c =
    let l = c.loop-i.invariant in
    let ss = l.sent_size in
    let ws = l.words_size in
    let r = l.room in
    let f = l.fewer in
    let h = highest-16 (mode_in c.args.c) in
    let now = station c.args.c c.args.chars.now in
    let w : c.args.c.waiting ≤ 256 = (station-in now c.requires.chars_value).core-in.waiting-in in
    let core = c.loop-i.core in
    let e = subst (λ (m : ℕ). in_range (station core (moved_by m c.args.chars.now)) ≡ true)
    (sym c.taken_since-taken.ensures) l.ranged in
    let i = c.loop-i-test.true in
    record {
      chars_value = e;
      chars_len = c.requires.chars_len;
      waiting_bound = omega arith;
      heard_value = c.requires.heard_value;
      bound_bound = omega arith;
      i_in_bounds = i;
      heard_in_bounds = omega arith;
      heard_in_bounds_2 = omega arith;
    }

pub loop-i-smaller : goal.loop-i-smaller
loop-i-smaller c =
    let t = c.stretch-x.ensures.low in
    let h = c.loop-i-test.true in
    omega arith

pub loop-i-preserved : goal.loop-i-preserved
loop-i-preserved c =
    let h = at-most-more c.args.bound (highest_level (mode_in c.args.c)) c.args.heard.now c.requires.bound_bound
    c.requires.heard_value in
    left-turn _ _ _ _ _ _ _ _ _ _ c.loop-i.invariant h _ _ _ _ c.taken_since-taken.ensures c.stretch-x.ensures

pub taken_since-requires : goal.taken_since-requires
taken_since-requires c = let f = c.loop-i.invariant.fewer in omega arith

pub returns : goal.returns
returns c =
    let l = c.loop-i.invariant in
    let h = c.loop-i-test.false in
    let s = left-station _ _ _ _ _ _ _ _ _ _ l h in
    let place = left-place _ _ _ _ _ _ _ _ _ _ l h in
    let sent = left-sent _ _ _ _ _ _ _ _ _ _ l h in
    let words = left-words _ _ _ _ _ _ _ _ _ _ l h in
    let moved = ap (λ (k : ℕ). moved_by k c.args.chars.now) c.taken_since.ensures in
    let chars = c.move_up_by.ensures ∙ moved ∙ ap (λ (x : Station). x.chars) s in
    record {
      core_value = ap (λ (x : Station). x.core) s;
      words_value = place;
      chars_after = chars;
      sent_after = sent;
      words_after = words;
    }
