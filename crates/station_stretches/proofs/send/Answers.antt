-- `send` meets its contract.
use mathlib.Core.Path.{◌∙◌, ap}
use mathlib.Core.Bool.{not, ◌&&◌}
use mathlib.Core.List.{List}
use Prim.Native.Nat.{ℕ, ◌-◌, ◌<◌}
use native.Mathlib.Omega.{arith}
use lib.ListN.{length}
use Rattle.std.proofs.lemmas.List.Edits.{length-between}
use lib.Seq.{sets}
use Rattle.lists.specs.Tables.{tabulate}
use Rattle.alphabet.specs.declared.Mode.{Mode}
use Rattle.alphabet.specs.Modes.{alphabet_of}
use Rattle.burst.specs.Line.{part_ms, is_opening}
use Rattle.half_duplex.specs.Core.{mode_in}
use Rattle.signal_runs.specs.code.Levels.{part_level}
use Rattle.signal_runs.proofs.Parts.{part-most}
use Rattle.station_stretches.proofs.Laws.{left-burst, left_over, gone-over}
use Rattle.station_stretches.proofs.Joining.{levels-set, send-stretch}
use Rattle.station_stretches.proofs.send.Goals as goal

pub up_to-to-requires : goal.up_to-to-requires
up_to-to-requires c = omega arith

pub put-requires : goal.put-requires
put-requires c =
    let further : c.args.i < c.up_to-to.result = c.up_to-to.ensures.on c.requires.le_left c.requires.i_in_bounds in
    let l = c.args.c.line in
    let m = ap (λ (d : Mode). length (part_ms d l)) c.requires.mode_value in
    let on = further in
    let b = left-burst (mode_in c.args.c) l (omega arith) in
    let n = length-between c.args.sent.now c.args.i c.up_to-to.result (omega arith) in
    record {
      line_in = rw c.requires.mode_value c.requires.core_in.line-in;
      l_value = b;
      le_sent = omega arith;
      sent_in_bounds = omega arith;
    }

pub sent_for-requires : goal.sent_for-requires
sent_for-requires c =
    let further : c.args.i < c.up_to-to.result = c.up_to-to.ensures.on c.requires.le_left c.requires.i_in_bounds in
    let l = c.args.c.line in
    let on = further in
    let k = part-most (mode_in c.args.c) l c.requires.core_in.line-in in
    let mode = mode_in c.args.c in
    let gone = c.up_to-to.result - c.args.i in
    let over = gone-over mode l (omega arith) gone c.args.left c.requires.left_value (omega arith) in
    let a = c.alphabet.ensures ∙ ap alphabet_of c.requires.mode_value in
    let next = c.front_is_next-next.ensures ∙ (λ j. over j && not (is_opening (a j) l)) in
    record {
      le_n = omega arith;
      next_value = next;
      silence_le_free_ms = c.requires.core_in.silence_in;
      n_bound = omega arith;
    }

pub returns : goal.returns
returns c =
    let further : c.args.i < c.up_to-to.result = c.up_to-to.ensures.on c.requires.le_left c.requires.i_in_bounds in
    let mode = mode_in c.args.c in
    let l = c.args.c.line in
    let on = further in
    let n = c.up_to-to.result - c.args.i in
    let w = levels-set _ _ _ (omega arith) (omega arith) (part_level c.args.mode l) _ c.put.ensures
    ∙ ap (λ (d : Mode). sets c.args.sent.now c.args.i (tabulate (part_level d l) n 0)) c.requires.mode_value in
    λ (chars words : List ℕ).
    send-stretch _ _ chars _ words _ _ _ on c.up_to-to.ensures.high _ c.requires.core_in.silence_in
    (left-burst mode l (omega arith)) (left_over mode l (omega arith)) (omega arith) c.sent_for.ensures _ w
