-- `listen` meets its contract.
use mathlib.Core.Path.{◌≡◌, ◌∙◌, sym, ap}
use mathlib.Core.Bool.{true, ◌&&◌}
use mathlib.Core.List.{List}
use Prim.Native.Nat.{ℕ, ◌+◌, ◌-◌}
use native.Mathlib.Omega.{arith}
use lib.Dec.{eqb}
use lib.ListN.{length}
use lib.Seq.{sets}
use Rattle.lists.specs.Lists.{all_at_most}
use Rattle.lists.proofs.Lists.{and_left, and_right, at-most-drop}
use Rattle.alphabet.specs.declared.Mode.{Mode}
use Rattle.reader.specs.Words.{reader_after, words}
use Rattle.half_duplex.specs.Core.{mode_in}
use Rattle.half_duplex_runs.specs.code.Cores.{silence_for, is_idle}
use Rattle.station_stretches.specs.code.Stretches.{between}
use Rattle.half_duplex_runs.proofs.Laws.{over-quiet}
use Rattle.station_stretches.proofs.Idle.{idles}
use Rattle.station_stretches.proofs.Joining.{between-length, quiet-set, listen-stretch}
use Rattle.station_stretches.proofs.Laws.{at-most-take}
use borrow.Author.Tests.{eqb-true}
use Rattle.station_stretches.proofs.listen.Goals as goal

pub silence_for-silence-requires : goal.silence_for-silence-requires
silence_for-silence-requires c = c.requires.core_in.silence_in

pub returns-then-stays_idle : goal.returns-then-stays_idle
returns-then-stays_idle c =
    let levels : (to : ℕ) → all_at_most c.args.bound (between c.args.i to c.args.heard.now) ≡ true = λ to. let b =
    c.args.bound in at-most-take b (to - c.args.i) _ (at-most-drop b _ c.args.i c.requires.heard_value) in
    let to = c.free_end-to.result in
    let xs = between c.args.i to c.args.heard.now in
    let r = c.args.c.reader in
    let still = is_idle r in
    let none = eqb c.args.bound 0 in
    let e : (still && none) ≡ true = sym c.stays_idle.ensures ∙ c.if-stays_idle.true in
    let zero = eqb-true c.args.bound 0 (and_right still none e) in
    let quiet = sym (ap (λ (m : ℕ). all_at_most m xs) zero) ∙ levels to in
    let l = between-length c.args.heard.now c.args.i to c.free_end-to.ensures.high in
    let q = idles (mode_in c.args.c) r xs (and_left still none e) quiet in
    let z = over-quiet c.args.c.silence xs c.requires.core_in.silence_in quiet in
    let n = ap length q.none in
    λ (chars : List ℕ).
    listen-stretch _ _ chars _ _ _ _ _ c.free_end-to.ensures.low c.free_end-to.ensures.high _
    c.requires.core_in.silence_in c.requires.part_value c.requires.inhibited_value c.free_end-to.ensures.free
    _ (c.silence_for-silence.ensures ∙ sym (ap (silence_for c.args.c.silence) l) ∙ z)
    _ q.after c.listened.ensures _ (quiet-set _ _ _ (omega arith) (omega arith) _ c.fill.ensures) _ (omega arith)
    _ (sym (ap (sets c.args.words.now c.args.n) q.none))

pub hear_all-h-requires : goal.hear_all-h-requires
hear_all-h-requires c =
    let levels : (to : ℕ) → all_at_most c.args.bound (between c.args.i to c.args.heard.now) ≡ true = λ to. let b =
    c.args.bound in at-most-take b (to - c.args.i) _ (at-most-drop b _ c.args.i c.requires.heard_value) in
    let to = c.free_end-to.result in
    let l = between-length c.args.heard.now c.args.i to c.free_end-to.ensures.high in
    record {
      reader_in = rw c.of.ensures c.requires.core_in.reader-in;
      heard_value = levels to;
      bound_bound = c.requires.bound_bound;
      heard_in_bounds = omega arith;
    }

pub silence_over-silence-requires : goal.silence_over-silence-requires
silence_over-silence-requires c =
    let levels : (to : ℕ) → all_at_most c.args.bound (between c.args.i to c.args.heard.now) ≡ true = λ to. let b =
    c.args.bound in at-most-take b (to - c.args.i) _ (at-most-drop b _ c.args.i c.requires.heard_value) in
    record { silence_le_free_ms = c.requires.core_in.silence_in; heard_value = levels c.free_end-to.result }

pub returns : goal.returns
returns c =
    let r = c.args.c.reader in
    let xs = between c.args.i c.free_end-to.result c.args.heard.now in
    let n = c.args.n in
    λ (chars : List ℕ).
    listen-stretch _ _ chars _ _ _ _ _ c.free_end-to.ensures.low c.free_end-to.ensures.high _
    c.requires.core_in.silence_in c.requires.part_value c.requires.inhibited_value c.free_end-to.ensures.free
    _ c.silence_over-silence.ensures _ (c.hear_all-h.ensures.reader_value
    ∙ ap (λ (m : Mode). reader_after m r xs) c.of.ensures)
    c.listened-2.ensures _ (quiet-set _ _ _ (omega arith) (omega arith) _ c.fill.ensures)
    _ (c.hear_all-h.ensures.at_value ∙ ap (λ (m : Mode). n + length (words m r xs)) c.of.ensures)
    _ (c.hear_all-h.ensures.words_after ∙ ap (λ (m : Mode). sets c.args.words.now n (words m r xs)) c.of.ensures)
