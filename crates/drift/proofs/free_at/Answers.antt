use lib.ListN.{length}
use native.Mathlib.Omega.{arith}
use mathlib.Core.Path.{◌≡◌, ◌∙◌, sym, ap}
use mathlib.Core.Bool.{Bool}
use Prim.Native.Nat.{ℕ, ◌+◌}
use Rattle.half_duplex.specs.Core.{silence_after}
use Rattle.drift.proofs.Freeing.{from, first, found-end, found, turn}
use Rattle.drift.proofs.free_at.Goals as goal

pub loop-i-init : goal.loop-i-init
loop-i-init c = first _ _ _

pub returns-then-s-ge-FREE : goal.returns-then-s-ge-FREE
returns-then-s-ge-FREE c =
    sym (found c.loop-i.s c.args.deaf c.args.heard.now c.loop-i.i c.loop-i-test.true c.if-s-ge-FREE.true)
    ∙ c.loop-i.invariant

pub loop-i-preserved : goal.loop-i-preserved
loop-i-preserved c =
    let i = c.loop-i.i in
    let s = c.silence_after-s.ensures ∙ ap (λ (b : Bool). silence_after b c.loop-i.s) c.is_silent.ensures in
    ap (λ (k : ℕ). from k c.args.deaf c.args.heard.now (i + 1)) s
    ∙ turn c.loop-i.s c.args.deaf c.args.heard.now i c.loop-i-test.true c.if-s-ge-FREE.false
    ∙ c.loop-i.invariant

pub returns : goal.returns
returns c =
    let z : length c.args.heard.now ≡ c.loop-i.i = omega arith in
    z ∙ sym (found-end c.loop-i.s c.args.deaf c.args.heard.now c.loop-i.i (omega arith)) ∙ c.loop-i.invariant
