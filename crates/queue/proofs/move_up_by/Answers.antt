use mathlib.Core.Path.{◌∙◌, refl, sym, ap}
use Prim.Native.Nat.{ℕ}
use native.Mathlib.Omega.{arith}
use lib.ListN.{length-set}
use Rattle.queue.specs.Queue.{moved_by}
use Rattle.queue.proofs.Moves.{slid-start, slid-turn, filled-start, filled-end, filling-start, filling-turn}
use Rattle.queue.proofs.move_up_by.Goals as goal
use Rattle.queue.proofs.move_up_by.Goals.{then-n-eq0-via-then-n-eq0, then-n-eq0-via-else-n-eq0+then-chars-eq0}

pub returns-then-n-eq0 : goal.returns-then-n-eq0
unfolding moved_by
returns-then-n-eq0 c =
    elim c.then-n-eq0.branch [
      | then-n-eq0-via-then-n-eq0 w ↦ ap (λ (k : ℕ). moved_by k c.args.chars.now) (sym w.if-n-eq0.true)
      | then-n-eq0-via-else-n-eq0+then-chars-eq0 w ↦ filled-end c.args.n _ _ 0 (filled-start _ _ _ _ (slid-start _ _))
          (omega (arith, w.if-chars-eq0.true))
    ]

pub loop-from-init : goal.loop-from-init
loop-from-init c =
    let n = c.if-n-eq0.false in (slid-start _ _, (omega arith, (omega arith, omega (arith, n))))

pub bounds-chars-from : goal.bounds-chars-from
bounds-chars-from c =
    let v = c.loop-from.invariant in
    let s = v.0.size in
    let t = c.loop-from-test.true in
    omega arith

pub bounds-chars-to : goal.bounds-chars-to
bounds-chars-to c =
    let v = c.loop-from.invariant in
    let s = v.0.size in
    let t = c.loop-from-test.true in
    let e = v.1.0 in
    omega arith

pub loop-from-preserved : goal.loop-from-preserved
loop-from-preserved c =
    let t = c.loop-from-test.true in
    let e = c.loop-from.invariant.1.0 in
    let o = c.loop-from.invariant.1.1.1 in
    (slid-turn _ _ o _ _ _ c.loop-from.invariant.0 (omega arith) e, (omega arith, (omega arith, o)))

pub bounds-chars-last : goal.bounds-chars-last
bounds-chars-last c =
    let e = c.loop-from.invariant.0.size in
    omega arith

pub loop-to-init : goal.loop-to-init
loop-to-init c = filling-start _ _ _ _ _

pub bounds-chars-to-in-loop-to : goal.bounds-chars-to-in-loop-to
bounds-chars-to-in-loop-to c =
    let f = c.loop-to.invariant.size in
    let e = c.loop-from.invariant.0.size in
    omega (arith, c.loop-to-test.true)

pub bounds-chars-to-in-loop-to-2 : goal.bounds-chars-to-in-loop-to-2
bounds-chars-to-in-loop-to-2 c =
    let f = c.loop-to.invariant.size in
    let e = c.loop-from.invariant.0.size in
    let t = c.loop-to-test.true in
    simp length-set (omega arith)

pub loop-to-preserved : goal.loop-to-preserved
loop-to-preserved c =
    filling-turn _ _ _ _ _ _ _ c.loop-to.invariant c.loop-to-test.true

pub shape_of-chars : goal.shape_of-chars
shape_of-chars c = c.loop-to.invariant.size ∙ c.loop-from.invariant.0.size

pub returns : goal.returns
returns c =
    let v = c.loop-from.invariant in
    let h = c.loop-from-test.false in
    let b = v.1.0 in
    let f = c.loop-to.invariant.filled _ refl (omega arith) v.0.end (filled-start _ _ _ _ v.0) in
    filled-end _ _ _ _ f c.loop-to-test.false
