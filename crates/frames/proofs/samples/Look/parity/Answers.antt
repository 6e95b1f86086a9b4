-- `parity` meets its contract.
use mathlib.Core.Path.{◌≡◌, ◌∙◌, refl, sym}
use mathlib.Core.Bool.{Bool, true, false, cond}
use Prim.Native.Nat.{ℕ}
use mir.Val.{bool_byte}
use lib.Dec.{eqb}
use borrow.Author.Tests.{eq-eqb, ne_eqb}
use Rattle.signal.specs.Signal.{parity_of}
use Rattle.frames.specs.Frames.{parity_heard, sampled}
use Rattle.frames.proofs.samples.Look.parity.Goals as goal

byte_of : (b : Bool) → bool_byte b ≡ cond b 1 0
byte_of true = refl
byte_of false = refl

pub returns-then-parity-self : goal.returns-then-parity-self
unfolding sampled
returns-then-parity-self c =
    let x = c.args.self.heard in
    let e = sym c.parity.ensures ∙ c.if-parity-self.true ∙ byte_of (eqb x 1) in
    λ (m : ℕ). simp (ne_eqb _ _ c.args.self.not_quiet, eq-eqb _ (parity_heard x) e)

pub returns-else-parity-self : goal.returns-else-parity-self
unfolding sampled
returns-else-parity-self c =
    let x = c.args.self.heard in
    let d = c.args.self.digits in
    let n : parity_of d ≡ parity_heard x → ⊥ =
    λ e. c.if-parity-self.false (c.parity.ensures ∙ e ∙ sym (byte_of (eqb x 1))) in
    λ (m : ℕ). simp (ne_eqb _ _ c.args.self.not_quiet, ne_eqb (parity_of d) (parity_heard x) n)
