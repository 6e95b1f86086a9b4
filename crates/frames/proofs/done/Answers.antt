-- `done` meets its contract, by what the sample does.
use mathlib.Core.Path.{◌≡◌, ◌∙◌, refl, sym, ap, subst}
use Prim.Native.Nat.{ℕ, ◌-◌, ◌<◌}
use native.Mathlib.Omega.{arith}
use Rattle.frames.specs.declared.samples.Effect.{Effect}
use Rattle.frames.specs.declared.Found.TheVariants.{Nothing}
use Rattle.frames.specs.declared.FrameRead.{FrameRead}
use Rattle.frames.specs.Frames.{gives}
use Rattle.frames.specs.code.Samples.{done_by}
use Rattle.frames.proofs.Range.{place-on}
use Rattle.frames.proofs.done.Goals as goal

-- an effect that is known
known : (e o : Effect) (m digits : ℕ) (r : FrameRead) → e ≡ o → r ≡ done_by o m digits → r ≡ done_by e m digits
known e o m digits r p q = q ∙ ap (λ (x : Effect). done_by x m digits) (sym p)

pub overflow_cast-digits : goal.overflow_cast-digits
overflow_cast-digits c =
    let few = subst (λ (e : Effect). (done_by e (c.args.f.place - 1) c.args.f.digits).frame.digits < 128)
    c.in-On.is c.requires.digits_bound in
    omega arith

pub returns-in-On : goal.returns-in-On
returns-in-On c =
    let d = c.in-On.digits in
    known _ _ (c.args.f.place - 1) c.args.f.digits _ c.in-On.is
    (c.nothing.ensures
    ∙ ap (λ (p : ℕ). gives (record { place = p; digits = d }) Nothing)
    (place-on c.args.f.place c.requires.in_frame.at_least))

pub returns-in-Hunts : goal.returns-in-Hunts
returns-in-Hunts c = known _ _ _ _ _ c.in-Hunts.is c.nothing-in-Hunts.ensures

pub returns-in-Breaks : goal.returns-in-Breaks
returns-in-Breaks c = known _ _ _ _ _ c.in-Breaks.is c.fault.ensures

pub returns-in-Ends : goal.returns-in-Ends
returns-in-Ends c = known _ _ _ _ _ c.in-Ends.is refl
