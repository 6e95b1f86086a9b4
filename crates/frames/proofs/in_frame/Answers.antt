-- `in_frame` meets its contract: a sample falls on a ms if the next one from there on does.
use mathlib.Core.Path.{◌≡◌, ◌∙◌, sym, ap, subst}
use Prim.Native.Nat.{ℕ, ◌-◌, ◌<◌}
use native.Mathlib.Omega.{arith}
use lib.ListN.{length}
use Rattle.frames.specs.declared.FrameRead.{FrameRead}
use Rattle.frames.specs.Samples.{samples_of, sample_at}
use Rattle.frames.specs.Frames.{sampled}
use Rattle.frames.specs.code.Samples.{sample_ms, done_by}
use Rattle.frames.proofs.Sampling.{number-few, not_on}
use Rattle.frames.proofs.Range.{place-255, digits-128, in_frame-step, in-frame-none, number_in, digits-few}
use Rattle.frames.proofs.in_frame.Goals as goal

pub sample_ms-requires : goal.sample_ms-requires
sample_ms-requires c =
    let p = place-255 c.args.mode _ c.requires.frame_of in
    let n = number-few c.args.mode (c.args.f.place - 1) in
    omega arith

pub overflow_add-f : goal.overflow_add-f
overflow_add-f c =
    let p = place-255 c.args.mode _ c.requires.frame_of in
    omega arith

pub returns-else-sample_ms-m : goal.returns-else-sample_ms-m
returns-else-sample_ms-m c =
    let ms_is : c.sample_ms.result ≡ sample_ms c.args.mode c.number_at-j.result = c.sample_ms.ensures in
    c.nothing.ensures
    ∙ sym
    (in-frame-none _ _ _ c.requires.le_place
    (not_on c.args.mode (c.args.f.place - 1)
    (λ e. c.if-sample_ms-m.false (ms_is ∙ ap (sample_ms c.args.mode) c.number_at-j.ensures ∙ e))))

pub effect_of-requires : goal.effect_of-requires
effect_of-requires c =
    let p = c.requires.frame_of.place_in in
    let l = c.requires.le_place in
    record {
      j_in_bounds = subst (λ (n : ℕ). n < length (samples_of c.args.mode)) (sym c.number_at-j.ensures)
          (number_in c.args.mode (c.args.f.place - 1) (omega arith) (omega arith));
      digits_bound = digits-128 _ _ c.requires.frame_of;
    }

pub done-requires : goal.done-requires
done-requires c =
    let done-as : sampled (sample_at (samples_of c.args.mode) (c.args.f.place - 1)) (c.args.f.place - 1) c.args.f.digits
    c.args.heard ≡ done_by c.effect_of.result (c.args.f.place - 1) c.args.f.digits = let ms_is : c.sample_ms.result
    ≡ sample_ms c.args.mode c.number_at-j.result = c.sample_ms.ensures in let m = c.args.f.place - 1 in
    let e = sym c.if-sample_ms-m.true ∙ ms_is in ap (λ (n : ℕ). sampled (sample_at (samples_of c.args.mode) n) m
    c.args.f.digits c.args.heard) e ∙ c.effect_of.ensures m in
    let l = c.requires.le_place in
    record {
      in_frame = record { at_least = omega arith; below = place-255 _ _ c.requires.frame_of };
      digits_bound = subst (λ (r : FrameRead). r.frame.digits < 128) (done-as)
          (digits-few _ _ c.args.heard c.requires.frame_of l);
    }

pub returns-then-sample_ms-m : goal.returns-then-sample_ms-m
returns-then-sample_ms-m c =
    let done-as : sampled (sample_at (samples_of c.args.mode) (c.args.f.place - 1)) (c.args.f.place - 1) c.args.f.digits
    c.args.heard ≡ done_by c.effect_of.result (c.args.f.place - 1) c.args.f.digits = let ms_is : c.sample_ms.result
    ≡ sample_ms c.args.mode c.number_at-j.result = c.sample_ms.ensures in let m = c.args.f.place - 1 in
    let e = sym c.if-sample_ms-m.true ∙ ms_is in ap (λ (n : ℕ). sampled (sample_at (samples_of c.args.mode) n) m
    c.args.f.digits c.args.heard) e ∙ c.effect_of.ensures m in
    c.done.ensures ∙ sym (in_frame-step _ _ _ c.requires.le_place ∙ done-as)
