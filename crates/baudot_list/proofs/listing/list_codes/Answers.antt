-- `listing::list_codes` meets its contract: a text that is refused, and one that is taken.
use Rattle.std.proofs.Common.{◌∙◌, refl, sym, ap, length, take, arith}
use Rattle.baudot.specs.Sending.{fresh, codes_of}
use Rattle.baudot_list.proofs.ListingRule.{listed-none, listed-all, printed-none, printed-all, refusal-some}
use Rattle.baudot_list.proofs.listing.list_codes.Goals as goal

pub returns-in_default : goal.returns-in_default
returns-in_default c =
    let e =
    listed-none c.args.text.now c.args.codes.now c.requires.text_in_bounds _ c.in_default.ensures.value
    (refusal-some c.in_default.field-0) in
    let q = printed-none c.args.text.now c.args.lines.now e in
    record { value = q.length_is; lines_after = q.lines_are }

pub slice_bounds-put_lines-end : goal.slice_bounds-put_lines-end
slice_bounds-put_lines-end c =
    let t =
    listed-all c.args.text.now c.args.codes.now c.requires.text_in_bounds _ c.in-Ok.ensures.value refl in
    omega (arith, t.within, c.send.auto.codes)

pub slice_bounds-put_lines-end-2 : goal.slice_bounds-put_lines-end-2
slice_bounds-put_lines-end-2 c =
    let t =
    listed-all c.args.text.now c.args.codes.now c.requires.text_in_bounds _ c.in-Ok.ensures.value refl in
    t.count ∙ sym (ap length (ap (take c.in-Ok.sent.at) c.in-Ok.ensures.codes_after ∙ t.front))

pub overflow_mul-result : goal.overflow_mul-result
overflow_mul-result c =
    let t =
    listed-all c.args.text.now c.args.codes.now c.requires.text_in_bounds _ c.in-Ok.ensures.value refl in
    omega (arith, t.within, c.requires.codes_in_bounds, c.well_formed)

pub returns : goal.returns
returns c =
    let t =
    listed-all c.args.text.now c.args.codes.now c.requires.text_in_bounds _ c.in-Ok.ensures.value refl in
    let part = ap (take c.in-Ok.sent.at) c.in-Ok.ensures.codes_after ∙ t.front in
    let q =
    printed-all c.args.text.now c.args.lines.now (codes_of fresh c.args.text.now) _ _ _
    t.lists t.count part
    (omega (arith, t.count, t.within, c.requires.codes_in_bounds)) c.put_lines.ensures in
    record { value = q.length_is; lines_after = q.lines_are }
