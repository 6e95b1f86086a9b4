-- `send` meets its contract: each refusal, and success.
use mathlib.Core.Path.{◌≡◌, ◌∙◌, sym}
use native.Mathlib.Omega.{arith}
use borrow.Author.Tests.{leb-true, leb-false}
use Rattle.baudot_sending.proofs.Answers.{refused, no_sender, no-chars, no_room, yes, opening-length, accepted}
use Rattle.baudot_sending.proofs.OpeningRule.{all-length}
use Rattle.std.proofs.lemmas.Result.{err_from_is_err_and}
use Rattle.baudot_sending.proofs.send.Goals as goal

pub returns-then-not-in_range : goal.returns-then-not-in_range
returns-then-not-in_range c =
    let n = no_sender c.args.text.now _ _ c.args.codes.now (sym c.in_range.ensures ∙ c.if-not-in_range.true) in
    let r = refused _ c.args.sender.shift c.args.sender.count _ 1 n (λ (e : 1 ≡ 0). omega arith) in
    record { value = r.result; codes_after = r.slice }

pub returns-in_err-checked : goal.returns-in_err-checked
returns-in_err-checked c =
    let p = err_from_is_err_and c.from_residual.result c.from_residual.ensures.1 in
    let e = c.in_err-checked.ensures in
    let a = sym c.in_range.ensures ∙ c.if-not-in_range.false in
    let n = no-chars _ c.args.sender.shift c.args.sender.count c.args.codes.now a e.1 in
    let r = refused _ c.args.sender.shift c.args.sender.count _ 3 n (λ (e : 3 ≡ 0). omega arith) in
    rw (p.1, p.2, e.0) (record { value = r.result; codes_after = r.slice })

pub returns-then-not-fits : goal.returns-then-not-fits
returns-then-not-fits c =
    let a = sym c.in_range.ensures ∙ c.if-not-in_range.false in
    let chars = rw c.in_ok-checked.ensures at c.in_ok-checked.checked.chars in
    let o = rw c.in_ok-checked.ensures at c.open_text.ensures in
    let l = leb-false _ _ (sym c.if-not-fits.ensures) in
    let z = opening-length c.args.text.now c.args.sender.shift c.args.sender.count c.args.codes.now _ _ o in
    let n = no_room
    c.args.text.now c.args.sender.shift c.args.sender.count c.args.codes.now a chars (omega (arith, l, z)) in
    let r = refused _ c.args.sender.shift c.args.sender.count _ 9 n (λ (e : 9 ≡ 0). omega arith) in
    record { value = r.result; codes_after = r.slice }

pub put_opened-requires-clause-text_in_bounds : goal.put_opened-requires-clause-text_in_bounds
put_opened-requires-clause-text_in_bounds c =
    let o = c.open_text.result in
    let l = leb-true _ _ (sym c.if-not-fits.ensures) in
    omega (arith, l, all-length o.rest.bytes.now o.start c.open_text.ensures.at_in)

pub returns : goal.returns
returns c =
    let a = sym c.in_range.ensures ∙ c.if-not-in_range.false in
    let chars = rw c.in_ok-checked.ensures at c.in_ok-checked.checked.chars in
    let o = rw c.in_ok-checked.ensures at c.open_text.ensures in
    let l = leb-true _ _ (sym c.if-not-fits.ensures) in
    let z = opening-length c.args.text.now c.args.sender.shift c.args.sender.count c.args.codes.now _ _ o in
    let y = yes c.args.text.now c.args.sender.shift c.args.sender.count c.args.codes.now a chars
    (omega (arith, l, z)) in
    let r = accepted _ _ _ _ _ _ o y (omega (arith, l, z)) _ _ c.put_opened.ensures.value
    c.put_opened.ensures.codes_after in
    record { value = r.result; codes_after = r.slice }
