-- `read` meets its contract: each refusal, and success.
use mathlib.Core.Path.{◌≡◌, ◌∙◌, sym}
use native.Mathlib.Omega.{arith}
use borrow.Author.Tests.{leb-true, leb-false}
use Rattle.baudot_reading.proofs.Answers.{read-refused, no-shift, no-codes, no-text-room, read-yes, read-accepted}
use Rattle.baudot_reading.proofs.read.Goals as goal

pub returns-then-shift-eq0 : goal.returns-then-shift-eq0
returns-then-shift-eq0 c =
    let n = no-shift c.args.codes.now c.args.shift c.args.text.now c.then-shift-eq0.either in
    let r = read-refused _ _ _ 1 n (λ (e : 1 ≡ 0). omega arith) in
    record { value = r.result; text_after = r.slice }

pub returns-then-not-all_at_most : goal.returns-then-not-all_at_most
returns-then-not-all_at_most c =
    let t = sym c.all_at_most.ensures ∙ c.if-not-all_at_most.true in
    let n = no-codes _ _ c.args.text.now c.if-shift-eq0.false c.if-shift-gt2.false t in
    let r = read-refused c.args.codes.now _ _ 10 n (λ (e : 10 ≡ 0). omega arith) in
    record { value = r.result; text_after = r.slice }

pub returns-then-not-fits : goal.returns-then-not-fits
returns-then-not-fits c =
    let t = sym c.all_at_most.ensures ∙ c.if-not-all_at_most.false in
    let l = leb-false _ _ (sym (c.fits.ensures c.args.shift) ∙ c.if-not-fits.true) in
    let n = no-text-room _ _ _ c.if-shift-eq0.false c.if-shift-gt2.false t l in
    let r = read-refused _ _ _ 9 n (λ (e : 9 ≡ 0). omega arith) in
    record { value = r.result; text_after = r.slice }

pub returns : goal.returns
returns c =
    let t = sym c.all_at_most.ensures ∙ c.if-not-all_at_most.false in
    let h = leb-true _ _ (sym (c.fits.ensures c.args.shift) ∙ c.if-not-fits.false) in
    let y = read-yes _ _ _ c.if-shift-eq0.false c.if-shift-gt2.false t h in
    let r = read-accepted _ _ _ y h _ _ c.put_codes.ensures.value c.put_codes.ensures.text_after in
    record { value = r.result; text_after = r.slice }
