-- `key_count` meets its contract, by the prefix.
use mathlib.Core.Path.{sym}
use borrow.Author.Rules.{rules}
use borrow.Author.Tests.{lt-ltb, le-ltb, ne_eqb}
use Rattle.signal.proofs.Lengths.{key-count}
use Rattle.signal.proofs.key_count.Goals as goal

pub returns-then-prefix-eq0 : goal.returns-then-prefix-eq0
returns-then-prefix-eq0 c =
    simp c.if-prefix-eq0.true at (sym (key-count c.args.code.0 (search rules)))

pub returns-then-prefix-lt3 : goal.returns-then-prefix-lt3
returns-then-prefix-lt3 c =
    let k = sym (key-count c.args.code.0 (search rules)) in
    simp (ne_eqb _ _ c.if-prefix-eq0.false, lt-ltb _ _ c.if-prefix-lt3.true) at k

pub returns-then-prefix-lt7 : goal.returns-then-prefix-lt7
returns-then-prefix-lt7 c =
    let k = sym (key-count c.args.code.0 (search rules)) in
    simp (ne_eqb _ _ c.if-prefix-eq0.false, le-ltb _ _ c.if-prefix-lt3.false, lt-ltb _ _ c.if-prefix-lt7.true) at k

pub returns-then-prefix-lt15 : goal.returns-then-prefix-lt15
returns-then-prefix-lt15 c =
    let k = sym (key-count c.args.code.0 (search rules)) in
    let l = le-ltb _ _ c.if-prefix-lt7.false in
    simp (ne_eqb _ _ c.if-prefix-eq0.false, le-ltb _ _ c.if-prefix-lt3.false, l, lt-ltb _ _ c.if-prefix-lt15.true) at k

pub returns : goal.returns
returns c =
    let k = sym (key-count c.args.code.0 (search rules)) in
    let l = le-ltb _ _ c.if-prefix-lt7.false in
    simp (ne_eqb _ _ c.if-prefix-eq0.false, le-ltb _ _ c.if-prefix-lt3.false, l, le-ltb _ _ c.if-prefix-lt15.false) at k
