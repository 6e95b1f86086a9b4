use mathlib.Core.Path.{◌∙◌, sym, ap, subst}
use native.Mathlib.Omega.{arith}
use lib.ListN.{get_or}
use Rattle.lists.proofs.Lists.{at-most-at, at-most-more}
use Rattle.reader.specs.declared.Reader.{Reader}
use Rattle.reader.specs.declared.Reading.{Reading}
use Rattle.reader.specs.Reader.{hear}
use Rattle.reader.specs.code.Bounds.{ReaderIn}
use Rattle.reader.proofs.Range.{hear-in}
use Rattle.reader_runs.proofs.Fold.{left-skip, left-hear, left-reader, left-place, left-slice}
use Rattle.reader_runs.proofs.hear_all.Goals as goal

pub invariant_of-levels : goal.invariant_of-levels
invariant_of-levels c =
    record {
      ranged = at-most-more c.args.bound 16 _ c.requires.bound_bound c.requires.heard_value;
      same = c.are_alike.ensures;
    }

pub returns-then-s-heard : goal.returns-then-s-heard
returns-then-s-heard c =
    let l = left-skip _ _ _ _ _ _ _ _ _ _ c.loop-levels.invariant c.skip-s.result c.skip-s.ensures in
    let e = c.if-s-heard.true in
    record {
      reader_value = left-reader _ _ _ _ _ _ _ _ _ _ l (omega arith);
      at_value = left-place _ _ _ _ _ _ _ _ _ _ l (omega arith);
      words_after = left-slice _ _ _ _ _ _ _ _ _ _ l (omega arith);
    }

pub loop-levels-preserved : goal.loop-levels-preserved
loop-levels-preserved c =
    let l = left-skip _ _ _ _ _ _ _ _ _ _ c.loop-levels.invariant c.skip-s.result c.skip-s.ensures in
    let w = c.skip-s.ensures.high in
    let x = at-most-at 16 _ (at-most-more c.args.bound 16 _ c.requires.bound_bound c.requires.heard_value)
    c.skip-s.result.to (omega (arith, c.if-s-heard.false)) in
    let e = c.hear-q.ensures
    ∙ ap (λ (r : Reader). hear c.args.mode r (get_or c.args.heard.now c.skip-s.result.to 0)) c.anew.ensures in
    let j = subst (λ (p : Reading). ReaderIn c.args.mode p.reader) (sym e) (hear-in c.args.mode _ _ x l.ranged) in
    left-hear _ _ _ _ _ _ _ _ _ _ l (omega (arith, c.if-s-heard.false)) c.hear-q.result e j _
    c.put_word-n.ensures.value _ c.put_word-n.ensures.words_after
