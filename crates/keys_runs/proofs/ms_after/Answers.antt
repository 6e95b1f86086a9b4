use mathlib.Core.Path.{refl}
use Rattle.keys_runs.proofs.Rows.{row-quiet, row-later, row_other, row_on}
use Rattle.keys_runs.proofs.ms_after.Goals as goal
use Rattle.keys_runs.proofs.ms_after.Goals.{else-from-to-via-then-from-to+else-x-key, else-from-to-via-else-from-to}

pub returns-then-x-eq0 : goal.returns-then-x-eq0
returns-then-x-eq0 c = row-quiet _ _ _ _ _ c.requires.to_le_last c.if-x-eq0.true

pub returns-then-x-key : goal.returns-then-x-key
returns-then-x-key c =
    row_on _ _ _ _ _ c.requires.to_le_last _ _ refl c.if-x-eq0.false c.back-from.ensures c.if-from-to.true
    c.if-x-key.true

pub returns-else-from-to : goal.returns-else-from-to
returns-else-from-to c =
    elim c.else-from-to.branch [
      | else-from-to-via-then-from-to+else-x-key w ↦
          row_other _ _ _ _ _ c.requires.to_le_last _ _ refl c.if-x-eq0.false c.back-from.ensures w.if-from-to.true
          w.if-x-key.false
      | else-from-to-via-else-from-to w ↦
          row-later _ _ _ _ _ c.requires.to_le_last _ _ refl c.if-x-eq0.false c.back-from.ensures w.if-from-to.false
    ]
