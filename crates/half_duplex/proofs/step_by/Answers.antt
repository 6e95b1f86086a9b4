-- `step_by` meets its contract.
use Rattle.half_duplex.proofs.step_by.Goals as goal

pub level_on-sent-requires : goal.level_on-sent-requires
level_on-sent-requires c = simp c.of-mode.ensures c.requires.line_in

pub read-q-requires : goal.read-q-requires
read-q-requires c = simp c.of-mode.ensures c.requires.core_in.reader-in

pub core_from-requires : goal.core_from-requires
core_from-requires c =
    record {
      line_in = c.requires.line_in;
      reader_value = simp
          (c.read-q.ensures, c.is_inhibited.ensures, c.of-mode.ensures);
    }

pub returns : goal.returns
returns c =
    simp (
      c.core_from.ensures,
      c.read-q.ensures,
      c.is_inhibited.ensures,
      c.level_on-sent.ensures,
      c.of-mode.ensures,
    )
