-- `is_code` meets its contract, by the alphabet.
use Rattle.burst.specs.Range.{is_code_of}
use Rattle.burst.proofs.is_code.Goals as goal

pub returns-in-Baudot : goal.returns-in-Baudot
unfolding is_code_of
returns-in-Baudot c = simp c.in-Baudot.is

pub returns-in-Dtmf : goal.returns-in-Dtmf
unfolding is_code_of
returns-in-Dtmf c = simp (c.in-Dtmf.is, c.is_code.ensures)

pub returns-in-Edt : goal.returns-in-Edt
unfolding is_code_of
returns-in-Edt c = simp c.in-Edt.is
