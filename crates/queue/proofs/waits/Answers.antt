-- `waits` meets its contract.
use Rattle.queue.proofs.Ranges.{in-edt}
use Rattle.queue.proofs.waits.Goals as goal

pub returns-in-Baudot : goal.returns-in-Baudot
returns-in-Baudot c = simp c.in-Baudot.is c.waits_baudot.ensures

pub returns-in-Dtmf : goal.returns-in-Dtmf
returns-in-Dtmf c = simp c.in-Dtmf.is c.waits_dtmf.ensures

pub returns-in-Edt : goal.returns-in-Edt
returns-in-Edt c = simp c.in-Edt.is (in-edt c.args.c.0)
