-- `found_outcome` meets its contract: nothing, a fault, a code.
use Rattle.reader.proofs.Outcomes.{found-code}
use Rattle.reader.proofs.found_outcome.Goals as goal

pub reads-r-requires : goal.reads-r-requires
reads-r-requires c =
    found-code c.args.mode _ _ _ c.requires
    c.in-Code.is c.alphabet.ensures

pub returns-in-Nothing : goal.returns-in-Nothing
returns-in-Nothing c = simp c.in-Nothing.is

pub returns-in-Fault : goal.returns-in-Fault
returns-in-Fault c = simp c.in-Fault.is

pub returns-in-Code : goal.returns-in-Code
returns-in-Code c =
    simp (
      c.from.ensures,
      c.shift_by.ensures,
      c.reads-r.ensures,
      c.alphabet.ensures,
      c.in-Code.is,
    )
