-- `codes_in` meets its contract.
use mathlib.Core.Path.{refl}
use Rattle.preview.proofs.codes_in.Goals as goal

pub codes-requires : goal.codes-requires
codes-requires c =
    record {
      a_value = refl;
      text_value = c.requires.text_value;
      sender_in = c.requires.sender_in;
      text_bound = rw c.in-Baudot45.is at c.requires.text_bound;
    }

pub codes-requires-in-Baudot50 : goal.codes-requires-in-Baudot50
codes-requires-in-Baudot50 c =
    record {
      a_value = refl;
      text_value = c.requires.text_value;
      sender_in = c.requires.sender_in;
      text_bound = rw c.in-Baudot50.is at c.requires.text_bound;
    }

pub codes-requires-in-Dtmf : goal.codes-requires-in-Dtmf
codes-requires-in-Dtmf c =
    record {
      a_value = refl;
      text_value = c.requires.text_value;
      sender_in = c.requires.sender_in;
      text_bound = rw c.in-Dtmf.is at c.requires.text_bound;
    }

pub codes-requires-in-Edt : goal.codes-requires-in-Edt
codes-requires-in-Edt c =
    record {
      a_value = refl;
      text_value = c.requires.text_value;
      sender_in = c.requires.sender_in;
      text_bound = rw c.in-Edt.is at c.requires.text_bound;
    }

pub returns-in-Baudot45 : goal.returns-in-Baudot45
returns-in-Baudot45 c = simp c.in-Baudot45.is c.codes.ensures

pub returns-in-Baudot50 : goal.returns-in-Baudot50
returns-in-Baudot50 c = simp c.in-Baudot50.is c.codes-in-Baudot50.ensures

pub returns-in-Dtmf : goal.returns-in-Dtmf
returns-in-Dtmf c = simp c.in-Dtmf.is c.codes-in-Dtmf.ensures

pub returns-in-Edt : goal.returns-in-Edt
returns-in-Edt c = simp c.in-Edt.is c.codes-in-Edt.ensures
