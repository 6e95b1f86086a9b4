-- `put_whole` meets its contract.
use Rattle.signal.specs.Signal.{signal}
use Rattle.signal_codes.proofs.WholeCodes.{front-length, front-written}
use Rattle.signal_codes.proofs.put_whole.Goals as goal

pub put_baudot-requires : goal.put_baudot-requires
unfolding signal
put_baudot-requires c =
    front-length c.args.sent.now _ _ c.args.code.0 _ c.in-Baudot45.is c.duration.ensures c.requires.code_in_bounds

pub returns-in-Baudot45 : goal.returns-in-Baudot45
unfolding signal
returns-in-Baudot45 c =
    front-written c.args.sent.now _ _ c.args.code.0 _ c.in-Baudot45.is c.duration.ensures c.requires.code_in_bounds _
    c.put_baudot.ensures

pub put_baudot-requires-in-Baudot50 : goal.put_baudot-requires-in-Baudot50
unfolding signal
put_baudot-requires-in-Baudot50 c =
    front-length c.args.sent.now _ _ c.args.code.0 _ c.in-Baudot50.is c.duration.ensures c.requires.code_in_bounds

pub returns-in-Baudot50 : goal.returns-in-Baudot50
unfolding signal
returns-in-Baudot50 c =
    front-written c.args.sent.now _ _ c.args.code.0 _ c.in-Baudot50.is c.duration.ensures c.requires.code_in_bounds _
    c.put_baudot-in-Baudot50.ensures

pub put_dtmf-requires : goal.put_dtmf-requires
put_dtmf-requires c =
    front-length c.args.sent.now _ _ c.args.code.0 _ c.in-Dtmf.is c.duration.ensures c.requires.code_in_bounds

pub returns-in-Dtmf : goal.returns-in-Dtmf
returns-in-Dtmf c =
    front-written c.args.sent.now _ _ c.args.code.0 _ c.in-Dtmf.is c.duration.ensures c.requires.code_in_bounds _
    c.put_dtmf.ensures

pub put_edt-requires-clause-sent_len : goal.put_edt-requires-clause-sent_len
put_edt-requires-clause-sent_len c =
    front-length c.args.sent.now _ _ c.args.code.0 _ c.in-Edt.is c.duration.ensures c.requires.code_in_bounds

pub returns-in-Edt : goal.returns-in-Edt
returns-in-Edt c =
    front-written c.args.sent.now _ _ c.args.code.0 _ c.in-Edt.is c.duration.ensures c.requires.code_in_bounds _
    c.put_edt.ensures
