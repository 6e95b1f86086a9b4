-- `put_edt` meets its contract.
use Rattle.signal_codes.proofs.WholeCodes.{edt-written}
use Rattle.signal_codes.proofs.put_edt.Goals as goal

pub returns : goal.returns
returns c =
    edt-written c.args.code.0 _ _ c.parity.ensures c.frame_level-parity.ensures _ _ _ _ _ c.requires.sent_len
    c.fill_ms.ensures c.put_elements.ensures c.fill_ms-2.ensures c.fill_ms-3.ensures
