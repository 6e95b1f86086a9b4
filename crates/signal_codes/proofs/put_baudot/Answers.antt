-- `put_baudot` meets its contract.
use Rattle.std.proofs.Common.{ℕ, arith}
use Rattle.std.proofs.lemmas.List.{length-take}
use Rattle.signal_codes.proofs.WholeCodes.{baudot_ms, baudot-written}
use Rattle.signal_codes.proofs.put_baudot.Goals as goal

pub slice_bounds-fill_ms-end-2 : goal.slice_bounds-fill_ms-end-2
slice_bounds-fill_ms-end-2 c = omega (arith, baudot_ms c.args.element c.args.code.0, length-take {A = ℕ})

pub returns : goal.returns
returns c =
    baudot-written c.args.element c.args.code.0 _ _ _ _ c.requires c.fill_ms.ensures c.put_elements.ensures
    c.fill_ms-2.ensures
