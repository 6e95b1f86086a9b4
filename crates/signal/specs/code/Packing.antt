-- How the code goes about it: a frame as one number, the first element lowest.
use Rattle.std.specs.Prelude.{ℕ, ◌+◌, ◌*◌}
use Rattle.signal.specs.Signal.{parity_of}

-- the digits of an EDT frame: two stops 1, the parity, the code, start 0
abbrev pub edt_frame : ℕ → ℕ
edt_frame c = 1536 + 256 * parity_of c + 2 * c
