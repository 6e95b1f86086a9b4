-- The bounds that the functions of this crate ask for.
use Rattle.std.specs.Prelude.{◌≤◌}
use Rattle.reader.specs.code.Bounds.{ReaderIn}
use Rattle.burst.specs.Rules.{free_ms, after_ms}
use Rattle.baudot.specs.code.Bounds.{SenderIn}
use Rattle.burst.specs.code.Bounds.{LineIn}
use Rattle.half_duplex.specs.declared.Core.{Core}
use Rattle.half_duplex.specs.Core.{mode_in}

pub record CoreIn (c : Core) : Type 0 where
  pub waiting-in : c.waiting ≤ 256
  pub silence_in : c.silence ≤ free_ms
  pub inhibited-in : c.inhibited ≤ after_ms
  pub line-in : LineIn (mode_in c) c.line
  pub sender-in : SenderIn c.sender
  pub reader-in : ReaderIn (mode_in c) c.reader
