-- The ms of a burst are counted as those of a station that is offered nothing.
use mathlib.Core.Path.{◌≡◌, refl}
use mathlib.Core.Bool.{true}
use mathlib.Core.List.{[], ◌++◌}
use Prim.Native.Nat.{◌+◌, ◌≤◌}
use native.Mathlib.Omega.{arith}
use lib.ListN.{length}
use borrow.Author.Tests.{le-leb}
use Rattle.lists.specs.Lists.{all_at_most}
use Rattle.alphabet.specs.Normal.{all_chars}
use Rattle.burst.specs.Rules.{free_ms}
use Rattle.burst.specs.Line.{begun}
use Rattle.half_duplex.specs.Core.{mode_in, with_silence}
use Rattle.half_duplex.specs.code.Bounds.{CoreIn}
use Rattle.queue.specs.Queue.{waiters, waiting_of, room}
use Rattle.station.specs.declared.Station.{Station}
use Rattle.station.specs.Station.{queue_of}
use Rattle.station.specs.Range.{in_range}
use Rattle.station.specs.code.Accepted.{Accepted}
use Rattle.station.proofs.Range.{core-in}
use Rattle.preview.specs.code.Count.{behind_ms}
use Rattle.preview.proofs.Offered.{chars-low, behind-few}

module _ (s : Station) (i : in_range s ≡ true) where
  offered-none : Accepted s []
  unfolding all_at_most room waiters
  offered-none =
      let w = (core-in s i).waiting-in in
      record { ranged = i; chars = refl; space = le-leb (s.core.waiting + 0) 256 (omega arith) }

  pub free_in : CoreIn (with_silence s.core free_ms)
  free_in =
      let c = core-in s i in
      record {
        waiting-in = c.waiting-in;
        silence_in = omega arith;
        inhibited-in = c.inhibited-in;
        line-in = c.line-in;
        sender-in = c.sender-in;
        reader-in = c.reader-in;
      }

  module _ (full : length s.chars ≡ 256) where
    pub own-chars : all_chars (waiting_of (queue_of s) ++ []) ≡ true
    own-chars = chars-low s [] full offered-none

    pub own-few : behind_ms (mode_in s.core) (begun true s.core.line) s.core.sender
        (waiting_of (queue_of s) ++ []) ≤ 250_000
    own-few = behind-few s [] full offered-none (begun true s.core.line)
