-- A station that only listens: in no burst, with none waiting and no inhibited ms to come.
use Rattle.std.specs.Prelude.{false, ◌≡◌}
use Rattle.burst.specs.Line.{in_burst}
use Rattle.station.specs.declared.Station.{Station}

pub record Listens (s : Station) : Type 0 where
  pub no-burst : in_burst s.core.line ≡ false
  pub none-waiting : s.core.waiting ≡ 0
  pub none_to_come : s.core.inhibited ≡ 0
