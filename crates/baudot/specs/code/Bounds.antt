-- The bounds that functions over a sender ask for.
use Rattle.std.specs.Prelude.{◌≤◌}
use Rattle.baudot.specs.declared.Sender.{Sender}

-- the shift is 0 fresh, 1 letters, 2 figures; the count at most 72
pub record SenderIn (s : Sender) : Type 0 where
  pub shift_in : s.shift ≤ 2
  pub count_in : s.count ≤ 72
