-- A run takes as many characters as fewer wait after it, and the others move up as many places.
use mathlib.Core.Path.{◌≡◌, ◌∙◌, refl, ap}
use mathlib.Core.Bool.{Bool, true, false}
use mathlib.Core.List.{List, [], ◌∷◌}
use Prim.Native.Nat.{ℕ, ◌+◌, ◌-◌, ◌≤◌}
use native.Mathlib.Omega.{arith}
use Rattle.lists.specs.Steps.{state_after}
use Rattle.half_duplex.specs.Core.{settled, waiting_after, core_from}
use Rattle.half_duplex.proofs.Range.{takes-waiting}
use Rattle.queue.specs.Queue.{moved_by}
use Rattle.queue.proofs.Moves.{moved-by-more}
use Rattle.station.specs.declared.Station.{Station}
use Rattle.station.specs.Station.{front, chars_after, station_ms, station_after}

-- From one station to a later one.
pub record Takes (w w' : ℕ) (chars chars' : List ℕ) : Type 0 where
  pub fewer : w' ≤ w
  pub moves : chars' ≡ moved_by (w - w') chars

none-taken : (w : ℕ) (chars : List ℕ) → Takes w w chars chars
unfolding moved_by
none-taken w chars =
    let e : 0 ≡ w - w = omega arith in
    record { fewer = omega arith; moves = ap (λ (k : ℕ). moved_by k chars) e }

one-ms : (w : ℕ) (chars : List ℕ) (takes : Bool) → (takes ≡ true → 1 ≤ w)
    → Takes w (waiting_after takes w) chars (chars_after takes chars)
unfolding moved_by
one-ms w chars true h =
    let o = h refl in
    let e : 1 ≡ w - (w - 1) = omega arith in
    record { fewer = omega arith; moves = ap (λ (k : ℕ). moved_by k chars) e }
one-ms w chars false h = none-taken w chars

pub taken-after : (s : Station) (xs : List ℕ)
    → Takes s.core.waiting (station_after s xs).core.waiting s.chars (station_after s xs).chars
unfolding state_after station_ms core_from
taken-after s [] = none-taken s.core.waiting s.chars
taken-after s (x ∷ xs) =
    let t = (settled s.core (front s)).takes in
    let a = one-ms s.core.waiting s.chars t (takes-waiting s.core (front s)) in
    let b = taken-after (station_ms s x) xs in
    let v = waiting_after t s.core.waiting in
    let u = (station_after (station_ms s x) xs).core.waiting in
    let f = a.fewer in
    let g = b.fewer in
    let e : (s.core.waiting - v) + (v - u) ≡ s.core.waiting - u = omega arith in
    record {
      fewer = omega arith;
      moves =
          b.moves
          ∙ ap (moved_by (v - u)) a.moves
          ∙ moved-by-more (s.core.waiting - v) (v - u) s.chars
          ∙ ap (λ (k : ℕ). moved_by k s.chars) e;
    }
