-- On a quiet line every station in range becomes idle, in one number of ms.
use mathlib.Core.Path.{◌∙◌, sym}
use mathlib.Core.Bool.{false≢true}
use Prim.Native.Nat.{ℕ, ◌<◌}
use native.Mathlib.Omega.{arith}
use Rattle.station.specs.declared.Station.{Station}
use Rattle.preview.specs.Preview.{IdleIn}
use Rattle.preview.specs.code.Count.{ms_left}
use Rattle.preview.proofs.Idle as preview
use Rattle.station_theorems.specs.Idle.{BecomesIdle, InOneNumber}

-- in a number of ms it is in no burst and has nothing waiting, and after any more
pub becomes-idle : BecomesIdle
becomes-idle s full i =
    record { ms = ms_left s; idle-in = preview.idle-in s full i; stays = λ n h. preview.idle-from n s full i h }

-- it is the only one
not-below : (s : Station) (m n : ℕ) → IdleIn s m → IdleIn s n → m < n → ⊥
not-below s m n p q h = false≢true (sym (q.first m h) ∙ p.idle)

pub in-one-number : InOneNumber
in-one-number s m n p q =
    let a = not-below s m n p q in
    let b = not-below s n m q p in
    omega (arith, a, b)
