-- DEMAND 3, "a single claim over whole lists": all its parts.
use Rattle.demand3.specs.Accepts.{SucceedsAsModel, PlainAsModel}
use Rattle.demand3.specs.Demand3.{Lists, Premises, Conclusion, OpensWithShift, SendsAsModel, CutInTwo, NormalTwice}
use Rattle.demand3_claim.specs.Examples.{AllHold}

pub record Demand3 : Type 0 where
  -- No call is refused without a reason, and each sent ms is the send model's.
  pub succeeds : SucceedsAsModel
  pub plain_succeeds : PlainAsModel
  pub sends : SendsAsModel
  -- B reads what follows the idle period, in Baudot from a shift code on.
  pub reads : (d : Lists) → Premises d → Conclusion d
  pub opens-with-shift : (d : Lists) → Premises d → OpensWithShift d
  pub cut-in-two : CutInTwo
  pub normal-twice : NormalTwice
  -- For each mode an instance, computed, that an engine which refuses, sends nothing or reads nothing does not have.
  pub examples : AllHold
