-- Demand 3, the whole claim.
use Rattle.alphabet.specs.Modes.{alphabet_of}
use Rattle.alphabet_theorems.proofs.Normal.{normal-form-twice}
use Rattle.demand3_claim.specs.Claim.{Demand3}
use Rattle.demand3.proofs.Accepts.{succeeds-as-model, plain-as-model}
use Rattle.demand3.proofs.CutInTwo.{cut-in-two}
use Rattle.demand3.proofs.Demand3.{sends-as-model, concludes, opens-with-shift}
use Rattle.demand3_claim.proofs.Examples.{all_hold}

pub demand-3 : Demand3
demand-3 = record {
  succeeds = succeeds-as-model;
  plain_succeeds = plain-as-model;
  sends = sends-as-model;
  reads = concludes;
  opens-with-shift = opens-with-shift;
  cut-in-two = cut-in-two;
  normal-twice = λ mode. normal-form-twice (alphabet_of mode);
  examples = all_hold;
}
