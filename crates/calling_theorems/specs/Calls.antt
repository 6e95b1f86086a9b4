-- Lists of calls on a calling set, each by the definitions that the contract of its entry cites.
use Rattle.std.specs.Prelude.{ℕ, cond, List, [], eqb, length, take}
use Rattle.lists.specs.Steps.{state_after, joined}
use Rattle.calling.specs.declared.Calling.{Calling}
use Rattle.calling.specs.Entry.{answer_to, ran_of, sent_after}

-- A call: the tones that it is given, and the slice for what is sent.
pub record Call : Type 0 where
  pub tones : List ℕ
  pub slice : List ℕ

abbrev pub answered : Calling → Call → ℕ
answered s c = answer_to s c.tones (length c.slice)

-- The state that it leaves.
abbrev pub left : Calling → Call → Calling
left s c = (ran_of s c.tones (length c.slice)).state

-- What it hears: its tones, and nothing if it is refused.
abbrev pub hears : Calling → Call → List ℕ
hears s c = cond (eqb (answered s c) 0) c.tones []

-- What it sends: as many ms from the front of its slice as it hears.
abbrev pub says : Calling → Call → List ℕ
says s c = take (length (hears s c)) (sent_after s c.tones c.slice)

-- The state after a list of calls, each on the state that the last one left; what they hear and what they send, end to
-- end.
abbrev pub left_by : Calling → List Call → Calling
left_by s cs = state_after left s cs

abbrev pub heard_by : Calling → List Call → List ℕ
heard_by s cs = joined left hears s cs

abbrev pub sent_by : Calling → List Call → List ℕ
sent_by s cs = joined left says s cs
