-- Document 01, "Questions in order": the numbers of the refusals, the same for all entries.
use Rattle.std.specs.Prelude.{ℕ, Result, Ok, Err}
use Rattle.refusals.specs.declared.Refusal.{Refusal}
use Rattle.refusals.specs.declared.Refusal.TheVariants as refusal

abbrev pub number : Refusal → ℕ
number refusal.State = 1
number refusal.Mode = 2
number refusal.Character = 3
number refusal.Full = 4
number refusal.Duration = 5
number refusal.Heard = 6
number refusal.SentSlice = 7
number refusal.WordSlice = 8
number refusal.ResultSlice = 9
number refusal.Code = 10
number refusal.Tone = 11
number refusal.CallingState = 12
number refusal.ReportFull = 18

-- The answer of an entry: 0, or the number of the refusal.
abbrev pub answer_of : {T : Type 0} → Result T Refusal → ℕ
answer_of (Ok x) = 0
answer_of (Err r) = number r
