-- Document 01, "Questions in order": the calling set. The first no decides; a refusal leaves the state and the slice;
-- success writes one sent ms for each ms heard, and the rest of the slice stays.
use Rattle.std.specs.Prelude.{ℕ, cond, List, ◌++◌, eqb, leb, length, drop, Result, Ok, Err}
use Rattle.lists.specs.Lists.{most_ms}
use Rattle.refusals.specs.declared.Refusal.{Refusal}
use Rattle.refusals.specs.Refusals.{number}
use Rattle.calling.specs.declared.Calling.{Calling}
use Rattle.calling.specs.declared.CallingChosen.{CallingChosen}
use Rattle.calling.specs.Tones.{all_tones}
use Rattle.calling.specs.Set.{in_range, after, sent_of}

-- 12: is the state in range? 5: at most 4,096 ms? 11: is every heard ms 0 to 11? 7: is the sent slice, of `room` ms, at
-- least as long as the tones?
unfoldable pub answer_to : Calling → List ℕ → ℕ → ℕ
answer_to s tones room =
    cond (in_range s)
    (cond (leb (length tones) most_ms)
    (cond (all_tones tones)
    (cond (leb (length tones) room) 0 7) 11) 5) 12

-- The state after a run, and 0 or the number of the refusal.
pub record Ran : Type 0 where
  pub state : Calling
  pub answer : ℕ

abbrev pub ran : Calling → ℕ → Ran
ran s answer = record { state = s; answer = answer }

-- The state after a run, with its answer.
unfoldable pub ran_of : Calling → List ℕ → ℕ → Ran
ran_of s tones room =
    let answer = answer_to s tones room in
    cond (eqb answer 0) (ran (after s tones) 0) (ran s answer)

-- The sent slice after a run.
unfoldable pub sent_after : Calling → List ℕ → List ℕ → List ℕ
sent_after s tones slice =
    cond (eqb (answer_to s tones (length slice)) 0) (sent_of s tones ++ drop (length tones) slice) slice

abbrev pub choice : ℕ → ℕ → CallingChosen
choice answer tone = record { answer = answer; choice = tone }

-- The choice of a state. 12: is the state in range? It reads 0 until a choice is made, and beside a refusal.
unfoldable pub choice_of : Calling → CallingChosen
choice_of s = cond (in_range s) (choice 0 s.choice) (choice 12 0)

-- What C is given of a choice or a refusal.
abbrev pub chosen_of : Result ℕ Refusal → CallingChosen
chosen_of (Ok tone) = choice 0 tone
chosen_of (Err r) = choice (number r) 0
