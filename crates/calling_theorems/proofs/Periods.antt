-- While nothing is heard, what is sent is the timetable.
use mathlib.Core.Path.{◌≡◌, ◌∙◌, refl, ap}
use mathlib.Core.Bool.{true}
use mathlib.Core.List.{List, ◌∷◌}
use Prim.Native.Nat.{ℕ, zero, suc, ◌+◌, ◌%◌, ◌≤◌, ◌<◌}
use native.Mathlib.Omega.{arith}
use borrow.Author.Tests.{ltb-true, ltb-false}
use lib.Dec.{ltb}
use lib.ListN.{replicate}
use Rattle.lists.specs.Steps.{outputs}
use Rattle.lists.specs.Tables.{tabulate}
use Rattle.lists.proofs.Lists.{either-by}
use Rattle.calling.specs.declared.Calling.{Calling}
use Rattle.calling.specs.Timetable.{period, value_at, place_after}
use Rattle.calling.specs.Tones.{none}
use Rattle.calling.specs.Set.{fresh, pause_over, sent_ms, calling_ms, sent_of}
use Rattle.calling.proofs.OneMs.{does-timetable}
use Rattle.calling_theorems.specs.Calls.{Call, heard_by, sent_by}
use Rattle.calling_theorems.specs.Periods.{periods}
use Rattle.calling_theorems.proofs.Range.{period-is}
use Rattle.calling_theorems.proofs.Cuts.{calls-sent}

-- A set that runs the timetable and stands at a place of it.
pub record Runs (s : Calling) (place : ℕ) : Type 0 where
  pub no-choice : s.choice ≡ 0
  pub ready : pause_over s.tone s.ms ≡ true
  pub place_is : s.place ≡ place

-- one ms of none
runs_on : (s : Calling) (place : ℕ) → Runs s place → Runs (calling_ms s none) (place_after place)
runs_on s place r =
    let d = does-timetable s none r.no-choice refl r.ready in
    rw d.leaves (record { no-choice = refl; ready = r.ready; place_is = ap place_after r.place_is })

runs-sends : (s : Calling) (place : ℕ) → Runs s place → sent_ms s none ≡ value_at place
runs-sends s place r = (does-timetable s none r.no-choice refl r.ready).says ∙ ap value_at r.place_is

-- the place after the k-th
place-mod : (k : ℕ) → place_after (k % period) ≡ suc k % period
unfolding place_after
place-mod k =
    rw period-is
    (either-by (λ (n : ℕ). n ≡ suc k % 11_200) (ltb (k % 11_200 + 1) 11_200)
    (λ e. let h : k % 11_200 + 1 < 11_200 = ltb-true _ _ e in omega arith)
    (λ e. let h : 11_200 ≤ k % 11_200 + 1 = ltb-false _ _ e in omega arith))

-- a set that runs the timetable sends it from its place on
pub runs-sent : (n k : ℕ) (s : Calling) → Runs s (k % period)
    → sent_of s (replicate n none) ≡ tabulate (λ j. value_at (j % period)) n k
unfolding outputs tabulate
runs-sent zero k s r = refl
runs-sent (suc n) k s r =
    let place = k % period in
    let next : Runs (calling_ms s none) (suc k % period) = rw place-mod at (runs_on s place r) in
    let later = runs-sent n (suc k) (calling_ms s none) next in
    let now = runs-sends s place r in
    λ i. now i ∷ later i

fresh-runs : Runs fresh 0
unfolding fresh
fresh-runs = record { no-choice = refl; ready = refl; place_is = refl }

first-place : 0 % period ≡ 0
first-place = rw period-is

-- from its first place on
pub runs-sent-first : (n : ℕ) (s : Calling) → Runs s 0 → sent_of s (replicate n none) ≡ periods n
runs-sent-first n s r = runs-sent n 0 s (rw first-place r)

-- while nothing is heard, the sent ms are the timetable, for any number of ms ..
pub none-sent : (n : ℕ) → sent_of fresh (replicate n none) ≡ periods n
none-sent n = runs-sent-first n fresh fresh-runs

-- .. and any cutting into calls, refused ones among them
pub none-sent-by : (n : ℕ) (cs : List Call) → heard_by fresh cs ≡ replicate n none → sent_by fresh cs ≡ periods n
none-sent-by n cs e = calls-sent fresh cs ∙ ap (sent_of fresh) e ∙ none-sent n
