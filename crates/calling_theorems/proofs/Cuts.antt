-- Any cutting into calls gives the same.
use mathlib.Core.Path.{◌≡◌, refl}
use mathlib.Core.Bool.{Bool, true, false, cond}
use mathlib.Core.List.{List, [], ◌++◌}
use Prim.Native.Nat.{ℕ}
use lib.Dec.{eqb}
use lib.ListN.{length, drop}
use lib.Seq.{take_at}
use Rattle.lists.specs.Steps.{state_after, outputs}
use Rattle.lists.proofs.Lists.{by-test}
use Rattle.lists.proofs.Steps as steps
use Rattle.calling.specs.declared.Calling.{Calling}
use Rattle.calling.specs.Set.{calling_ms, sent_ms, after, sent_of}
use Rattle.calling.specs.Entry.{ran, ran_of, sent_after}
use Rattle.calling_theorems.specs.Calls.{Call, answered, left, hears, says, left_by, heard_by, sent_by}

-- Two lists of ms, one behind the other, are one: the state after them, and what is sent.
pub after-append : (s : Calling) (xs ys : List ℕ) → after s (xs ++ ys) ≡ after (after s xs) ys
after-append = steps.after-append calling_ms sent_ms

pub sent-append : (s : Calling) (xs ys : List ℕ) → sent_of s (xs ++ ys) ≡ sent_of s xs ++ sent_of (after s xs) ys
sent-append = steps.outputs-append calling_ms sent_ms

either_left : (s : Calling) (ts : List ℕ) (a : ℕ) (b : Bool)
    → (cond b (ran (after s ts) 0) (ran s a)).state ≡ after s (cond b ts [])
unfolding state_after
either_left s ts a true = refl
either_left s ts a false = refl

-- one call is the run of what it hears, refused or not
left_is : (s : Calling) (c : Call) → left s c ≡ after s (hears s c)
unfolding ran_of
left_is s c = either_left s c.tones (answered s c) (eqb (answered s c) 0)

says_is : (s : Calling) (c : Call) → says s c ≡ sent_of s (hears s c)
unfolding sent_after outputs
says_is s c =
    let ts = c.tones in
    let n = length ts in
    by-test (eqb (answered s c) 0)
    (λ e. simp e (take_at (sent_of s ts) (drop n c.slice) n (steps.outputs-length calling_ms sent_ms s ts)))
    (λ e. simp e)

-- Calls on the parts of a list equal one on the whole, refused calls among them: the state ..
pub calls-left : (s : Calling) (cs : List Call) → left_by s cs ≡ after s (heard_by s cs)
calls-left = steps.calls-left calling_ms sent_ms left hears says left_is says_is

-- .. and what is sent
pub calls-sent : (s : Calling) (cs : List Call) → sent_by s cs ≡ sent_of s (heard_by s cs)
calls-sent = steps.calls-said calling_ms sent_ms left hears says left_is says_is

-- Two lists of calls that hear the same, however it is cut, leave the same state and send the same.
pub same-heard : (s : Calling) (cs ds : List Call) → heard_by s cs ≡ heard_by s ds
    → (left_by s cs ≡ left_by s ds) × (sent_by s cs ≡ sent_by s ds)
same-heard = steps.same-heard calling_ms sent_ms left hears says left_is says_is
