-- The words of a list of calls whose steps are just the ms of a list are those of one run on the list.
use mathlib.Core.Path.{◌≡◌, ◌∙◌, refl, sym, ap}
use mathlib.Core.Bool.{true, false}
use mathlib.Core.List.{List, [], ◌∷◌, ◌++◌, map, map-append}
use Prim.Native.Nat.{ℕ}
use native.Mathlib.Omega.{arith}
use Rattle.lists.specs.Steps.{state_after, joined}
use Rattle.lists.proofs.Lists.{by-test}
use Rattle.station.specs.declared.Station.{Station}
use Rattle.station.specs.declared.Measured.{Measured}
use Rattle.station.specs.Station.{station_after, words_by as words_run}
use Rattle.station.specs.Measured.{station_of}
use Rattle.station.proofs.Edged.{station-after}
use Rattle.station.proofs.Cuts.{after_none, words-none, cut}
use Rattle.demand3.specs.Model.{Step, Offer, Ms}
use Rattle.demand3.specs.Calls.{Call, OfferCall, RunCall, left, succeeds, words_for, steps_for, left_by, words_by, steps_by}
use Rattle.demand3.proofs.Calls.{refused-left, run-answer, left-of, words-of, steps_of}
use Rattle.tolerance_theorems.specs.Station.{reader_of}
use Rattle.tolerance_theorems.specs.Calls.{Hear, RunsHear, CallsBear}
use Rattle.tolerance_theorems.proofs.Station.{station-bears}

-- ---- one call

-- The call hears these ms, and does what a station does in them.
record GoesBy (s : Measured) (c : Call) (heard : List ℕ) : Type 0 where
  left_is : station_of (left s c) ≡ station_after (station_of s) heard
  words_are : words_for s c ≡ words_run (station_of s) heard
  steps-are : steps_for s c ≡ map Ms heard

-- The ms that a call hears.
record Heard (s : Measured) (c : Call) : Type 0 where
  heard : List ℕ
  goes_by : GoesBy s c heard

refused : (s : Measured) (c : Call) → succeeds s c ≡ false → GoesBy s c []
refused s c f = record {
  left_is = ap station_of (refused-left s c f) ∙ sym (after_none (station_of s));
  words_are = rw f (sym (words-none (station_of s)));
  steps-are = rw f refl;
}

-- a call that succeeds is a run: the steps of an offer are no ms
run : (c : Call) (s : Measured) (steps : List Step) (ys : List ℕ) → succeeds s c ≡ true
    → steps_for s c ++ steps ≡ map Ms ys → Heard s c
run (RunCall r heard sent words) s steps ys t e =
    let z = run-answer s r heard sent words t in
    record {
      heard = heard;
      goes_by = record {
        left_is = ap station_of (left-of s r heard sent words z) ∙ station-after s heard;
        words_are = words-of s r heard sent words z;
        steps-are = steps_of s r heard sent words z;
      };
    }
run (OfferCall text) s steps ys t e = absurd (no-offer ys (rw t at e))
  where
    no-offer : (ys : List ℕ) → Offer text ∷ steps ≡ map Ms ys → ⊥
    no-offer [] e = let z : ◌≡◌ {A = ℕ} 0 1 = cc in omega arith
    no-offer (y ∷ ys) e = let z : ◌≡◌ {A = ℕ} 0 1 = cc in omega arith

heard-by : (s : Measured) (c : Call) (steps : List Step) (ys : List ℕ) → steps_for s c ++ steps ≡ map Ms ys → Heard s c
heard-by s c steps ys e =
    by-test (succeeds s c) (λ t. run c s steps ys t e) (λ f. record { heard = []; goes_by = refused s c f })

-- ---- a list of calls

-- The calls are as one run on the ms ys.
record AsOne (s : Measured) (cs : List Call) (ys : List ℕ) : Type 0 where
  words_are : words_by s cs ≡ words_run (station_of s) ys
  left_is : station_of (left_by s cs) ≡ station_after (station_of s) ys

-- steps that are the ms ys, of which these are heard first
record Ahead (heard : List ℕ) (steps : List Step) (ys : List ℕ) : Type 0 where
  later : List ℕ
  split : ys ≡ heard ++ later
  steps-are : steps ≡ map Ms later

ahead : (heard : List ℕ) (steps : List Step) (ys : List ℕ) → map Ms heard ++ steps ≡ map Ms ys → Ahead heard steps ys
ahead [] steps ys e = record { later = ys; split = refl; steps-are = e }
ahead (x ∷ heard) steps [] e = absurd (let z : ◌≡◌ {A = ℕ} 0 1 = cc in omega arith)
ahead (x ∷ heard) steps (y ∷ ys) e =
    let same : y ≡ x = cc in
    let a = ahead heard steps ys (cc) in
    record { later = a.later; split = λ i. same i ∷ a.split i; steps-are = a.steps-are }

-- a call, and then the others
then-others : (c : Call) (cs : List Call) (s : Measured) (heard later : List ℕ) → GoesBy s c heard
    → AsOne (left s c) cs later → AsOne s (c ∷ cs) (heard ++ later)
unfolding joined state_after
then-others c cs s heard later g a =
    let k = cut (station_of s) heard later in
    record {
      words_are =
          (λ i. g.words_are i ++ a.words_are i)
          ∙ ap (λ (t : Station). words_run (station_of s) heard ++ words_run t later) g.left_is
          ∙ sym k.words;
      left_is = a.left_is ∙ ap (λ (t : Station). station_after t later) g.left_is ∙ sym k.station;
    }

as_one : (cs : List Call) (s : Measured) (ys : List ℕ) → Hear s cs ys → AsOne s cs ys
unfolding joined state_after
as_one [] s [] e = record { words_are = sym (words-none (station_of s)); left_is = sym (after_none (station_of s)) }
as_one [] s (y ∷ ys) e = absurd (let z : ◌≡◌ {A = ℕ} 0 1 = cc in omega arith)
as_one (c ∷ cs) s ys e =
    let steps = steps_by (left s c) cs in
    let h = heard-by s c steps ys e in
    let a = ahead h.heard steps ys (ap (λ (l : List Step). l ++ steps) (sym h.goes_by.steps-are) ∙ e) in
    rw a.split
    (then-others c cs s h.heard a.later h.goes_by (as_one cs (left s c) a.later a.steps-are))

pub runs-hear : RunsHear
unfolding joined
runs-hear s r heard sent words cs ys t e =
    let z = run-answer s r heard sent words t in
    (λ i. steps_of s r heard sent words z i ++ e i) ∙ sym (map-append Ms heard ys)

pub calls-bear : CallsBear
calls-bear s cs ks ys e arrives free =
    let a = as_one cs s ys e in
    let b = station-bears (station_of s) ks ys arrives free in
    record {
      words_are = a.words_are ∙ b.words_are;
      reader-is = ap reader_of a.left_is ∙ b.reader-is;
    }
