-- Reports over the ms of a run: each ms adds at most one edge; a run that is cut in two gives the same report.
use mathlib.Core.Path.{◌≡◌, ◌∙◌, sym, ap, subst}
use mathlib.Core.Bool.{Bool, true, false, cond}
use mathlib.Core.List.{List, [], ◌∷◌, ◌++◌}
use Prim.Native.Nat.{ℕ, ◌+◌, ◌≤◌}
use native.Mathlib.Omega.{arith}
use lib.ListN.{length, length-append}
use borrow.Author.Tests.{leb-true}
use Rattle.lists.specs.Lists.{all_at_most}
use Rattle.lists.specs.Steps.{state_after, outputs}
use Rattle.lists.proofs.Lists.{either, at-most-front, at-most-behind}
use Rattle.lists.proofs.Steps.{after-append, outputs-append}
use Rattle.alphabet.specs.declared.Mode.{Mode}
use Rattle.alphabet.specs.Modes.{highest_level}
use Rattle.edges.specs.declared.Edges.{Edges}
use Rattle.edges.specs.declared.Report.{Report}
use Rattle.edges.specs.Edges.{no_edge, no_edges, joined, edges_ms, counted_ms}
use Rattle.edges.specs.Range.{report_in}
use Rattle.edges.specs.code.Bounds.{ReportOf}
use Rattle.edges.proofs.Range.{more_of, joined-edges, report-in, report-is, waiting_few, none_of}
use Rattle.edges.proofs.Bound.{Fine, fine_of, fine-joined, ms-more, ms-fine}
use Rattle.half_duplex.specs.Core.{mode_in, inhibited_in}
use Rattle.station.specs.declared.Measured.{Measured}
use Rattle.station.specs.Station.{mode_of_station, front}
use Rattle.station.specs.Measured.{station_of, waiting_ms, counted_in, measured_ms, measured_after, report_after}
use Rattle.station.specs.Range.{measured_in}
use Rattle.station.specs.Entries.{run_answer}
use Rattle.station.proofs.Answers.{run-0}
use Rattle.station.proofs.Cuts.{mode-after}
use Rattle.station.proofs.Edged.{measured-in, frame-of, station-after}
use Rattle.station.proofs.Kept.{runs, after-measured}

-- ---- one ms

module _ (x : Measured) (heard : ℕ) where
  abbrev waits : Edges
  waits = edges_ms (mode_in x.core) x.core.reader.frame x.edges heard

  abbrev counts : Report
  counts = counted_ms (mode_in x.core) x.core.reader.frame x.edges heard

  pub one_more : (counted_in x heard).edges + (waiting_ms x heard).seen.edges ≤ x.edges.seen.edges + 1
  unfolding counted_in waiting_ms
  one_more = go (inhibited_in x.core (front (station_of x)))
    where
      go : (b : Bool) → (cond b no_edge counts).edges + (cond b no_edges waits).seen.edges ≤ x.edges.seen.edges + 1
      go true = omega arith
      go false = ms-more (mode_in x.core) x.core.reader.frame x.edges heard

  pub one-fine : Fine x.edges.seen → Fine (counted_in x heard) × Fine (waiting_ms x heard).seen
  unfolding counted_in waiting_ms
  one-fine h =
      let b = inhibited_in x.core (front (station_of x)) in
      let k = ms-fine (mode_in x.core) x.core.reader.frame x.edges heard h in (
        either Fine b no_edge counts (none_of 0) k.0,
        either (λ (w : Edges). Fine w.seen) b no_edges waits (none_of 0) k.1,
      )

-- ---- the ms of a run

pub report-most : (x : Measured) (r : Report) (heard : List ℕ)
    → (report_after x r heard).edges ≤ r.edges + x.edges.seen.edges + length heard
unfolding state_after outputs measured_ms
report-most x r [] = omega arith
report-most x r (h ∷ hs) =
    let j = joined-edges r (counted_in x h) in
    let l = one_more x h in
    let n = report-most (measured_ms x h) (joined r (counted_in x h)) hs in
    omega arith

pub report-least : (x : Measured) (r : Report) (heard : List ℕ) → r.edges ≤ (report_after x r heard).edges
unfolding state_after outputs
report-least x r [] = omega arith
report-least x r (h ∷ hs) =
    let j = joined-edges r (counted_in x h) in
    let n = report-least (measured_ms x h) (joined r (counted_in x h)) hs in
    omega arith

pub report-fine : (x : Measured) (r : Report) (heard : List ℕ) → Fine x.edges.seen → Fine r
    → Fine (report_after x r heard)
unfolding state_after outputs measured_ms
report-fine x r [] w h = h
report-fine x r (y ∷ ys) w h =
    let k = one-fine x y w in
    report-fine (measured_ms x y) (joined r (counted_in x y)) ys k.1 (fine-joined h k.0)

pub waiting-fine : (x : Measured) → measured_in x ≡ true → ReportOf 142 x.edges.seen
waiting-fine x i =
    let k = measured-in x i in
    waiting_few (mode_in x.core) x.core.reader.frame x.edges (frame-of x k.0) k.1

-- the report of a run that succeeds is in range
pub report-kept : (x : Measured) (r : Report) (heard : List ℕ) → measured_in x ≡ true → report_in r ≡ true
    → (report_after x r heard).edges ≤ 65_536 → report_in (report_after x r heard) ≡ true
report-kept x r heard i q l =
    report-is _ (more_of l (report-fine x r heard (fine_of (waiting-fine x i)) (fine_of (report-in r q))))

-- a run without a report never asks for more edges than one may have
pub plain-few : (x : Measured) (heard : List ℕ) → measured_in x ≡ true → length heard ≤ 4_096
    → (report_after x no_edge heard).edges ≤ 65_536
plain-few x heard i l =
    let w = (waiting-fine x i).few in
    let m = report-most x no_edge heard in
    omega arith

-- ---- a run that is cut in two

pub measured-append : (x : Measured) (xs ys : List ℕ)
    → measured_after x (xs ++ ys) ≡ measured_after (measured_after x xs) ys
measured-append x xs ys = after-append measured_ms counted_in x xs ys

pub report-append : (x : Measured) (r : Report) (xs ys : List ℕ)
    → report_after x r (xs ++ ys) ≡ report_after (measured_after x xs) (report_after x r xs) ys
report-append x r xs ys =
    ap (state_after joined r) (outputs-append measured_ms counted_in x xs ys)
    ∙ after-append joined joined r (outputs measured_ms counted_in x xs)
    (outputs measured_ms counted_in (measured_after x xs) ys)

-- both parts of a run that succeeds succeed, with slices that are long enough for them; the second with the report that
-- the first leaves
module _ (x : Measured) (r : Report) (xs ys : List ℕ) (sent_room word_room : ℕ)
    (z : run_answer x r (xs ++ ys) sent_room word_room ≡ 0) where
  few : length xs + length ys ≤ 4_096
  few = rw length-append at (leb-true (length (xs ++ ys)) 4_096 (runs x r (xs ++ ys) sent_room word_room z).few)

  all-few : (report_after (measured_after x xs) (report_after x r xs) ys).edges ≤ 65_536
  all-few =
      rw (← report-append x r xs ys)
      (leb-true (report_after x r (xs ++ ys)).edges 65_536 (runs x r (xs ++ ys) sent_room word_room z).edges_few)

  first-few : (report_after x r xs).edges ≤ 65_536
  first-few = let a = all-few in let l = report-least (measured_after x xs) (report_after x r xs) ys in omega arith

  pub first_runs : (m n : ℕ) → length xs ≤ m → length xs ≤ n → run_answer x r xs m n ≡ 0
  first_runs m n p q =
      let k = runs x r (xs ++ ys) sent_room word_room z in
      let l = few in
      let levels = at-most-front (highest_level (mode_of_station (station_of x))) xs ys k.levels in
      run-0 x r xs m n k.ranged k.report-in (omega arith) levels p q first-few

  pub second_runs : length x.chars ≡ 256 → (m n : ℕ) → length ys ≤ m → length ys ≤ n
      → run_answer (measured_after x xs) (report_after x r xs) ys m n ≡ 0
  second_runs full m n p q =
      let k = runs x r (xs ++ ys) sent_room word_room z in
      let most = highest_level (mode_of_station (station_of x)) in
      let l = few in
      let i = after-measured x xs full k.ranged (at-most-front most xs ys k.levels) in
      let same = ap mode_of_station (station-after x xs) ∙ mode-after (station_of x) xs in
      let levels =
      subst (λ (d : Mode). all_at_most (highest_level d) ys ≡ true) (sym same) (at-most-behind most xs ys k.levels) in
      let kept = report-kept x r xs k.ranged k.report-in first-few in
      run-0 (measured_after x xs) (report_after x r xs) ys m n i kept
      (omega arith) levels p q all-few
