-- The bounds that the functions of this crate ask for.
use Rattle.std.specs.Prelude.{ℕ, ◌*◌, ◌-◌, ◌≤◌, ◌<◌, ◌≡◌, true, false, nat_abs}
use Rattle.alphabet.specs.declared.Mode.{Mode}
use Rattle.frames.specs.declared.Frame.{Frame}
use Rattle.edges.specs.declared.Report.{Report}
use Rattle.edges.specs.declared.Edges.{Edges}
use Rattle.edges.specs.Edges.{no_edge, no_edges, is_measured}

-- a report of at most n edges, each displaced by at most 11
pub record ReportOf (n : ℕ) (r : Report) : Type 0 where
  pub few : r.edges ≤ n
  pub sum_in : nat_abs r.sum ≤ 11 * r.edges
  pub smallest_in : nat_abs r.smallest ≤ 11
  pub largest_in : nat_abs r.largest ≤ 11
  pub none : r.edges ≡ 0 → r ≡ no_edge

-- what question 1 asks of the edges that wait, in facts: fewer than the ms of the frame so far; none outside a frame
-- that is measured
pub record EdgesOf (mode : Mode) (f : Frame) (w : Edges) : Type 0 where
  pub waiting : is_measured mode ≡ true → 2 ≤ f.place → ReportOf (f.place - 1 - 1) w.seen
  pub level_in : w.level ≤ 2
  pub outside : f.place < 2 → w ≡ no_edges
  pub unmeasured : is_measured mode ≡ false → w ≡ no_edges
