-- Edges that wait, told by the place of their frame before and after some ms.
use Rattle.std.specs.Prelude.{ℕ, ◌+◌, ◌-◌, ◌≤◌, ◌<◌, ◌≡◌, List, [], ◌∷◌, length}
use Rattle.edges.specs.declared.Edges.{Edges}
use Rattle.edges.specs.Edges.{no_edges, with_ms}
use Rattle.edges.specs.code.Bounds.{ReportOf}

-- One ms takes the place p with the edges w to the place q with the edges v: the frame is dropped, begins, or goes on.
pub data OneMs (e p : ℕ) (w : Edges) (x q : ℕ) (v : Edges) : Type 0 where
  Falls : q < 2 → v ≡ no_edges → OneMs e p w x q v
  Begins : p ≡ 0 → w ≡ no_edges → q ≡ 2 → v ≡ with_ms e 0 no_edges x → OneMs e p w x q v
  On : 2 ≤ p → q ≡ p + 1 → v ≡ with_ms e (p - 1) w x → OneMs e p w x q v

-- Some ms, one after the other.
unfoldable pub Goes : ℕ → ℕ → Edges → List ℕ → ℕ → Edges → Type 0
Goes e p w [] p' w' = (p ≡ p') × (w ≡ w')
Goes e p w (x ∷ xs) p' w' = (q : ℕ) × (v : Edges) × OneMs e p w x q v × Goes e q v xs p' w'

-- Ms that may be added to the edges of a frame of elements of e ms; the first of them is ms m of the frame.
pub record SliceOf (e m : ℕ) (w : Edges) (heard : List ℕ) : Type 0 where
  pub some : 1 ≤ e
  pub few : e ≤ 22
  pub place : m ≤ 255
  pub short : length heard ≤ 4_096
  pub report : ReportOf 900_000 w.seen
