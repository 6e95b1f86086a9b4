-- The edges of a line, and a line whose edges are those of another, each displaced on its own.
use Rattle.std.specs.Prelude.{ℕ, suc, ◌+◌, ◌≤◌, cond, List, [], ◌∷◌, ◌≡◌, eqb}
use Rattle.signal.specs.Signal.{quiet}

-- An edge: the number of the first ms behind it, and the level from there on.
pub record Edge : Type 0 where
  pub ms : ℕ
  pub level : ℕ

abbrev pub edge : ℕ → ℕ → Edge
edge ms level = record { ms = ms; level = level }

-- The edges of a list of ms, the first of which has the number `now` and follows a ms of this level: every ms whose
-- level is not that of the ms before it. Between two elements of one level there is none.
unfoldable pub edges : ℕ → ℕ → List ℕ → List Edge
edges now level [] = []
edges now level (x ∷ xs) =
    let later = edges (suc now) x xs in
    cond (eqb x level) later (edge now x ∷ later)

-- The edge f, displaced by up to d ms, early or late, is g: to the same level.
pub record Displaced (d : ℕ) (f g : Edge) : Type 0 where
  pub same_level : g.level ≡ f.level
  pub early : f.ms ≤ g.ms + d
  pub late : g.ms ≤ f.ms + d

-- One for one, each by a displacement of its own: no edge is lost, and none comes in.
abbrev pub EachDisplaced : ℕ → List Edge → List Edge → Type 0
EachDisplaced d [] [] = Unit {0}
EachDisplaced d [] (g ∷ gs) = ⊥
EachDisplaced d (f ∷ fs) [] = ⊥
EachDisplaced d (f ∷ fs) (g ∷ gs) = Displaced d f g × EachDisplaced d fs gs

-- Behind a quiet line, the ms ys are the ms xs with every edge moved by up to d. How long the last level lasts is not
-- asked.
abbrev pub Moved : ℕ → List ℕ → List ℕ → Type 0
Moved d xs ys = EachDisplaced d (edges 0 quiet xs) (edges 0 quiet ys)

-- There are ms that have these edges.
pub record Drawn (fs : List Edge) : Type 0 where
  pub line : List ℕ
  pub edges_are : edges 0 quiet line ≡ fs
