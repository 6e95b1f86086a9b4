-- Which tone reaches its length, by what is heard.
use Rattle.std.specs.Prelude.{ℕ, ◌+◌, Bool, true, cond, ◌&&◌, ◌||◌, List, [], ◌∷◌, eqb, ltb}
use Rattle.calling.specs.Tones.{none, length_of}

-- The ms of h in a row with this one, where n ms of t in a row came before it. Nothing bounds it.
abbrev pub in_arow : ℕ → ℕ → ℕ → ℕ
in_arow t n h = cond (eqb h t) (n + 1) 1

-- This ms of h is not the one in which a tone reaches its length.
abbrev pub too_short : ℕ → ℕ → Bool
too_short h n = eqb h none || ltb n (length_of h)

-- In none of the ms of hs a tone reaches its length, where n ms of t in a row came before them.
unfoldable pub all_short : ℕ → ℕ → List ℕ → Bool
all_short t n [] = true
all_short t n (h ∷ hs) = too_short h (in_arow t n h) && all_short h (in_arow t n h) hs
