-- Places of a list.
use Rattle.std.specs.Prelude.{ℕ, ◌+◌, ◌*◌, ◌≤◌, ◌<◌, ◌≡◌, List, length, get_or}

-- So many places on, at most up to the end.
pub record UpTo (i most len to : ℕ) : Type 0 where
  pub low : i ≤ to
  pub high : to ≤ len
  pub few : to ≤ i + most
  pub full : to < len → to ≡ i + most
  pub on : 1 ≤ most → i < len → i < to

-- All are alike.
pub record Alike (xs : List ℕ) : Type 0 where
  pub same : (j k : ℕ) → j < length xs → k < length xs → get_or xs j 0 ≡ get_or xs k 0

-- Up to a place, a number does not stand; up to a place, no other does.
pub record Until (xs : List ℕ) (from end x to : ℕ) : Type 0 where
  pub low : from ≤ to
  pub high : to ≤ end
  pub others : (k : ℕ) → from ≤ k → k < to → get_or xs k 0 ≡ x → ⊥

pub record Through (xs : List ℕ) (from end x to : ℕ) : Type 0 where
  pub low : from ≤ to
  pub high : to ≤ end
  pub same : (k : ℕ) → from ≤ k → k < to → get_or xs k 0 ≡ x

-- From a place on, no other number stands; before it, one does.
pub record Back (xs : List ℕ) (from end x to : ℕ) : Type 0 where
  pub low : from ≤ to
  pub high : to ≤ end
  pub same : (k : ℕ) → to ≤ k → k < end → get_or xs k 0 ≡ x
  pub other : (k : ℕ) → from ≤ k → k + 1 ≡ to → get_or xs k 0 ≡ x → ⊥

-- Two, four and eight bytes of a list as one number, the first lowest.
abbrev pub two_at : List ℕ → ℕ → ℕ
two_at xs i = get_or xs i 0 + get_or xs (i + 1) 0 * 256

abbrev pub four_at : List ℕ → ℕ → ℕ
four_at xs i = two_at xs i + two_at xs (i + 2) * 65_536

abbrev pub eight_at : List ℕ → ℕ → ℕ
eight_at xs i = four_at xs i + four_at xs (i + 4) * 4_294_967_296
