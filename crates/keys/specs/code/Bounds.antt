-- The bounds that the functions of this crate ask for.
use Rattle.std.specs.Prelude.{ℕ, ◌≤◌, ◌<◌, Bool, not, eqb}
use Rattle.alphabet.specs.declared.Mode.TheVariants.{Dtmf}
use Rattle.alphabet.specs.Modes.{highest_level}
use Rattle.keys.specs.declared.Keys.{Keys}
use Rattle.keys.specs.Keys.{key_ms, quiet_ms}

-- what question 1 asks of keys
pub record KeysIn (k : Keys) : Type 0 where
  pub key_in : k.key ≤ highest_level Dtmf
  pub ms-in : k.ms < key_ms
  pub needed_in : k.needed ≤ quiet_ms

-- a key counts
abbrev pub is_key : ℕ → Bool
is_key k = not (eqb k 0)
