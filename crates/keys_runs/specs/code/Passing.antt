-- Ms of keys in which none counts.
use Rattle.std.specs.Prelude.{ℕ, zero, suc, ◌+◌, ◌≤◌, ◌<◌, ◌≡◌, true, cond, List, eqb, length, get_or}
use Rattle.lists.specs.Lists.{all_at_most}
use Rattle.lists.specs.code.Places.{Through}
use Rattle.lists.specs.code.Passing.{Passes}
use Rattle.signal.specs.Signal.{quiet}
use Rattle.keys.specs.declared.Keys.{Keys}
use Rattle.keys.specs.Keys.{keys_at, quiet_ms, key_next, key_counts}
use Rattle.keys.specs.code.Bounds.{KeysIn, is_key}
use Rattle.keys_runs.specs.declared.levels.Keyed.{Keyed}

abbrev pub keys_of : Keyed → Keys
keys_of k = keys_at k.key k.ms k.needed

-- From a place to another, some keys are then others.
abbrev pub KeysPass : List ℕ → Keys → ℕ → Keys → ℕ → Type 0
KeysPass heard s i t to = Passes key_next key_counts is_key KeysIn heard s i t to

abbrev pub KeyPasses : List ℕ → Keyed → Keyed → Type 0
KeyPasses heard k q = KeysPass heard (keys_of k) k.to (keys_of q) q.to

-- The same in any list in which a level stands up to the end.
abbrev pub HeldPasses : Keyed → ℕ → ℕ → Keyed → Type 0
HeldPasses k level end q =
    (heard : List ℕ) → all_at_most 16 heard ≡ true → end ≤ length heard → Through heard k.to end level end
    → KeyPasses heard k q

-- The ms in a row of a level, so far.
abbrev pub row_of : Keys → ℕ → ℕ
row_of k level = cond (eqb level k.key) k.ms 0

-- Up to a place, a reader that needs all quiet ms hears none.
pub record QuietFrom (heard : List ℕ) (needed i to : ℕ) : Type 0 where
  pub low : i ≤ to
  pub high : to ≤ length heard
  pub still : i < to → needed ≡ quiet_ms
  pub others : (k : ℕ) → i ≤ k → k < to → get_or heard k 0 ≡ quiet → ⊥

-- The ms in a row of what is heard, if no quiet is needed: 0 for quiet.
unfoldable pub ms_next : ℕ → ℕ → ℕ → ℕ
ms_next key ms heard = cond (eqb heard quiet) 0 (cond (eqb heard key) (ms + 1) 1)

-- The key heard after some ms from a place on, and its ms in a row.
unfoldable pub key_after : List ℕ → ℕ → ℕ → ℕ → ℕ
key_after heard to key zero = key
key_after heard to key (suc k) = get_or heard (to + k) 0

unfoldable pub ms_after : List ℕ → ℕ → ℕ → ℕ → ℕ → ℕ
ms_after heard to key ms zero = ms
ms_after heard to key ms (suc k) = ms_next (key_after heard to key k) (ms_after heard to key ms k)
    (get_or heard (to + k) 0)
