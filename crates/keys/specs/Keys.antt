-- Document 01, "Line signal": reading DTMF keys, one ms at a time.
use Rattle.std.specs.Prelude.{ℕ, ◌+◌, ◌-◌, cond, eqb, List}
use Rattle.keys.specs.declared.Keys.{Keys}
use Rattle.keys.specs.declared.KeyRead.{KeyRead}
use Rattle.lists.specs.Steps.{state_after, outputs}
use Rattle.signal.specs.Signal.{quiet}

-- The key that is heard (0: none) and its ms in a row, or the quiet ms that are still needed.
abbrev pub keys_at : ℕ → ℕ → ℕ → Keys
keys_at key ms needed = record { key = key; ms = ms; needed = needed }

-- Fresh needs none.
abbrev pub ready : Keys
ready = keys_at 0 0 0

-- A key counts at its 40th ms in a row.
abbrev pub key_ms : ℕ
key_ms = 40

-- Then 40 quiet ms in a row are needed before the next.
abbrev pub needs : ℕ → Keys
needs n = keys_at 0 0 n

abbrev pub quiet_ms : ℕ
quiet_ms = 40

-- A ms that ends with a key that counts, or with none (0).
abbrev pub counts : Keys → ℕ → KeyRead
counts s key = record { keys = s; key = key }

-- The n-th ms of a key in a row.
abbrev pub nth_ms : ℕ → ℕ → KeyRead
nth_ms key n = cond (eqb n key_ms) (counts (needs quiet_ms) key) (counts (keys_at key n 0) 0)

-- One ms.
unfoldable pub key_step : Keys → ℕ → KeyRead
key_step s heard =
    cond (eqb s.needed 0)
    (cond (eqb heard quiet) (counts ready 0) (nth_ms heard (cond (eqb heard s.key) (s.ms + 1) 1)))
    (counts (needs (cond (eqb heard quiet) (s.needed - 1) quiet_ms)) 0)

-- The reader after the ms heard, and the key that counts in each of them (0: none).
abbrev pub key_next : Keys → ℕ → Keys
key_next s heard = (key_step s heard).keys

abbrev pub key_counts : Keys → ℕ → ℕ
key_counts s heard = (key_step s heard).key

abbrev pub keys_after : Keys → List ℕ → Keys
keys_after s xs = state_after key_next s xs

abbrev pub keys_heard : Keys → List ℕ → List ℕ
keys_heard s xs = outputs key_next key_counts s xs
