-- `keys_level` meets its contract: 70 of each 120 ms are the key's.
use mathlib.Core.Path.{◌∙◌, sym}
use Rattle.alphabet.specs.Dtmf.{keys_of}
use Rattle.signal.proofs.Levels.{keys_on, keys-off}
use borrow.Author.Rules.{rules}
use Rattle.signal.proofs.keys_level.Goals as goal

pub returns-then-at-lt-KEY_ON : goal.returns-then-at-lt-KEY_ON
returns-then-at-lt-KEY_ON c =
    c.key.ensures ∙ sym (keys_on (keys_of c.args.code.0) c.args.at c.if-at-lt-KEY_ON.true)

pub returns-else-at-lt-KEY_ON : goal.returns-else-at-lt-KEY_ON
returns-else-at-lt-KEY_ON c =
    sym (keys-off (keys_of c.args.code.0) c.args.at (search rules))
