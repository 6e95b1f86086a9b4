use mathlib.Core.Path.{sym, subst}
use Rattle.alphabet.specs.declared.Mode.TheVariants.{Dtmf}
use Rattle.reader_runs.specs.code.Skipping.{Skips}
use Rattle.reader_runs.proofs.Skipping.{keys-skip}
use Rattle.reader_runs.proofs.skip_keys.Goals as goal

pub returns : goal.returns
returns c =
    subst (Skips Dtmf c.args.levels.heard.now c.args.r c.args.i) (sym c.with_keys.ensures)
    (keys-skip _ c.args.r c.requires.reader_in _ _ _ c.pass_keys.ensures)
