-- `dtmf::entry` meets its contract: the table is what the definition gives at each place.
use Rattle.lists.specs.Tables.{tabulate}
use Rattle.lists.proofs.Tables.{tabulate-at}
use Rattle.alphabet.specs.Print.{keys}
use Rattle.alphabet.specs.Dtmf.{prefixes}
use Rattle.alphabet.specs.code.Packing.{key_at}
use Rattle.alphabet.proofs.dtmf.entry.Goals as goal

pub returns : goal.returns
unfolding tabulate key_at keys prefixes
returns c = tabulate-at key_at 0 64 c.args.at c.requires
