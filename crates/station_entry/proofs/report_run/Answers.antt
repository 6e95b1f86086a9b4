-- `report_run` meets its contract.
use mathlib.Core.Path.{◌≡◌, ◌∙◌, sym, subst}
use mathlib.Core.Bool.{false≢true}
use lib.ListN.{length}
use Rattle.station_entry.proofs.Answers.{all_in-both}
use borrow.Author.Rules.{rules}
use Rattle.station_entry.proofs.report_run.Goals as goal

pub returns-else-all_in_range : goal.returns-else-all_in_range
returns-else-all_in_range c =
    λ i. absurd (false≢true (sym c.if-all_in_range.false ∙ c.all_in_range.ensures ∙ i))

pub report_after-requires : goal.report_after-requires
report_after-requires c =
    let i = all_in-both _ _ (sym c.all_in_range.ensures ∙ c.if-all_in_range.true) in
    let full : length c.args.station.now.chars ≡ 256 = search rules in
    record {
      w_value = i.0;
      chars_len = full;
      report_of = c.requires.report_of;
      heard_len_bound = c.requires.heard_len_bound;
      heard_value = i.1;
    }

pub returns-then-all_in_range : goal.returns-then-all_in_range
returns-then-all_in_range c = λ i. c.report_after.ensures
