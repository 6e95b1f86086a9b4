-- `report_after` meets its contract.
use Rattle.station_entry.proofs.Answers.{all_in-both}
use Rattle.station_entry.proofs.report_after.Goals as goal

pub report_heard-requires : goal.report_heard-requires
report_heard-requires c =
    record {
      by_index = c.only_hears.ensures c.if-only_hears.true;
      report_of = c.requires.report_of;
      heard_len_bound = c.requires.heard_len_bound;
    }

pub returns-then-only_hears : goal.returns-then-only_hears
returns-then-only_hears c = λ i. c.report_heard.ensures (all_in-both _ _ i).0
