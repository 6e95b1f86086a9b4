-- `run` meets its contract: what a refusal leaves, and what success gives.
use mathlib.Core.Path.{◌≡◌, ◌∙◌, sym, ap}
use native.Mathlib.Omega.{arith}
use lib.ListN.{length}
use Rattle.std.proofs.lemmas.Result.{err_from_is_err_and}
use Rattle.lists.proofs.Lists.{at-most-more}
use Rattle.edges.specs.Edges.{no_edge}
use Rattle.edges.proofs.Range.{more_of, none_of, report-is}
use Rattle.station.specs.declared.Station.{Station}
use Rattle.station.specs.Station.{station}
use Rattle.station.specs.Measured.{measured}
use Rattle.station.proofs.Answers.{run-0}
use Rattle.station.proofs.Edged.{measured-in, station-after}
use Rattle.station.proofs.Laws.{number-some}
use Rattle.station.proofs.Reports.{plain-few, waiting-fine}
use Rattle.station_entry.proofs.Answers.{refused, accepted, accepted-count}
use borrow.Author.Rules.{rules}
use Rattle.station_entry.proofs.run.Goals as goal

pub returns-in_err-highest : goal.returns-in_err-highest
returns-in_err-highest c =
    let p = err_from_is_err_and c.from_residual.result c.from_residual.ensures.1 in
    let e = c.in_err-highest.ensures.err in
    let k = refused _ _ _ _ no_edge _ (number-some _) (e no_edge (report-is no_edge (none_of 65_536))) in
    record {
      station_after = k.station-is;
      answer_value = rw (p.1, p.2) k.answer-is;
      words_value = rw p.1 tt;
      sent_after = k.sent_is;
      words_after = k.words_are;
    }

pub run_all-e-requires : goal.run_all-e-requires
run_all-e-requires c =
    let y = c.in_ok-highest.ensures.ok in
    let full : length c.args.station.now.chars ≡ 256 = search rules in
    record {
      chars_value = (measured-in _ y.ranged).0;
      chars_len = full;
      heard_value = y.levels;
      bound_bound = y.low;
      heard_in_bounds = y.sent_fits;
      heard_in_bounds_2 = y.words_fit;
    }

pub edges_after-station-requires : goal.edges_after-station-requires
edges_after-station-requires c =
    let y = c.in_ok-highest.ensures.ok in
    record { report_of = more_of (omega arith) (waiting-fine _ y.ranged); heard_len_bound = y.few }

pub returns : goal.returns
returns c =
    let y = c.in_ok-highest.ensures.ok in
    let x = c.args.station.now in
    let heard = c.args.heard.now in
    let l = at-most-more _ _ _ y.low y.levels in
    let n = plain-few x heard y.ranged y.few in
    let q = report-is no_edge (none_of 65_536) in
    let a = run-0 _ _ _ _ _ y.ranged q y.few l y.sent_fits y.words_fit n in
    let w = c.edges_after-station.ensures x.chars y.ranged l c.run_all-e.ensures.core_value in
    let core = c.run_all-e.ensures.core_value ∙ sym (ap (λ (k : Station). k.core) (station-after x heard)) in
    let chars = c.run_all-e.ensures.chars_after ∙ sym (ap (λ (k : Station). k.chars) (station-after x heard)) in
    let k = accepted _ _ _ _ a y.sent_fits y.words_fit _ (λ j. measured (station (core j) (chars j)) (w j))
    _ c.run_all-e.ensures.sent_after _ c.run_all-e.ensures.words_after in
    record {
      station_after = k.station-is;
      answer_value = k.answer-is;
      words_value = c.run_all-e.ensures.words_value ∙ accepted-count _ _ _ _ a;
      sent_after = k.sent_is;
      words_after = k.words_are;
    }
