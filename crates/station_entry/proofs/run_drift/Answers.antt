-- `run_drift` meets its contract: the count refuses, the run refuses, the run succeeds.
use mathlib.Core.Path.{◌≡◌, ◌∙◌}
use Rattle.std.proofs.lemmas.Result.{err_from_is_err_and}
use Rattle.edges.specs.Edges.{no_edge}
use Rattle.station.proofs.Laws.{number-some}
use Rattle.station_entry.proofs.Answers.{Leaves, refused, refused-report, drifts-refused, drifts-done}
use Rattle.station_entry.proofs.run_drift.Goals as goal

pub returns-in_err-counted : goal.returns-in_err-counted
returns-in_err-counted c =
    let p = err_from_is_err_and c.from_residual.result c.from_residual.ensures.1 in
    let some = number-some _ in
    let e = c.in_err-counted.ensures.err.refuses some in
    let k = refused _ _ _ _ _ _ some e in
    record {
      station_after = k.station-is;
      report_after = refused-report c.args.station.now _ _ _ _ _ some e;
      answer_value = rw (p.1, p.2) k.answer-is;
      words_value = rw p.1 tt;
      sent_after = k.sent_is;
      words_after = k.words_are;
    }

pub returns-in_err-n : goal.returns-in_err-n
returns-in_err-n c =
    let p = err_from_is_err_and c.from_residual-in_err-n.result c.from_residual-in_err-n.ensures.1 in
    let e = c.in_err-n.ensures in
    let plain : Leaves c.args.station.now c.args.heard.now c.args.sent.now c.args.words.now no_edge _
    c.run.new.station c.run.new.sent c.run.new.words
    = record {
      answer-is = e.answer_value;
      station-is = e.station_after;
      sent_is = e.sent_after;
      words_are = e.words_after;
    } in
    let k = drifts-refused _ _ _ _ c.args.report.now _ c.in_ok-counted.ensures.ok _ (number-some _) plain in
    record {
      station_after = k.0.station-is;
      report_after = k.1;
      answer_value = rw (p.1, p.2) k.0.answer-is;
      words_value = rw p.1 tt;
      sent_after = k.0.sent_is;
      words_after = k.0.words_are;
    }

pub returns : goal.returns
returns c =
    let e = c.in_ok-n.ensures in
    let plain : Leaves c.args.station.now c.args.heard.now c.args.sent.now c.args.words.now no_edge 0
    c.run.new.station c.run.new.sent c.run.new.words
    = record {
      answer-is = e.answer_value;
      station-is = e.station_after;
      sent_is = e.sent_after;
      words_are = e.words_after;
    } in
    let k = drifts-done _ _ _ _ c.args.report.now _ c.in_ok-counted.ensures.ok plain in
    record {
      station_after = k.0.0.station-is;
      report_after = k.0.1;
      answer_value = k.0.0.answer-is;
      words_value = e.words_value ∙ k.1;
      sent_after = k.0.0.sent_is;
      words_after = k.0.0.words_are;
    }
