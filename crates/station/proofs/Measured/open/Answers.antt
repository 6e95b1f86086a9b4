-- `open` meets its contract.
use Rattle.std.proofs.lemmas.Result.{err_from_is_err_and}
use Rattle.station.specs.Station.{fresh_station}
use Rattle.station.specs.Entries.{open_of}
use Rattle.station.proofs.Laws.{mode-number}
use Rattle.station.proofs.Measured.open.Goals as goal

pub returns-in_err-try_from : goal.returns-in_err-try_from
unfolding open_of fresh_station
returns-in_err-try_from c =
    let p = err_from_is_err_and c.from_residual.result c.from_residual.ensures.1 in
    let e = c.in_err-try_from.ensures in
    record {
      station_after = simp (e.1, c.clear.ensures, c.fresh-self.ensures, c.none-self.ensures);
      answer_value = rw (p.1, p.2) (simp (e.0, e.1));
    }

pub returns : goal.returns
unfolding open_of fresh_station
returns c =
    let m = mode-number _ _ c.in_ok-try_from.ensures in
    record {
      station_after = simp (m, c.clear.ensures, c.fresh-self.ensures, c.none-self.ensures);
      answer_value = simp m;
    }
