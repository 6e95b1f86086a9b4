-- `offer` meets its contract.
use mathlib.Core.Path.{◌∙◌, refl, sym, ap}
use Rattle.std.proofs.lemmas.Result.{err_from_is_err_and}
use Rattle.station.specs.Station.{offered_to}
use Rattle.station.specs.Entries.{StationAnswered, offer_of}
use Rattle.station.proofs.Answers.{refused-offer}
use Rattle.station.proofs.Kept.{accepted}
use Rattle.station.proofs.Laws.{number-some}
use Rattle.station.proofs.Measured.offer.Goals as goal

pub returns-in_err-waiting : goal.returns-in_err-waiting
returns-in_err-waiting c =
    let p = err_from_is_err_and c.from_residual.result c.from_residual.ensures.1 in
    let e = c.in_err-waiting.ensures.answer_value in
    let g = sym (refused-offer c.args.self.now c.args.text.now (λ z. number-some _ (e ∙ z))) in
    record {
      station_after = ap (λ (k : StationAnswered). k.station) g;
      answer_value = rw (p.1, p.2) (e ∙ ap (λ (k : StationAnswered). k.answer) g);
    }

pub offer-requires : goal.offer-requires
offer-requires c =
    let z = sym c.in_ok-waiting.ensures.answer_value in
    simp (c.alphabet-a.ensures, c.of.ensures) (accepted c.args.self.now _ z).1.space

pub returns : goal.returns
unfolding offer_of offered_to
returns c =
    let z = sym c.in_ok-waiting.ensures.answer_value in
    record {
      station_after = simp (
        z,
        c.in_ok-waiting.ensures.waiting_value,
        c.reader_offered-self.ensures,
        c.offer.ensures,
        c.alphabet-a.ensures,
        c.of.ensures,
      ) refl;
      answer_value = simp z refl;
    }
