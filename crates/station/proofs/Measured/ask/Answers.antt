-- `ask` meets its contract: one law for each answer.
use mathlib.Core.Path.{◌≡◌, ◌∙◌, sym, ap}
use mathlib.Core.Bool.{Bool, true, false}
use mathlib.Core.List.{List, []}
use Prim.Native.Nat.{ℕ, ◌+◌}
use lib.ListN.{length}
use Rattle.std.proofs.Common.{Option, None, Some}
use Rattle.std.specs.Option.{MatchOption, ok_or}
use Rattle.std.specs.Result.{IfOk}
use Rattle.refusals.specs.declared.Refusal.TheVariants.{Full}
use Rattle.refusals.specs.Refusals.{answer_of}
use Rattle.alphabet.specs.declared.Alphabet.{Alphabet}
use Rattle.alphabet.specs.Normal.{all_chars}
use Rattle.queue.specs.Queue.{waiters, queue, room, offered}
use Rattle.station.specs.declared.Station.{Station}
use Rattle.station.specs.declared.Measured.{Measured}
use Rattle.station.specs.Station.{alphabet_of_station, offered_to}
use Rattle.station.specs.Measured.{station_of}
use Rattle.station.specs.Range.{measured_in}
use Rattle.station.specs.Entries.{offer_answer}
use Rattle.alphabet.specs.Modes.{alphabet_of}
use Rattle.station.proofs.Answers.{offer-1, offer-3, offer-4, offer-0}
use Rattle.station.proofs.Measured.ask.Goals as goal

pub returns-then-not-in_range-clause-answer_value : goal.returns-then-not-in_range-clause-answer_value
returns-then-not-in_range-clause-answer_value c =
    sym (offer-1 _ _ (sym c.in_range.ensures ∙ c.if-not-in_range.true))

pub returns-then-not-all_at_most-clause-answer_value : goal.returns-then-not-all_at_most-clause-answer_value
returns-then-not-all_at_most-clause-answer_value c =
    sym (offer-3 _ _ (sym c.in_range.ensures ∙ c.if-not-in_range.false)
    (sym c.all_at_most.ensures ∙ c.if-not-all_at_most.true))

-- whether there is space, and how many wait then
module _ (x : Measured) (text : List ℕ) (i : measured_in x ≡ true) (t : all_chars text ≡ true) where
  abbrev s : Station
  s = station_of x

  abbrev has_room : Alphabet → Bool
  has_room a = room a (queue x.core.waiting []) text

  asked : (a : Alphabet) → a ≡ alphabet_of_station s → (o : Option ℕ)
      → MatchOption o (has_room a ≡ false)
      (λ n. (has_room a ≡ true) × (n ≡ x.core.waiting + length (waiters a text)))
      → (answer_of (ok_or o Full) ≡ offer_answer x text)
      × IfOk (ok_or o Full) (λ n. n ≡ (offered_to s text).core.waiting)
  unfolding room offered_to offered
  asked a e None m = (sym (offer-4 x text i t (rw e at m)), tt)
  asked a e (Some n) m = (sym (offer-0 x text i t (rw e at m.0)), rw e at m.1)

pub returns : goal.returns
returns c =
    let i = sym c.in_range.ensures ∙ c.if-not-in_range.false in
    let t = sym c.all_at_most.ensures ∙ c.if-not-all_at_most.false in
    let a = c.alphabet-a.ensures ∙ ap alphabet_of c.of.ensures in
    let s = asked c.args.self.now c.args.text.now i t c.alphabet-a.result a c.space.result c.space.ensures in
    record { answer_value = rw c.ok_or.ensures.value s.0; waiting_value = rw c.ok_or.ensures.value s.1 }
