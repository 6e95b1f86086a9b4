-- The words that C is told of for the outcome of a run: none with a refusal.
use mathlib.Core.Path.{◌≡◌, ◌∙◌, sym}
use mathlib.Core.List.{List}
use Prim.Native.Nat.{ℕ}
use Rattle.std.proofs.Common.{Result, Ok, Err}
use Rattle.std.specs.Result.{IfOk, result_unwrap_or}
use Rattle.refusals.specs.declared.Refusal.{Refusal}
use Rattle.refusals.specs.Refusals.{number, answer_of}
use Rattle.edges.specs.declared.Report.{Report}
use Rattle.station.specs.declared.Measured.{Measured}
use Rattle.station.proofs.Laws.{number-some}
use Rattle.station_entry.proofs.Answers.{given, given-answer, refused-count}

pub words_given : (x : Measured) (heard sent words : List ℕ) (r : Report) (o : Result ℕ Refusal)
    → answer_of o ≡ (given x heard sent words r).answer → IfOk o (λ n. n ≡ (given x heard sent words r).words)
    → result_unwrap_or o 0 ≡ (given x heard sent words r).words
words_given x heard sent words r (Ok n) a w = w
words_given x heard sent words r (Err e) a w =
    refused-count x heard sent words r (number e) (number-some e) (sym (given-answer x heard sent words r) ∙ sym a)
