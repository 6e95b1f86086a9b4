use mathlib.Core.Path.{◌≡◌, ◌∙◌, refl, sym, subst}
use mathlib.Core.List.{List, ◌++◌}
use Prim.Native.Nat.{ℕ, ◌+◌, ◌<◌}
use native.Mathlib.Omega.{arith}
use lib.ListN.{length, get_or, length-append}
use Rattle.alphabet.specs.declared.Alphabet.{Alphabet}
use Rattle.alphabet.specs.Modes.{alphabet_of}
use Rattle.alphabet.specs.Normal.{sends}
use Rattle.burst.specs.Line.{idle}
use Rattle.burst.specs.code.Bounds.{SendsIn}
use Rattle.burst.specs.code.Next.{next_for, whole}
use Rattle.burst.proofs.Range.{sends-in}
use Rattle.preview.proofs.Turns.{Turned, turned, within, counted, char-low}
use borrow.Author.Rules.{rules}
use Rattle.preview.proofs.codes.Goals as goal

pub loop-i-init : goal.loop-i-init
loop-i-init c =
    record { sender-in = c.requires.sender_in; place_in = omega arith; all = refl }

pub char_at-requires : goal.char_at-requires
char_at-requires c = c.loop-i-test.true

pub lookup-sends-requires : goal.lookup-sends-requires
lookup-sends-requires c =
    let cs : List ℕ = c.args.own.now ++ c.args.text.now in
    let inside : c.loop-i.i < length cs = let h = c.loop-i-test.true in
    let e = length-append c.args.own.now c.args.text.now in omega arith in
    let low : c.char_at.result.0 < 128 = subst (λ (x : ℕ). x < 128) (sym c.char_at.ensures)
    (char-low _ _ _ c.requires.text_value _ _ _ c.loop-i.invariant inside) in
    low

pub whole_code-next-requires : goal.whole_code-next-requires
whole_code-next-requires c =
    let cs : List ℕ = c.args.own.now ++ c.args.text.now in
    let inside : c.loop-i.i < length cs = let h = c.loop-i-test.true in
    let e = length-append c.args.own.now c.args.text.now in omega arith in
    let low : c.char_at.result.0 < 128 = subst (λ (x : ℕ). x < 128) (sym c.char_at.ensures)
    (char-low _ _ _ c.requires.text_value _ _ _ c.loop-i.invariant inside) in
    record {
      sender_in = c.loop-i.invariant.sender-in;
      sends_in =
          subst (SendsIn _) (sym c.lookup-sends.ensures) (sends-in _ _ low);
    }

pub overflow_add-ms : goal.overflow_add-ms
overflow_add-ms c =
    let cs : List ℕ = c.args.own.now ++ c.args.text.now in
    let inside : c.loop-i.i < length cs = let h = c.loop-i-test.true in
    let e = length-append c.args.own.now c.args.text.now in omega arith in
    let a : Alphabet = alphabet_of c.args.mode in
    let alphabet-is : c.args.a ≡ a = c.requires.a_value in
    let sends-is : c.lookup-sends.result ≡ sends a (get_or cs c.loop-i.i 0) = c.lookup-sends.ensures
    ∙ (λ j. sends (alphabet-is j) (c.char_at.ensures j)) in
    let code_is : c.whole_code-next.result ≡ whole c.args.mode
    (next_for a idle c.loop-i.sender c.lookup-sends.result) = c.whole_code-next.ensures
    ∙ (λ j. whole c.args.mode (next_for (alphabet-is j) (c.idle.ensures j) c.loop-i.sender
    c.lookup-sends.result)) in
    let w = within _ _ _ c.requires.text_value _ _ _ c.loop-i.invariant inside _ sends-is _
    code_is _ c.code_ms.ensures in
    omega arith

pub place_after-i-requires : goal.place_after-i-requires
place_after-i-requires c =
    let h = c.loop-i-test.true in
    let f : length c.args.own.now + length c.args.text.now < 18_446_744_073_709_551_616 = search rules in
    omega arith

pub loop-i-smaller : goal.loop-i-smaller
loop-i-smaller c =
    let cs : List ℕ = c.args.own.now ++ c.args.text.now in
    let inside : c.loop-i.i < length cs = let h = c.loop-i-test.true in
    let e = length-append c.args.own.now c.args.text.now in omega arith in
    let a : Alphabet = alphabet_of c.args.mode in
    let alphabet-is : c.args.a ≡ a = c.requires.a_value in
    let sends-is : c.lookup-sends.result ≡ sends a (get_or cs c.loop-i.i 0) = c.lookup-sends.ensures
    ∙ (λ j. sends (alphabet-is j) (c.char_at.ensures j)) in
    let code_is : c.whole_code-next.result ≡ whole c.args.mode
    (next_for a idle c.loop-i.sender c.lookup-sends.result) = c.whole_code-next.ensures
    ∙ (λ j. whole c.args.mode (next_for (alphabet-is j) (c.idle.ensures j) c.loop-i.sender
    c.lookup-sends.result)) in
    let turns : Turned _ _ _ c.requires.text_value _ _ _ c.loop-i.invariant inside _ sends-is _ code_is _
    c.code_ms.ensures c.place_after-i.result = turned _ _ _ c.requires.text_value _ _ _ c.loop-i.invariant inside _
    sends-is _ code_is _ c.code_ms.ensures _ c.place_after-i.ensures in
    turns.less

pub loop-i-preserved : goal.loop-i-preserved
loop-i-preserved c =
    let cs : List ℕ = c.args.own.now ++ c.args.text.now in
    let inside : c.loop-i.i < length cs = let h = c.loop-i-test.true in
    let e = length-append c.args.own.now c.args.text.now in omega arith in
    let a : Alphabet = alphabet_of c.args.mode in
    let alphabet-is : c.args.a ≡ a = c.requires.a_value in
    let sends-is : c.lookup-sends.result ≡ sends a (get_or cs c.loop-i.i 0) = c.lookup-sends.ensures
    ∙ (λ j. sends (alphabet-is j) (c.char_at.ensures j)) in
    let code_is : c.whole_code-next.result ≡ whole c.args.mode
    (next_for a idle c.loop-i.sender c.lookup-sends.result) = c.whole_code-next.ensures
    ∙ (λ j. whole c.args.mode (next_for (alphabet-is j) (c.idle.ensures j) c.loop-i.sender
    c.lookup-sends.result)) in
    let turns : Turned _ _ _ c.requires.text_value _ _ _ c.loop-i.invariant inside _ sends-is _ code_is _
    c.code_ms.ensures c.place_after-i.result = turned _ _ _ c.requires.text_value _ _ _ c.loop-i.invariant inside _
    sends-is _ code_is _ c.code_ms.ensures _ c.place_after-i.ensures in
    turns.counts

pub returns : goal.returns
returns c =
    let h = c.loop-i-test.false in
    let e = length-append c.args.own.now c.args.text.now in
    counted _ _ _ _ _ _ c.loop-i.invariant (omega arith)
