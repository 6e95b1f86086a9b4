-- A text that is sent in two calls, each from the sender that the last one reached, gives the codes of one call.
use mathlib.Core.Path.{◌≡◌, ◌∙◌, refl, sym, ap}
use mathlib.Core.List.{List, [], ◌∷◌, ◌++◌, append_assoc}
use Prim.Native.Nat.{ℕ}
use Rattle.alphabet.specs.declared.Alphabet.TheVariants.{Baudot}
use Rattle.alphabet.specs.Normal.{sends}
use Rattle.baudot.specs.declared.Sender.{Sender}
use Rattle.baudot.specs.Sending.{codes_for, sender_for, codes_of, sender_after}

pub codes-append : (s : Sender) (xs ys : List ℕ) → codes_of s (xs ++ ys) ≡ codes_of s xs
    ++ codes_of (sender_after s xs) ys
unfolding codes_of sender_after
codes-append s [] ys = refl
codes-append s (x ∷ xs) ys =
    let t = sender_for s (sends Baudot x) in
    let k = codes_for s (sends Baudot x) in
    ap (λ (l : List ℕ). k ++ l) (codes-append t xs ys)
    ∙ sym (append_assoc k (codes_of t xs) (codes_of (sender_after t xs) ys))

pub sender-append : (s : Sender) (xs ys : List ℕ) → sender_after s (xs ++ ys) ≡ sender_after (sender_after s xs) ys
unfolding sender_after
sender-append s [] ys = refl
sender-append s (x ∷ xs) ys = sender-append (sender_for s (sends Baudot x)) xs ys
