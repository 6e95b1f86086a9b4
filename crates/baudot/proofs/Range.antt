-- Question 1 of a sender in facts.
use mathlib.Core.Path.{◌≡◌, refl}
use mathlib.Core.Bool.{true}
use lib.Dec.{leb}
use borrow.Author.Tests.{leb-true, le-leb}
use Rattle.lists.proofs.Lists.{and_left, and_right}
use Rattle.baudot.specs.declared.Sender.{Sender}
use Rattle.baudot.specs.Sending.{in_range}
use Rattle.baudot.specs.code.Bounds.{SenderIn}

pub sender-in : (s : Sender) → in_range s ≡ true → SenderIn s
sender-in s e =
    let a = leb s.shift 2 in
    let b = leb s.count 72 in
    record { shift_in = leb-true s.shift 2 (and_left a b e); count_in = leb-true s.count 72 (and_right a b e) }

pub sender-is : (s : Sender) → SenderIn s → in_range s ≡ true
sender-is s h = rw (le-leb s.shift 2 h.shift_in, le-leb s.count 72 h.count_in) refl
