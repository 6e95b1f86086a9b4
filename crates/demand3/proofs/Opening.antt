-- A burst of the send model begins only with characters waiting, and its preamble takes none: it ends with a code, as
-- document 01 says.
use Rattle.std.specs.Prelude.{Option, Some, None}
use Rattle.alphabet.specs.declared.CharCode.{CharCode}
use mathlib.Core.Path.{◌≡◌, refl}
use mathlib.Core.Bool.{Bool, true, false}
use mathlib.Core.List.{List, [], ◌∷◌, ◌++◌}
use Prim.Native.Nat.{ℕ, ◌≤◌}
use native.Mathlib.Omega.{arith}
use lib.Dec.{eqb, leb, ltb}
use lib.ListN.{length, length-append}
use borrow.Author.Tests.{ltb-true, ne_eqb}
use Rattle.lists.proofs.Lists.{either, and_left}
use Rattle.alphabet.specs.declared.Mode.{Mode}
use Rattle.alphabet.specs.Modes.{alphabet_of}
use Rattle.alphabet.specs.Normal.{sends}
use Rattle.baudot.specs.declared.Sender.{Sender}
use Rattle.burst.specs.Rules.{free_ms, may_begin, may_end, opening_shift, shift_wanted}
use Rattle.queue.specs.Queue.{waiters}
use Rattle.demand3.specs.Model.{Part, Preamble, ShiftCode, OwnCode, OnLine, Idle, Sending, Model, Loaded}
use Rattle.demand3.specs.Model.{Step, Offer, Ms, fresh_model, offered, begun, own_begins, shift_begins, code_begins}
use Rattle.demand3.specs.Model.{front_begins, is_opening, next_code, one_gone, ended, begins_in, load, ends_in, did}
use Rattle.demand3.specs.Model.{ms_after, model_after}
use Rattle.demand3.proofs.Views.{Closes, closes, keeps, closed-view}

-- in a preamble some wait
Opening : OnLine → List ℕ → Type 0
Opening Idle ws = Unit {0}
Opening (Sending Preamble left) ws = 1 ≤ length ws
Opening (Sending ShiftCode left) ws = Unit {0}
Opening (Sending OwnCode left) ws = Unit {0}

any_left : (part : Part) (xs ys ws : List ℕ) → Opening (Sending part xs) ws → Opening (Sending part ys) ws
unfolding Opening
any_left Preamble xs ys ws h = h
any_left ShiftCode xs ys ws h = tt
any_left OwnCode xs ys ws h = tt

begun-opening : (mode : Mode) (on : OnLine) (ws : List ℕ) (silence : ℕ) → Opening on ws
    → Opening (begun mode (may_begin (length ws) silence) on) ws
unfolding Opening begun may_begin
begun-opening mode (Sending part left) ws silence h = h
begun-opening mode Idle ws silence h = go (may_begin (length ws) silence) refl
  where
    go : (b : Bool) → may_begin (length ws) silence ≡ b → Opening (begun mode b Idle) ws
    go true e =
        let l = ltb-true 0 (length ws) (and_left (ltb 0 (length ws)) (leb free_ms silence) e) in
        omega arith
    go false e = tt

abbrev OpeningBy : Loaded → Type 0
OpeningBy l = Opening l.on_line l.waiting

code-opening : (mode : Mode) (c : ℕ) (cs : List ℕ) (s : Sender) (x : Option CharCode)
    → OpeningBy (code_begins mode c cs s x)
unfolding Opening code_begins
code-opening mode c cs s None = tt
code-opening mode c cs s (Some o) =
    let w = shift_wanted (alphabet_of mode) s o.shift in
    either OpeningBy (eqb w 0) (own_begins mode c cs s o.code) (shift_begins mode (c ∷ cs) w) tt tt

front-opening : (mode : Mode) (ws : List ℕ) (part : Part) (s : Sender) → Opening (Sending part []) ws
    → OpeningBy (front_begins mode ws part s)
front-opening mode [] part s h = h
front-opening mode (c ∷ cs) part s h = code-opening mode c cs s (sends (alphabet_of mode) c)

next-opening : (mode : Mode) (ws : List ℕ) (on : OnLine) (s : Sender) → Opening on ws
    → OpeningBy (next_code mode ws on s)
unfolding Opening next_code
next-opening mode ws Idle s h = h
next-opening mode ws (Sending part (x ∷ left)) s h = h
next-opening mode ws (Sending part []) s h =
    let opens = shift_begins mode ws (opening_shift s) in
    either OpeningBy (is_opening (alphabet_of mode) part) opens (front_begins mode ws part s) tt
    (front-opening mode ws part s h)

gone-opening : (on : OnLine) (ws : List ℕ) → Opening on ws → Opening (one_gone on) ws
unfolding one_gone
gone-opening Idle ws h = h
gone-opening (Sending part []) ws h = h
gone-opening (Sending part (x ∷ left)) ws h = any_left part (x ∷ left) left ws h

closes-opening : {on on' : OnLine} (ws : List ℕ) → Closes on on' → Opening on ws → Opening on' ws
unfolding Opening
closes-opening ws closes h = tt
closes-opening ws keeps h = h

append-opening : (on : OnLine) (ws vs : List ℕ) → Opening on ws → Opening on (ws ++ vs)
unfolding Opening
append-opening Idle ws vs h = tt
append-opening (Sending Preamble left) ws vs h = let n = length-append ws vs in omega arith
append-opening (Sending ShiftCode left) ws vs h = tt
append-opening (Sending OwnCode left) ws vs h = tt

abbrev OpeningIn : Model → Type 0
OpeningIn m = Opening m.on_line m.waiting

module _ (mode : Mode) where
  load-opening : (m : Model) → OpeningIn m → OpeningBy (load mode m)
  unfolding load
  load-opening m h =
      next-opening mode m.waiting (begun mode (begins_in m) m.on_line) m.sender
      (begun-opening mode m.on_line m.waiting m.silence h)

  opening : (steps : List Step) (m : Model) → OpeningIn m → OpeningIn (model_after mode m steps)
  unfolding model_after offered ms_after
  opening [] m h = h
  opening (Offer cs ∷ steps) m h =
      opening steps (offered mode cs m) (append-opening m.on_line m.waiting (waiters (alphabet_of mode) cs) h)
  opening (Ms heard ∷ steps) m h =
      let l = load mode m in
      opening steps (ms_after mode m heard)
      (closes-opening l.waiting (closed-view mode (ends_in mode m) (one_gone l.on_line))
      (gone-opening l.on_line l.waiting (load-opening m h)))

  -- after any steps, no burst ends with the last ms of a preamble
  pub preamble-waits : (steps : List Step) → let m = model_after mode fresh_model steps in
      (did mode m).ended ≡ Preamble ∷ [] → ends_in mode m ≡ false
  unfolding did Opening may_end one_gone ended
  preamble-waits steps = go (load mode m).on_line (load-opening m (opening steps fresh_model start))
    where
      m : Model
      m = model_after mode fresh_model steps

      start : OpeningIn fresh_model
      start = tt

      waits : List ℕ
      waits = (load mode m).waiting

      some : 1 ≤ length waits → may_end (length waits) ≡ false
      some h = ne_eqb (length waits) 0 (λ (e : length waits ≡ 0). omega arith)

      -- the part on the line
      go : (on : OnLine) → Opening on waits → ended (one_gone on) ≡ Preamble ∷ [] → may_end (length waits) ≡ false
      go Idle h e = cc
      go (Sending Preamble left) h e = some h
      go (Sending ShiftCode []) h e = cc
      go (Sending ShiftCode (x ∷ [])) h e = cc
      go (Sending ShiftCode (x ∷ y ∷ left)) h e = cc
      go (Sending OwnCode []) h e = cc
      go (Sending OwnCode (x ∷ [])) h e = cc
      go (Sending OwnCode (x ∷ y ∷ left)) h e = cc
