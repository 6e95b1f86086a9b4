-- How many characters are taken before the synchronizing code has ended, and that it is a shift code in Baudot, by a
-- model that is told when a burst begins and ends.
use mathlib.Core.Path.{◌≡◌, ◌∙◌, refl, sym, ap, subst}
use mathlib.Core.Bool.{Bool, true, false, cond, true≢false, false≢true}
use mathlib.Core.Logic.{◌⊎◌, inl, inr}
use mathlib.Core.List.{List, [], ◌∷◌, append-nil}
use Prim.Native.Nat.{ℕ, suc, ◌+◌, ◌-◌, ◌<◌, ◌≤◌}
use native.Mathlib.Omega.{arith}
use lib.ListN.{length, take, length-append}
use Rattle.alphabet.specs.declared.Alphabet.{Alphabet}
use Rattle.alphabet.specs.declared.Alphabet.TheVariants.{Baudot}
use Rattle.alphabet.specs.declared.Mode.{Mode}
use Rattle.alphabet.specs.Modes.{alphabet_of}
use Rattle.baudot.specs.declared.Sender.{Sender}
use Rattle.baudot.specs.Sending.{shift_code}
use Rattle.signal.proofs.Lengths.{some-ms}
use Rattle.demand3.specs.Model.{Part, ShiftCode, OnLine, Idle, Sending, Model, Loaded, Did}
use Rattle.demand3.specs.Model.{offered, load_by, one_gone, ended, taken_in}
use Rattle.demand3.specs.Reading.{synchronizes, at_once, most_before, ends_synchronizing, until_synchronized}
use Rattle.demand3.specs.Reading.{synchronizing_code}
use Rattle.demand3.proofs.Told.{Told, offer, ms, did_by, ms_by, told_does}
use Rattle.demand3.proofs.Laws.{OwnFirst, LawsOf, none_first}
use Rattle.demand3.proofs.Views.{Opens, opens, goes_on, Begins, stays, shifts, owns, Closes, closes, keeps}
use Rattle.demand3.proofs.Views.{closed-view, Fine, fine-offered, fine-ms, load_view}

-- in Baudot there is none, or it is a shift code
abbrev ShiftOnly : Mode → List Part → Type 0
ShiftOnly mode code = alphabet_of mode ≡ Baudot → (code ≡ []) ⊎ (code ≡ ShiftCode ∷ [])

abbrev pub ShiftFirst : Mode → List Did → Type 0
ShiftFirst mode ds = ShiftOnly mode (synchronizing_code mode ds)

module _ (mode : Mode) where
  abbrev a : Alphabet
  a = alphabet_of mode

  -- while a synchronizing code is on the line, ms of it are left, and in Baudot it is a shift code; otherwise n
  -- characters more may be taken before one
  abbrev RoomBy : Bool → Part → ℕ → List ℕ → Type 0
  RoomBy true part n xs = (0 < length xs) × (a ≡ Baudot → part ≡ ShiftCode)
  RoomBy false part n xs = most_before a ≤ n

  abbrev pub RoomOn : OnLine → ℕ → Type 0
  RoomOn Idle n = most_before a ≤ n
  RoomOn (Sending part xs) n = RoomBy (synchronizes a part) part n xs

  -- no ms are left: it is no synchronizing code
  none_left : (b : Bool) (part : Part) (n : ℕ) → RoomBy b part n [] → (b ≡ false) × (most_before a ≤ n)
  none_left true part n h = let long = h.0 in absurd (omega arith)
  none_left false part n h = (refl, h)

  -- a ms that ends these parts and leaves this on the line: it ends no synchronizing code, or in Baudot a shift code
  record Gone (parts : List Part) (on : OnLine) (n : ℕ) : Type 0 where
    still : ends_synchronizing mode parts ≡ false → RoomOn on n
    at_last : ends_synchronizing mode parts ≡ true → a ≡ Baudot → parts ≡ ShiftCode ∷ []

  part-gone : (b : Bool) (part : Part) (n x : ℕ) (xs : List ℕ) → synchronizes a part ≡ b → RoomBy b part n (x ∷ xs)
      → Gone (ended (Sending part xs)) (Sending part xs) n
  unfolding ended
  part-gone true part n x [] e h = record {
    still = λ z. absurd (true≢false (sym e ∙ z));
    at_last = λ z t. ap (λ (p : Part). p ∷ []) (h.1 t);
  }
  part-gone true part n x (y ∷ xs) e h =
      record { still = λ z. rw e (omega arith, h.1); at_last = λ z. absurd (false≢true z) }
  part-gone false part n x [] e h =
      record { still = λ z. rw e h; at_last = λ z. absurd (false≢true (sym e ∙ z)) }
  part-gone false part n x (y ∷ xs) e h = record { still = λ z. rw e h; at_last = λ z. absurd (false≢true z) }

  gone-room : (on : OnLine) (n : ℕ) → RoomOn on n → Gone (ended (one_gone on)) (one_gone on) n
  unfolding one_gone ended
  gone-room Idle n h = record { still = λ z. h; at_last = λ z. absurd (false≢true z) }
  gone-room (Sending part []) n h =
      let none = (none_left (synchronizes a part) part n h).0 in
      record { still = λ z. h; at_last = λ z. absurd (false≢true (sym none ∙ z)) }
  gone-room (Sending part (x ∷ xs)) n h = part-gone (synchronizes a part) part n x xs refl h

  closes-room : {on on' : OnLine} (n : ℕ) → Closes on on' → RoomOn on n → RoomOn on' n
  closes-room n (closes {part}) h = (none_left (synchronizes a part) part n h).1
  closes-room n keeps h = h

  module _ (L : LawsOf mode) (later : at_once a ≡ false) where
    opens-room : {on on' : OnLine} (n : ℕ) → Opens mode on on' → RoomOn on n → RoomOn on' n
    opens-room n opens h = rw L.preamble_not h
    opens-room n goes_on h = h

    begins-room : {waiting : List ℕ} {on : OnLine} {s : Sender} {l : Loaded} (n : ℕ) → Begins mode waiting on s l
        → RoomOn on n → (m : ℕ) × (n ≡ length l.taken + m) × RoomOn l.on_line m
    begins-room n stays h = (n, omega arith, h)
    begins-room n (shifts k i) h =
        (n, omega arith, rw (L.shift_synchronizes k i) (some-ms mode (shift_code k), λ t. refl))
    begins-room n (owns part o c cs s w e) h =
        let none = none_left (synchronizes a part) part n h in
        let first : OwnFirst a part = record { later = later; not_opening = o; not_yet = none.0 } in
        let one = L.first_room part first in
        let most = none.1 in
        let never : a ≡ Baudot → ⊥ = λ t. none_first part (subst (λ (a : Alphabet). OwnFirst a part) t first) in
        (n - 1, omega arith, rw (L.own_synchronizes later) (some-ms mode w.code.0, λ t. absurd (never t)))

    -- one ms
    ms-room : (begins ends : Bool) (m : Model) (x n : ℕ) → Fine mode m → RoomOn m.on_line n
        → let d = did_by mode begins m in
        (k : ℕ) × (n ≡ length d.taken + k) × Gone d.ended (ms_by mode begins ends m x).on_line k
    unfolding ms_by did_by
    ms-room begins ends m x n f h =
        let v = load_view mode L begins m f in
        let on = (load_by begins mode m).on_line in
        let b = begins-room n v.2 (opens-room n v.1 h) in
        let gone = gone-room on b.0 b.2 in
        let closed = closed-view mode ends (one_gone on) in
        (b.0, b.1, record { still = λ z. closes-room b.0 closed (gone.still z); at_last = gone.at_last })

    pub bound : (steps : List Told) (m : Model) (n : ℕ) → Fine mode m → RoomOn m.on_line n
        → let ds = told_does mode m steps in
        (length (taken_in (take (until_synchronized mode ds) ds)) ≤ n) × ShiftFirst mode ds
    unfolding told_does offered taken_in until_synchronized synchronizing_code
    bound [] m n f h = (omega arith, λ t. inl refl)
    bound (offer cs ∷ steps) m n f h = bound steps (offered mode cs m) n (fine-offered mode cs m f) h
    bound (ms begins ends x ∷ steps) m n f h =
        let g = ms-room begins ends m x n f h in
        go (ends_synchronizing mode d.ended) g.0 g.1 g.2.at_last
        (λ e. bound steps m' g.0 (fine-ms mode L begins ends m x f) (g.2.still e))
      where
        d : Did
        d = did_by mode begins m

        m' : Model
        m' = ms_by mode begins ends m x

        ds : List Did
        ds = told_does mode m' steps

        go : (b : Bool) (k : ℕ) → n ≡ length d.taken + k
            → (b ≡ true → a ≡ Baudot → d.ended ≡ ShiftCode ∷ [])
            → (b ≡ false → (length (taken_in (take (until_synchronized mode ds) ds)) ≤ k) × ShiftFirst mode ds)
            → (length (taken_in (take (cond b 1 (suc (until_synchronized mode ds))) (d ∷ ds))) ≤ n)
            × ShiftOnly mode (cond b d.ended (synchronizing_code mode ds))
        go true k e last i = (simp append-nil (omega arith), λ t. inr (last refl t))
        go false k e last i = let most = (i refl).0 in (simp length-append (omega arith), (i refl).1)
