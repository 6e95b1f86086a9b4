-- What a reader makes of the parts of a burst, as laws of a mode, and the four modes' laws.
use Rattle.std.specs.Prelude.{Option}
use Rattle.alphabet.specs.declared.CharCode.{CharCode}
use Rattle.alphabet.specs.Codes.{char_code}
use mathlib.Core.Path.{◌≡◌, ◌∙◌, refl, sym, ap, subst}
use mathlib.Core.Bool.{true, false, true≢false, false≢true}
use mathlib.Core.Logic.{◌⊎◌, inl, inr, ⊎_elim}
use mathlib.Core.List.{List, [], ◌∷◌, ◌++◌, append-nil}
use Prim.Native.Nat.{ℕ, ◌<◌, ◌≤◌}
use native.Mathlib.Omega.{arith}
use lib.Dec.{eqb}
use lib.ListN.{replicate}
use borrow.Author.Tests.{eqb-true, eq-eqb, le-leb}
use Rattle.lists.specs.Lists.{all_at_most}
use Rattle.lists.specs.Steps.{state_after, outputs}
use Rattle.alphabet.specs.declared.Alphabet.{Alphabet}
use Rattle.alphabet.specs.declared.Alphabet.TheVariants.{Baudot, Dtmf as dtmf, Edt as edt}
use Rattle.alphabet.specs.declared.LineCode.{LineCode}
use Rattle.alphabet.specs.declared.Mode.{Mode}
use Rattle.alphabet.specs.declared.Mode.TheVariants.{Baudot45, Baudot50, Dtmf, Edt}
use Rattle.alphabet.specs.declared.Reads.TheVariants.{Character}
use Rattle.alphabet.specs.Dtmf.{keys_of, read_dtmf}
use Rattle.alphabet.specs.Modes.{preamble_of, alphabet_of, codes}
use Rattle.alphabet.specs.Normal.{sends, reads, chars_of, read_back, normal, normal_form}
use Rattle.alphabet_theorems.proofs.Rule.{ReadBack, rule-of}
use Rattle.alphabet_theorems.proofs.Normal.{own-shift, normal-code}
use Rattle.baudot.specs.declared.Sender.{Sender}
use Rattle.baudot.specs.Sending.{sender, wanted, shift_code, counted, codes_for, sender_for, codes_of, sender_after}
use Rattle.baudot.specs.Sending.{Running}
use Rattle.baudot.specs.Reading.{shift_by, text_of, shift_after}
use Rattle.baudot.proofs.SendingRule.{NoneAhead, ahead, codes-none, sender-none}
use Rattle.baudot_theorems.proofs.RoundTrip.{reads-shift-code, round-trip-running, shift-follows}
use Rattle.frames.specs.Frames.{hunting, frame_step}
use Rattle.keys.specs.declared.Keys.{Keys}
use Rattle.keys.specs.Keys.{ready, key_step}
use Rattle.reader.specs.declared.Reader.{Reader}
use Rattle.reader.specs.declared.Reading.{Reading}
use Rattle.reader.specs.Reader.{reader, event_of, hear_frame, hear, key_event, prefix_after}
use Rattle.reader.specs.Words.{word_of, words_of, reader_after, words}
use Rattle.signal.specs.Signal.{signal, signals, preamble}
use Rattle.line_theorems.specs.Silence.{Settled}
use Rattle.line_theorems.proofs.Chain.{Gives, none, marks-pass}
use Rattle.line_theorems.proofs.BaudotChain.{codes-read, code-45, code-50, code-edt}
use Rattle.line_theorems.proofs.DtmfChain.{keys-given, shape-keys, row-shape, row_read}
use Rattle.burst.specs.Rules.{opens_with_shift, opening_shift, shift_wanted, sender_after_own}
use Rattle.burst.proofs.Laws.{opening-some}
use Rattle.burst.proofs.Codes.{code-few}
use Rattle.burst.proofs.Range.{opening-in, shift-code-is}
use Rattle.demand3.specs.Model.{Part, Preamble, ShiftCode, OwnCode, is_opening}
use Rattle.demand3.specs.Reading.{synchronizes, at_once, most_before}

-- a character that can wait: it sends a code
pub record Waits (a : Alphabet) (c : ℕ) : Type 0 where
  pub char-in : c < 128
  pub own : ℕ
  pub code : LineCode
  pub sent : sends a c ≡ char_code own code

-- from the reader r, the ms xs give the words ws and leave a reader of which P holds
pub record Makes (mode : Mode) (r : Reader) (xs ws : List ℕ) (P : Reader → Type 0) : Type 0 where
  pub after : P (reader_after mode r xs)
  pub heard : words mode r xs ≡ ws

makes : (mode : Mode) {r q : Reader} {xs ws : List ℕ} (P : Reader → Type 0) → Gives mode r xs ws q → P q
    → Makes mode r xs ws P
makes mode P g h = record { after = subst P (sym g.after) h; heard = g.heard }

-- a sender that a model can have: in Baudot fresh or running
abbrev pub BaudotSender : Sender → Type 0
BaudotSender s = (s.shift ≡ 0) ⊎ Running s

abbrev pub SenderIn : Alphabet → Sender → Type 0
SenderIn Baudot s = BaudotSender s
SenderIn dtmf s = Unit {0}
SenderIn edt s = Unit {0}

-- A synchronized reader is between codes, and knows what the sender's codes mean: in Baudot it has the shift of a
-- sender that runs, in DTMF no prefix. (`Settled` alone: between codes, with any shift and prefix.)
pub record InShift (s : Sender) (r : Reader) : Type 0 where
  pub hunts : r.frame ≡ hunting
  pub running : Running s
  pub shift_is : r.shift ≡ s.shift

abbrev pub Synchronized : Alphabet → Sender → Reader → Type 0
Synchronized Baudot s r = InShift s r
Synchronized dtmf s r = (r.keys ≡ ready) × (r.prefix ≡ 0)
Synchronized edt s r = r.frame ≡ hunting

-- a shift that a shift code can have: in Baudot letters and figures
abbrev pub ShiftIn : Alphabet → ℕ → Type 0
ShiftIn Baudot k = (1 ≤ k) × (k ≤ 2)
ShiftIn dtmf k = ⊥
ShiftIn edt k = ⊥

-- an own code that begins behind this part is the first code, and no end of an idle period has synchronized: in DTMF
pub record OwnFirst (a : Alphabet) (part : Part) : Type 0 where
  pub later : at_once a ≡ false
  pub not_opening : is_opening a part ≡ false
  pub not_yet : synchronizes a part ≡ false

-- What has to hold of a mode, its alphabet a, and its readers that are between codes.
pub record Laws (mode : Mode) (a : Alphabet) (Between : Reader → Type 0) : Type 0 where
  pub between : (s : Sender) (r : Reader) → Synchronized a s r → Between r
  pub at_once-law : at_once a ≡ true → (s : Sender) (r : Reader) → Between r → Synchronized a s r
  -- between codes, quiet and the preamble give no word and leave the reader as it is
  pub quiet_passes : (r : Reader) → Between r → Gives mode r (0 ∷ []) [] r
  pub preamble_passes : (r : Reader) → Between r → Gives mode r (preamble mode) [] r
  pub preamble_not : synchronizes a Preamble ≡ false
  -- the shift of the code that opens a burst, and of one that is wanted, is one that a shift code can have
  pub opening-in : opens_with_shift a ≡ true → (s : Sender) → SenderIn a s → ShiftIn a (opening_shift s)
  pub wanted-in : (s : Sender) (c : ℕ) (w : Waits a c) → SenderIn a s → eqb (shift_wanted a s w.own) 0 ≡ false
      → ShiftIn a (shift_wanted a s w.own)
  -- a shift code synchronizes, and gives no word
  pub shift_law : (k : ℕ) → ShiftIn a k → (r : Reader) → Between r
      → Makes mode r (signal mode (shift_code k)) [] (Synchronized a (sender k 0))
  pub shift_sender : (k : ℕ) → ShiftIn a k → SenderIn a (sender k 0)
  pub shift_synchronizes : (k : ℕ) → ShiftIn a k → synchronizes a ShiftCode ≡ true
  -- an own code ahead of which none is wanted: a synchronized reader reads its normal form
  pub own_law : (s : Sender) (c : ℕ) (w : Waits a c) → eqb (shift_wanted a s w.own) 0 ≡ true
      → (r : Reader) → Synchronized a s r
      → Makes mode r (signal mode w.code.0) (normal a c) (Synchronized a (sender_after_own a s))
  pub own_sender : (s : Sender) (c : ℕ) (w : Waits a c) → SenderIn a s → eqb (shift_wanted a s w.own) 0 ≡ true
      → SenderIn a (sender_after_own a s)
  pub own_synchronizes : at_once a ≡ false → synchronizes a OwnCode ≡ true
  -- one that is the first code synchronizes any reader between codes, and its character is within the bound
  pub first_law : (part : Part) → OwnFirst a part → (s : Sender) (c : ℕ) (w : Waits a c) (r : Reader) → Between r
      → Synchronized a s (reader_after mode r (signal mode w.code.0))
  pub first_room : (part : Part) → OwnFirst a part → 1 ≤ most_before a

abbrev pub LawsOf : Mode → Type 0
LawsOf mode = Laws mode (alphabet_of mode) (Settled mode)

-- a reader that hunts, written out
hunts-is : (r : Reader) → r.frame ≡ hunting → r ≡ reader hunting r.keys r.shift r.prefix
hunts-is r h = λ i. record { frame = h i; keys = r.keys; shift = r.shift; prefix = r.prefix }

-- what a reader gives, by an equal one
gives-by : (mode : Mode) {r p q : Reader} {xs ws : List ℕ} → r ≡ p → Gives mode p xs ws q → Gives mode r xs ws q
gives-by mode {r} {p} {q} {xs} {ws} e g = subst (λ (x : Reader). Gives mode x xs ws q) (sym e) g

-- the modes that read frames
module _ (mode : Mode) (law : (r : Reader) (x : ℕ) → hear mode r x ≡ hear_frame mode r x) where
  quiet-frames : (r : Reader) → r.frame ≡ hunting → Gives mode r (0 ∷ []) [] r
  unfolding state_after outputs words_of frame_step
  quiet-frames r h =
      let p = reader hunting r.keys r.shift r.prefix in
      let e = hunts-is r h in
      gives-by mode e
      (record {
        after = ap (λ (d : Reading). d.reader) (law p 0) ∙ sym e;
        heard = ap (λ (d : Reading). word_of d.event ++ []) (law p 0);
      })

  marks-frames : (n : ℕ) (r : Reader) → r.frame ≡ hunting → Gives mode r (replicate n 1) [] r
  marks-frames n r h =
      let e = hunts-is r h in
      let g = marks-pass mode law r.keys r.shift r.prefix n in
      gives-by mode e (record { after = g.after ∙ sym e; heard = g.heard })

-- the sending rule of Baudot
module _ (s : Sender) (own : ℕ) (lo : 1 ≤ own) (hi : own ≤ 3) where
  fresh-wants : s.shift ≡ 0 → wanted s own ≡ 1
  unfolding wanted
  fresh-wants z = simp (eq-eqb s.shift 0 z)

  wanted-range : BaudotSender s → eqb (wanted s own) 0 ≡ false → (1 ≤ wanted s own) × (wanted s own ≤ 2)
  wanted-range (inl z) e = let w = fresh-wants z in (omega arith, omega arith)
  wanted-range (inr r) e =
      ⊎_elim (λ n. absurd (true≢false (sym (eq-eqb (wanted s own) 0 n.none) ∙ e))) (λ a. (a.low, a.high))
      (ahead s own r lo hi)

  none-wanted : (r : Running s) → eqb (wanted s own) 0 ≡ true → NoneAhead s own r lo hi
  none-wanted r e =
      let z = eqb-true (wanted s own) 0 e in
      ⊎_elim (λ n. n) (λ a. let l = a.low in absurd (omega arith)) (ahead s own r lo hi)

  then-running : BaudotSender s → eqb (wanted s own) 0 ≡ true → Running s
  then-running (inl z) e = let w = fresh-wants z in let v = eqb-true (wanted s own) 0 e in absurd (omega arith)
  then-running (inr r) e = r

  counted-running : BaudotSender s → eqb (wanted s own) 0 ≡ true → Running (counted s)
  counted-running b e =
      let r = then-running b e in
      let l = (none-wanted r e).below in
      record { shift_low = r.shift_low; shift_in = r.shift_in; count_in = omega arith }

opening-range : (s : Sender) → BaudotSender s → (1 ≤ opening_shift s) × (opening_shift s ≤ 2)
opening-range s b =
    let some = opening-some s in
    (omega (arith, some), opening-in s (⊎_elim (λ (z : s.shift ≡ 0). omega arith) (λ r. r.shift_in) b))

shift-running : (k : ℕ) → (1 ≤ k) × (k ≤ 2) → Running (sender k 0)
shift-running k i = record { shift_low = i.0; shift_in = i.1; count_in = omega arith }

-- no own code is the first of a burst
pub none_first : (part : Part) → OwnFirst Baudot part → ⊥
unfolding synchronizes
none_first Preamble f = true≢false f.not_opening
none_first ShiftCode f = true≢false f.not_yet
none_first OwnCode f = true≢false f.not_yet

-- what a code of Baudot gives a reader that hunts, in any shift
abbrev CodeReads : Mode → Type 0
CodeReads mode = (k : Keys) (s p c : ℕ) → c < codes Baudot
    → let x = reads Baudot s c in
    Gives mode (reader hunting k s p) (signal mode c) (word_of (event_of x)) (reader hunting k (shift_by s x) p)

-- the rule of the tables at a character that waits
abbrev rule-at : {a : Alphabet} {c : ℕ} (w : Waits a c) → ReadBack a w.own w.code
rule-at {a} {c} w = rule-of a c w.char-in w.own w.code w.sent

-- the modes of Baudot
module _ (mode : Mode) (code : CodeReads mode) where
  -- a shift code, in any shift
  baudot-shift : (k : ℕ) → (1 ≤ k) × (k ≤ 2) → (r : Reader) → r.frame ≡ hunting
      → Makes mode r (signal mode (shift_code k)) [] (InShift (sender k 0))
  unfolding reads
  baudot-shift k i r u =
      let five = code-few Baudot (shift_code k) (shift-code-is Baudot refl k) in
      let g = code r.keys r.shift r.prefix (shift_code k) five in
      let none = rw (reads-shift-code r.shift k i.0 i.1) at g in
      makes mode (InShift (sender k 0)) (gives-by mode (hunts-is r u) none)
      (record { hunts = refl; running = shift-running k i; shift_is = refl })

  -- an own code, in the sender's shift
  module _ (s : Sender) (c : ℕ) (w : Waits Baudot c) (n : eqb (wanted s w.own) 0 ≡ true) (u : Running s) where
    abbrev k : ℕ
    k = w.code.0

    abbrev ahead_none : NoneAhead s w.own u (rule-at w).shift_least (rule-at w).shift-most
    ahead_none = none-wanted s w.own (rule-at w).shift_least (rule-at w).shift-most u n

    char : all_at_most 0x7f (c ∷ []) ≡ true
    unfolding all_at_most
    char = let h = w.char-in in rw (le-leb c 0x7f (omega arith)) refl

    codes-are : codes_of s (c ∷ []) ≡ k ∷ []
    unfolding codes_of
    codes-are =
        let a = rule-at w in
        let own = codes-none s w.own u a.shift_least a.shift-most w.code ahead_none.none in
        ap (λ (x : Option CharCode). codes_for s x ++ []) w.sent ∙ ap (λ (l : List ℕ). l ++ []) own

    sender-is : sender_after s (c ∷ []) ≡ counted s
    unfolding sender_after
    sender-is =
        let a = rule-at w in
        ap (sender_for s) w.sent
        ∙ sender-none s w.own u a.shift_least a.shift-most w.code ahead_none.none

    text-is : text_of s.shift (k ∷ []) ≡ normal Baudot c
    unfolding normal_form
    text-is =
        ap (text_of s.shift) (sym codes-are) ∙ round-trip-running (c ∷ []) char s u ∙ append-nil (normal Baudot c)

    shift_same : shift_after s.shift (k ∷ []) ≡ s.shift
    shift_same =
        ap (shift_after s.shift) (sym codes-are) ∙ shift-follows (c ∷ []) char s u
        ∙ ap (λ (x : Sender). x.shift) sender-is

    code_gives : (r : Reader) → r.frame ≡ hunting → r.shift ≡ s.shift
        → Gives mode r (signal mode k) (normal Baudot c)
        (reader hunting r.keys (shift_after s.shift (k ∷ [])) r.prefix)
    unfolding signals all_at_most
    code_gives r f t =
        let i = (rule-at w).code-in in
        let five : all_at_most 31 (k ∷ []) ≡ true = rw (le-leb k 31 (omega arith)) refl in
        let g = codes-read mode code r.keys s.shift r.prefix (k ∷ []) five in
        rw (append-nil (signal mode k)) at
        (gives-by mode (λ i. record { frame = f i; keys = r.keys; shift = t i; prefix = r.prefix })
        (record { after = g.after; heard = g.heard ∙ text-is }))

  baudot-own : (s : Sender) (c : ℕ) (w : Waits Baudot c) → eqb (wanted s w.own) 0 ≡ true
      → (r : Reader) → InShift s r → Makes mode r (signal mode w.code.0) (normal Baudot c) (InShift (counted s))
  baudot-own s c w n r v =
      let a = rule-at w in
      let u = v.running in
      let running = counted-running s w.own a.shift_least a.shift-most (inr u) n in
      makes mode (InShift (counted s)) (code_gives s c w n u r v.hunts v.shift_is)
      (record { hunts = refl; running = running; shift_is = shift_same s c w n u })

-- what the sending rule leaves, for a character that waits
module _ (s : Sender) (c : ℕ) (w : Waits Baudot c) where
  abbrev a : ReadBack Baudot w.own w.code
  a = rule-at w

  baudot-wanted : BaudotSender s → eqb (wanted s w.own) 0 ≡ false
      → (1 ≤ wanted s w.own) × (wanted s w.own ≤ 2)
  baudot-wanted = wanted-range s w.own a.shift_least a.shift-most

  baudot-counted : BaudotSender s → eqb (wanted s w.own) 0 ≡ true → BaudotSender (counted s)
  baudot-counted b f = inr (counted-running s w.own a.shift_least a.shift-most b f)

-- DTMF
keys-are : (r : Reader) → r.keys ≡ ready → r ≡ reader r.frame ready r.shift r.prefix
keys-are r h = λ i. record { frame = r.frame; keys = h i; shift = r.shift; prefix = r.prefix }

quiet-keys : (r : Reader) → r.keys ≡ ready → Gives Dtmf r (0 ∷ []) [] r
unfolding state_after outputs words_of hear key_step key_event prefix_after
quiet-keys r h =
    let e = keys-are r h in
    gives-by Dtmf e (record { after = sym e; heard = refl })

module _ (c : ℕ) (w : Waits dtmf c) where
  abbrev keys_code : ℕ
  keys_code = w.code.0

  abbrev row : read_dtmf keys_code ≡ Character (record { 0 = (rule-at w).char })
  unfolding reads
  row = own-shift dtmf w.own w.code (rule-at w)

  dtmf-own : (r : Reader) → r.keys ≡ ready → r.prefix ≡ 0 → Gives Dtmf r (signal Dtmf keys_code) (normal dtmf c) r
  dtmf-own r u v =
      let q : r ≡ reader r.frame ready r.shift 0 =
      λ i. record { frame = r.frame; keys = u i; shift = r.shift; prefix = v i } in
      let g = row_read r.frame r.shift keys_code _ row in
      let normal-is = normal-code dtmf c w.char-in w.own w.code w.sent in
      gives-by Dtmf q (record { after = g.after ∙ sym q; heard = g.heard ∙ sym normal-is })

  -- behind any prefix
  dtmf-any : (r : Reader) → r.keys ≡ ready
      → reader_after Dtmf r (signal Dtmf keys_code) ≡ reader r.frame ready r.shift 0
  unfolding signal
  dtmf-any r u =
      let shape = shape-keys keys_code (row-shape keys_code _ row) in
      let g = keys-given r.frame r.shift r.prefix (keys_of keys_code) shape in
      (gives-by Dtmf (keys-are r u) g).after

-- EDT
edt-own : (c : ℕ) (w : Waits edt c) (r : Reader) → r.frame ≡ hunting
    → Gives Edt r (signal Edt w.code.0) (normal edt c) r
unfolding reads
edt-own c w r u =
    let q = hunts-is r u in
    let g = code-edt r.keys r.shift r.prefix w.code.0 (rule-at w).code-in in
    let back = ap (λ (x : Option CharCode). chars_of (read_back edt x)) w.sent in
    gives-by Edt q (record { after = g.after ∙ sym q; heard = g.heard ∙ sym back })

-- the laws
module _ (mode : Mode) (law : (r : Reader) (x : ℕ) → hear mode r x ≡ hear_frame mode r x) (code : CodeReads mode) where
  laws-baudot : Laws mode Baudot (λ r. r.frame ≡ hunting)
  unfolding synchronizes
  laws-baudot = record {
    between = λ s r h. h.hunts;
    at_once-law = λ e s r h. absurd (false≢true e);
    quiet_passes = quiet-frames mode law;
    preamble_passes = marks-frames mode law (preamble_of mode);
    preamble_not = refl;
    opening-in = λ e. opening-range;
    wanted-in = baudot-wanted;
    shift_law = baudot-shift mode code;
    shift_sender = λ k i. inr (shift-running k i);
    shift_synchronizes = λ k i. refl;
    own_law = baudot-own mode code;
    own_sender = baudot-counted;
    own_synchronizes = λ e. refl;
    first_law = λ part f. absurd (none_first part f);
    first_room = λ part f. absurd (none_first part f);
  }

pub laws : (mode : Mode) → LawsOf mode
unfolding hear synchronizes
laws Baudot45 = laws-baudot Baudot45 (λ r x. refl) code-45
laws Baudot50 = laws-baudot Baudot50 (λ r x. refl) code-50
laws Dtmf = record {
  between = λ s r h. h.0;
  at_once-law = λ e s r h. absurd (false≢true e);
  quiet_passes = quiet-keys;
  preamble_passes = λ r h. none Dtmf r;
  preamble_not = refl;
  opening-in = λ e. absurd (false≢true e);
  wanted-in = λ s c w b e. absurd (true≢false e);
  shift_law = λ k i. absurd i;
  shift_sender = λ k i. absurd i;
  shift_synchronizes = λ k i. absurd i;
  own_law = λ s c w e r h. makes Dtmf (Synchronized dtmf s) (dtmf-own c w r h.0 h.1) h;
  own_sender = λ s c w b e. tt;
  own_synchronizes = λ e. refl;
  first_law = λ part f s c w r h.
      let q = dtmf-any c w r h in
      (ap (λ (x : Reader). x.keys) q, ap (λ (x : Reader). x.prefix) q);
  first_room = λ part f. omega arith;
}
laws Edt = record {
  between = λ s r h. h;
  at_once-law = λ e s r h. h;
  quiet_passes = quiet-frames Edt (λ r x. refl);
  preamble_passes = marks-frames Edt (λ r x. refl) (preamble_of Edt);
  preamble_not = refl;
  opening-in = λ e. absurd (false≢true e);
  wanted-in = λ s c w b e. absurd (true≢false e);
  shift_law = λ k i. absurd i;
  shift_sender = λ k i. absurd i;
  shift_synchronizes = λ k i. absurd i;
  own_law = λ s c w e r h. makes Edt (Synchronized edt s) (edt-own c w r h) h;
  own_sender = λ s c w b e. tt;
  own_synchronizes = λ e. absurd (true≢false e);
  first_law = λ part f. absurd (true≢false f.later);
  first_room = λ part f. absurd (true≢false f.later);
}
