-- Demand 3, computed: for each mode two lists of calls for which the premises hold, refused calls among them, and what
-- B reads.
use Rattle.std.specs.Prelude.{ℕ, ◌+◌, ◌≡◌, List, [], ◌∷◌, ◌++◌, length, take, drop, replicate}
use Rattle.alphabet.specs.declared.Mode.TheVariants.{Baudot45, Baudot50, Dtmf, Edt}
use Rattle.signal.specs.Signal.{signals, preamble}
use Rattle.frames.specs.declared.Cause.TheVariants.{Quiet, StopNotMark, OddParity}
use Rattle.reader.specs.Words.{fault_word}
use Rattle.line_theorems.specs.Examples.{chars}
use Rattle.demand3.specs.Model.{fresh_model, model_after, taken_in}
use Rattle.demand3.specs.Reading.{EndsIdle}
use Rattle.demand3.specs.Calls.{Call, OfferCall, plain_run, opened, steps_by}
use Rattle.demand3.specs.Demand3.{Lists, Premises, follows_a, synchronized, words_before}

-- The lists; the characters that A takes after the idle period up to the synchronizing code's last ms; the words that
-- B hands out up to there, of whatever it heard; its words after that.
pub record Example : Type 0 where
  pub lists : Lists
  pub before : List ℕ
  pub earlier : List ℕ
  pub words : List ℕ

pub record Holds (e : Example) : Type 0 where
  pub premises : Premises e.lists
  pub idle_at_end : EndsIdle (follows_a e.lists)
  pub before_is : taken_in (take (synchronized e.lists) (follows_a e.lists)) ≡ e.before
  pub earlier_is : words_before e.lists (e.lists.start + 300 + synchronized e.lists) ≡ e.earlier
  pub words_are : words_before e.lists (e.lists.asked + 1) ≡ e.earlier ++ e.words

-- n ms, heard as x; a run on some ms, without a report and with slices that are just long enough
abbrev pub ms : ℕ → ℕ → List ℕ
ms n x = replicate n x

abbrev pub run : List ℕ → Call
run heard = plain_run heard (ms (length heard) 0) (ms (length heard) 0)

-- Baudot 45.45. A's burst of e ends with ms 1479. A byte above 127, a level that is none and a sent slice that is too
-- short are refused. B is opened in the idle period and hears 11011, then space: it is in figures, and in a frame when
-- the line falls quiet. It gives a fault, quiet at ms 77, and is right from the shift code on that opens A's next
-- burst: it reads TOO, and not 599. Offers to it are refused or empty.
unfoldable pub calls_a45 : List Call
calls_a45 =
    OfferCall (chars "e") ∷
    OfferCall (0x41 ∷ 0x80 ∷ []) ∷
    run (ms 500 2) ∷
    run (ms 5 3) ∷
    run (ms 280 0) ∷
    OfferCall (chars "too1a") ∷
    run (ms 600 2) ∷
    plain_run (ms 600 0) (ms 599 0) (ms 600 0) ∷
    run (ms 600 1) ∷
    run (ms 271 2) ∷
    []

-- what A sends from ms 1740 on
unfoldable pub line45 : List ℕ
line45 =
    ms 40 0 ++ preamble Baudot45
    ++ signals Baudot45 (0b11111 ∷ 0b10000 ∷ 0b11000 ∷ 0b11000 ∷ 0b11011 ∷ 0b10111 ∷ 0b11111 ∷ 0b00011 ∷ [])
    ++ 0 ∷ []

unfoldable pub calls_b45 : List Call
calls_b45 =
    OfferCall (0x41 ∷ 0x80 ∷ []) ∷
    run (signals Baudot45 (0b11011 ∷ []) ++ ms 75 2) ∷
    OfferCall [] ∷
    run (take 500 line45) ∷
    plain_run (ms 50 0) (ms 50 0) [] ∷
    run (drop 500 line45) ∷
    []

unfoldable pub baudot45 : Example
baudot45 = record {
  lists = record {
    mode = 1;
    calls_a = calls_a45;
    calls_b = calls_b45;
    open_a = 1_000;
    open_b = 1_500;
    start = 1_480;
    asked = 3_250;
  };
  before = [];
  earlier = fault_word Quiet 77 ∷ [];
  words = chars "TOO1A";
}

-- Baudot 50. More characters than there is space for are refused, and so are more than 4,096 ms. A's burst of 1 ends
-- with ms 599, in figures. Its next one opens with 11011, and the count starts again at it: 72 characters follow, and
-- 11011 is repeated ahead of the 73rd. B has heard 11011, but DEL has put it in letters since. A held space gives it a
-- fault, at the stop. It reads 3, and not E, from the first code on.
unfoldable pub calls_a50 : List Call
calls_a50 =
    OfferCall (chars "1") ∷
    run (ms 900 0) ∷
    OfferCall (ms 257 0x33) ∷
    OfferCall (ms 73 0x33) ∷
    run (ms 4_096 0) ∷
    run (ms 4_097 0) ∷
    run (ms 4_096 2) ∷
    run (ms 3_209 1) ∷
    []

-- what A sends from ms 860 on: in three parts
unfoldable pub line50 : List ℕ
line50 = ms 40 0 ++ preamble Baudot50 ++ signals Baudot50 (0b11011 ∷ ms 24 0b00001)

unfoldable pub later_line50 : List ℕ
later_line50 = signals Baudot50 (ms 26 0b00001)

unfoldable pub last_line50 : List ℕ
last_line50 = signals Baudot50 (ms 22 0b00001 ++ 0b11011 ∷ 0b00001 ∷ []) ++ 0 ∷ []

unfoldable pub calls_b50 : List Call
calls_b50 =
    run (signals Baudot50 (0b11011 ∷ [])) ∷
    OfferCall (0x7f ∷ []) ∷
    run (ms 100 0 ++ ms 260 2) ∷
    run line50 ∷
    OfferCall (ms 257 0x65) ∷
    run later_line50 ∷
    run last_line50 ∷
    []

unfoldable pub baudot50 : Example
baudot50 = record {
  lists = record {
    mode = 2;
    calls_a = calls_a50;
    calls_b = calls_b50;
    open_a = 0;
    open_b = 350;
    start = 600;
    asked = 12_300;
  };
  before = [];
  earlier = fault_word StopNotMark 130 ∷ [];
  words = ms 73 0x33;
}

-- DTMF. A is opened in the idle period. Key 17 is refused. B has heard **; its own burst of b ends with ms 779, so that
-- it is inhibited up to ms 1079, inside the last 40 ms of the idle period. The prefix stays, and it takes b for +.
unfoldable pub calls_akeys : List Call
calls_akeys =
    run (ms 9 17) ∷
    run (ms 50 0) ∷
    OfferCall (chars "b:") ∷
    OfferCall (chars "b") ∷
    run (ms 601 5) ∷
    []

abbrev pub key : ℕ → List ℕ
key k = ms 70 k ++ ms 50 0

unfoldable pub calls_bkeys : List Call
calls_bkeys =
    run (key 11 ++ key 11 ++ ms 250 0) ∷
    OfferCall (chars "b") ∷
    run (ms 140 5) ∷
    OfferCall (0x62 ∷ 0xff ∷ []) ∷
    run (ms 260 11) ∷
    run (ms 40 0 ++ key 1 ++ key 11 ++ key 11 ++ key 4 ++ key 1 ++ 0 ∷ []) ∷
    []

unfoldable pub dtmf : Example
dtmf = record {
  lists = record {
    mode = 3;
    calls_a = calls_akeys;
    calls_b = calls_bkeys;
    open_a = 1_050;
    open_b = 170;
    start = 800;
    asked = 1_700;
  };
  before = chars "b";
  earlier = chars "+";
  words = chars ":b";
}

-- EDT. A's burst of e ends with ms 399. B hears the first 60 ms of that code and then space: it gives a fault, odd
-- parity at ms 77, and waits when the line falls quiet; it reads from the first character on.
unfoldable pub calls_aedt : List Call
calls_aedt =
    OfferCall (chars "e") ∷
    run (ms 700 2) ∷
    OfferCall (chars "Ab") ∷
    run (ms 300 2) ∷
    run (ms 300 3) ∷
    OfferCall (chars "1") ∷
    run (ms 301 1) ∷
    []

unfoldable pub calls_bedt : List Call
calls_bedt =
    run (ms 100 1 ++ take 60 (signals Edt (chars "e")) ++ ms 300 2) ∷
    run (ms 40 0 ++ preamble Edt) ∷
    plain_run (ms 10 0) [] [] ∷
    run (signals Edt (chars "Ab1") ++ 0 ∷ []) ∷
    []

unfoldable pub edt : Example
edt = record {
  lists = record {
    mode = 4;
    calls_a = calls_aedt;
    calls_b = calls_bedt;
    open_a = 0;
    open_b = 200;
    start = 400;
    asked = 1_300;
  };
  before = [];
  earlier = fault_word OddParity 77 ∷ [];
  words = chars "Ab1";
}

-- In the third, B has 20 inhibited ms to come at the first of the last 40 ms of the idle period.
abbrev pub Inhibited : Type 0
Inhibited = (model_after Dtmf fresh_model (steps_by (opened 3) (take 5 calls_bkeys))).inhibited_ms ≡ 20

pub record AllHold : Type 0 where
  pub baudot45_holds : Holds baudot45
  pub baudot50_holds : Holds baudot50
  pub dtmf_holds : Holds dtmf
  pub edt_holds : Holds edt
  pub dtmf-inhibited : Inhibited
