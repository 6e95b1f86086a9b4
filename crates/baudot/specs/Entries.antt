-- Document 01, "Questions in order": the bare Baudot conversions. The first no decides; a refusal gives back what it
-- was given and leaves the slice; success writes the result from the front, and the rest of the slice stays.
use Rattle.std.specs.Prelude.{ℕ, cond, ◌||◌, List, eqb, leb, length}
use Rattle.lists.specs.Lists.{written}
use Rattle.alphabet.specs.Normal.{all_chars}
use Rattle.baudot.specs.declared.BaudotSent.{BaudotSent}
use Rattle.baudot.specs.declared.BaudotText.{BaudotText}
use Rattle.baudot.specs.Sending.{sender, codes_of, sender_after, in_range}
use Rattle.baudot.specs.Reading.{text_of, shift_after, all_codes}

abbrev pub sent : ℕ → ℕ → ℕ → ℕ → BaudotSent
sent answer shift count n = record { answer = answer; shift = shift; count = count; length = n }

-- Sending. 1: are shift and count in range? 3: is every byte at most 127? 9: is the output long enough for this result?
unfoldable pub send_answer : List ℕ → ℕ → ℕ → ℕ → ℕ
send_answer text shift count room =
    cond (in_range (sender shift count))
    (cond (all_chars text)
    (cond (leb (length (codes_of (sender shift count) text)) room) 0 9) 3) 1

unfoldable pub sent_of : List ℕ → ℕ → ℕ → ℕ → BaudotSent
sent_of text shift count room =
    let answer = send_answer text shift count room in
    let after = sender_after (sender shift count) text in
    cond (eqb answer 0)
    (sent 0 after.shift after.count (length (codes_of (sender shift count) text)))
    (sent answer shift count 0)

unfoldable pub codes_after : List ℕ → ℕ → ℕ → List ℕ → List ℕ
codes_after text shift count codes =
    cond (eqb (send_answer text shift count (length codes)) 0) (written (codes_of (sender shift count) text) codes)
    codes

abbrev pub read : ℕ → ℕ → ℕ → BaudotText
read answer shift n = record { answer = answer; shift = shift; length = n }

-- Reading. 1: is the shift 1 or 2? 10: is every code below 32? 9: is the output long enough for this result?
unfoldable pub read_answer : List ℕ → ℕ → ℕ → ℕ
read_answer codes shift room =
    cond (eqb shift 1 || eqb shift 2)
    (cond (all_codes codes)
    (cond (leb (length (text_of shift codes)) room) 0 9) 10) 1

unfoldable pub read_of : List ℕ → ℕ → ℕ → BaudotText
read_of codes shift room =
    let answer = read_answer codes shift room in
    cond (eqb answer 0) (read 0 (shift_after shift codes) (length (text_of shift codes))) (read answer shift 0)

unfoldable pub text_after : List ℕ → ℕ → List ℕ → List ℕ
text_after codes shift text =
    cond (eqb (read_answer codes shift (length text)) 0) (written (text_of shift codes) text) text
