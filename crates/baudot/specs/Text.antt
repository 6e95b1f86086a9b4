-- The codes of a text in each alphabet: in Baudot with the shift codes that the sending rule puts between them.
use Rattle.std.specs.Prelude.{ℕ, List}
use Rattle.alphabet.specs.declared.Alphabet.{Alphabet}
use Rattle.alphabet.specs.declared.Alphabet.TheVariants.{Baudot, Dtmf, Edt}
use Rattle.alphabet.specs.Normal.{own_codes}
use Rattle.baudot.specs.declared.Sender.{Sender}
use Rattle.baudot.specs.Sending.{codes_of}

abbrev pub text_codes : Alphabet → Sender → List ℕ → List ℕ
text_codes Baudot s cs = codes_of s cs
text_codes Dtmf s cs = own_codes Dtmf cs
text_codes Edt s cs = own_codes Edt cs
