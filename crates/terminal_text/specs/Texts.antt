-- Texts of others on a terminal.
use Rattle.std.specs.Prelude.{ℕ, Bool, true, false, not, ◌&&◌, ◌||◌, List, ◌++◌, codes, chars, encode_utf8, flat_map}
use Rattle.std.specs.Prelude.{if◌then◌else◌, ◌==◌, nat_lt, Option, Some, None}
use Rattle.std.specs.Fmt.{digits}
use Rattle.std.specs.Char.{is_control}
use Rattle.std.specs.Int.{is_in_range}
use Rattle.terminal_text.specs.declared.texts.Escapes.{Escapes}
use Rattle.terminal_text.specs.declared.texts.Escapes.TheVariants.{Text, Lines, Json}

-- The characters that a terminal may take as commands, or that change how it shows what is next to them: the control
-- characters, the separators of lines and of paragraphs, and those that set the direction of text.
abbrev pub is_steering : ℕ → Bool
is_steering c =
    (((is_control c || c == 0x61C) || is_in_range 0x200E 0x200F c) || is_in_range 0x2028 0x202E c) || is_in_range 0x2066
    0x2069 c

-- Whether line feeds stay, since they are between the lines of what is written.
abbrev pub keeps_line_feeds : Escapes → Bool
keeps_line_feeds Text = false
keeps_line_feeds Lines = true
keeps_line_feeds Json = true

-- Whether a character is written as it is.
abbrev pub stays : Escapes → ℕ → Bool
stays escapes c = (c == 10 && keeps_line_feeds escapes) || not (is_steering c)

-- The zeros before the hexadecimal digits of a code that has at most four of them.
abbrev pub leading_zeros : ℕ → List ℕ
leading_zeros code =
    if nat_lt code 0x10 then codes "000" else (if nat_lt code 0x100 then codes "00" else
    (if nat_lt code 0x1000 then codes "0" else codes ""))

-- A character's escape: `\u{1b}` in texts, and `\u001b`, with four digits, in JSON.
abbrev pub escape : Escapes → ℕ → List ℕ
escape Json code = codes "\\u" ++ (leading_zeros code ++ digits 16 false code)
escape escapes code = codes "\\u{" ++ (digits 16 false code ++ codes "}")

-- What is written of a character.
abbrev pub written_char : Escapes → ℕ → List ℕ
written_char escapes c = if stays escapes c then encode_utf8 c else escape escapes c

-- What is written of a text: that of each of its characters.
abbrev pub escaped_text : Escapes → List ℕ → List ℕ
escaped_text escapes text = flat_map (written_char escapes) (chars text)

-- The contents of a writer before another one: those of the other one, unless it escapes what it writes there.
abbrev pub known_contents : Option Escapes → Option (List ℕ) → Option (List ℕ)
known_contents None contents = contents
known_contents (Some escapes) contents = None
