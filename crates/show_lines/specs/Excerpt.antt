-- The beginnings of texts and bytes.
use Rattle.std.specs.Prelude.{ℕ, Bool, not, List, ◌++◌, codes, length, take, if◌then◌else◌, nat_lt}
use Rattle.std.specs.List.{slice_index}
use Rattle.std.specs.Int.{is_in_range}
use Rattle.std.specs.Str.Lossy.{utf8_lossy}
use Rattle.terminal_text.specs.Texts.{escaped_text}
use Rattle.terminal_text.specs.declared.texts.Escapes.TheVariants.{Text}

-- Whether a byte of a text is within a character, and not the first of one.
abbrev pub is_inner : ℕ → Bool
is_inner byte = is_in_range 0x80 0xBF byte

-- How many bytes are shown of more than 40: as many as that, or up to three fewer where a character goes on.
abbrev pub front_size : List ℕ → ℕ
front_size bytes =
    if not (is_inner (slice_index bytes 40)) then 40 else (if not (is_inner (slice_index bytes 39)) then 39 else
    (if not (is_inner (slice_index bytes 38)) then 38 else 37))

-- The bytes that are shown: all of up to 40, and of more the first, without a part of a character.
abbrev pub front : List ℕ → List ℕ
front bytes = if nat_lt 40 (length bytes) then take (front_size bytes) bytes else bytes

-- The beginning of a text, or of bytes that may be one: U+FFFD is shown for what is not UTF-8, characters that a
-- terminal may take as commands are escaped, and two dots follow if it is not all.
abbrev pub excerpt : List ℕ → List ℕ
excerpt bytes = escaped_text Text (utf8_lossy (front bytes)) ++ (if nat_lt 40 (length bytes) then codes ".." else codes "")
