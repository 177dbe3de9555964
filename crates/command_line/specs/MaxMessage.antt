-- The value of the option `--max-message`, and what it says.
use Rattle.std.specs.Prelude.{◌≡◌, ◌*◌, ◌++◌, ◌⊎◌, List, ℕ, codes, Option, Some, None}
use Rattle.std.specs.Str.Parse.{IsNumeral, digits_value, without_leading_plus}
use Rattle.clap.specs.Matches.{first_value}
use Rattle.clap.specs.declared.parser.matches.Found.{Found}
use Rattle.command_line.specs.declared.max_message.Unit.{Unit}
use Rattle.command_line.specs.declared.max_message.Unit.TheVariants.{Kilobyte, Megabyte, Gigabyte}
use Rattle.command_line.specs.declared.max_message.Unit.TheVariants.{Kibibyte, Mebibyte, Gibibyte}

-- The text that is given for the option, if it is given.
abbrev pub max_message_value : Found → Option (List ℕ)
max_message_value found = first_value found (codes "max-message")

-- The name of a unit.
abbrev pub unit_text : Unit → List ℕ
unit_text Kilobyte = codes "kB"
unit_text Megabyte = codes "MB"
unit_text Gigabyte = codes "GB"
unit_text Kibibyte = codes "KiB"
unit_text Mebibyte = codes "MiB"
unit_text Gibibyte = codes "GiB"

-- The bytes of a unit.
abbrev pub unit_size : Unit → ℕ
unit_size Kilobyte = 1000
unit_size Megabyte = 1000000
unit_size Gigabyte = 1000000000
unit_size Kibibyte = 1024
unit_size Mebibyte = 1048576
unit_size Gibibyte = 1073741824

-- This is the number that the digits of a text say. A plus may come first.
abbrev pub IsNumber : List ℕ → ℕ → Type 0
IsNumber text number =
    IsNumeral 10 (without_leading_plus text) × (number ≡ digits_value 10 (without_leading_plus text))

-- The text is a number and then the name of a unit, and this many bytes are as many of them.
abbrev pub IsIn : Unit → List ℕ → ℕ → Type 0
IsIn unit text bytes =
    (digits : List ℕ) × (number : ℕ) × (text ≡ digits ++ unit_text unit) × IsNumber digits number
    × (bytes ≡ number * unit_size unit)

-- The text says this many bytes in one of the units.
abbrev pub IsWithUnit : List ℕ → ℕ → Type 0
IsWithUnit text bytes =
    IsIn Kilobyte text bytes
    ⊎ (IsIn Megabyte text bytes
    ⊎ (IsIn Gigabyte text bytes
    ⊎ (IsIn Kibibyte text bytes ⊎ (IsIn Mebibyte text bytes ⊎ IsIn Gibibyte text bytes))))

-- The text says this many bytes: by their number, or in a unit.
abbrev pub IsSize : List ℕ → ℕ → Type 0
IsSize text bytes = IsNumber text bytes ⊎ IsWithUnit text bytes

-- It is the number of bytes that the value says, or the largest number of 32 bits without a value.
abbrev pub IsLimitOf : Found → ℕ → Type 0
IsLimitOf found limit =
    (max_message_value found ≡ None → limit ≡ 4294967295)
    × ((text : List ℕ) → max_message_value found ≡ Some text → IsSize text limit)
