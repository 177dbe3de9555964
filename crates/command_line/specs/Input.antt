-- The value of the option `--input`, and what it says.
use Rattle.std.specs.Prelude.{◌≡◌, ◌≢◌, List, ℕ, codes, Option, Some, None}
use Rattle.clap.specs.Matches.{first_value}
use Rattle.clap.specs.declared.parser.matches.Found.{Found}
use Rattle.encoded_input.specs.declared.encoding.Encoding.{Encoding}
use Rattle.encoded_input.specs.declared.encoding.Encoding.TheVariants.{Hex, Base64}

-- The text that is given for the option, if it is given.
abbrev pub input_value : Found → Option (List ℕ)
input_value found = first_value found (codes "input")

-- It is the encoding that the value names; none if it names no encoding.
abbrev pub IsEncodingOf : Found → Option Encoding → Type 0
IsEncodingOf found encoding =
    (input_value found ≡ Some (codes "hex") → encoding ≡ Some Hex)
    × (input_value found ≡ Some (codes "base64") → encoding ≡ Some Base64)
    × (input_value found ≢ Some (codes "hex") → input_value found ≢ Some (codes "base64") → encoding ≡ None)
