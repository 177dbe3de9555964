-- The value of the option `--protocol`, and what it says.
use Rattle.std.specs.Prelude.{◌≡◌, ◌≢◌, ◌≤◌, List, ℕ, Bool, true, false, codes, decimal, Option, Some, None}
use Rattle.clap.specs.Matches.{first_value}
use Rattle.clap.specs.declared.parser.matches.Found.{Found}
use Rattle.shared_core_base.specs.Version.{version_number}
use Rattle.shared_core_base.specs.declared.version.Version.{Version}
use Rattle.shared_core_base.specs.declared.version.Version.TheVariants.{V8}

-- The text that is given for the option, or its default, if it has one.
abbrev pub protocol_value : Found → Option (List ℕ)
protocol_value found = first_value found (codes "protocol")

-- It is a supported version: the one whose number is the value, or V8 without a value.
abbrev pub IsVersionOf : Found → Version → Type 0
IsVersionOf found version =
    (5 ≤ version_number version)
    × ((asked : Version) → 5 ≤ version_number asked
    → protocol_value found ≡ Some (decimal (version_number asked)) → version ≡ asked)
    × (protocol_value found ≡ None → version ≡ V8)

-- Whether the value is `auto`.
abbrev pub IsAutoOf : Found → Bool → Type 0
IsAutoOf found is-auto =
    (protocol_value found ≡ Some (codes "auto") → is-auto ≡ true)
    × (protocol_value found ≢ Some (codes "auto") → is-auto ≡ false)
