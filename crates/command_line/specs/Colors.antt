-- The value of the option `--color`, and what it says.
use Rattle.std.specs.Prelude.{◌≡◌, ◌≢◌, List, ℕ, codes, Option, Some}
use Rattle.clap.specs.Matches.{first_value}
use Rattle.clap.specs.declared.parser.matches.Found.{Found}
use Rattle.command_line.specs.declared.colors.ColorChoice.{ColorChoice}
use Rattle.command_line.specs.declared.colors.ColorChoice.TheVariants.{Always, Auto, Never}

-- The text that is given for the option, or its default, if it has one.
abbrev pub color_value : Found → Option (List ℕ)
color_value found = first_value found (codes "color")

-- It is what the value names, and otherwise `auto`.
abbrev pub IsColorOf : Found → ColorChoice → Type 0
IsColorOf found choice =
    (color_value found ≡ Some (codes "always") → choice ≡ Always)
    × (color_value found ≡ Some (codes "never") → choice ≡ Never)
    × (color_value found ≢ Some (codes "always") → color_value found ≢ Some (codes "never") → choice ≡ Auto)
