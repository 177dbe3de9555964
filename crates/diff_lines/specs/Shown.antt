-- How texts are shown: what comes from the journals, and colors.
use Rattle.std.specs.Prelude.{ℕ, Bool, List, if◌then◌else◌}
use Rattle.terminal_text.specs.declared.colors.Style.{Style}
use Rattle.terminal_text.specs.declared.texts.Escapes.TheVariants as escapes
use Rattle.terminal_text.specs.Painting.{painted_part}
use Rattle.terminal_text.specs.Texts.{escaped_text}

-- A part of a text, in this style or as it is.
abbrev pub shown_part : Bool → Style → List ℕ → List ℕ
shown_part is_colored style part = if is_colored then painted_part style part else part

-- What comes from a journal, escaped as on a terminal or as it is.
abbrev pub shown_value : Bool → List ℕ → List ℕ
shown_value is_escaped value = if is_escaped then escaped_text escapes.Text value else value
