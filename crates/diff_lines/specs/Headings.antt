-- The names of two journals, above what moved between them.
use Rattle.std.specs.Prelude.{ℕ, Bool, true, false, List, [], ◌++◌, codes, Option, Some, None}
use Rattle.terminal_text.specs.declared.colors.Style.{Style}
use Rattle.terminal_text.specs.declared.colors.Style.TheVariants.{Red, Green}
use Rattle.diff_lines.specs.declared.heading.Names.{Names}
use Rattle.diff_lines.specs.declared.look.Look.{Look}
use Rattle.diff_lines.specs.Shown.{shown_part, shown_value}

-- A line, in this style or as it is.
abbrev pub shown_line : Bool → Style → List ℕ → List ℕ
shown_line is_colored style line = shown_part is_colored style line ++ codes "\n"

-- The lines of both names, if they are given and the journals are not the same.
abbrev pub heading_text : Bool → Look → Option Names → List ℕ
heading_text true look names = []
heading_text false look None = []
heading_text false look (Some names) =
    shown_line look.is_colored Red (codes "--- recorded: " ++ shown_value look.is_escaped names.recorded.now)
    ++ shown_line look.is_colored Green (codes "+++ replayed: " ++ shown_value look.is_escaped names.replayed.now)
