-- The value of a header among pairs.
use Rattle.std.specs.Prelude.{ℕ, List, Option, option_map, find, String}
use Rattle.std.specs.Str.{str_eq_ignore_ascii_case}
use Rattle.std.specs.String.{string_bytes}
use Rattle.std.specs.declared.alloc.Global.{Global}

-- The value of the first pair whose key is the name, without regard to ASCII case.
abbrev pub header_value : List ℕ → List (String Global × String Global) → Option (List ℕ)
header_value name headers =
    option_map (λ header. string_bytes header.1) (find (λ header. str_eq_ignore_ascii_case (string_bytes header.0) name)
    headers)
