-- The lines that a difference of two messages prints, and the texts of bytes in them.
use Rattle.std.specs.Prelude.{ℕ, List, ◌∷◌, ◌++◌, Option, Some, None, codes, if◌then◌else◌}
use Rattle.std.specs.Fmt.{decimal, comma_space}
use Rattle.std.specs.List.{join_by}
use Rattle.std.specs.Str.{is_utf8}

-- The text of bytes in a line: `'text'` where they are UTF-8, otherwise the decimal list, as `[255, 1]`.
abbrev pub bytes_text : List ℕ → List ℕ
bytes_text bytes = if is_utf8 bytes
    then codes "'" ++ (bytes ++ codes "'")
    else codes "[" ++ (join_by decimal comma_space bytes ++ codes "]")

-- A line of a difference: a line feed, the indentation, and `field: actual != expected`.
abbrev pub diff_line : List ℕ → List ℕ → List ℕ → List ℕ → List ℕ
diff_line indentation field actual expected = 10 ∷ (indentation ++
    (field ++ (codes ": " ++ (actual ++ (codes " != " ++ expected)))))

-- The same line of two outputs; it is unspecified where one of them is.
abbrev pub diff_output : List ℕ → List ℕ → Option (List ℕ) → Option (List ℕ) → Option (List ℕ)
diff_output indentation field (Some actual) (Some expected) = Some (diff_line indentation field actual expected)
diff_output indentation field actual expected = None
