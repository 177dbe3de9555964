-- Counts of items.
use Rattle.std.specs.Prelude.{ℕ, ◌+◌, Bool, List, ◌++◌, codes, decimal, if◌then◌else◌}
use Rattle.stream_summary.specs.declared.count.Count.{Count}

-- The count of no item.
abbrev pub no_items : Count
no_items = record { items = 0; bytes = 0 }

-- A count with one more item of this size, if that is one of those that are counted.
abbrev pub count_with : Bool → ℕ → Count → Count
count_with counted size count =
    if counted then record { items = count.items + 1; bytes = count.bytes + size } else count

-- The line of a count.
abbrev pub count_line : List ℕ → Count → List ℕ
count_line name count =
    name ++ (codes ": " ++ (decimal count.items ++ (codes " of " ++ (decimal count.bytes ++ codes " bytes\n"))))
