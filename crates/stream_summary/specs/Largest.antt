-- The items with the longest payloads.
use Rattle.std.specs.Prelude.{ℕ, List, [], ◌++◌, codes, decimal, nat_le, nat_eq, if◌then◌else◌, string_bytes}
use Rattle.stream_summary.specs.declared.largest.Large.{Large}
use Rattle.stream_summary.specs.declared.largest.Largest.{Largest}

-- An item with a long payload: its size, which is 0 of no item, and the text by which lines name it.
pub record Long : Type 0 where
  pub size : ℕ
  pub text : List ℕ

-- The three items with the longest payloads.
pub record Longest : Type 0 where
  pub first : Long
  pub second : Long
  pub third : Long

-- What the program has of an item.
abbrev pub large_view : Large → Long
large_view large = record { size = large.size; text = string_bytes large.text }

-- What the program has of the three.
abbrev pub largest_view : Largest → Longest
largest_view largest = record {
  first = large_view largest.first;
  second = large_view largest.second;
  third = large_view largest.third;
}

-- No item.
abbrev pub nothing_long : Long
nothing_long = record { size = 0; text = [] }

-- Those of no item.
abbrev pub nothing_large : Longest
nothing_large = record { first = nothing_long; second = nothing_long; third = nothing_long }

-- The three after one more item: it comes after those that are not shorter, and the last of four is none of the three.
abbrev pub largest_with : Long → Longest → Longest
largest_with item l =
    if nat_le item.size l.third.size then l else
    (if nat_le item.size l.second.size then record { first = l.first; second = l.second; third = item } else
    (if nat_le item.size l.first.size then record { first = l.first; second = item; third = l.second }
    else record { first = item; second = l.first; third = l.second }))

-- The line of an item; nothing of no item.
abbrev pub large_line : Long → List ℕ
large_line item =
    if nat_eq item.size 0 then [] else
    codes "large: " ++ (decimal item.size ++ (codes " bytes, " ++ (item.text ++ codes "\n")))

-- The lines of the three.
abbrev pub largest_lines : Longest → List ℕ
largest_lines l = large_line l.first ++ (large_line l.second ++ large_line l.third)
