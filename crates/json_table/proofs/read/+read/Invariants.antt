use Rattle.std.proofs.Common.{◌≡◌, ℕ, suc, ◌+◌, ◌*◌, ◌≤◌, ◌∷◌, ◌++◌, length, map}
use Rattle.json.specs.Json.{Items, Members, items, members, value, parse_map}
use Rattle.json_table.specs.Entries.{array, object}
use Rattle.json_table.specs.Views.{entry_view}
use Rattle.json_table.proofs.Turns.{and_items, and_members, items_front, members_front}
use Rattle.json_table.proofs.read.+read.Given as goal

abbrev pub decreases-read_value : goal.decreases-read_value
decreases-read_value l = 2 * l.depth

abbrev pub decreases-read_array : goal.decreases-read_array
decreases-read_array l = 2 * l.depth + 1

abbrev pub decreases-read_object : goal.decreases-read_object
decreases-read_object l = 2 * l.depth + 1

abbrev pub invariant-read_array-loop-reader : goal.invariant-read_array-loop-reader
invariant-read_array-loop-reader l =
    (n : ℕ) × (js : Items) × (length l.reader ≤ n) × (items (value l.depth) (length l.initial.reader) l.initial.reader ≡
    parse_map (and_items js) (items (value l.depth) n l.reader))
    × (length l.reader ≤ length l.initial.reader) × (l.at ≡ length l.fn.entries.items)
    × (map entry_view l.entries.items ≡ map entry_view l.fn.entries.items ++ array 0 ∷ items_front (suc (length
    l.fn.entries.items)) js)

abbrev pub decreases-read_array-loop-reader : goal.decreases-read_array-loop-reader
decreases-read_array-loop-reader l = length l.reader

abbrev pub invariant-read_object-loop-key : goal.invariant-read_object-loop-key
invariant-read_object-loop-key l =
    (n : ℕ) × (ms : Members) × (length l.reader ≤ n) × (members (value l.depth) (length l.initial.reader)
    l.initial.reader ≡ parse_map (and_members ms) (members (value l.depth) n l.reader))
    × (length l.reader ≤ length l.initial.reader) × (l.at ≡ length l.fn.entries.items)
    × (map entry_view l.entries.items ≡ map entry_view l.fn.entries.items ++ object 0 ∷ members_front (suc (length
    l.fn.entries.items)) ms)

abbrev pub decreases-read_object-loop-key : goal.decreases-read_object-loop-key
decreases-read_object-loop-key l = length l.reader
