-- How many items or members there are.
use Rattle.std.specs.Prelude.{ℕ, suc}
use Rattle.json.specs.Json.{Items, no_items, item, Members, no_members, member}

-- How many items there are.
abbrev pub items_count : Items → ℕ
items_count no_items = 0
items_count (item j js) = suc (items_count js)

-- How many members there are.
abbrev pub members_count : Members → ℕ
members_count no_members = 0
members_count (member k j ms) = suc (members_count ms)
