-- The members at the end of an object.
use Rattle.std.specs.Prelude.{◌≡◌, ℕ, ◌==◌, if◌then◌else◌}
use Rattle.json.specs.Json.{Members, no_members, member}
use Rattle.json_table.specs.Entries.{members_len}

-- Those of these members, at the end, that have this many entries; none if there are no such members.
abbrev pub last_members : ℕ → Members → Members
last_members n no_members = no_members
last_members n (member k j ms) = if n == members_len (member k j ms) then member k j ms else last_members n ms

-- There are such members.
pub record IsTail (n : ℕ) (ms : Members) : Type 0 where
  pub len : members_len (last_members n ms) ≡ n
