use Rattle.std.proofs.Common.{◌≡◌, drop}
use Rattle.list_lines.specs.Listing.{name_at}
use Rattle.list_lines.proofs.names.name_at.Given as goal

abbrev pub invariant-loop-name : goal.invariant-loop-name
invariant-loop-name l = name_at (drop l.name-index l.names) l.code ≡ name_at l.names l.code
