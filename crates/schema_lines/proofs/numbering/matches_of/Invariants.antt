use Rattle.std.proofs.Common.{◌≡◌, ◌++◌, All, drop, map}
use Rattle.shared_core_json.specs.Fields.{name_view}
use Rattle.schema_lines.specs.Numberings.{IsMatch}
use Rattle.schema_lines.specs.Entries.{matches_in}
use Rattle.schema_lines.proofs.numbering.matches_of.Given as goal

abbrev pub invariant-loop-name : goal.invariant-loop-name
invariant-loop-name l =
    All (IsMatch l.paired.schema) l.matches.items
    × (l.matches.items ++ matches_in l.paired.set.now l.paired.pairs.now.named.items l.paired.schema
    l.paired.fields.now (map name_view (drop l.name-index l.names))
    ≡ matches_in l.paired.set.now l.paired.pairs.now.named.items l.paired.schema l.paired.fields.now
    (map name_view l.names))
