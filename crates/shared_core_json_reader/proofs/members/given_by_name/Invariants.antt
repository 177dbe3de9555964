use Rattle.std.proofs.Common.{◌≡◌, ◌++◌}
use Rattle.std.specs.Option.{option_to_list}
use Rattle.json_table.specs.Counts.{members_count}
use Rattle.shared_core_json_reader.specs.Rows.{in_schema}
use Rattle.shared_core_json_reader.specs.Reading.{values_named}
use Rattle.shared_core_json_reader.proofs.members.given_by_name.Given as goal

abbrev pub invariant-loop-key : goal.invariant-loop-key
invariant-loop-key g l = option_to_list l.found ++ values_named
    (in_schema (g.T.ReadableSchemas.format l.schemas) l.schema l.field) l.rest ≡ values_named
    (in_schema (g.T.ReadableSchemas.format l.schemas) l.schema l.field) l.members

abbrev pub decreases-loop-key : goal.decreases-loop-key
decreases-loop-key g l = members_count l.rest
