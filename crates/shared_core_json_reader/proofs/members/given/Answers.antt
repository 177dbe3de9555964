use Rattle.std.proofs.Common.{◌∙◌, Some, ap, sym, arith}
use Rattle.shared_core_json_reader.specs.Rows.{in_schema}
use Rattle.json_table.proofs.Placing.{once_within}
use Rattle.shared_core_json_reader.specs.Places.{number_of, place_count}
use Rattle.shared_core_json_reader.proofs.Givens.{place_gives, given_at}
use Rattle.shared_core_json_reader.proofs.members.given.Goals as goal

pub first_present-requires : goal.first_present-requires
first_present-requires g c =
    once_within (number_of (g.T.ReadableSchemas.format c.args.schemas.now) c.args.places.now.schema) place_count
    c.args.field.now.number c.in-Once.left
    c.args.members.now c.args.places.now.numbered c.requires.places.say (omega arith) c.in-Once.is

pub returns-in-Absent-clause-given : goal.returns-in-Absent-clause-given
returns-in-Absent-clause-given g c =
    given_at (g.T.ReadableSchemas.format c.args.schemas.now) (g.met.T.ReadableSchemas.readable c.args.schemas.now)
    c.args.places.now.schema (in_schema (g.T.ReadableSchemas.format c.args.schemas.now) c.args.places.now.schema
    c.args.field.now) c.args.members.now
    c.args.places.now.numbered c.requires.field c.requires.places.say (omega arith)
    ∙ ap (place_gives c.args.members.now) c.in-Absent.is

pub returns-in-Once-clause-given : goal.returns-in-Once-clause-given
returns-in-Once-clause-given g c =
    given_at (g.T.ReadableSchemas.format c.args.schemas.now) (g.met.T.ReadableSchemas.readable c.args.schemas.now)
    c.args.places.now.schema (in_schema (g.T.ReadableSchemas.format c.args.schemas.now) c.args.places.now.schema
    c.args.field.now) c.args.members.now
    c.args.places.now.numbered c.requires.field c.requires.places.say (omega arith)
    ∙ ap (place_gives c.args.members.now) c.in-Once.is
    ∙ ap (λ o. Some o) (sym c.first_present.ensures)

pub returns-in-Several-clause-given : goal.returns-in-Several-clause-given
returns-in-Several-clause-given g c =
    given_at (g.T.ReadableSchemas.format c.args.schemas.now) (g.met.T.ReadableSchemas.readable c.args.schemas.now)
    c.args.places.now.schema (in_schema (g.T.ReadableSchemas.format c.args.schemas.now) c.args.places.now.schema
    c.args.field.now) c.args.members.now
    c.args.places.now.numbered c.requires.field c.requires.places.say (omega arith)
    ∙ ap (place_gives c.args.members.now) c.in-Several.is
