use Rattle.std.proofs.Common.{arith}
use Rattle.json_table.proofs.Placing.{once_within}
use Rattle.shared_core_json_reader.specs.Places.{number_of, place_count}
use Rattle.shared_core_json_reader.proofs.members.likely.Goals as goal

pub first_present-requires : goal.first_present-requires
first_present-requires g c =
    once_within (number_of (g.T.ReadableSchemas.format c.args.schemas.now) c.args.places.now.schema) place_count
    c.args.field.now.number c.in-Once.left
    c.args.members.now c.args.places.now.numbered c.requires.say (omega arith) c.in-Once.is
