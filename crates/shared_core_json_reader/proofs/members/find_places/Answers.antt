use Rattle.std.proofs.Common.{◌∙◌, sym, ap₂}
use Rattle.json_table.specs.Places.{first_unknown as first_unplaced}
use Rattle.shared_core_json_reader.specs.Rows.{named_rows}
use Rattle.shared_core_json_reader.specs.Places.{number_of}
use Rattle.shared_core_json_reader.proofs.Givens.{same_unknown, known_true, known_false}
use Rattle.shared_core_json_reader.proofs.members.find_places.Goals as goal

pub returns-in-Ok-clause-unknown : goal.returns-in-Ok-clause-unknown
returns-in-Ok-clause-unknown g c =
    sym (same_unknown (g.T.ReadableSchemas.format c.args.schemas.now)
    (g.met.T.ReadableSchemas.readable c.args.schemas.now) c.args.schema c.args.members.now)
    ∙ ap₂ (λ t s. first_unplaced (number_of (g.T.ReadableSchemas.format t) s) c.args.members.now)
    (sym c.of.ensures.0) (sym c.of.ensures.1)
    ∙ c.in-Ok.ensures.known

pub returns-in-Ok-clause-known : goal.returns-in-Ok-clause-known
returns-in-Ok-clause-known g c =
    known_true (named_rows (g.T.ReadableSchemas.format c.args.schemas.now) c.args.schema) c.args.members.now
    (returns-in-Ok-clause-unknown g c)

pub returns-in-Err-clause-unknown : goal.returns-in-Err-clause-unknown
returns-in-Err-clause-unknown g c =
    sym (same_unknown (g.T.ReadableSchemas.format c.args.schemas.now)
    (g.met.T.ReadableSchemas.readable c.args.schemas.now) c.args.schema c.args.members.now)
    ∙ ap₂ (λ t s. first_unplaced (number_of (g.T.ReadableSchemas.format t) s) c.args.members.now)
    (sym c.of.ensures.0) (sym c.of.ensures.1)
    ∙ c.in-Err.ensures.known

pub returns-in-Err-clause-known : goal.returns-in-Err-clause-known
returns-in-Err-clause-known g c =
    known_false (named_rows (g.T.ReadableSchemas.format c.args.schemas.now) c.args.schema) c.args.members.now
    c.in-Err.key.now (returns-in-Err-clause-unknown g c)
