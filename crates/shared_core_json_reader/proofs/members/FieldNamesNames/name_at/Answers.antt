use Rattle.std.proofs.Common.{◌≡◌, Some, subst}
use Rattle.shared_core_json_reader.specs.Places.{number_of}
use Rattle.shared_core_json_reader.proofs.NamesApart.{name_here, likely_within}
use Rattle.shared_core_json_reader.proofs.members.FieldNamesNames.name_at.Goals as goal

pub returns : goal.returns
returns g c =
    let self = c.args.self.now in
    let names = self.likely.now in
    let within = likely_within names c.args.index c.requires in
    subst (λ x. number_of (g.T.ReadableSchemas.format self.schemas.now) self.schema x.1 ≡ Some x.0)
    (name_here names c.args.index _ within) (self.finding c.args.index within)
