use Rattle.std.proofs.Common.{◌≡◌, drop}
use Rattle.std.proofs.Common.{map}
use Rattle.std.specs.List.{list_all}
use Rattle.shared_core_wire.specs.Schema.{includes}
use Rattle.shared_core_codec.specs.ProgramRows.{field_view}
use Rattle.shared_core_json.specs.LoadedNames.{names_view}
use Rattle.shared_core_json_reader.specs.Readable.{numbers_of}
use Rattle.shared_core_json_reader.proofs.name_checks.members_listed.Given as goal

abbrev pub invariant-loop-member : goal.invariant-loop-member
invariant-loop-member l =
    list_all (includes (numbers_of (names_view l.names)))
    (map (λ m. m.0) (map field_view (drop l.member-index l.members)))
    ≡ list_all (includes (numbers_of (names_view l.names))) (map (λ m. m.0) (map field_view l.members))
