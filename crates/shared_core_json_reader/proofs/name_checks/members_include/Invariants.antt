use Rattle.std.proofs.Common.{◌≡◌, drop}
use Rattle.std.proofs.Common.{map}
use Rattle.shared_core_wire.specs.Schema.{includes}
use Rattle.shared_core_codec.specs.ProgramRows.{field_view}
use Rattle.shared_core_json_reader.proofs.name_checks.members_include.Given as goal

abbrev pub invariant-loop-member : goal.invariant-loop-member
invariant-loop-member l =
    includes (map (λ m. m.0) (map field_view (drop l.member-index l.members))) l.number
    ≡ includes (map (λ m. m.0) (map field_view l.members)) l.number
