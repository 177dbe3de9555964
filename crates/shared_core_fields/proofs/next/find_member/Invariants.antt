use Rattle.std.proofs.Common.{◌≡◌, map, drop}
use Rattle.shared_core_codec.specs.ProgramRows.{field_view, member_numbered}
use Rattle.shared_core_fields.proofs.next.find_member.Given as goal

abbrev pub invariant-loop-member : goal.invariant-loop-member
invariant-loop-member l = member_numbered (map field_view (drop l.member-index l.members)) l.number ≡ member_numbered
    (map field_view l.members) l.number
