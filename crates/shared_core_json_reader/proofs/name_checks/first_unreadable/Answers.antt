use Rattle.std.proofs.Common.{◌≡◌, ◌∙◌, false, nat_eq, length, sym, rules}
use Rattle.shared_core_json_reader.proofs.FormatRows.{more_names}
use Rattle.shared_core_json_reader.proofs.name_checks.first_unreadable.Goals as goal

pub returns-else-is_empty : goal.returns-else-is_empty
returns-else-is_empty c =
    let none : length c.loop-rows.rest.now ≡ 0 = search rules in
    let some : nat_eq (length c.loop-rows.names.now) 0 ≡ false = search rules in
    sym (more_names c.loop-rows.schema c.loop-rows.names.now c.loop-rows.rest.now none some) ∙ c.loop-rows.invariant.1
