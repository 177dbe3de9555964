use Rattle.std.proofs.Common.{◌≡◌, ◌++◌, drop, flat_map}
use Rattle.shared_core_codec.specs.ProgramRows.{kind_view}
use Rattle.shared_core_canonical.specs.Found.{found_records}
use Rattle.shared_core_canonical.specs.Rows.{scalar_element}
use Rattle.shared_core_canonical.proofs.elements.append_elements.Given as goal

abbrev pub invariant-loop-found : goal.invariant-loop-found
invariant-loop-found l =
    l.out.items ++ flat_map (scalar_element l.field.number (kind_view l.field.kind))
    (found_records (drop l.found-index l.source.records.now)) ≡
    l.initial.out.items ++ flat_map (scalar_element l.field.number (kind_view l.field.kind))
    (found_records l.source.records.now)
