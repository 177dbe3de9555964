use Rattle.std.proofs.Common.{◌≡◌, ◌++◌, drop, flat_map, true}
use Rattle.std.specs.List.{list_all}
use Rattle.shared_core_codec.specs.ProgramRows.{kind_view}
use Rattle.shared_core_canonical.specs.Found.{found_records}
use Rattle.shared_core_canonical.specs.Rows.{run_record, run_allows}
use Rattle.shared_core_canonical.proofs.elements.append_run.Given as goal

abbrev pub invariant-loop-found : goal.invariant-loop-found
invariant-loop-found l = record {
  allowed : list_all (run_allows l.field.number) (found_records (drop l.found-index l.source.records.now)) ≡ true;
  written : l.run.items ++ flat_map (run_record l.field.number (kind_view l.field.kind))
      (found_records (drop l.found-index l.source.records.now)) ≡ flat_map
      (run_record l.field.number (kind_view l.field.kind)) (found_records l.source.records.now);
}
