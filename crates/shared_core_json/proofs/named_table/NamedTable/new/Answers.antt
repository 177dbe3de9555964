use Rattle.std.proofs.Common.{◌∙◌, sym, ap}
use Rattle.shared_core_json.specs.LoadedNames.{all_names_view, name_error}
use Rattle.shared_core_json.proofs.SortedNames.{all_sorted}
use Rattle.shared_core_json.proofs.named_table.NamedTable.new.Goals as goal

pub invariant_of-result : goal.invariant_of-result
invariant_of-result g c = record {
  sorted = all_sorted 0 (all_names_view c.args.names.items)
      (sym (c.in_default.ensures ∙ ap (λ names. name_error (all_names_view names)) c.as_slice.ensures.value));
}
