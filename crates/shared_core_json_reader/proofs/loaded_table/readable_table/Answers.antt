use Rattle.std.proofs.Common.{◌≡◌, ◌∙◌, None, ap₂, subst, sym}
use Rattle.shared_core_codec.specs.LoadedRows.{schemas_view}
use Rattle.shared_core_json.specs.LoadedNames.{all_names_view}
use Rattle.shared_core_json_reader.specs.Readable.{AreNamedBy, none_unreadable, unreadable_from}
use Rattle.shared_core_json_reader.proofs.EnumLists.{enums_low}
use Rattle.shared_core_json_reader.proofs.loaded_table.readable_table.Goals as goal

pub invariant_of-result : goal.invariant_of-result
invariant_of-result c =
    let names = all_names_view c.args.names.items in
    let none : unreadable_from 0 names (schemas_view c.args.schemas.items) ≡ None =
    ap₂ (λ ns ss. unreadable_from 0 (all_names_view ns) (schemas_view ss)) (sym c.as_slice.ensures.value)
    (sym c.as_slice-2.ensures.value) ∙ sym c.in-Ok.ensures ∙ c.in_default.is in
    record {
      named = subst (λ table. AreNamedBy table names) (sym c.in-Ok-new.ensures.table)
          (none_unreadable 0 names (schemas_view c.args.schemas.items) none);
      low = enums_low c.args.enums;
    }
