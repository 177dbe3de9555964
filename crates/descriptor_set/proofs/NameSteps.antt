-- The names of a table.
use Rattle.std.proofs.Common.{◌≡◌, List, Vec, ap, ◌∙◌}
use Rattle.std.specs.declared.alloc.Global.{Global}
use Rattle.shared_core_json.specs.LoadedNames.{all_digits_view, all_names_view, loaded_names}
use Rattle.shared_core_json.specs.declared.loaded_names.LoadedName.{LoadedName}
use Rattle.descriptor_set.specs.declared.set.DescriptorSet.{DescriptorSet}
use Rattle.descriptor_set.specs.TableNames.{all_digits, all_names, names_by, set_names}

-- The names by lists that are those of a set.
pub same_names : (set : DescriptorSet) (all : List (Vec LoadedName Global)) → all_names_view all ≡ all_names set
    → all_digits_view all ≡ all_digits set → loaded_names all ≡ set_names set
same_names set all names digits =
    ap (λ one. names_by one (all_digits_view all)) names ∙ ap (λ one. names_by (all_names set) one) digits
