-- Entries of metadata and pairs of texts.
use Rattle.std.proofs.Common.{◌≡◌, List, [], ◌∷◌, refl, ap, ◌∙◌, map}
use Rattle.std.specs.Prelude.{String}
use Rattle.std.specs.declared.alloc.Global.{Global}
use Rattle.shared_core_parts.specs.declared.failure_metadata.FailureMetadata.{FailureMetadata}

abbrev pub entry_of_pair : String Global × String Global → FailureMetadata
entry_of_pair pair = record { key = pair.0; value = pair.1 }

abbrev pub pair_of_entry : FailureMetadata → String Global × String Global
pair_of_entry entry = (entry.key, entry.value)

pub pairs_of_entries : (pairs : List (String Global × String Global)) → map pair_of_entry (map entry_of_pair pairs) ≡
    pairs
pairs_of_entries [] = refl
pairs_of_entries (pair ∷ pairs) = ap (λ others. pair ∷ others) (pairs_of_entries pairs)

pub entries_are_pairs : (entries : List FailureMetadata) (pairs : List (String Global × String Global)) → entries ≡ map
    entry_of_pair pairs → map pair_of_entry entries ≡ pairs
entries_are_pairs entries pairs are = ap (map pair_of_entry) are ∙ pairs_of_entries pairs
