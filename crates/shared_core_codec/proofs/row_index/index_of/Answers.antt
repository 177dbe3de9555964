use Rattle.std.proofs.Common.{subst, rules}
use Rattle.std.specs.List.Sorted.{IsPermutation}
use Rattle.std.proofs.lemmas.List.Sorted.{IsNonDecreasingBy-from_sort_by_key}
use Rattle.shared_core_wire.proofs.Runs.{and_split}
use Rattle.shared_core_codec.specs.LoadedRows.{rows_view}
use Rattle.shared_core_codec.proofs.Indexing.{number_of, sorted_index}
use Rattle.shared_core_codec.proofs.row_index.index_of.Goals as goal

pub returns : goal.returns
returns c =
    let sorted = c.sort_unstable_by_key.new.self.items in
    sorted_index (rows_view c.args.rows.now) sorted (and_split _ _ (and_split _ _ c.requires).0).1
    (subst (λ places. IsPermutation places sorted) c.in_ok-index.ensures c.sort_unstable_by_key.ensures.permutation)
    (IsNonDecreasingBy-from_sort_by_key number_of sorted c.sort_unstable_by_key.ensures.sorted
    (λ a r q k. search rules))
