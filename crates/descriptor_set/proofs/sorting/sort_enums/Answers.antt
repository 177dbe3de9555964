use Rattle.std.proofs.Common.{rules}
use Rattle.std.proofs.lemmas.List.Sorted.{answers_always, ranks_by}
use Rattle.std.specs.String.{string_cmp_total}
use Rattle.descriptor_set.specs.declared.set.EnumDescriptor.{EnumDescriptor}
use Rattle.descriptor_set.specs.Sets.{enum_less}
use Rattle.descriptor_set.proofs.Readings.{on_ok}
use Rattle.descriptor_set.proofs.sorting.sort_enums.Goals as goal

pub returns : goal.returns
returns c =
    let ranks = ranks_by string_cmp_total (λ (x : EnumDescriptor). x.name) in
    on_ok c.sort_by.result (λ sorted. record {
      same = c.sort_by.ensures.permutation;
      rising = sorted enum_less ranks (answers_always _ _ _ (λ f a r q k. search rules));
      stable = c.sort_by.ensures.stable enum_less ranks (answers_always _ _ _ (λ f a r q k. search rules));
    }) c.sort_by.ensures.sorted
