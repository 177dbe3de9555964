use Rattle.std.proofs.Common.{rules}
use Rattle.std.proofs.lemmas.Cmp.{nat_cmp_total}
use Rattle.std.proofs.lemmas.List.Sorted.{IsNonDecreasingBy-from_sort_by, answers_always, ranks_by}
use Rattle.std.specs.Ordering.{is_lt, nat_cmp}
use Rattle.descriptor_set.specs.declared.field.FieldDescriptor.{FieldDescriptor}
use Rattle.descriptor_set.proofs.Readings.{on_ok}
use Rattle.descriptor_set.proofs.fields.sort_fields.Goals as goal

pub returns : goal.returns
returns c =
    let new = c.sort_by.new.self.items in
    on_ok c.sort_by.result (λ sorted. record {
      same = c.sort_by.ensures.permutation;
      rising = IsNonDecreasingBy-from_sort_by (λ (f : FieldDescriptor). f.number) new sorted (λ a r q k. search rules);
      stable = c.sort_by.ensures.stable (λ (x y : FieldDescriptor). is_lt (nat_cmp x.number y.number))
          (ranks_by nat_cmp_total (λ (f : FieldDescriptor). f.number))
          (answers_always _ _ _ (λ f a r q k. search rules));
    }) c.sort_by.ensures.sorted
