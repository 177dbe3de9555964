use Rattle.std.proofs.Common.{arith, rules}
use Rattle.std.specs.List.Sorted.{IsStableByKey}
use Rattle.std.specs.Ordering.{nat_cmp}
use Rattle.std.proofs.lemmas.List.Sorted.{IsNonDecreasingBy-from_sort_by_key, answers_always}
use Rattle.shared_core_canonical.specs.declared.places.Placed.{Placed}
use Rattle.shared_core_canonical.proofs.ByPlace.{on_ok, rises, stays}
use Rattle.shared_core_canonical.proofs.places.sort_by_place.Goals as goal

pub returns : goal.returns
returns g c =
    let old = c.args.placed.now.items in
    let new = c.sort_by_key.new.self.items in
    let stable : IsStableByKey (λ (p : Placed g.row.T.Denot). p.place) nat_cmp old new =
    c.sort_by_key.ensures.stable (λ p. p.place) (answers_always _ _ _ (λ f a r q k. search rules)) in
    on_ok c.sort_by_key.result (λ sorted. record {
      rising = rises 0 new (IsNonDecreasingBy-from_sort_by_key (λ p. p.place) new sorted (λ a r q k. search rules))
          (λ d h. omega arith);
      same = stays old new (omega (arith, c.sort_by_key.ensures.len)) stable;
    }) c.sort_by_key.ensures.sorted
