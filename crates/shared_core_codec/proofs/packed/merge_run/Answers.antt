use Rattle.std.proofs.Common.{◌≡◌, ◌<◌, ◌%◌, [], ◌∷◌, ◌++◌, length, Some, sym, ap, ◌∙◌, refl, rules}
use Rattle.std.proofs.lemmas.List.{nil_from_length, append-nil}
use Rattle.shared_core_wire.specs.Value.{Number}
use Rattle.shared_core_codec.proofs.Keeping.{same_elements, pushed_more}
use Rattle.shared_core_codec.proofs.PackedRuns.{packed_end}
use Rattle.shared_core_codec.proofs.PackedRuns.{packed_stop, packed_turn}
use Rattle.shared_core_codec.proofs.packed.merge_run.Goals as goal

pub returns-in_default-clause-computed : goal.returns-in_default-clause-computed
returns-in_default-clause-computed c =
    let some : 0 < length c.loop-rest.rest.now = search rules in
    sym c.loop-rest.invariant.same ∙ packed_stop c.loop-rest.numbers.items c.loop-rest.rest.now some
    c.in_default.ensures

pub loop-rest-smaller : goal.loop-rest-smaller
loop-rest-smaller c = (packed_turn c.loop-rest.numbers.items c.loop-rest.rest.now c.in-Some.number c.in-Some.after.now
    c.in-Some.ensures).shorter

pub loop-rest-preserved : goal.loop-rest-preserved
loop-rest-preserved c =
    let one_part = (packed_turn c.loop-rest.numbers.items c.loop-rest.rest.now c.in-Some.number c.in-Some.after.now
    c.in-Some.ensures).same in
    let pushed : c.push.new.self.items ≡ c.loop-rest.numbers.items ++ (c.in-Some.number % 4294967296) ∷ [] = search
    rules in
    record {
      same = rw pushed (sym one_part ∙ c.loop-rest.invariant.same);
      kept = pushed_more Number c.args.numbers.now.items c.loop-rest.numbers.items c.push.new.self.items
          (c.in-Some.number % 4294967296) pushed c.loop-rest.invariant.kept;
    }

pub loop-rest-init : goal.loop-rest-init
loop-rest-init c = record {
  same = refl;
  kept = same_elements Number c.args.numbers.now.items c.args.numbers.now.items
      refl;
}

pub returns-in_err-push-clause-kept : goal.returns-in_err-push-clause-kept
returns-in_err-push-clause-kept c =
    let rested : c.push.new.self.items ≡ c.loop-rest.numbers.items = search rules in
    rw rested c.loop-rest.invariant.kept

pub returns-clause-computed : goal.returns-clause-computed
returns-clause-computed c =
    let nil : length c.loop-rest.rest.now ≡ 0 = search rules in
    let nothing = nil_from_length c.loop-rest.rest.now nil in
    sym c.loop-rest.invariant.same ∙ rw nothing (packed_end c.loop-rest.numbers.items) ∙ ap (λ w. Some w)
    (append-nil c.loop-rest.numbers.items)
