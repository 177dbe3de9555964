use Rattle.std.proofs.Common.{◌≡◌, ◌<◌, ◌++◌, List, ℕ, length, ap, ◌∙◌, rules}
use Rattle.std.proofs.lemmas.List.{nil_from_length}
use Rattle.shared_core_wire.specs.Encoding.{shortest_varint}
use Rattle.shared_core_wire.specs.Reader.{packed_numbers}
use Rattle.shared_core_codec.specs.ProgramRows.{kind_view}
use Rattle.shared_core_canonical.specs.Rows.{found_varints, rewritten_number}
use Rattle.shared_core_canonical.proofs.Runs.{turn, run_stops, run_ends}
use Rattle.shared_core_canonical.proofs.elements.append_packed.Goals as goal

pub returns-in_default : goal.returns-in_default
returns-in_default c =
    let some : 0 < length c.loop-rest.rest.now = search rules in
    absurd (run_stops c.loop-rest.rest.now some c.in_default.ensures c.loop-rest.invariant.packed)

pub loop-rest-smaller : goal.loop-rest-smaller
loop-rest-smaller c = (turn (kind_view c.args.kind) c.loop-rest.run.items c.loop-rest.rest.now c.in-Some.number
    c.in-Some.after.now
    c.in-Some.ensures).shorter

pub loop-rest-preserved : goal.loop-rest-preserved
loop-rest-preserved c =
    let t = turn (kind_view c.args.kind) c.loop-rest.run.items c.loop-rest.rest.now c.in-Some.number c.in-Some.after.now
    c.in-Some.ensures in
    let written : c.append_varint.new.out.items ≡ c.loop-rest.run.items ++ shortest_varint
    (rewritten_number (kind_view c.args.kind) c.in-Some.number) = search rules in
    record {
      packed = t.packed c.loop-rest.invariant.packed;
      written =
          ap (λ (xs : List ℕ). xs ++ found_varints (kind_view c.args.kind) (packed_numbers c.in-Some.after.now)) written
          ∙ t.written c.loop-rest.invariant.packed ∙ c.loop-rest.invariant.written;
    }

pub returns : goal.returns
returns c =
    let nil : length c.loop-rest.rest.now ≡ 0 = search rules in
    run_ends (kind_view c.args.kind) c.loop-rest.run.items c.loop-rest.rest.now _ (nil_from_length c.loop-rest.rest.now
    nil)
    c.loop-rest.invariant.written
