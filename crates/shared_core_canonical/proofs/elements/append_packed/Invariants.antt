use Rattle.std.proofs.Common.{◌≡◌, ◌++◌, length, true}
use Rattle.std.specs.Option.{is_some}
use Rattle.shared_core_wire.specs.Reader.{packed_numbers}
use Rattle.shared_core_codec.specs.ProgramRows.{kind_view}
use Rattle.shared_core_canonical.specs.Rows.{found_varints}
use Rattle.shared_core_canonical.proofs.elements.append_packed.Given as goal

abbrev pub invariant-loop-rest : goal.invariant-loop-rest
invariant-loop-rest l = record {
  packed : is_some (packed_numbers l.rest) ≡ true;
  written : l.run.items ++ found_varints (kind_view l.kind) (packed_numbers l.rest) ≡ l.initial.run.items ++
      found_varints
      (kind_view l.kind) (packed_numbers l.packed);
}

abbrev pub decreases-loop-rest : goal.decreases-loop-rest
decreases-loop-rest l = length l.rest
