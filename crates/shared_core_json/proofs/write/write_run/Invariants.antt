use Rattle.std.proofs.Common.{◌≡◌, ◌++◌, true}
use Rattle.std.specs.List.{list_all}
use Rattle.json.specs.Tree.{items_tokens}
use Rattle.shared_core_wire.specs.Schema.{Table}
use Rattle.shared_core_wire.specs.Value.{Number}
use Rattle.shared_core_codec.specs.FieldParts.{parts_of}
use Rattle.shared_core_codec.specs.ProgramRows.{kind_view}
use Rattle.shared_core_fields.specs.Runs.{held_numbers, numbers_left}
use Rattle.shared_core_fields.proofs.NumberParts.{is_held}
use Rattle.shared_core_json.specs.Fields.{Names}
use Rattle.shared_core_json.specs.Form.{Writing, items_json_in}
use Rattle.shared_core_json.proofs.write.write_run.Given as goal

abbrev pub invariant-loop-number : goal.invariant-loop-number
invariant-loop-number l = record {
  tokens : (table : Table) (all_names : Names) (w : Writing) → w.digits ≡ l.how
      → l.out.tokens ++ items_tokens (items_json_in table all_names w (parts_of Number (numbers_left l.number-iterator))
      (kind_view l.run.kind))
      ≡ l.initial.out.tokens ++ items_tokens (items_json_in table all_names w
      (parts_of Number (held_numbers (kind_view l.run.kind) l.run.bytes.now)) (kind_view l.run.kind));
  held : list_all (is_held (kind_view l.run.kind)) (numbers_left l.number-iterator) ≡ true;
  before : l.out.before ≡ l.fn.out.before;
}
