use Rattle.std.proofs.Common.{◌≡◌, drop}
use Rattle.shared_core_json_reader.specs.LoadedEnums.{enum_of, fields_view}
use Rattle.shared_core_json_reader.proofs.loaded_enums.enum_of.Given as goal

abbrev pub invariant-loop-field : goal.invariant-loop-field
invariant-loop-field l =
    enum_of (fields_view (drop l.field-index l.fields)) l.number ≡ enum_of (fields_view l.fields) l.number
