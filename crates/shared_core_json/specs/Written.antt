-- The tokens that are written for the fields of a value, one after the other.
use Rattle.std.specs.Prelude.{ℕ, Bool, List, [], ◌∷◌, ◌++◌, nat_eq, ◌==◌, if◌then◌else◌}
use Rattle.json.specs.Token.{Token, begin_array, end_array, key}
use Rattle.json.specs.Tree.{json_tokens}
use Rattle.shared_core_fields.specs.Fields.{FieldPart}
use Rattle.shared_core_wire.specs.Schema.{Table}
use Rattle.shared_core_json.specs.Fields.{Names, SchemaNames, NamedField, named}
use Rattle.shared_core_json.specs.Form.{part_json_in, writing}

-- The end of the open list: that of the field of this number, or none if it is 0.
abbrev pub end_tokens : ℕ → List Token
end_tokens open_list = if open_list == 0 then [] else end_array ∷ []

-- What comes before the value of a field: nothing if it is one more element of the open list, otherwise its name.
abbrev pub lead_tokens : ℕ → NamedField → List Token
lead_tokens open_list f = if nat_eq open_list f.number then [] else
    (end_tokens open_list ++ key f.name ∷ (if f.is_element then begin_array ∷ [] else []))

-- The list that is open after the value of a field.
abbrev pub open_list_after : NamedField → ℕ
open_list_after f = if f.is_element then f.number else 0

-- The tokens of fields of a table that have these names, where a list is open, and its end.
unfoldable pub fields_tokens : Table → Names → Bool → SchemaNames → ℕ → List FieldPart → List Token
fields_tokens table all_names texts names open_list [] = end_tokens open_list
fields_tokens table all_names texts names open_list (f ∷ fs) =
    lead_tokens open_list (named names f.0 f.1)
    ++ (json_tokens (part_json_in table all_names (writing texts names f.0) f.2 f.1.0)
    ++ fields_tokens table all_names texts names (open_list_after (named names f.0 f.1)) fs)
