use Rattle.std.proofs.Common.{◌≡◌, ◌<◌, ◌-◌, ℕ, List, [], ◌∷◌, map, Option, Some, None, sym, ap, ◌∙◌, rules}
use Rattle.std.proofs.Common.{length, arith}
use Rattle.std.proofs.lemmas.List.{nil_from_length}
use Rattle.std.specs.Prelude.{is_some}
use Rattle.shared_core_wire.specs.Reader.{record_at}
use Rattle.shared_core_wire.specs.ReadRecords.{records_past}
use Rattle.shared_core_wire.specs.Value.{Part}
use Rattle.shared_core_wire.specs.Schema.{Kind}
use Rattle.shared_core_wire.specs.Grammar.{content}
use Rattle.shared_core_wire.proofs.ReadRecords.{read_nil}
use Rattle.shared_core_codec.specs.ProgramRows.{found_view}
use Rattle.shared_core_codec.specs.Canonicity.{Next}
use Rattle.shared_core_fields.specs.Coming.{next_parts}
use Rattle.shared_core_fields.specs.Fields.{FieldPart, record_part_in}
use Rattle.shared_core_fields.specs.Views.{PlacedField, GivenField, content_offset, given, given_left, item_fields_in}
use Rattle.shared_core_fields.specs.Views.{value_kind, value_part, value_bytes}
use Rattle.shared_core_fields.proofs.Fronts.{Turn, front, front_known, front_next, offset_is, turn}
use Rattle.shared_core_fields.proofs.fields.FieldsIterator.next.Goals as goal
use Rattle.shared_core_fields.proofs.fields.FieldsIterator.next.Goals.{After-known_value-value}

abbrev placed : FieldPart → List ℕ → ℕ → PlacedField
placed f bytes offset = record { field = f; bytes = bytes; offset = offset }

abbrev give : {T : Type 0} → PlacedField → Option T → GivenField T
give f schemas = record { placed = f; schemas = schemas }

pub returns-then-is_empty-clause-steps : goal.returns-then-is_empty-clause-steps
unfolding given_left
returns-then-is_empty-clause-steps g c =
    let s = c.args.self.now in
    let table = g.T.Tabled.table_of s.schemas in
    let rows = map g.T.Row.SchemaRow.view s.rows.now in
    let none : length s.rest.now ≡ 0 = search rules in
    let nil : records_past (record_at 0) s.end 0 s.rest.now ≡ [] = ap (records_past (record_at 0) s.end 0)
    (nil_from_length s.rest.now none) ∙ read_nil (record_at 0) s.end in
    let ends = ap (map (given s.schemas)) (ap (item_fields_in table rows) nil) in
    (ends, ends)

pub known_front-number-requires : goal.known_front-number-requires
known_front-number-requires g c =
    let s = c.args.self.now in
    let some : 0 < length s.rest.now = search rules in
    ap is_some (front (g.T.Tabled.table_of s.schemas) (map g.T.Row.SchemaRow.view s.rows.now) s.end s.rest.now some
    s.coming).front_is

pub known_next-requires : goal.known_next-requires
known_next-requires g c =
    let s = c.args.self.now in
    let table = g.T.Tabled.table_of s.schemas in
    let rows = map g.T.Row.SchemaRow.view s.rows.now in
    let some : 0 < length s.rest.now = search rules in
    let key = c.known_front-number.result in
    front_next table rows s.end s.rest.now (front table rows s.end s.rest.now some s.coming) key.0 key.1 key.2 key.3.now
    c.known_front-number.ensures

pub known_value-value-requires : goal.known_value-value-requires
known_value-value-requires g c =
    let s = c.args.self.now in
    let table = g.T.Tabled.table_of s.schemas in
    let rows = map g.T.Row.SchemaRow.view s.rows.now in
    let some : 0 < length s.rest.now = search rules in
    let key = c.known_front-number.result in
    front_known table rows s.end s.rest.now (front table rows s.end s.rest.now some s.coming) key.0 key.1 key.2
    key.3.now c.known_front-number.ensures (next_parts g.T.Row.SchemaRow.view c.known_next.result)
    c.known_next.ensures

turned : (g : _) (c : After-known_value-value g) → Turn (g.T.Tabled.table_of c.args.self.now.schemas)
    (map g.T.Row.SchemaRow.view c.args.self.now.rows.now) c.args.self.now.end c.args.self.now.rest.now
    c.known_front-number.result.0 (next_parts g.T.Row.SchemaRow.view c.known_next.result)
    (value_kind c.known_value-value.result.0) (value_part c.known_value-value.result.0) (value_bytes
    c.known_value-value.result.0)
    c.known_value-value.result.1.now c.known_front-number.result.1 c.known_front-number.result.2
    c.known_front-number.result.3.now
turned g c =
    let s = c.args.self.now in
    let table = g.T.Tabled.table_of s.schemas in
    let rows = map g.T.Row.SchemaRow.view s.rows.now in
    let some : 0 < length s.rest.now = search rules in
    let key = c.known_front-number.result in
    let read = c.known_value-value.result in
    turn table rows s.end s.rest.now (front table rows s.end s.rest.now some s.coming) key.0 key.1 key.2 key.3.now
    c.known_front-number.ensures (next_parts g.T.Row.SchemaRow.view c.known_next.result) (value_kind read.0)
    (value_part read.0) (value_bytes read.0) read.1.now c.known_next.ensures c.known_value-value.ensures.parts

pub invariant_of-self : goal.invariant_of-self
invariant_of-self g c = record {
  inside = omega (
    arith,
    (turned g (goal.at.invariant_of-self g c).After-known_value-value).shorter,
    c.args.self.now.inside,
  );
  coming = (turned g (goal.at.invariant_of-self g c).After-known_value-value).coming;
}

pub returns-clause-steps : goal.returns-clause-steps
unfolding given_left
returns-clause-steps g c =
    let s = c.args.self.now in
    let table = g.T.Tabled.table_of s.schemas in
    let rows = map g.T.Row.SchemaRow.view s.rows.now in
    let key = c.known_front-number.result in
    let n = key.0 in
    let value = c.known_value-value.result.0 in
    let after = c.known_value-value.result.1.now in
    let left = records_past (record_at 0) s.end 0 after in
    let to = s.end - length after in
    let repeated = c.known_next.result.0.is_repeated in
    let rest = item_fields_in table (map g.T.Row.SchemaRow.view c.known_next.result.2.now) left in
    let t = turned g (goal.at.returns-clause-steps g c).After-known_value-value in
    let w = t.value in
    let found = found_view c.known_next.result.0 in
    let offset = offset_is key.1 key.2 s.end key.3.now after w t.value_is in
    let offset_at = c.content_offset-offset.result in
    let last = placed (n, (value_kind value, repeated), value_part value) (value_bytes value) offset_at in
    ap (map (given s.schemas)) (ap (item_fields_in table rows) t.items
    ∙ ap (λ (o : Option Next). elim o [
      | None ↦ []
      | Some next ↦ placed (n, next.field, record_part_in table next.field w) (content w) (content_offset w to)
          ∷ item_fields_in table next.rows left
    ]) (sym c.known_next.ensures)
    ∙ ap (λ (p : Part). placed (n, found, p) (content w) (content_offset w to) ∷ rest) t.part
    ∙ ap (λ (k : Kind). placed (n, (k, repeated), value_part value) (content w) (content_offset w to) ∷ rest) t.kind
    ∙ ap (λ (bytes : List ℕ). placed (n, (value_kind value, repeated), value_part value) bytes (content_offset w to)
    ∷ rest) t.content_is
    ∙ ap (λ (offset : ℕ). placed (n, (value_kind value, repeated), value_part value) (value_bytes value) offset ∷ rest)
    (sym (c.content_offset-offset.ensures ∙ offset)))
    ∙ ap (λ o. give last o ∷ map (given s.schemas) rest) (sym c.known_value-value.ensures.schemas)

pub returns-clause-goes : goal.returns-clause-goes
unfolding given_left
returns-clause-goes g c =
    let s = c.args.self.now in
    let table = g.T.Tabled.table_of s.schemas in
    let rows = map g.T.Row.SchemaRow.view s.rows.now in
    let n = c.known_front-number.result.0 in
    let after = c.known_value-value.result.1.now in
    let left = records_past (record_at 0) s.end 0 after in
    let to = s.end - length after in
    let t = turned g (goal.at.returns-clause-goes g c).After-known_value-value in
    let w = t.value in
    let steps = ap (map (given s.schemas)) (ap (item_fields_in table rows) t.items
    ∙ ap (λ (o : Option Next). elim o [
      | None ↦ []
      | Some next ↦ placed (n, next.field, record_part_in table next.field w) (content w) (content_offset w to)
          ∷ item_fields_in table next.rows left
    ]) (sym c.known_next.ensures)) in
    let more = ap length steps in
    search rules
