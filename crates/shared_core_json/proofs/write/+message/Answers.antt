use Rattle.std.proofs.Common.{◌≡◌, ◌^◌, List, ◌++◌, ◌∷◌, [], true, refl, ap, sym, ◌∙◌, arith, rules, subst, map}
use Rattle.std.proofs.lemmas.Result.{on_ok_weaker}
use Rattle.json.specs.Token.{number, string}
use Rattle.json.specs.Tree.{json_tokens}
use Rattle.shared_core_wire.specs.Overlay.{meaning}
use Rattle.shared_core_wire.specs.Canonical.{levels}
use Rattle.shared_core_wire.specs.Schema.{Message}
use Rattle.shared_core_wire.specs.Value.{Nested}
use Rattle.shared_core_codec.specs.Canonicity.{IsCanonicalIn, is_canonical_payload_in}
use Rattle.shared_core_codec.specs.Tables.{IsTable}
use Rattle.shared_core_codec.proofs.CanonicityIn.{sound}
use Rattle.shared_core_fields.specs.Fields.{FieldPart}
use Rattle.shared_core_fields.specs.Views.{EachIsOf, field_part, fields_left, given_left, placed_of}
use Rattle.shared_core_fields.specs.Views.{unplaced}
use Rattle.shared_core_fields.specs.declared.fields.FieldValue.TheVariants as v
use Rattle.shared_core_json.specs.Form.{digits_of, part_json_in, writing}
use Rattle.shared_core_json.specs.declared.digits.Digits.{Digits}
use Rattle.shared_core_json.specs.Written.{fields_tokens}
use Rattle.shared_core_json.proofs.Members.{AllLow, low_message, turn, whole}
use Rattle.shared_core_json.proofs.Values.{shown, flag_shown, deeper, same_table}
use Rattle.shared_core_json.proofs.write.+message.Goals as goal

pub write_value-overflow_sub-left : goal.write_value-overflow_sub-left
write_value-overflow_sub-left g t c = omega (
  arith,
  deeper _ c.in-Message.message c.args.left c.in-Message.is c.requires.deep,
)

pub write_value-returns-in-U32-clause-tokens : goal.write_value-returns-in-U32-clause-tokens
unfolding part_json_in
write_value-returns-in-U32-clause-tokens g t c =
    let names = g.T.NamedSchemas.names c.args.form.form.schemas in
    shown (g.T.Tabled.table_of c.args.form.form.schemas) names c.write_u32.result _ _ _
    (writing c.args.form.form.texts (names c.args.form.schema) c.args.form.number) _ (v.U32 c.in-U32.number) c.in-U32.is
    c.write_u32.ensures.tokens (ap (λ (how : Digits). number (digits_of how (2 ^ 31) c.in-U32.number) ∷ [])
    c.digits.ensures)

pub write_value-returns-in-U64-clause-tokens : goal.write_value-returns-in-U64-clause-tokens
unfolding part_json_in
write_value-returns-in-U64-clause-tokens g t c =
    let names = g.T.NamedSchemas.names c.args.form.form.schemas in
    shown (g.T.Tabled.table_of c.args.form.form.schemas) names c.write_u64.result _ _ _
    (writing c.args.form.form.texts (names c.args.form.schema) c.args.form.number) _ (v.U64 c.in-U64.number) c.in-U64.is
    c.write_u64.ensures.tokens (ap (λ (how : Digits). string (digits_of how (2 ^ 63) c.in-U64.number) ∷ [])
    c.digits-in-U64.ensures)

pub write_value-returns-in-Boolean-clause-tokens : goal.write_value-returns-in-Boolean-clause-tokens
write_value-returns-in-Boolean-clause-tokens g t c =
    let table = g.T.Tabled.table_of c.args.form.form.schemas in
    let names = g.T.NamedSchemas.names c.args.form.form.schemas in
    let w = writing c.args.form.form.texts (names c.args.form.schema) c.args.form.number in
    shown table names c.boolean.result _ _ _ w _ (v.Boolean c.in-Boolean.flag) c.in-Boolean.is
    c.boolean.ensures.ok (flag_shown table names w c.in-Boolean.flag)

pub write_value-returns-in-Text-clause-tokens : goal.write_value-returns-in-Text-clause-tokens
unfolding part_json_in
write_value-returns-in-Text-clause-tokens g t c =
    let names = g.T.NamedSchemas.names c.args.form.form.schemas in
    shown (g.T.Tabled.table_of c.args.form.form.schemas) names c.string.result _ _ _
    (writing c.args.form.form.texts (names c.args.form.schema) c.args.form.number) _ (v.Text c.in-Text.text)
    c.in-Text.is
    c.string.ensures.ok refl

pub write_value-returns-in-ByteString-clause-tokens : goal.write_value-returns-in-ByteString-clause-tokens
unfolding part_json_in
write_value-returns-in-ByteString-clause-tokens g t c =
    let names = g.T.NamedSchemas.names c.args.form.form.schemas in
    shown (g.T.Tabled.table_of c.args.form.form.schemas) names c.write_byte_string.result _ _ _
    (writing c.args.form.form.texts (names c.args.form.schema) c.args.form.number) _
    (v.ByteString c.in-ByteString.bytes) c.in-ByteString.is c.write_byte_string.ensures.tokens refl

pub write_value-returns-in-Message-clause-tokens : goal.write_value-returns-in-Message-clause-tokens
unfolding part_json_in
write_value-returns-in-Message-clause-tokens g t c =
    let mine = c.args.form.form.schemas in
    let table = g.T.Tabled.table_of mine in
    let names = g.T.NamedSchemas.names mine in
    let w = writing c.args.form.form.texts (names c.args.form.schema) c.args.form.number in
    let m = c.in-Message.message in
    let same = same_table mine _ m c.in-Message.is c.requires.same in
    shown table names c.write_within.result _ _ _ w _ (v.Message m) c.in-Message.is c.write_within.ensures.tokens
    (ap (λ x. json_tokens (part_json_in table names w
    (Nested (meaning (g.T.Tabled.table_of x) 100 m.schema m.bytes.now)) (Message m.schema))) (sym same))

pub write_value-returns-in-Numbers-clause-tokens : goal.write_value-returns-in-Numbers-clause-tokens
write_value-returns-in-Numbers-clause-tokens g t c =
    let table = g.T.Tabled.table_of c.args.form.form.schemas in
    let names = g.T.NamedSchemas.names c.args.form.form.schemas in
    let w = writing c.args.form.form.texts (names c.args.form.schema) c.args.form.number in
    shown table names c.write_run.result _ _ _ w _ (v.Numbers c.in-Numbers.run') c.in-Numbers.is
    (on_ok_weaker c.write_run.result (λ f. f table names w (sym c.digits-in-Numbers.ensures))
    c.write_run.ensures.tokens)
    refl

pub write_within-loop-field-init : goal.write_within-loop-field-init
write_within-loop-field-init g t c =
    let mine = c.args.form.schemas in
    let table = g.T.Tabled.table_of mine in
    let names = g.T.NamedSchemas.names mine in
    let start = ap given_left c.into_iter-field-iterator.ensures.into_iter_gives in
    let fields = ap fields_left c.into_iter-field-iterator.ensures.into_iter_gives
    ∙ c.fields_in-field-items.ensures.fields in
    record {
      tokens = ap (λ (fs : List FieldPart). c.begin_object.new.self.tokens ++ fields_tokens table names
          c.args.form.texts (names c.args.schema) 0 fs) fields;
      low = subst (λ (fs : List FieldPart). AllLow c.args.left fs) (sym fields)
          (low_message c.args.left (table c.args.schema) (meaning table 100 c.args.schema c.args.bytes.now)
          c.requires.deep);
      same = subst (EachIsOf mine) (sym start) c.fields_in-field-items.ensures.schemas;
      before = search rules;
    }

pub write_within-write_value-requires : goal.write_within-write_value-requires
write_within-write_value-requires g t c =
    let same = subst (EachIsOf c.args.form.schemas) c.in-Some.ensures.steps c.loop-field.invariant.same in
    let steps = ap (map unplaced) (ap (map placed_of) c.in-Some.ensures.steps) in
    let low = subst (λ (fs : List FieldPart). AllLow c.args.left fs) steps c.loop-field.invariant.low in
    λ κs lives. (omega (arith, c.decreases), (lives.0, (lives.1, (same.0, low.0))))

pub write_within-loop-field-preserved : goal.write_within-loop-field-preserved
write_within-loop-field-preserved g t c =
    let mine = c.args.form.schemas in
    let table = g.T.Tabled.table_of mine in
    let names = g.T.NamedSchemas.names mine in
    let f = field_part c.in-Some.field in
    let steps = ap (map unplaced) (ap (map placed_of) c.in-Some.ensures.steps) in
    record {
      tokens = turn table names c.args.form.texts (names c.args.schema) c.loop-field.open_list _ f _ _
          c.loop-field.out.tokens _ _ _
          steps c.in_ok-begin_member.ensures.tokens c.in_ok-write_value.ensures.tokens
          (c.open_list_after-open_list.ensures (names c.args.schema)) c.loop-field.invariant.tokens;
      low = (subst (λ (fs : List FieldPart). AllLow c.args.left fs) steps c.loop-field.invariant.low).1;
      same = (subst (EachIsOf mine) c.in-Some.ensures.steps c.loop-field.invariant.same).1;
      before = search rules;
    }

pub write_within-returns-clause-tokens : goal.write_within-returns-clause-tokens
write_within-returns-clause-tokens g t c =
    let mine = c.args.form.schemas in
    let table = g.T.Tabled.table_of mine in
    let names = g.T.NamedSchemas.names mine in
    let valid = subst IsTable (sym (g.met.T.PayloadTable.same mine)) (g.met.T.Schemas.valid mine) in
    let s = c.args.schema in
    let bytes = c.args.bytes.now in
    let canonical : IsCanonicalIn table s bytes = sound table valid s bytes (λ i. omega (arith, c.type_inv.bytes i))
    c.requires.short c.requires.canonical in
    let all = whole table names valid c.args.form.texts s c.loop-field.open_list bytes _ c.args.out.now.tokens
    c.begin_object.new.self.tokens
    c.loop-field.out.tokens c.end_list.new.out.tokens canonical c.in_ok-begin_object.ensures.ok
    (ap (map unplaced) (ap (map placed_of) c.in-None.ensures.steps.0)) c.in_ok-end_list.ensures.tokens
    c.loop-field.invariant.tokens in
    on_ok_weaker c.end_object.result (λ e. e ∙ all) c.end_object.ensures.ok

pub write_value-write_within-requires : goal.write_value-write_within-requires
write_value-write_within-requires g t c =
    let m = c.in-Message.message in
    let mine = c.args.form.form.schemas in
    let same = same_table mine _ m c.in-Message.is c.requires.same in
    let deep = deeper _ m c.args.left c.in-Message.is c.requires.deep in
    let canonical = subst (λ x. is_canonical_payload_in (g.T.Tabled.table_of x) 100 m.schema m.bytes.now ≡ true) same
    m.canonical in
    let level = ap (λ x. levels (meaning (g.T.Tabled.table_of x) 100 m.schema m.bytes.now)) same in
    λ κs lives. (
      omega (arith, c.decreases, deep),
      (lives.0, (lives.1, (m.short, (canonical, omega (arith, deep, level))))),
    )
