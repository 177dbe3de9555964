use Rattle.std.proofs.Common.{◌≡◌, ◌≢◌, ◌++◌, length, refl, subst, Bool, rules}
use Rattle.std.specs.Prelude.{MatchBool}
use Rattle.json.specs.Json.{no_items}
use Rattle.shared_core_wire.specs.Encoding.{key_bytes}
use Rattle.shared_core_json_reader.specs.Rows.{in_schema}
use Rattle.shared_core_json_reader.proofs.Placed.{run_put}
use Rattle.shared_core_json_reader.proofs.payload.append_run.Goals as goal

pub returns-clause-appended : goal.returns-clause-appended
returns-clause-appended g c =
    let object = c.args.object.now in
    let field = in_schema (g.T.ReadableSchemas.format object.schemas.now) object.places.schema c.args.field.now in
    let some : c.args.items.now ≢ no_items = subst
    (λ (b : Bool). MatchBool b (c.args.items.now ≡ no_items) (c.args.items.now ≢ no_items)) c.if-is_empty.false
    c.is_empty.ensures in
    let end : c.len-end.result ≡ length c.append_prefix.new.out.items = search rules in
    run_put field c.args.field.now.number c.in_ok-place.place c.len-end.result c.args.walk.now.out.items
    (c.args.walk.now.out.items ++ key_bytes c.args.field.now.number 2) _ c.append_prefix.new.out.items
    c.put_length.new.out.items c.append_numbers.new.walk.out.items c.args.items.now some refl
    c.in_ok-place.ensures.place c.in_ok-place.ensures.bytes end
    c.in_ok-append_numbers.ensures.appended c.in_ok-put_length.ensures
