use Rattle.std.proofs.Common.{◌≡◌, ◌∙◌, ◌&&◌, ◌++◌, nat_eq, length, refl, ap, sym, rules}
use Rattle.shared_core_wire.specs.Encoding.{key_bytes}
use Rattle.shared_core_json_reader.specs.Scalars.{base64_bytes}
use Rattle.shared_core_json_reader.proofs.Placed.{bytes_put, bytes_left_out}
use Rattle.shared_core_json_reader.proofs.bytes.append_base64.Goals as goal

pub returns-then-is_left_out-clause-appended : goal.returns-then-is_left_out-clause-appended
returns-then-is_left_out-clause-appended c =
    let start : c.len-start.result ≡ length c.args.out.now.items = search rules in
    let size : c.len.result ≡ length c.append_decoded.new.out.items = search rules in
    let end : c.len-end.result ≡ length c.append_prefix.new.out.items = search rules in
    bytes_left_out c.args.plain c.args.number c.len-start.result c.len-end.result c.args.out.now.items
    (c.args.out.now.items ++ key_bytes c.args.number 2) _ c.append_prefix.new.out.items c.truncate.new.self.items
    c.append_decoded.new.out.items (base64_bytes c.args.text.now) start refl c.in_ok-place.ensures.bytes end
    c.in_ok-append_decoded.ensures.appended (ap (λ n. c.args.plain && nat_eq n c.len-end.result)
    (sym size) ∙ sym c.is_left_out.ensures ∙ c.if-is_left_out.true) c.truncate.ensures.items

pub returns-clause-appended : goal.returns-clause-appended
returns-clause-appended c =
    let size : c.len.result ≡ length c.append_decoded.new.out.items = search rules in
    let end : c.len-end.result ≡ length c.append_prefix.new.out.items = search rules in
    bytes_put c.args.plain c.args.number c.in_ok-place.place c.len-end.result c.args.out.now.items
    (c.args.out.now.items ++ key_bytes c.args.number 2) _ c.append_prefix.new.out.items c.put_length.new.out.items
    c.append_decoded.new.out.items (base64_bytes c.args.text.now) refl c.in_ok-place.ensures.place
    c.in_ok-place.ensures.bytes end
    c.in_ok-append_decoded.ensures.appended (ap (λ n. c.args.plain && nat_eq n c.len-end.result)
    (sym size) ∙ sym c.is_left_out.ensures ∙ c.if-is_left_out.false)
    c.in_ok-put_length.ensures
