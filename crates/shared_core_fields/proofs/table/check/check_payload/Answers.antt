use Rattle.std.proofs.Common.{◌<◌, ◌^◌, length, is_some, sym, ap, ◌∙◌, arith, rules}
use Rattle.shared_core_codec.proofs.Canonicity.{sound}
use Rattle.shared_core_codec.proofs.CanonicityExact.{complete}
use Rattle.shared_core_fields.proofs.Checked.{if_some_then, whole_to}
use Rattle.shared_core_fields.proofs.table.check.check_payload.Goals as goal

pub returns-clause-canonical : goal.returns-clause-canonical
returns-clause-canonical c =
    let short : length c.args.payload.now < 2 ^ 32 = search rules in (
      λ e. sound c.args.schema c.args.payload.now (λ i. omega (arith, c.type_inv.payload i)) short
          (sym c.check_message.ensures.canonical ∙ e),
      λ h. c.check_message.ensures.canonical ∙ complete c.args.schema c.args.payload.now h,
    )

pub returns-clause-rows : goal.returns-clause-rows
returns-clause-rows c =
    let short : length c.args.payload.now < 2 ^ 32 = search rules in
    if_some_then c.check_message.result _ _
    (λ n e w. whole_to c.args.schema c.args.payload.now c.args.out.now c.check_message.new.out n
    (sound c.args.schema c.args.payload.now (λ i. omega (arith, c.type_inv.payload i)) short
    (sym c.check_message.ensures.canonical ∙ ap is_some e)) w) c.check_message.ensures.rows
