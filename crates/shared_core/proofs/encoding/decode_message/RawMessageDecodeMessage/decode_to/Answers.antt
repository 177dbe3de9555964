use Rattle.std.proofs.Common.{rules, sym, ◌∙◌}
use Rattle.std.proofs.lemmas.Bool.{both_ways}
use Rattle.shared_core_base.proofs.Types.{types_equal, types_same}
use Rattle.shared_core.proofs.TypedPayloads.{if_ok, if_err}
use Rattle.shared_core.proofs.encoding.decode_message.RawMessageDecodeMessage.decode_to.Goals as goal

pub returns-then-eq-clause-typed : goal.returns-then-eq-clause-typed
returns-then-eq-clause-typed g c =
    let same = sym c.ty-actual.ensures ∙ types_equal _ _ (sym c.eq.ensures ∙ c.if-eq.true) ∙ c.ty-expected.ensures in
    if_ok c.decode_payload.result _ same

pub returns-then-eq-clause-err : goal.returns-then-eq-clause-err
returns-then-eq-clause-err g c =
    let same = sym c.ty-actual.ensures ∙ types_equal _ _ (sym c.eq.ensures ∙ c.if-eq.true) ∙ c.ty-expected.ensures in
    if_err g.M.RestateMessage.message_type g.M.WireRecord.schema c.args.self.now c.args.command_index
    c.decode_payload.result same c.decode_payload.ensures.err

pub returns-then-eq-clause-unexpected : goal.returns-then-eq-clause-unexpected
returns-then-eq-clause-unexpected g c differ =
    absurd (differ (sym c.ty-actual.ensures ∙ types_equal _ _ (sym c.eq.ensures ∙ c.if-eq.true) ∙
    c.ty-expected.ensures))

pub returns-clause-err : goal.returns-clause-err
returns-clause-err g c = (
  λ same. both_ways _ (sym c.eq.ensures ∙ c.if-eq.false) (types_same _ _
      (c.ty-actual.ensures ∙ same ∙ sym c.ty-expected.ensures)),
  search rules,
)

pub returns-clause-written : goal.returns-clause-written
returns-clause-written g c v same written =
    absurd (both_ways _ (sym c.eq.ensures ∙ c.if-eq.false) (types_same _ _
    (c.ty-actual.ensures ∙ same ∙ sym c.ty-expected.ensures)))
