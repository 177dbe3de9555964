use Rattle.std.proofs.Common.{◌∙◌, ap, sym, subst}
use Rattle.std.specs.Option.{IsSomeAnd}
use Rattle.shared_core_codec.specs.Canonicity.{IsCanonical}
use Rattle.shared_core_message.specs.Messages.{message_schema}
use Rattle.replay_bench.proofs.EqualForms.{at_v7}
use Rattle.replay_bench.proofs.forms.is_canonical_command.Goals as goal

pub returns-in-Some : goal.returns-in-Some
returns-in-Some c = λ yes.
    let own = ap message_schema (sym c.ty.ensures) ∙ sym (at_v7 c.ty.result) ∙ sym c.schema_at.ensures.schema
    ∙ c.in-Some.is in
    subst (λ schema. IsSomeAnd schema (λ s. IsCanonical s c.args.command.now.payload)) (sym own)
    (rw (c.as_slice.ensures, c.payload.ensures) at (c.check.ensures.canonical.0 (sym c.is_some.ensures ∙ yes)))
