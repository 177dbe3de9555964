use Rattle.std.proofs.Common.{IfSome, subst}
use Rattle.shared_core_message.specs.Messages.{message_schema}
use Rattle.replay_bench.specs.Forms.{ErasesNothing}
use Rattle.replay_bench.proofs.EqualForms.{own_form_of}
use Rattle.replay_bench.proofs.forms.is_own_form.Goals as goal

pub returns-then-is_compared_whole : goal.returns-then-is_compared_whole
returns-then-is_compared_whole c = λ yes.
    own_form_of c.args.ignore c.args.command.now.payload (message_schema c.args.command.now.header.ty)
    (subst (λ ty. IfSome (message_schema ty) (ErasesNothing c.args.ignore)) c.ty.ensures
    (c.is_compared_whole.ensures c.if-is_compared_whole.true)) (c.is_canonical_command.ensures yes)
