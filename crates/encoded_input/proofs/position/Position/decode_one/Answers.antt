use Rattle.std.proofs.Common.{◌∙◌, sym}
use Rattle.encoded_input.proofs.Steps.{comes_to, comes_to_stored, completes, passes}
use Rattle.encoded_input.proofs.position.Position.decode_one.Goals as goal

pub returns-in-Some-clause-bytes : goal.returns-in-Some-clause-bytes
returns-in-Some-clause-bytes c =
    completes _ _ c.args.text.now _ _ c.requires.within c.in-Some.byte c.requires.before
    (sym c.push.ensures.byte ∙ c.in-Some.is) c.push.ensures.position

pub returns-in-Some-clause-position : goal.returns-in-Some-clause-position
returns-in-Some-clause-position c =
    comes_to_stored _ _ c.args.text.now _ _ c.requires.within c.in-Some.byte c.requires.before c.push.ensures.position

pub returns-in-None-clause-bytes : goal.returns-in-None-clause-bytes
returns-in-None-clause-bytes c =
    passes _ _ c.args.text.now _ c.args.given c.requires.within (sym c.push.ensures.byte ∙ c.in-None.is)
    c.push.ensures.position

pub returns-in-None-clause-position : goal.returns-in-None-clause-position
returns-in-None-clause-position c =
    comes_to _ _ c.args.text.now _ c.args.given c.requires.within c.push.ensures.position
