use Rattle.std.proofs.Common.{◌∷◌, []}
use Rattle.std.proofs.lemmas.Result.{on_ok_weaker}
use Rattle.json.specs.Token.{end_object}
use Rattle.diff_lines.proofs.Members.{three_after}
use Rattle.diff_lines.proofs.json_line.write_field_members.Goals as goal

pub returns-clause-tokens : goal.returns-clause-tokens
returns-clause-tokens c =
    on_ok_weaker c.write_text-3.result
    (three_after _ _ _ _ (end_object ∷ []) _ _ _ c.in_ok-write_text.ensures.tokens
    (rw c.as_str.ensures.value at c.in_ok-write_text-2.ensures.tokens))
    (rw c.as_str-2.ensures.value at c.write_text-3.ensures.tokens)
