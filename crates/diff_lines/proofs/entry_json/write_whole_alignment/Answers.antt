use Rattle.std.proofs.Common.{◌∷◌, [], ◌++◌, ◌∙◌, List, ap, append_assoc}
use Rattle.std.proofs.lemmas.Result.{on_ok_weaker}
use Rattle.json.specs.Token.{Token, begin_object}
use Rattle.json.specs.Tree.{members_tokens}
use Rattle.diff_lines.specs.MovedJson.{counts_members, said_member}
use Rattle.diff_lines.proofs.entry_json.write_whole_alignment.Goals as goal

pub returns-clause-tokens : goal.returns-clause-tokens
returns-clause-tokens c =
    let counts = counts_members c.args.found.now in
    let members = members_tokens (said_member c.args.found.now c.args.sentence.now counts) in
    on_ok_weaker c.end_object.result
    (λ e. e ∙ c.in_ok-write_counts.ensures.tokens ∙ c.in_ok-write_said.ensures.tokens counts
    ∙ ap (λ (ts : List Token). ts ++ members) c.in_ok-begin_object.ensures.ok
    ∙ append_assoc c.args.out.now.tokens (begin_object ∷ []) members)
    c.end_object.ensures.ok
