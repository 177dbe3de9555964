use Rattle.std.proofs.Common.{◌∙◌}
use Rattle.std.proofs.lemmas.Result.{on_ok_weaker}
use Rattle.json.specs.Json.{no_members}
use Rattle.diff_lines.specs.Json.{fields_members}
use Rattle.diff_lines.proofs.json_line.write_members.Goals as goal

pub returns-in-RecordedEnded-clause-tokens : goal.returns-in-RecordedEnded-clause-tokens
returns-in-RecordedEnded-clause-tokens c = rw c.in-RecordedEnded.is c.write_ended.ensures.tokens

pub returns-in-ReplayedEnded-clause-tokens : goal.returns-in-ReplayedEnded-clause-tokens
returns-in-ReplayedEnded-clause-tokens c = rw c.in-ReplayedEnded.is c.write_ended-in-ReplayedEnded.ensures.tokens

pub returns-in-TypeMismatch-clause-tokens : goal.returns-in-TypeMismatch-clause-tokens
returns-in-TypeMismatch-clause-tokens c =
    rw c.in-TypeMismatch.is
    (on_ok_weaker c.write_mismatch.result (λ all. all no_members)
    (rw c.as_str.ensures.value at c.write_mismatch.ensures.tokens))

pub returns-in_ok-write_mismatch-in-HeaderMismatch-clause-tokens :
    goal.returns-in_ok-write_mismatch-in-HeaderMismatch-clause-tokens
returns-in_ok-write_mismatch-in-HeaderMismatch-clause-tokens c =
    let before = rw c.as_str-in-HeaderMismatch.ensures.value at c.in_ok-write_mismatch-in-HeaderMismatch.ensures.tokens
    in
    rw c.in-HeaderMismatch.is
    (on_ok_weaker c.write_fields.result (λ e. e ∙ before (fields_members c.args.found.now.fields.items))
    (rw c.as_slice.ensures.value at c.write_fields.ensures.tokens))
