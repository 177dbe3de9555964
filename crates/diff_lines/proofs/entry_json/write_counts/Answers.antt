use Rattle.std.proofs.Common.{◌∷◌, []}
use Rattle.std.proofs.lemmas.Result.{on_ok_weaker}
use Rattle.json.specs.Token.{end_object}
use Rattle.diff_lines.proofs.Members.{four_after}
use Rattle.diff_lines.proofs.entry_json.write_counts.Goals as goal

pub returns-clause-tokens : goal.returns-clause-tokens
returns-clause-tokens c =
    on_ok_weaker c.write_number-3.result
    (four_after _ _ _ _ _ (end_object ∷ []) _ _ _ _
    (rw c.same_count.ensures at c.in_ok-write_wide_member.ensures.tokens)
    (rw (c.count_of.ensures, c.as_slice-differences.ensures.value) at c.in_ok-write_number.ensures.tokens)
    (rw (c.count_of-2.ensures, c.as_slice-differences.ensures.value) at c.in_ok-write_number-2.ensures.tokens))
    (rw (c.count_of-3.ensures, c.as_slice-differences.ensures.value) at c.write_number-3.ensures.tokens)
