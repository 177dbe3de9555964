use Rattle.std.proofs.Common.{◌≡◌, ◌++◌, List, ℕ, OnOk, subst, rules}
use Rattle.explain_lines.proofs.Fronts.{spaces_taken}
use Rattle.explain_lines.proofs.columns.push_spaces.Goals as goal

pub returns : goal.returns
returns c =
    subst (λ (more : List ℕ). OnOk c.extend_from_slice.result
    (c.extend_from_slice.new.self.items ≡ c.args.text.now.items ++ more))
    (spaces_taken c.args.count c.requires) (search rules)
