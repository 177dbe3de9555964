use Rattle.std.proofs.Common.{List, ℕ, ◌++◌, ap, ◌∙◌, append_assoc}
use Rattle.std.specs.Prelude.{codes, string_bytes}
use Rattle.explain_lines.specs.Explanation.{fault_text}
use Rattle.explain_lines.specs.Reasons.{reason_text}
use Rattle.explain_lines.specs.Texts.{path_text}
use Rattle.explain_lines.proofs.Shown.{joined}
use Rattle.explain_lines.proofs.lines.push_fault.Goals as goal

pub returns : goal.returns
unfolding fault_text
returns c =
    let begun = c.in_ok-push_str.ensures.bytes in
    let named = c.in_ok-push_path.ensures in
    joined c.write.result (string_bytes c.args.text.now) (string_bytes c.push_path.new.text)
    (string_bytes c.write.new.self) (codes "malformed: " ++ path_text c.args.path.now) (reason_text c.args.reason)
    (named ∙ (ap (λ (t : List ℕ). t ++ path_text c.args.path.now) begun
    ∙ append_assoc (string_bytes c.args.text.now) (codes "malformed: ") (path_text c.args.path.now)))
    c.write.ensures.bytes
