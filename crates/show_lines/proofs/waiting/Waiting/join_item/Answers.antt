use Rattle.std.proofs.Common.{◌≡◌, ◌++◌, ℕ, List, ap, refl, ◌∙◌}
use Rattle.std.proofs.lemmas.Result.{on_ok_weaker}
use Rattle.std.specs.Prelude.{codes}
use Rattle.show_lines.specs.Lines.{invocation_name}
use Rattle.show_lines.specs.Waiting.{halves_view}
use Rattle.show_lines.proofs.Joins.{joined_both, waiting_both}
use Rattle.show_lines.proofs.waiting.Waiting.join_item.Goals as goal

pub returns-clause-joined : goal.returns-clause-joined
returns-clause-joined c =
    let name = c.args.item.text.now in
    let named : c.as_str.result.now ≡ invocation_name name =
    c.as_str.ensures.value ∙ c.in_ok-push_str-2.ensures.bytes
    ∙ ap (λ (l : List ℕ). l ++ name) (c.in_ok-push_str.ensures.bytes
    ∙ ap (λ (l : List ℕ). l ++ codes "the invocation id of ") c.clear-2.ensures.bytes) in
    on_ok_weaker c.join-2.result (λ line. joined_both (halves_view c.args.self.now.halves.entries) c.args.facts.now
    name c.is_command.result c.args.item.is_selected _ _ _ c.is_command.ensures named
    refl c.in_ok-join.ensures.waiting _ _ _ c.clear.ensures.bytes c.in_ok-join.ensures.line line)
    c.join-2.ensures.line

pub returns-clause-waiting : goal.returns-clause-waiting
returns-clause-waiting c =
    let name = c.args.item.text.now in
    let named : c.as_str.result.now ≡ invocation_name name =
    c.as_str.ensures.value ∙ c.in_ok-push_str-2.ensures.bytes
    ∙ ap (λ (l : List ℕ). l ++ name) (c.in_ok-push_str.ensures.bytes
    ∙ ap (λ (l : List ℕ). l ++ codes "the invocation id of ") c.clear-2.ensures.bytes) in
    on_ok_weaker c.join-2.result (λ waits. waiting_both (halves_view c.args.self.now.halves.entries)
    c.args.facts.now name c.is_command.result c.args.item.is_selected _ _ _ c.is_command.ensures
    named refl c.in_ok-join.ensures.waiting _ waits) c.join-2.ensures.waiting
