use Rattle.std.proofs.Common.{◌≡◌, ◌++◌, ◌∷◌, length}
use Rattle.std.specs.Prelude.{codes}
use Rattle.json.specs.Token as token
use Rattle.json.specs.Tree.{items_tokens}
use Rattle.diff_lines.specs.Json.{field_items}
use Rattle.diff_lines.proofs.json_line.write_fields.Given as goal

abbrev pub invariant-loop-left : goal.invariant-loop-left
invariant-loop-left l = record {
  tokens : l.out.tokens ++ items_tokens (field_items l.left) ≡ l.fn.out.tokens ++
      (token.key (codes "fields") ∷ token.begin_array ∷ items_tokens (field_items l.fn.fields));
  before : l.out.before ≡ l.fn.out.before;
}

abbrev pub decreases-loop-left : goal.decreases-loop-left
decreases-loop-left l = length l.left
