use Rattle.std.proofs.Common.{◌++◌, ◌∙◌, ap, string_bytes}
use Rattle.std.specs.Prelude.{codes}
use Rattle.shared_core_base.specs.declared.version.Version.{Version}
use Rattle.show_lines.specs.Lines.{item_facts, item_name, place_after}
use Rattle.show_lines.specs.Steps.{known_by, place_of, waiting_of}
use Rattle.show_lines.specs.Waiting.{halves_view}
use Rattle.show_lines.specs.declared.place.Place.{Place}
use Rattle.show_lines.specs.declared.stream.Lines.{Lines}
use Rattle.show_lines.proofs.Joins.{known_added, line_added, no_line_added}
use Rattle.show_lines.proofs.stream.Lines.add.Goals as goal
use Rattle.show_lines.proofs.stream.Lines.add.Goals.{then-has_line+in_ok-push_line, else-has_line}

pub returns-clause-line : goal.returns-clause-line
returns-clause-line g c =
    let options = c.args.showing.now.options.now in
    let known = known_by c.args.self.now in
    let facts = c.in_ok-facts.facts in
    let text = c.args.self.now.text.items in
    let name = string_bytes c.write_name.new.scratch.name in
    let told = c.in_ok-facts.ensures.facts
    ∙ ap (λ (v : Version). item_facts v c.args.item.now) c.payloads.ensures in
    let named = c.in_ok-facts.ensures.text
    ∙ ap (λ (v : Version). item_name v known.place.index c.args.item.now) c.payloads.ensures in
    let joined = string_bytes c.join.new.self.scratch.joining.joined in
    ap (λ t. t.items) c.count.ensures.text ∙ elim c.if-has_line.branch [
      | then-has_line+in_ok-push_line w ↦ line_added options known c.args.item.now facts name
          c.in_ok-is_selected.is_selected told named c.in_ok-is_selected.ensures.selected c.has_line.result joined text
          c.if-has_line.self.text.items c.has_line.ensures w.if-has_line.true c.in_ok-join.ensures.joined
          (ap (λ (l : Lines). l.text.items) w.self-is ∙ w.in_ok-push_line.ensures.text
          ∙ ap (λ t. t.items ++ (string_bytes c.join.new.self.scratch.name ++ (joined ++ codes "\n")))
          c.join.ensures.text
          ∙ ap (λ n. text ++ (string_bytes n ++ (joined ++ codes "\n"))) c.join.ensures.name)
      | else-has_line w ↦ no_line_added options known c.args.item.now facts name c.in_ok-is_selected.is_selected
          told named c.in_ok-is_selected.ensures.selected c.has_line.result text
          c.if-has_line.self.text.items c.has_line.ensures w.if-has_line.false
          (ap (λ (l : Lines). l.text.items) w.self-is ∙ ap (λ t. t.items) c.join.ensures.text)
    ]

pub returns-clause-known : goal.returns-clause-known
returns-clause-known g c =
    let options = c.args.showing.now.options.now in
    let known = known_by c.args.self.now in
    let facts = c.in_ok-facts.facts in
    let name = string_bytes c.write_name.new.scratch.name in
    let told = c.in_ok-facts.ensures.facts
    ∙ ap (λ (v : Version). item_facts v c.args.item.now) c.payloads.ensures in
    let named = c.in_ok-facts.ensures.text
    ∙ ap (λ (v : Version). item_name v known.place.index c.args.item.now) c.payloads.ensures in
    let size = c.size.ensures in
    elim c.if-has_line.branch [
      | then-has_line+in_ok-push_line w ↦ known_added options known c.args.item.now facts name
          c.in_ok-is_selected.is_selected told named c.in_ok-is_selected.ensures.selected _
          (place_of c.count.new.self) (waiting_of c.count.new.self) size
          (c.count.ensures.place ∙ ap (λ (p : Place). place_after facts c.size.result p)
          (ap place_of w.self-is ∙ w.push_line.ensures.place ∙ c.join.ensures.place))
          (ap (λ waiting. halves_view waiting.halves.entries) c.count.ensures.waiting ∙ ap waiting_of w.self-is
          ∙ ap (λ waiting. halves_view waiting.halves.entries) w.push_line.ensures.waiting
          ∙ c.in_ok-join.ensures.waiting)
      | else-has_line w ↦ known_added options known c.args.item.now facts name
          c.in_ok-is_selected.is_selected told named c.in_ok-is_selected.ensures.selected _
          (place_of c.count.new.self) (waiting_of c.count.new.self) size
          (c.count.ensures.place ∙ ap (λ (p : Place). place_after facts c.size.result p)
          (ap place_of w.self-is ∙ c.join.ensures.place))
          (ap (λ waiting. halves_view waiting.halves.entries) c.count.ensures.waiting ∙ ap waiting_of w.self-is
          ∙ c.in_ok-join.ensures.waiting)
    ]
