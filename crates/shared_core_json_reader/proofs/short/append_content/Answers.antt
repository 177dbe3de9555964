use Rattle.std.proofs.Common.{◌≡◌, ◌+◌, ◌*◌, ◌∷◌, ◌++◌, [], ℕ, List, false, ◌&&◌, eqb, length, sym, ap, ◌∙◌}
use Rattle.shared_core_json_reader.proofs.ShortRecords.{short_content, not_plain, no_default, when_ok}
use Rattle.shared_core_json_reader.proofs.short.append_content.Goals as goal
use Rattle.shared_core_json_reader.proofs.short.append_content.Goals.{then-plain, else-plain}

pub returns : goal.returns
returns c =
    let left = eqb (length c.args.content.now) 0 in
    let kept : c.args.plain && left ≡ false = elim c.if-plain.branch [
      | then-plain w ↦ no_default c.args.plain left (sym w.is_empty.ensures ∙ sym w.value-is ∙ c.if-is_empty.false)
      | else-plain w ↦ not_plain c.args.plain left w.if-plain.false
    ] in
    when_ok c.extend_from_slice.result c.extend_from_slice.new.self.items c.push_reserved-2.new.self.items
    c.args.content.now _ c.extend_from_slice.ensures.items
    (short_content c.args.plain c.args.number c.args.content.now c.args.out.now.items c.push_reserved.new.self.items
    c.push_reserved-2.new.self.items c.if-number-ge-SHORT_KEYS.false c.if-content-ge128.false kept
    (c.push_reserved.ensures.items ∙ ap (λ (xs : List ℕ). xs ++ (8 * c.args.number + 2) ∷ [])
    c.in_ok-reserve.ensures.items) c.push_reserved-2.ensures.items)
