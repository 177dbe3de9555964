use Rattle.std.proofs.Common.{◌*◌, ◌∷◌, ◌++◌, [], ℕ, List, ap, ◌∙◌}
use Rattle.shared_core_json_reader.proofs.ShortRecords.{short_number, by_either}
use Rattle.shared_core_json_reader.proofs.short.append_number.Goals as goal

pub returns : goal.returns
returns c =
    short_number c.args.plain c.args.number c.args.value c.args.out.now.items c.push_reserved.new.self.items
    c.push_reserved-2.new.self.items c.if-number-ge-SHORT_KEYS.false c.if-value-ge128.false
    (by_either c.args.plain c.args.value c.if-value-eq0.either)
    (c.push_reserved.ensures.items ∙ ap (λ (xs : List ℕ). xs ++ (8 * c.args.number) ∷ [])
    c.in_ok-reserve.ensures.items) c.push_reserved-2.ensures.items
