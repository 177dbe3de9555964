use Rattle.std.proofs.Common.{◌≡◌, ◌*◌, ◌+◌, ◌∷◌, ◌++◌, [], ℕ, List, length, ap, ◌∙◌, rules}
use Rattle.shared_core_json_reader.proofs.ShortRecords.{short_prefix}
use Rattle.shared_core_json_reader.proofs.short.append_prefix.Goals as goal

pub returns-clause-bytes : goal.returns-clause-bytes
returns-clause-bytes c =
    (short_prefix c.args.number c.args.size c.args.out.now.items c.push_reserved.new.self.items
    c.push_reserved-2.new.self.items c.if-number-ge-SHORT_KEYS.false c.if-size-ge128.false
    (c.push_reserved.ensures.items ∙ ap (λ (xs : List ℕ). xs ++ (8 * c.args.number + 2) ∷ [])
    c.in_ok-reserve.ensures.items) c.push_reserved-2.ensures.items).1

pub returns-clause-place : goal.returns-clause-place
returns-clause-place c =
    let is : c.len-place.result ≡ length c.push_reserved.new.self.items = search rules in
    is
    ∙ ap (λ (xs : List ℕ). length xs) (short_prefix c.args.number c.args.size c.args.out.now.items
    c.push_reserved.new.self.items c.push_reserved-2.new.self.items c.if-number-ge-SHORT_KEYS.false
    c.if-size-ge128.false (c.push_reserved.ensures.items ∙ ap (λ (xs : List ℕ). xs ++ (8 * c.args.number + 2) ∷ [])
    c.in_ok-reserve.ensures.items) c.push_reserved-2.ensures.items).0
