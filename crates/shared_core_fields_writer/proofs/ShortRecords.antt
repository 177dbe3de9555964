-- Records whose key and length, or number, are a byte each.
use Rattle.std.proofs.Common.{◌≡◌, ℕ, ◌+◌, ◌-◌, ◌*◌, ◌<◌, ◌≤◌, Bool, true, false, ◌&&◌, eqb, List, [], ◌∷◌, ◌++◌, set}
use Rattle.std.proofs.Common.{take, drop, length, sym, ap, ◌∙◌, arith, ◌⊎◌, inl, inr, suc, refl}
use Rattle.std.proofs.lemmas.Bool.{ne_eqb}
use Rattle.std.proofs.lemmas.List.{set_split}
use Rattle.shared_core_wire.specs.Encoding.{shortest_varint, key_bytes}
use Rattle.shared_core_wire.proofs.Shortest.{shortest_small}

pub short_key : (n wire : ℕ) → n < 16 → wire < 8 → key_bytes n wire ≡ (8 * n + wire) ∷ []
short_key n wire h w = shortest_small (8 * n + wire) (omega (arith, h, w))

-- a field is not left out if it has something
pub by_some : (plain : Bool) (m : ℕ) → 0 < m → plain && eqb m 0 ≡ false
by_some true m some = ne_eqb m 0 (λ e. omega (arith, some, e))
by_some false m some = refl

-- a field is not left out if it is not plain, or has something
pub by_either : (plain : Bool) (m : ℕ) → (plain ≡ true × (m ≡ 0 → ⊥)) ⊎ (plain ≡ false) → plain && eqb m 0 ≡ false
by_either true m (inl some) = ne_eqb m 0 some.1
by_either false m (inl some) = absurd (let no = some.0 in cc)
by_either true m (inr none) = absurd cc
by_either false m (inr none) = refl

pub short_put : (out : List ℕ) (place end len : ℕ) → len ≡ length out - end → len < 128 → place + 1 ≡ end → end ≤ length
    out → set out place len ≡ take place out ++ (shortest_varint (length out - end) ++ drop end out)
short_put out place end len e l p h =
    let small : length out - end < 128 = omega (arith, e, l) in
    let next : suc place ≡ end = omega (arith, p) in
    set_split out place len (omega (arith, p, h))
    ∙ ap (λ (n : ℕ). take place out ++ (len ∷ drop n out)) next
    ∙ ap (λ (n : ℕ). take place out ++ (n ∷ drop end out)) e
    ∙ ap (λ (xs : List ℕ). take place out ++ (xs ++ drop end out)) (sym (shortest_small (length out - end) small))
