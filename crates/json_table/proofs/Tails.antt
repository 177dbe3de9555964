-- The members at the end of an object.
use Rattle.std.proofs.Common.{◌≡◌, ◌≤◌, ◌<◌, ◌+◌, ◌-◌, ℕ, suc, List, Bool, true, false, cond, refl, sym, ap, ◌∙◌, subst}
use Rattle.std.proofs.Common.{eqb, eq-eqb, arith}
use Rattle.std.proofs.lemmas.Bool.{ne_eqb, eqb-true}
use Rattle.json.specs.Json.{Json, Members, no_members, member}
use Rattle.json.specs.declared.tape.Node.{Node}
use Rattle.json_table.specs.Entries.{value_len, members_len}
use Rattle.json_table.specs.Tails.{last_members, IsTail}
use Rattle.json_table.specs.Views.{BeginsMembers}
use Rattle.json_table.proofs.Seen.{left_members}

-- The entries of a member, and those after it.
len_member : (k : List ℕ) (j : Json) (ms : Members) → members_len (member k j ms) ≡ suc (value_len j) + members_len ms
unfolding members_len
len_member k j ms = omega arith

len_more : (k : List ℕ) (j : Json) (ms : Members) → members_len ms < members_len (member k j ms)
len_more k j ms = omega (arith, len_member k j ms)

-- All members are those at the end that have as many entries.
pub last_whole : (ms : Members) → last_members (members_len ms) ms ≡ ms
last_whole no_members = refl
last_whole (member k j ms) =
    ap (λ (b : Bool). cond b (member k j ms) (last_members (members_len (member k j ms)) ms))
    (eq-eqb (members_len (member k j ms)) (members_len (member k j ms)) refl)

pub last_few : (n : ℕ) (ms : Members) → members_len (last_members n ms) ≤ members_len ms
last_few n no_members = omega arith
last_few n (member k j ms) = by_test (eqb n (members_len (member k j ms))) (last_few n ms)
  where
    by_test : (b : Bool) → members_len (last_members n ms) ≤ members_len ms → members_len (cond b (member k j ms)
        (last_members n ms)) ≤ members_len (member k j ms)
    by_test true h = omega arith
    by_test false h = omega (arith, h, len_more k j ms)

-- What is left after a member at the end is at the end.
pub last_next : (ms rest : Members) (k : List ℕ) (j : Json) → last_members (members_len (member k j rest)) ms ≡
    member k j rest → last_members (members_len rest) ms ≡ rest
last_next no_members rest k j e = absurd cc
last_next (member l i ms) rest k j e =
    by_test (eqb (members_len (member k j rest)) (members_len (member l i ms))) (last_next ms rest k j) e
  where
    past : members_len rest < members_len (member l i ms) → last_members (members_len rest) (member l i ms) ≡
        last_members (members_len rest) ms
    past h = ap (λ (b : Bool). cond b (member l i ms) (last_members (members_len rest) ms))
        (ne_eqb (members_len rest) (members_len (member l i ms)) (λ w. omega (arith, w, h)))

    by_test : (b : Bool) → (last_members (members_len (member k j rest)) ms ≡ member k j rest → last_members
        (members_len rest) ms ≡ rest) → cond b (member l i ms) (last_members (members_len (member k j rest)) ms) ≡
        member k j rest → last_members (members_len rest) (member l i ms) ≡ rest
    by_test true later q =
        let same : ms ≡ rest = cc in
        let less : members_len rest < members_len (member l i ms) =
        omega (arith, len_more l i ms, ap (λ (r : Members). members_len r) same) in
        past less ∙ ap (λ (r : Members). last_members (members_len r) ms) (sym same) ∙ last_whole ms ∙ same
    by_test false later q =
        let less : members_len rest < members_len (member l i ms) =
        omega (
          arith,
          len_more k j rest,
          len_more l i ms,
          last_few (members_len (member k j rest)) ms,
          ap (λ (r : Members). members_len r) q,
        ) in
        past less ∙ later q

pub last_in : (n : ℕ) (ms : Members) → IsTail n ms → n ≤ members_len ms
last_in n ms h = omega (arith, h.len, last_few n ms)

-- They begin where as many entries are left.
pub last_begins : (nodes : List Node) (at end n : ℕ) (ms : Members) → BeginsMembers nodes at end ms → IsTail n ms
    → BeginsMembers nodes (end - n) end (last_members n ms)
unfolding members_len
last_begins nodes at end n no_members h tail =
    let place : at ≡ end - n = omega (arith, h.2, tail.len) in
    subst (λ k. BeginsMembers nodes k end no_members) place h
last_begins nodes at end n (member k j ms) h tail =
    by_test (eqb n (members_len (member k j ms))) refl (last_begins nodes (suc at + value_len j) end n ms (left_members
    nodes at end k j ms h).1)
  where
    by_test : (b : Bool) → eqb n (members_len (member k j ms)) ≡ b → (IsTail n ms → BeginsMembers nodes (end - n) end
        (last_members n ms)) → BeginsMembers nodes (end - n) end (cond b (member k j ms) (last_members n ms))
    by_test true q later =
        let place : at ≡ end - n = omega (arith, h.2, eqb-true n _ q) in
        subst (λ i. BeginsMembers nodes i end (member k j ms)) place h
    by_test false q later =
        later (record {
          len = ap (λ (b : Bool). members_len (cond b (member k j ms) (last_members n ms))) (sym q)
              ∙ tail.len;
        })
