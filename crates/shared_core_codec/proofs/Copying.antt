-- Bytes that are copied by their first and their last ones, which overlap.
use Rattle.std.proofs.Common.{◌≡◌, ℕ, ◌+◌, ◌-◌, ◌≤◌, List, ◌++◌, length, take, drop, sym, ap, ◌∙◌, arith}
use Rattle.std.proofs.lemmas.List.{take-take, length-take-le, length-drop, take-append-drop, take_all}
use Rattle.std.proofs.lemmas.Simd.{length-put_chunk, take_more_put_chunk}
use lib.Lanes.{chunk, put_chunk}

-- the first n bytes are copied, then the last n
pub copied_ends : (old bytes : List ℕ) (n : ℕ) → n ≤ length bytes → length bytes ≤ n + n → length old ≡ length bytes
    → put_chunk (length bytes - n) (put_chunk 0 old (chunk 0 n bytes)) (chunk (length bytes - n) n bytes) ≡ bytes
copied_ends old bytes n long short room =
    let rest : ℕ = length bytes - n in
    let half : length (take n bytes) ≡ n = length-take-le n bytes long in
    let first : List ℕ = put_chunk 0 old (take n bytes) in
    let front : take n first ≡ take n bytes = take_more_put_chunk 0 old (take n bytes) n (omega (arith, half))
    (omega (arith, room, long)) in
    let end : take n (drop rest bytes) ≡ drop rest bytes = take_all n (drop rest bytes)
    (omega (arith, long, length-drop rest bytes)) in
    let size : length first ≡ length bytes = length-put_chunk 0 old (take n bytes) ∙ room in
    let all : take (length bytes) (put_chunk rest first (drop rest bytes)) ≡ take rest first ++ drop rest bytes =
    take_more_put_chunk rest first (drop rest bytes) (length bytes) (omega (arith, length-drop rest bytes, long))
    (omega (arith, size)) in
    let before : take rest first ≡ take rest bytes =
    sym (take-take rest n first (omega (arith, short))) ∙ ap (take rest) front
    ∙ take-take rest n bytes (omega (arith, short)) in
    ap (λ (xs : List ℕ). put_chunk rest first xs) end
    ∙ sym (take_all (length bytes) (put_chunk rest first (drop rest bytes))
    (omega (arith, length-put_chunk rest first (drop rest bytes), size)))
    ∙ all ∙ ap (λ (xs : List ℕ). xs ++ drop rest bytes) before ∙ take-append-drop rest bytes
