use Rattle.std.proofs.Common.{◌++◌, List, [], ◌∷◌, ℕ, sym, ap, ◌∙◌, arith}
use Rattle.std.proofs.lemmas.List.{append_assoc}
use Rattle.std.proofs.lemmas.List.FromFn.{map-range_with_len_more}
use Rattle.stream_redaction.specs.Replacement.{letter, letters}
use Rattle.stream_redaction.proofs.key.append_letters.Goals as goal

pub loop-place-preserved : goal.loop-place-preserved
loop-place-preserved c =
    let digest = c.args.digest.now in
    let place = c.loop-place.place in
    c.in_ok-push.ensures.items
    ∙ ap (λ (items : List ℕ). items ++ (letter digest place ∷ [])) c.loop-place.invariant
    ∙ append_assoc c.args.out.now.items (letters digest place) (letter digest place ∷ [])
    ∙ ap (λ (items : List ℕ). c.args.out.now.items ++ items)
    (sym (map-range_with_len_more (letter digest) 0 place place (omega arith)))
