-- Lists of segments, and the bytes that they have joined.
use Rattle.std.proofs.Common.{◌≡◌, ℕ, ◌+◌, ◌-◌, ◌<◌, ◌≤◌, ◌⊎◌, inl, inr, min, List, [], ◌∷◌, ◌++◌, length, get_or, take}
use Rattle.std.proofs.Common.{Option, Some, None, slice_range, length-drop}
use Rattle.std.proofs.Common.{drop, sym, ap, ◌∙◌, arith, zero, suc, append_assoc, length-append}
use Rattle.std.specs.List.{concat}
use Rattle.std.proofs.lemmas.Grind.{take_at_read}
use Rattle.std.proofs.lemmas.List.{take_all, take_min, take-append-le, take-append-drop, drop-append-le, drop-drop}
use Rattle.std.proofs.lemmas.List.Folds.{concat-append}
use Rattle.bytes.proofs.Chunks.{concat_push}
use Rattle.bytes.proofs.Ranges.{take-append_past}
use Rattle.shared_core_base.specs.declared.version.Version.{Version}
use Rattle.shared_core_stream.specs.declared.encoding.item.Item.{Item}
use Rattle.std.proofs.lemmas.List.Elements.{All-push}
use Rattle.shared_core_stream.specs.Items.{IsItemsThen}
use Rattle.std.specs.Prelude.{IfOk, MatchOption, Result, Ok, Err}
use Rattle.std.specs.declared.alloc.AllocError.{AllocError}
use Rattle.shared_core_stream.specs.Segments.{AreSegments}
use Rattle.shared_core_stream.specs.Unread.{LosesPayload}

-- the first segments and the next one
pub concat_next : (segments : List (List ℕ)) (i : ℕ) (segment : List ℕ) → i < length segments → segment ≡ get_or
    segments i segment → concat (take (i + 1) segments) ≡ concat (take i segments) ++ segment
concat_next segments i segment below is =
    ap concat (take_at_read segments i segment below).1 ∙ concat_push (take i segments) (get_or segments i segment) ∙ ap
    (λ s. concat (take i segments) ++ s) (sym is)

concat_first : (segments : List (List ℕ)) (i : ℕ) → length (concat (take i segments)) ≤ length (concat segments)
concat_first segments zero = omega arith
concat_first [] (suc i) = omega arith
concat_first (segment ∷ segments) (suc i) = omega (
  arith,
  concat_first segments i,
  length-append segment
      (concat (take i segments)),
  length-append segment (concat segments),
)

-- what is left of the first chunks and the next chunk are no longer than all chunks
pub rest_fits : (version : Version) (chunks : List (List ℕ)) (i : ℕ) (chunk rest : List ℕ) (items : List Item) → i <
    length chunks → chunk ≡ get_or chunks i chunk → IsItemsThen version (concat (take i chunks)) items rest → length
    rest + length chunk ≤ length (concat chunks)
rest_fits version chunks i chunk rest items below is before =
    omega (
      arith,
      concat_first chunks (i + 1),
      ap length (concat_next chunks i chunk below is),
      length-append
          (concat (take i chunks)) chunk,
      ap length before.whole,
      length-append before.front rest,
    )

-- ---- a chunk comes after

-- the bytes of the segments and a chunk after them
pub joined_push : (front : List ℕ) (beyond : List (List ℕ)) (chunk : List ℕ) → front ++ concat (beyond ++ chunk ∷ []) ≡
    (front ++ concat beyond) ++ chunk
joined_push front beyond chunk = ap (λ l. front ++ l) (concat_push beyond chunk) ∙ sym
    (append_assoc front (concat beyond) chunk)

-- another segment may come after segments of which one is not empty
pub segments_push : (front : List ℕ) (beyond : List (List ℕ)) (len : ℕ) (chunk : List ℕ) → AreSegments front beyond len
    → 0 < length front → 0 < length chunk → AreSegments front (beyond ++ chunk ∷ []) (len + length chunk)
segments_push front beyond len chunk are some more = record {
  counted = ap (λ n. n + length chunk) are.counted ∙ sym (length-append (front ++ concat beyond) chunk) ∙ ap length
      (sym (joined_push front beyond chunk));
  filled = All-push (λ segment. 0 < length segment) beyond chunk are.filled more;
  first = λ none. absurd (omega (arith, none, some));
}

-- ---- the first bytes of a segment and of those after it, copied segment by segment

-- one more segment is copied, or as much of it as is wanted
pub copied_next : (front : List ℕ) (segments : List (List ℕ)) (i count wanted part : ℕ) (segment copied next : List ℕ) →
    i < length segments → segment ≡ get_or segments i segment → copied ≡ take count (front ++ concat (take i segments))
    → wanted ≡ count - length (front ++ concat (take i segments)) → 0 < wanted → part ≡ min wanted (length segment) →
    next ≡ copied ++ take part segment → (next ≡ take count (front ++ concat (take (i + 1) segments))) ×
    (wanted - part ≡ count - length (front ++ concat (take (i + 1) segments)))
copied_next front segments i count wanted part segment copied next below is copied_is wanted_is more part_is next_is =
    let before = front ++ concat (take i segments) in
    let after : front ++ concat (take (i + 1) segments) ≡ before ++ segment =
    ap (λ l. front ++ l) (concat_next segments i segment below is) ∙ sym
    (append_assoc front (concat (take i segments)) segment) in
    let whole : copied ≡ before = copied_is ∙ take_all count before (omega (arith, wanted_is)) in
    let cut : take part segment ≡ take wanted segment = ap (λ n. take n segment) part_is ∙ take_min wanted segment in (
      next_is ∙ ap (λ l. l ++ take part segment) whole ∙ ap (λ l. before ++ l) cut
          ∙ sym (take-append_past before segment wanted count (omega (arith, wanted_is))) ∙ ap (take count) (sym after),
      omega (arith, wanted_is, part_is, ap length after, length-append before segment),
    )

-- all of the first segments are copied after what was there, and then the next one
pub copied_more : (kept front : List ℕ) (segments : List (List ℕ)) (i : ℕ) (segment copied next : List ℕ) → i < length
    segments → segment ≡ get_or segments i segment
    → copied ≡ kept ++ (front ++ concat (take i segments)) → next ≡ copied ++ segment → next ≡ kept ++
    (front ++ concat (take (i + 1) segments))
copied_more kept front segments i segment copied next below is before more =
    let joined : (front ++ concat (take i segments)) ++ segment ≡ front ++ concat (take (i + 1) segments) =
    append_assoc front (concat (take i segments)) segment ∙ ap (λ l. front ++ l)
    (sym (concat_next segments i segment below is)) in
    more ∙ ap (λ l. l ++ segment) before ∙ append_assoc kept (front ++ concat (take i segments)) segment ∙ ap
    (λ l. kept ++ l) joined

-- the segments that were copied have as many bytes as are wanted, or they are all
pub copied_all : (front : List ℕ) (segments : List (List ℕ)) (i count : ℕ) →
    (count ≤ length (front ++ concat (take i segments))) ⊎ (length segments ≤ i) → take count
    (front ++ concat (take i segments)) ≡ take count (front ++ concat segments)
copied_all front segments i count (inl enough) =
    sym (take-append-le count (front ++ concat (take i segments)) (concat (drop i segments)) enough)
    ∙ ap (take count) (append_assoc front (concat (take i segments)) (concat (drop i segments))
    ∙ ap (λ l. front ++ l) (sym (concat-append (take i segments) (drop i segments)) ∙ ap concat
    (take-append-drop i segments)))
copied_all front segments i count (inr all) = ap (λ l. take count (front ++ concat l)) (take_all i segments all)

-- ---- a header and the bytes after it are taken from the front chunk

-- they are at the front of all chunks too
pub front_payload : (front rest : List ℕ) (count : ℕ) → 8 + count ≤ length front → (8 ≤ length (front ++ rest))
    × LosesPayload (front ++ rest) count (Some (slice_range front 8 (8 + count))) (drop (8 + count) front ++ rest)
front_payload front rest count whole =
    let head : drop 8 (front ++ rest) ≡ drop 8 front ++ rest = drop-append-le 8 front rest (omega (arith, whole)) in
    let fits : count ≤ length (drop 8 front) = omega (arith, whole, length-drop 8 front) in (
      omega (arith, whole, length-append front rest),
      (
        omega (arith, ap length head, length-append (drop 8 front) rest, fits),
        ap (λ n. take n (drop 8 front)) (omega arith) ∙ sym (take-append-le count (drop 8 front) rest fits)
            ∙ ap (take count) (sym head),
        ap (λ l. l ++ rest) (sym (drop-drop count 8 front)) ∙ sym (drop-append-le count (drop 8 front) rest fits)
            ∙ ap (drop count) (sym head),
      ),
    )

-- the same, if other bytes come after the chunks
pub payload_before : (old new more : List ℕ) (count : ℕ) (result : Result (Option (List ℕ)) AllocError)
    → IfOk result (λ found. MatchOption found (new ≡ old)
    (λ payload. (8 ≤ length old) × LosesPayload old count (Some payload) new))
    → IfOk result (λ found. MatchOption found (new ++ more ≡ old ++ more)
    (λ payload. (8 ≤ length (old ++ more)) × LosesPayload (old ++ more) count (Some payload) (new ++ more)))
payload_before old new more count (Err failed) taken = tt
payload_before old new more count (Ok None) same = ap (λ l. l ++ more) same
payload_before old new more count (Ok (Some payload)) (whole, (fits, is, rest)) =
    let head : drop 8 (old ++ more) ≡ drop 8 old ++ more = drop-append-le 8 old more whole in (
      omega (arith, whole, length-append old more),
      (
        omega (arith, ap length head, length-append (drop 8 old) more, fits),
        is ∙ sym (take-append-le count (drop 8 old) more fits) ∙ ap (take count) (sym head),
        ap (λ l. l ++ more) rest ∙ sym (drop-append-le count (drop 8 old) more fits) ∙ ap (drop count) (sym head),
      ),
    )
