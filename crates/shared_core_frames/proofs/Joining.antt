-- The bytes of chunks.
use Rattle.std.proofs.Common.{◌≡◌, ℕ, ◌+◌, ◌≤◌, List, [], ◌∷◌, ◌++◌, length, take, drop, append_assoc, append-nil}
use Rattle.std.proofs.Common.{refl, ap, sym, ◌∙◌, arith, take-append-drop, true, false}
use Rattle.std.proofs.lemmas.List.{drop_all, drop-append-le, length-append, take_all, take-append-le}
use Rattle.std.proofs.lemmas.List.Elements.{All-append, All-head, All-push, All-tail}
use Rattle.std.proofs.lemmas.List.Folds.{concat-append}
use Rattle.std.specs.List.{concat}
use Rattle.std.specs.Prelude.{Result, Ok, Err, OnOk, OnErr, is_ok, if◌then◌else◌, ◌<◌, ◌^◌, get_or, All}
use Rattle.std.specs.Prelude.{Option, Some, None}
use Rattle.std.specs.Option.{option_to_list}
use Rattle.bytes.proofs.Chunks.{concat_push}
use Rattle.shared_core_frames.proofs.Appending.{payload_after, row_joined}
use Rattle.shared_core_frames.specs.Appending.{after_row, after_rows}
use Rattle.shared_core_codec.proofs.Measuring.{from_end, from_index, from_next, from_start}
use Rattle.shared_core_codec.proofs.RowBytes.{bytes_value_bytes, message_bytes, plain_default, plain_value}
use Rattle.shared_core_codec.specs.Equality.{is_present}
use Rattle.shared_core_codec.specs.RowEncoding.{before_row, capped, measured_row, row_size, unpacked}
use Rattle.shared_core_codec.specs.RowEncoding.{value_bytes}
use Rattle.shared_core_codec.specs.FieldParts.{elements_part}
use Rattle.shared_core_codec.specs.Table.{table}
use Rattle.shared_core_wire.specs.Canonical.{canonical_payload, is_default}
use Rattle.shared_core_wire.specs.Encoding.{key_bytes, shortest_varint}
use Rattle.shared_core_wire.specs.Schema.{ByteString, Kind, Message, OneOf, Optional, Plain, Repeated, Row}
use Rattle.shared_core_wire.specs.Value.{Absent, Bytes, Elements, Member, Nested, Number, Part, Parts}

-- ---- chunks, and what is small after them

-- what is appended to the small bytes is appended to all
pub after_tail : {T E : Type 0} (result : Result T E) (cs : List (List ℕ)) (old new xs : List ℕ)
    → OnOk result (new ≡ old ++ xs) → OnOk result (concat cs ++ new ≡ (concat cs ++ old) ++ xs)
after_tail (Ok t) cs old new xs is = ap (λ (l : List ℕ). concat cs ++ l) is ∙ sym (append_assoc (concat cs) old xs)
after_tail (Err e) cs old new xs is = is

-- the small bytes become the last chunk
pub tail_pushed : (cs new : List (List ℕ)) (c xs ys : List ℕ) → new ≡ cs ++ c ∷ [] → c ≡ take (length xs) xs
    → ys ≡ drop (length xs) xs → concat new ++ ys ≡ concat cs ++ xs
tail_pushed cs new c xs ys is front rest =
    ap (λ (l : List (List ℕ)). concat l ++ ys) is ∙ ap (λ (l : List ℕ). l ++ ys) (concat_push cs c) ∙ append_assoc
    (concat cs) c ys ∙ ap (λ (l : List ℕ). concat cs ++ l) (rw (front, rest) (take-append-drop (length xs) xs))

pub none_left : (xs ys : List ℕ) → ys ≡ drop (length xs) xs → ys ≡ []
none_left xs ys rest = rest ∙ drop_all (length xs) xs (omega arith)

-- a chunk is appended where nothing small is
pub after_shared : (cs new : List (List ℕ)) (c small old : List ℕ) → new ≡ cs ++ c ∷ [] → small ≡ []
    → concat cs ++ small ≡ old → concat new ++ small ≡ old ++ c
after_shared cs new c small old is none before =
    let alone : concat cs ≡ old = sym (append-nil (concat cs)) ∙ rw none at before in
    rw none (append-nil (concat new) ∙ ap concat is ∙ concat_push cs c ∙ ap (λ (l : List ℕ). l ++ c) alone)

-- all of other chunks are appended where nothing small is on either side
pub after_all : {T E : Type 0} (result : Result T E) (cs new more : List (List ℕ)) (small none old frame : List ℕ)
    → new ≡ (if is_ok result then cs ++ more else cs) → small ≡ [] → concat cs ++ small ≡ old → none ≡ []
    → concat more ++ none ≡ frame → OnOk result (concat new ++ small ≡ old ++ frame)
after_all (Ok t) cs new more small none old frame is here before there other =
    let alone : concat cs ≡ old = sym (append-nil (concat cs)) ∙ rw here at before in
    let others : concat more ≡ frame = sym (append-nil (concat more)) ∙ rw there at other in
    rw here (append-nil (concat new) ∙ ap concat is ∙ concat-append cs more ∙ rw (alone, others) refl)
after_all (Err e) cs new more small none old frame is here before there other = tt

-- ---- no chunk is empty

pub shared_filled : (cs new : List (List ℕ)) (c : List ℕ) → new ≡ cs ++ c ∷ [] → 0 < length c
    → All (λ chunk. 0 < length chunk) cs → All (λ chunk. 0 < length chunk) new
shared_filled cs new c is some filled = rw is (All-push (λ chunk. 0 < length chunk) cs c filled some)

pub small_filled : (c xs : List ℕ) → c ≡ take (length xs) xs → 0 < length xs → 0 < length c
small_filled c xs front some = rw (front ∙ take_all (length xs) xs (omega arith)) some

pub tail_filled : (cs new : List (List ℕ)) (c xs : List ℕ) → new ≡ cs ++ c ∷ [] → c ≡ take (length xs) xs
    → 0 < length xs → All (λ chunk. 0 < length chunk) cs → All (λ chunk. 0 < length chunk) new
tail_filled cs new c xs is front some filled = shared_filled cs new c is (small_filled c xs front some) filled

pub all_filled : {T E : Type 0} (result : Result T E) (cs new more : List (List ℕ))
    → new ≡ (if is_ok result then cs ++ more else cs) → All (λ chunk. 0 < length chunk) cs
    → All (λ chunk. 0 < length chunk) more → All (λ chunk. 0 < length chunk) new
all_filled (Ok t) cs new more is filled others = rw is (All-append (λ chunk. 0 < length chunk) cs more filled others)
all_filled (Err e) cs new more is filled others = rw is filled

pub first_filled : (cs new : List (List ℕ)) (c : List ℕ) → cs ≡ c ∷ new → All (λ chunk. 0 < length chunk) cs
    → 0 < length c
first_filled cs new c is filled = All-head (λ chunk. 0 < length chunk) c new (rw is at filled)

pub rest_filled : (found : Option (List ℕ)) (cs new : List (List ℕ)) → cs ≡ option_to_list found ++ new
    → All (λ chunk. 0 < length chunk) cs → All (λ chunk. 0 < length chunk) new
rest_filled (Some c) cs new is filled = All-tail (λ chunk. 0 < length chunk) c new (rw is at filled)
rest_filled None cs new is filled = rw is at filled

-- ---- the first chunk

pub first_chunk : (cs new : List (List ℕ)) (c small : List ℕ) → cs ≡ c ∷ new → concat cs ++ small ≡ c ++
    (concat new ++ small)
first_chunk cs new c small is = ap (λ (l : List (List ℕ)). concat l ++ small) is ∙ append_assoc c (concat new) small

pub small_chunk : (cs new : List (List ℕ)) (c xs ys : List ℕ) → cs ≡ [] → new ≡ [] → c ≡ take (length xs) xs
    → ys ≡ drop (length xs) xs → concat cs ++ xs ≡ c ++ (concat new ++ ys)
small_chunk cs new c xs ys none still front rest = rw (none, still, front, rest) (sym (take-append-drop (length xs) xs))

-- ---- slices that are filled

pub filled : (bytes old now : List ℕ) (start : ℕ) → length old ≡ length bytes → start + length bytes ≡ length old
    → drop start now ≡ bytes ++ drop (length old) old → now ≡ bytes
filled bytes old now start l s w =
    let z : start ≡ 0 = omega (arith, l, s) in
    let d : drop 0 now ≡ bytes ++ drop (length old) old = rw z at w in
    d ∙ rw (drop_all (length old) old (omega arith)) (append-nil bytes)

pub filled_row : (row : Row) (p : Part) (old now : List ℕ) (start : ℕ) → length old ≡ row_size row p
    → start + row_size row p ≡ length old → drop start now ≡ before_row row p (drop (length old) old)
    → now ≡ before_row row p []
filled_row row p old now start l s w =
    let z : start ≡ 0 = omega (arith, l, s) in
    let d : drop 0 now ≡ before_row row p (drop (length old) old) = rw z at w in
    d ∙ ap (before_row row p) (drop_all (length old) old (omega arith))

-- a size that is not capped
pub uncapped : (n len : ℕ) → len ≡ capped (0 + n) → len < 2 ^ 32 → len ≡ n
uncapped n len is small = omega (arith, is, small)

-- the size of a row that is measured by itself
pub measured_member : (members : List (ℕ × Kind)) (p : Part) (len : ℕ) → len ≡ measured_row (OneOf members) p 0
    → len < 2 ^ 32 → len ≡ row_size (OneOf members) p
measured_member members Absent len is small = is
measured_member members (Number v) len is small = uncapped _ len is small
measured_member members (Bytes b) len is small = uncapped _ len is small
measured_member members (Nested ps) len is small = uncapped _ len is small
measured_member members (Elements ps) len is small = uncapped _ len is small
measured_member members (Member v p) len is small = uncapped _ len is small

-- the key and the length at the end of a buffer
pub whole_head : (k v old now : List ℕ) (start : ℕ) → length old ≡ 20 → drop start now ≡ k ++ (v ++ drop 20 old)
    → drop start now ≡ k ++ v
whole_head k v old now start l w =
    w ∙ ap (λ (t : List ℕ). k ++ (v ++ t)) (drop_all 20 old (omega (arith, l))) ∙ ap (λ (t : List ℕ). k ++ t)
    (append-nil v)

-- ---- values

pub bytes_after : (at : ℕ) (b : List ℕ) (old mid new : List ℕ) → mid ≡ old ++
    (key_bytes at 2 ++ shortest_varint (length b)) → new ≡ mid ++ b → new ≡ old ++ value_bytes at ByteString (Bytes b)
bytes_after at b old mid new head content =
    content ∙ rw head (append_assoc old _ b ∙ ap (λ (l : List ℕ). old ++ l) (append_assoc (key_bytes at 2) _ b ∙ sym
    (bytes_value_bytes at ByteString b)))

pub message_after : (at s len : ℕ) (ps : Parts) (old mid new : List ℕ) → len ≡ length (canonical_payload table s ps)
    → mid ≡ old ++ (key_bytes at 2 ++ shortest_varint len) → new ≡ after_rows (table s) ps mid
    → new ≡ old ++ value_bytes at (Message s) (Nested ps)
message_after at s len ps old mid new is head rows =
    let payload = canonical_payload table s ps in
    rows ∙ payload_after s ps mid ∙ rw (head, is) (append_assoc old _ payload ∙ ap (λ (l : List ℕ). old ++ l)
    (append_assoc (key_bytes at 2) _ payload ∙ sym (message_bytes at s ps)))

-- ---- fields

pub default_after : (at : ℕ) (k : Kind) (p : Part) (xs : List ℕ) → is_default p ≡ true
    → xs ≡ after_row (Plain at k) p xs
default_after at k p xs d = rw (plain_default at k p d) (sym (append-nil xs))

pub other_after : (at : ℕ) (k : Kind) (p : Part) (xs : List ℕ) → is_default p ≡ false → xs ++ value_bytes at k p ≡
    after_row (Plain at k) p xs
other_after at k p xs d = rw (plain_value at k p d) refl

pub present_after : (at : ℕ) (k : Kind) (p : Part) (xs : List ℕ) → is_present p ≡ true → xs ++ value_bytes at k p ≡
    after_row (Optional at k) p xs
present_after at k Absent xs h = cc
present_after at k (Number v) xs h = refl
present_after at k (Bytes b) xs h = refl
present_after at k (Nested ps) xs h = refl
present_after at k (Elements ps) xs h = refl
present_after at k (Member v p) xs h = refl

-- a row that is copied
pub row_after : (row : Row) (p : Part) (xs : List ℕ) → xs ++ before_row row p [] ≡ after_row row p xs
row_after row p xs = sym (row_joined row p xs []) ∙ append-nil (after_row row p xs)

pub after_member : {T E : Type 0} (result : Result T E) (row : Row) (p : Part) (old new : List ℕ)
    → OnOk result (new ≡ old ++ before_row row p []) → OnOk result (new ≡ after_row row p old)
after_member (Ok t) row p old new is = is ∙ row_after row p old
after_member (Err e) row p old new is = is

-- a payload that is copied
pub after_payload : {T E : Type 0} (result : Result T E) (s : ℕ) (ps : Parts) (old new : List ℕ)
    → OnOk result (new ≡ old ++ canonical_payload table s ps) → OnOk result (new ≡ after_rows (table s) ps old)
after_payload (Ok t) s ps old new is = is ∙ sym (payload_after s ps old)
after_payload (Err e) s ps old new is = is

-- ---- the end of a vector, from this place on

-- what is appended to a vector is appended to its end
pub end_appended : {T E : Type 0} (result : Result T E) (n : ℕ) (old new xs : List ℕ) → n ≤ length old
    → OnOk result (new ≡ old ++ xs) → OnOk result (drop n new ≡ drop n old ++ xs)
end_appended (Ok t) n old new xs within is = ap (drop n) is ∙ drop-append-le n old xs within
end_appended (Err e) n old new xs within is = is

-- and what is before that place stays
abbrev kept : ℕ → List ℕ → List ℕ × ℕ
kept room front = (front, room)

pub front_kept : {T E : Type 0} (result : Result T E) (n room : ℕ) (old new xs : List ℕ) → n ≤ length old
    → OnOk result (new ≡ old ++ xs) → OnErr result (new ≡ old)
    → ◌≡◌ {A = List ℕ × ℕ} (take n new, room) (take n old, room)
front_kept (Ok t) n room old new xs within is same = ap (kept room) (ap (take n) is ∙ take-append-le n old xs within)
front_kept (Err e) n room old new xs within is same = ap (λ (l : List ℕ). kept room (take n l)) same

pub still_within : {T E : Type 0} (result : Result T E) (n : ℕ) (old new xs : List ℕ) → n ≤ length old
    → OnOk result (new ≡ old ++ xs) → OnErr result (new ≡ old) → n ≤ length new
still_within (Ok t) n old new xs within is same = rw (is, length-append old xs) (omega (arith, within))
still_within (Err e) n old new xs within is same = rw same within

-- a frame, appended: a header, and the payload after it
pub frame_after : {T E : Type 0} (result : Result T E) (s : ℕ) (ps : Parts) (bytes header old mid new : List ℕ)
    → bytes ≡ header → mid ≡ old ++ bytes → OnOk result (new ≡ after_rows (table s) ps mid)
    → OnOk result (new ≡ old ++ (header ++ canonical_payload table s ps))
frame_after (Ok t) s ps bytes header old mid new written put is =
    is ∙ payload_after s ps mid ∙ rw (put, written) (append_assoc old header (canonical_payload table s ps))
frame_after (Err e) s ps bytes header old mid new written put is = is

-- ---- one element after the other

-- the elements before this index are appended
abbrev pub AreAppended : {M : Type 0} → (M → Part) → ℕ → Kind → List M → List ℕ → ℕ → List ℕ → Type 0
AreAppended view at k xs old i now = now ++ from_index view at k xs i ≡ old ++ from_index view at k xs 0

pub append_step : {M : Type 0} (view : M → Part) (at : ℕ) (k : Kind) (xs : List M) (i : ℕ) (x : M)
    (old mid now : List ℕ) → i < length xs → x ≡ get_or xs i x → now ≡ mid ++ value_bytes at k (view x)
    → AreAppended view at k xs old i mid → AreAppended view at k xs old (i + 1) now
append_step view at k xs i x old mid now h e is before =
    ap (λ (l : List ℕ). l ++ from_index view at k xs (i + 1)) is ∙ append_assoc mid _ _ ∙ ap
    (λ (l : List ℕ). mid ++ l) (sym (from_next view at k xs i x h e)) ∙ before

pub append_end : {M : Type 0} (view : M → Part) (at : ℕ) (k : Kind) (xs : List M) (i : ℕ) (old now : List ℕ)
    → length xs ≤ i → unpacked k ≡ true → AreAppended view at k xs old i now
    → now ≡ after_row (Repeated at k) (elements_part view xs) old
append_end view at k xs i old now h u before =
    sym (append-nil now) ∙ ap (λ (l : List ℕ). now ++ l) (sym (from_end view at k xs i h)) ∙ before ∙ ap
    (λ (l : List ℕ). old ++ l) (from_start view at k xs u)
