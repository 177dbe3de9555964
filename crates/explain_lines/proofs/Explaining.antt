-- Explanations have the bytes that they are of, and name a fault where these are not accepted.
use Rattle.std.proofs.Common.{◌≡◌, ℕ, zero, suc, ◌+◌, ◌-◌, ◌<◌, ◌≤◌, List, [], ◌∷◌, ◌++◌, length, drop, Bool, true}
use Rattle.std.proofs.Common.{◌^◌, false, not, ◌&&◌, Option, Some, None, refl, sym, ap, subst, ◌∙◌, arith, append_assoc}
use Rattle.std.specs.Prelude.{◌==◌, decimal, codes, if◌then◌else◌, is_some}
use Rattle.std.specs.Str.{is_utf8}
use Rattle.std.proofs.lemmas.Bool.{eqb-true, eq-eqb, ne_eqb}
use Rattle.std.proofs.lemmas.List.{append-nil, length-append, nil_from_length}
use Rattle.shared_core_wire.specs.Acceptance.{accepts_bytes, accepts_element, accepts_message, accepts_number}
use Rattle.shared_core_wire.specs.Acceptance.{accepts_numbers, accepts_payload, accepts_record, accepts_value}
use Rattle.shared_core_wire.specs.Grammar.{FieldRecord, RecordValue, Varint, Fixed64, Length, Group, Fixed32}
use Rattle.shared_core_wire.specs.Grammar.{IsGroupContent, IsRecordBody, IsRecordWithin}
use Rattle.shared_core_wire.specs.Reader.{packed_numbers, record_at, varint_at}
use Rattle.shared_core_wire.specs.Schema.{Kind, U32, U64, Boolean, Enumeration, Text, ByteString, Message}
use Rattle.shared_core_wire.proofs.Groups.{front_taken}
use Rattle.shared_core_wire.proofs.ReadBack.{no_rows}
use Rattle.shared_core_wire.proofs.Readers.{varint_again}
use Rattle.shared_core_wire.proofs.RecordLists.{records_again}
use Rattle.shared_core_codec.specs.Checking.{accepts_found}
use Rattle.shared_core_codec.specs.ProgramRows.{field_numbered}
use Rattle.shared_core_codec.specs.Table.{table}
use Rattle.shared_core_codec.specs.Tables.{protocol_is_table}
use Rattle.shared_core_codec.proofs.Checked.{distinct_rows, field_accepts, message_below_in, message_zero_in, run_end}
use Rattle.shared_core_codec.proofs.Checked.{run_stop, run_turn}
use Rattle.explain_lines.specs.declared.piece.FieldAt.{FieldAt}
use Rattle.explain_lines.specs.Explanation.{after_varint, group_explained}
use Rattle.explain_lines.specs.Texts.{group_end_text, group_start_text}
use Rattle.explain_lines.proofs.Records.{raw_rows}
use Rattle.explain_lines.specs.Explained.{IsExplanationOf, NamesFault}
use Rattle.explain_lines.specs.Explanation.{Explanation, NestedExplanation, after_line, all_lines, content_explained}
use Rattle.explain_lines.specs.Explanation.{opaque_lines, payload_lines, rest_line}
use Rattle.explain_lines.specs.Explanation.{element_explained, explained, fault, followed_by, found_explained}
use Rattle.explain_lines.specs.Explanation.{front_line}
use Rattle.explain_lines.specs.Explanation.{guess_explained, guess_text, message_explained, no_record}
use Rattle.explain_lines.specs.Explanation.{nested_explained, nothing, numbers_past}
use Rattle.explain_lines.specs.Explanation.{one_line, raw, reads_as_message, record_explained, records_past}
use Rattle.explain_lines.specs.Explanation.{list_explained, number_explained, run_explained}
use Rattle.explain_lines.specs.Explanation.{taken, text_explained, unknown_explained, value_explained}
use Rattle.explain_lines.specs.Lines.{Line, Told, bytes_of, show, with_line}
use Rattle.explain_lines.specs.Reasons.{reason_text, varint_reason}
use Rattle.explain_lines.specs.Texts.{quoted_text}
use Rattle.explain_lines.specs.declared.reason.Reason.TheVariants.{TooDeep}
use Rattle.explain_lines.proofs.Going.{show_append}
use Rattle.explain_lines.proofs.Records.{accepts_nothing, accepts_stop, accepts_turn, nested_below, nested_zero}
use Rattle.explain_lines.proofs.Records.{number_front, numbers_nil, numbers_stop, numbers_turn, record_front}
use Rattle.explain_lines.proofs.Records.{records_nil}
use Rattle.explain_lines.proofs.Records.{records_stop, records_turn}

-- ---- parts

bytes_append : (xs ys : List Line) → bytes_of (xs ++ ys) ≡ bytes_of xs ++ bytes_of ys
bytes_append [] ys = refl
bytes_append (x ∷ xs) ys = ap (λ (b : List ℕ). x.bytes ++ b) (bytes_append xs ys)
    ∙ sym (append_assoc x.bytes (bytes_of xs) (bytes_of ys))

drop_front : (xs ys : List ℕ) → drop (length xs) (xs ++ ys) ≡ ys
drop_front [] ys = refl
drop_front (x ∷ xs) ys = drop_front xs ys

names_after : (line : Line) (lines : List Line) → NamesFault lines → NamesFault (line ∷ lines)
names_after line lines names = record {
  before = line ∷ names.before;
  path = names.path;
  reason = names.reason;
  last = ap (λ (rest : List Line). line ∷ rest) names.last;
}

names_later : (first lines : List Line) → NamesFault lines → NamesFault (first ++ lines)
names_later [] lines names = names
names_later (line ∷ first) lines names = names_after line (first ++ lines) (names_later first lines names)

is_nothing : IsExplanationOf [] true nothing
is_nothing = record { rest = []; parts = refl; ended = refl; whole = λ e. refl; named = λ e. cc }

is_line : (path : List FieldAt) (bytes says : List ℕ) → IsExplanationOf bytes true (one_line path bytes says)
is_line path bytes says = record {
  rest = [];
  parts = sym (append-nil (bytes ++ []) ∙ append-nil bytes);
  ended = refl;
  whole = λ e. refl;
  named = λ e. cc;
}

is_fault : (path : List FieldAt) (reason bytes : List ℕ) → IsExplanationOf bytes false (fault path reason)
is_fault path reason bytes = record {
  rest = bytes;
  parts = refl;
  ended = refl;
  whole = λ e. cc;
  named = λ e. record { before = []; path = path; reason = reason; last = refl };
}

is_after : (line : Line) (content bytes : List ℕ) (accepted : Bool) (e : Explanation) → bytes ≡ line.bytes ++ content →
    IsExplanationOf content accepted e → IsExplanationOf bytes accepted (after_line line e)
is_after line content bytes accepted e same is = record {
  rest = is.rest;
  parts = same ∙ (ap (λ (b : List ℕ). line.bytes ++ b) is.parts
      ∙ sym (append_assoc line.bytes (bytes_of e.lines) is.rest));
  ended = is.ended;
  whole = is.whole;
  named = λ refused. names_after line e.lines (is.named refused);
}

is_followed : (front rest : List ℕ) (a b : Bool) (first next : Explanation) → IsExplanationOf front a first →
    IsExplanationOf rest b next → IsExplanationOf (front ++ rest) (a && b) (followed_by first next)
is_followed front rest true b first next is more = by_end first.ended first.lines is.ended is
  where
    by_end : (ended : Bool) (lines : List Line) → ended ≡ false → IsExplanationOf front true
        (record { lines = lines; ended = ended }) → IsExplanationOf (front ++ rest) b
        (followed_by (record { lines = lines; ended = ended }) next)
    by_end true lines e is = cc
    by_end false lines e is =
        let front_is : front ≡ bytes_of lines = is.parts ∙ (ap (λ (r : List ℕ). bytes_of lines ++ r) (is.whole refl)
        ∙ append-nil (bytes_of lines)) in
        record {
          rest = more.rest;
          parts = ap (λ (f : List ℕ). f ++ rest) front_is ∙ (ap (λ (r : List ℕ). bytes_of lines ++ r) more.parts
              ∙ (sym (append_assoc (bytes_of lines) (bytes_of next.lines) more.rest)
              ∙ ap (λ (x : List ℕ). x ++ more.rest) (sym (bytes_append lines next.lines))));
          ended = more.ended;
          whole = more.whole;
          named = λ refused. names_later lines next.lines (more.named refused);
        }
is_followed front rest false b first next is more = by_end first.ended first.lines is.ended is
  where
    by_end : (ended : Bool) (lines : List Line) → ended ≡ true → IsExplanationOf front false
        (record { lines = lines; ended = ended }) → IsExplanationOf (front ++ rest) false
        (followed_by (record { lines = lines; ended = ended }) next)
    by_end false lines e is = cc
    by_end true lines e is = record {
      rest = is.rest ++ rest;
      parts = ap (λ (f : List ℕ). f ++ rest) is.parts ∙ append_assoc (bytes_of lines) is.rest rest;
      ended = refl;
      whole = λ x. cc;
      named = λ x. is.named refl;
    }

is_same : (bytes : List ℕ) (a b : Bool) (e f : Explanation) → a ≡ b → e ≡ f → IsExplanationOf bytes b f →
    IsExplanationOf bytes a e
is_same bytes a b e f same_end same is =
    subst (λ (x : Bool). IsExplanationOf bytes x e) (sym same_end)
    (subst (λ (x : Explanation). IsExplanationOf bytes b x) (sym same) is)

and_true : (a b : Bool) → (a && b) ≡ true → b ≡ true
and_true true b e = e
and_true false b e = cc

-- ---- numbers

number_step : (path : List FieldAt) (bytes : List ℕ) → 0 < length bytes → ((rest : List ℕ) →
    length rest < length bytes →
    IsExplanationOf rest (is_some (packed_numbers rest)) (numbers_past path 0 rest)) → (o : Option (ℕ × List ℕ)) →
    varint_at bytes ≡ o → IsExplanationOf bytes (is_some (packed_numbers bytes)) (numbers_past path 0 bytes)
number_step path bytes some later None e =
    is_same bytes (is_some (packed_numbers bytes)) false (numbers_past path 0 bytes)
    (fault path (reason_text (varint_reason bytes))) (run_stop bytes some e) (numbers_stop path bytes some e)
    (is_fault _ _ bytes)
number_step path bytes some later (Some (n, rest)) e =
    let f = number_front bytes n rest e in
    let b = is_some (packed_numbers rest) in
    let first = one_line path (taken bytes rest) (decimal n) in
    let next = numbers_past path 0 rest in
    is_same bytes (is_some (packed_numbers bytes)) b (numbers_past path 0 bytes) (followed_by first next)
    (run_turn bytes n rest e).same (numbers_turn path bytes n rest e)
    (subst (λ (x : List ℕ). IsExplanationOf x b (followed_by first next)) (sym f.parts)
    (is_followed (taken bytes rest) rest true b first next (is_line path (taken bytes rest) (decimal n))
    (later rest f.shorter)))

is_numbers : (n : ℕ) (path : List FieldAt) (bytes : List ℕ) → length bytes ≤ n → IsExplanationOf bytes
    (is_some (packed_numbers bytes)) (numbers_past path 0 bytes)
is_numbers n path [] h =
    is_same [] (is_some (packed_numbers [])) true (numbers_past path 0 []) nothing (run_end [] refl)
    (numbers_nil path [] refl) is_nothing
is_numbers zero path (b ∷ bs) h = absurd (omega (arith, h))
is_numbers (suc n) path (b ∷ bs) h =
    number_step path (b ∷ bs) (omega arith) (λ rest shorter. is_numbers n path rest (omega (arith, h, shorter)))
    (varint_at (b ∷ bs)) refl

-- ---- values

-- The content of a record is the end of its bytes.
record EndsIn (bytes content : List ℕ) : Type 0 where
  ends : bytes ≡ taken bytes content ++ content

ends_in : (front bytes content : List ℕ) → bytes ≡ front ++ content → EndsIn bytes content
ends_in front bytes content e = record {
  ends = subst (λ (f : List ℕ). bytes ≡ f ++ content) (sym (front_taken bytes front content e)) e;
}

is_content : (path : List FieldAt) (field : FieldAt) (what content bytes : List ℕ) → EndsIn bytes content →
    IsExplanationOf bytes true (content_explained path field what content bytes)
is_content path field what content bytes in_bytes =
    is_after (front_line path field what content bytes) content bytes true
    (if length content == 0 then nothing else one_line (path ++ field ∷ []) content (quoted_text content)) in_bytes.ends
    (by_test (length content == 0) refl)
  where
    by_test : (b : Bool) → (length content == 0) ≡ b → IsExplanationOf content true
        (if b then nothing else one_line (path ++ field ∷ []) content (quoted_text content))
    by_test true e = subst (λ (x : List ℕ). IsExplanationOf x true nothing)
        (sym (nil_from_length content (eqb-true (length content) 0 e))) is_nothing
    by_test false e = is_line (path ++ field ∷ []) content (quoted_text content)

is_text : (path : List FieldAt) (field : FieldAt) (content bytes : List ℕ) → EndsIn bytes content →
    IsExplanationOf bytes
    (is_utf8 content) (text_explained path field content bytes)
is_text path field content bytes in_bytes = by_test (is_utf8 content)
  where
    by_test : (b : Bool) → IsExplanationOf bytes b (if b then content_explained path field (codes "a text") content
        bytes
        else fault (path ++ field ∷ []) (codes "the text is not UTF-8"))
    by_test true = is_content path field (codes "a text") content bytes in_bytes
    by_test false = is_fault (path ++ field ∷ []) (codes "the text is not UTF-8") bytes

-- The content of a group is between its keys, and is read as a message.
record IsGroup (left : ℕ) (bytes content : List ℕ) : Type 0 where
  key : List ℕ
  last : List ℕ
  parts : bytes ≡ key ++ (content ++ last)
  after : after_varint (varint_at bytes) ≡ content ++ last
  accepted : accepts_message table left raw content ≡ true

-- What a value has that ends in its content, if it has one.
AtEnd : ℕ → List ℕ → RecordValue → Type 0
AtEnd left bytes (Length content) = EndsIn bytes content
AtEnd left bytes (Group content) = IsGroup left bytes content
AtEnd left bytes w = Unit {0}

record Nested (left : ℕ) (nested : NestedExplanation) : Type 0 where
  each : (path : List FieldAt) (s : ℕ) (bytes : List ℕ) → IsExplanationOf bytes (accepts_message table left s bytes)
      (nested path s bytes)

module _ (left : ℕ) (nested : NestedExplanation) (inner : Nested left nested) (path : List FieldAt) (field : FieldAt)
  where
    is_number : (k : Kind) (n : ℕ) (bytes : List ℕ) → IsExplanationOf bytes (accepts_number k)
        (value_explained nested path field k (Varint n) bytes)
    is_number U32 n bytes = is_line path bytes _
    is_number U64 n bytes = is_line path bytes _
    is_number Boolean n bytes = is_line path bytes _
    is_number Enumeration n bytes = is_line path bytes _
    is_number Text n bytes = is_fault _ _ bytes
    is_number ByteString n bytes = is_fault _ _ bytes
    is_number (Message s) n bytes = is_fault _ _ bytes

    is_bytes : (k : Kind) (content bytes : List ℕ) → EndsIn bytes content → IsExplanationOf bytes
        (accepts_bytes (accepts_message table left) k content) (value_explained nested path field k (Length content)
        bytes)
    is_bytes U32 content bytes in_bytes = is_fault _ _ bytes
    is_bytes U64 content bytes in_bytes = is_fault _ _ bytes
    is_bytes Boolean content bytes in_bytes = is_fault _ _ bytes
    is_bytes Enumeration content bytes in_bytes = is_fault _ _ bytes
    is_bytes Text content bytes in_bytes = is_text path field content bytes in_bytes
    is_bytes ByteString content bytes in_bytes = is_content path field _ content bytes in_bytes
    is_bytes (Message s) content bytes in_bytes = is_after _ content bytes (accepts_message table left s content) _
        in_bytes.ends (inner.each (path ++ field ∷ []) s content)

    is_value : (k : Kind) (w : RecordValue) (bytes : List ℕ) → AtEnd left bytes w → IsExplanationOf bytes
        (accepts_value (accepts_message table left) k w) (value_explained nested path field k w bytes)
    unfolding AtEnd
    is_value k (Varint n) bytes at = is_number k n bytes
    is_value k (Length content) bytes at = is_bytes k content bytes at
    is_value k (Fixed64 bs) bytes at = is_fault _ _ bytes
    is_value k (Fixed32 bs) bytes at = is_fault _ _ bytes
    is_value k (Group content) bytes at = is_fault _ _ bytes

    is_run : (run bytes : List ℕ) → EndsIn bytes run → IsExplanationOf bytes (is_some (packed_numbers run))
        (run_explained path field run bytes)
    is_run run bytes in_bytes = is_after (front_line path field (codes "numbers") run bytes) run bytes
        (is_some (packed_numbers run)) (numbers_past (path ++ field ∷ []) 0 run) in_bytes.ends
        (is_numbers (length run) (path ++ field ∷ []) run (omega arith))

    is_list : (k : Kind) (w : RecordValue) (bytes : List ℕ) → accepts_number k ≡ true → AtEnd left bytes w →
        IsExplanationOf bytes (accepts_numbers w) (list_explained path field k w bytes)
    unfolding AtEnd
    is_list k (Length run) bytes a at = is_run run bytes at
    is_list k (Varint n) bytes a at = subst (λ (b : Bool). IsExplanationOf bytes b (number_explained path field k n
        bytes)) a (is_number k n bytes)
    is_list k (Fixed64 bs) bytes a at = is_fault _ _ bytes
    is_list k (Fixed32 bs) bytes a at = is_fault _ _ bytes
    is_list k (Group content) bytes a at = is_fault _ _ bytes

    is_element : (k : Kind) (w : RecordValue) (bytes : List ℕ) → AtEnd left bytes w → IsExplanationOf bytes
        (accepts_element (accepts_message table left) k w) (element_explained nested path field k w bytes)
    is_element U32 w bytes at = is_list U32 w bytes refl at
    is_element U64 w bytes at = is_list U64 w bytes refl at
    is_element Boolean w bytes at = is_list Boolean w bytes refl at
    is_element Enumeration w bytes at = is_list Enumeration w bytes refl at
    is_element Text w bytes at = is_value Text w bytes at
    is_element ByteString w bytes at = is_value ByteString w bytes at
    is_element (Message s) w bytes at = is_value (Message s) w bytes at

    is_guess : (content bytes : List ℕ) → EndsIn bytes content → IsExplanationOf bytes true
        (guess_explained nested left path field content bytes)
    is_guess content bytes in_bytes = by_test (reads_as_message left content) refl
      where
        by_test : (b : Bool) → reads_as_message left content ≡ b → IsExplanationOf bytes true
            (if b then message_explained nested path field (codes "read as a message") raw content bytes
            else content_explained path field (guess_text content) content bytes)
        by_test true e = is_after _ content bytes true (nested (path ++ field ∷ []) raw content) in_bytes.ends
            (subst (λ (a : Bool). IsExplanationOf content a (nested (path ++ field ∷ []) raw content))
            (and_true (not (length content == 0)) (accepts_message table left raw content) e)
            (inner.each (path ++ field ∷ []) raw content))
        by_test false e = is_content path field (guess_text content) content bytes in_bytes

    is_group : (content bytes : List ℕ) → IsGroup left bytes content → IsExplanationOf bytes true
        (group_explained nested path field content bytes)
    is_group content bytes group =
        let after = after_varint (varint_at bytes) in
        let inside = nested (path ++ field ∷ []) raw content in
        let is = inner.each (path ++ field ∷ []) raw content in
        let start : Line = record { path = path; bytes = taken bytes after; says = group_start_text field } in
        let end : Line = record { path = path; bytes = drop (length content) after; says = group_end_text field } in
        let content_is : content ≡ bytes_of inside.lines = is.parts
        ∙ (ap (λ (r : List ℕ). bytes_of inside.lines ++ r) (is.whole group.accepted)
        ∙ append-nil (bytes_of inside.lines)) in
        let first : taken bytes after ≡ group.key = ap (λ (r : List ℕ). taken bytes r) group.after
        ∙ front_taken bytes group.key (content ++ group.last) group.parts in
        let last : drop (length content) after ≡ group.last = ap (λ (r : List ℕ). drop (length content) r) group.after
        ∙ drop_front content group.last in
        let others : bytes_of (inside.lines ++ end ∷ []) ≡ content ++ group.last = bytes_append inside.lines (end ∷ [])
        ∙ (ap (λ (b : List ℕ). bytes_of inside.lines ++ b) (append-nil (drop (length content) after) ∙ last)
        ∙ ap (λ (b : List ℕ). b ++ group.last) (sym content_is)) in
        record {
          rest = [];
          parts = group.parts ∙ sym (append-nil (taken bytes after ++ bytes_of (inside.lines ++ end ∷ []))
              ∙ (ap (λ (b : List ℕ). taken bytes after ++ b) others
              ∙ ap (λ (b : List ℕ). b ++ (content ++ group.last)) first));
          ended = refl;
          whole = λ e. refl;
          named = λ e. cc;
        }

    is_unknown : (w : RecordValue) (bytes : List ℕ) → AtEnd left bytes w → IsExplanationOf bytes true
        (unknown_explained nested left path field w bytes)
    unfolding AtEnd
    is_unknown (Varint n) bytes at = is_line path bytes _
    is_unknown (Fixed64 bs) bytes at = is_line path bytes _
    is_unknown (Fixed32 bs) bytes at = is_line path bytes _
    is_unknown (Group content) bytes at = is_group content bytes at
    is_unknown (Length content) bytes at = is_guess content bytes at

    is_found : (found : Option (Kind × Bool)) (w : RecordValue) (bytes : List ℕ) → AtEnd left bytes w →
        IsExplanationOf bytes
        (accepts_found (accepts_message table left) found w) (found_explained nested left path field found w bytes)
    is_found None w bytes at = is_unknown w bytes at
    is_found (Some (k, true)) w bytes at = is_element k w bytes at
    is_found (Some (k, false)) w bytes at = is_value k w bytes at

-- ---- records

group_accepted : (left : ℕ) (content : List ℕ) → IsGroupContent left content → accepts_message table left raw content
    ≡ true
unfolding IsGroupContent
group_accepted zero content is = absurd is
group_accepted (suc left) content is =
    message_below_in table left (suc left) raw content (omega arith)
    ∙ rw (records_again left content is.0 is.1, raw_rows) (no_rows (accepts_message table left) is.0)

at_end_of : (left : ℕ) (bytes : List ℕ) (r : FieldRecord) (w : RecordValue) → IsRecordWithin left bytes r →
    r.value ≡ w →
    AtEnd left bytes w
unfolding AtEnd
at_end_of left bytes r (Length content) is e =
    let body = subst (λ (v : RecordValue). IsRecordBody (IsGroupContent left) is.body r.number v) e is.valued in
    ends_in (is.key ++ body.0) bytes content
    (is.parts ∙ (ap (λ (b : List ℕ). is.key ++ b) body.2 ∙ sym (append_assoc is.key body.0 content)))
at_end_of left bytes r (Varint n) is e = tt
at_end_of left bytes r (Fixed64 bs) is e = tt
at_end_of left bytes r (Fixed32 bs) is e = tt
at_end_of left bytes r (Group content) is e =
    let body = subst (λ (v : RecordValue). IsRecordBody (IsGroupContent left) is.body r.number v) e is.valued in
    record {
      key = is.key;
      last = body.0;
      parts = is.parts ∙ ap (λ (b : List ℕ). is.key ++ b) body.3;
      after = ap (λ (b : List ℕ). after_varint (varint_at b)) is.parts
          ∙ (ap after_varint (varint_again is.key is.body _ is.keyed.encoding) ∙ body.3);
      accepted = group_accepted left content body.2;
    }

is_record : (left : ℕ) (nested : NestedExplanation) → Nested left nested → (path : List FieldAt) (s : ℕ) (bytes : List
    ℕ)
    (r : FieldRecord) → IsRecordWithin left bytes r → IsExplanationOf bytes
    (accepts_record (accepts_message table left) (table s) r) (record_explained nested left path s r bytes)
is_record left nested inner path s bytes r is =
    subst (λ (a : Bool). IsExplanationOf bytes a (record_explained nested left path s r bytes))
    (field_accepts (accepts_message table left) r (table s) (distinct_rows table protocol_is_table s (table s) refl))
    (is_found left nested inner path (record { schema = s; number = r.number }) (field_numbered (table s) r.number)
    r.value bytes (at_end_of left bytes r r.value is refl))

record_step : (left : ℕ) (nested : NestedExplanation) → Nested left nested → (path : List FieldAt) (s : ℕ)
    (bytes : List ℕ) → 0 < length bytes → ((rest : List ℕ) → length rest < length bytes → IsExplanationOf rest
    (accepts_payload table left s rest) (records_past nested left path s 0 rest)) →
    (o : Option (FieldRecord × List ℕ)) →
    record_at left bytes ≡ o → IsExplanationOf bytes (accepts_payload table left s bytes)
    (records_past nested left path s 0 bytes)
record_step left nested inner path s bytes some later None e =
    is_same bytes (accepts_payload table left s bytes) false (records_past nested left path s 0 bytes)
    (no_record left path s bytes) (accepts_stop left s bytes some e) (records_stop nested left path s bytes some e)
    (is_fault _ _ bytes)
record_step left nested inner path s bytes some later (Some (r, rest)) e =
    let f = record_front left bytes r rest e in
    let a = accepts_record (accepts_message table left) (table s) r in
    let b = accepts_payload table left s rest in
    let first = record_explained nested left path s r (taken bytes rest) in
    let next = records_past nested left path s 0 rest in
    is_same bytes (accepts_payload table left s bytes) (a && b) (records_past nested left path s 0 bytes)
    (followed_by first next) (accepts_turn left s bytes r rest e) (records_turn nested left path s bytes r rest e)
    (subst (λ (x : List ℕ). IsExplanationOf x (a && b) (followed_by first next)) (sym f.parts)
    (is_followed (taken bytes rest) rest a b first next (is_record left nested inner path s (taken bytes rest) r f.is)
    (later rest f.shorter)))

is_records : (left : ℕ) (nested : NestedExplanation) → Nested left nested → (path : List FieldAt) (s n : ℕ)
    (bytes : List ℕ) → length bytes ≤ n → IsExplanationOf bytes (accepts_payload table left s bytes)
    (records_past nested left path s 0 bytes)
is_records left nested inner path s n [] h =
    is_same [] (accepts_payload table left s []) true (records_past nested left path s 0 []) nothing
    (accepts_nothing left s [] refl) (records_nil nested left path s [] refl) is_nothing
is_records left nested inner path s zero (b ∷ bs) h = absurd (omega (arith, h))
is_records left nested inner path s (suc n) (b ∷ bs) h =
    record_step left nested inner path s (b ∷ bs) (omega arith)
    (λ rest shorter. is_records left nested inner path s n rest (omega (arith, h, shorter))) (record_at left (b ∷ bs))
    refl

is_nested : (left : ℕ) → Nested left (nested_explained left)
is_nested zero = record {
  each = λ path s bytes. is_same bytes (accepts_message table 0 s bytes) false (nested_explained 0 path s bytes)
      (fault path (reason_text TooDeep)) (message_zero_in table s bytes) (nested_zero path s bytes) (is_fault _ _
      bytes);
}
is_nested (suc left) = record {
  each = λ path s bytes. is_same bytes (accepts_message table (suc left) s bytes) (accepts_payload table left s bytes)
      (nested_explained (suc left) path s bytes) (explained left path s bytes)
      (message_below_in table left (suc left) s bytes (omega arith))
      (nested_below left (suc left) path s bytes (omega arith))
      (is_records left (nested_explained left) (is_nested left) path s (length bytes) bytes (omega arith));
}

pub is_explanation : (left : ℕ) (path : List FieldAt) (s : ℕ) (bytes : List ℕ) → IsExplanationOf bytes
    (accepts_payload table left s bytes) (explained left path s bytes)
is_explanation left path s bytes =
    is_records left (nested_explained left) (is_nested left) path s (length bytes) bytes (omega arith)

-- ---- all bytes

rest_bytes : (rest : List ℕ) → bytes_of (rest_line rest) ≡ rest
rest_bytes rest = by_test (length rest == 0) refl
  where
    by_test : (b : Bool) → (length rest == 0) ≡ b → bytes_of (if b then [] else
        record { path = []; bytes = rest; says = codes "not explained" } ∷ []) ≡ rest
    by_test true e = sym (nil_from_length rest (eqb-true (length rest) 0 e))
    by_test false e = append-nil rest

pub all_bytes : (bytes : List ℕ) (a : Bool) (e : Explanation) → IsExplanationOf bytes a e → bytes_of (all_lines e bytes)
    ≡ bytes
all_bytes bytes a e is =
    let end : drop (length (bytes_of e.lines)) bytes ≡ is.rest = ap (drop (length (bytes_of e.lines))) is.parts
    ∙ drop_front (bytes_of e.lines) is.rest in
    bytes_append e.lines (rest_line (drop (length (bytes_of e.lines)) bytes))
    ∙ (ap (λ (r : List ℕ). bytes_of e.lines ++ r) (rest_bytes (drop (length (bytes_of e.lines)) bytes) ∙ end)
    ∙ sym is.parts)

opaque_bytes : (bytes : List ℕ) → bytes_of (opaque_lines bytes) ≡ bytes
opaque_bytes bytes = by_length (length bytes == 0) refl
  where
    by_read : (b : Bool) → bytes_of (if b then all_lines (explained 100 [] raw bytes) bytes
        else record { path = []; bytes = bytes; says = quoted_text bytes } ∷ []) ≡ bytes
    by_read true = all_bytes bytes (accepts_payload table 100 raw bytes) (explained 100 [] raw bytes)
        (is_explanation 100 [] raw bytes)
    by_read false = append-nil bytes

    by_length : (b : Bool) → (length bytes == 0) ≡ b → bytes_of (if b then [] else
        (if accepts_payload table 100 raw bytes then all_lines (explained 100 [] raw bytes) bytes
        else record { path = []; bytes = bytes; says = quoted_text bytes } ∷ [])) ≡ bytes
    by_length true e = sym (nil_from_length bytes (eqb-true (length bytes) 0 e))
    by_length false e = by_read (accepts_payload table 100 raw bytes)

pub payload_bytes : (schema : Option ℕ) (bytes : List ℕ) → bytes_of (payload_lines schema bytes) ≡ bytes
payload_bytes None bytes = opaque_bytes bytes
payload_bytes (Some s) bytes = all_bytes bytes (accepts_payload table 100 s bytes) (explained 100 [] s bytes)
    (is_explanation 100 [] s bytes)

-- ---- how many bytes have lines

pub count_shown : (t : Told) (lines : List Line) → t.count + length (bytes_of lines) < 2 ^ 128 → (show t lines).count
    ≡ t.count + length (bytes_of lines)
count_shown t [] h = omega arith
count_shown t (x ∷ xs) h =
    let size = length-append x.bytes (bytes_of xs) in
    let more : (with_line t x).count ≡ t.count + length x.bytes = omega (arith, h, size) in
    count_shown (with_line t x) xs (omega (arith, h, size, more)) ∙ omega (arith, size, more)

pub bytes_fit : (bytes : List ℕ) (a : Bool) (e : Explanation) → IsExplanationOf bytes a e → length (bytes_of e.lines)
    ≤ length bytes
bytes_fit bytes a e is = omega (arith, ap length is.parts, length-append (bytes_of e.lines) is.rest)

-- How many bytes have lines after a payload of a schema.
pub size_shown : (t u : Told) (path : List FieldAt) (s : ℕ) (bytes : List ℕ) → path ≡ [] → t.count ≤ 8 → length bytes
    < 2 ^ 64 → u ≡ show t (explained 100 path s bytes).lines → u.count - t.count
    ≡ length (bytes_of (explained 100 [] s bytes).lines)
size_shown t u path s bytes outside few short shown =
    let e = explained 100 [] s bytes in
    let is = is_explanation 100 [] s bytes in
    let fits = bytes_fit bytes (accepts_payload table 100 s bytes) e is in
    let counted = count_shown t e.lines (omega (arith, few, short, fits)) in
    let same : u.count ≡ (show t e.lines).count = ap (λ (x : Told). x.count) shown
    ∙ ap (λ (p : List FieldAt). (show t (explained 100 p s bytes).lines).count) outside in
    omega (arith, same, counted)

pub shown_without_rest : (t : Told) (e : Explanation) (bytes : List ℕ) → length (drop (length (bytes_of e.lines))
    bytes) ≡ 0
    → show t (all_lines e bytes) ≡ show t e.lines
shown_without_rest t e bytes none =
    let rest = drop (length (bytes_of e.lines)) bytes in
    ap (λ (b : Bool). show t (e.lines ++ (if b then [] else
    record { path = []; bytes = rest; says = codes "not explained" } ∷ []))) (eq-eqb (length rest) 0 none)
    ∙ ap (show t) (append-nil e.lines)

pub shown_with_rest : (t : Told) (e : Explanation) (bytes : List ℕ) → (length (drop (length (bytes_of e.lines)) bytes)
    ≡ 0 →
    ⊥) → show t (all_lines e bytes) ≡ with_line (show t e.lines)
    (record { path = []; bytes = drop (length (bytes_of e.lines)) bytes; says = codes "not explained" })
shown_with_rest t e bytes some =
    let rest = drop (length (bytes_of e.lines)) bytes in
    ap (λ (b : Bool). show t (e.lines ++ (if b then [] else
    record { path = []; bytes = rest; says = codes "not explained" } ∷ []))) (ne_eqb (length rest) 0 some)
    ∙ show_append t e.lines (record { path = []; bytes = rest; says = codes "not explained" } ∷ [])
