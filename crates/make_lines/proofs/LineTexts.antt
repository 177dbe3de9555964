-- The text of a line has no newline, and is read as the line's value.
use Rattle.std.proofs.Common.{◌≡◌, ℕ, zero, suc, ◌^◌, ◌<◌, ◌≤◌, List, [], ◌∷◌, ◌++◌, Bool, true, false, cond, not, ◌&&◌}
use Rattle.std.proofs.Common.{eqb, decimal, Option, Some, None, option_map, option_and_then, IsUtf8, inl, inr, refl, ap}
use Rattle.std.proofs.Common.{◌∙◌, arith}
use Rattle.std.proofs.lemmas.Bool.{ne_eqb, leb-true, cases_lt, cases_eq, and_parts}
use Rattle.std.proofs.lemmas.Str.{IsUtf8-append, IsUtf8-from_ascii}
use Rattle.std.proofs.lemmas.Fmt.{IsAscii-decimal}
use Rattle.std.specs.Prelude.{codes}
use Rattle.base64.specs.GeneralPurpose.{encode_of}
use Rattle.base64.specs.Engines.{standard}
use Rattle.base64.proofs.EngineFacts.{IsAscii-encode_of}
use Rattle.json.specs.Token.{Token}
use Rattle.json.specs.Json.{Json, boolean, number, string, object, Members, member, no_members}
use Rattle.json.specs.Tree.{json_tokens, depth, members_depth}
use Rattle.json.specs.Print.{escape_byte, escape, print, print_from, separator, begins, ends, token_text}
use Rattle.json.proofs.Printed.Strings.{escape_byte_plain}
use Rattle.json.proofs.Printed.Utf8.{IsUtf8-are_ascii}
use Rattle.json.proofs.Printed.Decimals.{IsNumber-decimal}
use Rattle.shared_core_base.specs.declared.header.MessageType.{MessageType}
use Rattle.shared_core_base.specs.declared.header.MessageType.TheVariants.{CustomEntry}
use Rattle.shared_core_base.specs.MessageType.{code_of, debug_name_of}
use Rattle.shared_core_wire.specs.Acceptance.{accepts_payload}
use Rattle.shared_core_wire.specs.Overlay.{meaning}
use Rattle.shared_core_json.specs.Form.{byte_string_json}
use Rattle.shared_core_json_reader.proofs.LawOfJson.{byte_string_depth, value_low}
use Rattle.shared_core_json_reader.proofs.Printed.{are_visible, visible_decimal, MayPrint, MembersMay, TokenMay}
use Rattle.shared_core_json_reader.proofs.Printed.{TokensMay, tokens_may, printed_back}
use Rattle.shared_core_json_reader.proofs.PrintedValues.{byte_string_may, value_may_in}
use Rattle.base64.specs.GeneralPurpose.{IsBytes}
use Rattle.dump_lines.specs.Lines.{ack_members, payload_members_in, meaning_json, malformed_members}
use Rattle.dump_lines.specs.Reading.{Reading}
use Rattle.shared_core_json_reader.specs.Rows.{Format, EnumValues}
use Rattle.make_lines.specs.Making.{Making, messages_of}
use Rattle.make_lines.proofs.ReadBack.{ReadsBack}
use Rattle.make_lines.specs.Lines.{value_made, line_made}
use Rattle.make_lines.specs.Made.{has_newline}
use Rattle.std.specs.Int.{w64, to_be_bytes}
use Rattle.make_lines.proofs.ItemsBack.{header_text}
use Rattle.make_lines.proofs.Taking.{newline_append}
use Rattle.json_table.proofs.Decimals.{wide_is_number}
use Rattle.make_lines.proofs.LineMembers.{header_if, message_line, unknown_line, skipped_line, rest_line}

-- ---- newlines

not_false : (b : Bool) → not b ≡ true → b ≡ false
not_false true h = absurd cc
not_false false h = refl

escapes_below : ℕ → Bool
escapes_below zero = true
escapes_below (suc n) = not (has_newline (escape_byte n)) && escapes_below n

escape_below : (n : ℕ) → escapes_below n ≡ true → (x : ℕ) → x < n → has_newline (escape_byte x) ≡ false
unfolding escapes_below
escape_below zero e x h = absurd (omega arith)
escape_below (suc n) e x h =
    let p = and_parts _ _ e in
    elim (cases_eq x n) [ inl same ↦ rw same (not_false _ p.0) | inr other ↦ escape_below n p.1 x (omega arith) ]

all_below : escapes_below 128 ≡ true
unfolding escapes_below escape_byte
all_below = refl

escaped_byte : (x : ℕ) → has_newline (escape_byte x) ≡ false
escaped_byte x = elim (cases_lt x 128) [
  | inl small ↦ escape_below 128 all_below x small
  | inr big ↦ ap has_newline (escape_byte_plain x (λ e. omega arith) (λ e. omega arith) (omega arith)) ∙ ap
      (λ (b : Bool). cond b true false) (ne_eqb x 10 (λ e. omega arith))
]

escaped : (s : List ℕ) → has_newline (escape s) ≡ false
escaped [] = refl
escaped (x ∷ s) = newline_append (escape_byte x) (escape s) (escaped_byte x) (escaped s)

quoted_line : (s : List ℕ) → has_newline (escape s ++ 34 ∷ []) ≡ false
quoted_line s = newline_append (escape s) (34 ∷ []) (escaped s) refl

visible_line : (s : List ℕ) → are_visible s ≡ true → has_newline s ≡ false
visible_line [] h = refl
visible_line (x ∷ s) h =
    let p = and_parts _ _ h in
    let q = and_parts _ _ p.0 in
    let low = leb-true 32 x q.0 in
    ap (λ (b : Bool). cond b true (has_newline s)) (ne_eqb x 10 (λ e. omega arith)) ∙ visible_line s p.1

token_line : (t : Token) → TokenMay t → has_newline (token_text t) ≡ false
token_line Token.begin_object h = refl
token_line Token.end_object h = refl
token_line Token.begin_array h = refl
token_line Token.end_array h = refl
token_line (Token.key s) h = newline_append (escape s ++ 34 ∷ []) (58 ∷ []) (quoted_line s) refl
token_line (Token.string s) h = quoted_line s
token_line (Token.number s) h = visible_line s h.1
token_line (Token.boolean true) h = refl
token_line (Token.boolean false) h = refl
token_line Token.null h = refl
token_line Token.bad h = refl

comma_line : (b : Bool) → has_newline (cond b (44 ∷ []) []) ≡ false
comma_line true = refl
comma_line false = refl

printed_line : (after : Bool) (ts : List Token) → TokensMay ts → has_newline (print_from after ts) ≡ false
unfolding print_from
printed_line after [] h = refl
printed_line after (t ∷ ts) h =
    newline_append (separator after t) (token_text t ++ print_from (ends t) ts) (comma_line (after && begins t))
    (newline_append (token_text t) (print_from (ends t) ts) (token_line t h.0) (printed_line (ends t) ts h.1))

-- ---- a line that can be printed

pub record IsLineText (j : Json) : Type 0 where
  pub may : MayPrint j
  pub low : depth j ≤ 1000

pub single_line : (j : Json) → IsLineText j → has_newline (print (json_tokens j)) ≡ false
single_line j h = printed_line false (json_tokens j) (tokens_may j h.may)

pub line_reads : (by : Making) (ms : Members) → IsLineText (object ms) → line_made by
    (print (json_tokens (object ms))) ≡ value_made by (object ms)
unfolding line_made print_from
line_reads by ms h = ap (option_and_then (value_made by)) (printed_back (object ms) h.may h.low)

-- ---- the lines of a dump

wide_number : (n : ℕ) → n < 2 ^ 128 → MayPrint (number (decimal n))
wide_number zero h = (IsNumber-decimal 0 (omega arith), visible_decimal 0 h)
wide_number (suc n) h = (wide_is_number (suc n) (omega arith) h, visible_decimal (suc n) h)

base64_may : (b : List ℕ) → MayPrint (string (encode_of standard b))
base64_may b = IsUtf8-from_ascii (encode_of standard b) (IsAscii-encode_of standard b)

ascii_decimal : (n : ℕ) → n < 65536 → IsUtf8 (decimal n)
ascii_decimal n h = IsUtf8-from_ascii (decimal n) (IsAscii-decimal n (omega arith))

pub name_utf8 : (ty : MessageType) → code_of ty < 65536 → IsUtf8 (debug_name_of ty)
name_utf8 ty = elim ty as (λ ty. code_of ty < 65536 → IsUtf8 (debug_name_of ty)) [
  | CustomEntry code ↦ λ h. IsUtf8-append (codes "CustomEntry(") (decimal code ++ codes ")")
      (IsUtf8-are_ascii (codes "CustomEntry(") refl) (IsUtf8-append (decimal code) (codes ")") (ascii_decimal code h)
      (IsUtf8-are_ascii (codes ")") refl))
  | _ ↦ λ h. IsUtf8-are_ascii _ refl
]

abbrev pub OptionIs : Option (List ℕ) → Type 0
OptionIs None = Unit {0}
OptionIs (Some s) = IsUtf8 s

-- members that can be printed
pub record AreTexts (ms : Members) : Type 0 where
  pub may : MembersMay ms
  pub low : members_depth ms ≤ 990

header_texts : (header : Option (List ℕ)) (others : Members) → OptionIs header → AreTexts others → AreTexts
    (header_if header others)
header_texts None others u h = h
header_texts (Some s) others u h = record {
  may = (IsUtf8-are_ascii (codes "header") refl, u, h.may);
  low = omega
      (arith, h.low);
}

flag_texts : (flag : Option Bool) (others : Members) → AreTexts others → AreTexts (ack_members flag others)
flag_texts None others h = h
flag_texts (Some f) others h = record {
  may = (IsUtf8-are_ascii (codes "requestedAck") refl, tt, h.may);
  low = omega
      (arith, h.low);
}

number_texts : (name : List ℕ) (n : ℕ) (others : Members) → IsUtf8 name → n < 2 ^ 128 → AreTexts others → AreTexts
    (member name (number (decimal n)) others)
number_texts name n others u h g = record { may = (u, wide_number n h, g.may); low = omega (arith, g.low) }

true_texts : (name : List ℕ) (others : Members) → IsUtf8 name → AreTexts others → AreTexts
    (member name (boolean true) others)
true_texts name others u g = record { may = (u, tt, g.may); low = omega (arith, g.low) }

bytes_texts : (texts : Bool) (b : List ℕ) → AreTexts (member (codes "bytes") (byte_string_json texts b) no_members)
bytes_texts texts b = record {
  may = (IsUtf8-are_ascii (codes "bytes") refl, byte_string_may texts b, tt);
  low = omega
      (arith, byte_string_depth texts b);
}

pub payload_texts : (reading : Reading) (values : EnumValues) (back : ReadsBack reading values) (texts : Bool)
    (schema : Option ℕ) (payload : List ℕ) → IsBytes payload → AreTexts
    (payload_members_in reading texts schema payload)
payload_texts reading values back texts None payload i = bytes_texts texts payload
payload_texts reading values back texts (Some s) payload i = by_test (accepts_payload reading.table 100 s payload) refl
  where
    format : Format
    format = (messages_of reading values).format

    by_test : (b : Bool) → accepts_payload reading.table 100 s payload ≡ b → AreTexts (cond b
        (member (codes "message") (meaning_json reading texts s payload) no_members) (malformed_members texts payload))
    by_test true a =
        let v = meaning reading.table 100 s payload in
        let is = back.well s payload a i in
        record {
          may = (
            IsUtf8-are_ascii (codes "message") refl,
            value_may_in format back.utf8 texts s v is.fits,
            tt,
          );
          low = omega (arith, value_low format texts s v is.fits, is.low);
        }
    by_test false a = true_texts (codes "malformed") _ (IsUtf8-are_ascii (codes "malformed") refl)
        (bytes_texts texts payload)

as_line : (ms : Members) → AreTexts ms → IsLineText (object ms)
as_line ms h = record { may = h.may; low = omega (arith, h.low) }

pub message_texts : (at code len : ℕ) (name : List ℕ) (flag : Option Bool) (header : Option (List ℕ)) (others : Members)
    → at < 2 ^ 128 → code < 2 ^ 128 → len < 2 ^ 128 → IsUtf8 name → OptionIs header → AreTexts others
    → IsLineText (message_line (decimal at) name (decimal code) (decimal len) flag header others)
message_texts at code len name flag header others h g f u v t =
    let after = number_texts (codes "code") code _ (IsUtf8-are_ascii (codes "code") refl) g
    (number_texts (codes "length") len _ (IsUtf8-are_ascii (codes "length") refl) f
    (flag_texts flag _ (header_texts header others v t))) in
    as_line _ (number_texts (codes "offset") at _ (IsUtf8-are_ascii (codes "offset") refl) h
    (record { may = (IsUtf8-are_ascii (codes "type") refl, u, after.may); low = omega (arith, after.low) }))

pub unknown_texts : (at code : ℕ) (header : Option (List ℕ)) → at < 2 ^ 128 → code < 2 ^ 128 → OptionIs header →
    IsLineText (unknown_line (decimal at) (decimal code) header)
unknown_texts at code header h g v =
    as_line _ (number_texts (codes "offset") at _ (IsUtf8-are_ascii (codes "offset") refl) h
    (true_texts (codes "unknown") _ (IsUtf8-are_ascii (codes "unknown") refl)
    (number_texts (codes "code") code _ (IsUtf8-are_ascii (codes "code") refl) g
    (header_texts header no_members v (record { may = tt; low = omega arith })))))

pub skipped_texts : (texts : Bool) (at code len : ℕ) (header : Option (List ℕ)) (b : List ℕ) → at < 2 ^ 128 → code < 2 ^
    128 → len < 2 ^ 128 → OptionIs header
    → IsLineText (skipped_line (decimal at) (decimal code) (decimal len) header (byte_string_json texts b))
skipped_texts texts at code len header b h g f v =
    as_line _ (number_texts (codes "offset") at _ (IsUtf8-are_ascii (codes "offset") refl) h
    (true_texts (codes "skipped") _ (IsUtf8-are_ascii (codes "skipped") refl)
    (number_texts (codes "code") code _ (IsUtf8-are_ascii (codes "code") refl) g
    (number_texts (codes "length") len _ (IsUtf8-are_ascii (codes "length") refl) f
    (header_texts header _ v (bytes_texts texts b))))))

pub rest_texts : (texts : Bool) (at len : ℕ) (o : Option (List ℕ)) → at < 2 ^ 128 → len < 2 ^ 128 → IsLineText
    (rest_line (decimal at) (decimal len) (option_map (byte_string_json texts) o))
rest_texts texts at len None h g =
    as_line _ (number_texts (codes "offset") at _ (IsUtf8-are_ascii (codes "offset") refl) h
    (number_texts (codes "rest") len _ (IsUtf8-are_ascii (codes "rest") refl) g
    (record { may = tt; low = omega arith })))
rest_texts texts at len (Some b) h g =
    as_line _ (number_texts (codes "offset") at _ (IsUtf8-are_ascii (codes "offset") refl) h
    (number_texts (codes "rest") len _ (IsUtf8-are_ascii (codes "rest") refl) g (bytes_texts texts b)))

pub header_text_is : (word written : ℕ) → OptionIs (header_text word written)
header_text_is word written = by_test (eqb word written)
  where
    by_test : (b : Bool) → OptionIs (cond b None (Some (encode_of standard (to_be_bytes w64 word))))
    by_test true = tt
    by_test false = base64_may (to_be_bytes w64 word)
