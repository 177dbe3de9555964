use Rattle.std.proofs.Common.{◌∙◌, ℕ, List, ap, refl}
use Rattle.std.proofs.lemmas.Bool.{ltb-true}
use Rattle.std.proofs.lemmas.Str.{IsUtf8-from_is_utf8}
use Rattle.shared_core_codec.specs.ProgramRows.{kind_view}
use Rattle.shared_core_wire.specs.Grammar.{Length}
use Rattle.shared_core_wire.specs.Schema.{Text, ByteString, Message}
use Rattle.shared_core_fields.specs.Coming.{is_short, is_typed_in}
use Rattle.shared_core_fields.proofs.Reading.{typed_text}
use Rattle.shared_core_fields.proofs.ValueParts.{of_text, of_bytes, of_message, typed_message, parts_are}
use Rattle.shared_core_fields.proofs.typed.known_value.Goals as goal

-- ---- texts

pub split_at-requires : goal.split_at-requires
split_at-requires g c =
    let table = g.T.Tabled.table_of c.args.schemas in
    (of_text table (kind_view c.args.found.kind) c.args.found.is_repeated c.args.wire c.args.number c.args.bytes.now
    c.requires (ap kind_view c.in-Text.is)).enough

pub from_utf8_unchecked-text-requires : goal.from_utf8_unchecked-text-requires
from_utf8_unchecked-text-requires g c =
    let table = g.T.Tabled.table_of c.args.schemas in
    let k = kind_view c.args.found.kind in
    let r = c.args.found.is_repeated in
    let text = ap kind_view c.in-Text.is in
    let d = of_text table k r c.args.wire c.args.number c.args.bytes.now c.requires text in
    let bytes = c.split_at.result.0.now in
    IsUtf8-from_is_utf8 bytes (typed_text table k r (Length bytes) bytes text refl
    (ap (λ (bs : List ℕ). is_typed_in table (k, r) (Length bs)) c.split_at.ensures.front ∙ d.typed))

pub returns-in-Text-clause-parts : goal.returns-in-Text-clause-parts
returns-in-Text-clause-parts g c =
    let table = g.T.Tabled.table_of c.args.schemas in
    let k = kind_view c.args.found.kind in
    let r = c.args.found.is_repeated in
    let text = ap kind_view c.in-Text.is in
    let d = of_text table k r c.args.wire c.args.number c.args.bytes.now c.requires text in
    parts_are table k Text r c.args.wire c.args.number c.args.bytes.now c.from_utf8_unchecked-text.result.now
    c.split_at.result.1.now d text (c.from_utf8_unchecked-text.ensures ∙ c.split_at.ensures.front)
    c.split_at.ensures.back

-- ---- bytes

pub split_at-requires-in-ByteString : goal.split_at-requires-in-ByteString
split_at-requires-in-ByteString g c =
    let table = g.T.Tabled.table_of c.args.schemas in
    (of_bytes table (kind_view c.args.found.kind) c.args.found.is_repeated c.args.wire c.args.number c.args.bytes.now
    c.requires (ap kind_view c.in-ByteString.is)).enough

pub returns-in-ByteString-clause-parts : goal.returns-in-ByteString-clause-parts
returns-in-ByteString-clause-parts g c =
    let table = g.T.Tabled.table_of c.args.schemas in
    let k = kind_view c.args.found.kind in
    let r = c.args.found.is_repeated in
    let string = ap kind_view c.in-ByteString.is in
    let d = of_bytes table k r c.args.wire c.args.number c.args.bytes.now c.requires string in
    parts_are table k ByteString r c.args.wire c.args.number c.args.bytes.now c.split_at-in-ByteString.result.0.now
    c.split_at-in-ByteString.result.1.now d string c.split_at-in-ByteString.ensures.front
    c.split_at-in-ByteString.ensures.back

-- ---- messages

pub split_at-requires-in-Message : goal.split_at-requires-in-Message
split_at-requires-in-Message g c =
    let table = g.T.Tabled.table_of c.args.schemas in
    (of_message table (kind_view c.args.found.kind) c.args.found.is_repeated c.args.wire c.args.number c.args.bytes.now
    c.requires c.in-Message.schema (ap kind_view c.in-Message.is)).enough

pub invariant_of-result : goal.invariant_of-result
invariant_of-result g c =
    let table = g.T.Tabled.table_of c.args.schemas in
    let k = kind_view c.args.found.kind in
    let r = c.args.found.is_repeated in
    let s = c.in-Message.schema in
    let message = ap kind_view c.in-Message.is in
    let d = of_message table k r c.args.wire c.args.number c.args.bytes.now c.requires s message in
    let bytes = c.split_at-in-Message.result.0.now in
    let front = c.split_at-in-Message.ensures.front in
    record {
      short = ltb-true _ _ (ap (λ (bs : List ℕ). is_short (Length bs)) front ∙ d.short);
      canonical = typed_message table k r s bytes message
          (ap (λ (bs : List ℕ). is_typed_in table (k, r) (Length bs)) front ∙ d.typed);
    }

pub returns-in-Message-clause-parts : goal.returns-in-Message-clause-parts
returns-in-Message-clause-parts g c =
    let table = g.T.Tabled.table_of c.args.schemas in
    let k = kind_view c.args.found.kind in
    let r = c.args.found.is_repeated in
    let s = c.in-Message.schema in
    let message = ap kind_view c.in-Message.is in
    let d = of_message table k r c.args.wire c.args.number c.args.bytes.now c.requires s message in
    parts_are table k (Message s) r c.args.wire c.args.number c.args.bytes.now c.split_at-in-Message.result.0.now
    c.split_at-in-Message.result.1.now d message c.split_at-in-Message.ensures.front c.split_at-in-Message.ensures.back
