-- `==` of messages and of items decides whether they are equal.
use Rattle.std.proofs.Common.{◌≡◌, ℕ, List, eqb, ap, ◌∙◌}
use Rattle.std.specs.Bool.{Decides}
use Rattle.std.proofs.lemmas.Bool.{eqb-true, eq-eqb, and_parts, and_from}
use Rattle.std.proofs.lemmas.Slice.Eq.{bytes_eq-Decides}
use Rattle.shared_core_base.proofs.Types.{headers_equal, headers_same}
use Rattle.shared_core_base.specs.declared.message_header.MessageHeader.{MessageHeader}
use Rattle.shared_core_stream.specs.declared.encoding.raw_message.RawMessage.{RawMessage}
use Rattle.shared_core_stream.specs.declared.encoding.item.Item.{Item}
use Rattle.shared_core_stream.specs.declared.encoding.item.Item.TheVariants.{Message, Unknown, Skipped}
use Rattle.shared_core_stream.specs.contracts.encoding.raw_message.RawMessagePartialEq.TheImpl as messages
use Rattle.shared_core_stream.specs.contracts.encoding.item.ItemPartialEq.TheImpl as items

abbrev message : MessageHeader → List ℕ → RawMessage
message header payload = record { header = header; payload = payload }

-- messages
pub messages_decide : (a b : RawMessage) → Decides (messages.eq-value.it a b) (a ≡ b)
messages_decide a b = (
  λ is.
      let parts = and_parts _ _ is in
      ap (λ header. message header a.payload) (headers_equal a.header b.header parts.0)
      ∙ ap (message b.header) ((bytes_eq-Decides a.payload b.payload).0 parts.1),
  λ same. and_from _ _ (headers_same a.header b.header (ap (λ m. m.header) same))
      ((bytes_eq-Decides a.payload b.payload).1 (ap (λ m. m.payload) same)),
)

-- items
pub items_decide : (a b : Item) → Decides (items.eq-value.it a b) (a ≡ b)
items_decide (Message x) (Message y) = (
  λ is. ap Message ((messages_decide x y).0 is),
  λ same. (messages_decide x y).1
      (cc),
)
items_decide (Unknown n) (Unknown m) = (λ is. ap Unknown (eqb-true n m is), λ same. eq-eqb n m (cc))
items_decide (Skipped n x) (Skipped m y) = (
  λ is.
      let parts = and_parts (eqb n m) _ is in
      let code_is = eqb-true n m parts.0 in
      let payload_is = (bytes_eq-Decides x y).0 parts.1 in
      cc,
  λ same. and_from _ _ (eq-eqb n m (cc)) ((bytes_eq-Decides x y).1 (cc)),
)
items_decide a b = (λ is. cc, λ same. cc)
