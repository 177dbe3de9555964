use Rattle.std.proofs.Common.{◌≡◌, ℕ, ◌/◌, List, [], ◌∷◌, ◌++◌, length, take, drop, Bool, true, false, Some, None, ap}
use Rattle.std.proofs.Common.{◌∙◌}
use Rattle.std.specs.Prelude.{codes, nat_lt, if◌then◌else◌}
use Rattle.std.specs.Int.{w64, to_be_bytes}
use Rattle.std.proofs.lemmas.List.{append-nil, take-append-drop}
use Rattle.shared_core_base.specs.MessageType.{type_of}
use Rattle.shared_core_stream.specs.Items.{front_word}
use Rattle.shared_core_stream.specs.declared.encoding.item.Item.{Item}
use Rattle.shared_core_stream.specs.declared.encoding.item.Item.TheVariants.{Message, Unknown, Skipped}
use Rattle.explain_lines.specs.declared.options.Options.{Options}
use Rattle.explain_lines.specs.Explanation.{payload_lines}
use Rattle.explain_lines.specs.Items.{item_bytes, item_lines, rest_lines, schema_for}
use Rattle.explain_lines.specs.Lines.{bytes_of}
use Rattle.explain_lines.specs.Texts.{header_text}
use Rattle.explain_lines.proofs.Explaining.{payload_bytes}
use Rattle.explain_lines.proofs.laws.all_bytes_have_lines.Goals as goal

of_item : (options : Options) (word : ℕ) (item : Item) → bytes_of (item_lines options word item) ≡ item_bytes word item
of_item options word (Message message) = ap (λ (b : List ℕ). to_be_bytes w64 word ++ b)
    (payload_bytes (schema_for options (Some message.header.ty)) message.payload)
of_item options word (Unknown code) = append-nil (to_be_bytes w64 word)
of_item options word (Skipped code payload) = ap (λ (b : List ℕ). to_be_bytes w64 word ++ b)
    (payload_bytes (schema_for options None) payload)

of_rest : (options : Options) (rest : List ℕ) → bytes_of (rest_lines options rest) ≡ rest
of_rest options rest = by_test (nat_lt (length rest) 8)
  where
    by_test : (b : Bool) → bytes_of (if b then record { path = []; bytes = rest; says = codes "a part of a header" } ∷
        []
        else record { path = []; bytes = take 8 rest; says = header_text (front_word rest) false }
        ∷ payload_lines (schema_for options (type_of (front_word rest / 281474976710656))) (drop 8 rest)) ≡ rest
    by_test true = append-nil rest
    by_test false = ap (λ (b : List ℕ). take 8 rest ++ b)
        (payload_bytes (schema_for options (type_of (front_word rest / 281474976710656))) (drop 8 rest))
        ∙ take-append-drop 8 rest

pub returns : goal.returns
returns c = record { items = of_item; rest = of_rest }
