use Rattle.std.proofs.Common.{◌∙◌, ℕ, List, [], ap, sym, map-id}
use Rattle.std.proofs.lemmas.Iterator.{YieldsList-from_chars}
use Rattle.std.proofs.lemmas.Iterator.Consumers.{YieldsList-end}
use Rattle.std.proofs.lemmas.List.{append-nil}
use Rattle.std.specs.Prelude.{false, string_bytes}
use Rattle.std.specs.Str.{encode_utf8_all}
use Rattle.descriptor_set.specs.FieldReading.{camel_chars}
use Rattle.descriptor_set.proofs.read_field.camel_case.Goals as goal

pub returns : goal.returns
returns c =
    let ends = YieldsList-end (YieldsList-from_chars c.args.name.now c.utf8.name cc) c.loop-c.yielded _
    c.loop-c.yielded_by _ _ c.in-None.is c.next.ensures.steps in
    sym (append-nil (string_bytes c.loop-c.text)) ∙ c.loop-c.invariant [] ∙
    ap (λ (cs : List ℕ). encode_utf8_all (camel_chars false cs))
    (append-nil c.loop-c.yielded ∙ (rw map-id at ends.0))
