use Rattle.std.proofs.Common.{◌∙◌, ℕ, List, ap, arith, map}
use Rattle.shared_core_json.specs.Fields.{name_in}
use Rattle.shared_core_json.specs.LoadedNames.{digits_in, digits_view, names_view, unsorted_after}
use Rattle.shared_core_json.specs.declared.digits.Digits.{Digits}
use Rattle.shared_core_json.proofs.NamesAt.{at_index, past_end}
use Rattle.shared_core_json.proofs.named_table.NamedTable.find.Goals as goal

pub find_name-requires : goal.find_name-requires
find_name-requires g c =
    ap (unsorted_after 0) (ap names_view c.as_slice.ensures.value
    ∙ ap (λ names. names_view names.items) c.index.ensures ∙ at_index (λ names. names_view names.items)
    c.args.self.now.names.items c.args.schema _ (omega (arith, c.if-place-len.true, c.len.ensures)))
    ∙ c.args.self.now.sorted c.args.schema

pub returns-then-place-len-clause-name : goal.returns-then-place-len-clause-name
returns-then-place-len-clause-name g c =
    c.find_name.ensures.name ∙ ap (λ (ns : List (ℕ × List ℕ)). name_in ns c.args.number)
    (ap names_view c.as_slice.ensures.value
    ∙ ap (λ names. names_view names.items) c.index.ensures ∙ at_index (λ names. names_view names.items)
    c.args.self.now.names.items c.args.schema _ (omega (arith, c.if-place-len.true, c.len.ensures)))

pub returns-then-place-len-clause-digits : goal.returns-then-place-len-clause-digits
returns-then-place-len-clause-digits g c =
    c.find_name.ensures.digits ∙ ap (λ (ds : List (ℕ × Digits)). digits_in ds c.args.number)
    (ap (map digits_view) c.as_slice.ensures.value
    ∙ ap (λ names. map digits_view names.items) c.index.ensures ∙ at_index (λ names. map digits_view names.items)
    c.args.self.now.names.items c.args.schema _ (omega (arith, c.if-place-len.true, c.len.ensures)))

pub returns-else-place-len-clause-name : goal.returns-else-place-len-clause-name
returns-else-place-len-clause-name g c =
    ap (λ (ns : List (ℕ × List ℕ)). name_in ns c.args.number) (past_end (λ names. names_view names.items)
    c.args.self.now.names.items c.args.schema (omega (arith, c.if-place-len.false, c.len.ensures)))

pub returns-else-place-len-clause-digits : goal.returns-else-place-len-clause-digits
returns-else-place-len-clause-digits g c =
    ap (λ (ds : List (ℕ × Digits)). digits_in ds c.args.number) (past_end (λ names. map digits_view names.items)
    c.args.self.now.names.items c.args.schema (omega (arith, c.if-place-len.false, c.len.ensures)))
