use Rattle.std.proofs.Common.{◌∙◌, sym, ap, arith}
use Rattle.json.specs.Json.{array, object}
use Rattle.json.specs.declared.tape.Node.TheVariants.{Bool, Number, String, Array, Object}
use Rattle.json_table.proofs.Seen.{value_inside, seen_value, seen_items, seen_members, says, no_other}
use Rattle.json_table.proofs.node.Node.shape.Goals as goal

pub offset_bounds-entries-at : goal.offset_bounds-entries-at
offset_bounds-entries-at c =
    omega (arith, c.self.told, value_inside c.self.inside.entries.now c.self.inside.at _ c.self.invariant.1)

pub bounds-entries-at : goal.bounds-entries-at
bounds-entries-at c = value_inside c.self.inside.entries.now c.self.inside.at _ c.self.invariant.1

pub invariant_of-result : goal.invariant_of-result
invariant_of-result c =
    let said = says c.self.inside.entries.now c.self.inside.at (Array c.in-Array.field-0) _ c.self.invariant.1
    c.in-Array.is in
    (said.0, said.2)

pub overflow_add-result-in-Object : goal.overflow_add-result-in-Object
overflow_add-result-in-Object c =
    omega (arith, c.self.told, value_inside c.self.inside.entries.now c.self.inside.at _ c.self.invariant.1)

pub invariant_of-result-in-Object : goal.invariant_of-result-in-Object
invariant_of-result-in-Object c =
    let said = says c.self.inside.entries.now c.self.inside.at (Object c.in-Object.end) _ c.self.invariant.1
    c.in-Object.is in
    (said.0, said.2)

pub returns-in-Bool : goal.returns-in-Bool
returns-in-Bool c =
    let seen = seen_value c.self.inside.entries.now c.self.inside.at _ c.self.invariant.1 in
    sym (says c.self.inside.entries.now c.self.inside.at (Bool c.in-Bool.b) _ c.self.invariant.1 c.in-Bool.is)
    ∙ sym seen ∙ c.self.view_is

pub returns-in-Number : goal.returns-in-Number
returns-in-Number c =
    let seen = seen_value c.self.inside.entries.now c.self.inside.at _ c.self.invariant.1 in
    sym (says c.self.inside.entries.now c.self.inside.at (Number c.in-Number.text) _ c.self.invariant.1 c.in-Number.is)
    ∙ sym seen ∙ c.self.view_is

pub returns-in-String : goal.returns-in-String
returns-in-String c =
    let seen = seen_value c.self.inside.entries.now c.self.inside.at _ c.self.invariant.1 in
    sym (says c.self.inside.entries.now c.self.inside.at (String c.in-String.text) _ c.self.invariant.1 c.in-String.is)
    ∙ sym seen ∙ c.self.view_is

pub returns-in-Array : goal.returns-in-Array
returns-in-Array c =
    let seen = seen_value c.self.inside.entries.now c.self.inside.at _ c.self.invariant.1 in
    let said = says c.self.inside.entries.now c.self.inside.at (Array c.in-Array.field-0) _ c.self.invariant.1
    c.in-Array.is in
    ap array (seen_items c.self.inside.entries.now _ said.0 said.2) ∙ sym said.1 ∙ sym seen ∙ c.self.view_is

pub returns-in-Object : goal.returns-in-Object
returns-in-Object c =
    let seen = seen_value c.self.inside.entries.now c.self.inside.at _ c.self.invariant.1 in
    let said = says c.self.inside.entries.now c.self.inside.at (Object c.in-Object.end) _ c.self.invariant.1
    c.in-Object.is in
    ap object (seen_members c.self.inside.entries.now _ c.in-Object.end said.0 said.2) ∙ sym said.1 ∙ sym seen
    ∙ c.self.view_is

pub returns-in-Null : goal.returns-in-Null
returns-in-Null c =
    let seen = seen_value c.self.inside.entries.now c.self.inside.at _ c.self.invariant.1 in
    sym (no_other c.self.inside.entries.now c.self.inside.at _ c.self.invariant.1 c.in-Null.is) ∙ sym seen
    ∙ c.self.view_is
