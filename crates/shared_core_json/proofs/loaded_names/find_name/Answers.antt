use Rattle.std.proofs.Common.{◌∙◌, [], ap, refl, rules}
use Rattle.std.proofs.lemmas.List.Sorted.{answers_always}
use Rattle.shared_core_json.specs.LoadedNames.{digits_view, name_view}
use Rattle.shared_core_json.specs.declared.digits.Digits.TheVariants.{Unsigned}
use Rattle.shared_core_json.proofs.SortedNames.{absent, found, same_order}
use Rattle.shared_core_json.proofs.loaded_names.find_name.Goals as goal

pub returns-in-Ok-clause-name : goal.returns-in-Ok-clause-name
returns-in-Ok-clause-name c =
    let position = c.in-Ok.ensures.position (λ name. name.number)
    (answers_always _ _ _ (λ f a r g called. search rules)) in
    let name = c.index-names-place.result in
    ap (λ x. (name_view x).1) c.index-names-place.is
    ∙ found name_view [] c.args.names.now c.args.number c.requires c.in-Ok.place name (position name)
    c.in-Ok.ensures.bound

pub returns-in-Ok-clause-digits : goal.returns-in-Ok-clause-digits
returns-in-Ok-clause-digits c =
    let position = c.in-Ok.ensures.position (λ name. name.number)
    (answers_always _ _ _ (λ f a r g called. search rules)) in
    let name = c.index-names-place.result in
    let sorted = same_order digits_view name_view (λ x. refl) 0 c.args.names.now ∙ c.requires in
    ap (λ x. (digits_view x).1) c.index-names-place.is
    ∙ found digits_view Unsigned c.args.names.now c.args.number sorted c.in-Ok.place name (position name)
    c.in-Ok.ensures.bound

pub returns-in-Err-clause-name : goal.returns-in-Err-clause-name
returns-in-Err-clause-name c =
    absent name_view [] c.args.names.now c.args.number c.requires c.in-Err._place
    (c.in-Err.ensures.position (λ name. name.number) (answers_always _ _ _ (λ f a r g called. search rules)))

pub returns-in-Err-clause-digits : goal.returns-in-Err-clause-digits
returns-in-Err-clause-digits c =
    let sorted = same_order digits_view name_view (λ x. refl) 0 c.args.names.now ∙ c.requires in
    absent digits_view Unsigned c.args.names.now c.args.number sorted c.in-Err._place
    (c.in-Err.ensures.position (λ name. name.number) (answers_always _ _ _ (λ f a r g called. search rules)))
