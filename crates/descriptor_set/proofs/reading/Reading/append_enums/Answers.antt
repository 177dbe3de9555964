use Rattle.std.proofs.Common.{◌≡◌, refl, ap, map, [], rules}
use Rattle.descriptor_set.specs.Reading.{Blames, contents_left}
use Rattle.descriptor_set.specs.Sets.{enum_at, enums_within}
use Rattle.descriptor_set.specs.Values.{contents_in}
use Rattle.descriptor_set.proofs.Readings.{goes_first, goes_last, goes_next, goes_wrong, reads_enum}
use Rattle.descriptor_set.proofs.reading.Reading.append_enums.Goals as goal

pub loop-content-init : goal.loop-content-init
loop-content-init c =
    let e : contents_left c.into_iter-content-iterator.result ≡ contents_in c.args.field c.args.bytes.now = cc in
    goes_first _ _ _ _ _ _ _ refl refl (ap (map (enum_at c.args.scope.now.name.now)) e)

pub returns-in_err-found-clause-blamed : goal.returns-in_err-found-clause-blamed
returns-in_err-found-clause-blamed c =
    let h : Blames c.in_err-found.field-0.0 [] (enums_within c.args.scope.now.name.now c.args.field c.args.bytes.now) =
    goes_wrong _ _ _ _ _ _ _ _ _ _ _ _ _ refl (ap (map (enum_at c.args.scope.now.name.now)) c.in-Some.ensures.steps)
    c.loop-content.invariant c.in_err-found.ensures.blamed in
    search rules

pub loop-content-preserved : goal.loop-content-preserved
loop-content-preserved c =
    goes_next _ _ _ _ _ _ _ _ _ _ _ _ _ _ _ refl refl
    (ap (map (enum_at c.args.scope.now.name.now)) c.in-Some.ensures.steps) c.loop-content.invariant
    (reads_enum _ _ _ _ c.in_ok-found.ensures.read refl refl c.in_ok-push.ensures.items)

pub returns-clause-read : goal.returns-clause-read
returns-clause-read c = goes_last _ _ _ _ _ _ _ _ refl refl (ap (map (enum_at c.args.scope.now.name.now))
    c.in-None.ensures.steps.0) c.loop-content.invariant
