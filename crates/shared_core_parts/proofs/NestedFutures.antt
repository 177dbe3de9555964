-- The futures in a future.
use Rattle.std.proofs.Common.{◌≡◌, List, [], ◌∷◌, Result, Ok, Err, refl, sym, ap, ◌∙◌}
use Rattle.std.specs.Prelude.{OnOk}
use Rattle.shared_core_wire.specs.Value.{Part, Parts, Elements, Nested, cons, ◌+++◌}
use Rattle.shared_core_codec.specs.FieldParts.{elements_part, parts_of}
use Rattle.shared_core_codec.specs.Kept.{BeginsWith}
use Rattle.shared_core_parts.specs.Futures.{future_parts, future_elements, futures_part}
use Rattle.shared_core_parts.specs.declared.future.Future.{Future}

abbrev pub future_part : Future → Part
future_part f = Nested (future_parts f)

pub each_part : (fs : List Future) → parts_of future_part fs ≡ future_elements fs
each_part [] = refl
each_part (f ∷ fs) = ap (cons (Nested (future_parts f))) (each_part fs)

pub all_parts : (fs : List Future) → elements_part future_part fs ≡ futures_part fs
all_parts fs = ap Elements (each_part fs)

-- the elements of a list to which something was added, where it was
pub grown : {T E : Type 0} (A : Type 0) (result : Result T E) (old new : List Future) (qs : Parts) → OnOk result
    (A × (parts_of future_part new ≡ parts_of future_part old +++ qs))
    → OnOk result (A × (future_elements new ≡ future_elements old +++ qs))
grown A (Ok u) old new qs h = (h.0, sym (each_part new) ∙ h.1 ∙ ap (λ (ps : Parts). ps +++ qs) (each_part old))
grown A (Err e) old new qs h = tt

-- a list that begins with the futures of another
pub kept_futures : (old new : List Future) → BeginsWith (parts_of future_part old) (parts_of future_part new) →
    BeginsWith (future_elements old) (future_elements new)
kept_futures old new h = (h.0, sym (each_part new) ∙ h.1 ∙ ap (λ (ps : Parts). ps +++ h.0) (each_part old))
