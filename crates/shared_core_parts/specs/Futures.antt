-- A tree of futures as a value.
use Rattle.std.specs.Prelude.{List, map}
use Rattle.shared_core_wire.specs.Value.{Part, Parts, Nested, Elements, nil, cons}
use Rattle.shared_core_wire.specs.Value as value
use Rattle.shared_core_codec.specs.FieldParts.{text_part, enum_part, parts_of, elements_part}
use Rattle.shared_core_parts.specs.declared.future.Future.{Future}
use Rattle.shared_core_parts.specs.declared.future.Future.TheOpen.{Future-F}
use Rattle.shared_core_parts.specs.declared.future.Future.TheFolds.{fold-Future}

-- What each of the five fields of a future gives, joined to the last of them back to the first, in the order of their
-- numbers.
abbrev pub in_rows : {A B : Type 0} → (A → B → B) → B → A → A → A → A → A → B
in_rows join last completions signals named_signals nested combinator =
    join completions (join signals (join named_signals (join nested (join combinator last))))

-- The parts of a future's fields as a value.
abbrev pub parts_in_rows : Part → Part → Part → Part → Part → Parts
parts_in_rows = in_rows (λ part parts. cons part parts) nil

-- One future, with each nested one given by its value.
abbrev pub future_layer : Future-F Parts → Parts
future_layer f =
    parts_in_rows (elements_part value.Number f.waiting_completions.items)
    (elements_part value.Number f.waiting_signals.items) (elements_part text_part f.waiting_named_signals.items)
    (elements_part Nested f.nested_futures.items) (enum_part f.combinator_type)

-- The value of a future.
abbrev pub future_parts : Future → Parts
future_parts = fold-Future Parts future_layer

-- Futures as the elements of a repeated field.
abbrev pub future_elements : List Future → Parts
future_elements fs = parts_of Nested (map future_parts fs)

-- The part of a repeated field of futures.
abbrev pub futures_part : List Future → Part
futures_part fs = Elements (future_elements fs)
