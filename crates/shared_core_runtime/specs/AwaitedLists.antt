-- The lists of what is awaited, one by one, as bytes.
use Rattle.std.specs.Prelude.{ℕ, List, flat_map, length}
use Rattle.shared_core_wire.specs.Schema.{Kind, U32, Text, Row, Repeated}
use Rattle.shared_core_wire.specs.Value.{Parts, Elements}
use Rattle.shared_core_wire.specs.Canonical.{element_values, number_bytes}
use Rattle.shared_core_codec.specs.Table.{table}
use Rattle.shared_core_codec.specs.RowEncoding.{row_bytes}
use Rattle.shared_core_runtime.specs.declared.flat_suspension.ListEnds.{ListEnds}
use Rattle.shared_core_runtime.specs.declared.flat_suspension.ListSizes.{ListSizes}
use Rattle.shared_core_runtime.specs.Flattening.{completions_place, elements_in, joined_lists, named_signals_place}
use Rattle.shared_core_runtime.specs.Flattening.{part_at, signals_place}

-- One of the three lists.
pub data AwaitedList : Type 0 where
  Completions : AwaitedList
  Signals : AwaitedList
  NamedSignals : AwaitedList

-- What the list has of three.
abbrev pub of_list : {A : Type 0} → AwaitedList → A → A → A → A
of_list Completions a b c = a
of_list Signals a b c = b
of_list NamedSignals a b c = c

-- The size of a list.
abbrev pub size_in : AwaitedList → ListSizes → ℕ
size_in list sizes = of_list list sizes.completions sizes.signals sizes.names

-- Where the written elements of a list begin.
abbrev pub end_in : AwaitedList → ListEnds → ℕ
end_in list ends = of_list list ends.completions ends.signals ends.names

-- The index of a list in a future, counted from 0.
abbrev pub place_of : AwaitedList → ℕ
place_of Completions = completions_place
place_of Signals = signals_place
place_of NamedSignals = named_signals_place

-- The kind of a list's elements.
abbrev pub kind_in : AwaitedList → Kind
kind_in Completions = U32
kind_in Signals = U32
kind_in NamedSignals = Text

-- The row of a list in the schema of the flattened suspension.
abbrev pub row_in : AwaitedList → Row
row_in Completions = Repeated 1 U32
row_in Signals = Repeated 2 U32
row_in NamedSignals = Repeated 3 Text

-- A list of a future's value.
abbrev pub own_list : AwaitedList → Parts → Parts
own_list list future = elements_in (part_at (place_of list) future)

-- A list of some futures: their own lists, joined.
abbrev pub awaited_list : AwaitedList → List Parts → Parts
awaited_list list futures = joined_lists (place_of list) futures

-- The varints of numbers, as a packed run has them.
abbrev pub run_bytes : Parts → List ℕ
run_bytes elements = flat_map number_bytes (element_values table elements U32)

-- The bytes of a list's elements: the varints of numbers, or a record for each name.
abbrev pub list_bytes : AwaitedList → Parts → List ℕ
list_bytes Completions elements = run_bytes elements
list_bytes Signals elements = run_bytes elements
list_bytes NamedSignals elements = row_bytes (Repeated 3 Text) (Elements elements)

-- The bytes of a list of some futures in the payload: a packed run with its key and its length, or the names.
abbrev pub list_row : AwaitedList → List Parts → List ℕ
list_row list futures = row_bytes (row_in list) (Elements (awaited_list list futures))

-- The number of these bytes.
abbrev pub list_row_size : AwaitedList → List Parts → ℕ
list_row_size list futures = length (list_row list futures)
