-- A tree of futures as the three lists of what it awaits.
use Rattle.std.specs.Prelude.{ℕ, zero, suc, List, [], ◌∷◌, ◌++◌}
use Rattle.shared_core_wire.specs.Value.{Part, Parts, Absent, Number, Bytes, Nested, Elements, Member, nil, cons, ◌+++◌}

unfoldable mutual
  -- The messages in a part: its message and those nested in it, or those in its elements, in order.
  pub messages_of_part : Part → List Parts
  messages_of_part Absent = []
  messages_of_part (Number n) = []
  messages_of_part (Bytes bytes) = []
  messages_of_part (Nested message) = message ∷ messages_in message
  messages_of_part (Elements elements) = messages_in elements
  messages_of_part (Member n p) = messages_of_part p

  -- The messages in some parts, each before those nested in it.
  pub messages_in : Parts → List Parts
  messages_in nil = []
  messages_in (cons p ps) = messages_of_part p ++ messages_in ps

-- The preorder of a future's value: the future, then the preorders of its nested futures in their order, since no other
-- message is in it.
abbrev pub preorder : Parts → List Parts
preorder future = future ∷ messages_in future

-- The part of a value at an index of its schema, counted from 0.
abbrev pub part_at : ℕ → Parts → Part
part_at place nil = Absent
part_at zero (cons p ps) = p
part_at (suc place) (cons p ps) = part_at place ps

-- The elements that a part holds.
abbrev pub elements_in : Part → Parts
elements_in (Elements elements) = elements
elements_in p = nil

-- The joined lists at an index of some futures, duplicates kept.
unfoldable pub joined_lists : ℕ → List Parts → Parts
joined_lists place [] = nil
joined_lists place (future ∷ futures) = elements_in (part_at place future) +++ joined_lists place futures

-- The index of the list of completions among the parts of a future, counted from 0.
abbrev pub completions_place : ℕ
completions_place = 0

-- That of the list of signals.
abbrev pub signals_place : ℕ
signals_place = 1

-- That of the list of named signals.
abbrev pub named_signals_place : ℕ
named_signals_place = 2

-- The three lists of some futures: the completions, the signals and the named signals that they wait for.
abbrev pub awaited_lists : List Parts → Parts
awaited_lists futures = cons (Elements (joined_lists completions_place futures))
    (cons (Elements (joined_lists signals_place futures))
    (cons (Elements (joined_lists named_signals_place futures)) nil))

-- The flattened form of a suspension's value: the three lists over the preorder of what it awaits, which are empty if
-- it awaits nothing.
abbrev pub flattened : Parts → Parts
flattened suspension = awaited_lists (messages_in suspension)
