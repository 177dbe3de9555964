-- What a suspension awaits, in three lists, fits the schema of the flattened suspension, and has no levels.
use Rattle.std.proofs.Common.{◌≡◌, ℕ, zero, suc, List, [], ◌∷◌, ◌++◌, true, refl, rules, subst}
use Rattle.shared_core_wire.specs.Schema.{Kind, Row, U32, Text, Message, Plain, Optional, Repeated, OneOf}
use Rattle.shared_core_wire.specs.Value.{Part, Parts, Absent, Number, Bytes, Nested, Elements, Member, nil, cons, ◌+++◌}
use Rattle.shared_core_wire.specs.Canonical.{kind_of, levels, part_levels}
use Rattle.shared_core_wire.specs.Fitting.{ElementsFit, Fits, PartFits, is_single}
use Rattle.shared_core_codec.specs.Table.{table}
use Rattle.shared_core_codec.specs.Table as tables
use Rattle.shared_core_runtime.specs.Flattening.{completions_place, elements_in, flattened, joined_lists, messages_in}
use Rattle.shared_core_runtime.specs.Flattening.{messages_of_part, named_signals_place, part_at, signals_place}

-- ---- the messages in a suspension are futures

-- each message of the list fits the schema of futures
abbrev AreFutures : List Parts → Type 0
AreFutures [] = Unit {0}
AreFutures (future ∷ futures) = Fits table future (table tables.future) × AreFutures futures

futures_append : (fs gs : List Parts) → AreFutures fs → AreFutures gs → AreFutures (fs ++ gs)
futures_append [] gs a b = b
futures_append (f ∷ fs) gs a b = (a.0, futures_append fs gs a.1 b)

-- the kind has no messages but futures
abbrev HoldsFutures : Kind → Type 0
HoldsFutures (Message s) = s ≡ tables.future
HoldsFutures k = Unit {0}

-- the row has no messages but futures
abbrev RowHoldsFutures : Row → Type 0
RowHoldsFutures (Plain n k) = HoldsFutures k
RowHoldsFutures (Optional n k) = HoldsFutures k
RowHoldsFutures (Repeated n k) = HoldsFutures k
RowHoldsFutures (OneOf members) = ⊥

-- the rows have no messages but futures
abbrev HoldFutures : List Row → Type 0
HoldFutures [] = Unit {0}
HoldFutures (row ∷ rows) = RowHoldsFutures row × HoldFutures rows

kind_holds : (row : Row) (p : Part) → RowHoldsFutures row → HoldsFutures (kind_of row p)
kind_holds (Plain n k) p h = h
kind_holds (Optional n k) p h = h
kind_holds (Repeated n k) p h = h
kind_holds (OneOf members) p h = absurd h

future_rows : HoldFutures (table tables.future)
future_rows = search rules

mutual
  unfolding Fits ElementsFit PartFits messages_in messages_of_part

  part_futures : (p : Part) (k : Kind) → HoldsFutures k → PartFits table p k → AreFutures (messages_of_part p)
  part_futures Absent k h f = tt
  part_futures (Number n) k h f = tt
  part_futures (Bytes bytes) k h f = tt
  part_futures (Nested ps) (Message s) h f =
      let g = subst (λ (t : ℕ). Fits table ps (table t)) h f in
      (g, message_futures ps (table tables.future) future_rows g)
  part_futures (Nested ps) k h f = absurd f
  part_futures (Elements ps) k h f = elements_futures ps k h f
  part_futures (Member n p) k h f = part_futures p k h f

  elements_futures : (ps : Parts) (k : Kind) → HoldsFutures k → ElementsFit table ps k → AreFutures (messages_in ps)
  elements_futures nil k h f = tt
  elements_futures (cons p ps) k h f = futures_append _ _ (part_futures p k h f.1) (elements_futures ps k h f.2)

  message_futures : (ps : Parts) (rows : List Row) → HoldFutures rows → Fits table ps rows → AreFutures (messages_in ps)
  message_futures nil rows h f = tt
  message_futures (cons p ps) [] h f = absurd f
  message_futures (cons p ps) (row ∷ rows) h f = futures_append _ _
      (part_futures p (kind_of row p) (kind_holds row p h.0) f.1) (message_futures ps rows h.1 f.2)

-- ---- their joined lists

elements_join : (k : Kind) (ps qs : Parts) → ElementsFit table ps k → ElementsFit table qs k → ElementsFit table
    (ps +++ qs) k
unfolding ElementsFit
elements_join k nil qs f g = g
elements_join k (cons p ps) qs f g = (f.0, f.1, elements_join k ps qs f.2 g)

part_elements : (k : Kind) (p : Part) → PartFits table p k → ElementsFit table (elements_in p) k
unfolding PartFits
part_elements k (Elements ps) f = f
part_elements k p f = tt

-- the row at an index is a list of a kind
abbrev IsListAt : ℕ → Kind → List Row → Type 0
IsListAt place kind [] = ⊥
IsListAt zero kind (Repeated n k ∷ rows) = k ≡ kind
IsListAt zero kind (row ∷ rows) = ⊥
IsListAt (suc place) kind (row ∷ rows) = IsListAt place kind rows

list_at : (place : ℕ) (kind : Kind) (rows : List Row) → IsListAt place kind rows → (f : Parts) → Fits table f rows
    → ElementsFit table (elements_in (part_at place f)) kind
unfolding Fits
list_at place kind rows is nil f = tt
list_at place kind [] is (cons p ps) f = absurd is
list_at zero kind (Repeated n k ∷ rows) is (cons p ps) f = part_elements kind p
    (subst (λ (k : Kind). PartFits table p k) is f.1)
list_at zero kind (Plain n k ∷ rows) is (cons p ps) f = absurd is
list_at zero kind (Optional n k ∷ rows) is (cons p ps) f = absurd is
list_at zero kind (OneOf members ∷ rows) is (cons p ps) f = absurd is
list_at (suc place) kind (row ∷ rows) is (cons p ps) f = list_at place kind rows is ps f.2

joined_fit : (place : ℕ) (kind : Kind) → IsListAt place kind (table tables.future) → (fs : List Parts) → AreFutures fs
    → ElementsFit table (joined_lists place fs) kind
unfolding joined_lists ElementsFit
joined_fit place kind is [] are = tt
joined_fit place kind is (f ∷ fs) are = elements_join kind _ _
    (list_at place kind (table tables.future) is f are.0) (joined_fit place kind is fs are.1)

-- what a flattened suspension holds
record FlattenedFits (suspension : Parts) : Type 0 where
  completions : ElementsFit table (joined_lists completions_place (messages_in suspension)) U32
  signals : ElementsFit table (joined_lists signals_place (messages_in suspension)) U32
  named_signals : ElementsFit table (joined_lists named_signals_place (messages_in suspension)) Text

lists_fit : (suspension : Parts) → Fits table suspension (table tables.suspension) → FlattenedFits suspension
lists_fit suspension fits =
    let are = message_futures suspension (table tables.suspension) (refl, tt) fits in
    record {
      completions = joined_fit completions_place U32 refl _ are;
      signals = joined_fit signals_place U32 refl _ are;
      named_signals = joined_fit named_signals_place Text refl _ are;
    }

-- ---- flattened, they fit, and have no levels

pub flattened_fits : (suspension : Parts) → Fits table suspension (table tables.suspension) → Fits table
    (flattened suspension) (table tables.suspension_v6)
unfolding Fits
flattened_fits suspension fits = let l = lists_fit suspension fits in
    (refl, l.completions, (refl, l.signals, (refl, l.named_signals, tt)))

-- the kind has no messages
abbrev IsScalar : Kind → Type 0
IsScalar (Message s) = ⊥
IsScalar k = Unit {0}

flat_part : (p : Part) (k : Kind) → IsScalar k → is_single p ≡ true → PartFits table p k → part_levels p ≡ 0
unfolding PartFits part_levels
flat_part Absent k scalar single f = refl
flat_part (Number n) k scalar single f = refl
flat_part (Bytes bytes) k scalar single f = refl
flat_part (Nested ps) (Message s) scalar single f = absurd scalar
flat_part (Nested ps) k scalar single f = absurd f
flat_part (Elements ps) k scalar single f = absurd cc
flat_part (Member n p) k scalar single f = absurd cc

flat_elements : (ps : Parts) (k : Kind) → IsScalar k → ElementsFit table ps k → levels ps ≡ 0
unfolding ElementsFit levels
flat_elements nil k scalar f = refl
flat_elements (cons p ps) k scalar f = rw (flat_part p k scalar f.0 f.1, flat_elements ps k scalar f.2) refl

pub flattened_levels : (suspension : Parts) → Fits table suspension (table tables.suspension) → levels
    (flattened suspension) ≡ 0
unfolding levels
flattened_levels suspension fits =
    let l = lists_fit suspension fits in
    rw (flat_elements _ U32 tt l.completions, flat_elements _ U32 tt l.signals, flat_elements _ Text tt l.named_signals)
    refl
