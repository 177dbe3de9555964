-- The lists of what is awaited, as they are measured and written off the tree.
use Rattle.std.proofs.Common.{◌≡◌, ℕ, zero, suc, ◌+◌, ◌-◌, ◌<◌, ◌≤◌, ◌^◌, List, [], ◌∷◌, ◌++◌, Option, Some, None, refl}
use Rattle.std.proofs.Common.{ap, sym, ◌∙◌, length, length-append, get_or, drop, drop-cons, add-one, append_assoc}
use Rattle.std.proofs.Common.{append-nil, subst, arith}
use Rattle.std.proofs.lemmas.List.{drop_all, nil_from_length}
use Rattle.std.proofs.lemmas.List.Concat.{flat_map-append}
use Rattle.std.specs.Prelude.{flat_map, map}
use Rattle.std.proofs.lemmas.Bool.{cases_lt, false≢true}
use mathlib.Core.Bool.{Bool-set}
use Rattle.std.specs.Coded.{le_prop}
use Rattle.std.proofs.Common.{inl, inr}
use Rattle.shared_core_wire.proofs.Runs.{parts_append_assoc}
use Rattle.shared_core_wire.proofs.Shortest.{shortest_large, shortest_small}
use Rattle.shared_core_wire.specs.Canonical.{canonical_payload, element_values, number_bytes, packed_values}
use Rattle.shared_core_wire.specs.Canonical.{part_values}
use Rattle.shared_core_wire.specs.Encoding.{key_bytes, record_list_bytes, shortest_varint}
use Rattle.shared_core_wire.specs.Grammar.{RecordValue}
use Rattle.shared_core_wire.specs.Fitting.{BytesFit, ElementsFit, Fits, NumberFits, PartFits}
use Rattle.shared_core_wire.specs.Schema.{Kind, Repeated, Text, U32}
use Rattle.shared_core_wire.specs.Value.{Part, Parts, Absent, Number, Bytes, Nested, Elements, Member, cons, nil, ◌+++◌}
use Rattle.shared_core_codec.proofs.Backwards.{record_size}
use Rattle.shared_core_codec.proofs.Measuring.{measured_bytes}
use Rattle.shared_core_codec.proofs.RowBytes.{each_bytes, each_cons, each_nil, elements_bytes, payload_size}
use Rattle.shared_core_codec.proofs.RowBytes.{written_before}
use Rattle.shared_core_codec.specs.FieldParts.{enum_number, enum_part, elements_part, message_part, option_part}
use Rattle.shared_core_codec.specs.FieldParts.{parts_of, text_part}
use Rattle.shared_core_codec.specs.RowEncoding.{capped, length_record, measured_message, row_bytes, value_bytes}
use Rattle.shared_core_codec.specs.RowEncoding.{varints_of}
use Rattle.shared_core_codec.specs.RowFitting.{FieldFits, RowFits}
use Rattle.shared_core_codec.specs.Table.{suspension_v6, table}
use Rattle.shared_core_parts.specs.Futures.{future_elements, future_layer, future_parts, futures_part, parts_in_rows}
use Rattle.shared_core_parts.specs.declared.future.Future.{Future}
use Rattle.shared_core_parts.specs.declared.future.Future.TheViews.{out-Future}
use Rattle.shared_core_parts.specs.declared.future.Future.TheFolds.{fold_out-Future}
use Rattle.shared_core_runtime.specs.AwaitedLists.{AwaitedList, Completions, Signals, NamedSignals, awaited_list}
use Rattle.shared_core_runtime.specs.AwaitedLists.{kind_in, list_bytes, list_row, list_row_size, own_list, place_of}
use Rattle.shared_core_runtime.specs.AwaitedLists.{run_bytes}
use Rattle.shared_core_runtime.specs.Flattening.{awaited_lists, elements_in, joined_lists, messages_in}
use Rattle.shared_core_runtime.specs.Flattening.{messages_of_part, part_at, preorder}

-- what is so of each of the three lists
pub by_list : (P : AwaitedList → Type 0) → P Completions → P Signals → P NamedSignals → (list : AwaitedList) → P list
by_list P a b c Completions = a
by_list P a b c Signals = b
by_list P a b c NamedSignals = c

-- ---- the bytes of joined lists

values_join : (ps qs : Parts) → element_values table (ps +++ qs) U32 ≡ element_values table ps U32 ++ element_values
    table qs U32
unfolding element_values
values_join nil qs = refl
values_join (cons p ps) qs = ap (λ ws. part_values table p U32 ++ ws) (values_join ps qs) ∙ sym
    (append_assoc (part_values table p U32) (element_values table ps U32) (element_values table qs U32))

run_join : (ps qs : Parts) → run_bytes (ps +++ qs) ≡ run_bytes ps ++ run_bytes qs
run_join ps qs = ap (λ ws. flat_map number_bytes ws) (values_join ps qs) ∙ flat_map-append number_bytes
    (element_values table ps U32) (element_values table qs U32)

each_join : (ps qs : Parts) → each_bytes 3 Text (ps +++ qs) ≡ each_bytes 3 Text ps ++ each_bytes 3 Text qs
each_join nil qs = ap (λ (t : List ℕ). t ++ each_bytes 3 Text qs) (sym (each_nil 3 Text))
each_join (cons p ps) qs =
    each_cons 3 Text p (ps +++ qs) ∙ ap (λ (t : List ℕ). value_bytes 3 Text p ++ t) (each_join ps qs)
    ∙ sym (append_assoc (value_bytes 3 Text p) (each_bytes 3 Text ps) (each_bytes 3 Text qs))
    ∙ ap (λ (t : List ℕ). t ++ each_bytes 3 Text qs) (sym (each_cons 3 Text p ps))

names_join : (ps qs : Parts) → row_bytes (Repeated 3 Text) (Elements (ps +++ qs)) ≡ row_bytes (Repeated 3 Text)
    (Elements ps) ++ row_bytes (Repeated 3 Text) (Elements qs)
names_join ps qs = rw (
  elements_bytes 3 Text (ps +++ qs) refl,
  elements_bytes 3 Text ps refl,
  elements_bytes 3 Text qs
      refl,
) (each_join ps qs)

pub list_join : (list : AwaitedList) (ps qs : Parts) → list_bytes list (ps +++ qs) ≡ list_bytes list ps ++ list_bytes
    list qs
list_join Completions ps qs = run_join ps qs
list_join Signals ps qs = run_join ps qs
list_join NamedSignals ps qs = names_join ps qs

pub list_nil : (list : AwaitedList) → list_bytes list nil ≡ []
unfolding element_values
list_nil Completions = refl
list_nil Signals = refl
list_nil NamedSignals = elements_bytes 3 Text nil refl ∙ each_nil 3 Text

pub elements_join : (list : AwaitedList) (ps qs : Parts) → ElementsFit table ps (kind_in list) → ElementsFit table qs
    (kind_in list) → ElementsFit table (ps +++ qs) (kind_in list)
unfolding ElementsFit
elements_join list nil qs f g = g
elements_join list (cons p ps) qs f g = (f.0, f.1, elements_join list ps qs f.2 g)

pub elements_nil : (list : AwaitedList) → ElementsFit table nil (kind_in list)
unfolding ElementsFit
elements_nil list = tt

-- ---- the messages in a future

no_messages : {A : Type 0} (view : A → Part) → ((x : A) → messages_of_part (view x) ≡ []) → (xs : List A) → messages_in
    (parts_of view xs) ≡ []
unfolding messages_in
no_messages view none [] = refl
no_messages view none (x ∷ xs) = rw (none x) (no_messages view none xs)

nested_alone : (numbers signals : List ℕ) (names : Parts) (nested : Parts) (n : ℕ) → messages_in names ≡ []
    → messages_in (parts_in_rows (elements_part Number numbers) (elements_part Number signals) (Elements names)
    (Elements nested) (Number n)) ≡ messages_in nested
unfolding messages_in
nested_alone numbers signals names nested n h = rw (
  no_messages Number (λ n. refl) numbers,
  no_messages Number
      (λ n. refl) signals,
  h,
) (append-nil _)

-- the value of a future
abbrev value_of : Future → Parts
value_of f =
    parts_in_rows (elements_part Number (out-Future f).waiting_completions.items)
    (elements_part Number (out-Future f).waiting_signals.items)
    (elements_part text_part (out-Future f).waiting_named_signals.items)
    (futures_part (out-Future f).nested_futures.items) (enum_part (out-Future f).combinator_type)

is_value : (f : Future) → future_parts f ≡ value_of f
is_value f = rw (fold_out-Future Parts future_layer f) refl

messages_in_future : (f : Future) → messages_in (value_of f) ≡ messages_in
    (future_elements (out-Future f).nested_futures.items)
unfolding messages_in
messages_in_future f =
    nested_alone (out-Future f).waiting_completions.items (out-Future f).waiting_signals.items
    (parts_of text_part (out-Future f).waiting_named_signals.items)
    (future_elements (out-Future f).nested_futures.items) (enum_number (out-Future f).combinator_type)
    (no_messages text_part (λ s. refl) (out-Future f).waiting_named_signals.items)

-- ---- a future's own lists

pub run_of : (ns : List ℕ) → run_bytes (parts_of Number ns) ≡ varints_of ns
unfolding element_values part_values varints_of
run_of [] = refl
run_of (n ∷ ns) = ap (λ (t : List ℕ). shortest_varint n ++ t) (run_of ns)

varint_some : (n : ℕ) → 1 ≤ length (shortest_varint n)
varint_some n = elim (cases_lt n 128) [
  | inl h ↦ rw (shortest_small n h) (omega arith)
  | inr h ↦ rw (shortest_large n h)
      (omega arith)
]

-- each number takes a byte at least
run_shows : (ps : Parts) → ElementsFit table ps U32 → length (element_values table ps U32) ≤ length (run_bytes ps)
unfolding ElementsFit PartFits element_values part_values
run_shows nil f = omega arith
run_shows (cons (Number n) ps) f = omega (
  arith,
  run_shows ps f.2,
  varint_some n,
  length-append (shortest_varint n)
      (run_bytes ps),
)
run_shows (cons (Bytes bytes) ps) f = absurd f.1
run_shows (cons (Nested qs) ps) f = absurd f.1
run_shows (cons Absent ps) f = absurd (false≢true f.0)
run_shows (cons (Elements qs) ps) f = absurd (false≢true f.0)
run_shows (cons (Member n p) ps) f = absurd (false≢true f.0)

pub own_completions : (f : Future) → own_list Completions (future_parts f) ≡ parts_of Number
    (out-Future f).waiting_completions.items
own_completions f = ap (λ (v : Parts). own_list Completions v) (is_value f)

pub own_signals : (f : Future) → own_list Signals (future_parts f) ≡ parts_of Number
    (out-Future f).waiting_signals.items
own_signals f = ap (λ (v : Parts). own_list Signals v) (is_value f)

pub own_names : (f : Future) → own_list NamedSignals (future_parts f) ≡ parts_of text_part
    (out-Future f).waiting_named_signals.items
own_names f = ap (λ (v : Parts). own_list NamedSignals v) (is_value f)

pub completions_bytes : (f : Future) → list_bytes Completions (own_list Completions (future_parts f)) ≡ varints_of
    (out-Future f).waiting_completions.items
completions_bytes f = ap run_bytes (own_completions f) ∙ run_of (out-Future f).waiting_completions.items

pub signals_bytes : (f : Future) → list_bytes Signals (own_list Signals (future_parts f)) ≡ varints_of
    (out-Future f).waiting_signals.items
signals_bytes f = ap run_bytes (own_signals f) ∙ run_of (out-Future f).waiting_signals.items

pub names_bytes : (f : Future) → list_bytes NamedSignals (own_list NamedSignals (future_parts f)) ≡ row_bytes
    (Repeated 3 Text) (elements_part text_part (out-Future f).waiting_named_signals.items)
names_bytes f = ap (λ (ps : Parts). row_bytes (Repeated 3 Text) (Elements ps)) (own_names f)

elements_of : (at : ℕ) (k : Kind) (ps : Parts) → FieldFits (Repeated at k) (Elements ps) → ElementsFit table ps k
unfolding RowFits PartFits
elements_of at k ps f = f.1

pub completions_fit : (f : Future) (at : ℕ) → FieldFits (Repeated at U32)
    (elements_part Number (out-Future f).waiting_completions.items) → ElementsFit table
    (own_list Completions (future_parts f)) U32
completions_fit f at h = subst (λ (ps : Parts). ElementsFit table ps U32) (sym (own_completions f))
    (elements_of at U32 _ h)

pub signals_fit : (f : Future) (at : ℕ) → FieldFits (Repeated at U32)
    (elements_part Number (out-Future f).waiting_signals.items) → ElementsFit table (own_list Signals (future_parts f))
    U32
signals_fit f at h = subst (λ (ps : Parts). ElementsFit table ps U32) (sym (own_signals f)) (elements_of at U32 _ h)

pub names_fit : (f : Future) (at : ℕ) → FieldFits (Repeated at Text)
    (elements_part text_part (out-Future f).waiting_named_signals.items) → ElementsFit table
    (own_list NamedSignals (future_parts f)) Text
names_fit f at h = subst (λ (ps : Parts). ElementsFit table ps Text) (sym (own_names f)) (elements_of at Text _ h)

-- ---- a future and those nested in it

abbrev pub nested_in : Future → List Parts
nested_in f = messages_in (future_elements (out-Future f).nested_futures.items)

pub future_list : (list : AwaitedList) (f : Future) → awaited_list list (preorder (future_parts f)) ≡ own_list list
    (future_parts f) +++ awaited_list list (nested_in f)
unfolding joined_lists
future_list list f = ap (λ (ms : List Parts). own_list list (future_parts f) +++ joined_lists (place_of list) ms)
    (ap messages_in (is_value f) ∙ messages_in_future f)

pub future_bytes : (list : AwaitedList) (f : Future) → list_bytes list (awaited_list list (preorder (future_parts f))) ≡
    list_bytes list (own_list list (future_parts f)) ++ list_bytes list (awaited_list list (nested_in f))
future_bytes list f = ap (list_bytes list) (future_list list f) ∙ list_join list (own_list list (future_parts f))
    (awaited_list list (nested_in f))

pub future_measured : (list : AwaitedList) (f : Future) (old middle new : ℕ) → middle ≡ capped
    (old + length (list_bytes list (own_list list (future_parts f))))
    → new ≡ capped (middle + length (list_bytes list (awaited_list list (nested_in f)))) → new ≡ capped
    (old + length (list_bytes list (awaited_list list (preorder (future_parts f)))))
future_measured list f old middle new a b =
    omega (
      arith,
      a,
      b,
      ap length (future_bytes list f),
      length-append
          (list_bytes list (own_list list (future_parts f))) (list_bytes list (awaited_list list (nested_in f))),
    )

pub future_fits : (list : AwaitedList) (f : Future) → ElementsFit table (own_list list (future_parts f)) (kind_in list)
    → ElementsFit table (awaited_list list (nested_in f)) (kind_in list)
    → ElementsFit table (awaited_list list (preorder (future_parts f))) (kind_in list)
future_fits list f a b = subst (λ (ps : Parts). ElementsFit table ps (kind_in list)) (sym (future_list list f))
    (elements_join list _ _ a b)

-- ---- the futures from an index on

abbrev pub futures_from : List Future → ℕ → List Parts
futures_from fs i = messages_in (future_elements (drop i fs))

joined_append : (place : ℕ) (fs gs : List Parts) → joined_lists place (fs ++ gs) ≡ joined_lists place fs +++
    joined_lists place gs
unfolding joined_lists
joined_append place [] gs = refl
joined_append place (f ∷ fs) gs =
    ap (λ (ps : Parts). elements_in (part_at place f) +++ ps) (joined_append place fs gs)
    ∙ sym (parts_append_assoc (elements_in (part_at place f)) (joined_lists place fs) (joined_lists place gs))

more_list : (list : AwaitedList) (f : Future) (fs : List Future) → awaited_list list
    (messages_in (future_elements (f ∷ fs))) ≡ awaited_list list (preorder (future_parts f)) +++ awaited_list list
    (messages_in (future_elements fs))
unfolding messages_in
more_list list f fs = joined_append (place_of list) (preorder (future_parts f)) (messages_in (future_elements fs))

pub next_list : (list : AwaitedList) (fs : List Future) (i : ℕ) (f : Future) → i < length fs → f ≡ get_or fs i f
    → awaited_list list (futures_from fs i) ≡ awaited_list list (preorder (future_parts f)) +++ awaited_list list
    (futures_from fs (i + 1))
next_list list fs i f h e = rw (add-one, drop-cons fs i f h, ← e) (more_list list f (drop (suc i) fs))

pub no_list : (list : AwaitedList) (fs : List Future) (i : ℕ) → length fs ≤ i → awaited_list list (futures_from fs i) ≡
    nil
unfolding messages_in joined_lists
no_list list fs i h = rw (drop_all i fs h) refl

-- ---- measured, the first one first

abbrev pub from_bytes : AwaitedList → List Future → ℕ → List ℕ
from_bytes list fs i = list_bytes list (awaited_list list (futures_from fs i))

pub next_bytes : (list : AwaitedList) (fs : List Future) (i : ℕ) (f : Future) → i < length fs → f ≡ get_or fs i f
    → from_bytes list fs i ≡ list_bytes list (awaited_list list (preorder (future_parts f))) ++ from_bytes list fs
    (i + 1)
next_bytes list fs i f h e = ap (list_bytes list) (next_list list fs i f h e) ∙ list_join list _ _

pub no_bytes : (list : AwaitedList) (fs : List Future) (i : ℕ) → length fs ≤ i → from_bytes list fs i ≡ []
no_bytes list fs i h = ap (list_bytes list) (no_list list fs i h) ∙ list_nil list

abbrev pub IsMeasured : AwaitedList → List Future → ℕ → ℕ → ℕ → Type 0
IsMeasured list fs first i now =
    (capped (now + length (from_bytes list fs i)) ≡ capped (first + length (from_bytes list fs 0)))
    × (now ≤ 2 ^ 32)
    × (ElementsFit table (awaited_list list (futures_from fs i)) (kind_in list) → ElementsFit table
    (awaited_list list (futures_from fs 0)) (kind_in list))

pub measured_next : (list : AwaitedList) (fs : List Future) (i : ℕ) (f : Future) (first old now : ℕ) → i < length fs → f
    ≡ get_or fs i f
    → now ≡ capped (old + length (list_bytes list (awaited_list list (preorder (future_parts f))))) → ElementsFit table
    (awaited_list list (preorder (future_parts f))) (kind_in list)
    → IsMeasured list fs first i old → IsMeasured list fs first (i + 1) now
measured_next list fs i f first old now h e s fit w = (
  omega (
    arith,
    s,
    w.0,
    ap length (next_bytes list fs i f h e),
    length-append
        (list_bytes list (awaited_list list (preorder (future_parts f)))) (from_bytes list fs (i + 1)),
  ),
  omega (arith, s),
  λ g. w.2 (subst (λ (ps : Parts). ElementsFit table ps (kind_in list)) (sym (next_list list fs i f h e))
      (elements_join list _ _ fit g)),
)

pub measured_none : (list : AwaitedList) (fs : List Future) (first : ℕ) → first ≤ 2 ^ 32 → IsMeasured list fs first 0
    first
measured_none list fs first l = (refl, l, (λ g. g))

pub measured_all : (list : AwaitedList) (fs : List Future) (i first now : ℕ) → length fs ≤ i → IsMeasured list fs first
    i now → now ≡ capped (first + length (list_bytes list (awaited_list list (messages_in (future_elements fs)))))
measured_all list fs i first now h w = omega (arith, w.0, w.1, ap length (no_bytes list fs i h))

pub all_fit : (list : AwaitedList) (fs : List Future) (i first now : ℕ) → length fs ≤ i → IsMeasured list fs first i now
    → ElementsFit table (awaited_list list (messages_in (future_elements fs))) (kind_in list)
all_fit list fs i first now h w = w.2 (subst (λ (ps : Parts). ElementsFit table ps (kind_in list))
    (sym (no_list list fs i h)) (elements_nil list))

-- ---- written, the last one first

pub record IsWritten (list : AwaitedList) (fs : List Future) (i end start : ℕ) (after now : List ℕ) : Type 0 where
  pub begins : start + length (from_bytes list fs i) ≡ end
  pub written : now ≡ from_bytes list fs i ++ after

pub written_none : (list : AwaitedList) (fs : List Future) (i end : ℕ) (after : List ℕ) → length fs ≤ i → IsWritten list
    fs i end end after after
written_none list fs i end after h = record {
  begins = rw (no_bytes list fs i h) (omega arith);
  written = rw (no_bytes list fs i h) refl;
}

pub written_next : (list : AwaitedList) (fs : List Future) (i : ℕ) (f : Future) (end old start : ℕ)
    (after mid now : List ℕ) → 0 < i → i ≤ length fs → f ≡ get_or fs (i - 1) f
    → start + length (list_bytes list (awaited_list list (preorder (future_parts f)))) ≡ old → now ≡ list_bytes list
    (awaited_list list (preorder (future_parts f))) ++ mid
    → IsWritten list fs i end old after mid → IsWritten list fs (i - 1) end start after now
written_next list fs i f end old start after mid now z h e l w b =
    let n : i - 1 + 1 ≡ i = omega arith in
    let bytes : from_bytes list fs (i - 1) ≡ list_bytes list (awaited_list list (preorder (future_parts f))) ++
    from_bytes list fs i = rw n at (next_bytes list fs (i - 1) f (omega arith) e) in
    record {
      begins = omega (
        arith,
        l,
        b.begins,
        ap length bytes,
        length-append
            (list_bytes list (awaited_list list (preorder (future_parts f)))) (from_bytes list fs i),
      );
      written = w ∙ ap (λ (t : List ℕ). list_bytes list (awaited_list list (preorder (future_parts f))) ++ t) b.written
          ∙ sym (append_assoc (list_bytes list (awaited_list list (preorder (future_parts f)))) (from_bytes list fs i)
          after) ∙ ap (λ (t : List ℕ). t ++ after) (sym bytes);
    }

from_shorter : (list : AwaitedList) (fs : List Future) (i : ℕ) → length (from_bytes list fs i) ≤ length
    (from_bytes list fs 0)
from_shorter list [] zero = omega arith
from_shorter list [] (suc i) = omega arith
from_shorter list (f ∷ fs) zero = omega arith
from_shorter list (f ∷ fs) (suc i) =
    omega (
      arith,
      from_shorter list fs i,
      ap length (ap (list_bytes list) (more_list list f fs) ∙ list_join list
          (awaited_list list (preorder (future_parts f))) (awaited_list list (messages_in (future_elements fs)))),
      length-append (list_bytes list (awaited_list list (preorder (future_parts f))))
          (list_bytes list (awaited_list list (messages_in (future_elements fs)))),
    )

pub written_room : (list : AwaitedList) (fs : List Future) (i : ℕ) (f : Future) (end start : ℕ) → 0 < i → i ≤ length fs
    → f ≡ get_or fs (i - 1) f
    → start + length (from_bytes list fs i) ≡ end → length (from_bytes list fs 0) ≤ end → length
    (list_bytes list (awaited_list list (preorder (future_parts f)))) ≤ start
written_room list fs i f end start z h e w r =
    let n : i - 1 + 1 ≡ i = omega arith in
    let bytes : from_bytes list fs (i - 1) ≡ list_bytes list (awaited_list list (preorder (future_parts f))) ++
    from_bytes list fs i = rw n at (next_bytes list fs (i - 1) f (omega arith) e) in
    omega (
      arith,
      w,
      r,
      from_shorter list fs (i - 1),
      ap length bytes,
      length-append
          (list_bytes list (awaited_list list (preorder (future_parts f)))) (from_bytes list fs i),
    )

pub nested_room : (list : AwaitedList) (f : Future) (end : ℕ) → length
    (list_bytes list (awaited_list list (preorder (future_parts f)))) ≤ end → length
    (list_bytes list (awaited_list list (nested_in f))) ≤ end
nested_room list f end r = omega (
  arith,
  r,
  ap length (future_bytes list f),
  length-append
      (list_bytes list (own_list list (future_parts f))) (list_bytes list (awaited_list list (nested_in f))),
)

pub own_room : (list : AwaitedList) (f : Future) (start end : ℕ) → length
    (list_bytes list (awaited_list list (preorder (future_parts f)))) ≤ end → start + length
    (list_bytes list (awaited_list list (nested_in f))) ≡ end
    → length (list_bytes list (own_list list (future_parts f))) ≤ start
own_room list f start end r w = omega (
  arith,
  r,
  w,
  ap length (future_bytes list f),
  length-append
      (list_bytes list (own_list list (future_parts f))) (list_bytes list (awaited_list list (nested_in f))),
)

pub future_start : (list : AwaitedList) (f : Future) (end mid start : ℕ) → mid + length
    (list_bytes list (awaited_list list (nested_in f))) ≡ end → start + length
    (list_bytes list (own_list list (future_parts f))) ≡ mid
    → start + length (list_bytes list (awaited_list list (preorder (future_parts f)))) ≡ end
future_start list f end mid start a b = omega (
  arith,
  a,
  b,
  ap length (future_bytes list f),
  length-append
      (list_bytes list (own_list list (future_parts f))) (list_bytes list (awaited_list list (nested_in f))),
)

pub future_written : (list : AwaitedList) (f : Future) (after mid now : List ℕ) → mid ≡ list_bytes list
    (awaited_list list (nested_in f)) ++ after → now ≡ list_bytes list (own_list list (future_parts f)) ++ mid
    → now ≡ list_bytes list (awaited_list list (preorder (future_parts f))) ++ after
future_written list f after mid now a b =
    b ∙ ap (λ (t : List ℕ). list_bytes list (own_list list (future_parts f)) ++ t) a
    ∙ sym (append_assoc (list_bytes list (own_list list (future_parts f)))
    (list_bytes list (awaited_list list (nested_in f))) after) ∙ ap (λ (t : List ℕ). t ++ after)
    (sym (future_bytes list f))

-- ---- a list of numbers as a packed run

packed_bytes : (at : ℕ) (ws : List RecordValue) → 0 < length (flat_map number_bytes ws) → record_list_bytes
    (map (λ w. record { number = at; value = w }) (packed_values U32 ws)) ≡ length_record at (flat_map number_bytes ws)
packed_bytes at [] h = absurd (omega arith)
packed_bytes at (w ∷ ws) h = append-nil _

some_row : (at : ℕ) (ps : Parts) → 0 < length (run_bytes ps) → row_bytes (Repeated at U32) (Elements ps) ≡ length_record
    at (run_bytes ps)
unfolding row_bytes part_values
some_row at ps h = packed_bytes at (element_values table ps U32) h

no_values : (at : ℕ) (ws : List RecordValue) → length ws ≤ 0 → record_list_bytes
    (map (λ w. record { number = at; value = w }) (packed_values U32 ws)) ≡ []
no_values at [] h = refl
no_values at (w ∷ ws) h = absurd (omega arith)

no_row : (at : ℕ) (ps : Parts) → length (element_values table ps U32) ≤ length (run_bytes ps) → length (run_bytes ps) ≡
    0 → row_bytes (Repeated at U32) (Elements ps) ≡ []
unfolding row_bytes part_values
no_row at ps f h = no_values at (element_values table ps U32) (omega (arith, f, h))

-- what a run adds to a size
run_measured : (at : ℕ) (ps : Parts) (old run new : ℕ) → ElementsFit table ps U32 → old ≤ 2 ^ 32 → run ≡ capped
    (length (run_bytes ps)) → (run ≡ 0 → new ≡ old)
    → (0 < run → new ≡ measured_message at run old) → new ≡ capped
    (old + length (row_bytes (Repeated at U32) (Elements ps)))
run_measured at ps old run new f l e none some =
    elim (cases_lt 0 run) [
      | inl h ↦ some h ∙ measured_bytes at old run (run_bytes ps) e ∙ ap (λ (t : List ℕ). capped (old + length t))
          (sym (some_row at ps (omega (arith, e, h))))
      | inr h ↦
          let z : length (run_bytes ps) ≡ 0 = omega (arith, e, h) in
          let n : new ≡ old = none (omega (arith, h)) in
          omega (arith, n, l, ap length (no_row at ps (run_shows ps f) z))
    ]

run_room : (at : ℕ) (ps : Parts) → length (run_bytes ps) ≤ length (row_bytes (Repeated at U32) (Elements ps))
run_room at ps = elim (cases_lt 0 (length (run_bytes ps))) [
  | inl h ↦ omega
      (arith, ap length (some_row at ps h), record_size at (run_bytes ps))
  | inr h ↦ omega (arith, h)
]

pub elements_room : (list : AwaitedList) (ms : List Parts) → length (list_bytes list (awaited_list list ms)) ≤
    list_row_size list ms
elements_room Completions ms = run_room 1 (awaited_list Completions ms)
elements_room Signals ms = run_room 2 (awaited_list Signals ms)
elements_room NamedSignals ms = omega arith

-- nothing is after the elements in their slice
pub at_end : (old mid elements : List ℕ) → mid ≡ elements ++ drop (length old) old → mid ≡ elements ++ []
at_end old mid elements e = e ∙ ap (λ (t : List ℕ). elements ++ t) (drop_all (length old) old (omega arith))

pub names_written : (start : ℕ) (old now row : List ℕ) → start + length row ≡ length old → length old ≡ length row →
    drop start now ≡ row ++ drop (length old) old → now ≡ row
names_written start old now row w l e =
    let z : start ≡ 0 = omega (arith, w, l) in
    let d : drop 0 now ≡ row ++ drop (length old) old = rw z at e in
    at_end old now row d ∙ append-nil row

-- the head of a run goes before it
pub head_room : (at : ℕ) (ps : Parts) (len start : ℕ) → ElementsFit table ps U32 → len ≡ length
    (row_bytes (Repeated at U32) (Elements ps)) → start + length (run_bytes ps) ≡ len → start < len
    → length (key_bytes at 2) + length (shortest_varint (len - start)) ≡ start
head_room at ps len start f r w h =
    let n : length (run_bytes ps) ≡ len - start = omega (arith, w) in
    omega (
      arith,
      r,
      w,
      n,
      ap length (some_row at ps (omega (arith, w, h))),
      record_size at (run_bytes ps),
      ap
          (λ (k : ℕ). length (shortest_varint k)) n,
    )

pub head_written : (at : ℕ) (ps : Parts) (start : ℕ) (old now : List ℕ) → ElementsFit table ps U32 → length old ≡ length
    (row_bytes (Repeated at U32) (Elements ps)) → start + length (run_bytes ps) ≡ length old
    → drop start old ≡ run_bytes ps ++ [] → (length old ≤ start → now ≡ old) →
    (start < length old → now ≡ key_bytes at 2 ++ (shortest_varint (length old - start) ++ drop start old))
    → now ≡ row_bytes (Repeated at U32) (Elements ps)
head_written at ps start old now f r w d none some =
    elim (cases_lt start (length old)) [
      | inl h ↦
          let n : length old - start ≡ length (run_bytes ps) = omega (arith, w) in
          some h ∙ rw (n, d, append-nil (run_bytes ps)) (sym (some_row at ps (omega (arith, w, h))))
      | inr h ↦
          let z : length (run_bytes ps) ≡ 0 = omega (arith, w, h) in
          let e : row_bytes (Repeated at U32) (Elements ps) ≡ [] = no_row at ps (run_shows ps f) z in
          none h ∙ nil_from_length old (omega (arith, r, ap length e)) ∙ sym e
    ]

-- ---- a whole suspension

-- the value of a suspension that awaits this
abbrev pub suspension_of : Option Future → Parts
suspension_of awaited = cons (option_part (message_part future_parts) awaited) nil

pub nothing_awaited : (awaited : Option Future) → awaited ≡ None → messages_in (suspension_of awaited) ≡ []
unfolding messages_in
nothing_awaited awaited h = rw h refl

pub something_awaited : (awaited : Option Future) (f : Future) → awaited ≡ Some f → messages_in (suspension_of awaited)
    ≡ preorder (future_parts f)
unfolding messages_in
something_awaited awaited f h = rw h (append-nil (preorder (future_parts f)))

pub nothing_sums : (list : AwaitedList) (ms : List Parts) → ms ≡ [] → length (list_bytes list (awaited_list list ms)) ≡
    0
unfolding joined_lists
nothing_sums list ms h = rw h (ap length (list_nil list))

pub nothing_fits : (list : AwaitedList) (ms : List Parts) → ms ≡ [] → ElementsFit table (awaited_list list ms)
    (kind_in list)
unfolding joined_lists ElementsFit
nothing_fits list ms h = rw h tt

-- the rows of a flattened suspension are its payload
lists_whole : (ms : List Parts) → canonical_payload table suspension_v6 (awaited_lists ms) ≡ list_row Completions ms ++
    (list_row Signals ms ++ (list_row NamedSignals ms ++ []))
lists_whole ms = sym (written_before suspension_v6 (awaited_lists ms) [] ∙ append-nil _)

pub sizes_whole : (ms : List Parts) → length (canonical_payload table suspension_v6 (awaited_lists ms)) ≡ list_row_size
    Completions ms + (list_row_size Signals ms + list_row_size NamedSignals ms)
sizes_whole ms = omega (arith, payload_size suspension_v6 (awaited_lists ms))

-- the rows of the two runs, measured one after the other
pub runs_measured : (ms : List Parts) (begin first second completions signals : ℕ) →
    ((list : AwaitedList) → ElementsFit table (awaited_list list ms) (kind_in list)) → begin ≡ 0
    → completions ≡ capped (length (list_bytes Completions (awaited_list Completions ms))) → signals ≡ capped
    (length (list_bytes Signals (awaited_list Signals ms)))
    → (completions ≡ 0 → first ≡ begin) → (0 < completions → first ≡ measured_message 1 completions begin) →
    (signals ≡ 0 → second ≡ first) → (0 < signals → second ≡ measured_message 2 signals first)
    → (first ≡ capped (list_row_size Completions ms)) × (second ≡ capped
    (list_row_size Completions ms + list_row_size Signals ms))
runs_measured ms begin first second completions signals fit z a b no_first some_first no_second some_second =
    let p : first ≡ capped (begin + list_row_size Completions ms) = run_measured 1 (awaited_list Completions ms) begin
    completions first (fit Completions) (omega (arith, z)) a no_first some_first in
    let q : second ≡ capped (first + list_row_size Signals ms) = run_measured 2 (awaited_list Signals ms) first signals
    second (fit Signals) (omega (arith, p)) b no_second some_second in
    (omega (arith, p, z), omega (arith, p, q, z))

pub lists_written : (ms ns : List Parts) (completions signals names : List ℕ) → ms ≡ ns → completions ≡ list_row
    Completions ns → signals ≡ list_row Signals ns → names ≡ list_row NamedSignals ns
    → (completions ++ signals) ++ names ≡ canonical_payload table suspension_v6 (awaited_lists ms)
lists_written ms ns completions signals names h a b c =
    rw (h, a, b, c)
    (append_assoc (list_row Completions ns) (list_row Signals ns) (list_row NamedSignals ns) ∙ ap
    (λ (t : List ℕ). list_row Completions ns ++ (list_row Signals ns ++ t))
    (sym (append-nil (list_row NamedSignals ns))) ∙ sym (lists_whole ns))

no_rows : list_row_size Completions [] + (list_row_size Signals [] + list_row_size NamedSignals []) ≡ 0
unfolding joined_lists ElementsFit element_values
no_rows = omega (
  arith,
  ap length (no_row 1 nil (run_shows nil tt) refl),
  ap length
      (no_row 2 nil (run_shows nil tt) refl),
  ap length (list_nil NamedSignals),
)

pub nothing_written : (ms : List Parts) (out : List ℕ) → ms ≡ [] → length out ≡ length
    (canonical_payload table suspension_v6 (awaited_lists ms)) → out ≡ canonical_payload table suspension_v6
    (awaited_lists ms)
nothing_written ms out h l =
    let z : length (canonical_payload table suspension_v6 (awaited_lists ms)) ≡ 0 = rw h (sizes_whole [] ∙ no_rows) in
    nil_from_length out (omega (arith, l, z)) ∙ sym (nil_from_length
    (canonical_payload table suspension_v6 (awaited_lists ms)) z)

pub lists_fit : (ms : List Parts) → ((list : AwaitedList) → ElementsFit table (awaited_list list ms) (kind_in list)) →
    Fits table (awaited_lists ms) (table suspension_v6)
unfolding Fits
lists_fit ms f = (refl, f Completions, (refl, f Signals, (refl, f NamedSignals, tt)))

pub list_fits : (list : AwaitedList) (ms : List Parts) → Fits table (awaited_lists ms) (table suspension_v6) →
    ElementsFit table (awaited_list list ms) (kind_in list)
unfolding Fits
list_fits Completions ms f = f.1
list_fits Signals ms f = f.2.1
list_fits NamedSignals ms f = f.2.2.1

-- ---- each way to fit is the same

elements_prop : (k : Kind) → ((n : ℕ) → IsProp (NumberFits k n)) → ((bytes : List ℕ) → IsProp (BytesFit k bytes)) →
    ((qs : Parts) → PartFits table (Nested qs) k → ⊥) → (ps : Parts) → IsProp (ElementsFit table ps k)
unfolding ElementsFit PartFits
elements_prop k ns bs ms nil = hlevel le_prop
elements_prop k ns bs ms (cons (Number n) ps) = hlevel (Bool-set, ns n, elements_prop k ns bs ms ps)
elements_prop k ns bs ms (cons (Bytes bytes) ps) = hlevel (Bool-set, bs bytes, elements_prop k ns bs ms ps)
elements_prop k ns bs ms (cons (Nested qs) ps) = λ x y. absurd (ms qs x.1)
elements_prop k ns bs ms (cons Absent ps) = λ x y. absurd (false≢true x.0)
elements_prop k ns bs ms (cons (Elements qs) ps) = λ x y. absurd (false≢true x.0)
elements_prop k ns bs ms (cons (Member n p) ps) = λ x y. absurd (false≢true x.0)

pub list_prop : (list : AwaitedList) (ps : Parts) → IsProp (ElementsFit table ps (kind_in list))
unfolding PartFits
list_prop Completions ps = elements_prop U32 (λ n. hlevel le_prop) (λ bytes. hlevel le_prop) (λ qs f. f) ps
list_prop Signals ps = elements_prop U32 (λ n. hlevel le_prop) (λ bytes. hlevel le_prop) (λ qs f. f) ps
list_prop NamedSignals ps = elements_prop Text (λ n. hlevel le_prop) (λ bytes. hlevel Bool-set) (λ qs f. f) ps

pub flat_prop : (ms : List Parts) → IsProp (Fits table (awaited_lists ms) (table suspension_v6))
unfolding Fits
flat_prop ms = hlevel (
  Bool-set,
  list_prop Completions (awaited_list Completions ms),
  list_prop Signals
      (awaited_list Signals ms),
  list_prop NamedSignals (awaited_list NamedSignals ms),
)
