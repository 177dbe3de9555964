-- Fields, by their kinds.
use Rattle.std.proofs.Common.{◌≡◌, ℕ, ◌%◌, List, [], ◌∷◌, ◌++◌, map, true, false, Option, Some, None, Result, Ok}
use Rattle.std.proofs.Common.{Err, refl, sym, ap, ◌∙◌, append-nil}
use Rattle.std.specs.Prelude.{OnOk, is_some}
use Rattle.std.specs.Result.{IsErrOf}
use Rattle.shared_core_wire.specs.declared.error.WireError.{WireError}
use Rattle.shared_core_wire.specs.declared.error.WireError.TheVariants.{Malformed, OutOfMemory}
use Rattle.shared_core_codec.specs.Computed.{IsComputed, packed_onto}
use Rattle.shared_core_codec.specs.FieldParts.{parts_of}
use Rattle.shared_core_codec.specs.Occurrences.{IsEmptyField}
use Rattle.shared_core_codec.specs.RowEncoding.{unpacked}
use Rattle.shared_core_wire.proofs.Readers.{some_is}
use Rattle.shared_core_wire.proofs.ReadBack.{not_true}
use Rattle.shared_core_wire.proofs.Runs.{parts_append_nil}
use Rattle.shared_core_wire.specs.Acceptance.{NestedAcceptance, accepts_value, accepts_element}
use Rattle.shared_core_wire.specs.Grammar.{RecordValue, Length}
use Rattle.shared_core_wire.specs.Schema.{Kind, U32, U64, Boolean, Enumeration, Text, ByteString, Message}
use Rattle.shared_core_wire.specs.Overlay.{NestedOverlay, number_parts, packed_elements, singular_of, elements_of}
use Rattle.shared_core_wire.specs.Overlay.{all_elements}
use Rattle.shared_core_codec.specs.Table.{table}
use Rattle.shared_core_wire.specs.Reader.{packed_numbers, ◌>>=◌}
use Rattle.shared_core_wire.specs.Value.{Part, Parts, Absent, Number, Nested, cons, nil, one_part, empty_value, ◌+++◌}

-- ---- elements

pub parts_push : {A : Type 0} (view : A → Part) (xs : List A) (x : A) → parts_of view (xs ++ x ∷ []) ≡ parts_of view xs
    +++ one_part (view x)
parts_push view [] x = refl
parts_push view (y ∷ ys) x = ap (cons (view y)) (parts_push view ys x)

abbrev low : ℕ → ℕ
low n = n % 4294967296

parts_low : (ns : List ℕ) → parts_of Number (map low ns) ≡ number_parts U32 ns
parts_low [] = refl
parts_low (n ∷ ns) = ap (cons (Number (low n))) (parts_low ns)

parts_join : (xs ys : List ℕ) → parts_of Number (xs ++ ys) ≡ parts_of Number xs +++ parts_of Number ys
parts_join [] ys = refl
parts_join (x ∷ xs) ys = ap (cons (Number x)) (parts_join xs ys)

onto : (old new : List ℕ) (o : Option (List ℕ)) → (o >>= λ ns. Some (old ++ map low ns)) ≡ Some new → (is_some o ≡ true)
    × (parts_of Number new ≡ parts_of Number old +++ (packed_elements U32 o +++ nil))
onto old new None e = absurd cc
onto old new (Some ns) e = (
  refl,
  ap (parts_of Number) (sym (some_is _ _ e)) ∙ parts_join old (map low ns) ∙ ap
      (λ ps. parts_of Number old +++ ps) (parts_low ns ∙ sym (parts_append_nil (number_parts U32 ns))),
)

not_onto : (old : List ℕ) (o : Option (List ℕ)) → (o >>= λ ns. Some (old ++ map low ns)) ≡ None → is_some o ≡ false
not_onto old None e = refl
not_onto old (Some ns) e = absurd cc

pub packed_extends : {X : Type 0} (old new bytes : List ℕ) (result : Result X WireError) → IsComputed (λ _. new) result
    (packed_onto old bytes) → OnOk result ((is_some (packed_numbers bytes) ≡ true) ×
    (parts_of Number new ≡ parts_of Number old +++ (packed_elements U32 (packed_numbers bytes) +++ nil)))
packed_extends old new bytes (Ok x) h = onto old new (packed_numbers bytes) h
packed_extends old new bytes (Err e) h = tt

pub packed_rejected : {X : Type 0} (old new bytes : List ℕ) (result : Result X WireError) → IsComputed (λ _. new) result
    (packed_onto old bytes) → IsErrOf result Malformed → is_some (packed_numbers bytes) ≡ false
packed_rejected old new bytes (Ok x) h e = absurd cc
packed_rejected old new bytes (Err Malformed) h e = not_onto old (packed_numbers bytes) h
packed_rejected old new bytes (Err OutOfMemory) h e = absurd cc

-- ---- one element more

-- what is merged into an empty field is what is merged into nothing
pub from_empty : (nested : NestedOverlay) (k : Kind) (p q : Part) (w : RecordValue) → IsEmptyField k p → singular_of
    table nested k p w [] ≡ q → singular_of table nested k Absent w [] ≡ q
from_empty nested U32 p q w h e = e
from_empty nested U64 p q w h e = e
from_empty nested Boolean p q w h e = e
from_empty nested Enumeration p q w h e = e
from_empty nested Text p q w h e = e
from_empty nested ByteString p q w h e = e
from_empty nested (Message s) p q w h e = ap (λ (t : Part). singular_of table nested (Message s) t w []) (sym h) ∙ e

pub element_rejected : (accepts_nested : NestedAcceptance) (k : Kind) (w : RecordValue) → unpacked k ≡ true →
    accepts_value accepts_nested k w ≡ false → accepts_element accepts_nested k w ≡ false
element_rejected accepts_nested k w u h = rw (not_true _ u) h

message_element : (s : ℕ) (nested : NestedOverlay) (accepts_nested : NestedAcceptance) (w : RecordValue) (p : Part)
    → accepts_value accepts_nested (Message s) w ≡ true → singular_of table nested (Message s) Absent w [] ≡ p
    → (accepts_element accepts_nested (Message s) w ≡ true) × (elements_of table nested (Message s) w ≡ one_part p)
message_element s nested accepts_nested (Length bs) p h e =
    (h, ap one_part (ap (λ (w : List ℕ). Nested (nested s (empty_value (table s)) w)) (sym (append-nil bs)) ∙ e))
message_element _ _ _ _ _ h e = cc

element : (nested : NestedOverlay) (accepts_nested : NestedAcceptance) (k : Kind) (w : RecordValue) (p : Part) →
    unpacked k ≡ true
    → accepts_value accepts_nested k w ≡ true → singular_of table nested k Absent w [] ≡ p →
    (accepts_element accepts_nested k w ≡ true) × (elements_of table nested k w ≡ one_part p)
element nested accepts_nested U32 w p u h e = cc
element nested accepts_nested U64 w p u h e = cc
element nested accepts_nested Boolean w p u h e = cc
element nested accepts_nested Enumeration w p u h e = cc
element nested accepts_nested Text w p u h e = (h, ap one_part e)
element nested accepts_nested ByteString w p u h e = (h, ap one_part e)
element nested accepts_nested (Message s) w p u h e = message_element s nested accepts_nested w p h e

-- where an empty element was pushed and then merged into, the elements are those before and what the occurrence adds
pub element_appended : {T E A : Type 0} (result : Result T E) (view : A → Part) (xs ys : List A) (pushed x : A)
    (k : Kind) (nested : NestedOverlay)
    (accepts_nested : NestedAcceptance) (w : RecordValue) → unpacked k ≡ true → IsEmptyField k (view pushed) → ys ≡ xs
    ++ x ∷ []
    → OnOk result ((accepts_value accepts_nested k w ≡ true) × (singular_of table nested k (view pushed) w [] ≡ view x))
    → OnOk result ((accepts_element accepts_nested k w ≡ true) ×
    (parts_of view ys ≡ parts_of view xs +++ all_elements table nested k (w ∷ [])))
element_appended (Ok u) view xs ys pushed x k nested accepts_nested w unpacked_kind start same h =
    let one = element nested accepts_nested k w (view x) unpacked_kind h.0
    (from_empty nested k (view pushed) (view x) w start h.1) in
    rw same (
      one.0,
      parts_push view xs x ∙ ap (λ (ps : Parts). parts_of view xs +++ ps)
          (sym (parts_append_nil (elements_of table nested k w) ∙ one.1)),
    )
element_appended (Err e) view xs ys pushed x k nested accepts_nested w unpacked_kind start same h = tt
