-- Two messages of one name, among those that are read and among those that a set says.
use Rattle.std.proofs.Common.{◌≡◌, ℕ, ◌+◌, ◌≤◌, List, [], ◌∷◌, Bool, true, false, cond, ◌||◌}
use Rattle.std.proofs.Common.{refl, sym, ap, ◌∙◌, subst, arith}
use Rattle.std.proofs.lemmas.Cmp.{nat_list_eq_equiv}
use Rattle.std.proofs.lemmas.List.Sorted.{sum_by-IsPermutation}
use Rattle.std.proofs.lemmas.List.Sums.{sum_by-cons}
use Rattle.std.specs.List.{sum_by}
use Rattle.std.specs.Str.{bytes_eq}
use Rattle.std.specs.String.{string_bytes, string_eq}
use Rattle.descriptor_set.specs.declared.error.DescriptorError.{DescriptorError}
use Rattle.descriptor_set.specs.declared.error.DescriptorError.TheVariants as error
use Rattle.descriptor_set.specs.declared.reading.Reading.{Reading}
use Rattle.descriptor_set.specs.declared.set.MessageDescriptor.{MessageDescriptor}
use Rattle.descriptor_set.specs.Reading.{BlamesOrder, HasTwiceSorted, IsReadingOf}
use Rattle.descriptor_set.specs.Sets.{AllTwo, HasTwice, IsMessage, IsReason, SaidMessage, count_named}
use Rattle.descriptor_set.specs.Sets.{has_equal_neighbours, messages_of}

-- ---- two of one name

-- How many messages that are read have a name.
abbrev has_name : List ℕ → MessageDescriptor → ℕ
has_name name m = cond (bytes_eq (string_bytes m.name) name) 1 0

abbrev count_read : List ℕ → List MessageDescriptor → ℕ
count_read name ms = sum_by (has_name name) ms

record TwoOf (ms : List MessageDescriptor) : Type 0 where
  name : List ℕ
  twice : 2 ≤ count_read name ms

more : (name : List ℕ) (m : MessageDescriptor) (ms : List MessageDescriptor) → 2 ≤ count_read name ms → 2 ≤ count_read
    name (m ∷ ms)
more name m ms h = omega (arith, sum_by-cons (has_name name) m ms)

one_named : (m : MessageDescriptor) (name : List ℕ) → bytes_eq (string_bytes m.name) name ≡ true → has_name name m ≡ 1
one_named m name e = ap (λ (b : Bool). cond b 1 0) e

neighbours : (m n : MessageDescriptor) (ms : List MessageDescriptor) → string_eq m.name n.name ≡ true → 2 ≤ count_read
    (string_bytes n.name) (m ∷ n ∷ ms)
neighbours m n ms e =
    let name = string_bytes n.name in
    let first = one_named m name e in
    let second = one_named n name (nat_list_eq_equiv.refl name) in
    omega (arith, first, second, sum_by-cons (has_name name) m (n ∷ ms), sum_by-cons (has_name name) n ms)

two_of : (ms : List MessageDescriptor) → has_equal_neighbours ms ≡ true → TwoOf ms
two_of [] h = absurd cc
two_of (m ∷ []) h = absurd cc
two_of (m ∷ n ∷ ms) h = by_test (string_eq m.name n.name) refl h (two_of (n ∷ ms))
  where
    by_test : (b : Bool) → string_eq m.name n.name ≡ b → (b || has_equal_neighbours (n ∷ ms)) ≡ true
        → (has_equal_neighbours (n ∷ ms) ≡ true → TwoOf (n ∷ ms)) → TwoOf (m ∷ n ∷ ms)
    by_test true t g f = record { name = string_bytes n.name; twice = neighbours m n ms t }
    by_test false t g f = let r = f g in record { name = r.name; twice = more r.name m (n ∷ ms) r.twice }

said_count : (said : List SaidMessage) (read : List MessageDescriptor) (name : List ℕ) → AllTwo IsMessage said read
    → count_read name read ≡ count_named name said
said_count [] [] name h = refl
said_count [] (r ∷ rs) name h = absurd h
said_count (s ∷ ss) [] name h = absurd h
said_count (s ∷ ss) (r ∷ rs) name h =
    sum_by-cons (has_name name) r rs
    ∙ ap (λ (n : List ℕ). cond (bytes_eq n name) 1 0 + count_read name rs) h.0.name
    ∙ ap (λ (n : ℕ). cond (bytes_eq s.name name) 1 0 + n) (said_count ss rs name h.1)
    ∙ sym (sum_by-cons (λ (m : SaidMessage). cond (bytes_eq m.name name) 1 0) s ss)

has_twice : (said : List SaidMessage) (read : List MessageDescriptor) → AllTwo IsMessage said read → HasTwiceSorted read
    → HasTwice said
has_twice said read each two =
    let r = two_of two.sorted two.twice in
    record {
      name = r.name;
      twice = subst (λ (n : ℕ). 2 ≤ n)
          (sum_by-IsPermutation (has_name r.name) read two.sorted two.order.same ∙ said_count said read r.name each)
          r.twice;
    }

-- ---- errors

pub reason_of_order : (e : DescriptorError) (set : List ℕ) (read : Reading) → IsReadingOf set read → BlamesOrder e
    read.messages.items → IsReason e set
reason_of_order (error.Malformed p) set read r h = absurd h
reason_of_order error.TooLong set read r h = absurd h
reason_of_order (error.NameTooLong p) set read r h = absurd h
reason_of_order (error.TooManyFields p) set read r h = absurd h
reason_of_order (error.MessageTwice p) set read r h = has_twice (messages_of set) read.messages.items r.messages h
reason_of_order (error.UnknownMessage p n) set read r h = h
reason_of_order (error.InvalidField p f) set read r h = h
reason_of_order (error.SharedName p) set read r h = h
reason_of_order error.OutOfMemory set read r h = h
