-- Going over the records of a group, as the loop does.
use Rattle.std.proofs.Common.{◌≡◌, ℕ, suc, ◌+◌, ◌-◌, ◌<◌, List, length, take, Option, Some, None, sym, ap, ◌∙◌, arith}
use Rattle.std.proofs.lemmas.List.{length-append}
use Rattle.shared_core_wire.specs.Grammar.{IsGroupContent, RecordValue, FieldRecord}
use Rattle.shared_core_wire.specs.Reader.{key_at, value_with, record_with, group_end_at, group_content_at}
use Rattle.shared_core_wire.proofs.Readers.{record_reads, record_long}
use Rattle.shared_core_wire.proofs.Groups.{reads_groups, record_is, record_no_value, end_here, end_other, end_no_record}
use Rattle.shared_core_wire.proofs.Groups.{end_more, content_is, content_none}

abbrev end_of : ℕ → ℕ → List ℕ → Option (List ℕ × List ℕ)
end_of left number bytes = group_end_at (record_with (group_content_at left)) number 0 bytes

pub group_ends : (left number : ℕ) (bytes rest after : List ℕ) (n w : ℕ) → end_of left number rest ≡ end_of left number
    bytes → key_at rest ≡ Some (n, w, after) → w ≡ 4 → n ≡ number → group_content_at (left + 1) number bytes ≡ Some
    (take (length bytes - length rest) bytes, after)
group_ends left number bytes rest after n w same key is here =
    let room : left + 1 ≡ suc left = omega arith in
    rw room (content_is left number bytes rest after (sym same ∙ end_here (record_with (group_content_at left)) number
    rest after n w key is here))

pub group_fails : (left number : ℕ) (bytes rest : List ℕ) → end_of left number rest ≡ end_of left number bytes → end_of
    left number rest ≡ None → group_content_at (left + 1) number bytes ≡ None
group_fails left number bytes rest same none =
    let room : left + 1 ≡ suc left = omega arith in
    rw room (content_none left number bytes (sym same ∙ none))

-- another number's end
pub group_other : (left number : ℕ) (bytes rest after : List ℕ) (n w : ℕ) → end_of left number rest ≡ end_of left number
    bytes → key_at rest ≡ Some (n, w, after) → w ≡ 4 → (n ≡ number → ⊥) → group_content_at (left + 1) number bytes ≡
    None
group_other left number bytes rest after n w same key is other = group_fails left number bytes rest same
    (end_other (record_with (group_content_at left)) number rest after n w key is other)

pub value_fails : (left number : ℕ) (rest after : List ℕ) (n w : ℕ) → key_at rest ≡ Some (n, w, after) → (w ≡ 4 → ⊥) →
    value_with (group_content_at left) n w after ≡ None → end_of left number rest ≡ None
value_fails left number rest after n w key is none =
    end_no_record (record_with (group_content_at left)) number rest after n w key is
    (record_no_value (group_content_at left) rest after n w key none)

-- one record is passed
pub record Turn (left number : ℕ) (rest beyond : List ℕ) : Type 0 where
  pub shorter : length beyond < length rest
  pub same : end_of left number rest ≡ end_of left number beyond

pub turn : (left number : ℕ) (rest after beyond : List ℕ) (n w : ℕ) (v : RecordValue) → key_at rest ≡ Some (n, w, after)
    → (w ≡ 4 → ⊥) → value_with (group_content_at left) n w after ≡ Some (v, beyond) → Turn left number rest beyond
turn left number rest after beyond n w v key is value =
    let r : FieldRecord = record { number = n; value = v } in
    let one = record_is (group_content_at left) rest after beyond n w v key value in
    let f = record_reads (IsGroupContent left) (group_content_at left) (reads_groups left) rest (r, beyond) one in
    let long = record_long (IsGroupContent left) f.text r f.is in
    record {
      shorter = omega (arith, ap length f.parts, length-append f.text beyond);
      same = end_more (record_with (group_content_at left)) number rest f.text after beyond n w r key is one f.parts
          (omega arith);
    }
