-- The record list of a payload is the one that it encodes.
use Rattle.std.proofs.Common.{◌≡◌, ℕ, List, [], ◌++◌, Some, refl, arith}
use Rattle.std.specs.Prelude.{◌↔◌}
use Rattle.shared_core_wire.specs.Grammar.{FieldRecord, IsGroupContent, IsRecordWithin, IsRecordListWithin}
use Rattle.shared_core_wire.specs.Reader.{record_at, record_list}
use Rattle.shared_core_wire.proofs.Readers.{record_long}
use Rattle.shared_core_wire.proofs.ReadRecords.{read_again, read_encoded}
use Rattle.shared_core_wire.proofs.GrammarLaws.{joined_lists}
use Rattle.shared_core_wire.proofs.Sequences.{IsReader, all_again, all_reads}

pub reader : (left : ℕ) → IsReader (IsRecordWithin left) (record_at left)
reader left = record {
  again = λ text rest x h. read_again left x text rest h;
  reads = read_encoded left;
  long = λ text x h. let long = record_long (IsGroupContent left) text x h in omega arith;
}

pub records_again : (left : ℕ) (bytes : List ℕ) (rs : List FieldRecord) → IsRecordListWithin left bytes rs → record_list
    left bytes ≡ Some rs
unfolding record_list
records_again left bytes rs h = all_again (IsRecordWithin left) (record_at left) (reader left) rs bytes h

pub records_reads : (left : ℕ) (bytes : List ℕ) (rs : List FieldRecord) → record_list left bytes ≡ Some rs →
    IsRecordListWithin left bytes rs
unfolding record_list
records_reads left bytes rs e = all_reads (IsRecordWithin left) (record_at left) (reader left) bytes rs e

pub records_listed : (left : ℕ) (bytes : List ℕ) (rs : List FieldRecord) → (record_list left bytes ≡ Some rs) ↔
    IsRecordListWithin left bytes rs
records_listed left bytes rs = (records_reads left bytes rs, records_again left bytes rs)

pub records_empty : (left : ℕ) → record_list left [] ≡ Some []
records_empty left = records_again left [] [] refl

pub records_append : (left : ℕ) (a b : List ℕ) (xs ys : List FieldRecord) → record_list left a ≡ Some xs → record_list
    left b ≡ Some ys → record_list left (a ++ b) ≡ Some (xs ++ ys)
records_append left a b xs ys e f = records_again left (a ++ b) (xs ++ ys)
    (joined_lists (IsRecordWithin left) a b xs ys (records_reads left a xs e) (records_reads left b ys f))
