-- Of a number that no member of a oneof has nothing is written.
use Rattle.std.proofs.Common.{◌≡◌, ℕ, ◌+◌, ◌≤◌, ◌^◌, List, [], ◌++◌, length, refl, arith}
use Rattle.shared_core_codec.specs.RowEncoding.{capped, value_bytes}
use Rattle.shared_core_wire.specs.Canonical.{part_values}
use Rattle.shared_core_wire.specs.Schema.{Kind}
use Rattle.shared_core_wire.specs.Value.{Absent}

nothing : (n : ℕ) (k : Kind) → value_bytes n k Absent ≡ []
unfolding value_bytes part_values
nothing n k = refl

pub no_member_size : (n : ℕ) (k : Kind) (size : ℕ) → size ≤ 2 ^ 32 → capped (size + length (value_bytes n k Absent)) ≡
    size
no_member_size n k size h = rw (nothing n k) (omega arith)

pub no_member_before : (n : ℕ) (k : Kind) (after : List ℕ) → value_bytes n k Absent ++ after ≡ after
no_member_before n k after = rw (nothing n k) refl

pub no_member_length : (n : ℕ) (k : Kind) → length (value_bytes n k Absent) ≡ 0
no_member_length n k = rw (nothing n k) refl
