-- Items that are listed one after another.
use Rattle.std.proofs.Common.{◌≡◌, ℕ, suc, ◌+◌, ◌<◌, Bool, true, false, nat_lt, List, [], ◌∷◌, ◌++◌, drop, length}
use Rattle.std.proofs.Common.{None, get_or, ap, refl, subst, sym, ◌∙◌, arith, length-append, slice_set}
use Rattle.std.proofs.lemmas.List.{append_assoc}
use Rattle.std.proofs.Math.Seq.{drop-cons, set-append_seam}
use Rattle.shared_core_base.specs.declared.version.Version.{Version}
use Rattle.shared_core_stream.specs.Items.{body_length, front_word}
use Rattle.shared_core_stream.specs.declared.encoding.item_ref.ItemRef.{ItemRef}
use Rattle.shared_core_stream.specs.Borrowed.{IsAtFront, item_borrowed}
use Rattle.shared_core_stream.specs.Limits.{too_long_at, too_long_by}
use Rattle.journal_c_api.specs.declared.items.ItemEntry.{ItemEntry}
use Rattle.journal_c_api.specs.Items.{AreListed, borrowed_entry}
use Rattle.journal_c_api.proofs.FoundItems.{entry_is}

-- whether a message is too long does not depend on where it begins
pub within_anywhere : (version : Version) (limit offset other : ℕ) (bytes : List ℕ) → too_long_at version limit offset
    bytes ≡ None → too_long_at version limit other bytes ≡ None
unfolding too_long_by
within_anywhere version limit offset other bytes none = by_length (nat_lt (length bytes) 8) refl
  where
    by_limit : (past : Bool) → nat_lt limit (body_length version (front_word bytes)) ≡ past → nat_lt (length bytes) 8 ≡
        false → too_long_at version limit other bytes ≡ None
    by_limit true past whole = let some = rw (whole, past) at none in cc
    by_limit false past whole = rw (whole, past) refl

    by_length : (short : Bool) → nat_lt (length bytes) 8 ≡ short → too_long_at version limit other bytes ≡ None
    by_length true short = rw short refl
    by_length false short = by_limit (nat_lt limit (body_length version (front_word bytes))) refl short

-- one more item
pub listed_more : (version : Version) (limit : ℕ) (bytes : List ℕ) (entries : List ItemEntry) (left : List ℕ)
    (entry : ItemEntry) (rest : List ℕ) → AreListed version limit bytes entries left → AreListed version limit left
    (entry ∷ []) rest → AreListed version limit bytes (entries ++ entry ∷ []) rest
listed_more version limit bytes [] left entry rest is one = rw is one
listed_more version limit bytes (e ∷ entries) left entry rest (item, first, after, of, splits, within, same, are) one =
    (item, first, after, of, splits, within, same, listed_more version limit after entries left entry rest are one)

-- an entry after those that were written
one_written : (entries old : List ItemEntry) (entry : ItemEntry) → length entries < length old → slice_set
    (entries ++ drop (length entries) old) (length entries) entry ≡ (entries ++ entry ∷ []) ++ drop
    (length entries + 1) old
one_written entries old entry short =
    let next : suc (length entries) ≡ length entries + 1 = omega arith in
    ap (λ l. slice_set (entries ++ l) (length entries) entry) (drop-cons old (length entries) entry short)
    ∙ set-append_seam entries (get_or old (length entries) entry) (drop (suc (length entries)) old) entry
    ∙ sym (append_assoc entries (entry ∷ []) (drop (suc (length entries)) old))
    ∙ ap (λ n. (entries ++ entry ∷ []) ++ drop n old) next

-- the entry of an item is written at the index count, and with it the items of all entries are listed
abbrev IsListedAt : Version → ℕ → List ℕ → List ItemEntry → List ItemEntry → List ℕ → ItemRef → ℕ → Type 0
IsListedAt version limit bytes old entries rest item count =
    (longer : List ItemEntry) × (length longer ≡ count + 1)
    × (slice_set (entries ++ drop count old) count (borrowed_entry item) ≡ longer ++ drop (count + 1) old)
    × AreListed version limit bytes longer rest

-- the item at the front of what is left is listed after the others
pub one_listed : (version : Version) (limit : ℕ) (bytes : List ℕ) (old entries : List ItemEntry) (left rest : List ℕ)
    (item : ItemRef) (count : ℕ) → length entries ≡ count → count < length old → AreListed version limit bytes entries
    left → too_long_at version limit 0 left ≡ None → IsAtFront version left item rest → IsListedAt version limit bytes
    old entries rest item count
one_listed version limit bytes old entries left rest item count long short are within front =
    subst (IsListedAt version limit bytes old entries rest item) long (
      entries ++ borrowed_entry item ∷ [],
      omega (arith, length-append entries (borrowed_entry item ∷ [])),
      one_written entries old (borrowed_entry item) (omega (arith, long, short)),
      listed_more version limit bytes entries left (borrowed_entry item) rest are (
        item_borrowed item,
        front.taken.0,
        rest,
        front.taken.1,
        front.taken.2,
        within,
        entry_is version left item rest front,
        refl,
      ),
    )
