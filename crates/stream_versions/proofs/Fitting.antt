-- Streams that fit a version.
use Rattle.std.proofs.Common.{◌≡◌, ℕ, zero, suc, ◌+◌, List, [], ◌∷◌, length, Bool, true, false, Option, Some, None}
use Rattle.std.proofs.Common.{All, refl, sym, ap, ◌∙◌, arith, subst}
use Rattle.std.proofs.lemmas.Bool.{eqb-true}
use Rattle.std.specs.Prelude.{nat_eq, nat_lt, is_none, ◌&&◌, if◌then◌else◌}
use Rattle.std.specs.Option.{option_map, option_or}
use Rattle.shared_core_base.specs.declared.header.MessageType.{MessageType}
use Rattle.shared_core_base.specs.declared.header.MessageType.TheVariants.{Suspension}
use Rattle.shared_core_base.specs.declared.message_header.MessageHeader.{MessageHeader}
use Rattle.shared_core_base.specs.declared.version.Version.{Version}
use Rattle.shared_core_base.specs.MessageHeader.{header_of, word_code}
use Rattle.shared_core_base.specs.Version.{version_number}
use Rattle.shared_core_codec.specs.Table.{suspension, suspension_v6}
use Rattle.shared_core_message.specs.Schemas.{is_well_formed_for, schema_at}
use Rattle.shared_core_stream.specs.declared.encoding.item.Item.{Item}
use Rattle.shared_core_stream.specs.declared.encoding.item.Item.TheVariants.{Message, Unknown, Skipped}
use Rattle.shared_core_stream.specs.Items.{front_word, skips_unknown_messages, body_length, item_of}
use Rattle.shared_core_stream.specs.Items.{AreItems, IsItem, SplitsInto}
use Rattle.shared_core_stream.proofs.Items.{nothing_begins_with_none, split_is_unique}
use Rattle.stream_lines.specs.declared.report.Report.{Report}
use Rattle.stream_lines.specs.declared.report.Trouble.{Trouble}
use Rattle.stream_lines.specs.declared.report.Trouble.TheVariants.{UnknownCode, Malformed}
use Rattle.stream_lines.specs.Printing.{first_trouble, item_size, trouble_at, IsReport}
use Rattle.stream_versions.specs.Fits.{fault_of, fits, Fits}

-- ---- reports

none_first : (a b : Option (ℕ × Trouble)) → is_none (option_or a b) ≡ true → (a ≡ None) × (is_none b ≡ true)
none_first None b h = (refl, h)
none_first (Some x) b h = absurd cc

no_trouble : (found : Option Trouble) (at : ℕ) → option_map {U = ℕ × Trouble} (λ what. (at, what)) found ≡ None
    → found ≡ None
no_trouble None at h = refl
no_trouble (Some what) at h = absurd cc

cons_all : (P : Item → Type 0) (item : Item) (items : List Item) → P item → All P items → All P (item ∷ items)
cons_all P item items first others zero d below = first
cons_all P item items first others (suc k) d below = others k d (omega (arith, below))

module _ (fault : Item → Option Trouble) where
  -- items of which a report has no fault have none
  all_clean : (at : ℕ) (items : List Item) → is_none (first_trouble fault at items) ≡ true
      → All (λ item. fault item ≡ None) items
  all_clean at [] none = λ k d below. absurd (omega (arith, below))
  all_clean at (item ∷ items) none =
      let both = none_first (trouble_at fault at item) (first_trouble fault (at + item_size item) items) none in
      cons_all (λ i. fault i ≡ None) item items (no_trouble (fault item) at both.0)
      (all_clean (at + item_size item) items both.1)

  -- and the other way round
  none_reported : (at : ℕ) (items : List Item) → All (λ item. fault item ≡ None) items
      → first_trouble fault at items ≡ None
  none_reported at [] all = refl
  none_reported at (item ∷ items) all =
      ap (λ (o : Option Trouble). option_or (option_map {U = ℕ × Trouble} (λ what. (at, what)) o)
      (first_trouble fault (at + item_size item) items)) (all 0 item (omega arith))
      ∙ none_reported (at + item_size item) items (λ k d below. all (suc k) d (omega (arith, below)))

both_hold : (a b : Bool) → (a && b) ≡ true → (a ≡ true) × (b ≡ true)
both_hold true true h = (refl, refl)
both_hold true false h = absurd cc
both_hold false b h = absurd cc

no_byte : (rest : List ℕ) (count : ℕ) → count ≡ length rest → nat_eq count 0 ≡ true → rest ≡ []
no_byte [] count counted h = refl
no_byte (byte ∷ rest) count counted h = absurd (omega (arith, counted, eqb-true count 0 h))

pub whole : (version : Version) (stream rest : List ℕ) (items : List Item) (report : Report)
    → SplitsInto version stream items rest → IsReport (fault_of version) items rest report → fits report ≡ true
    → Fits version stream items
whole version stream rest items report split is fit =
    let both = both_hold (is_none report.trouble) (nat_eq report.rest 0) fit in
    record {
      split = subst (SplitsInto version stream items) (no_byte rest report.rest is.count both.1) split;
      clean = all_clean (fault_of version) 0 items
          (ap (λ (o : Option (ℕ × Trouble)). is_none o) (sym is.first) ∙ both.0);
    }

pub reported : (version : Version) (stream : List ℕ) (items : List Item) (report : Report)
    → Fits version stream items → IsReport (fault_of version) items [] report → fits report ≡ true
reported version stream items report fit is =
    ap (λ (o : Option (ℕ × Trouble)). is_none o && nat_eq report.rest 0)
    (is.first ∙ none_reported (fault_of version) 0 items fit.clean)
    ∙ ap (λ n. nat_eq n 0) is.count

-- ---- other versions

schema_alike : (version other : Version) → nat_lt (version_number version) 7 ≡ nat_lt (version_number other) 7
    → (ty : MessageType) → schema_at version ty ≡ schema_at other ty
schema_alike version other same Suspension =
    ap (λ (b : Bool). Some (if b then suspension_v6 else suspension)) same
schema_alike version other same _ = refl

fault_alike : (version other : Version) → nat_lt (version_number version) 7 ≡ nat_lt (version_number other) 7
    → (item : Item) → fault_of version item ≡ fault_of other item
fault_alike version other same (Message message) =
    ap (λ (s : Option ℕ). if is_well_formed_for s message.payload then None else Some (Malformed message.header.ty))
    (schema_alike version other same message.header.ty)
fault_alike version other same (Unknown code) = refl
fault_alike version other same (Skipped code payload) = refl

is_unknown_clean : (version : Version) (item : Item) (code : ℕ) → item ≡ Unknown code → fault_of version item ≡ None → ⊥
is_unknown_clean version item code is clean =
    let both : Some (UnknownCode code) ≡ None = ap (fault_of version) (sym is) ∙ clean in cc

module _ (version other : Version)
    (skips : skips_unknown_messages version ≡ true → skips_unknown_messages other ≡ true) where
  -- an item that has no fault is the same there
  moved : (bytes : List ℕ) (item : Item) → IsItem version bytes item → fault_of version item ≡ None
      → IsItem other bytes item
  unfolding body_length item_of
  moved bytes item is clean = by_header (header_of (front_word bytes)) refl
    where
      by_header : (found : Option MessageHeader) → header_of (front_word bytes) ≡ found → IsItem other bytes item
      by_header (Some header) typed = record {
        whole = rw typed (rw typed at is.whole);
        means = rw typed (rw typed at is.means);
      }
      by_header None untyped = by_version (skips_unknown_messages version) refl
        where
          by_version : (b : Bool) → skips_unknown_messages version ≡ b → IsItem other bytes item
          by_version true h = record {
            whole = rw (untyped, skips h) (rw (untyped, h) at is.whole);
            means = rw (untyped, skips h) (rw (untyped, h) at is.means);
          }
          by_version false h =
              absurd (is_unknown_clean version item (word_code (front_word bytes)) (rw (untyped, h) at is.means) clean)

  all_moved : (front : List ℕ) (items : List Item) → AreItems version front items
      → All (λ item. fault_of version item ≡ None) items → AreItems other front items
  all_moved front [] encoded all = encoded
  all_moved front (item ∷ items) encoded all = (
    encoded.0,
    encoded.1,
    moved encoded.0 item encoded.2 (all 0 item (omega arith)),
    all_moved encoded.1 items encoded.3 (λ k d below. all (suc k) d (omega (arith, below))),
    encoded.4,
  )

  split_moved : (stream : List ℕ) (items : List Item) → Fits version stream items → SplitsInto other stream items []
  split_moved stream items fit = record {
    items_then = record {
      front = fit.split.items_then.front;
      encoded = all_moved fit.split.items_then.front items fit.split.items_then.encoded fit.clean;
      whole = fit.split.items_then.whole;
    };
    no_more = nothing_begins_with_none other;
  }

  pub goes_on : (stream : List ℕ) (items : List Item)
      → nat_lt (version_number version) 7 ≡ nat_lt (version_number other) 7
      → Fits version stream items → Fits other stream items
  goes_on stream items same fit = record {
    split = split_moved stream items fit;
    clean = λ k d below. sym (fault_alike version other same _) ∙ fit.clean k d below;
  }

-- one of two versions skips what the other one skips
pub agree : (version other : Version) (stream : List ℕ) (items others : List Item) → Fits version stream items
    → Fits other stream others → items ≡ others
agree version other stream items others one two = by_version (skips_unknown_messages version) refl
  where
    by_version : (b : Bool) → skips_unknown_messages version ≡ b → items ≡ others
    by_version false h =
        (split_is_unique other stream items others [] []
        (split_moved version other (λ yes. let bad : false ≡ true = sym h ∙ yes in absurd cc) stream items one)
        two.split).0
    by_version true h =
        (split_is_unique version stream items others [] [] one.split
        (split_moved other version (λ yes. h) stream others two)).0
