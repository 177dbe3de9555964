-- What is the same is the same without ids, and so is what is the same once ids are renamed.
use Rattle.std.proofs.Common.{◌≡◌, ℕ, ◌+◌, Bool, true, false, ◌&&◌, List, [], ◌∷◌, Option, Some, None, refl, sym, ap}
use Rattle.std.proofs.Common.{◌∙◌, ◌++◌, arith, eq-eqb, inl, inr, if◌then◌else◌, length, length-append, nat_eq, ne_eqb}
use Rattle.std.proofs.Common.{subst}
use Rattle.std.specs.Option.{IsSomeAnd}
use Rattle.std.proofs.Math.Bool.{and-false}
use Rattle.std.proofs.lemmas.Bool.{both_ways}
use Rattle.shared_core_base.specs.declared.version.Version.{Version}
use Rattle.shared_core_wire.specs.Schema.{Row}
use Rattle.shared_core_wire.specs.Value.{Part, Parts, Number, cons, empty_part}
use Rattle.shared_core_codec.specs.Payloads.{payload_meaning}
use Rattle.shared_core_codec.specs.Table.{table}
use Rattle.shared_core_message.specs.Messages.{message_schema}
use Rattle.shared_core_compare.specs.Commands.{CommandFields, command_fields, first_part, rest_parts}
use Rattle.shared_core_compare.specs.Differences.{number_of}
use Rattle.shared_core_compare.specs.Erasure.{AreSame, erased, erased_part, erased_parts, has_any, without_payloads}
use Rattle.shared_core_stream.specs.declared.encoding.raw_message.RawMessage.{RawMessage}
use Rattle.replay_bench.specs.Ids.{AreSameBut, id_numbers, ids_erased, only_payloads, with_ids_ignored}
use Rattle.replay_bench.specs.Outcomes.{Outcome, SameCommands, RecordedEnds, ReplayedEnds, OtherType, OtherCommand}
use Rattle.replay_bench.specs.Outcomes.{NotWellFormed}
use Rattle.replay_bench.specs.Renamings.{AreAlikeBy, AreAllAlikeBy, AreOnce, AreSameBy, AreSameOneToOne}
use Rattle.replay_bench.specs.Renamings.{HaveIdsOnce, IsAmong, MeanTheSameBy, Renaming, ids_among}
use Rattle.replay_bench.specs.Renamings.{numbers_at, payload_ids, renamed, renamed_part, renamed_parts}
use Rattle.replay_bench.specs.Verdicts.{AreAlike, HasOutcome, IsOutcome, MeanTheSame}

-- ---- a row's part without its id

module _ (s : ℕ) where
  -- what is left of a part, by whether its row is an id
  bare_part : (row : Row) (p : Part) (is_id : Bool) → has_any (id_numbers s) row ≡ is_id
      → erased_part (ids_erased s) false row p ≡ (if is_id then empty_part row else p)
  bare_part row p is_id is =
      ap (λ (b : Bool). if b then empty_part row else (if has_any [] row && false then without_payloads [] row p
      else p)) is ∙ ap (λ (b : Bool). if is_id then empty_part row else (if b then without_payloads [] row p else p))
      (and-false (has_any [] row))

  module _ (fields : CommandFields) (payloads : Bool) where
    abbrev EqualWithout : Row → Part → Part → Type 0
    EqualWithout row a b = erased_part fields payloads row (erased_part (ids_erased s) false row a)
        ≡ erased_part fields payloads row (erased_part (ids_erased s) false row b)

    part_by_test : (row : Row) (a b : Part) (is_id : Bool) → has_any (id_numbers s) row ≡ is_id
        → erased_part fields payloads row a ≡ erased_part fields payloads row b → EqualWithout row a b
    part_by_test row a b true is same =
        ap (erased_part fields payloads row) (bare_part row a true is ∙ sym (bare_part row b true is))
    part_by_test row a b false is same =
        ap (erased_part fields payloads row) (bare_part row a false is) ∙ same
        ∙ ap (erased_part fields payloads row) (sym (bare_part row b false is))

    parts_without : (rows : List Row) (v w : Parts)
        → erased_parts fields payloads rows v ≡ erased_parts fields payloads rows w
        → erased_parts fields payloads rows (erased_parts (ids_erased s) false rows v)
        ≡ erased_parts fields payloads rows (erased_parts (ids_erased s) false rows w)
    parts_without [] v w same = refl
    parts_without (row ∷ rows) v w same =
        ap (λ (p : Part). cons p (erased_parts fields payloads rows (erased_parts (ids_erased s) false rows
        (rest_parts v)))) (part_by_test row (first_part v) (first_part w) (has_any (id_numbers s) row) refl
        (ap first_part same))
        ∙ ap (λ (ps : Parts). cons (erased_part fields payloads row (erased_part (ids_erased s) false row
        (first_part w))) ps) (parts_without rows (rest_parts v) (rest_parts w) (ap rest_parts same))

  -- two commands that are the same are so without their ids
  same_without : (payloads : Bool) (a b : Parts) → AreSame s payloads a b
      → AreSameBut (with_ids_ignored payloads) s a b
  same_without payloads a b same = parts_without (command_fields s) payloads (table s) a b same

  -- ---- ids that are renamed

  module _ (rename : ℕ → ℕ) where
    renamed_by_test : (row : Row) (p : Part) (is_id : Bool) → has_any (id_numbers s) row ≡ is_id
        → erased_part (ids_erased s) false row (renamed_part rename (id_numbers s) row p)
        ≡ erased_part (ids_erased s) false row p
    renamed_by_test row p true is = bare_part row _ true is ∙ sym (bare_part row p true is)
    renamed_by_test row p false is =
        ap (erased_part (ids_erased s) false row)
        (ap (λ (b : Bool). if b then Number (rename (number_of p)) else p) is)

    parts_renamed : (rows : List Row) (v : Parts)
        → erased_parts (ids_erased s) false rows (renamed_parts rename (id_numbers s) rows v)
        ≡ erased_parts (ids_erased s) false rows v
    parts_renamed [] v = refl
    parts_renamed (row ∷ rows) v =
        ap (λ (p : Part). cons p (erased_parts (ids_erased s) false rows (renamed_parts rename (id_numbers s) rows
        (rest_parts v)))) (renamed_by_test row (first_part v) (has_any (id_numbers s) row) refl)
        ∙ ap (λ (ps : Parts). cons (erased_part (ids_erased s) false row (first_part v)) ps)
        (parts_renamed rows (rest_parts v))

  -- commands that are the same once ids are renamed are the same without them
  same_renamed : (rename : Renaming) (payloads : Bool) (a b : Parts)
      → AreSame s payloads (renamed rename.recorded s a) (renamed rename.replayed s b)
      → AreSameBut (with_ids_ignored payloads) s a b
  same_renamed rename payloads a b same =
      ap (erased s payloads) (sym (parts_renamed rename.recorded (table s) a))
      ∙ same_without payloads (renamed rename.recorded s a) (renamed rename.replayed s b) same
      ∙ ap (erased s payloads) (parts_renamed rename.replayed (table s) b)

-- ---- lists of ids that are mapped to one another

-- The numbers of one list have those of the other as their names.
abbrev Maps : (ℕ → ℕ) → List ℕ → List ℕ → Type 0
Maps rename [] [] = Unit {0}
Maps rename [] (m ∷ ms) = ⊥
Maps rename (n ∷ ns) [] = ⊥
Maps rename (n ∷ ns) (m ∷ ms) = (rename n ≡ m) × Maps rename ns ms

-- What is in the place of a number.
abbrev in_place_of : List ℕ → List ℕ → ℕ → ℕ
in_place_of [] ms x = 0
in_place_of (n ∷ ns) [] x = 0
in_place_of (n ∷ ns) (m ∷ ms) x = if nat_eq x n then m else in_place_of ns ms x

maps_later : (n m : ℕ) (ns ms xs ys : List ℕ) → ¬ (IsAmong n xs) → Maps (in_place_of ns ms) xs ys
    → Maps (in_place_of (n ∷ ns) (m ∷ ms)) xs ys
maps_later n m ns ms [] [] once maps = tt
maps_later n m ns ms [] (y ∷ ys) once maps = absurd maps
maps_later n m ns ms (x ∷ xs) [] once maps = absurd maps
maps_later n m ns ms (x ∷ xs) (y ∷ ys) once maps = (
  ap (λ (b : Bool). if b then m else in_place_of ns ms x) (ne_eqb x n (λ e. once (inl (sym e)))) ∙ maps.0,
  maps_later n m ns ms xs ys (λ among. once (inr among)) maps.1,
)

maps_in_place : (ns ms : List ℕ) → length ns ≡ length ms → AreOnce ns → Maps (in_place_of ns ms) ns ms
maps_in_place [] [] long once = tt
maps_in_place [] (m ∷ ms) long once = absurd (omega (arith, long))
maps_in_place (n ∷ ns) [] long once = absurd (omega (arith, long))
maps_in_place (n ∷ ns) (m ∷ ms) long once = (
  ap (λ (b : Bool). if b then m else in_place_of ns ms n) (eq-eqb n n refl),
  maps_later n m ns ms ns ms once.0 (maps_in_place ns ms (omega (arith, long)) once.1),
)

module _ (rename : ℕ → ℕ) where
  maps_split : (a b c d : List ℕ) → length a ≡ length c → Maps rename (a ++ b) (c ++ d)
      → Maps rename a c × Maps rename b d
  maps_split [] b [] d long maps = (tt, maps)
  maps_split [] b (y ∷ c) d long maps = absurd (omega (arith, long))
  maps_split (x ∷ a) b [] d long maps = absurd (omega (arith, long))
  maps_split (x ∷ a) b (y ∷ c) d long maps =
      let (one, other) = maps_split a b c d (omega (arith, long)) maps.1 in ((maps.0, one), other)

  name_among : (n : ℕ) (ns ms : List ℕ) → Maps rename ns ms → IsAmong n ns → IsAmong (rename n) ms
  name_among n [] [] maps among = absurd among
  name_among n [] (m ∷ ms) maps among = absurd maps
  name_among n (x ∷ ns) [] maps among = absurd maps
  name_among n (x ∷ ns) (m ∷ ms) maps (inl is) = inl (ap rename is ∙ maps.0)
  name_among n (x ∷ ns) (m ∷ ms) maps (inr among) = inr (name_among n ns ms maps.1 among)

  maps_one_to_one : (ns ms : List ℕ) → Maps rename ns ms → AreOnce ms → (n m : ℕ) → IsAmong n ns → IsAmong m ns
      → rename n ≡ rename m → n ≡ m
  maps_one_to_one [] ms maps once n m one other same = absurd one
  maps_one_to_one (x ∷ ns) [] maps once n m one other same = absurd maps
  maps_one_to_one (x ∷ ns) (y ∷ ms) maps once n m (inl one) (inl other) same = one ∙ sym other
  maps_one_to_one (x ∷ ns) (y ∷ ms) maps once n m (inl one) (inr other) same =
      absurd (once.0 (subst (λ k. IsAmong k ms) (sym same ∙ ap rename one ∙ maps.0)
      (name_among m ns ms maps.1 other)))
  maps_one_to_one (x ∷ ns) (y ∷ ms) maps once n m (inr one) (inl other) same =
      absurd (once.0 (subst (λ k. IsAmong k ms) (same ∙ ap rename other ∙ maps.0)
      (name_among n ns ms maps.1 one)))
  maps_one_to_one (x ∷ ns) (y ∷ ms) maps once n m (inr one) (inr other) same =
      maps_one_to_one ns ms maps.1 once.1 n m one other same

-- ---- the ids of commands

as_many_at : (ids : List ℕ) (rows : List Row) (v w : Parts)
    → length (numbers_at ids rows v) ≡ length (numbers_at ids rows w)
as_many_at ids [] v w = refl
as_many_at ids (row ∷ rows) v w = by_test (has_any ids row) (as_many_at ids rows (rest_parts v) (rest_parts w))
  where
    by_test : (b : Bool)
        → length (numbers_at ids rows (rest_parts v)) ≡ length (numbers_at ids rows (rest_parts w))
        → length (if b then (number_of (first_part v) ∷ numbers_at ids rows (rest_parts v))
        else numbers_at ids rows (rest_parts v))
        ≡ length (if b then (number_of (first_part w) ∷ numbers_at ids rows (rest_parts w))
        else numbers_at ids rows (rest_parts w))
    by_test true same = omega (arith, same)
    by_test false same = same

as_many_ids : (schema other : Option ℕ) (one two : List ℕ) → schema ≡ other
    → length (payload_ids schema one) ≡ length (payload_ids other two)
as_many_ids schema other one two is =
    subst (λ (o : Option ℕ). length (payload_ids schema one) ≡ length (payload_ids o two)) is (by_schema schema)
  where
    by_schema : (schema : Option ℕ) → length (payload_ids schema one) ≡ length (payload_ids schema two)
    by_schema None = refl
    by_schema (Some s) = as_many_at (id_numbers s) (table s) (payload_meaning s one) (payload_meaning s two)

module _ (s : ℕ) (fields : CommandFields) (payloads : Bool) (rename : ℕ → ℕ) where
  abbrev part_named : (ℕ → ℕ) → Row → Part → Part
  part_named name row p = erased_part fields payloads row (renamed_part name (id_numbers s) row p)

  named_by_test : (row : Row) (rows : List Row) (a b : Part) (v w : Parts) (is_id : Bool)
      → has_any (id_numbers s) row ≡ is_id → EqualWithout s fields payloads row a b
      → Maps rename (if is_id then (number_of a ∷ numbers_at (id_numbers s) rows v)
      else numbers_at (id_numbers s) rows v) (if is_id then (number_of b ∷ numbers_at (id_numbers s) rows w)
      else numbers_at (id_numbers s) rows w)
      → (part_named rename row a ≡ part_named (λ id. id) row b)
      × Maps rename (numbers_at (id_numbers s) rows v) (numbers_at (id_numbers s) rows w)
  named_by_test row rows a b v w true is same maps = (
    ap (λ (t : Bool). erased_part fields payloads row (if t then Number (rename (number_of a)) else a)) is
        ∙ ap (λ n. erased_part fields payloads row (Number n)) maps.0
        ∙ sym (ap (λ (t : Bool). erased_part fields payloads row (if t then Number (number_of b) else b)) is),
    maps.1,
  )
  named_by_test row rows a b v w false is same maps = (
    ap (λ (t : Bool). erased_part fields payloads row (if t then Number (rename (number_of a)) else a)) is
        ∙ sym (ap (erased_part fields payloads row) (bare_part s row a false is)) ∙ same
        ∙ ap (erased_part fields payloads row) (bare_part s row b false is)
        ∙ sym (ap (λ (t : Bool). erased_part fields payloads row (if t then Number (number_of b) else b)) is),
    maps,
  )

  parts_named : (rows : List Row) (v w : Parts)
      → erased_parts fields payloads rows (erased_parts (ids_erased s) false rows v)
      ≡ erased_parts fields payloads rows (erased_parts (ids_erased s) false rows w)
      → Maps rename (numbers_at (id_numbers s) rows v) (numbers_at (id_numbers s) rows w)
      → erased_parts fields payloads rows (renamed_parts rename (id_numbers s) rows v)
      ≡ erased_parts fields payloads rows (renamed_parts (λ id. id) (id_numbers s) rows w)
  parts_named [] v w same maps = refl
  parts_named (row ∷ rows) v w same maps =
      let (here, later) = named_by_test row rows (first_part v) (first_part w) (rest_parts v) (rest_parts w)
      (has_any (id_numbers s) row) refl (ap first_part same) maps in
      ap (λ (p : Part). cons p (erased_parts fields payloads rows (renamed_parts rename (id_numbers s) rows
      (rest_parts v)))) here
      ∙ ap (λ (ps : Parts). cons (part_named (λ id. id) row (first_part w)) ps)
      (parts_named rows (rest_parts v) (rest_parts w) (ap rest_parts same) later)

-- ---- commands and journals

module _ (payloads : Bool) where
  alike_without : (one other : RawMessage) → AreAlike (only_payloads payloads) one other
      → AreAlike (with_ids_ignored payloads) one other
  alike_without one other alike = (alike.0, by_schema (message_schema one.header.ty) alike.1)
    where
      by_schema : (schema : Option ℕ)
          → IsSomeAnd schema (MeanTheSame (only_payloads payloads) one.payload other.payload)
          → IsSomeAnd schema (MeanTheSame (with_ids_ignored payloads) one.payload other.payload)
      by_schema None means = means
      by_schema (Some s) means = (means.0, means.1, same_without s payloads _ _ means.2)

  same_outcome : (index count : ℕ) (recorded replayed : List RawMessage)
      → IsOutcome (only_payloads payloads) index recorded replayed (SameCommands count)
      → IsOutcome (with_ids_ignored payloads) index recorded replayed (SameCommands count)
  same_outcome index count [] [] is = is
  same_outcome index count [] (other ∷ replayed) is = is
  same_outcome index count (one ∷ recorded) [] is = is
  same_outcome index count (one ∷ recorded) (other ∷ replayed) (inl is) =
      inl (alike_without one other is.0, same_outcome (index + 1) count recorded replayed is.1)
  same_outcome index count (one ∷ recorded) (other ∷ replayed) (inr found) = absurd found

  -- journals that are the same are the same without ids
  pub still_the_same : (version : Version) (recorded replayed : List ℕ) (count : ℕ)
      → HasOutcome version (only_payloads payloads) recorded replayed (SameCommands count)
      → HasOutcome version (with_ids_ignored payloads) recorded replayed (SameCommands count)
  still_the_same version recorded replayed count has = record {
    recorded_commands = has.recorded_commands;
    replayed_commands = has.replayed_commands;
    is_recorded = has.is_recorded;
    is_replayed = has.is_replayed;
    is_outcome = same_outcome 0 count has.recorded_commands has.replayed_commands has.is_outcome;
  }

  module _ (rename : Renaming) where
    alike_renamed : (one other : RawMessage) → AreAlikeBy rename payloads one other
        → AreAlike (with_ids_ignored payloads) one other
    alike_renamed one other alike = (alike.0, by_schema (message_schema one.header.ty) alike.1)
      where
        by_schema : (schema : Option ℕ)
            → IsSomeAnd schema (MeanTheSameBy rename payloads one.payload other.payload)
            → IsSomeAnd schema (MeanTheSame (with_ids_ignored payloads) one.payload other.payload)
        by_schema None means = means
        by_schema (Some s) means = (means.0, means.1, same_renamed s rename payloads _ _ means.2)

    renamed_outcome : (index : ℕ) (recorded replayed : List RawMessage)
        → AreAllAlikeBy rename payloads recorded replayed
        → (count : ℕ) × IsOutcome (with_ids_ignored payloads) index recorded replayed (SameCommands count)
    renamed_outcome index [] [] alike = (index, refl)
    renamed_outcome index [] (other ∷ replayed) alike = absurd alike
    renamed_outcome index (one ∷ recorded) [] alike = absurd alike
    renamed_outcome index (one ∷ recorded) (other ∷ replayed) alike =
        let (count, is) = renamed_outcome (index + 1) recorded replayed alike.1 in
        (count, inl (alike_renamed one other alike.0, is))

    -- journals that are the same once ids are renamed are the same without them
    pub renamed_are_the_same : (version : Version) (recorded replayed : List ℕ)
        → AreSameBy version rename payloads recorded replayed
        → (count : ℕ) × HasOutcome version (with_ids_ignored payloads) recorded replayed (SameCommands count)
    renamed_are_the_same version recorded replayed same =
        let (count, is) = renamed_outcome 0 same.recorded_commands same.replayed_commands same.alike in (
          count,
          record {
            recorded_commands = same.recorded_commands;
            replayed_commands = same.replayed_commands;
            is_recorded = same.is_recorded;
            is_replayed = same.is_replayed;
            is_outcome = is;
          },
        )

  -- ---- one to one

  abbrev in_place : (ℕ → ℕ) → Renaming
  in_place rename = record { recorded = rename; replayed = λ id. id }

  abbrev is_same : Outcome → Bool
  is_same (SameCommands count) = true
  is_same (RecordedEnds index) = false
  is_same (ReplayedEnds index) = false
  is_same (OtherType index text) = false
  is_same (OtherCommand index text) = false
  is_same (NotWellFormed side index) = false

  as_many_among : (index count : ℕ) (recorded replayed : List RawMessage)
      → IsOutcome (with_ids_ignored payloads) index recorded replayed (SameCommands count)
      → length (ids_among recorded) ≡ length (ids_among replayed)
  as_many_among index count [] [] is = refl
  as_many_among index count [] (other ∷ replayed) is = absurd (both_ways true (ap is_same is) refl)
  as_many_among index count (one ∷ recorded) [] is = absurd (both_ways true (ap is_same is) refl)
  as_many_among index count (one ∷ recorded) (other ∷ replayed) (inl is) =
      let here = as_many_ids _ _ one.payload other.payload (ap message_schema is.0.0) in
      let later = as_many_among (index + 1) count recorded replayed is.1 in
      length-append (payload_ids (message_schema one.header.ty) one.payload) (ids_among recorded)
      ∙ ap (λ n. n + length (ids_among recorded)) here
      ∙ ap (λ n. length (payload_ids (message_schema other.header.ty) other.payload) + n) later
      ∙ sym (length-append (payload_ids (message_schema other.header.ty) other.payload) (ids_among replayed))
  as_many_among index count (one ∷ recorded) (other ∷ replayed) (inr found) = absurd found

  module _ (rename : ℕ → ℕ) where
    alike_named : (one other : RawMessage) → AreAlike (with_ids_ignored payloads) one other
        → Maps rename (payload_ids (message_schema one.header.ty) one.payload)
        (payload_ids (message_schema other.header.ty) other.payload)
        → AreAlikeBy (in_place rename) payloads one other
    alike_named one other alike maps = (
      alike.0,
      by_schema (message_schema one.header.ty) alike.1
          (subst (λ (o : Option ℕ). Maps rename (payload_ids (message_schema one.header.ty) one.payload)
          (payload_ids o other.payload)) (sym (ap message_schema alike.0)) maps),
    )
      where
        by_schema : (schema : Option ℕ)
            → IsSomeAnd schema (MeanTheSame (with_ids_ignored payloads) one.payload other.payload)
            → Maps rename (payload_ids schema one.payload) (payload_ids schema other.payload)
            → IsSomeAnd schema (MeanTheSameBy (in_place rename) payloads one.payload other.payload)
        by_schema None means maps = means
        by_schema (Some s) means maps = (
          means.0,
          means.1,
          parts_named s (command_fields s) payloads rename (table s) _ _ means.2 maps,
        )

    all_named : (index count : ℕ) (recorded replayed : List RawMessage)
        → IsOutcome (with_ids_ignored payloads) index recorded replayed (SameCommands count)
        → Maps rename (ids_among recorded) (ids_among replayed)
        → AreAllAlikeBy (in_place rename) payloads recorded replayed
    all_named index count [] [] is maps = tt
    all_named index count [] (other ∷ replayed) is maps = absurd (both_ways true (ap is_same is) refl)
    all_named index count (one ∷ recorded) [] is maps = absurd (both_ways true (ap is_same is) refl)
    all_named index count (one ∷ recorded) (other ∷ replayed) (inl is) maps =
        let (here, later) = maps_split rename (payload_ids (message_schema one.header.ty) one.payload)
        (ids_among recorded) (payload_ids (message_schema other.header.ty) other.payload) (ids_among replayed)
        (as_many_ids _ _ one.payload other.payload (ap message_schema is.0.0)) maps in
        (alike_named one other is.0 here, all_named (index + 1) count recorded replayed is.1 later)
    all_named index count (one ∷ recorded) (other ∷ replayed) (inr found) maps = absurd found

  -- journals that are the same without ids, none of which is twice in either, are the same once they are renamed
  pub are_one_to_one : (version : Version) (recorded replayed : List ℕ) (count : ℕ)
      → HasOutcome version (with_ids_ignored payloads) recorded replayed (SameCommands count)
      → HaveIdsOnce version recorded replayed → AreSameOneToOne version payloads recorded replayed
  are_one_to_one version recorded replayed count has once =
      let ids = ids_among has.recorded_commands in
      let others = ids_among has.replayed_commands in
      let maps : Maps (in_place_of ids others) ids others = maps_in_place ids others
      (as_many_among 0 count has.recorded_commands has.replayed_commands has.is_outcome)
      (once.recorded_once has.recorded_commands has.is_recorded) in
      record {
        rename = in_place_of ids others;
        same = record {
          recorded_commands = has.recorded_commands;
          replayed_commands = has.replayed_commands;
          is_recorded = has.is_recorded;
          is_replayed = has.is_replayed;
          alike = all_named (in_place_of ids others) 0 count has.recorded_commands has.replayed_commands
              has.is_outcome maps;
        };
        one_to_one = maps_one_to_one (in_place_of ids others) ids others maps
            (once.replayed_once has.replayed_commands has.is_replayed);
      }
