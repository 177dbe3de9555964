-- Forms of commands: what they are made of, and that they are the same if and only if the commands are.
use Rattle.std.proofs.Common.{◌≡◌, ◌↔◌, ◌≤◌, ℕ, zero, suc, Bool, true, false, ◌&&◌, List, [], ◌∷◌, map, IsTrue}
use Rattle.std.proofs.Common.{Option, Some, None, IfSome, sym, ap, ◌∙◌, subst, refl, arith, if◌then◌else◌}
use Rattle.std.proofs.Common.{◌<◌, ◌+◌, ◌++◌, length, get_or, take, subst₂}
use Rattle.std.proofs.lemmas.List.{take_more}
use Rattle.std.specs.List.{list_all, list_any}
use Rattle.std.specs.Option.{IsSomeAnd}
use Rattle.std.specs.Prelude.{nat_eq}
use Rattle.std.proofs.Math.Bool.{and-false}
use Rattle.std.proofs.lemmas.Bool.{both_ways}
use Rattle.shared_core_wire.specs.Canonical.{canonical_payload, kind_of, member_number, part_levels, levels}
use Rattle.shared_core_wire.specs.Fitting.{PartFits, ElementsFit, Fits}
use Rattle.shared_core_wire.specs.Schema.{Kind, Row, U32, U64, Boolean, Enumeration, Text, ByteString, Message}
use Rattle.shared_core_wire.specs.Schema.{Plain, Optional, Repeated, OneOf, includes, member_kind, numbers}
use Rattle.shared_core_wire.specs.Value.{Part, Parts, Absent, Number, Bytes, Nested, Elements, Member, nil, cons}
use Rattle.shared_core_wire.specs.Value.{empty_part}
use Rattle.shared_core_wire.proofs.Runs.{and_split}
use Rattle.shared_core_codec.specs.Canonicity.{IsCanonical}
use Rattle.shared_core_codec.specs.Equality.{parts_equal}
use Rattle.shared_core_codec.specs.EqualityRules.{parts_equal_refl, parts_equal_sound}
use Rattle.shared_core_codec.specs.Payloads.{IsAccepted, IsReadBack, payload_meaning}
use Rattle.shared_core_codec.specs.Table.{table}
use Rattle.shared_core_base.specs.declared.header.MessageType.{MessageType}
use Rattle.shared_core_base.specs.declared.header.MessageType.TheVariants.{Suspension}
use Rattle.shared_core_base.specs.declared.version.Version.TheVariants.{V7}
use Rattle.shared_core_message.specs.Messages.{message_schema}
use Rattle.shared_core_message.specs.Schemas.{schema_at}
use Rattle.shared_core_compare.specs.Commands.{CommandFields, command_fields}
use Rattle.shared_core_compare.specs.Erasure.{erased, erased_part, erased_parts, has_any, without_payloads}
use Rattle.shared_core_stream.specs.declared.encoding.raw_message.RawMessage.{RawMessage}
use Rattle.shared_core.specs.Typed.{MeansParts}
use Rattle.replay_bench.specs.declared.forms.Form.{Form}
use Rattle.replay_bench.specs.declared.journals.Ignored.{Ignored}
use Rattle.replay_bench.specs.Forms.{ErasesNothing, HasForm, HaveForms, IsForm, are_flat_or, is_flat_or, is_shallow}
use Rattle.replay_bench.specs.Forms.{kinds_of}
use Rattle.replay_bench.specs.Ids.{erased_but, id_numbers, ids_erased, seen}
use Rattle.replay_bench.specs.Verdicts.{AreAlike, MeanTheSame}

-- ---- what is not erased

none_included : (ns : List ℕ) → list_any (includes []) ns ≡ false
none_included [] = refl
none_included (n ∷ ns) = none_included ns

not_both : (b ignore : Bool) → (IsTrue ignore → b ≡ false) → (b && ignore) ≡ false
not_both b false h = and-false b
not_both b true h = ap (λ (x : Bool). x && true) (h refl)

module _ (fields : CommandFields) (ignore : Bool) (compared : fields.not_compared ≡ [])
    (kept : IsTrue ignore → fields.payloads ≡ []) where
  part_kept : (row : Row) (p : Part) → erased_part fields ignore row p ≡ p
  part_kept row p =
      ap (λ (b : Bool). if b then empty_part row else (if has_any fields.payloads row && ignore
      then without_payloads fields.payloads row p else p))
      (ap (λ (ns : List ℕ). has_any ns row) compared ∙ none_included (numbers row))
      ∙ ap (λ (b : Bool). if b then without_payloads fields.payloads row p else p)
      (not_both (has_any fields.payloads row) ignore
      (λ yes. ap (λ (ns : List ℕ). has_any ns row) (kept yes) ∙ none_included (numbers row)))

  parts_kept : (rows : List Row) (v : Parts) → Fits table v rows → erased_parts fields ignore rows v ≡ v
  unfolding Fits
  parts_kept [] nil fits = refl
  parts_kept [] (cons p ps) fits = absurd fits
  parts_kept (row ∷ rows) nil fits = absurd fits
  parts_kept (row ∷ rows) (cons p ps) fits =
      ap (λ (q : Part). cons q (erased_parts fields ignore rows ps)) (part_kept row p)
      ∙ ap (λ (qs : Parts). cons p qs) (parts_kept rows ps fits.2)

-- no id is erased
seen_kept : (ids : Bool) (s : ℕ) (v : Parts) → (IsTrue ids → id_numbers s ≡ []) → Fits table v (table s)
    → seen ids s v ≡ v
seen_kept false s v none fits = refl
seen_kept true s v none fits = parts_kept (ids_erased s) false (none refl) (λ no. refl) (table s) v fits

parts_same : (v w : Parts) → v ≡ w → parts_equal v w ≡ true
parts_same v w e = subst (λ (u : Parts). parts_equal v u ≡ true) e (parts_equal_refl v)

-- a canonical payload that is compared completely is its own form
pub own_form : (ignore : Ignored) (s : ℕ) (payload : List ℕ) → ErasesNothing ignore s → IsCanonical s payload
    → IsForm ignore payload payload s
own_form ignore s payload whole canonical = (
  canonical.accepted,
  (
    parts_same (payload_meaning s payload) (erased_but ignore s (payload_meaning s payload))
        (sym (ap (erased s ignore.payloads)
        (seen_kept ignore.ids s (payload_meaning s payload) whole.without canonical.fits)
        ∙ parts_kept (command_fields s) ignore.payloads whole.compared whole.kept (table s) (payload_meaning s payload)
        canonical.fits)),
    canonical.canonical,
  ),
)

-- the same by the schema of a type
pub own_form_of : (ignore : Ignored) (payload : List ℕ) (schema : Option ℕ) → IfSome schema (ErasesNothing ignore)
    → IsSomeAnd schema (λ s. IsCanonical s payload) → IsSomeAnd schema (IsForm ignore payload payload)
own_form_of ignore payload None whole canonical = absurd canonical
own_form_of ignore payload (Some s) whole canonical = own_form ignore s payload whole canonical

-- a type has one schema from V7 on
pub at_v7 : (ty : MessageType) → schema_at V7 ty ≡ message_schema ty
at_v7 Suspension = refl
at_v7 _ = refl

-- ---- depth

module _ (holds : ℕ → Bool) (most : ℕ)
    (nested : (s : ℕ) (v : Parts) → holds s ≡ true → Fits table v (table s) → suc (levels v) ≤ most) where
  either_flat : (b : Bool) (one other : Kind) → is_flat_or holds one ≡ true → is_flat_or holds other ≡ true
      → is_flat_or holds (if b then one else other) ≡ true
  either_flat true one other h k = h
  either_flat false one other h k = k

  member_flat : (members : List (ℕ × Kind)) (n : ℕ) → list_all (is_flat_or holds) (map (λ m. m.1) members) ≡ true
      → is_flat_or holds (member_kind members n) ≡ true
  member_flat [] n flat = refl
  member_flat (member ∷ members) n flat =
      let both = and_split (is_flat_or holds member.1) (list_all (is_flat_or holds) (map (λ m. m.1) members)) flat in
      either_flat (nat_eq n member.0) member.1 (member_kind members n) both.0 (member_flat members n both.1)

  row_flat : (row : Row) (p : Part) → list_all (is_flat_or holds) (kinds_of row) ≡ true
      → is_flat_or holds (kind_of row p) ≡ true
  row_flat (Plain n k) p flat = (and_split _ _ flat).0
  row_flat (Optional n k) p flat = (and_split _ _ flat).0
  row_flat (Repeated n k) p flat = (and_split _ _ flat).0
  row_flat (OneOf members) p flat = member_flat members (member_number p) flat

  mutual
    unfolding PartFits ElementsFit part_levels levels

    part_low : (p : Part) (k : Kind) → is_flat_or holds k ≡ true → PartFits table p k → part_levels p ≤ most
    part_low Absent k flat fits = omega arith
    part_low (Number n) k flat fits = omega arith
    part_low (Bytes bytes) k flat fits = omega arith
    part_low (Nested ps) (Message s) flat fits = nested s ps flat fits
    part_low (Nested ps) U32 flat fits = absurd fits
    part_low (Nested ps) U64 flat fits = absurd fits
    part_low (Nested ps) Boolean flat fits = absurd fits
    part_low (Nested ps) Enumeration flat fits = absurd fits
    part_low (Nested ps) Text flat fits = absurd fits
    part_low (Nested ps) ByteString flat fits = absurd fits
    part_low (Elements ps) k flat fits = elements_low ps k flat fits
    part_low (Member n p) k flat fits = part_low p k flat fits

    elements_low : (ps : Parts) (k : Kind) → is_flat_or holds k ≡ true → ElementsFit table ps k → levels ps ≤ most
    elements_low nil k flat fits = omega arith
    elements_low (cons p ps) k flat fits =
        omega (arith, part_low p k flat fits.1, elements_low ps k flat fits.2)

  rows_low : (v : Parts) (rows : List Row) → are_flat_or holds rows ≡ true → Fits table v rows → levels v ≤ most
  unfolding Fits levels
  rows_low nil [] flat fits = omega arith
  rows_low nil (row ∷ rows) flat fits = absurd fits
  rows_low (cons p ps) [] flat fits = absurd fits
  rows_low (cons p ps) (row ∷ rows) flat fits =
      let both = and_split (list_all (is_flat_or holds) (kinds_of row)) (are_flat_or holds rows) flat in
      omega (
        arith,
        part_low p (kind_of row p) (row_flat row p both.0) fits.1,
        rows_low ps rows both.1 fits.2,
      )

shallow_low : (n s : ℕ) (v : Parts) → is_shallow n s ≡ true → Fits table v (table s) → levels v ≤ n
shallow_low zero s v shallow fits =
    rows_low (λ t. false) zero (λ t w holds f. absurd (both_ways false refl holds)) v (table s) shallow fits
shallow_low (suc n) s v shallow fits =
    rows_low (is_shallow n) (suc n) (λ t w is f. omega (arith, shallow_low n t w is f)) v (table s) shallow fits

-- the canonical payload of a command without what is erased of it is its form
pub made_form : (ignore : Ignored) (s : ℕ) (payload form : List ℕ) (decoded compared : Parts)
    → MeansParts s payload decoded → compared ≡ erased_but ignore s decoded → is_shallow 4 s ≡ true
    → Fits table compared (table s) → form ≡ canonical_payload table s compared → IsReadBack s compared form
    → IsForm ignore payload form s
made_form ignore s payload form decoded compared means erases shallow fits is reads =
    let back = reads (omega (arith, shallow_low 4 s compared shallow fits)) in (
      means.0,
      (
        parts_same (payload_meaning s form) (erased_but ignore s (payload_meaning s payload))
            (back.1 ∙ erases ∙ ap (erased_but ignore s) means.1),
        is ∙ ap (canonical_payload table s) (sym back.1),
      ),
    )

-- the same by the schema of a type
pub made_form_of : (ignore : Ignored) (schema : Option ℕ) (s : ℕ) (payload form : List ℕ) (decoded compared : Parts)
    → schema ≡ Some s
    → MeansParts s payload decoded → compared ≡ erased_but ignore s decoded → is_shallow 4 s ≡ true
    → Fits table compared (table s) → form ≡ canonical_payload table s compared → IsReadBack s compared form
    → IsSomeAnd schema (IsForm ignore payload form)
made_form_of ignore schema s payload form decoded compared own means erases shallow fits is reads =
    subst (λ (o : Option ℕ). IsSomeAnd o (IsForm ignore payload form)) (sym own)
    (made_form ignore s payload form decoded compared means erases shallow fits is reads)

-- ---- forms compared

module _ (ignore : Ignored) (recorded replayed : RawMessage) (typed : recorded.header.ty ≡ replayed.header.ty) where
  -- commands are alike if and only if their forms are the same
  pub equal_forms : (one other : List ℕ) (answer : Bool)
      → IsSomeAnd (message_schema recorded.header.ty) (IsForm ignore recorded.payload one)
      → IsSomeAnd (message_schema replayed.header.ty) (IsForm ignore replayed.payload other)
      → (IsTrue answer ↔ (one ≡ other)) → IsTrue answer ↔ AreAlike ignore recorded replayed
  equal_forms one other answer form other_form decides = (
    (λ (yes : IsTrue answer). (typed, means (message_schema recorded.header.ty) form there (decides.0 yes))),
    (λ (alike : AreAlike ignore recorded replayed).
        decides.1 (same (message_schema recorded.header.ty) form there alike.1)),
  )
    where
      there : IsSomeAnd (message_schema recorded.header.ty) (IsForm ignore replayed.payload other)
      there = subst (λ ty. IsSomeAnd (message_schema ty) (IsForm ignore replayed.payload other)) (sym typed) other_form

      means : (schema : Option ℕ) → IsSomeAnd schema (IsForm ignore recorded.payload one)
          → IsSomeAnd schema (IsForm ignore replayed.payload other) → one ≡ other
          → IsSomeAnd schema (MeanTheSame ignore recorded.payload replayed.payload)
      means None h k e = absurd h
      means (Some s) h k e = (
        h.0,
        k.0,
        sym (parts_equal_sound _ _ h.1.0) ∙ ap (payload_meaning s) e ∙ parts_equal_sound _ _ k.1.0,
      )

      same : (schema : Option ℕ) → IsSomeAnd schema (IsForm ignore recorded.payload one)
          → IsSomeAnd schema (IsForm ignore replayed.payload other)
          → IsSomeAnd schema (MeanTheSame ignore recorded.payload replayed.payload) → one ≡ other
      same None h k m = absurd h
      same (Some s) h k m =
          h.1.1 ∙ ap (canonical_payload table s)
          (parts_equal_sound _ _ h.1.0 ∙ m.2 ∙ sym (parts_equal_sound _ _ k.1.0)) ∙ sym k.1.1

  not_alike : (AreAlike ignore recorded replayed → ⊥) → IsTrue false ↔ AreAlike ignore recorded replayed
  not_alike differ = (
    (λ (f : IsTrue false). absurd (both_ways false refl f)),
    (λ (alike : AreAlike ignore recorded replayed). absurd (differ alike)),
  )

  -- a command whose payload is not well-formed is like no other
  pub malformed_recorded : IfSome (message_schema recorded.header.ty) (λ s. ¬ (IsAccepted s recorded.payload))
      → IsTrue false ↔ AreAlike ignore recorded replayed
  malformed_recorded rejected = not_alike (λ alike. unlike (message_schema recorded.header.ty) rejected alike.1)
    where
      unlike : (schema : Option ℕ) → IfSome schema (λ s. ¬ (IsAccepted s recorded.payload))
          → IsSomeAnd schema (MeanTheSame ignore recorded.payload replayed.payload) → ⊥
      unlike None h m = absurd m
      unlike (Some s) h m = h m.0

  pub malformed_replayed : IfSome (message_schema replayed.header.ty) (λ s. ¬ (IsAccepted s replayed.payload))
      → IsTrue false ↔ AreAlike ignore recorded replayed
  malformed_replayed rejected =
      not_alike (λ alike. unlike (message_schema recorded.header.ty)
      (subst (λ ty. IfSome (message_schema ty) (λ s. ¬ (IsAccepted s replayed.payload))) (sym typed) rejected) alike.1)
    where
      unlike : (schema : Option ℕ) → IfSome schema (λ s. ¬ (IsAccepted s replayed.payload))
          → IsSomeAnd schema (MeanTheSame ignore recorded.payload replayed.payload) → ⊥
      unlike None h m = absurd m
      unlike (Some s) h m = h m.1

-- ---- the forms of a list

module _ (ignore : Ignored) where
  -- the form of the command at a place
  pub form_at : (commands : List RawMessage) (forms : List Form) (i : ℕ) (command : RawMessage) (form : Form)
      → HaveForms ignore commands forms → i < length commands
      → HasForm ignore (get_or commands i command) (get_or forms i form)
  form_at [] [] i d e have within = absurd (omega (arith, within))
  form_at [] (form ∷ forms) i d e have within = absurd have
  form_at (command ∷ commands) [] i d e have within = absurd have
  form_at (command ∷ commands) (form ∷ forms) zero d e have within = have.0
  form_at (command ∷ commands) (form ∷ forms) (suc i) d e have within =
      form_at commands forms i d e have.1 (omega (arith, within))

  -- there are as many
  pub as_many_forms : (commands : List RawMessage) (forms : List Form) → HaveForms ignore commands forms
      → length commands ≡ length forms
  as_many_forms [] [] have = refl
  as_many_forms [] (form ∷ forms) have = absurd have
  as_many_forms (command ∷ commands) [] have = absurd have
  as_many_forms (command ∷ commands) (form ∷ forms) have = ap suc (as_many_forms commands forms have.1)

  form_pushed : (commands : List RawMessage) (forms : List Form) (command : RawMessage) (form : Form)
      → HaveForms ignore commands forms → HasForm ignore command form
      → HaveForms ignore (commands ++ (command ∷ [])) (forms ++ (form ∷ []))
  form_pushed [] [] d e have has = (has, tt)
  form_pushed [] (form ∷ forms) d e have has = absurd have
  form_pushed (command ∷ commands) [] d e have has = absurd have
  form_pushed (command ∷ commands) (form ∷ forms) d e have has = (have.0, form_pushed commands forms d e have.1 has)

  -- the form of one more command is appended
  pub one_more_form : (commands : List RawMessage) (i : ℕ) (command : RawMessage) (form : Form) (old new : List Form)
      → i < length commands → command ≡ get_or commands i command → HaveForms ignore (take i commands) old
      → HasForm ignore command form → new ≡ old ++ (form ∷ []) → HaveForms ignore (take (i + 1) commands) new
  one_more_form commands i command form old new within is before has appended =
      let more : take i commands ++ (command ∷ []) ≡ take (i + 1) commands =
      ap (λ (x : RawMessage). take i commands ++ (x ∷ [])) is ∙ sym (take_more commands i command within) in
      subst₂ (λ (some : List RawMessage) (forms : List Form). HaveForms ignore some forms) more (sym appended)
      (form_pushed (take i commands) old command form before has)
