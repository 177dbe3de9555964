-- Surveys of items, one after the other.
use Rattle.std.proofs.Common.{◌≡◌, ℕ, ◌+◌, ◌*◌, ◌≤◌, ◌<◌, ◌^◌, Bool, true, false, cond, List, [], ◌∷◌, ◌++◌, length}
use Rattle.std.proofs.Common.{Option, Some, None, refl, sym, ap, ◌∙◌, arith, zero-add}
use Rattle.std.specs.Prelude.{count_by}
use Rattle.std.proofs.lemmas.List.Sums.{count_by-le-length, sum_by-append}
use Rattle.shared_core_base.specs.declared.version.Version.{Version}
use Rattle.shared_core_stream.specs.declared.encoding.item.Item.{Item}
use Rattle.replay_bench.specs.declared.faults.Fault.{Fault}
use Rattle.replay_bench.specs.declared.survey.Survey.{Survey}
use Rattle.stream_lines.specs.Printing.{item_size, items_size}
use Rattle.replay_bench.specs.Survey.{fault_of, fault_with, first_fault, first_of, is_command, is_malformed, is_other}
use Rattle.replay_bench.specs.Survey.{is_skipped, is_unknown, last_command, survey_of}

-- an item has eight bytes at least
pub eight : (item : Item) → 8 ≤ item_size item
eight item = omega arith

-- items have eight bytes each, at least
eight_each : (items : List Item) → 8 * length items ≤ items_size items
eight_each [] = omega arith
eight_each (item ∷ items) = omega (arith, eight item, eight_each items)

-- the size of one item more
pub items_size_more : (items : List Item) (item : Item)
    → items_size (items ++ item ∷ []) ≡ items_size items + item_size item
items_size_more [] item = omega arith
items_size_more (first ∷ items) item = omega (arith, items_size_more items item)

-- a count of one item more
pub count_more : (p : Item → Bool) (items : List Item) (item : Item)
    → count_by p (items ++ item ∷ []) ≡ count_by p items + cond (p item) 1 0
count_more p items item =
    sum_by-append (λ x. cond (p x) 1 0) items (item ∷ [])
    ∙ ap (λ n. count_by p items + n) (zero-add (cond (p item) 1 0))

first_assoc : (a b c : Option Fault) → first_of a (first_of b c) ≡ first_of (first_of a b) c
first_assoc None b c = refl
first_assoc (Some fault) b c = refl

first_none : (a : Option Fault) → first_of a None ≡ a
first_none None = refl
first_none (Some fault) = refl

-- the first fault of one item more
pub fault_more : (version : Version) (at : ℕ) (items : List Item) (item : Item)
    → first_fault version at (items ++ item ∷ [])
    ≡ first_of (first_fault version at items) (fault_of version (at + items_size items) item)
fault_more version at [] item = first_none (fault_of version at item) ∙ ap (λ n. fault_of version n item) (omega arith)
fault_more version at (first ∷ items) item =
    ap (first_of (fault_of version at first)) (fault_more version (at + item_size first) items item
    ∙ ap (λ n. first_of (first_fault version (at + item_size first) items) (fault_of version n item)) (omega arith))
    ∙ first_assoc (fault_of version at first) (first_fault version (at + item_size first) items)
    (fault_of version (at + (item_size first + items_size items)) item)

-- a count is at most an eighth of the bytes
pub count_small : (p : Item → Bool) (items : List Item) → 8 * count_by p items ≤ items_size items
count_small p items = omega (arith, eight_each items, count_by-le-length p items)

-- the last command of one item more
pub last_more : (at : ℕ) (before : Option ℕ) (items : List Item) (item : Item)
    → last_command at before (items ++ item ∷ [])
    ≡ cond (is_command item) (Some (at + items_size items)) (last_command at before items)
last_more at before [] item = ap (λ n. cond (is_command item) (Some n) before) (omega arith)
last_more at before (first ∷ items) item =
    last_more (at + item_size first) (cond (is_command first) (Some at) before) items item
    ∙ ap (λ n. cond (is_command item) (Some n)
    (last_command (at + item_size first) (cond (is_command first) (Some at) before) items)) (omega arith)

last_next : (items : List Item) (item : Item)
    → last_command 0 None (items ++ item ∷ [])
    ≡ cond (is_command item) (Some (items_size items)) (last_command 0 None items)
last_next items item =
    last_more 0 None items item
    ∙ ap (λ n. cond (is_command item) (Some n) (last_command 0 None items)) (zero-add (items_size items))

faults_more : (version : Version) (is_strict : Bool) (items : List Item) (item : Item)
    → fault_with (survey_of version is_strict items 0) (is_malformed version is_strict item) item
    ≡ (survey_of version is_strict (items ++ item ∷ []) 0).fault
faults_more version true items item =
    ap (λ n. first_of (first_fault version 0 items) (fault_of version n item)) (omega arith)
    ∙ sym (fault_more version 0 items item)
faults_more version false items item = refl

-- the survey of one item more
pub survey_more : (version : Version) (is_strict : Bool) (items : List Item) (item : Item)
    → survey_of version is_strict (items ++ item ∷ []) 0 ≡ record {
      is_strict = is_strict;
      size = items_size items + item_size item;
      commands = count_by is_command items + cond (is_command item) 1 0;
      last_command = cond (is_command item) (Some (items_size items)) (last_command 0 None items);
      others = count_by is_other items + cond (is_other item) 1 0;
      unknown = count_by is_unknown items + cond (is_unknown item) 1 0;
      skipped = count_by is_skipped items + cond (is_skipped item) 1 0;
      malformed = count_by (is_malformed version is_strict) items + cond (is_malformed version is_strict item) 1 0;
      rest = 0;
      fault = fault_with (survey_of version is_strict items 0) (is_malformed version is_strict item) item;
    }
survey_more version is_strict items item =
    let size = items_size_more items item in
    let commands = count_more is_command items item in
    let last = last_next items item in
    let others = count_more is_other items item in
    let unknown = count_more is_unknown items item in
    let skipped = count_more is_skipped items item in
    let malformed = count_more (is_malformed version is_strict) items item in
    let fault = faults_more version is_strict items item in
    rw (size, commands, last, others, unknown, skipped, malformed, ← fault) refl

-- a count of items that have few bytes, and of one more, fits
pub count_fits : (p : Item → Bool) (items : List Item) (more : ℕ) → items_size items < 2 ^ 127 → more ≤ 1
    → count_by p items + more < 2 ^ 128
count_fits p items more small one = omega (arith, count_small p items)

one_at_most : (b : Bool) → cond b 1 0 ≤ 1
one_at_most true = omega arith
one_at_most false = omega arith

pub count_more_fits : (p : Item → Bool) (items : List Item) (item : Item) (count more : ℕ)
    → items_size items < 2 ^ 127 → count ≡ count_by p items → more ≡ cond (p item) 1 0 → count + more < 2 ^ 128
count_more_fits p items item count more small is one =
    rw (is, one) (count_fits p items (cond (p item) 1 0) small (one_at_most (p item)))

-- a count that nothing has changed has room for one more, where a test says so
pub count_next_fits : (p : Item → Bool) (items : List Item) (item : Item) (old count : ℕ) (test : Bool)
    → items_size items < 2 ^ 127 → old ≡ count_by p items → count ≡ old → test ≡ p item
    → count + cond test 1 0 < 2 ^ 128
count_next_fits p items item old count test small is kept tested =
    count_more_fits p items item count (cond test 1 0) small (kept ∙ is) (ap (λ b. cond b 1 0) tested)

-- what is noted of one item more is the survey of it and those before
pub survey_next : (version : Version) (is_strict : Bool) (items : List Item) (item : Item) (old : Survey)
    (fault : Option Fault)
    → old ≡ survey_of version is_strict items 0 → fault ≡ fault_with old (is_malformed version old.is_strict item) item
    → record {
      is_strict = old.is_strict;
      size = old.size + item_size item;
      commands = old.commands + cond (is_command item) 1 0;
      last_command = cond (is_command item) (Some old.size) old.last_command;
      others = old.others + cond (is_other item) 1 0;
      unknown = old.unknown + cond (is_unknown item) 1 0;
      skipped = old.skipped + cond (is_skipped item) 1 0;
      malformed = old.malformed + cond (is_malformed version old.is_strict item) 1 0;
      rest = old.rest;
      fault = fault;
    } ≡ survey_of version is_strict (items ++ item ∷ []) 0
survey_next version is_strict items item old fault is found =
    rw (found, is) (sym (survey_more version is_strict items item))
