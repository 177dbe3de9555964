use Rattle.std.proofs.Common.{◌≡◌, ◌-◌, ◌<◌, [], ◌∷◌, ◌++◌, length, Some, None, sym, ap, ap₂, ◌∙◌, arith, rules}
use Rattle.std.proofs.Common.{suc, ◌+◌, map, append_assoc, length-append}
use Rattle.std.proofs.lemmas.List.{map-append, length-map}
use Rattle.std.proofs.lemmas.Result.{on_ok_weaker}
use Rattle.json.specs.Token.{Token}
use Rattle.json.specs.Json as json
use Rattle.json.specs.Json.{no_items, item, no_members, member, parse_map, after_end_array, read_key, items}
use Rattle.json.specs.Json.{members, value}
use Rattle.json.specs.Reads.{token_of}
use Rattle.json.proofs.Grammar.{value_is, value-begin_array, value-begin_object, read_key-shorter}
use Rattle.json.proofs.Grammar.{items_end, items_fail, items_more, members_end, members_no_key, members_fail}
use Rattle.json.proofs.Grammar.{members_more}
use Rattle.json_table.specs.Entries as spec
use Rattle.json_table.specs.Entries.{items_len, members_len, value_entries, items_entries, members_entries}
use Rattle.json_table.specs.Views.{entry_view}
use Rattle.json.specs.declared.tape.Node.TheVariants.{Null, Bool, Number, String, Array, Object, Key}
use Rattle.json.specs.declared.tape.Node.TheVariants.{EndArray, EndObject}
use Rattle.json_table.proofs.Turns.{and_items, and_members, and_items-no_items, and_members-no_members}
use Rattle.json_table.proofs.Turns.{none_yet_items, none_yet_members, more_items, more_members, items_front}
use Rattle.json_table.proofs.Turns.{members_front, items_closed, members_closed, items_front-and_item}
use Rattle.json_table.proofs.Turns.{members_front-and_member}
use Rattle.json_table.proofs.Closing.{closed, long}
use Rattle.json_table.proofs.Lengths.{length-items_entries, length-members_entries}
use Rattle.json_table.proofs.read.+read.Goals as goal

pub read_value-returns-in_default-clause-invalid : goal.read_value-returns-in_default-clause-invalid
read_value-returns-in_default-clause-invalid t c invalid =
    let empty : c.args.reader.now ≡ [] = grind arith in
    ap (value c.args.depth) empty ∙ value_is c.args.depth []

pub read_value-returns-then-depth-eq0-clause-invalid : goal.read_value-returns-then-depth-eq0-clause-invalid
unfolding value
read_value-returns-then-depth-eq0-clause-invalid t c never =
    let first : c.args.reader.now ≡ token_of c.in-Some.token ∷ c.next.new.self = grind arith in
    let none : c.args.depth ≡ 0 = omega arith in
    ap₂ value none (first ∙ ap (λ k. token_of k ∷ c.next.new.self) c.in-BeginArray.is)

pub read_value-returns-then-depth-eq0-2-clause-invalid : goal.read_value-returns-then-depth-eq0-2-clause-invalid
unfolding value
read_value-returns-then-depth-eq0-2-clause-invalid t c never =
    let first : c.args.reader.now ≡ token_of c.in-Some.token ∷ c.next.new.self = grind arith in
    let none : c.args.depth ≡ 0 = omega arith in
    ap₂ value none (first ∙ ap (λ k. token_of k ∷ c.next.new.self) c.in-BeginObject.is)

pub read_value-returns-in-String-clause-ok : goal.read_value-returns-in-String-clause-ok
unfolding value_entries
read_value-returns-in-String-clause-ok t c =
    let first : c.args.reader.now ≡ token_of c.in-Some.token ∷ c.next.new.self = grind arith in
    let is : c.args.reader.now ≡ Token.string c.in-String.text.now ∷ c.next.new.self = first
    ∙ ap (λ k. token_of k ∷ c.next.new.self) c.in-String.is in
    on_ok_weaker c.push.result
    (λ pushed. (
      json.string c.in-String.text.now,
      ap (value c.args.depth) is ∙ value_is c.args.depth _,
      ap (map entry_view) pushed ∙ map-append entry_view c.args.entries.now.items (String c.in-String.text ∷ []),
    ))
    c.push.ensures.ok

pub read_value-returns-in-Number-clause-ok : goal.read_value-returns-in-Number-clause-ok
unfolding value_entries
read_value-returns-in-Number-clause-ok t c =
    let first : c.args.reader.now ≡ token_of c.in-Some.token ∷ c.next.new.self = grind arith in
    let is : c.args.reader.now ≡ Token.number c.in-Number.text.now ∷ c.next.new.self = first
    ∙ ap (λ k. token_of k ∷ c.next.new.self) c.in-Number.is in
    on_ok_weaker c.push-in-Number.result
    (λ pushed. (
      json.number c.in-Number.text.now,
      ap (value c.args.depth) is ∙ value_is c.args.depth _,
      ap (map entry_view) pushed ∙ map-append entry_view c.args.entries.now.items (Number c.in-Number.text ∷ []),
    ))
    c.push-in-Number.ensures.ok

pub read_value-returns-in-Bool-clause-ok : goal.read_value-returns-in-Bool-clause-ok
unfolding value_entries
read_value-returns-in-Bool-clause-ok t c =
    let first : c.args.reader.now ≡ token_of c.in-Some.token ∷ c.next.new.self = grind arith in
    let is : c.args.reader.now ≡ Token.boolean c.in-Bool.b ∷ c.next.new.self = first
    ∙ ap (λ k. token_of k ∷ c.next.new.self) c.in-Bool.is in
    on_ok_weaker c.push-in-Bool.result
    (λ pushed. (
      json.boolean c.in-Bool.b,
      ap (value c.args.depth) is ∙ value_is c.args.depth _,
      ap (map entry_view) pushed ∙
          map-append entry_view c.args.entries.now.items (Bool c.in-Bool.b ∷ []),
    ))
    c.push-in-Bool.ensures.ok

pub read_value-returns-in-Null-clause-ok : goal.read_value-returns-in-Null-clause-ok
unfolding value_entries
read_value-returns-in-Null-clause-ok t c =
    let first : c.args.reader.now ≡ token_of c.in-Some.token ∷ c.next.new.self = grind arith in
    let is : c.args.reader.now ≡ Token.null ∷ c.next.new.self = first ∙ ap (λ k. token_of k ∷ c.next.new.self)
    c.in-Null.is in
    on_ok_weaker c.push-in-Null.result
    (λ pushed. (
      json.null,
      ap (value c.args.depth) is ∙ value_is c.args.depth _,
      ap (map entry_view) pushed
          ∙ map-append entry_view c.args.entries.now.items (Null ∷ []),
    ))
    c.push-in-Null.ensures.ok

pub read_value-returns-else-depth-eq0-clause-ok : goal.read_value-returns-else-depth-eq0-clause-ok
read_value-returns-else-depth-eq0-clause-ok t c =
    let first : c.args.reader.now ≡ token_of c.in-Some.token ∷ c.next.new.self = grind arith in
    let opened = ap (value c.args.depth) (first ∙ ap (λ k. token_of k ∷ c.next.new.self) c.in-BeginArray.is)
    ∙ value-begin_array c.args.depth c.next.new.self (omega arith) in
    on_ok_weaker c.read_array.result (λ done. (json.array done.0, opened ∙ ap (parse_map json.array) done.1, done.2))
    c.read_array.ensures.ok

pub read_value-returns-else-depth-eq0-clause-invalid : goal.read_value-returns-else-depth-eq0-clause-invalid
read_value-returns-else-depth-eq0-clause-invalid t c invalid =
    let first : c.args.reader.now ≡ token_of c.in-Some.token ∷ c.next.new.self = grind arith in
    let opened = ap (value c.args.depth) (first ∙ ap (λ k. token_of k ∷ c.next.new.self) c.in-BeginArray.is)
    ∙ value-begin_array c.args.depth c.next.new.self (omega arith) in
    let failed : items (value (c.args.depth - 1)) (length c.next.new.self) c.next.new.self ≡ None = grind arith in
    opened ∙ ap (parse_map json.array) failed

pub read_value-returns-else-depth-eq0-2-clause-ok : goal.read_value-returns-else-depth-eq0-2-clause-ok
read_value-returns-else-depth-eq0-2-clause-ok t c =
    let first : c.args.reader.now ≡ token_of c.in-Some.token ∷ c.next.new.self = grind arith in
    let opened = ap (value c.args.depth) (first ∙ ap (λ k. token_of k ∷ c.next.new.self) c.in-BeginObject.is)
    ∙ value-begin_object c.args.depth c.next.new.self (omega arith) in
    on_ok_weaker c.read_object.result (λ done. (json.object done.0, opened ∙ ap (parse_map json.object) done.1, done.2))
    c.read_object.ensures.ok

pub read_value-returns-else-depth-eq0-2-clause-invalid : goal.read_value-returns-else-depth-eq0-2-clause-invalid
read_value-returns-else-depth-eq0-2-clause-invalid t c invalid =
    let first : c.args.reader.now ≡ token_of c.in-Some.token ∷ c.next.new.self = grind arith in
    let opened = ap (value c.args.depth) (first ∙ ap (λ k. token_of k ∷ c.next.new.self) c.in-BeginObject.is)
    ∙ value-begin_object c.args.depth c.next.new.self (omega arith) in
    let failed : members (value (c.args.depth - 1)) (length c.next.new.self) c.next.new.self ≡ None = grind arith in
    opened ∙ ap (parse_map json.object) failed

pub read_value-returns-in-EndObject-clause-invalid : goal.read_value-returns-in-EndObject-clause-invalid
read_value-returns-in-EndObject-clause-invalid t c invalid =
    let first : c.args.reader.now ≡ token_of c.in-Some.token ∷ c.next.new.self = grind arith in
    rw (value_is c.args.depth c.args.reader.now, first) (grind arith)

pub read_array-loop-reader-init : goal.read_array-loop-reader-init
unfolding items_entries
read_array-loop-reader-init t c =
    let opened : map entry_view c.push.new.entries.items ≡ map entry_view c.args.entries.now.items ++ spec.array 0
    ∷ [] =
    ap (map entry_view) c.in_ok-push.ensures.ok ∙ map-append entry_view c.args.entries.now.items (Array 0 ∷ []) in
    (length c.args.reader.now, no_items, omega arith, none_yet_items _, omega arith, search rules, opened)

pub read_array-loop-reader-preserved : goal.read_array-loop-reader-preserved
read_array-loop-reader-preserved t c =
    let p = value c.args.depth in
    let l = c.loop-reader in
    let n = l.invariant.0 in
    let js = l.invariant.1 in
    let going : (after_end_array l.reader ≡ None) × (c.take_end_array.new.self ≡ l.reader) = grind arith in
    let done = c.in_ok-read_value.ensures.ok in
    let j = done.0 in
    let r = c.read_value.new.reader in
    let less : length r < length l.reader = rw (← going.1) c.in_ok-read_value.ensures.shorter in
    let old = map entry_view c.args.entries.now.items in
    let at = suc (length c.args.entries.now.items) in
    let front = items_front at js in
    let place : length l.entries.items ≡ at + length front =
    omega (
      arith,
      long l.entries.items old front (spec.array 0) l.invariant.6,
      length-map c.args.entries.now.items
          entry_view,
    ) in
    let turn = items_more p n l.reader r j (omega (arith, l.invariant.2)) going.0 (rw (← going.1) done.1) in (
      n - 1,
      and_items js (item j no_items),
      omega (arith, l.invariant.2),
      l.invariant.3 ∙ ap (parse_map (and_items js)) turn ∙ more_items js j _,
      omega (arith, l.invariant.4),
      l.invariant.5,
      done.2 ∙ ap (λ es. es ++ value_entries (length l.entries.items) j) l.invariant.6 ∙ append_assoc old (spec.array
          0 ∷ front) (value_entries (length l.entries.items) j)
          ∙ ap (λ n. old ++ spec.array 0 ∷ (front ++ value_entries n j)) place
          ∙ ap (λ es. old ++ spec.array 0 ∷ es) (sym (items_front-and_item at js j)),
    )

pub read_array-returns-in_err-read_value-clause-invalid : goal.read_array-returns-in_err-read_value-clause-invalid
read_array-returns-in_err-read_value-clause-invalid t c invalid =
    let p = value c.args.depth in
    let l = c.loop-reader in
    let n = l.invariant.0 in
    let going : (after_end_array l.reader ≡ None) × (c.take_end_array.new.self ≡ l.reader) = grind arith in
    let failed : p c.take_end_array.new.self ≡ None = grind arith in
    l.invariant.3 ∙ ap (parse_map (and_items l.invariant.1)) (items_fail p n l.reader going.0 (rw (← going.1) failed))

pub read_array-returns-clause-ok : goal.read_array-returns-clause-ok
unfolding value_entries
read_array-returns-clause-ok t c =
    let p = value c.args.depth in
    let l = c.loop-reader in
    let n = l.invariant.0 in
    let js = l.invariant.1 in
    let r = c.take_end_array.new.self in
    let old = map entry_view c.args.entries.now.items in
    let at = suc (length c.args.entries.now.items) in
    let front = spec.array 0 ∷ items_front at js in
    let full : map entry_view c.push-2.new.entries.items ≡ old ++ spec.array 0 ∷ items_entries at js =
    ap (map entry_view) c.in_ok-push-2.ensures.ok ∙ map-append entry_view l.entries.items (EndArray ∷ [])
    ∙ ap (λ es. es ++ spec.end_array ∷ []) l.invariant.6 ∙ append_assoc old front (spec.end_array ∷ [])
    ∙ ap (λ es. old ++ spec.array 0 ∷ es) (items_closed at js) in
    let place : c.len-at.result ≡ length old = l.invariant.5 ∙ sym (length-map c.args.entries.now.items entry_view) in
    let all : c.len-end.result ≡ length c.push-2.new.entries.items = search rules in
    let end : c.len-end.result ≡ length c.args.entries.now.items + suc (items_len js) =
    omega (
      arith,
      all,
      long c.push-2.new.entries.items old (items_entries at js) (spec.array 0) full,
      length-items_entries at js,
      length-map c.args.entries.now.items entry_view,
    ) in (
      js,
      l.invariant.3 ∙ ap (parse_map (and_items js)) (items_end p n l.reader r l.invariant.2 (grind arith))
          ∙ ap (λ is. Some (is, r)) (and_items-no_items js),
      closed c.push-2.new.entries.items old (items_entries at js) (spec.array 0) full c.len-at.result place (Array
          c.len-end.result) ∙ ap (λ k. old ++ spec.array k ∷ items_entries at js) end,
    )

pub read_object-loop-key-init : goal.read_object-loop-key-init
unfolding items_entries
read_object-loop-key-init t c =
    let opened : map entry_view c.push.new.entries.items ≡ map entry_view c.args.entries.now.items ++ spec.object 0
    ∷ [] =
    ap (map entry_view) c.in_ok-push.ensures.ok ∙ map-append entry_view c.args.entries.now.items (Object 0 ∷ []) in
    (length c.args.reader.now, no_members, omega arith, none_yet_members _, omega arith, search rules, opened)

pub read_object-returns-in_err-key-clause-invalid : goal.read_object-returns-in_err-key-clause-invalid
read_object-returns-in_err-key-clause-invalid t c invalid =
    let p = value c.args.depth in
    let l = c.loop-key in
    let n = l.invariant.0 in
    l.invariant.3 ∙ ap (parse_map (and_members l.invariant.1)) (members_no_key p n l.reader c.in_err-key.ensures.value)

pub read_object-returns-in_err-read_value-clause-invalid : goal.read_object-returns-in_err-read_value-clause-invalid
read_object-returns-in_err-read_value-clause-invalid t c invalid =
    let p = value c.args.depth in
    let l = c.loop-key in
    let n = l.invariant.0 in
    let k = c.in-Some.key.now in
    let s = c.next_key.new.self in
    let key : read_key l.reader ≡ Some (Some k, s) = grind arith in
    let failed : p s ≡ None = grind arith in
    l.invariant.3 ∙ ap (parse_map (and_members l.invariant.1)) (members_fail p n k l.reader s key failed)

pub read_object-loop-key-preserved : goal.read_object-loop-key-preserved
read_object-loop-key-preserved t c =
    let p = value c.args.depth in
    let l = c.loop-key in
    let n = l.invariant.0 in
    let ms = l.invariant.1 in
    let k = c.in-Some.key.now in
    let s = c.next_key.new.self in
    let key : read_key l.reader ≡ Some (Some k, s) = grind arith in
    let done = c.in_ok-read_value.ensures.ok in
    let j = done.0 in
    let r = c.read_value.new.reader in
    let less = read_key-shorter l.reader (Some k) s key in
    let lesser = c.in_ok-read_value.ensures.shorter in
    let old = map entry_view c.args.entries.now.items in
    let at = suc (length c.args.entries.now.items) in
    let front = members_front at ms in
    let pushed : map entry_view c.push-in-Some.new.entries.items ≡ map entry_view l.entries.items ++ spec.key k ∷ [] =
    ap (map entry_view) c.in_ok-push-2.ensures.ok ∙ map-append entry_view l.entries.items (Key c.in-Some.key ∷ []) in
    let named = c.push-in-Some.new.entries.items in
    let place : length named ≡ suc (at + length front) =
    omega (
      arith,
      long l.entries.items old front (spec.object 0) l.invariant.6,
      length-map c.args.entries.now.items
          entry_view,
      ap length c.in_ok-push-2.ensures.ok,
      length-append l.entries.items (Key c.in-Some.key ∷ []),
    ) in
    let turn = members_more p n k l.reader s r j (omega (arith, l.invariant.2)) key done.1 in (
      n - 1,
      and_members ms (member k j no_members),
      omega (arith, l.invariant.2),
      l.invariant.3 ∙ ap (parse_map (and_members ms)) turn ∙ more_members ms k j _,
      omega (arith, l.invariant.4),
      l.invariant.5,
      done.2 ∙ ap (λ es. es ++ value_entries (length named) j) pushed ∙ append_assoc (map entry_view l.entries.items)
          (spec.key k ∷ []) (value_entries (length named) j)
          ∙ ap (λ es. es ++ spec.key k ∷ value_entries (length named) j) l.invariant.6
          ∙ append_assoc old (spec.object 0 ∷ front) (spec.key k ∷ value_entries (length named) j)
          ∙ ap (λ m. old ++ spec.object 0 ∷ (front ++ spec.key k ∷ value_entries m j)) place
          ∙ ap (λ es. old ++ spec.object 0 ∷ es) (sym (members_front-and_member at ms k j)),
    )

pub read_object-returns-clause-ok : goal.read_object-returns-clause-ok
unfolding value_entries
read_object-returns-clause-ok t c =
    let p = value c.args.depth in
    let l = c.loop-key in
    let n = l.invariant.0 in
    let ms = l.invariant.1 in
    let r = c.next_key.new.self in
    let old = map entry_view c.args.entries.now.items in
    let at = suc (length c.args.entries.now.items) in
    let front = spec.object 0 ∷ members_front at ms in
    let full : map entry_view c.push-2.new.entries.items ≡ old ++ spec.object 0 ∷ members_entries at ms =
    ap (map entry_view) c.in_ok-push-3.ensures.ok ∙ map-append entry_view l.entries.items (EndObject ∷ [])
    ∙ ap (λ es. es ++ spec.end_object ∷ []) l.invariant.6 ∙ append_assoc old front (spec.end_object ∷ [])
    ∙ ap (λ es. old ++ spec.object 0 ∷ es) (members_closed at ms) in
    let place : c.len-at.result ≡ length old = l.invariant.5 ∙ sym (length-map c.args.entries.now.items entry_view) in
    let all : c.len-end.result ≡ length c.push-2.new.entries.items = search rules in
    let end : c.len-end.result ≡ length c.args.entries.now.items + suc (members_len ms) =
    omega (
      arith,
      all,
      long c.push-2.new.entries.items old (members_entries at ms) (spec.object 0) full,
      length-members_entries at ms,
      length-map c.args.entries.now.items entry_view,
    ) in (
      ms,
      l.invariant.3 ∙ ap (parse_map (and_members ms)) (members_end p n l.reader r l.invariant.2 (grind arith))
          ∙ ap (λ is. Some (is, r)) (and_members-no_members ms),
      closed c.push-2.new.entries.items old (members_entries at ms) (spec.object 0) full c.len-at.result place (Object
          c.len-end.result) ∙ ap (λ k. old ++ spec.object k ∷ members_entries at ms) end,
    )
