-- How the reading of a set goes on.
use Rattle.std.proofs.Common.{◌≡◌, ℕ, zero, suc, ◌+◌, List, [], ◌∷◌, ◌++◌, map, length, Bool, true, false, ◌||◌}
use Rattle.std.proofs.Common.{Result, Ok, Err, OnOk, IfErr}
use Rattle.std.proofs.Common.{refl, sym, ap, ◌∙◌, subst, append_assoc, append-nil, arith, flat_map, length-append}
use Rattle.std.proofs.lemmas.List.{length-map, map-append}
use Rattle.std.specs.List.{list_any}
use Rattle.std.specs.Prelude.{String}
use Rattle.std.specs.declared.alloc.Global.{Global}
use Rattle.std.specs.String.{string_bytes}
use Rattle.descriptor_set.specs.declared.codes.SaidCode.{SaidCode}
use Rattle.descriptor_set.specs.declared.error.DescriptorError.{DescriptorError}
use Rattle.descriptor_set.specs.declared.error.DescriptorError.TheVariants as error
use Rattle.descriptor_set.specs.declared.set.EnumDescriptor.{EnumDescriptor}
use Rattle.descriptor_set.specs.declared.set.MessageDescriptor.{MessageDescriptor}
use Rattle.descriptor_set.specs.declared.reading.Reading.{Reading}
use Rattle.descriptor_set.specs.Reading.{Appends, Blames, BlamesName, IsReadingOf, Reads}
use Rattle.descriptor_set.specs.Sets.{AllTwo, IsEnum, IsMessage, SaidEnum, SaidMessage, Surroundings, each_at}
use Rattle.descriptor_set.specs.Sets.{enums_of, files_messages, has_many_fields, is_long_name, messages_of}
use Rattle.descriptor_set.specs.Sets.{enums_at, enums_within, file_around, file_enums, file_messages, full_name, inside}
use Rattle.descriptor_set.specs.Sets.{message_at, message_named, messages_at, messages_within, nested_enums, next_index}
use Rattle.descriptor_set.specs.Values.{contents_in, text_in}

pub on_ok : {A E P Q : Type 0} (r : Result A E) → (P → Q) → OnOk r P → OnOk r Q
on_ok (Ok a) f h = f h
on_ok (Err e) f h = tt

module _ {A B : Type 0} (Is : A → B → Type 0) where
  -- what is found, with whatever the rest says, is what all says
  abbrev pub Lists : List A → List A → List B → Type 0
  Lists all rest found = (later : List B) → AllTwo Is rest later → AllTwo Is all (found ++ later)

  pub lists_first : (all rest : List A) (found : List B) → rest ≡ all → found ≡ [] → Lists all rest found
  lists_first all rest found e f later h =
      subst (λ (ys : List B). AllTwo Is all (ys ++ later)) (sym f) (subst (λ (xs : List A). AllTwo Is xs later) e h)

  pub lists_next : (all rest before : List A) (x : A) (found : List B) (y : B) (next : List B) → before ≡ x ∷ rest
      → next ≡ found ++ y ∷ [] → Lists all before found → Is x y → Lists all rest next
  lists_next all rest before x found y next e f goes is later h =
      subst (λ (ys : List B). AllTwo Is all ys)
      (sym (ap (λ (ys : List B). ys ++ later) f ∙ append_assoc found (y ∷ []) later))
      (goes (y ∷ later) (subst (λ (xs : List A). AllTwo Is xs (y ∷ later)) (sym e) (is, h)))

  pub lists_all : (all rest : List A) (found : List B) → rest ≡ [] → Lists all rest found → AllTwo Is all found
  lists_all all rest found e goes =
      subst (λ (ys : List B). AllTwo Is all ys) (append-nil found)
      (goes [] (subst (λ (xs : List A). AllTwo Is xs []) (sym e) tt))

  pub all_two_append : (xs xs' : List A) (ys ys' : List B) → AllTwo Is xs ys → AllTwo Is xs' ys'
      → AllTwo Is (xs ++ xs') (ys ++ ys')
  all_two_append [] xs' [] ys' h h' = h'
  all_two_append [] xs' (y ∷ ys) ys' h h' = absurd h
  all_two_append (x ∷ xs) xs' [] ys' h h' = absurd h
  all_two_append (x ∷ xs) xs' (y ∷ ys) ys' h h' = (h.0, all_two_append xs xs' ys ys' h.1 h')

  pub all_two_length : (xs : List A) (ys : List B) → AllTwo Is xs ys → length xs ≡ length ys
  all_two_length [] [] h = refl
  all_two_length [] (y ∷ ys) h = absurd h
  all_two_length (x ∷ xs) [] h = absurd h
  all_two_length (x ∷ xs) (y ∷ ys) h = ap suc (all_two_length xs ys h.1)

  pub appends_both : (xs ys : List A) (old mid new : List B) → Appends Is xs old mid → Appends Is ys mid new
      → Appends Is (xs ++ ys) old new
  appends_both xs ys old mid new a b = record {
    added = a.added ++ b.added;
    is = b.is ∙ ap (λ (zs : List B). zs ++ b.added) a.is ∙ append_assoc old a.added b.added;
    each = all_two_append xs ys a.added b.added a.each b.each;
  }

-- ---- what is read

pub reads_none : (old new : Reading) → new.files.items ≡ old.files.items → new.messages.items ≡ old.messages.items
    → new.enums.items ≡ old.enums.items → Reads [] [] [] old new
reads_none old new f m e = record {
  files_read = ap (map string_bytes) f ∙ sym (append-nil (map string_bytes old.files.items));
  messages_read = record { added = []; is = m ∙ sym (append-nil old.messages.items); each = tt };
  enums_read = record { added = []; is = e ∙ sym (append-nil old.enums.items); each = tt };
}

pub reads_both : (fs fs' : List (List ℕ)) (ms ms' : List SaidMessage) (es es' : List SaidEnum) (old mid new : Reading)
    → Reads fs ms es old mid → Reads fs' ms' es' mid new → Reads (fs ++ fs') (ms ++ ms') (es ++ es') old new
reads_both fs fs' ms ms' es es' old mid new a b = record {
  files_read = b.files_read ∙ ap (λ (xs : List (List ℕ)). xs ++ fs') a.files_read
      ∙ append_assoc (map string_bytes old.files.items) fs fs';
  messages_read = appends_both IsMessage ms ms' _ _ _ a.messages_read b.messages_read;
  enums_read = appends_both IsEnum es es' _ _ _ a.enums_read b.enums_read;
}

-- ---- what an error blames

any_left : {X : Type 0} (test : X → Bool) (xs ys : List X) → list_any test xs ≡ true → list_any test (xs ++ ys) ≡ true
any_left test [] ys h = absurd cc
any_left test (x ∷ xs) ys h = by_test (test x) (any_left test xs ys) h
  where
    by_test : (b : Bool) → (list_any test xs ≡ true → list_any test (xs ++ ys) ≡ true) → (b || list_any test xs) ≡ true
        → (b || list_any test (xs ++ ys)) ≡ true
    by_test true f g = refl
    by_test false f g = f g

any_right : {X : Type 0} (test : X → Bool) (xs ys : List X) → list_any test ys ≡ true → list_any test (xs ++ ys) ≡ true
any_right test [] ys h = h
any_right test (x ∷ xs) ys h = by_test (test x) (any_right test xs ys h)
  where
    by_test : (b : Bool) → list_any test (xs ++ ys) ≡ true → (b || list_any test (xs ++ ys)) ≡ true
    by_test true g = refl
    by_test false g = g

either : (a b a' b' : Bool) → (a ≡ true → a' ≡ true) → (b ≡ true → b' ≡ true) → (a || b) ≡ true → (a' || b') ≡ true
either true b a' b' f g h = ap (λ (x : Bool). x || b') (f refl)
either false b true b' f g h = refl
either false b false b' f g h = g h

pub blames_left : (e : DescriptorError) (ms ms' : List SaidMessage) (es es' : List SaidEnum) → Blames e ms es → Blames e
    (ms ++ ms') (es ++ es')
blames_left (error.Malformed p) ms ms' es es' h = h
blames_left error.TooLong ms ms' es es' h = h
blames_left (error.NameTooLong p) ms ms' es es' h =
    either _ _ _ _ (any_left (λ m. is_long_name m.name) ms ms') (any_left (λ e. is_long_name e.name) es es') h
blames_left (error.TooManyFields p) ms ms' es es' h = any_left has_many_fields ms ms' h
blames_left (error.MessageTwice p) ms ms' es es' h = h
blames_left (error.UnknownMessage p n) ms ms' es es' h = h
blames_left (error.InvalidField p f) ms ms' es es' h = h
blames_left (error.SharedName p) ms ms' es es' h = h
blames_left error.OutOfMemory ms ms' es es' h = h

pub blames_right : (e : DescriptorError) (ms ms' : List SaidMessage) (es es' : List SaidEnum) → Blames e ms' es'
    → Blames e (ms ++ ms') (es ++ es')
blames_right (error.Malformed p) ms ms' es es' h = h
blames_right error.TooLong ms ms' es es' h = h
blames_right (error.NameTooLong p) ms ms' es es' h =
    either _ _ _ _ (any_right (λ m. is_long_name m.name) ms ms') (any_right (λ e. is_long_name e.name) es es') h
blames_right (error.TooManyFields p) ms ms' es es' h = any_right has_many_fields ms ms' h
blames_right (error.MessageTwice p) ms ms' es es' h = h
blames_right (error.UnknownMessage p n) ms ms' es es' h = h
blames_right (error.InvalidField p f) ms ms' es es' h = h
blames_right (error.SharedName p) ms ms' es es' h = h
blames_right error.OutOfMemory ms ms' es es' h = h

-- ---- a loop

-- What is read, or what an error blames, of the rest is so of all.
pub record Goes (fs : List (List ℕ)) (ms : List SaidMessage) (es : List SaidEnum) (fs' : List (List ℕ))
    (ms' : List SaidMessage) (es' : List SaidEnum) (old now : Reading) : Type 0 where
  pub read : (new : Reading) → Reads fs' ms' es' now new → Reads fs ms es old new
  pub blamed : (e : DescriptorError) → Blames e ms' es' → Blames e ms es

pub goes_first : (fs fs' : List (List ℕ)) (ms ms' : List SaidMessage) (es es' : List SaidEnum) (old : Reading) → fs' ≡
    fs → ms' ≡ ms → es' ≡ es → Goes fs ms es fs' ms' es' old old
goes_first fs fs' ms ms' es es' old f m e = record {
  read = λ new r. subst (λ (xs : List (List ℕ)). Reads xs ms es old new) f
      (subst (λ (xs : List SaidMessage). Reads fs' xs es old new) m
      (subst (λ (xs : List SaidEnum). Reads fs' ms' xs old new) e r));
  blamed = λ x b. subst (λ (xs : List SaidMessage). Blames x xs es) m
      (subst (λ (xs : List SaidEnum). Blames x ms' xs) e b);
}

pub goes_next : (fs : List (List ℕ)) (ms : List SaidMessage) (es : List SaidEnum) (f f' all_f : List (List ℕ))
    (m m' all_m : List SaidMessage) (e e' all_e : List SaidEnum) (old now next : Reading) → all_f ≡ f ++ f' → all_m ≡
    m ++ m' → all_e ≡ e ++ e' → Goes fs ms es all_f all_m all_e old now → Reads f m e now next → Goes fs ms es f' m' e'
    old next
goes_next fs ms es f f' all_f m m' all_m e e' all_e old now next is_f is_m is_e g r = record {
  read = λ new s. g.read new (subst (λ (xs : List (List ℕ)). Reads xs all_m all_e now new) (sym is_f)
      (subst (λ (xs : List SaidMessage). Reads (f ++ f') xs all_e now new) (sym is_m)
      (subst (λ (xs : List SaidEnum). Reads (f ++ f') (m ++ m') xs now new) (sym is_e)
      (reads_both f f' m m' e e' now next new r s))));
  blamed = λ x b. g.blamed x (subst (λ (xs : List SaidMessage). Blames x xs all_e) (sym is_m)
      (subst (λ (xs : List SaidEnum). Blames x (m ++ m') xs) (sym is_e) (blames_right x m m' e e' b)));
}

pub goes_wrong : (fs fs' : List (List ℕ)) (ms : List SaidMessage) (es : List SaidEnum) (m m' all_m : List SaidMessage)
    (e e' all_e : List SaidEnum) (old now : Reading) (x : DescriptorError) → all_m ≡ m ++ m' → all_e ≡ e ++ e' → Goes fs
    ms es fs' all_m all_e old now → Blames x m e → Blames x ms es
goes_wrong fs fs' ms es m m' all_m e e' all_e old now x is_m is_e g b =
    g.blamed x (subst (λ (xs : List SaidMessage). Blames x xs all_e) (sym is_m)
    (subst (λ (xs : List SaidEnum). Blames x (m ++ m') xs) (sym is_e) (blames_left x m m' e e' b)))

pub goes_last : (fs fs' : List (List ℕ)) (ms ms' : List SaidMessage) (es es' : List SaidEnum) (old now : Reading) → fs'
    ≡ [] → ms' ≡ [] → es' ≡ [] → Goes fs ms es fs' ms' es' old now → Reads fs ms es old now
goes_last fs fs' ms ms' es es' old now f m e g =
    g.read now (subst (λ (xs : List (List ℕ)). Reads xs ms' es' now now) (sym f)
    (subst (λ (xs : List SaidMessage). Reads [] xs es' now now) (sym m)
    (subst (λ (xs : List SaidEnum). Reads [] [] xs now now) (sym e) (reads_none now now refl refl refl))))

pub reads_enum : (x : SaidEnum) (y : EnumDescriptor) (old new : Reading) → IsEnum x y → new.files.items ≡
    old.files.items → new.messages.items ≡ old.messages.items → new.enums.items ≡ old.enums.items ++ y ∷ []
    → Reads [] [] (x ∷ []) old new
reads_enum x y old new is f m e = record {
  files_read = ap (map string_bytes) f ∙ sym (append-nil (map string_bytes old.files.items));
  messages_read = record { added = []; is = m ∙ sym (append-nil old.messages.items); each = tt };
  enums_read = record { added = y ∷ []; is = e; each = (is, tt) };
}

pub reads_message : (x : SaidMessage) (y : MessageDescriptor) (old new : Reading) → IsMessage x y → new.files.items ≡
    old.files.items → new.messages.items ≡ old.messages.items ++ y ∷ [] → new.enums.items ≡ old.enums.items → Reads []
    (x ∷ []) [] old new
reads_message x y old new is f m e = record {
  files_read = ap (map string_bytes) f ∙ sym (append-nil (map string_bytes old.files.items));
  messages_read = record { added = y ∷ []; is = m; each = (is, tt) };
  enums_read = record { added = []; is = e ∙ sym (append-nil old.enums.items); each = tt };
}

-- ---- a message with what is within it

pub reads_message_last : (ms : List SaidMessage) (m : SaidMessage) (es es' : List SaidEnum) (old a b new : Reading)
    → Reads [] ms es old a → Reads [] [] es' a b → Reads [] (m ∷ []) [] b new → Reads [] (ms ++ m ∷ []) (es ++ es') old
    new
reads_message_last ms m es es' old a b new r s t =
    subst (λ (xs : List SaidEnum). Reads [] (ms ++ m ∷ []) (es ++ xs) old new) (append-nil es')
    (reads_both [] [] ms (m ∷ []) es (es' ++ []) old a new r (reads_both [] [] [] (m ∷ []) es' [] a b new s t))

pub blames_name : (e : DescriptorError) (ms : List SaidMessage) (m : SaidMessage) (es : List SaidEnum) → BlamesName e
    m.name → Blames e (ms ++ m ∷ []) es
blames_name (error.Malformed p) ms m es h = h
blames_name error.TooLong ms m es h = h
blames_name (error.NameTooLong p) ms m es h =
    ap (λ (b : Bool). b || list_any (λ e. is_long_name e.name) es)
    (any_right (λ m. is_long_name m.name) ms (m ∷ []) (ap (λ (b : Bool). b || false) h))
blames_name (error.TooManyFields p) ms m es h = absurd h
blames_name (error.MessageTwice p) ms m es h = h
blames_name (error.UnknownMessage p n) ms m es h = h
blames_name (error.InvalidField p f) ms m es h = h
blames_name (error.SharedName p) ms m es h = h
blames_name error.OutOfMemory ms m es h = h

pub blames_enums : (e : DescriptorError) (ms : List SaidMessage) (es es' : List SaidEnum) → Blames e [] es' → Blames e
    ms (es ++ es')
blames_enums e ms es es' h = subst (λ (xs : List SaidMessage). Blames e xs (es ++ es')) (append-nil ms)
    (blames_right e ms [] es es' h)

pub blames_last : (e : DescriptorError) (ms : List SaidMessage) (m : SaidMessage) (es : List SaidEnum) → Blames e
    (m ∷ []) [] → Blames e (ms ++ m ∷ []) es
blames_last e ms m es h = subst (λ (xs : List SaidEnum). Blames e (ms ++ m ∷ []) xs) (append-nil es)
    (blames_right e ms (m ∷ []) es [] h)

-- ---- the levels

pub no_messages : (left : ℕ) (around : Surroundings) (number : ℕ) (bytes : List ℕ) → left ≡ 0 → messages_within left
    around number bytes ≡ []
unfolding messages_within
no_messages zero around number bytes e = refl
no_messages (suc left) around number bytes e = absurd (omega (arith, e))

pub no_enums : (left : ℕ) (within : List ℕ) (number : ℕ) (bytes : List ℕ) → left ≡ 0 → nested_enums left within number
    bytes ≡ []
unfolding nested_enums
no_enums zero within number bytes e = refl
no_enums (suc left) within number bytes e = absurd (omega (arith, e))

pub some_messages : (left below : ℕ) (around : Surroundings) (number : ℕ) (bytes : List ℕ) → left ≡ below + 1
    → messages_within left around number bytes ≡ each_at (messages_at below around) around.path number 0
    (contents_in number bytes)
unfolding messages_within
some_messages zero below around number bytes e = absurd (omega (arith, e))
some_messages (suc left) below around number bytes e =
    ap (λ (levels : ℕ). each_at (messages_at levels around) around.path number 0 (contents_in number bytes))
    (let f : left ≡ below = omega arith in f)

pub some_enums : (left below : ℕ) (within : List ℕ) (number : ℕ) (bytes : List ℕ) → left ≡ below + 1 → nested_enums left
    within number bytes ≡ flat_map (enums_at below within) (contents_in number bytes)
unfolding nested_enums
some_enums zero below within number bytes e = absurd (omega (arith, e))
some_enums (suc left) below within number bytes e =
    ap (λ (levels : ℕ). flat_map (enums_at levels within) (contents_in number bytes))
    (let f : left ≡ below = omega arith in f)

-- ---- a message and what is within it, as the program has them

pub reads_nothing : (ms : List SaidMessage) (es : List SaidEnum) (old : Reading) → ms ≡ [] → es ≡ []
    → Reads [] ms es old old
reads_nothing ms es old m e =
    subst (λ (xs : List SaidMessage). Reads [] xs es old old) (sym m)
    (subst (λ (xs : List SaidEnum). Reads [] [] xs old old) (sym e) (reads_none old old refl refl refl))

pub each_step : (given : List ℕ → List ℕ → List SaidMessage) (path : List ℕ) (number index next : ℕ)
    (contents : List (List ℕ)) (content : List ℕ) (rest : List (List ℕ)) (at : List ℕ) → contents ≡ content ∷ rest
    → at ≡ path ++ number ∷ index ∷ [] → next ≡ next_index index → each_at given path number index contents ≡ given at
    content ++ each_at given path number next rest
each_step given path number index next contents content rest at e is_at is_next =
    ap (each_at given path number index) e
    ∙ ap (λ (q : List ℕ). given q content ++ each_at given path number (next_index index) rest) (sym is_at)
    ∙ ap (λ (j : ℕ). given at content ++ each_at given path number j rest) (sym is_next)

-- Surroundings of another name and path.
abbrev pub named : Surroundings → List ℕ → List ℕ → Surroundings
named a name path = record {
  file = a.file;
  is_proto3 = a.is_proto3;
  codes = a.codes;
  name = name;
  path = path;
}

named_is : (a : Surroundings) (n p path bytes : List ℕ) → n ≡ full_name a.name (text_in 1 bytes) → p ≡ path
    → named a n p ≡ inside a path bytes
named_is a n p path bytes en ep =
    ap (λ (x : List ℕ). named a x p) en ∙ ap (λ (y : List ℕ). named a (full_name a.name (text_in 1 bytes)) y) ep

own_is : (a : Surroundings) (n path bytes : List ℕ) (said : List SaidCode) → n ≡ full_name a.name (text_in 1 bytes)
    → said ≡ a.codes path → message_named a n said bytes ≡ message_at a path bytes
own_is a n path bytes said en es =
    ap (λ (x : List ℕ). message_named a x said bytes) en
    ∙ ap (λ (y : List SaidCode). message_named a (full_name a.name (text_in 1 bytes)) y bytes) es

pub reads_nested : (left : ℕ) (a : Surroundings) (n p path bytes name : List ℕ) (said : List SaidCode)
    (old x y new : Reading) → n ≡ full_name a.name (text_in 1 bytes) → p ≡ path → name ≡ full_name a.name
    (text_in 1 bytes) → said ≡ a.codes path → Reads [] (messages_within left (named a n p) 3 bytes)
    (nested_enums left n 3 bytes) old x → Reads [] [] (enums_within n 4 bytes) x y → Reads []
    (message_named a name said bytes ∷ []) [] y new → Reads [] (messages_at left a path bytes) (enums_at left a.name
    bytes) old new
reads_nested left a n p path bytes name said old x y new en ep em es r s t =
    reads_message_last (messages_within left (inside a path bytes) 3 bytes) (message_at a path bytes)
    (nested_enums left (full_name a.name (text_in 1 bytes)) 3 bytes)
    (enums_within (full_name a.name (text_in 1 bytes)) 4 bytes) old x y new
    (subst (λ (b : Surroundings). Reads [] (messages_within left b 3 bytes)
    (nested_enums left (full_name a.name (text_in 1 bytes)) 3 bytes) old x) (named_is a n p path bytes en ep)
    (subst (λ (m : List ℕ). Reads [] (messages_within left (named a n p) 3 bytes) (nested_enums left m 3 bytes) old x)
    en r))
    (subst (λ (m : List ℕ). Reads [] [] (enums_within m 4 bytes) x y) en s)
    (subst (λ (m : SaidMessage). Reads [] (m ∷ []) [] y new) (own_is a name path bytes said em es) t)

pub blames_nested : (e : DescriptorError) (left : ℕ) (a : Surroundings) (n p path bytes : List ℕ) → n ≡ full_name a.name
    (text_in 1 bytes) → p ≡ path → Blames e (messages_within left (named a n p) 3 bytes) (nested_enums left n 3 bytes)
    → Blames e (messages_at left a path bytes) (enums_at left a.name bytes)
blames_nested e left a n p path bytes en ep h =
    blames_left e (messages_within left (inside a path bytes) 3 bytes) (message_at a path bytes ∷ [])
    (nested_enums left (full_name a.name (text_in 1 bytes)) 3 bytes)
    (enums_within (full_name a.name (text_in 1 bytes)) 4 bytes)
    (subst (λ (b : Surroundings). Blames e (messages_within left b 3 bytes)
    (nested_enums left (full_name a.name (text_in 1 bytes)) 3 bytes)) (named_is a n p path bytes en ep)
    (subst (λ (m : List ℕ). Blames e (messages_within left (named a n p) 3 bytes) (nested_enums left m 3 bytes)) en h))

pub blames_enums_of : (e : DescriptorError) (left : ℕ) (a : Surroundings) (n path bytes : List ℕ) → n ≡ full_name a.name
    (text_in 1 bytes) → Blames e [] (enums_within n 4 bytes) → Blames e (messages_at left a path bytes) (enums_at left
    a.name bytes)
blames_enums_of e left a n path bytes en h =
    blames_enums e (messages_at left a path bytes) (nested_enums left (full_name a.name (text_in 1 bytes)) 3 bytes)
    (enums_within (full_name a.name (text_in 1 bytes)) 4 bytes)
    (subst (λ (m : List ℕ). Blames e [] (enums_within m 4 bytes)) en h)

pub blames_own : (e : DescriptorError) (left : ℕ) (a : Surroundings) (n path bytes : List ℕ) (said : List SaidCode) → n
    ≡ full_name a.name (text_in 1 bytes) → said ≡ a.codes path → Blames e (message_named a n said bytes ∷ []) []
    → Blames e (messages_at left a path bytes) (enums_at left a.name bytes)
blames_own e left a n path bytes said en es h =
    blames_last e (messages_within left (inside a path bytes) 3 bytes) (message_at a path bytes)
    (enums_at left a.name bytes)
    (subst (λ (m : SaidMessage). Blames e (m ∷ []) []) (own_is a n path bytes said en es) h)

pub blames_name_of : (e : DescriptorError) (left : ℕ) (a : Surroundings) (text path bytes : List ℕ) → text ≡ text_in 1
    bytes → BlamesName e (full_name a.name text) → Blames e (messages_at left a path bytes) (enums_at left a.name bytes)
blames_name_of e left a text path bytes et h =
    blames_name e (messages_within left (inside a path bytes) 3 bytes) (message_at a path bytes)
    (enums_at left a.name bytes) (subst (λ (t : List ℕ). BlamesName e (full_name a.name t)) et h)

pub if_err : {A E : Type 0} {P Q : E → Type 0} (r : Result A E) → ((e : E) → P e → Q e) → IfErr r P → IfErr r Q
if_err (Ok a) f h = tt
if_err (Err e) f h = f e h

-- ---- a file

pub reads_file : (name : List ℕ) (a : Surroundings) (index : ℕ) (bytes : List ℕ) (old x y new : Reading) → a ≡
    file_around index bytes → Reads (name ∷ []) [] [] old x → Reads [] (messages_within 100 a 4 bytes)
    (nested_enums 100 a.name 4 bytes) x y → Reads [] [] (enums_within a.name 5 bytes) y new → Reads (name ∷ [])
    (file_messages index bytes) (file_enums bytes) old new
reads_file name a index bytes old x y new is r s t =
    subst (λ (b : Surroundings). Reads (name ∷ []) (messages_within 100 b 4 bytes)
    (nested_enums 100 b.name 4 bytes ++ enums_within b.name 5 bytes) old new) is
    (subst (λ (ms : List SaidMessage). Reads (name ∷ []) ms
    (nested_enums 100 a.name 4 bytes ++ enums_within a.name 5 bytes) old new)
    (append-nil (messages_within 100 a 4 bytes))
    (reads_both (name ∷ []) [] [] (messages_within 100 a 4 bytes ++ []) []
    (nested_enums 100 a.name 4 bytes ++ enums_within a.name 5 bytes) old x new r
    (reads_both [] [] (messages_within 100 a 4 bytes) [] (nested_enums 100 a.name 4 bytes)
    (enums_within a.name 5 bytes) x y new s t)))

pub blames_file_messages : (e : DescriptorError) (a : Surroundings) (index : ℕ) (bytes : List ℕ) → a ≡ file_around index
    bytes → Blames e (messages_within 100 a 4 bytes) (nested_enums 100 a.name 4 bytes) → Blames e (file_messages index
    bytes) (file_enums bytes)
blames_file_messages e a index bytes is h =
    subst (λ (ms : List SaidMessage). Blames e ms (file_enums bytes)) (append-nil (file_messages index bytes))
    (blames_left e (file_messages index bytes) [] (nested_enums 100 (text_in 2 bytes) 4 bytes)
    (enums_within (text_in 2 bytes) 5 bytes)
    (subst (λ (b : Surroundings). Blames e (messages_within 100 b 4 bytes) (nested_enums 100 b.name 4 bytes)) is h))

pub blames_file_enums : (e : DescriptorError) (a : Surroundings) (index : ℕ) (bytes : List ℕ) → a ≡ file_around index
    bytes → Blames e [] (enums_within a.name 5 bytes) → Blames e (file_messages index bytes) (file_enums bytes)
blames_file_enums e a index bytes is h =
    blames_enums e (file_messages index bytes) (nested_enums 100 (text_in 2 bytes) 4 bytes)
    (enums_within (text_in 2 bytes) 5 bytes)
    (subst (λ (b : Surroundings). Blames e [] (enums_within b.name 5 bytes)) is h)

abbrev pub surroundings : ℕ → Bool → (List ℕ → List SaidCode) → List ℕ → List ℕ → Surroundings
surroundings file proto3 codes name path = record {
  file = file;
  is_proto3 = proto3;
  codes = codes;
  name = name;
  path = path;
}

pub around_is : (file file' : ℕ) (proto3 proto3' : Bool) (codes codes' : List ℕ → List SaidCode)
    (name name' path path' : List ℕ) → file ≡ file' → proto3 ≡ proto3' → codes ≡ codes' → name ≡ name' → path ≡ path'
    → surroundings file proto3 codes name path ≡ surroundings file' proto3' codes' name' path'
around_is file file' proto3 proto3' codes codes' name name' path path' f p c n q =
    ap (λ x. surroundings x proto3 codes name path) f ∙ ap (λ x. surroundings file' x codes name path) p
    ∙ ap (λ x. surroundings file' proto3' x name path) c ∙ ap (λ x. surroundings file' proto3' codes' x path) n
    ∙ ap (λ x. surroundings file' proto3' codes' name' x) q

pub reads_name : (name : String Global) (old new : Reading) (said : List ℕ) → string_bytes name ≡ said
    → new.files.items ≡ old.files.items ++ name ∷ [] → new.messages.items ≡ old.messages.items → new.enums.items ≡
    old.enums.items → Reads (said ∷ []) [] [] old new
reads_name name old new said is f m e = record {
  files_read = ap (map string_bytes) f ∙ map-append string_bytes old.files.items (name ∷ [])
      ∙ ap (λ (x : List ℕ). map string_bytes old.files.items ++ x ∷ []) is;
  messages_read = record { added = []; is = m ∙ sym (append-nil old.messages.items); each = tt };
  enums_read = record { added = []; is = e ∙ sym (append-nil old.enums.items); each = tt };
}

-- ---- all files

pub reads_count : (name : List ℕ) (ms : List SaidMessage) (es : List SaidEnum) (old new : Reading)
    → Reads (name ∷ []) ms es old new → length new.files.items ≡ length old.files.items + 1
reads_count name ms es old new r =
    sym (length-map new.files.items string_bytes) ∙ ap length r.files_read
    ∙ length-append (map string_bytes old.files.items) (name ∷ [])
    ∙ ap (λ (n : ℕ). n + 1) (length-map old.files.items string_bytes)

pub files_step : (index next : ℕ) (contents : List (List ℕ)) (content : List ℕ) (rest : List (List ℕ)) → contents ≡
    content ∷ rest → next ≡ index + 1 → files_messages index contents ≡ file_messages index content ++ files_messages
    next rest
files_step index next contents content rest e is_next =
    ap (files_messages index) e ∙ ap (λ (j : ℕ). file_messages index content ++ files_messages j rest) (sym is_next)

pub reads_all : (set : List ℕ) (old new : Reading) → old.files.items ≡ [] → old.messages.items ≡ [] → old.enums.items ≡
    [] → Reads (map (text_in 1) (contents_in 1 set)) (messages_of set) (enums_of set) old new → IsReadingOf set new
reads_all set old new f m e r = record {
  files = r.files_read
      ∙ ap (λ (xs : List (String Global)). map string_bytes xs ++ map (text_in 1) (contents_in 1 set)) f;
  messages = subst (λ (xs : List MessageDescriptor). AllTwo IsMessage (messages_of set) xs)
      (sym (r.messages_read.is ∙ ap (λ (xs : List MessageDescriptor). xs ++ r.messages_read.added) m))
      r.messages_read.each;
  enums = subst (λ (xs : List EnumDescriptor). AllTwo IsEnum (enums_of set) xs)
      (sym (r.enums_read.is ∙ ap (λ (xs : List EnumDescriptor). xs ++ r.enums_read.added) e)) r.enums_read.each;
}
