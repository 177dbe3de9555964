-- What is found after one more comment.
use Rattle.std.proofs.Common.{◌≡◌, ◌<◌, ◌-◌, ◌%◌, ◌++◌, ◌∙◌, ℕ, zero, suc, Bool, true, false, List, [], ◌∷◌}
use Rattle.std.proofs.Common.{ap, append_assoc, arith, length, refl, sym, Ordering}
use Rattle.std.proofs.lemmas.Map.Text.{is_eq-slice_cmp}
use Rattle.std.proofs.lemmas.Slice.Eq.{bytes_eq-Decides}
use Rattle.std.specs.Prelude.{◌&&◌, ◌==◌, cond, not, if◌then◌else◌, is_some, Option, Some, None, Vec}
use Rattle.std.specs.BTreeMap.{BTreeMap, get_by, is_at}
use Rattle.std.specs.Cmp.Lexicographic.{slice_cmp}
use Rattle.std.specs.Global.{Global}
use Rattle.std.specs.Option.{option_map, option_or}
use Rattle.std.specs.Ordering.{nat_cmp}
use Rattle.std.specs.Str.{bytes_eq}
use Rattle.shared_core_wire.specs.Reader.{varint_at}
use Rattle.descriptor_set.specs.declared.comments.Comment.{Comment}
use Rattle.descriptor_set.specs.Comments.{numbers_past, own_codes, path_in, Said, said_at, said_by, said_here, said_in}

pub past_more : (most : ℕ) (found : ℕ × List ℕ) → 0 < most →
    numbers_past most (Some found) ≡ found.0 % 4294967296 ∷ numbers_past (most - 1) (varint_at found.1)
past_more zero found h = absurd (omega arith)
past_more (suc most) found h = let e : suc most - 1 ≡ most = omega arith in rw e refl

-- What is left to append once a number is.
pub pushed : (new old : List ℕ) (low most number : ℕ) (after : List ℕ) (read : Option (ℕ × List ℕ)) (all : List ℕ) →
    0 < most → new ≡ old ++ low ∷ [] → low ≡ number % 4294967296 → read ≡ Some (number, after) →
    old ++ numbers_past most read ≡ all → new ++ numbers_past (most - 1) (varint_at after) ≡ all
pushed new old low most number after read all some n low_is read_is before =
    let e : numbers_past most read ≡ low ∷ numbers_past (most - 1) (varint_at after) =
    rw read_is (past_more most (number, after) some ∙
    ap (λ (x : ℕ). x ∷ numbers_past (most - 1) (varint_at after)) (sym low_is)) in
    rw n (append_assoc old (low ∷ []) (numbers_past (most - 1) (varint_at after)) ∙
    ap (λ (xs : List ℕ). old ++ xs) (sym e) ∙ before)

pub or_more : (x y z : Option Said) → option_or (option_or x y) z ≡ option_or x (option_or y z)
or_more None y z = refl
or_more (Some said) y z = refl

pub or_none : (x : Option Said) → option_or x None ≡ x
or_none None = refl
or_none (Some said) = refl

pub said_at_more : (path : List ℕ) (xs ys : List (List ℕ)) →
    said_at path (xs ++ ys) ≡ option_or (said_at path xs) (said_at path ys)
said_at_more path [] ys = refl
said_at_more path (x ∷ xs) ys =
    ap (λ (rest : Option Said). option_or (said_here path x) rest) (said_at_more path xs ys) ∙
    sym (or_more (said_here path x) (said_at path xs) (said_at path ys))

-- What is found at a path once a comment is kept that says something, at this path or at another one.
pub kept : (old new : Option Said) (said : Said) (same says : Bool) → new ≡ (if same then Some said else old) →
    (same ≡ true → old ≡ None) → says ≡ true → new ≡ option_or old (if same && says then Some said else None)
kept old new said true says n first s = rw (first refl) (rw s n)
kept old new said false says n first s = n ∙ sym (or_none old)

mapped : (same : Bool) (comment : Comment) (said : Said) (old : Option Comment) → said_by comment ≡ said →
    option_map said_by (cond same (Some comment) old) ≡ (if same then Some said else option_map said_by old)
mapped true comment said old e = ap (λ (s : Said). Some s) e
mapped false comment said old e = refl

none_of : (found : Option Comment) → is_some found ≡ false → found ≡ None
none_of None h = refl
none_of (Some comment) h = cc

-- How the keys of comments are compared with a path.
abbrev with_path : List ℕ → Vec ℕ Global → Ordering
with_path path key = slice_cmp nat_cmp path key.items

pub kept_at : (m n : BTreeMap (Vec ℕ Global) Comment) (key path : Vec ℕ Global) (comment : Comment)
    (location : List ℕ) →
    get_by (with_path path.items) n ≡
    cond (is_at (with_path key.items) path) (Some comment) (get_by (with_path path.items) m) →
    is_some (get_by (with_path key.items) m) ≡ false → key.items ≡ path_in location →
    said_by comment ≡ said_in location → (length (own_codes (said_by comment)) == 0) ≡ false →
    option_map said_by (get_by (with_path path.items) n) ≡
    option_or (option_map said_by (get_by (with_path path.items) m)) (said_here path.items location)
kept_at m n key path comment location after absent of_path says some =
    let same = bytes_eq (path_in location) path.items in
    let old = option_map said_by (get_by (with_path path.items) m) in
    let is_same : is_at (with_path key.items) path ≡ same = is_eq-slice_cmp key.items path.items ∙
    ap (λ (xs : List ℕ). bytes_eq xs path.items) of_path in
    let new : option_map said_by (get_by (with_path path.items) n) ≡ (if same then Some (said_in location) else old) =
    ap (λ (found : Option Comment). option_map said_by found) (after ∙
    ap (λ (b : Bool). cond b (Some comment) (get_by (with_path path.items) m)) is_same) ∙
    mapped same comment (said_in location) (get_by (with_path path.items) m) says in
    let first : same ≡ true → old ≡ None = λ e.
    let to_key : path.items ≡ key.items = sym (of_path ∙ (bytes_eq-Decides (path_in location) path.items).0 e) in
    ap (λ (xs : List ℕ). option_map said_by (get_by (with_path xs) m)) to_key ∙
    ap (λ (found : Option Comment). option_map said_by found)
    (none_of (get_by (with_path key.items) m) absent) in
    let any : not (length (own_codes (said_in location)) == 0) ≡ true =
    ap (λ (s : Said). not (length (own_codes s) == 0)) (sym says) ∙ ap (λ (b : Bool). not b) some in
    kept old (option_map said_by (get_by (with_path path.items) n)) (said_in location) same
    (not (length (own_codes (said_in location)) == 0)) new first any
