-- Items at the front of bytes.
use Rattle.std.proofs.Common.{◌≡◌, ℕ, ◌+◌, ◌-◌, ◌<◌, ◌≤◌, List, [], ◌++◌, length, take, drop, sym, ap, ◌∙◌, arith}
use Rattle.std.proofs.Common.{append_assoc, append-nil, length-append, subst}
use Rattle.std.specs.Int.{w64, from_be_bytes}
use Rattle.std.proofs.lemmas.List.{take-append-drop}
use Rattle.shared_core_base.specs.declared.version.Version.{Version}
use Rattle.shared_core_stream.specs.declared.encoding.announced.Announced.{Announced}
use Rattle.shared_core_stream.specs.declared.encoding.item_ref.ItemRef.{ItemRef}
use Rattle.shared_core_stream.specs.Items.{NoItemBegins, TakesItem, body_length, front_word}
use Rattle.shared_core_stream.specs.Borrowed.{Announces, IsAtFront, IsMissing, announced_length, item_with}
use Rattle.shared_core_stream.specs.Borrowed.{kind_announced}
use Rattle.shared_core_stream.proofs.Items.{item_is_long, none_partial, takes_announced}

-- fewer than eight bytes are not an item
pub header_missing : (version : Version) (bytes : List ℕ) → length bytes < 8 → IsMissing version bytes
    (8 - length bytes)
header_missing version bytes short = record {
  counted = grind arith;
  some = omega arith;
  needed = λ more few item rest taken. omega (
    arith,
    item_is_long version (bytes ++ more) rest item taken,
    length-append
        bytes more,
  );
}

-- where bytes are missing no item begins
pub missing_begins_none : (version : Version) (bytes : List ℕ) (missing : ℕ) → IsMissing version bytes missing →
    NoItemBegins version bytes
missing_begins_none version bytes missing are = subst (NoItemBegins version) (append-nil bytes)
    (are.needed [] (omega (arith, are.some)))

module _ (version : Version) (bytes head body : List ℕ) (word : ℕ) (announced : Announced) (front : head ≡ take 8 bytes)
    (after : body ≡ drop 8 bytes) (sized : length body + 8 ≡ length bytes) (reads : word ≡ from_be_bytes w64 head)
    (says : Announces version word announced) where
  joined : bytes ≡ head ++ body
  joined = rw (front, after) (sym (take-append-drop 8 bytes))

  eight : length head ≡ 8
  eight = omega (arith, ap length joined, length-append head body)

  word_is : word ≡ front_word bytes
  unfolding front_word
  word_is = reads ∙ ap (from_be_bytes w64) front

  length_is : announced_length announced ≡ body_length version (front_word bytes)
  length_is = says.length_is ∙ ap (body_length version) word_is

  pub payload_missing : length body < announced_length announced → IsMissing version bytes
      (announced_length announced - length body)
  payload_missing short = record {
    counted = grind (arith, length_is);
    some = omega arith;
    needed = λ more few. none_partial version (bytes ++ more) head (body ++ more) word eight
        (ap (λ l. l ++ more) joined ∙ append_assoc head body more) reads
        announced says (omega (arith, length-append body more));
  }

  pub at_front : (item : ItemRef) (rest : List ℕ) → announced_length announced ≤ length body → item.word ≡ word →
      item.kind ≡ kind_announced announced → item.payload.now ≡ take (announced_length announced) body → rest ≡ drop
      (announced_length announced) body → IsAtFront version bytes item rest
  at_front item rest fits of_word of_kind is_payload is_rest = record {
    word_is = of_word ∙ word_is;
    lies = joined ∙ ap (λ l. l ++ body) front ∙ ap (λ l. take 8 bytes ++ l)
        (rw (is_payload, is_rest) (sym (take-append-drop (announced_length announced) body)));
    taken = subst (λ k. TakesItem version bytes (item_with k item.payload.now) rest) (sym of_kind)
        (takes_announced version bytes head body word eight joined reads announced item.payload.now rest says fits
        is_payload is_rest);
  }
