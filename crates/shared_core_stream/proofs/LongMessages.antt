-- What a message that is longer than a limit says of the limit.
use Rattle.std.proofs.Common.{◌≡◌, ◌<◌, ℕ, Bool, true, false, List, length, Option, Some, nat_lt, refl, sym, ap}
use Rattle.std.proofs.Common.{arith}
use Rattle.std.specs.Option.{option_map_or}
use Rattle.std.proofs.lemmas.Bool.{ltb-true}
use Rattle.shared_core_base.specs.declared.version.Version.{Version}
use Rattle.shared_core_stream.specs.Items.{body_length, front_word}
use Rattle.shared_core_stream.specs.Limits.{too_long_at, too_long_by}
use Rattle.shared_core_stream.specs.declared.encoding.limit_error.MessageTooLong.{MessageTooLong}
use Rattle.shared_core_stream.proofs.LimitedSplits.{body_below}

-- The message has the limit that it is longer than, and no limit that is none has such a message.
record IsOver (limit : ℕ) (message : MessageTooLong) : Type 0 where
  is : message.limit ≡ limit
  below : limit < 4294967295

over_by : (version : Version) (limit offset word : ℕ) (message : MessageTooLong)
    → too_long_by version limit offset word ≡ Some message → IsOver limit message
unfolding too_long_by
over_by version limit offset word message is = by_limit (nat_lt limit (body_length version word)) refl
  where
    by_limit : (past : Bool) → nat_lt limit (body_length version word) ≡ past → IsOver limit message
    by_limit true past = record {
      is = sym (ap (λ (found : Option MessageTooLong). option_map_or (λ (m : MessageTooLong). m.limit) found 0)
          (rw past at is));
      below = omega (arith, ltb-true limit (body_length version word) past, body_below version word);
    }
    by_limit false past = let none = rw past at is in cc

over : (version : Version) (limit offset : ℕ) (bytes : List ℕ) (message : MessageTooLong)
    → too_long_at version limit offset bytes ≡ Some message → IsOver limit message
over version limit offset bytes message is = by_length (nat_lt (length bytes) 8) refl
  where
    by_length : (short : Bool) → nat_lt (length bytes) 8 ≡ short → IsOver limit message
    by_length true short = let none = rw short at is in cc
    by_length false short = over_by version limit offset (front_word bytes) message (rw short at is)

pub limit_is : (version : Version) (limit offset : ℕ) (bytes : List ℕ) (message : MessageTooLong)
    → too_long_at version limit offset bytes ≡ Some message → message.limit ≡ limit
limit_is version limit offset bytes message is = (over version limit offset bytes message is).is

pub limit_below : (version : Version) (limit offset : ℕ) (bytes : List ℕ) (message : MessageTooLong)
    → too_long_at version limit offset bytes ≡ Some message → limit < 4294967295
limit_below version limit offset bytes message is = (over version limit offset bytes message is).below
