-- What the members of a line say.
use Rattle.std.proofs.Common.{◌≡◌, ℕ, List, [], ◌++◌, decimal, arith, length, Bool, true, not, Option, Some}
use Rattle.std.proofs.Common.{None, option_map, Result, Ok, refl, ap, ap₂, ◌∙◌}
use Rattle.std.specs.Prelude.{codes, ok_or, option_and_then}
use Rattle.std.specs.Option.{is_none}
use Rattle.json.specs.Json.{Json, boolean, number, string, object, Members, member, no_members}
use Rattle.json_table.specs.Places.{present}
use Rattle.shared_core_json_reader.specs.FirstError.{number_reason}
use Rattle.shared_core_json_reader.specs.Scalars.{unsigned_below}
use Rattle.shared_core_json_reader.proofs.ScalarsBack.{decimal_whole}
use Rattle.dump_lines.specs.Lines.{ack_members}
use Rattle.make_lines.specs.declared.error.LineReason.TheVariants.{Json as Wrong}
use Rattle.make_lines.specs.Errors.{LineFault, at}
use Rattle.make_lines.specs.Making.{Making}
use Rattle.make_lines.specs.Members.{shape_fault, given, given_either}
use Rattle.make_lines.specs.Lines.{then_read, read_map, unless, none_left, bytes_said, bytes_name, ack_name, code_said}
use Rattle.make_lines.specs.Lines.{flag_said, payload_said, header_said, line_code, line_flag, line_payload}
use Rattle.make_lines.specs.Lines.{line_header, framed, item_said, rest_said, said, line_said}

-- what a line has
pub record Says (j : Json) (type code flag header message bytes unknown : Option Json) : Type 0 where
  pub line : shape_fault j ≡ None
  pub rest : given (codes "rest") j ≡ None
  pub has_type : given (codes "type") j ≡ type
  pub has_code : given (codes "code") j ≡ code
  pub has_flag : given_either (codes "requestedAck") (codes "ack") j ≡ flag
  pub has_header : given (codes "header") j ≡ header
  pub has_message : given (codes "message") j ≡ message
  pub has_bytes : given_either (codes "bytes") (codes "payload") j ≡ bytes
  pub has_unknown : given (codes "unknown") j ≡ unknown

then_ok : {A B : Type 0} (f : A → Result B LineFault) (r : Result A LineFault) (x : A) (y : Result B LineFault) → r ≡ Ok
    x → f x ≡ y → then_read f r ≡ y
then_ok f r x y e g = ap (then_read f) e ∙ g

pub item_is : (by : Making) (j : Json) (type code flag header message bytes unknown : Option Json) (c : ℕ)
    (f : Bool) (payload : List ℕ) (head : Result (List ℕ) LineFault) → Says j type code flag header message bytes
    unknown
    → code_said type code ≡ Ok c → flag_said c (ack_name j) flag ≡ Ok f → payload_said by c (bytes_name j) message
    bytes unknown ≡ Ok payload → header_said by.version c f (length payload) (not (is_none unknown)) header ≡ head
    → line_said by j ≡ read_map (λ h. h ++ payload) head
unfolding line_said item_said
item_is by j type code flag header message bytes unknown c f payload head s at_code at_flag at_payload at_header =
    let one : line_code j ≡ Ok c = ap₂ code_said s.has_type s.has_code ∙ at_code in
    let two : line_flag c j ≡ Ok f = ap (flag_said c (ack_name j)) s.has_flag ∙ at_flag in
    let three : line_payload by c j ≡ Ok payload =
    ap (λ (m : Option Json). payload_said by c (bytes_name j) m (given_either (codes "bytes") (codes "payload") j)
    (given (codes "unknown") j)) s.has_message
    ∙ ap₂ (λ (b u : Option Json). payload_said by c (bytes_name j) message b u) s.has_bytes s.has_unknown ∙
    at_payload in
    let four : line_header by.version c f (length payload) j ≡ head =
    ap₂ (λ (u h : Option Json). header_said by.version c f (length payload) (not (is_none u)) h) s.has_unknown
    s.has_header
    ∙ at_header in
    let result = read_map (λ (h : List ℕ). h ++ payload) head in
    let framed_is : framed by.version c f j payload ≡ result = ap (read_map (λ (h : List ℕ). h ++ payload)) four in
    ap (λ (o : Option LineFault). unless o (said by (given (codes "rest") j) j)) s.line
    ∙ ap (λ (r : Option Json). said by r j) s.rest
    ∙ then_ok (λ code. then_read (λ flag. then_read (framed by.version code flag j) (line_payload by code j))
    (line_flag code j)) (line_code j) c result one
    (then_ok (λ flag. then_read (framed by.version c flag j) (line_payload by c j)) (line_flag c j) f result two
    (then_ok (framed by.version c f j) (line_payload by c j) payload result three framed_is))

-- ---- the lines of a dump

-- a member that may be absent
abbrev pub header_if : Option (List ℕ) → Members → Members
header_if None others = others
header_if (Some h) others = member (codes "header") (string h) others

-- the line of a message
abbrev pub message_line : List ℕ → List ℕ → List ℕ → List ℕ → Option Bool → Option (List ℕ) → Members → Json
message_line at name code len flag header others =
    object (member (codes "offset") (number at) (member (codes "type") (string name)
    (member (codes "code") (number code) (member (codes "length") (number len)
    (ack_members flag (header_if header others))))))

module _ (at name code len : List ℕ) where
  pub says_message : (flag : Option Bool) (header : Option (List ℕ)) (ms : Members)
      → Says (message_line at name code len flag header (member (codes "message") (object ms) no_members))
      (Some (string name)) (Some (number code)) (option_map boolean flag) (option_map string header)
      (Some (object ms)) None None
  unfolding shape_fault
  says_message None None ms = record {
    line = refl;
    rest = refl;
    has_type = refl;
    has_code = refl;
    has_flag = refl;
    has_header = refl;
    has_message = refl;
    has_bytes = refl;
    has_unknown = refl;
  }
  says_message None (Some h) ms = record {
    line = refl;
    rest = refl;
    has_type = refl;
    has_code = refl;
    has_flag = refl;
    has_header = refl;
    has_message = refl;
    has_bytes = refl;
    has_unknown = refl;
  }
  says_message (Some f) None ms = record {
    line = refl;
    rest = refl;
    has_type = refl;
    has_code = refl;
    has_flag = refl;
    has_header = refl;
    has_message = refl;
    has_bytes = refl;
    has_unknown = refl;
  }
  says_message (Some f) (Some h) ms = record {
    line = refl;
    rest = refl;
    has_type = refl;
    has_code = refl;
    has_flag =
        refl;
    has_header = refl;
    has_message = refl;
    has_bytes = refl;
    has_unknown = refl;
  }

  pub says_bytes : (flag : Option Bool) (header : Option (List ℕ)) (b : Json) → present b ≡ Some b
      → Says (message_line at name code len flag header (member (codes "bytes") b no_members)) (Some (string name))
      (Some (number code)) (option_map boolean flag) (option_map string header) None (Some b) None
  unfolding shape_fault
  says_bytes None None b there = record {
    line = rw there refl;
    rest = refl;
    has_type = refl;
    has_code = refl;
    has_flag
        = refl;
    has_header = refl;
    has_message = refl;
    has_bytes = rw there refl;
    has_unknown = refl;
  }
  says_bytes None (Some h) b there = record {
    line = rw there refl;
    rest = refl;
    has_type = refl;
    has_code = refl;
    has_flag = refl;
    has_header = refl;
    has_message = refl;
    has_bytes = rw there refl;
    has_unknown = refl;
  }
  says_bytes (Some f) None b there = record {
    line = rw there refl;
    rest = refl;
    has_type = refl;
    has_code = refl;
    has_flag = refl;
    has_header = refl;
    has_message = refl;
    has_bytes = rw there refl;
    has_unknown = refl;
  }
  says_bytes (Some f) (Some h) b there = record {
    line = rw there refl;
    rest = refl;
    has_type = refl;
    has_code = refl;
    has_flag = refl;
    has_header = refl;
    has_message = refl;
    has_bytes = rw there refl;
    has_unknown = refl;
  }

  pub says_malformed : (flag : Option Bool) (header : Option (List ℕ)) (b : Json) → present b ≡ Some b
      → Says (message_line at name code len flag header (member (codes "malformed") (boolean true)
      (member (codes "bytes") b no_members))) (Some (string name)) (Some (number code)) (option_map boolean flag)
      (option_map string header) None (Some b) None
  unfolding shape_fault
  says_malformed None None b there = record {
    line = rw there refl;
    rest = refl;
    has_type = refl;
    has_code = refl;
    has_flag = refl;
    has_header = refl;
    has_message = refl;
    has_bytes = rw there refl;
    has_unknown = refl;
  }
  says_malformed None (Some h) b there = record {
    line = rw there refl;
    rest = refl;
    has_type = refl;
    has_code = refl;
    has_flag = refl;
    has_header = refl;
    has_message = refl;
    has_bytes = rw there refl;
    has_unknown = refl;
  }
  says_malformed (Some f) None b there = record {
    line = rw there refl;
    rest = refl;
    has_type = refl;
    has_code = refl;
    has_flag = refl;
    has_header = refl;
    has_message = refl;
    has_bytes = rw there refl;
    has_unknown = refl;
  }
  says_malformed (Some f) (Some h) b there = record {
    line = rw there refl;
    rest = refl;
    has_type = refl;
    has_code =
        refl;
    has_flag = refl;
    has_header = refl;
    has_message = refl;
    has_bytes = rw there refl;
    has_unknown = refl;
  }

-- the line of an unknown code
abbrev pub unknown_line : List ℕ → List ℕ → Option (List ℕ) → Json
unknown_line at code header =
    object (member (codes "offset") (number at) (member (codes "unknown") (boolean true)
    (member (codes "code") (number code) (header_if header no_members))))

pub says_unknown : (at code : List ℕ) (header : Option (List ℕ)) → Says (unknown_line at code header) None
    (Some (number code)) None (option_map string header) None None (Some (boolean true))
unfolding shape_fault
says_unknown at code None = record {
  line = refl;
  rest = refl;
  has_type = refl;
  has_code = refl;
  has_flag = refl;
  has_header = refl;
  has_message = refl;
  has_bytes = refl;
  has_unknown = refl;
}
says_unknown at code (Some h) = record {
  line = refl;
  rest = refl;
  has_type = refl;
  has_code = refl;
  has_flag = refl;
  has_header = refl;
  has_message = refl;
  has_bytes = refl;
  has_unknown = refl;
}

-- the line of a skipped message
abbrev pub skipped_line : List ℕ → List ℕ → List ℕ → Option (List ℕ) → Json → Json
skipped_line at code len header b =
    object (member (codes "offset") (number at) (member (codes "skipped") (boolean true)
    (member (codes "code") (number code) (member (codes "length") (number len)
    (header_if header (member (codes "bytes") b no_members))))))

pub says_skipped : (at code len : List ℕ) (header : Option (List ℕ)) (b : Json) → present b ≡ Some b → Says
    (skipped_line at code len header b) None (Some (number code)) None (option_map string header) None (Some b) None
unfolding shape_fault
says_skipped at code len None b there = record {
  line = rw there refl;
  rest = refl;
  has_type = refl;
  has_code = refl;
  has_flag = refl;
  has_header = refl;
  has_message = refl;
  has_bytes = rw there refl;
  has_unknown = refl;
}
says_skipped at code len (Some h) b there = record {
  line = rw there refl;
  rest = refl;
  has_type = refl;
  has_code =
      refl;
  has_flag = refl;
  has_header = refl;
  has_message = refl;
  has_bytes = rw there refl;
  has_unknown = refl;
}

-- the line of the trailing bytes, without them if there are none
abbrev pub rest_line : List ℕ → List ℕ → Option Json → Json
rest_line at len None = object (member (codes "offset") (number at) (member (codes "rest") (number len) no_members))
rest_line at len (Some b) = object (member (codes "offset") (number at)
    (member (codes "rest") (number len) (member (codes "bytes") b no_members)))

pub rest_is : (by : Making) (at len : List ℕ) (b : Json) → present b ≡ Some b → line_said by
    (rest_line at len (Some b)) ≡ bytes_said (codes "bytes") b
unfolding line_said rest_said shape_fault
rest_is by at len b there = rw there refl

-- the fault of the number of trailing bytes
abbrev left_fault : List ℕ → LineFault
left_fault len = at (codes "rest") (Wrong (number_reason (number len)))

pub no_rest_is : (by : Making) (at : List ℕ) → line_said by (rest_line at (decimal 0) None) ≡ Ok []
unfolding line_said rest_said shape_fault
no_rest_is by at = ap (λ (o : Option ℕ). then_read none_left (ok_or o (left_fault (decimal 0))))
    (ap (option_and_then (unsigned_below 18446744073709551616)) (decimal_whole 0 (omega arith)))
