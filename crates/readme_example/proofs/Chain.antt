-- A new decoder to which one frame was pushed returns what was written.
use Rattle.std.proofs.Common.{◌≡◌, ◌≤◌, ℕ, List, [], ◌++◌, Option, Result, ◌∙◌, ap, append-nil, refl, subst, sym}
use Rattle.shared_core.specs.base_types.header.MessageType.{MessageType}
use Rattle.shared_core.specs.base_types.version.Version.{Version}
use Rattle.shared_core.specs.Canonical.{levels}
use Rattle.shared_core.specs.Frames.{WireForm}
use Rattle.shared_core.specs.declared.encoding.error.DecodingError.{DecodingError}
use Rattle.shared_core.specs.stream_types.encoding.raw_message.RawMessage.{RawMessage}
use Rattle.shared_core.specs.Decoded.{ReturnsWritten}
use Rattle.shared_core.specs.Items.{ReturnsNext}
use Rattle.shared_core.specs.Unread.{IsUnlimited, Unread, fresh}

-- a decoder whose pending bytes begin with the frame returns what was written, whatever follows the frame
abbrev pub ComesOut : Version → MessageType → WireForm → List ℕ → Type 0
ComesOut version ty form frame = levels form.parts ≤ 100
    → (rest new : List ℕ) (returned : Result (Option RawMessage) DecodingError)
    → ReturnsNext version (frame ++ rest) returned new → ReturnsWritten ty form (frame ++ rest) returned rest new

-- so does a decoder that holds only the frame
pub alone : (ty : MessageType) (form : Version → WireForm) (frame : List ℕ) (spoken version : Version)
    → spoken ≡ version → levels (form version).parts ≤ 100 → ComesOut spoken ty (form spoken) frame
    → (empty : Unread) → empty ≡ fresh version 4294967295 → (held : Unread)
    → held ≡ record empty { bytes = empty.bytes ++ frame }
    → (returned : Result (Option RawMessage) DecodingError) (new : List ℕ)
    → (IsUnlimited held → ReturnsNext held.version held.bytes returned new)
    → ReturnsWritten ty (form version) (frame ++ []) returned [] new
alone ty form frame spoken version same low comes empty new_decoder held pushed returned new next =
    let out : ComesOut version ty (form version) frame =
    subst (λ (v : Version). ComesOut v ty (form v) frame) same comes in
    let is : held ≡ record (fresh version 4294967295) { bytes = frame } =
    pushed ∙ ap (λ (f : Unread). record f { bytes = f.bytes ++ frame }) new_decoder in
    let unlimited : IsUnlimited held = subst IsUnlimited (sym is) (refl, refl) in
    out low [] new returned (subst (λ (bytes : List ℕ). ReturnsNext version bytes returned new) (sym (append-nil frame))
    (subst (λ (h : Unread). ReturnsNext h.version h.bytes returned new) is (next unlimited)))
