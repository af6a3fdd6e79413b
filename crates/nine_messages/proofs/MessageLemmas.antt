-- Each message is read as it was spelled, two messages have two spellings, and no spelling begins another.
use Rattle.std.proofs.Common.{◌≡◌, ℕ, ◌+◌, ◌^◌, ◌<◌, Bool, cond, eqb, List, [], ◌∷◌, ◌++◌, length, take, Option, Some, None, refl, sym, ap, subst, ◌∙◌, arith}
use Rattle.std.specs.Int.{w16, w32, to_le_bytes, from_le_bytes}
use Rattle.std.proofs.lemmas.Bool.{eqb-true, eq-eqb}
use Rattle.std.proofs.lemmas.List.{take_at, append_cancel_left}
use Rattle.std.proofs.lemmas.Nat.{from_le_bytes-to_le_bytes_2, from_le_bytes-to_le_bytes_4}
use Rattle.std.specs.Prelude.{IfSome, IfNone}
use Rattle.nine_messages.specs.declared.request.Message.{Message}
use Rattle.nine_messages.specs.Views.{message_view}
use Rattle.nine_messages.specs.Fields.{◌>>=◌, Reading, Gives, number_at, byte_at}
use Rattle.nine_messages.specs.Codec.{AreBytes, IsCodec}
use Rattle.nine_messages.specs.Requests.{RequestView, request_kind, request_fields, request_of, IsRequest, MessageView, tagged, message, spelling, IsMessage, tagged_at, message_of}
use Rattle.nine_messages.specs.Cutting.{size_of, IsNoMessage}
use Rattle.nine_messages.proofs.ReadingLemmas.{bind_some, by_test, some_is, AreBytes-after}
use Rattle.nine_messages.proofs.FieldLemmas.{byte_field}
use Rattle.nine_messages.proofs.RequestLemmas.{u16_field, u32_field, request_found, request_again}

-- ---- any message

pub length-message : (kind tag : ℕ) (fields : List ℕ) → length (message kind tag fields) ≡ 7 + length fields
length-message kind tag fields = omega arith

-- the size stands in front, whatever follows
pub size_of-message : (kind tag : ℕ) (fields rest : List ℕ) → 7 + length fields < 2 ^ 32 → size_of (message kind tag fields ++ rest) ≡ 7 + length fields
unfolding size_of
size_of-message kind tag fields rest fits = from_le_bytes-to_le_bytes_4 (7 + length fields) fits

-- what is the same in two messages that begin the same bytes
pub record AreSame (kind other_kind tag other_tag : ℕ) (fields other_fields rest others : List ℕ) : Type 0 where
  pub kinds : kind ≡ other_kind
  pub tags : tag ≡ other_tag
  pub fields_are : fields ≡ other_fields
  pub rests : rest ≡ others

-- fronts of one length
fronts : (xs ys rest others : List ℕ) → length xs ≡ length ys → xs ++ rest ≡ ys ++ others → (xs ≡ ys) × (rest ≡ others)
fronts xs ys rest others len e =
    let front : xs ≡ ys = sym (take_at xs rest (length xs) refl) ∙ ap (take (length xs)) e ∙ take_at ys others (length xs) (sym len) in
    (front, append_cancel_left xs rest others (e ∙ ap (λ (f : List ℕ). f ++ others) (sym front)))

pub same_messages : (kind other_kind tag other_tag : ℕ) (fields other_fields rest others : List ℕ) → tag < 2 ^ 16 → other_tag < 2 ^ 16 → 7 + length fields < 2 ^ 32 → 7 + length other_fields < 2 ^ 32
    → message kind tag fields ++ rest ≡ message other_kind other_tag other_fields ++ others → AreSame kind other_kind tag other_tag fields other_fields rest others
same_messages kind other_kind tag other_tag fields other_fields rest others low other_low fits other_fits e =
    let sizes : 7 + length fields ≡ 7 + length other_fields = sym (size_of-message kind tag fields rest fits) ∙ ap size_of e ∙ size_of-message other_kind other_tag other_fields others other_fits in
    let kinds : kind ≡ other_kind = cc in
    let tag_bytes : to_le_bytes w16 tag ≡ to_le_bytes w16 other_tag = cc in
    let tags : tag ≡ other_tag = sym (from_le_bytes-to_le_bytes_2 tag low) ∙ ap (from_le_bytes w16) tag_bytes ∙ from_le_bytes-to_le_bytes_2 other_tag other_low in
    let ends : fields ++ rest ≡ other_fields ++ others = cc in
    let parts = fronts fields other_fields rest others (omega arith) ends in
    record { kinds = kinds; tags = tags; fields_are = parts.0; rests = parts.1 }

-- ---- messages with requests

-- what stands after the size is spelled so
record FoundTagged (bytes : List ℕ) (m : MessageView) : Type 0 where
  tag_fits : m.tag < 2 ^ 16
  request_fits : IsRequest m.request
  bytes_are : bytes ≡ request_kind m.request ∷ (to_le_bytes w16 m.tag ++ request_fields m.request)

-- the parts of what stands after the size
made_tagged : (bytes after_kind fields : List ℕ) (kind tag : ℕ) (request : RequestView) (m : MessageView) → tag < 2 ^ 16 → IsRequest request
    → bytes ≡ kind ∷ after_kind → kind ≡ request_kind request → after_kind ≡ to_le_bytes w16 tag ++ fields → fields ≡ request_fields request
    → ◌≡◌ {A = Option MessageView} (Some (tagged tag request)) (Some m) → FoundTagged bytes m
made_tagged bytes after_kind fields kind tag request m low spelled front kind_is behind fields_are is =
    let found : FoundTagged bytes (tagged tag request) = record {
      tag_fits = low;
      request_fits = spelled;
      bytes_are = front ∙ ap (λ (k : ℕ). k ∷ after_kind) kind_is ∙ ap (λ (r : List ℕ). request_kind request ∷ r) (behind ∙ ap (λ (r : List ℕ). to_le_bytes w16 tag ++ r) fields_are);
    } in
    subst (λ (n : MessageView). FoundTagged bytes n) (some_is (tagged tag request) m is) found

tagged_found : (bytes : List ℕ) (m : MessageView) → AreBytes bytes → tagged_at bytes ≡ Some m → FoundTagged bytes m
unfolding tagged_at
tagged_found bytes m fits e =
    let a = bind_some (byte_at bytes) (λ (kind : ℕ × List ℕ). number_at w16 kind.1 >>= λ tag. request_of kind.0 tag.1 >>= λ request. Some (tagged tag.0 request)) m e in
    let b = bind_some (number_at w16 a.0.1) (λ (tag : ℕ × List ℕ). request_of a.0.0 tag.1 >>= λ request. Some (tagged tag.0 request)) m a.2 in
    let c = bind_some (request_of a.0.0 b.0.1) (λ (request : RequestView). Some (tagged b.0.0 request)) m b.2 in
    let kind = byte_field.found bytes a.0.1 a.0.0 fits a.1 in
    let after_kind : AreBytes a.0.1 = AreBytes-after (a.0.0 ∷ []) a.0.1 (subst AreBytes kind.1 fits) in
    let tag = u16_field.found a.0.1 b.0.1 b.0.0 after_kind b.1 in
    let after_tag : AreBytes b.0.1 = AreBytes-after (to_le_bytes w16 b.0.0) b.0.1 (subst AreBytes tag.1 after_kind) in
    let it = request_found a.0.0 b.0.1 c.0 kind.0 after_tag c.1 in
    made_tagged bytes a.0.1 b.0.1 a.0.0 b.0.0 c.0 m tag.0 it.spelled kind.1 it.kind_is tag.1 it.fields_are c.2

pub message_found : (bytes : List ℕ) (m : MessageView) → AreBytes bytes → message_of bytes ≡ Some m → IsMessage m × (bytes ≡ spelling m)
unfolding message_of
message_found bytes m fits e =
    let a = bind_some (number_at w32 bytes) (λ (size : ℕ × List ℕ). cond (eqb size.0 (length bytes)) (tagged_at size.1) None) m e in
    by_test (eqb a.0.0 (length bytes)) (tagged_at a.0.1) None (Some m) a.2 (λ is found.
    let size = u32_field.found bytes a.0.1 a.0.0 fits a.1 in
    let after_size : AreBytes a.0.1 = AreBytes-after (to_le_bytes w32 a.0.0) a.0.1 (subst AreBytes size.1 fits) in
    let it = tagged_found a.0.1 m after_size found in
    let count : length a.0.1 ≡ 3 + length (request_fields m.request) = ap length it.bytes_are ∙ omega arith in
    let whole : length bytes ≡ 4 + length a.0.1 = ap length size.1 ∙ omega arith in
    let same : a.0.0 ≡ length bytes = eqb-true _ _ is in
    let size_is : a.0.0 ≡ 7 + length (request_fields m.request) = omega arith in
    let spelled : IsMessage m = record { tag_fits = it.tag_fits; request_fits = it.request_fits; size_fits = subst (λ (n : ℕ). n < 2 ^ 32) size_is size.0 } in
    (spelled, size.1 ∙ ap (λ (n : ℕ). to_le_bytes w32 n ++ a.0.1) size_is ∙ ap (λ (r : List ℕ). to_le_bytes w32 (7 + length (request_fields m.request)) ++ r) it.bytes_are)) (λ _ none. absurd cc)

tagged_again : (m : MessageView) → IsMessage m → tagged_at (request_kind m.request ∷ (to_le_bytes w16 m.tag ++ request_fields m.request)) ≡ Some m
unfolding tagged_at
tagged_again m h =
    ap (λ (read : Reading ℕ). read >>= λ tag. request_of (request_kind m.request) tag.1 >>= λ request. Some (tagged tag.0 request)) (u16_field.again m.tag (request_fields m.request) h.tag_fits)
    ∙ ap (λ (read : Option RequestView). read >>= λ request. Some (tagged m.tag request)) (request_again m.request h.request_fits)

pub message_again : (m : MessageView) → IsMessage m → message_of (spelling m) ≡ Some m
unfolding message_of
message_again m h =
    let body : List ℕ = request_kind m.request ∷ (to_le_bytes w16 m.tag ++ request_fields m.request) in
    let size : 7 + length (request_fields m.request) ≡ length (spelling m) = sym (length-message (request_kind m.request) m.tag (request_fields m.request)) in
    ap (λ (read : Reading ℕ). read >>= λ n. cond (eqb n.0 (length (spelling m))) (tagged_at n.1) None) (u32_field.again (7 + length (request_fields m.request)) body h.size_fits)
    ∙ ap (λ (b : Bool). cond b (tagged_at body) None) (eq-eqb _ _ size) ∙ tagged_again m h

pub messages_apart : (m n : MessageView) (rest others : List ℕ) → IsMessage m → IsMessage n → spelling m ++ rest ≡ spelling n ++ others → (m ≡ n) × (rest ≡ others)
messages_apart m n rest others first second e =
    let same = same_messages (request_kind m.request) (request_kind n.request) m.tag n.tag (request_fields m.request) (request_fields n.request) rest others first.tag_fits second.tag_fits first.size_fits second.size_fits e in
    let requests : m.request ≡ n.request =
    some_is m.request n.request (sym (request_again m.request first.request_fits) ∙ ap (λ (kind : ℕ). request_of kind (request_fields m.request)) same.kinds ∙ ap (request_of (request_kind n.request)) same.fields_are ∙ request_again n.request second.request_fits) in
    let with_tag : ℕ → MessageView = λ tag. record { tag = tag; request = m.request } in
    let with_request : RequestView → MessageView = λ request. record { tag = n.tag; request = request } in
    (ap with_tag same.tags ∙ ap with_request requests, same.rests)

pub messages_refused : (bytes : List ℕ) → message_of bytes ≡ None → (m : MessageView) → IsMessage m → bytes ≡ spelling m → ⊥
messages_refused bytes none m spelled e =
    let some : message_of bytes ≡ Some m = ap message_of e ∙ message_again m spelled in
    cc

pub messages_codec : IsCodec IsMessage spelling message_of
messages_codec = record {
  found = λ bytes m fits e. message_found bytes m fits e;
  again = λ m h. message_again m h;
  apart = λ m n rest others first second e. messages_apart m n rest others first second e;
  refused = λ bytes fits none m spelled e. messages_refused bytes none m spelled e;
}

-- what a call of the reader returned
pub record ReadAsSpelled (bytes : List ℕ) (result : Option Message) : Type 0 where
  pub found : IfSome result (λ m. IsMessage (message_view m) × (bytes ≡ spelling (message_view m)))
  pub none : IfNone result (IsNoMessage bytes)

pub read_as_spelled : (bytes : List ℕ) (result : Option Message) → AreBytes bytes → Gives message_view result (message_of bytes) → ReadAsSpelled bytes result
read_as_spelled bytes (Some m) fits e = record { found = message_found bytes (message_view m) fits e; none = tt }
read_as_spelled bytes None fits e = record { found = tt; none = λ m spelled is. messages_refused bytes e m spelled is }
