-- Two replies have two spellings, and no spelling begins another: a client can read them.
use Rattle.std.proofs.Common.{◌≡◌, ℕ, ◌^◌, ◌<◌, cond, eqb, lit<, List, [], ◌∷◌, ◌++◌, Option, Some, refl, sym, ap, subst, ◌∙◌}
use Rattle.std.specs.Int.{w32, w64, to_le_bytes}
use Rattle.nine_messages.specs.declared.reply.Qid.{Qid}
use Rattle.nine_messages.specs.Fields.{◌>>=◌, Reading, number_at, byte_at, counted, counted_at, text, text_at, both_at, listed, listed_at, filled}
use Rattle.nine_messages.specs.Codec.{AreBytes}
use Rattle.nine_messages.specs.Replies.{ReplyView, rversion, rattach, rflush, rwalk, ropen, rread, rwrite, rclunk, rerror, reply_kind, qid_spelling, reply_fields, reply_spelling, IsQid, IsReply, IsTaggedReply}
use Rattle.nine_messages.proofs.ReadingLemmas.{bind_some, some_is, some_parts}
use Rattle.nine_messages.proofs.FieldLemmas.{IsField, AreBoth, both, AreListed, byte_field, both_field, listed_field}
use Rattle.nine_messages.proofs.RequestLemmas.{filling_again, IsU32, IsU64, IsShort, IsData, u32_field, u64_field, text_field, data_field, version_field}
use Rattle.nine_messages.proofs.MessageLemmas.{same_messages}

-- ---- qids

abbrev IsByte : ℕ → Type 0
IsByte n = n < 2 ^ 8

abbrev parts_of : Qid → ℕ × (ℕ × ℕ)
parts_of qid = (qid.kind, (qid.version, qid.path))

abbrev qid_of : ℕ × (ℕ × ℕ) → Qid
qid_of parts = record { kind = parts.0; version = parts.1.0; path = parts.1.1 }

abbrev parts_at : List ℕ → Reading (ℕ × (ℕ × ℕ))
parts_at bytes = both_at byte_at (both_at (number_at w32) (number_at w64)) bytes

place_field : IsField (AreBoth IsU32 IsU64) (both (to_le_bytes w32) (to_le_bytes w64)) (both_at (number_at w32) (number_at w64))
place_field = both_field IsU32 IsU64 (to_le_bytes w32) (to_le_bytes w64) (number_at w32) (number_at w64) u32_field u64_field

parts_field : IsField (AreBoth IsByte (AreBoth IsU32 IsU64)) (both (λ n. n ∷ []) (both (to_le_bytes w32) (to_le_bytes w64))) parts_at
parts_field = both_field IsByte (AreBoth IsU32 IsU64) (λ n. n ∷ []) (both (to_le_bytes w32) (to_le_bytes w64)) byte_at (both_at (number_at w32) (number_at w64)) byte_field place_field

abbrev qid_at : List ℕ → Reading Qid
qid_at bytes = parts_at bytes >>= λ parts. Some (qid_of parts.0, parts.1)

qid_found : (bytes rest : List ℕ) (qid : Qid) → AreBytes bytes → qid_at bytes ≡ Some (qid, rest) → IsQid qid × (bytes ≡ qid_spelling qid ++ rest)
unfolding qid_spelling
qid_found bytes rest qid fits e =
    let a = bind_some (parts_at bytes) (λ (parts : (ℕ × (ℕ × ℕ)) × List ℕ). Some (qid_of parts.0, parts.1)) (qid, rest) e in
    let it = parts_field.found bytes a.0.1 a.0.0 fits a.1 in
    let same = some_parts (qid_of a.0.0) qid a.0.1 rest a.2 in
    subst (λ (r : List ℕ). IsQid qid × (bytes ≡ qid_spelling qid ++ r)) same.1
    (subst (λ (q : Qid). IsQid q × (bytes ≡ qid_spelling q ++ a.0.1)) same.0 it)

qid_again : (qid : Qid) (rest : List ℕ) → IsQid qid → qid_at (qid_spelling qid ++ rest) ≡ Some (qid, rest)
unfolding qid_spelling
qid_again qid rest h = ap (λ (read : Reading (ℕ × (ℕ × ℕ))). read >>= λ parts. Some (qid_of parts.0, parts.1)) (parts_field.again (parts_of qid) rest h)

qid_field : IsField IsQid qid_spelling qid_at
qid_field = record {
  found = λ bytes rest qid fits e. qid_found bytes rest qid fits e;
  again = λ qid rest h. qid_again qid rest h;
}

open_field : IsField (AreBoth IsQid IsU32) (both qid_spelling (to_le_bytes w32)) (both_at qid_at (number_at w32))
open_field = both_field IsQid IsU32 qid_spelling (to_le_bytes w32) qid_at (number_at w32) qid_field u32_field

qids_field : IsField (AreListed IsQid) (listed qid_spelling) (listed_at qid_at)
qids_field = listed_field IsQid qid_spelling qid_at qid_field

-- ---- replies

-- the reply of a kind whose fields fill the bytes
unfoldable reply_of : ℕ → List ℕ → Option ReplyView
reply_of kind fields =
    cond (eqb kind 101) (filled (λ t. rversion t.0 t.1) (both_at (number_at w32) text_at fields))
    (cond (eqb kind 105) (filled (λ t. rattach t) (qid_at fields))
    (cond (eqb kind 109) (Some rflush)
    (cond (eqb kind 111) (filled (λ t. rwalk t) (listed_at qid_at fields))
    (cond (eqb kind 113) (filled (λ t. ropen t.0) (both_at qid_at (number_at w32) fields))
    (cond (eqb kind 117) (filled (λ t. rread t) (counted_at w32 fields))
    (cond (eqb kind 119) (filled (λ t. rwrite t) (number_at w32 fields))
    (cond (eqb kind 121) (Some rclunk)
    (filled (λ t. rerror t) (text_at fields)))))))))

reply_again : (r : ReplyView) → IsReply r → reply_of (reply_kind r) (reply_fields r) ≡ Some r
unfolding reply_of reply_fields
reply_again (rversion msize version) h = filling_again (AreBoth IsU32 IsShort) (both (to_le_bytes w32) text) (both_at (number_at w32) text_at) (λ t. rversion t.0 t.1) version_field (msize, version) h
reply_again (rattach qid) h = filling_again IsQid qid_spelling qid_at (λ t. rattach t) qid_field qid h
reply_again rflush h = refl
reply_again (rwalk qids) h = filling_again (AreListed IsQid) (listed qid_spelling) (listed_at qid_at) (λ t. rwalk t) qids_field qids h
reply_again (ropen qid) h = filling_again (AreBoth IsQid IsU32) (both qid_spelling (to_le_bytes w32)) (both_at qid_at (number_at w32)) (λ t. ropen t.0) open_field (qid, 0) (h, lit< tt)
reply_again (rread bytes) h = filling_again IsData (counted w32) (counted_at w32) (λ t. rread t) data_field bytes h
reply_again (rwrite count) h = filling_again IsU32 (to_le_bytes w32) (number_at w32) (λ t. rwrite t) u32_field count h
reply_again rclunk h = refl
reply_again (rerror ename) h = filling_again IsShort text text_at (λ t. rerror t) text_field ename h

pub replies_apart : (tag other_tag : ℕ) (r s : ReplyView) (rest others : List ℕ) → IsTaggedReply tag r → IsTaggedReply other_tag s → reply_spelling tag r ++ rest ≡ reply_spelling other_tag s ++ others
    → (tag ≡ other_tag) × (r ≡ s) × (rest ≡ others)
replies_apart tag other_tag r s rest others first second e =
    let same = same_messages (reply_kind r) (reply_kind s) tag other_tag (reply_fields r) (reply_fields s) rest others first.tag_fits second.tag_fits first.size_fits second.size_fits e in
    let replies : r ≡ s =
    some_is r s (sym (reply_again r first.reply_fits) ∙ ap (λ (kind : ℕ). reply_of kind (reply_fields r)) same.kinds ∙ ap (reply_of (reply_kind s)) same.fields_are ∙ reply_again s second.reply_fits) in
    (same.tags, replies, same.rests)
