-- A message whose size is put in when its fields are there.
use Rattle.std.proofs.Common.{◌≡◌, ℕ, ◌+◌, ◌*◌, ◌-◌, ◌^◌, ◌<◌, ◌≤◌, List, [], ◌∷◌, ◌++◌, length, take, drop, refl, sym, ap, ◌∙◌, append_assoc, lit<, Result, Ok, Err, arith}
use Rattle.std.specs.Prelude.{OnOk}
use Rattle.std.specs.List.{flat_map}
use Rattle.std.specs.Int.{w16, w32, to_le_bytes}
use Rattle.std.proofs.lemmas.List.{take_at, drop_at, length-append}
use Rattle.nine_messages.specs.declared.reply.Qid.{Qid}
use Rattle.nine_messages.specs.Requests.{message}
use Rattle.nine_messages.specs.Replies.{ReplyView, rversion, rattach, rflush, rwalk, ropen, rread, rwrite, rclunk, rerror, qid_spelling, reply_fields, IsWritableReply}

-- what follows from a clause on a call that succeeds
pub on_ok : {T E P Q : Type 0} (r : Result T E) → (P → Q) → OnOk r P → OnOk r Q
on_ok (Ok x) f h = f h
on_ok (Err e) f h = tt

-- two parts, or three, one after the other
pub two_added : (old first out a b fields : List ℕ) → first ≡ old ++ a → out ≡ first ++ b → fields ≡ a ++ b → out ≡ old ++ fields
two_added old first out a b fields one last is = last ∙ ap (λ (f : List ℕ). f ++ b) one ∙ append_assoc old a b ∙ ap (λ (r : List ℕ). old ++ r) (sym is)

pub three_added : (old first second out a b c fields : List ℕ) → first ≡ old ++ a → second ≡ first ++ b → out ≡ second ++ c → fields ≡ a ++ (b ++ c) → out ≡ old ++ fields
three_added old first second out a b c fields one other last is =
    two_added old first out a (b ++ c) fields one (last ∙ ap (λ (f : List ℕ). f ++ c) other ∙ append_assoc first b c) is

-- the bytes with the size in front of kind and tag
pub sized : (old fields out : List ℕ) (kind tag start : ℕ) → start ≡ length old → out ≡ old ++ (to_le_bytes w32 0 ++ kind ∷ to_le_bytes w16 tag) ++ fields
    → take start out ++ (to_le_bytes w32 (length out - start) ++ drop (start + 4) out) ≡ old ++ message kind tag fields
sized old fields out kind tag start is made =
    let behind : List ℕ = (to_le_bytes w32 0 ++ kind ∷ to_le_bytes w16 tag) ++ fields in
    let parts : out ≡ old ++ behind = made ∙ append_assoc old (to_le_bytes w32 0 ++ kind ∷ to_le_bytes w16 tag) fields in
    let total : length out ≡ length old + (7 + length fields) = ap length parts ∙ length-append old behind ∙ omega arith in
    let size : length out - start ≡ 7 + length fields = omega arith in
    let front : take start out ≡ old = ap (take start) parts ∙ take_at old behind start (sym is) in
    let again : out ≡ (old ++ to_le_bytes w32 0) ++ (kind ∷ (to_le_bytes w16 tag ++ fields)) = parts ∙ sym (append_assoc old (to_le_bytes w32 0) (kind ∷ (to_le_bytes w16 tag ++ fields))) in
    let end : drop (start + 4) out ≡ kind ∷ (to_le_bytes w16 tag ++ fields) =
    ap (drop (start + 4)) again ∙ drop_at (old ++ to_le_bytes w32 0) (kind ∷ (to_le_bytes w16 tag ++ fields)) (start + 4) (omega (arith, length-append old (to_le_bytes w32 0))) in
    ap (λ (f : List ℕ). f ++ (to_le_bytes w32 (length out - start) ++ drop (start + 4) out)) front
    ∙ ap (λ (n : ℕ). old ++ (to_le_bytes w32 n ++ drop (start + 4) out)) size ∙ ap (λ (r : List ℕ). old ++ (to_le_bytes w32 (7 + length fields) ++ r)) end

-- there is room for the size
pub has_room : (old mid fields out : List ℕ) (kind tag start : ℕ) → start ≡ length old → mid ≡ old ++ (to_le_bytes w32 0 ++ kind ∷ to_le_bytes w16 tag) → out ≡ mid ++ fields
    → (start + 4 ≤ length out) × (length out - start ≡ 7 + length fields)
has_room old mid fields out kind tag start is head made =
    let first : length mid ≡ length old + 7 = ap length head ∙ length-append old (to_le_bytes w32 0 ++ kind ∷ to_le_bytes w16 tag) in
    let total : length out ≡ length mid + length fields = ap length made ∙ length-append mid fields in
    (omega arith, omega arith)

-- ---- how large a reply is

length-qid : (qid : Qid) → length (qid_spelling qid) ≡ 13
unfolding qid_spelling
length-qid qid = refl

length-qids : (qids : List Qid) → length (flat_map qid_spelling qids) ≡ 13 * length qids
length-qids [] = refl
length-qids (qid ∷ qids) =
    let one = length-qid qid in
    let others = length-qids qids in
    let both = length-append (qid_spelling qid) (flat_map qid_spelling qids) in
    both ∙ omega arith

pub reply_size : (r : ReplyView) → IsWritableReply r → 7 + length (reply_fields r) < 2 ^ 32
unfolding reply_fields
reply_size (rversion msize version) h = omega arith
reply_size (rattach qid) h = let size = length-qid qid in omega arith
reply_size rflush h = lit< tt
reply_size (rwalk qids) h = let size = length-qids qids in omega arith
reply_size (ropen qid) h = let size = length-append (qid_spelling qid) (to_le_bytes w32 0) in let one = length-qid qid in omega arith
reply_size (rread bytes) h = omega arith
reply_size (rwrite count) h = lit< tt
reply_size rclunk h = lit< tt
reply_size (rerror ename) h = omega arith
