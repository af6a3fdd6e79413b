-- The message that is cut off the front of what came.
use Rattle.std.proofs.Common.{◌≡◌, ◌∙◌, ◌≤◌, ◌+◌, ◌-◌, ℕ, Bool, true, false, cond, nat_lt, min, List, ◌++◌, length, drop, sym, ap, subst, arith, length-append}
use Rattle.std.specs.Int.{w32, w64, to_le_bytes}
use Rattle.std.proofs.lemmas.List.{drop_at}
use Rattle.nine_messages.specs.Fields.{counted}
use Rattle.nine_messages.specs.Requests.{RequestView, tversion, tattach, tflush, twalk, topen, tread, twrite, tclunk, tother, request_kind, request_fields, MessageView, spelling}
use Rattle.nine_messages.specs.Cutting.{IsNext, agreed_after}
use Rattle.nine_messages.proofs.CuttingLemmas.{next_facts}
use Rattle.nine_messages.proofs.MessageLemmas.{length-message}
use Rattle.nine_front.specs.Asking.{bytes_of}

-- ---- sizes

few_by : (low : Bool) (agreed msize : ℕ) → agreed ≤ 65536 → cond low agreed (min msize 65536) ≤ 65536
few_by true agreed msize few = few
few_by false agreed msize few = omega arith

-- no larger message is agreed on
pub agreed_few : (agreed : ℕ) (m : RequestView) → agreed ≤ 65536 → agreed_after agreed m ≤ 65536
agreed_few agreed (tversion msize version) few = few_by (nat_lt msize 512) agreed msize few
agreed_few agreed (tattach fid afid uname aname) few = few
agreed_few agreed (tflush oldtag) few = few
agreed_few agreed (twalk fid newfid names) few = few
agreed_few agreed (topen fid mode) few = few
agreed_few agreed (tread fid offset count) few = few
agreed_few agreed (twrite fid offset bytes) few = few
agreed_few agreed (tclunk fid) few = few
agreed_few agreed (tother kind body) few = few

pub agreed_then : (agreed before : ℕ) (m : RequestView) → agreed ≡ agreed_after before m → before ≤ 65536 → agreed ≤ 65536
agreed_then agreed before m is few = subst (λ (n : ℕ). n ≤ 65536) (sym is) (agreed_few before m few)

-- ---- the bytes that a message writes

written_within : (fid offset : ℕ) (bytes : List ℕ) → length bytes ≤ length (request_fields (twrite fid offset bytes))
unfolding request_fields
written_within fid offset bytes =
    omega (arith, length-append (to_le_bytes w32 fid) (to_le_bytes w64 offset ++ counted w32 bytes), length-append (to_le_bytes w64 offset) (counted w32 bytes), length-append (to_le_bytes w32 (length bytes)) bytes)

bytes_within : (m : RequestView) → length (bytes_of m) ≤ length (request_fields m)
bytes_within (tversion msize version) = omega arith
bytes_within (tattach fid afid uname aname) = omega arith
bytes_within (tflush oldtag) = omega arith
bytes_within (twalk fid newfid names) = omega arith
bytes_within (topen fid mode) = omega arith
bytes_within (tread fid offset count) = omega arith
bytes_within (twrite fid offset bytes) = written_within fid offset bytes
bytes_within (tclunk fid) = omega arith
bytes_within (tother kind body) = omega arith

fewer_than : (bytes fields whole agreed : ℕ) → bytes ≤ fields → whole ≡ 7 + fields → whole ≤ agreed → agreed ≤ 65536 → bytes ≤ 65536
fewer_than bytes fields whole agreed within is most few = omega arith

pub bytes_few : (agreed : ℕ) (left rest : List ℕ) (m : MessageView) → IsNext agreed left m rest → agreed ≤ 65536 → length (bytes_of m.request) ≤ 65536
bytes_few agreed left rest m next few =
    fewer_than (length (bytes_of m.request)) (length (request_fields m.request)) (length (spelling m)) agreed
    (bytes_within m.request) (length-message (request_kind m.request) m.tag (request_fields m.request)) next.within few

-- ---- what is left

counted_off : (all whole rest count : ℕ) → all ≡ whole + rest → count ≡ all - rest → count ≡ whole
counted_off all whole rest count together is = omega arith

pub left_after : (agreed : ℕ) (left rest : List ℕ) (m : MessageView) (count : ℕ) → IsNext agreed left m rest → count ≡ length left - length rest → drop count left ≡ rest
left_after agreed left rest m count next is =
    let facts = next_facts agreed left rest m next in
    let whole = counted_off (length left) (length (spelling m)) (length rest) count facts.together is in
    ap (drop count) next.parts ∙ drop_at (spelling m) rest count (sym whole)

-- the bytes of the message are there, and fewer are left
within_all : (all whole rest count : ℕ) → all ≡ whole + rest → count ≡ all - rest → count ≤ all
within_all all whole rest count together is = omega arith

pub count_within : (agreed : ℕ) (left rest : List ℕ) (m : MessageView) (count : ℕ) → IsNext agreed left m rest → count ≡ length left - length rest → count ≤ length left
count_within agreed left rest m count next is = within_all (length left) (length (spelling m)) (length rest) count (next_facts agreed left rest m next).together is
