use Rattle.std.proofs.Common.{ap}
use Rattle.std.specs.Int.{w32, w64, to_le_bytes}
use Rattle.nine_messages.specs.declared.request.Request.{Request}
use Rattle.nine_messages.specs.Fields.{counted}
use Rattle.nine_messages.specs.Requests.{request_fields}
use Rattle.nine_messages.specs.Views.{request_view}
use Rattle.nine_messages.proofs.WritingLemmas.{on_ok, three_added}
use Rattle.nine_messages.proofs.request_writing.add_fields.Goals as goal

pub returns-in_ok-put_u64-in-Read-clause-ok : goal.returns-in_ok-put_u64-in-Read-clause-ok
unfolding request_fields
returns-in_ok-put_u64-in-Read-clause-ok c =
    on_ok c.put_u32-in-Read-2.result (λ last. three_added c.args.out.now c.put_u32-in-Read.new.out c.put_u64.new.out c.put_u32-in-Read-2.new.out
    (to_le_bytes w32 c.in-Read.fid) (to_le_bytes w64 c.in-Read.offset) (to_le_bytes w32 c.in-Read.count) (request_fields (request_view c.args.request.now))
    c.in_ok-put_u32-in-Read.ensures.ok c.in_ok-put_u64-in-Read.ensures.ok last (ap (λ (r : Request). request_fields (request_view r)) c.in-Read.is)) c.put_u32-in-Read-2.ensures.ok

pub returns-in_ok-put_u64-in-Write-clause-ok : goal.returns-in_ok-put_u64-in-Write-clause-ok
unfolding request_fields
returns-in_ok-put_u64-in-Write-clause-ok c =
    on_ok c.add_data.result (λ last. three_added c.args.out.now c.put_u32-in-Write.new.out c.put_u64-in-Write.new.out c.add_data.new.out
    (to_le_bytes w32 c.in-Write.fid) (to_le_bytes w64 c.in-Write.offset) (counted w32 c.in-Write.bytes.now) (request_fields (request_view c.args.request.now))
    c.in_ok-put_u32-in-Write.ensures.ok c.in_ok-put_u64-in-Write.ensures.ok last (ap (λ (r : Request). request_fields (request_view r)) c.in-Write.is)) c.add_data.ensures.ok
