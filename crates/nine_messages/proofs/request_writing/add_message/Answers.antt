use Rattle.std.proofs.Common.{ℕ, List, ◌^◌, ◌<◌, ◌++◌, sym, ap, subst, ◌∙◌}
use Rattle.nine_messages.specs.Requests.{message, request_fields}
use Rattle.nine_messages.specs.Views.{request_view}
use Rattle.nine_messages.proofs.WritingLemmas.{sized, has_room}
use Rattle.nine_messages.proofs.request_writing.add_message.Goals as goal

pub put_size-requires-clause-room : goal.put_size-requires-clause-room
put_size-requires-clause-room c =
    (has_room c.args.out.now c.put_head.new.out (request_fields (request_view c.args.m.now.request)) c.add_fields.new.out c.request_kind.result c.args.m.now.tag c.len-start.result c.len-start.ensures c.in_ok-put_head.ensures.ok c.in_ok-add_fields.ensures.ok).0

pub put_size-requires-clause-size : goal.put_size-requires-clause-size
put_size-requires-clause-size c =
    let it = has_room c.args.out.now c.put_head.new.out (request_fields (request_view c.args.m.now.request)) c.add_fields.new.out c.request_kind.result c.args.m.now.tag c.len-start.result c.len-start.ensures c.in_ok-put_head.ensures.ok c.in_ok-add_fields.ensures.ok in
    subst (λ (n : ℕ). n < 2 ^ 32) (sym it.1) c.requires.size_fits

pub returns-clause-ok : goal.returns-clause-ok
returns-clause-ok c =
    let fields : List ℕ = request_fields (request_view c.args.m.now.request) in
    let made = c.in_ok-add_fields.ensures.ok ∙ ap (λ (front : List ℕ). front ++ fields) c.in_ok-put_head.ensures.ok in
    c.put_size.ensures ∙ sized c.args.out.now fields c.add_fields.new.out c.request_kind.result c.args.m.now.tag c.len-start.result c.len-start.ensures made ∙ ap (λ (kind : ℕ). c.args.out.now ++ message kind c.args.m.now.tag fields) c.request_kind.ensures
