use Rattle.std.proofs.Common.{ℕ, List, ◌^◌, ◌<◌, ◌++◌, sym, ap, subst, ◌∙◌, arith}
use Rattle.nine_messages.specs.Requests.{message}
use Rattle.nine_messages.specs.Replies.{reply_fields}
use Rattle.nine_messages.specs.Views.{reply_view}
use Rattle.nine_messages.proofs.WritingLemmas.{sized, has_room, reply_size}
use Rattle.nine_messages.proofs.reply_writing.add_reply.Goals as goal

pub put_size-requires-clause-room : goal.put_size-requires-clause-room
put_size-requires-clause-room c =
    (has_room c.args.out.now c.put_head.new.out (reply_fields (reply_view c.args.reply.now)) c.add_fields.new.out c.reply_kind.result c.args.tag c.len-start.result c.len-start.ensures c.in_ok-put_head.ensures.ok c.in_ok-add_fields.ensures.ok).0

pub put_size-requires-clause-size : goal.put_size-requires-clause-size
put_size-requires-clause-size c =
    let it = has_room c.args.out.now c.put_head.new.out (reply_fields (reply_view c.args.reply.now)) c.add_fields.new.out c.reply_kind.result c.args.tag c.len-start.result c.len-start.ensures c.in_ok-put_head.ensures.ok c.in_ok-add_fields.ensures.ok in
    subst (λ (n : ℕ). n < 2 ^ 32) (sym it.1) (reply_size (reply_view c.args.reply.now) c.requires)

pub returns-clause-ok : goal.returns-clause-ok
returns-clause-ok c =
    let fields : List ℕ = reply_fields (reply_view c.args.reply.now) in
    let made = c.in_ok-add_fields.ensures.ok ∙ ap (λ (front : List ℕ). front ++ fields) c.in_ok-put_head.ensures.ok in
    c.put_size.ensures ∙ sized c.args.out.now fields c.add_fields.new.out c.reply_kind.result c.args.tag c.len-start.result c.len-start.ensures made ∙ ap (λ (kind : ℕ). c.args.out.now ++ message kind c.args.tag fields) c.reply_kind.ensures

pub returns-clause-fits : goal.returns-clause-fits
returns-clause-fits c = record {
  tag_fits = omega (arith, c.ranges.tag.fits);
  reply_fits = c.in_ok-add_fields.ensures.fits;
  size_fits = reply_size (reply_view c.args.reply.now) c.requires;
}
