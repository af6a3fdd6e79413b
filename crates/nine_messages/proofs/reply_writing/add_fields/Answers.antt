use Rattle.std.proofs.Common.{List, ℕ, ◌++◌, ap, ◌∙◌}
use Rattle.std.specs.Int.{w32, to_le_bytes}
use Rattle.nine_messages.specs.declared.reply.Reply.{Reply}
use Rattle.nine_messages.specs.Replies.{qid_spelling, reply_fields}
use Rattle.nine_messages.specs.Views.{reply_view}
use Rattle.nine_messages.proofs.WritingLemmas.{on_ok, two_added}
use Rattle.nine_messages.proofs.reply_writing.add_fields.Goals as goal

pub returns-in_ok-extend-in-Open-clause-ok : goal.returns-in_ok-extend-in-Open-clause-ok
unfolding reply_fields
returns-in_ok-extend-in-Open-clause-ok c =
    on_ok c.put_u32-in-Open.result (λ last. two_added c.args.out.now c.extend-in-Open.new.self c.put_u32-in-Open.new.out (qid_spelling c.in-Open.qid) (to_le_bytes w32 0) (reply_fields (reply_view c.args.reply.now))
    (c.in_ok-extend-in-Open.ensures.ok ∙ ap (λ (b : List ℕ). c.args.out.now ++ b) c.qid_bytes-in-Open.ensures.spelled) last (ap (λ (r : Reply). reply_fields (reply_view r)) c.in-Open.is)) c.put_u32-in-Open.ensures.ok
