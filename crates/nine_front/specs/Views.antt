-- What a reply is to the client.
use Rattle.std.specs.Prelude.{ℕ, List, Option}
use Rattle.std.specs.Option.{option_map}
use Rattle.line_wire.specs.ReplyText.{reply_text}
use Rattle.nine_messages.specs.Replies.{ReplyView, rread, rwrite, rerror}
use Rattle.nine_fids.specs.Errors.{error_text}
use Rattle.nine_fids.specs.Steps.{answer_view}
use Rattle.nine_front.specs.declared.replying.WalkError.{WalkError}
use Rattle.nine_front.specs.declared.replying.WalkError.TheVariants as walks
use Rattle.nine_front.specs.declared.replying.NineReply.{NineReply}
use Rattle.nine_front.specs.declared.replying.NineReply.TheVariants as replies
use Rattle.nine_front.specs.Placed.{walk_reply}

-- the text with which a walk ended early
abbrev pub walk_error_text : WalkError → List ℕ
walk_error_text (walks.Refused error) = error_text error
walk_error_text (walks.Line line) = reply_text line

abbrev pub walk_end : Option WalkError → Option (List ℕ)
walk_end end = option_map walk_error_text end

-- of a connection with this nonce
abbrev pub reply_view_of : List ℕ → NineReply → ReplyView
reply_view_of nonce (replies.Refused error) = rerror (error_text error)
reply_view_of nonce (replies.Answered answer) = answer_view nonce answer
reply_view_of nonce (replies.Written count) = rwrite count
reply_view_of nonce (replies.Read bytes) = rread bytes
reply_view_of nonce (replies.Walked found end) = walk_reply found (walk_end end)
reply_view_of nonce (replies.Line line) = rerror (reply_text line)
