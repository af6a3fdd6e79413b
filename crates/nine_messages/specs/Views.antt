-- Requests and replies without where they lie in memory.
use Rattle.nine_messages.specs.Requests.{RequestView, tversion, tattach, tflush, twalk, topen, tread, twrite, tclunk, tother, MessageView}
use Rattle.nine_messages.specs.Replies.{ReplyView, rversion, rattach, rflush, rwalk, ropen, rread, rwrite, rclunk, rerror}
use Rattle.nine_messages.specs.declared.request.Request.{Request}
use Rattle.nine_messages.specs.declared.request.Request.TheVariants as requests
use Rattle.nine_messages.specs.declared.request.Message.{Message}
use Rattle.nine_messages.specs.declared.reply.Reply.{Reply}
use Rattle.nine_messages.specs.declared.reply.Reply.TheVariants as replies

abbrev pub request_view : Request → RequestView
request_view (requests.Version msize version) = tversion msize version.now
request_view (requests.Attach fid afid uname aname) = tattach fid afid uname.now aname.now
request_view (requests.Flush oldtag) = tflush oldtag
request_view (requests.Walk fid newfid names) = twalk fid newfid names
request_view (requests.Open fid mode) = topen fid mode
request_view (requests.Read fid offset count) = tread fid offset count
request_view (requests.Write fid offset bytes) = twrite fid offset bytes.now
request_view (requests.Clunk fid) = tclunk fid
request_view (requests.Other kind body) = tother kind body.now

abbrev pub message_view : Message → MessageView
message_view m = record { tag = m.tag; request = request_view m.request }

abbrev pub reply_view : Reply → ReplyView
reply_view (replies.Version msize version) = rversion msize version.now
reply_view (replies.Attach qid) = rattach qid
reply_view replies.Flush = rflush
reply_view (replies.Walk qids) = rwalk qids.now
reply_view (replies.Open qid) = ropen qid
reply_view (replies.Read bytes) = rread bytes.now
reply_view (replies.Write count) = rwrite count
reply_view replies.Clunk = rclunk
reply_view (replies.Error ename) = rerror ename.now
