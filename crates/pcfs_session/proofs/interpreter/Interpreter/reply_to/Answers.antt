-- What a line asks for is done, and a line that asks for nothing has a fault.
use Rattle.pcfs_session.specs.Interpreter.{IsFollowed}
use Rattle.pcfs_session.specs.ScriptRun.{IsReplied}
use Rattle.line_forms.specs.Lines.{IsLine}
use Rattle.line_forms.proofs.LimitLemmas.{line_within}
use Rattle.pcfs_session.proofs.InterpreterLemmas.{IsReplied-followed, IsReplied-unread}
use Rattle.pcfs_session.proofs.StoredLemmas.{LeadsTo-also, LeadsTo-same, LeadsTo-unchanged}
use Rattle.pcfs_session.specs.ScriptRun.{without_memory}
use Rattle.pcfs_session.proofs.interpreter.Interpreter.reply_to.Goals as goal

pub follow-requires-clause-within : goal.follow-requires-clause-within
follow-requires-clause-within g c = (let is : IsLine c.args.line.now c.in-Ok.command = c.in-Ok.ensures in line_within is)

pub returns-in-Ok-follow : goal.returns-in-Ok-follow
returns-in-Ok-follow g c =
    LeadsTo-also g.D.Disk.clock g.D.Disk.left_since g.D.Disk.image g.D.Disk.faults (IsFollowed c.in-Ok.command) (IsReplied c.args.line.now) c.args.self.now c.follow.new.self c.in-Ok-follow.reply
    (λ met followed. IsReplied-followed _ _ c.args.line.now c.in-Ok.command c.in-Ok-follow.reply c.in-Ok.ensures followed) c.in-Ok-follow.ensures.ok

pub returns-in-Err-follow : goal.returns-in-Err-follow
returns-in-Err-follow g c = LeadsTo-unchanged g.D.Disk.clock g.D.Disk.left_since g.D.Disk.image g.D.Disk.faults (IsReplied c.args.line.now) c.args.self.now c.follow.new.self _ c.in-Err-follow.ensures.err c.requires.running without_memory

pub returns-in-Err : goal.returns-in-Err
returns-in-Err g c = LeadsTo-same g.D.Disk.clock g.D.Disk.left_since g.D.Disk.image g.D.Disk.faults (IsReplied c.args.line.now) c.args.self.now _ c.requires.running (IsReplied-unread _ c.args.line.now c.in-Err.fault c.unread.result c.unread.ensures c.in-Err.ensures)
