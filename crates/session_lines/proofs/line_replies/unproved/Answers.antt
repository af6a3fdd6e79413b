use Rattle.std.proofs.Common.{inl, refl}
use Rattle.session_lines.proofs.line_replies.unproved.Goals as goal

pub returns-in-NoMemory : goal.returns-in-NoMemory
returns-in-NoMemory c = inl refl
