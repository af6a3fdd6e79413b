-- Each is what was told for its number.
use Rattle.std.proofs.Common.{sym, ◌∙◌}
use Rattle.session_service.proofs.laws.two_sessions_have_two_nonces.Goals as goal

pub returns : goal.returns
returns c = λ bytes first second one other is also differ same. differ (sym is.at ∙ same ∙ also.at)
