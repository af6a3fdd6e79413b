-- The procap of an issue, over plain values.
use Rattle.std.proofs.Common.{◌≡◌, ℕ, List, Option, Some, None, sym, ap, subst, ◌∙◌}
use Rattle.std.specs.Prelude.{ℤ, MatchOption}
use Rattle.procap.specs.declared.procap.Procap.{Procap}
use Rattle.access_history.specs.Base.{BaseView}
use Rattle.access_history.specs.declared.event.Issue.{Issue}
use Rattle.access_history.specs.declared.reply.StepReply.TheVariants as replies
use Rattle.access_history.specs.declared.request.StepRequest.TheVariants as requests
use Rattle.access_history.specs.Answer.{Answers, MaySee, not_shown, shown}
use Rattle.access_history.specs.Authority.{Authority}
use Rattle.access_history.proofs.NumberedLemmas.{numbered_item}
use Rattle.access_history.specs.Numbered.{HasNone}
use Rattle.op_gate.specs.Issued.{IsProcapOf}

-- what was found, and that nothing was
pub found_some : (key : List ℕ) (issues : List Issue) (number : ℕ) (found : Option Procap) (p : Procap) → found ≡ Some p → MatchOption found (HasNone issues number) (IsProcapOf key issues number) → IsProcapOf key issues number p
found_some key issues number found p is holds = subst (λ (o : Option Procap). MatchOption o (HasNone issues number) (IsProcapOf key issues number)) is holds

pub found_none : (key : List ℕ) (issues : List Issue) (number : ℕ) (found : Option Procap) → found ≡ None → MatchOption found (HasNone issues number) (IsProcapOf key issues number) → HasNone issues number
found_none key issues number found is holds = subst (λ (o : Option Procap). MatchOption o (HasNone issues number) (IsProcapOf key issues number)) is holds

-- the procap may be seen
pub shown_decided : (authority : Authority) (state : BaseView) (pass : ℕ) (clock : ℤ) (number : ℕ) (who : Option (List ℕ)) (p : Procap) → IsProcapOf authority.key state.issues number p → MaySee who p.grant →
    Answers authority state pass clock (requests.ShowProcap number who) (replies.Procap p) None
shown_decided authority state pass clock number who p of seen =
    subst (λ (q : Procap). Answers authority state pass clock (requests.ShowProcap number who) (replies.Procap q) None) (sym of.procap_is)
    (shown number who of.issue (record { issued = of.numbered; seen = subst (λ (q : Procap). MaySee who q.grant) of.procap_is seen }))

-- it may not
pub hidden_decided : (authority : Authority) (state : BaseView) (pass : ℕ) (clock : ℤ) (number : ℕ) (who : Option (List ℕ)) (p : Procap) → IsProcapOf authority.key state.issues number p → (MaySee who p.grant → ⊥) →
    Answers authority state pass clock (requests.ShowProcap number who) (replies.Absent number) None
hidden_decided authority state pass clock number who p of unseen =
    not_shown number who (λ issue there.
    let same : issue ≡ of.issue = numbered_item state.issues number issue of.issue there.issued of.numbered in
    let grant : issue.grant ≡ p.grant = ap (λ (i : Issue). i.grant) same ∙ sym (ap (λ (q : Procap). q.grant) of.procap_is) in
    unseen (subst (MaySee who) grant there.seen))

-- there is no such issue
pub absent_decided : (authority : Authority) (state : BaseView) (pass : ℕ) (clock : ℤ) (number : ℕ) (who : Option (List ℕ)) → HasNone state.issues number →
    Answers authority state pass clock (requests.ShowProcap number who) (replies.Absent number) None
absent_decided authority state pass clock number who none = not_shown number who (λ issue there. none issue there.issued)
