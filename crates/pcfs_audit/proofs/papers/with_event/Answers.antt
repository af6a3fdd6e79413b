-- The event adds a statement, the end of one, a grant, or nothing.
use Rattle.std.proofs.Common.{arith, [], None, length, length-append, subst, refl, sym, ap, ◌≡◌, ◌∙◌, ◌++◌, ◌∷◌, ◌+◌, ℕ}
use Rattle.std.specs.List.{AllByRecursion}
use Rattle.std.proofs.lemmas.Bool.{false≢true}
use Rattle.std.proofs.lemmas.List.{append-nil}
use Rattle.bl_syntax.proofs.GrantLemmas.{AllByRecursion-push}
use Rattle.journal_records.specs.declared.event.Event.{Event}
use Rattle.pcfs_audit.specs.declared.papers.Before.{Before}
use Rattle.pcfs_audit.specs.Ends.{NeverEnds, ends_with}
use Rattle.pcfs_audit.specs.Papers.{shown}
use Rattle.pcfs_audit.proofs.PapersLemmas.{ArePapers-more, granted_by, said_by}
use Rattle.pcfs_audit.proofs.ReferenceLemmas.{shown_more}
use Rattle.pcfs_audit.proofs.papers.with_event.Goals as goal

abbrev counts_with : ℕ → ℕ → Before
counts_with statements issues = record { statements = statements; issues = issues }

counted : (statements issues m n : ℕ) → statements ≡ m → issues ≡ n → counts_with statements issues ≡ counts_with m n
counted statements issues m n one other = ap (λ (k : ℕ). counts_with k issues) one ∙ ap (λ (k : ℕ). counts_with m k) other

pub returns-in_ok-add_open_end-in-Registered : goal.returns-in_ok-add_open_end-in-Registered
returns-in_ok-add_open_end-in-Registered c base events are =
    let ends = c.args.papers.ends.items in
    let place = length c.args.papers.before.items + 1 in
    ArePapers-more base events c.args.event.now c.args.papers _ place are
    (shown_more c.args.papers.statements.items _ _ c.in-Registered.statement c.in_ok-push-in-Registered.ensures.items refl ∙ ap (λ (e : Event). shown c.args.papers.statements.items ++ said_by e) (sym c.in-Registered.is))
    (sym (append-nil (shown c.args.papers.grants.items)) ∙ ap (λ (e : Event). shown c.args.papers.grants.items ++ granted_by e) (sym c.in-Registered.is))
    (c.in_ok-push.ensures.items ∙ ap (λ (b : Before). c.args.papers.before.items ++ b ∷ []) (counted (length c.as_slice.result.now) (length c.as_slice-2.result.now) _ _ (ap length c.as_slice.ensures.value) (ap length c.as_slice-2.ensures.value))) refl
    (c.in_ok-add_open_end-in-Registered.ensures ∙ ap (ends_with ends place) (sym c.in-Registered.is))
    (λ none. subst (AllByRecursion NeverEnds) (sym c.in_ok-add_open_end-in-Registered.ensures) (AllByRecursion-push NeverEnds ends None (are.none_ended none) refl))

pub returns-in-Withdrawn : goal.returns-in-Withdrawn
returns-in-Withdrawn c base events are =
    let ends = c.args.papers.ends.items in
    let pushed = c.in_ok-push.ensures.items in
    let entry = counts_with (length c.as_slice.result.now) (length c.as_slice-2.result.now) in
    let place_is : c.len-place.result ≡ length c.args.papers.before.items + 1 = omega (arith, c.len-place.ensures, c.push.new.self.ok.0, ap length pushed, length-append c.args.papers.before.items (entry ∷ [])) in
    ArePapers-more base events c.args.event.now c.args.papers _ c.len-place.result are
    (sym (append-nil (shown c.args.papers.statements.items)) ∙ ap (λ (e : Event). shown c.args.papers.statements.items ++ said_by e) (sym c.in-Withdrawn.is))
    (sym (append-nil (shown c.args.papers.grants.items)) ∙ ap (λ (e : Event). shown c.args.papers.grants.items ++ granted_by e) (sym c.in-Withdrawn.is))
    (c.in_ok-push.ensures.items ∙ ap (λ (b : Before). c.args.papers.before.items ++ b ∷ []) (counted (length c.as_slice.result.now) (length c.as_slice-2.result.now) _ _ (ap length c.as_slice.ensures.value) (ap length c.as_slice-2.ensures.value))) place_is
    (c.end_statement.ensures ∙ ap (ends_with ends c.len-place.result) (sym c.in-Withdrawn.is))
    (λ none. absurd (false≢true (sym none)))

pub returns-in_ok-push-in-Issued : goal.returns-in_ok-push-in-Issued
returns-in_ok-push-in-Issued c base events are =
    let place = length c.args.papers.before.items + 1 in
    ArePapers-more base events c.args.event.now c.args.papers _ place are
    (sym (append-nil (shown c.args.papers.statements.items)) ∙ ap (λ (e : Event). shown c.args.papers.statements.items ++ said_by e) (sym c.in-Issued.is))
    (shown_more c.args.papers.grants.items _ _ c.in-Issued.grant c.in_ok-push-in-Issued.ensures.items refl ∙ ap (λ (e : Event). shown c.args.papers.grants.items ++ granted_by e) (sym c.in-Issued.is))
    (c.in_ok-push.ensures.items ∙ ap (λ (b : Before). c.args.papers.before.items ++ b ∷ []) (counted (length c.as_slice.result.now) (length c.as_slice-2.result.now) _ _ (ap length c.as_slice.ensures.value) (ap length c.as_slice-2.ensures.value))) refl (ap (ends_with c.args.papers.ends.items place) (sym c.in-Issued.is)) are.none_ended

pub returns-in-Acted : goal.returns-in-Acted
returns-in-Acted c base events are =
    let place = length c.args.papers.before.items + 1 in
    ArePapers-more base events c.args.event.now c.args.papers _ place are
    (sym (append-nil (shown c.args.papers.statements.items)) ∙ ap (λ (e : Event). shown c.args.papers.statements.items ++ said_by e) (sym c.in-Acted.is))
    (sym (append-nil (shown c.args.papers.grants.items)) ∙ ap (λ (e : Event). shown c.args.papers.grants.items ++ granted_by e) (sym c.in-Acted.is))
    (c.in_ok-push.ensures.items ∙ ap (λ (b : Before). c.args.papers.before.items ++ b ∷ []) (counted (length c.as_slice.result.now) (length c.as_slice-2.result.now) _ _ (ap length c.as_slice.ensures.value) (ap length c.as_slice-2.ensures.value))) refl (ap (ends_with c.args.papers.ends.items place) (sym c.in-Acted.is)) are.none_ended
