-- The last issue that has a grant and stands, looked for along places with the digest of the grant.
use Rattle.std.proofs.Common.{◌≡◌, ◌<◌, ◌≤◌, ◌+◌, ◌⊎◌, ℕ, zero, suc, List, [], ◌∷◌, true, false, length, refl, sym, ap, subst, ◌∙◌, ⊎_elim, arith, Option, Some, None}
use Rattle.std.specs.Prelude.{MatchOption}
use Rattle.std.specs.List.{slice_get}
use Rattle.std.specs.Option.{option_map}
use Rattle.std.proofs.lemmas.Bool.{cases_Bool, cond-true, cond-false, false≢true, and_parts}
use Rattle.std.proofs.lemmas.List.{length-map}
use Rattle.std.proofs.lemmas.Option.{none-some, same_Some, slice_get-map, slice_get_past, slice_get_within}
use Rattle.bl_syntax.specs.Grant.{GrantView}
use Rattle.bl_syntax.proofs.EqualityLemmas.{Decides-grant_eq}
use Rattle.policy_statement.specs.Registered.{RegisteredView}
use Rattle.access_history.specs.declared.event.Issue.{Issue}
use Rattle.history_table.specs.declared.issues.IssueIndex.{IssueIndex}
use Rattle.history_table.specs.Index.{IsIndexOf, FindsLast, digest_of, digests_of, place_for}
use Rattle.history_table.specs.Issues.{cited_by, cited_of, is_ground, issue_at, last_ground, rests_on}
use Rattle.history_table.proofs.CaseLemmas.{after_or_same, below_or_from}

-- ---- the definition, by the places of issues

last_none : (entries : List RegisteredView) (g : GrantView) (number : ℕ) (found : Option ℕ) (issues : List Issue) → ((place : ℕ) (issue : Issue) → slice_get issues place ≡ Some issue → is_ground entries g issue ≡ false) →
    last_ground entries g number found issues ≡ found
last_none entries g number found [] none = refl
last_none entries g number found (issue ∷ issues) none =
    ap (λ (o : Option ℕ). last_ground entries g (number + 1) o issues) (cond-false (is_ground entries g issue) (Some number) found (none 0 issue refl))
    ∙ last_none entries g (number + 1) found issues (λ place other here. none (suc place) other here)

last_one : (entries : List RegisteredView) (g : GrantView) (number : ℕ) (found : Option ℕ) (issues : List Issue) (place : ℕ) (issue : Issue) → slice_get issues place ≡ Some issue → is_ground entries g issue ≡ true →
    ((later : ℕ) (other : Issue) → place < later → slice_get issues later ≡ Some other → is_ground entries g other ≡ false) → (answer : ℕ) → answer ≡ number + place → last_ground entries g number found issues ≡ Some answer
last_one entries g number found [] place issue here ground none answer is = absurd (none-some _ here)
last_one entries g number found (first ∷ issues) zero issue here ground none answer is =
    let same : first ≡ issue = same_Some _ _ here in
    let answer_is : number ≡ answer = omega (arith, is) in
    ap (λ (o : Option ℕ). last_ground entries g (number + 1) o issues) (cond-true (is_ground entries g first) (Some number) found (ap (is_ground entries g) same ∙ ground))
    ∙ last_none entries g (number + 1) (Some number) issues (λ later other at. none (suc later) other (omega arith) at)
    ∙ ap (λ (n : ℕ). Some n) answer_is
last_one entries g number found (first ∷ issues) (suc place) issue here ground none answer is =
    last_one entries g (number + 1) _ issues place issue here ground (λ later other lt at. none (suc later) other (omega (arith, lt)) at) answer (omega (arith, is))

-- ---- the search

-- no issue has the grant and stands
abbrev pub AreNoGrounds : List RegisteredView → GrantView → List Issue → Type 0
AreNoGrounds entries g issues = (place : ℕ) (issue : Issue) → slice_get issues place ≡ Some issue → is_ground entries g issue ≡ false

-- the issue in that place has the digest, and none after it has the grant and stands
pub record IsCandidate (entries : List RegisteredView) (g : GrantView) (issues : List Issue) (digests : List ℕ) (digest place : ℕ) : Type 0 where
  pub below : place < length issues
  pub there : slice_get digests place ≡ Some digest
  pub none_later : (later : ℕ) (other : Issue) → place < later → slice_get issues later ≡ Some other → is_ground entries g other ≡ false

-- what is looked at next, if there is anything left
abbrev pub Searches : List RegisteredView → GrantView → List Issue → List ℕ → ℕ → Option ℕ → Type 0
Searches entries g issues digests digest next = MatchOption next (AreNoGrounds entries g issues) (IsCandidate entries g issues digests digest)

-- how many places are left to look at, at most
abbrev pub remaining : Option ℕ → ℕ
remaining None = 0
remaining (Some place) = suc place

module _ (key : List ℕ) (entries : List RegisteredView) (g : GrantView) (issues : List Issue) where
  -- what has the grant has its digest
  has_digest : (place : ℕ) (issue : Issue) → slice_get issues place ≡ Some issue → is_ground entries g issue ≡ true → slice_get (digests_of key issues) place ≡ Some (digest_of key g)
  has_digest place issue here ground =
      let same : issue.grant ≡ g = (Decides-grant_eq issue.grant g).0 (and_parts _ _ ground).0 in
      slice_get-map (λ (i : Issue). digest_of key i.grant) issues place ∙ ap (option_map (λ (i : Issue). digest_of key i.grant)) here ∙ ap (λ (h : GrantView). Some (digest_of key h)) same

  -- from a place on there is none
  HasNoneFrom : ℕ → Type 0
  HasNoneFrom bound = (place : ℕ) (issue : Issue) → bound ≤ place → slice_get issues place ≡ Some issue → is_ground entries g issue ≡ false

  not_ground : (issue : Issue) → (is_ground entries g issue ≡ true → ⊥) → is_ground entries g issue ≡ false
  not_ground issue never = ⊎_elim (λ t. absurd (never t)) (λ f. f) (cases_Bool (is_ground entries g issue))

  searches_below : (bound : ℕ) (next : Option ℕ) → bound ≤ length issues → HasNoneFrom bound → FindsLast (digests_of key issues) bound (digest_of key g) next → Searches entries g issues (digests_of key issues) (digest_of key g) next
  unfolding HasNoneFrom
  searches_below bound None within none answer = λ place issue here.
      not_ground issue (λ ground. ⊎_elim (λ lt. answer place lt (has_digest place issue here ground)) (λ le. false≢true (sym (none place issue le here) ∙ ground)) (below_or_from place bound))
  searches_below bound (Some last) within none answer = record {
    below = omega (arith, answer.below, within);
    there = answer.there;
    none_later = λ later other lt here.
        not_ground other (λ ground. ⊎_elim (λ below. answer.none_later later lt below (has_digest later other here ground)) (λ le. false≢true (sym (none later other le here) ∙ ground)) (below_or_from later bound));
  }

  -- at first all are below
  pub searches_all : (next : Option ℕ) → FindsLast (digests_of key issues) (length issues) (digest_of key g) next → Searches entries g issues (digests_of key issues) (digest_of key g) next
  unfolding HasNoneFrom
  searches_all next answer = searches_below (length issues) next (omega arith) (λ place issue le here. absurd (omega (arith, le, slice_get_within issues place issue here))) answer

  -- one that is none was looked at
  pub searches_on : (place : ℕ) (issue : Issue) (next : Option ℕ) → IsCandidate entries g issues (digests_of key issues) (digest_of key g) place → slice_get issues place ≡ Some issue → is_ground entries g issue ≡ false →
      FindsLast (digests_of key issues) place (digest_of key g) next → Searches entries g issues (digests_of key issues) (digest_of key g) next
  unfolding HasNoneFrom
  searches_on place issue next candidate here not answer =
      searches_below place next (omega (arith, candidate.below))
      (λ other at le there. ⊎_elim
      (λ lt. candidate.none_later other at lt there)
      (λ same. subst (λ (i : Issue). is_ground entries g i ≡ false) (same_Some _ _ (sym here ∙ ap (slice_get issues) same ∙ there)) not)
      (after_or_same place other le))
      answer

  -- the one that was found is the last
  pub found_last : (place : ℕ) (issue : Issue) (answer : ℕ) → IsCandidate entries g issues (digests_of key issues) (digest_of key g) place → slice_get issues place ≡ Some issue → is_ground entries g issue ≡ true → answer ≡ place + 1 →
      Some answer ≡ last_ground entries g 1 None issues
  found_last place issue answer candidate here ground is = sym (last_one entries g 1 None issues place issue here ground candidate.none_later answer (omega (arith, is)))

  -- or none is there
  pub found_none : AreNoGrounds entries g issues → None ≡ last_ground entries g 1 None issues
  found_none none = sym (last_none entries g 1 None issues none)

  -- what the index gives first
  pub searches_first : (index : IssueIndex) (digest : ℕ) (next : Option ℕ) → IsIndexOf (digests_of key issues) index → digest ≡ digest_of key g → next ≡ place_for index digest → Searches entries g issues (digests_of key issues) (digest_of key g) next
  searches_first index digest next is same answer =
      searches_all next
      (subst (FindsLast (digests_of key issues) (length issues) (digest_of key g)) (sym (answer ∙ ap (place_for index) same))
      (subst (λ (n : ℕ). FindsLast (digests_of key issues) n (digest_of key g) (place_for index (digest_of key g))) (length-map issues (λ (i : Issue). digest_of key i.grant)) (is.latest (digest_of key g))))

  -- a candidate has its place in the index
  pub candidate_within : (index : IssueIndex) (place : ℕ) → IsIndexOf (digests_of key issues) index → IsCandidate entries g issues (digests_of key issues) (digest_of key g) place → place < length index.earlier.items
  candidate_within index place is candidate = omega (arith, candidate.below, is.sized, length-map issues (λ (i : Issue). digest_of key i.grant))

  -- what it gives next
  pub found_next : (index : IssueIndex) (place : ℕ) (before : Option ℕ) → IsIndexOf (digests_of key issues) index → IsCandidate entries g issues (digests_of key issues) (digest_of key g) place → slice_get index.earlier.items place ≡ Some before →
      FindsLast (digests_of key issues) place (digest_of key g) before
  found_next index place before is candidate read = is.earlier place (digest_of key g) before candidate.there read

-- fewer places are left
pub remaining_falls : (digests : List ℕ) (place digest : ℕ) (next : Option ℕ) → FindsLast digests place digest next → remaining next < suc place
remaining_falls digests place digest None answer = omega arith
remaining_falls digests place digest (Some before) answer = omega (arith, answer.below)

-- ---- the statements on which a grant rests

pub issue_read : (issues : List Issue) (number place : ℕ) (issue : Issue) → number ≡ suc place → slice_get issues place ≡ Some issue → issue_at issues number ≡ Some issue
issue_read issues number place issue is found = ap (issue_at issues) is ∙ found

issue_past : (issues : List Issue) (number : ℕ) → (number ≡ 0) ⊎ (length issues < number) → issue_at issues number ≡ None
issue_past issues zero past = refl
issue_past issues (suc place) past =
    slice_get_past issues place (⊎_elim (λ z. absurd (omega (arith, z))) (λ lt. let within : length issues ≤ place = omega (arith, lt) in within) past)

-- those that an issue cites
pub cited_read : (issues : List Issue) (number place : ℕ) (issue : Issue) → number ≡ suc place → slice_get issues place ≡ Some issue → cited_by issues (Some number) ≡ issue.cited
cited_read issues number place issue is found = ap cited_of (issue_read issues number place issue is found)

pub cited_past : (issues : List Issue) (number : ℕ) → (number ≡ 0) ⊎ (length issues < number) → cited_by issues (Some number) ≡ []
cited_past issues number past = ap cited_of (issue_past issues number past)

-- a grant that names none rests on what its issue cites
pub rests_plainly : (issues : List Issue) (number : Option ℕ) (named : List ℕ) → length named ≡ 0 → rests_on issues number named ≡ cited_by issues number
rests_plainly issues number [] none = refl
rests_plainly issues number (n ∷ ns) none = absurd (omega (arith, none))

-- another one on what it names
pub rests_named : (issues : List Issue) (number : Option ℕ) (named : List ℕ) → (length named ≡ 0 → ⊥) → rests_on issues number named ≡ named
rests_named issues number [] some = absurd (some refl)
rests_named issues number (n ∷ ns) some = refl
