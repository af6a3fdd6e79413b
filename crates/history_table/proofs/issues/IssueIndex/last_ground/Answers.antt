-- The places with the digest are gone through, from the last to the first.
use Rattle.std.proofs.Common.{◌≡◌, ◌<◌, ◌∙◌, ℕ, Option, Some, length, refl, subst, sym}
use Rattle.std.specs.List.{slice_get}
use Rattle.std.proofs.lemmas.Option.{MatchOption-at_none, MatchOption-at_some, slice_get_read}
use Rattle.history_table.specs.Index.{digest_of, digests_of}
use Rattle.history_table.proofs.IssueLemmas.{AreNoGrounds, IsCandidate, found_last, found_none, remaining, remaining_falls, searches_first, searches_on, found_next}
use Rattle.history_table.proofs.issues.IssueIndex.last_ground.Goals as goal

pub places-init : goal.places-init
places-init c =
    searches_first c.args.key.now c.args.registry.now.entries c.args.grant.now c.args.issues.now c.args.self.now c.digest_of.result c.last_place-next.result c.requires c.digest_of.ensures c.last_place-next.ensures

pub returns-then-is_ground : goal.returns-then-is_ground
returns-then-is_ground c =
    let key = c.args.key.now in
    let entries = c.args.registry.now.entries in
    let g = c.args.grant.now in
    let issues = c.args.issues.now in
    let candidate : IsCandidate entries g issues (digests_of key issues) (digest_of key g) c.in-Some.place =
    MatchOption-at_some (AreNoGrounds entries g issues) (IsCandidate entries g issues (digests_of key issues) (digest_of key g)) c.in-Some.place c.in-Some.is c.places.invariant in
    let here : slice_get issues c.in-Some.place ≡ Some c.index-issues-place.result = slice_get_read issues (length issues) c.in-Some.place c.index-issues-place.result refl candidate.below c.index-issues-place.is in
    found_last key entries g issues c.in-Some.place c.index-issues-place.result _ candidate here (sym c.is_ground.ensures ∙ c.if-is_ground.true) refl

pub places-smaller : goal.places-smaller
places-smaller c =
    let key = c.args.key.now in
    let entries = c.args.registry.now.entries in
    let g = c.args.grant.now in
    let issues = c.args.issues.now in
    let candidate : IsCandidate entries g issues (digests_of key issues) (digest_of key g) c.in-Some.place =
    MatchOption-at_some (AreNoGrounds entries g issues) (IsCandidate entries g issues (digests_of key issues) (digest_of key g)) c.in-Some.place c.in-Some.is c.places.invariant in
    subst (λ (next : Option ℕ). remaining c.before-next.result < remaining next) (sym c.in-Some.is)
    (remaining_falls (digests_of key issues) c.in-Some.place (digest_of key g) c.before-next.result (found_next key entries g issues c.args.self.now c.in-Some.place c.before-next.result c.requires candidate c.before-next.ensures))

pub places-preserved : goal.places-preserved
places-preserved c =
    let key = c.args.key.now in
    let entries = c.args.registry.now.entries in
    let g = c.args.grant.now in
    let issues = c.args.issues.now in
    let candidate : IsCandidate entries g issues (digests_of key issues) (digest_of key g) c.in-Some.place =
    MatchOption-at_some (AreNoGrounds entries g issues) (IsCandidate entries g issues (digests_of key issues) (digest_of key g)) c.in-Some.place c.in-Some.is c.places.invariant in
    let here : slice_get issues c.in-Some.place ≡ Some c.index-issues-place.result = slice_get_read issues (length issues) c.in-Some.place c.index-issues-place.result refl candidate.below c.index-issues-place.is in
    searches_on key entries g issues c.in-Some.place c.index-issues-place.result c.before-next.result candidate here (sym c.is_ground.ensures ∙ c.if-is_ground.false)
    (found_next key entries g issues c.args.self.now c.in-Some.place c.before-next.result c.requires candidate c.before-next.ensures)

pub returns : goal.returns
returns c =
    let key = c.args.key.now in
    let entries = c.args.registry.now.entries in
    let g = c.args.grant.now in
    let issues = c.args.issues.now in
    found_none key entries g issues (MatchOption-at_none (AreNoGrounds entries g issues) (IsCandidate entries g issues (digests_of key issues) (digest_of key g)) c.in_default.is c.places.invariant)
