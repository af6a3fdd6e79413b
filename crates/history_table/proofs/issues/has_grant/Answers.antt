-- Two tests of one equation agree.
use Rattle.std.proofs.Common.{◌≡◌, ◌↔◌, Bool, true, false, refl}
use Rattle.std.specs.Prelude.{IsTrue}
use Rattle.std.proofs.lemmas.Bool.{false≢true}
use Rattle.bl_syntax.specs.Equality.{grant_eq}
use Rattle.bl_syntax.proofs.EqualityLemmas.{Decides-grant_eq}
use Rattle.history_table.proofs.issues.has_grant.Goals as goal

agree : (a b : Bool) (P : Type 0) → IsTrue a ↔ P → IsTrue b ↔ P → a ≡ b
agree true true P first second = refl
agree true false P first second = absurd (false≢true (second.1 (first.0 refl)))
agree false true P first second = absurd (false≢true (first.1 (second.0 refl)))
agree false false P first second = refl

pub returns : goal.returns
returns c = agree c.is_grant.result (grant_eq _ c.args.grant.now) _ c.is_grant.ensures (Decides-grant_eq _ c.args.grant.now)
