-- The credentials of the events so far.
use Rattle.std.proofs.Common.{◌≡◌, ℕ, length, Some}
use Rattle.std.specs.List.{slice_get}
use Rattle.pcfs_audit.specs.declared.credentials.Credentials.{Credentials}
use Rattle.pcfs_audit.specs.Credentials.{HasCredentialsAt}
use Rattle.pcfs_audit.specs.Report.{authority_by}
use Rattle.pcfs_audit.proofs.credentials.credentials_in_order.Given as goal

abbrev pub invariant-loop-place : goal.invariant-loop-place
invariant-loop-place g l = record {
  counted : length l.all.items ≡ l.place;
  each : (place : ℕ) (credentials : Credentials) → slice_get l.all.items place ≡ Some credentials →
      HasCredentialsAt (authority_by l.dossier.key (g.S.Signatures.accepted l.ring)) l.dossier.base.now l.dossier.events.now place credentials;
}
