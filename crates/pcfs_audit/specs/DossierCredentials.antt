-- The credentials of the events of a history under audit, under the key of its seal (this project's
-- own).
use Rattle.std.specs.Prelude.{ℕ, List, Bool}
use Rattle.pcfs_audit.specs.Credentials.{AreCredentials, HasCredentialsAt}
use Rattle.pcfs_audit.specs.Report.{authority_by}
use Rattle.pcfs_audit.specs.declared.credentials.Credentials.{Credentials}
use Rattle.pcfs_audit.specs.declared.dossier.Dossier.{Dossier}

-- they are those of its event at that place, if these signatures are accepted
abbrev pub HasCredentialsIn : Dossier → (List ℕ → List ℕ → List ℕ → Bool) → ℕ → Credentials → Type 0
HasCredentialsIn dossier accepts = HasCredentialsAt (authority_by dossier.key accepts) dossier.base.now dossier.events.now

-- they are those of all its events, in order, if these signatures are accepted
abbrev pub AreCredentialsIn : Dossier → (List ℕ → List ℕ → List ℕ → Bool) → List Credentials →
    Type 0
AreCredentialsIn dossier accepts = AreCredentials (authority_by dossier.key accepts) dossier.base.now dossier.events.now
