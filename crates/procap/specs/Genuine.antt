-- The seal of a procap: the tag of HMAC-SHA256 of the grant's bytes under the store's key.
use Rattle.std.specs.Prelude.{◌≡◌, ℕ, List}
use Rattle.bl_syntax.specs.Grant.{GrantView}
use Rattle.pcfs_hmac.specs.Hmac.{hmac}
use Rattle.procap.specs.GrantSpelling.{grant_spelling}
use Rattle.procap.specs.declared.procap.Procap.{Procap}

-- the tag that a grant has under a key
abbrev pub seal_of : List ℕ → GrantView → List ℕ
seal_of key g = hmac key (grant_spelling g)

-- all bytes of the tag are those of its grant's tag under the key
abbrev pub IsGenuine : List ℕ → Procap → Type 0
IsGenuine key p = p.tag ≡ seal_of key p.grant
