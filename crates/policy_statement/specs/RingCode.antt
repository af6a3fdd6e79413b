-- Names with what a ring has of them can be told apart.
use Rattle.std.specs.Prelude.{◌≡◌, ◌⊎◌, ℕ, List, refl}
use Rattle.std.specs.Coded.{Coded, code_by, coded×, coded⊎, coded_ℕ, coded_list}
use mathlib.Core.Logic.{inl, inr}
use Rattle.policy_statement.specs.Ring.{Credential, keyed, rooted, KeyView}

abbrev parts : Credential → List ℕ ⊎ (ℕ × List ℕ)
parts (keyed key) = inl key
parts (rooted height root) = inr (height, root)

abbrev join : List ℕ ⊎ (ℕ × List ℕ) → Credential
join (inl key) = keyed key
join (inr both) = rooted both.0 both.1

pub join-parts : (c : Credential) → join (parts c) ≡ c
join-parts (keyed key) = refl
join-parts (rooted height root) = refl

abbrev pub credential_code : Coded Credential
credential_code =
    code_by (List ℕ ⊎ (ℕ × List ℕ)) (coded⊎ (coded_list coded_ℕ) (coded× coded_ℕ (coded_list coded_ℕ))) parts join join-parts

abbrev pub key_code : Coded KeyView
key_code =
    code_by (List ℕ × Credential) (coded× (coded_list coded_ℕ) credential_code)
    (λ k. (k.who, k.holds))
    (λ p. record { who = p.0; holds = p.1 })
    (λ _. refl)
