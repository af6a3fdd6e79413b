-- What a ring keeps of a name, and what it stands for.
use Rattle.std.specs.Prelude.{◌≡◌, ◌≤◌, []}
use Rattle.bl_syntax.specs.declared.limits.TheConstants.{HIGHEST_TREE}
use Rattle.policy_statement.specs.declared.ring.Held.{Held}
use Rattle.policy_statement.specs.declared.ring.Held.TheVariants.{Key, Root}
use Rattle.policy_statement.specs.Ring.{Credential, keyed, rooted}

-- a key is kept as the empty text under it
abbrev pub credential : Held → Credential
credential (Key empty) = keyed empty.key
credential (Root height root) = rooted height root

-- the text is empty, and a tree is not too high
abbrev pub IsHeld : Held → Type 0
IsHeld (Key empty) = empty.text ≡ []
IsHeld (Root height root) = height ≤ HIGHEST_TREE
