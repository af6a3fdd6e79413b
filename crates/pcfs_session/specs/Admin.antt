-- The principal whose word decides (this project's own).
use Rattle.std.specs.Prelude.{ℕ, List, codes}

abbrev pub admin : List ℕ
admin = codes "admin"
