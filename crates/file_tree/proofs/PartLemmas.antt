-- Parts of contents that are read.
use Rattle.std.proofs.Common.{◌≡◌, ℕ, zero, suc, [], refl}
use Rattle.file_world.specs.TreeEffect.{bytes_in}

pub none_of_none : (offset len : ℕ) → bytes_in [] offset len ≡ []
none_of_none zero zero = refl
none_of_none zero (suc len) = refl
none_of_none (suc offset) zero = refl
none_of_none (suc offset) (suc len) = refl
