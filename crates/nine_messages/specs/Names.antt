-- Names as they stand in a message (this project's own).
use Rattle.std.specs.Prelude.{◌≡◌, ℕ, List, [], Some}
use Rattle.nine_messages.specs.Fields.{text_at, many_at, texts_in}
use Rattle.nine_messages.specs.Codec.{AreBytes}

-- so many texts fill the bytes
pub record AreNames (count : ℕ) (bytes : List ℕ) : Type 0 where
  pub filled : many_at text_at count bytes ≡ Some (texts_in count bytes, [])
  pub bytes_fit : AreBytes bytes
