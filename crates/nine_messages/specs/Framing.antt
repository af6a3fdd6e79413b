-- What bytes begin with, as the code says it.
use Rattle.std.specs.Prelude.{ℕ, List}
use Rattle.nine_messages.specs.Cutting.{IsNext, IsOpen, IsBad}
use Rattle.nine_messages.specs.Views.{message_view}
use Rattle.nine_messages.specs.declared.framing.Next.{Next}
use Rattle.nine_messages.specs.declared.framing.Next.TheVariants as nexts

abbrev pub IsCutAt : ℕ → List ℕ → Next → Type 0
IsCutAt agreed left (nexts.Message m rest) = IsNext agreed left (message_view m) rest.now
IsCutAt agreed left nexts.Open = IsOpen agreed left
IsCutAt agreed left nexts.Bad = IsBad agreed left
