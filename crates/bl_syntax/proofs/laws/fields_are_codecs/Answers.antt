use Rattle.bl_syntax.proofs.FieldCodecs.{name_codec, predicate_codec, text_codec, time_codec}
use Rattle.bl_syntax.proofs.laws.fields_are_codecs.Goals as goal

pub returns : goal.returns
returns c = record { names = name_codec; predicates = predicate_codec; texts = text_codec; times = time_codec }
