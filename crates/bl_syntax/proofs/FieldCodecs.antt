-- The spelling and the reading of names, texts and points in time.
use Rattle.std.specs.Prelude.{ℕ, List, IsTrue}
use Rattle.bl_syntax.specs.TimeOrder.{IsInRange}
use Rattle.bl_syntax.specs.Names.{is_principal_name, is_predicate_name, is_text}
use Rattle.bl_syntax.specs.Spelling.{with_length, time_spelling}
use Rattle.bl_syntax.specs.Reading.{name_at, predicate_at, text_at, time_at}
use Rattle.bl_syntax.specs.Codec.{IsCodec}
use Rattle.bl_syntax.proofs.WordLemmas.{short_name, short_predicate, short_text}
use Rattle.bl_syntax.proofs.CodecLemmas.{codec}
use Rattle.bl_syntax.proofs.FieldLemmas.{word_found, word_again, word_memoryless, time_found, time_again, time_memoryless}

pub name_codec : IsCodec (λ (name : List ℕ). IsTrue (is_principal_name name)) with_length name_at
name_codec = codec (λ name. IsTrue (is_principal_name name)) with_length name_at (word_found 1 32 is_principal_name)
    (λ input name rest h. let short = short_name name h in word_again 1 32 is_principal_name input name rest short.not_below short.not_above h) (word_memoryless 1 32 is_principal_name)

pub predicate_codec : IsCodec (λ (name : List ℕ). IsTrue (is_predicate_name name)) with_length predicate_at
predicate_codec = codec (λ name. IsTrue (is_predicate_name name)) with_length predicate_at (word_found 1 32 is_predicate_name)
    (λ input name rest h. let short = short_predicate name h in word_again 1 32 is_predicate_name input name rest short.not_below short.not_above h) (word_memoryless 1 32 is_predicate_name)

pub text_codec : IsCodec (λ (text : List ℕ). IsTrue (is_text text)) with_length text_at
text_codec = codec (λ text. IsTrue (is_text text)) with_length text_at (word_found 0 128 is_text)
    (λ input text rest h. let short = short_text text h in word_again 0 128 is_text input text rest short.not_below short.not_above h) (word_memoryless 0 128 is_text)

pub time_codec : IsCodec IsInRange time_spelling time_at
time_codec = codec IsInRange time_spelling time_at time_found time_again time_memoryless
