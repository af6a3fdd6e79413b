use Rattle.std.specs.Prelude.{List, ℕ, IsTrue}
use Rattle.bl_syntax.specs.TimeOrder.{IsInRange}
use Rattle.bl_syntax.specs.Names.{is_principal_name, is_predicate_name, is_text}
use Rattle.bl_syntax.specs.Spelling.{IsSpellable, with_length, time_spelling, term_spelling}
use Rattle.bl_syntax.specs.Reading.{name_at, predicate_at, text_at, time_at, term_at}
use Rattle.bl_syntax.proofs.FieldCodecs.{name_codec, predicate_codec, text_codec, time_codec}
use Rattle.bl_syntax.proofs.TermLemmas.{term_codec}
use Rattle.reader_laws.proofs.CutLemmas.{cuts}
use Rattle.reader_laws.proofs.FieldLemmas.{names, predicates, texts, times, terms}
use Rattle.reader_laws.proofs.laws.cut_fields_are_short.Goals as goal

pub returns : goal.returns
returns c = record {
  names = cuts (λ (name : List ℕ). IsTrue (is_principal_name name)) with_length name_at name_codec names;
  predicates = cuts (λ (name : List ℕ). IsTrue (is_predicate_name name)) with_length predicate_at predicate_codec predicates;
  texts = cuts (λ (text : List ℕ). IsTrue (is_text text)) with_length text_at text_codec texts;
  times = cuts IsInRange time_spelling time_at time_codec times;
  terms = cuts IsSpellable term_spelling term_at term_codec terms;
}
