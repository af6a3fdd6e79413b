-- The words of a line are read, and those that are written for their values are read again.
use Rattle.std.proofs.Common.{◌≡◌, ℕ, Bool, List, [], ◌∷◌, ◌++◌, Some, IsTrue, refl, sym, ap, ◌∙◌, subst}
use Rattle.line_text.specs.Words.{is_word_end}
use Rattle.line_words.specs.Cutting.{Cut, first_cut}
use Rattle.line_words.specs.Kinds.{Sets, kinds_in}
use Rattle.line_words.specs.Reading.{after_words, AreWords}
use Rattle.line_words.specs.declared.arguments.Arguments.{Arguments}
use Rattle.line_words.specs.declared.kinds.WordKind.{WordKind}
use Rattle.line_writing.proofs.ShownLemmas.{shown, cut_whole}
use Rattle.line_writing.proofs.Values.{put, word_of, from_sets, to_sets, Values, puts, AllWrite, words_text, AreValues}

pub read_values : (kinds : List WordKind) (behind : List ℕ) (before after : Arguments) (rest : List ℕ) → AreWords kinds behind before after rest → AreValues kinds before after
read_values [] behind before after rest h = record { values = tt; written = tt; after_is = h.0 }
read_values (kind ∷ kinds) [] before after rest h = absurd h
read_values (kind ∷ kinds) (space ∷ line) before after rest h =
    let one = from_sets kind (first_cut line).word before h.0 h.1 in
    let more = read_values kinds (first_cut line).behind h.0 after rest h.2 in
    record {
      values = (one.0, more.values);
      written = (((first_cut line).word, one.1), more.written);
      after_is = more.after_is ∙ ap (puts kinds more.values) one.2;
    }

pub words_end : (kinds : List WordKind) (vs : Values kinds) (rest : List ℕ) → IsTrue (is_word_end 32 rest) → IsTrue (is_word_end 32 (words_text kinds vs rest))
words_end [] vs rest ends = ends
words_end (kind ∷ kinds) vs rest ends = refl

pub written_words : (kinds : List WordKind) (vs : Values kinds) (before : Arguments) (rest : List ℕ) → AllWrite kinds vs → IsTrue (is_word_end 32 rest) → AreWords kinds (words_text kinds vs rest) before (puts kinds vs before) rest
written_words [] vs before rest written ends = (refl, refl)
written_words (kind ∷ kinds) vs before rest written ends =
    let word = word_of kind vs.0 in
    let others = words_text kinds vs.1 rest in
    let here = shown kind written.0.0 vs.0 written.0.1 in
    let cut : first_cut (word ++ others) ≡ record { word = word; behind = others } = cut_whole kind vs.0 here others (words_end kinds vs.1 rest ends) in
    subst (λ (c : Cut). (between : Arguments) × Sets kind c.word before between × AreWords kinds c.behind between (puts kinds vs.1 (put kind vs.0 before)) rest) (sym cut)
    (put kind vs.0 before, to_sets kind word vs.0 before here, written_words kinds vs.1 (put kind vs.0 before) rest written.1 ends)

-- as many words stand there
pub after_read : (out : Bool) (kinds : List WordKind) (behind : List ℕ) (before after : Arguments) (rest : List ℕ) → AreWords (kinds_in out kinds) behind before after rest → after_words kinds behind ≡ Some rest
after_read out [] behind before after rest h = ap Some (sym h.1)
after_read out (kind ∷ kinds) [] before after rest h = absurd h
after_read out (kind ∷ kinds) (space ∷ line) before after rest h = after_read out kinds (first_cut line).behind h.0 after rest h.2
