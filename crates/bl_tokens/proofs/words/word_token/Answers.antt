-- A word that is neither reserved nor a name is too long.
use Rattle.std.proofs.Common.{◌≡◌, ℕ, List, None, Bool, true, false, IsTrue, refl, sym, ap, ◌∙◌}
use Rattle.std.specs.Prelude.{if◌then◌else◌}
use Rattle.std.proofs.lemmas.Bool.{false≢true}
use Rattle.bl_syntax.specs.Names.{is_principal_name}
use Rattle.bl_tokens.specs.declared.tokens.Token.TheVariants.{LongWord, Name}
use Rattle.bl_tokens.specs.Words.{keyword, sort_named, constant_named, word_token, keyword_or_other, sort_or_other, constant_or_name}
use Rattle.bl_tokens.proofs.words.word_token.Goals as goal

not_chosen : (b : Bool) (word : List ℕ) → (IsTrue b → ⊥) → (if b then Name word else LongWord) ≡ LongWord
not_chosen true word not = absurd (not refl)
not_chosen false word not = refl

word_token_long : (word : List ℕ) → keyword word ≡ None → sort_named word ≡ None → constant_named word ≡ None → (IsTrue (is_principal_name word) → ⊥) → LongWord ≡ word_token word
word_token_long word no_keyword no_sort no_constant no_name =
    sym (ap (keyword_or_other word) no_keyword ∙ ap (sort_or_other word) no_sort ∙ ap (constant_or_name word) no_constant ∙ not_chosen (is_principal_name word) word no_name)

pub returns-in-None-clause-same : goal.returns-in-None-clause-same
returns-in-None-clause-same c =
    word_token_long c.args.word.now (sym c.keyword.ensures ∙ c.in_default.is) (sym c.sort_named.ensures ∙ c.in_default-sort_named.is) (sym c.constant_named.ensures.same ∙ c.in_default-constant_named.is) (λ h. false≢true (c.in-None.ensures.named.1 h))
