-- What a line brings stands on one line: names, texts and procaps are in their grammars.
use Rattle.std.proofs.Common.{◌≡◌, ℕ, List, [], ◌∷◌, ◌++◌, refl, sym, ap, ◌∙◌, subst}
use Rattle.std.specs.List.{AllByRecursion}
use Rattle.bl_syntax.proofs.GrantLemmas.{AllByRecursion-push}
use Rattle.proof_term.specs.Proof.{ProofView, init, cons_r, inter_r, and_r, or_r1, or_r2, true_r, imp_r, forall_r, exists_r, says_r, at_r, cons_l, inter_l, and_l, or_l, false_l, imp_l, forall_l, exists_l, says_l, claim, at_l}
use Rattle.proof_text.specs.RoundTrip.{NamesSayable}
use Rattle.proof_text.specs.Texts.{IsProofText}
use Rattle.text_laws.proofs.PrintableLemmas.{proof_printable}
use Rattle.text_laws.proofs.SpellableLemmas.{statement_spellable}
use Rattle.line_words.specs.Cutting.{first_cut}
use Rattle.line_words.specs.Grammar.{IsPrincipal}
use Rattle.line_words.specs.Kinds.{blank, Sets}
use Rattle.line_words.specs.Procaps.{IsProcapWord, by_number, by_spelling}
use Rattle.line_words.specs.Reading.{AreWords}
use Rattle.line_words.specs.declared.kinds.WordKind.{WordKind}
use Rattle.line_words.specs.declared.kinds.WordKind.TheVariants as kinds
use Rattle.line_words.specs.declared.arguments.Arguments.{Arguments}
use Rattle.line_words.specs.declared.procap_word.ProcapWord.{ProcapWord}
use Rattle.line_words.specs.declared.procap_word.ProcapWord.TheVariants as words
use Rattle.line_forms.specs.declared.asked.Line.{Line}
use Rattle.line_forms.specs.declared.mode.Mode.{Mode}
use Rattle.line_forms.specs.declared.forms.Form.{Form}
use Rattle.line_forms.specs.declared.forms.Form.TheVariants.{At, As, Login, Register, Withdraw, Procap, Checkpoint, Verify, Check, Do, Statement, Goal}
use Rattle.line_forms.specs.Lines.{IsAsked, kinds_said, IsLineIn}
use Rattle.line_forms.specs.Making.{written_goal}
use Rattle.line_wire.specs.Unbroken.{IsUnbroken}
use Rattle.reply_laws.specs.Brought.{HasUnbrokenTerms, AreUnbroken, IsUnbrokenWord, IsUnbrokenLine}
use Rattle.reply_laws.proofs.GrammarLemmas.{principal_unbroken, term_unbroken, statement_unbroken, grant_unbroken}

-- ---- proofs

said_unbroken : (d : ProofView) → NamesSayable d → HasUnbrokenTerms d
said_unbroken (init h) is = tt
said_unbroken cons_r is = tt
said_unbroken inter_r is = tt
said_unbroken (and_r p q) is = (said_unbroken p is.1.0, said_unbroken q is.1.1)
said_unbroken (or_r1 p) is = said_unbroken p is.1
said_unbroken (or_r2 p) is = said_unbroken p is.1
said_unbroken true_r is = tt
said_unbroken (imp_r p) is = said_unbroken p is.1
said_unbroken (forall_r p) is = said_unbroken p is.1
said_unbroken (exists_r t p) is = (term_unbroken t is.0.0, said_unbroken p is.1)
said_unbroken (says_r p) is = said_unbroken p is.1
said_unbroken (at_r p) is = said_unbroken p is.1
said_unbroken (cons_l h p) is = said_unbroken p is.1
said_unbroken (inter_l h p) is = said_unbroken p is.1
said_unbroken (and_l h p) is = said_unbroken p is.1
said_unbroken (or_l h p q) is = (said_unbroken p is.1.0, said_unbroken q is.1.1)
said_unbroken (false_l h) is = tt
said_unbroken (imp_l h t1 t2 p q) is = ((term_unbroken t1 is.0.1.0.0, term_unbroken t2 is.0.1.1.0), (said_unbroken p is.1.0, said_unbroken q is.1.1))
said_unbroken (forall_l h t p) is = (term_unbroken t is.0.1.0, said_unbroken p is.1)
said_unbroken (exists_l h p) is = said_unbroken p is.1
said_unbroken (says_l h p) is = said_unbroken p is.1
said_unbroken (claim h p) is = said_unbroken p is.1
said_unbroken (at_l h p) is = said_unbroken p is.1

text_unbroken : (text : List ℕ) (d : ProofView) → IsProofText text d → HasUnbrokenTerms d
text_unbroken text d is = said_unbroken d (proof_printable is).names

-- ---- words

-- the name among the arguments, and the procaps
record IsUnbrokenArguments (a : Arguments) : Type 0 where
  pub who : IsUnbroken a.who
  pub procaps : AllByRecursion IsUnbrokenWord a.procaps

-- arguments that have the name and the procaps of others
same_parts : (before after plain : Arguments) → after ≡ plain → plain.who ≡ before.who → plain.procaps ≡ before.procaps → IsUnbrokenArguments before → IsUnbrokenArguments after
same_parts before after plain same who procaps h = record {
  who = subst IsUnbroken (sym who ∙ sym (ap (λ (a : Arguments). a.who) same)) h.who;
  procaps = subst (AllByRecursion IsUnbrokenWord) (sym procaps ∙ sym (ap (λ (a : Arguments). a.procaps) same)) h.procaps;
}

-- one procap more
more_procaps : (before after : Arguments) (given : ProcapWord) → after ≡ record before { procaps = before.procaps ++ given ∷ [] } → IsUnbrokenWord given → IsUnbrokenArguments before → IsUnbrokenArguments after
more_procaps before after given same new h = record {
  who = subst IsUnbroken (sym (ap (λ (a : Arguments). a.who) same)) h.who;
  procaps = subst (AllByRecursion IsUnbrokenWord) (sym (ap (λ (a : Arguments). a.procaps) same)) (AllByRecursion-push IsUnbrokenWord before.procaps given h.procaps new);
}

-- another name
other_name : (word : List ℕ) (before after : Arguments) → IsPrincipal word after.who → after ≡ record before { who = after.who } → IsUnbrokenArguments before → IsUnbrokenArguments after
other_name word before after is same h = record {
  who = subst IsUnbroken (sym is.same) (principal_unbroken word is.named);
  procaps = subst (AllByRecursion IsUnbrokenWord) (sym (ap (λ (a : Arguments). a.procaps) same)) h.procaps;
}

procap_unbroken : (word : List ℕ) (given : ProcapWord) → IsProcapWord word given → IsUnbrokenWord given
procap_unbroken _ _ (by_number digits number is) = tt
procap_unbroken _ _ (by_spelling word p is) = grant_unbroken p.grant is.spelled.grant

set_unbroken : (kind : WordKind) (word : List ℕ) (before after : Arguments) → Sets kind word before after → IsUnbrokenArguments before → IsUnbrokenArguments after
set_unbroken kinds.Node word before after set h = same_parts before after _ set.1 refl refl h
set_unbroken kinds.Target word before after set h = same_parts before after _ set.1 refl refl h
set_unbroken kinds.Name word before after set h = same_parts before after _ set.1 refl refl h
set_unbroken kinds.NewName word before after set h = same_parts before after _ set.1 refl refl h
set_unbroken kinds.Offset word before after set h = same_parts before after _ set.1 refl refl h
set_unbroken kinds.Len word before after set h = same_parts before after _ set.1 refl refl h
set_unbroken kinds.Most word before after set h = same_parts before after _ set.1 refl refl h
set_unbroken kinds.Data word before after set h = same_parts before after _ set.1 refl refl h
set_unbroken kinds.Value word before after set h = same_parts before after _ set.1 refl refl h
set_unbroken kinds.Who word before after set h = other_name word before after set.0 set.1 h
set_unbroken kinds.Permission word before after set h = same_parts before after _ set.1 refl refl h
set_unbroken kinds.Second word before after set h = same_parts before after _ set.1 refl refl h
set_unbroken kinds.Issue word before after set h = same_parts before after _ set.1 refl refl h
set_unbroken kinds.Number word before after set h = same_parts before after _ set.1 refl refl h
set_unbroken kinds.Cited word before after set h = same_parts before after _ set.1 refl refl h
set_unbroken kinds.Signature word before after set h = same_parts before after _ set.1 refl refl h
set_unbroken kinds.Procap word before after set h = more_procaps before after set.0 set.2 (procap_unbroken word set.0 set.1) h
set_unbroken kinds.SignatureHex word before after set h = same_parts before after _ set.2 refl refl h
set_unbroken kinds.ProcapHex word before after set h = more_procaps before after (words.Procap set.0) set.2 (grant_unbroken set.0.grant set.1.spelled.grant) h

words_unbroken : (kinds : List WordKind) (behind : List ℕ) (before after : Arguments) (rest : List ℕ) → AreWords kinds behind before after rest → IsUnbrokenArguments before → IsUnbrokenArguments after
words_unbroken [] behind before after rest are h = subst IsUnbrokenArguments (sym are.0) h
words_unbroken (kind ∷ kinds) [] before after rest are h = absurd are
words_unbroken (kind ∷ kinds) (space ∷ line) before after rest are h =
    words_unbroken kinds (first_cut line).behind are.0 after rest are.2 (set_unbroken kind (first_cut line).word before are.0 are.1 h)

blank_unbroken : IsUnbrokenArguments blank
blank_unbroken = record { who = refl; procaps = tt }

-- ---- lines

proved_unbroken : (a : Arguments) (text : List ℕ) (proof : ProofView) → IsUnbrokenArguments a → IsProofText text proof → AreUnbroken (written_goal a) proof
proved_unbroken a text proof h is = record { who = h.who; terms = text_unbroken text proof is }

asked_unbroken : (form : Form) (a : Arguments) (text : List ℕ) (asked : Line) → IsUnbrokenArguments a → IsAsked form a text asked → IsUnbrokenLine asked
asked_unbroken At a text asked h is = subst IsUnbrokenLine (sym is) tt
asked_unbroken As a text asked h is = subst IsUnbrokenLine (sym is) h.who
asked_unbroken Login a text asked h is = subst IsUnbrokenLine (sym is) h.who
asked_unbroken Register a text asked h is = subst IsUnbrokenLine (sym is.2) (statement_unbroken is.0 (statement_spellable is.1))
asked_unbroken Withdraw a text asked h is = subst IsUnbrokenLine (sym is) tt
asked_unbroken Procap a text asked h is = subst IsUnbrokenLine (sym is) tt
asked_unbroken Checkpoint a text asked h is = subst IsUnbrokenLine (sym is) tt
asked_unbroken Verify a text asked h is = subst IsUnbrokenLine (sym is.2) (proved_unbroken a text is.0 h is.1)
asked_unbroken Check a text asked h is = subst IsUnbrokenLine (sym is.2) (proved_unbroken a text is.0 h is.1)
asked_unbroken (Do operation) a text asked h is = subst IsUnbrokenLine (sym is) h.procaps
asked_unbroken Statement a text asked h is = subst IsUnbrokenLine (sym is.2) (statement_unbroken is.0 (statement_spellable is.1))
asked_unbroken Goal a text asked h is = subst IsUnbrokenLine (sym is.2) (proved_unbroken a text is.0 h is.1)

pub line_unbroken : (mode : Mode) (line : List ℕ) (asked : Line) → IsLineIn mode line asked → IsUnbrokenLine asked
line_unbroken mode line asked is =
    asked_unbroken is.form is.arguments _ asked (words_unbroken (kinds_said mode is.form) is.has_words.behind blank is.arguments is.rest is.has_words.words blank_unbroken) is.asked
