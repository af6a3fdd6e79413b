-- What a line asks for, or its first fault, by what was read of it.
use Rattle.std.proofs.Common.{◌≡◌, ℕ, Bool, true, List, length, Result, Ok, Err, MatchResult, sym, subst}
use Rattle.line_words.specs.declared.kinds.WordKind.{WordKind}
use Rattle.line_words.specs.declared.arguments.Arguments.{Arguments}
use Rattle.line_words.specs.declared.fault.WordFault.{WordFault}
use Rattle.line_words.specs.declared.fault.WordFault.TheVariants as words
use Rattle.line_words.specs.Kinds.{blank, kinds_in}
use Rattle.line_words.specs.Reading.{AreWords, IsBadWord, AreUnread}
use Rattle.line_forms.specs.declared.asked.Line.{Line}
use Rattle.line_forms.specs.declared.mode.Mode.{Mode}
use Rattle.line_forms.specs.declared.forms.Form.{Form}
use Rattle.line_forms.specs.declared.fault.LineFault.{LineFault}
use Rattle.line_forms.specs.declared.fault.LineFault.TheVariants.{BadWord, BadCount, BadText, NoMemory}
use Rattle.line_forms.specs.Faults.{word_fault}
use Rattle.line_forms.specs.Forms.{kinds_of}
use Rattle.line_forms.specs.Modes.{is_session}
use Rattle.line_forms.specs.Heads.{head_in, is_counted, text_of}
use Rattle.line_forms.specs.Lines.{IsAsked, HasTextFault, kinds_said, HasWords, IsLineIn, of_head, of_word, of_text, IsUnreadIn, IsTextUnread}

module _ (mode : Mode) (line : List ℕ) where
  pub unread_head : (fault : LineFault) → head_in mode line ≡ Err fault → IsUnreadIn mode line fault
  unread_head (BadWord place) h = of_head (BadWord place) h
  unread_head BadCount h = of_head BadCount h
  unread_head (BadText fault) h = of_head (BadText fault) h
  unread_head NoMemory h = tt

  pub at_exit : (r : Result Line LineFault) (fault : LineFault) → r ≡ Err fault → IsUnreadIn mode line fault → MatchResult r (IsLineIn mode line) (IsUnreadIn mode line)
  at_exit r fault same h = subst (λ v. MatchResult v (IsLineIn mode line) (IsUnreadIn mode line)) (sym same) h

  has_words : (form : Form) (behind : List ℕ) (out : Bool) (kinds : List WordKind) (start arguments : Arguments) (rest : List ℕ) → head_in mode line ≡ Ok (form, behind) → is_counted form behind ≡ true → out ≡ is_session mode → kinds ≡ kinds_of form
      → start ≡ blank → AreWords (kinds_in out kinds) behind start arguments rest → HasWords mode line form arguments rest
  has_words form behind out kinds start arguments rest head counted out_is kinds_are start_is words = record {
    behind = behind;
    head_is = head;
    counted = counted;
    words =
        subst (λ a. AreWords (kinds_said mode form) behind a arguments rest) start_is
        (subst (λ ks. AreWords (kinds_in (is_session mode) ks) behind start arguments rest) kinds_are (subst (λ o. AreWords (kinds_in o kinds) behind start arguments rest) out_is words));
  }

  asked_of : (form : Form) (arguments : Arguments) (rest text : List ℕ) (r : Result Line LineFault) → HasWords mode line form arguments rest → text ≡ text_of rest → MatchResult r (IsAsked form arguments text) (IsTextUnread form text)
      → MatchResult r (IsLineIn mode line) (IsUnreadIn mode line)
  asked_of form arguments rest text (Ok asked) words text_is h = record {
    form = form;
    arguments = arguments;
    rest = rest;
    has_words = words;
    asked = subst (λ t. IsAsked form arguments t asked) text_is h;
  }
  asked_of form arguments rest text (Err (BadWord place)) words text_is h = absurd h
  asked_of form arguments rest text (Err BadCount) words text_is h = absurd h
  asked_of form arguments rest text (Err (BadText fault)) words text_is h = of_text form arguments rest fault words (subst (λ t. HasTextFault form t fault) text_is h.0) h.1
  asked_of form arguments rest text (Err NoMemory) words text_is h = tt

  pub line_read : (form : Form) (behind : List ℕ) (out : Bool) (kinds : List WordKind) (start arguments : Arguments) (rest text : List ℕ) (r : Result Line LineFault) → head_in mode line ≡ Ok (form, behind) → is_counted form behind ≡ true
      → out ≡ is_session mode → kinds ≡ kinds_of form → start ≡ blank → AreWords (kinds_in out kinds) behind start arguments rest → text ≡ text_of rest → MatchResult r (IsAsked form arguments text) (IsTextUnread form text)
      → MatchResult r (IsLineIn mode line) (IsUnreadIn mode line)
  line_read form behind out kinds start arguments rest text r head counted out_is kinds_are start_is words text_is h =
      asked_of form arguments rest text r (has_words form behind out kinds start arguments rest head counted out_is kinds_are start_is words) text_is h

  unread_words : (form : Form) (behind : List ℕ) (out : Bool) (kinds : List WordKind) (fault : WordFault) → head_in mode line ≡ Ok (form, behind) → is_counted form behind ≡ true → out ≡ is_session mode → kinds ≡ kinds_of form
      → AreUnread (length line) (kinds_in out kinds) behind fault → IsUnreadIn mode line (word_fault fault)
  unread_words form behind out kinds (words.Bad place) head counted out_is kinds_are bad =
      of_word form behind place head counted
      (subst (λ ks. IsBadWord (length line) (kinds_in (is_session mode) ks) behind place) kinds_are (subst (λ o. IsBadWord (length line) (kinds_in o kinds) behind place) out_is bad))
  unread_words form behind out kinds words.NoMemory head counted out_is kinds_are bad = tt

  pub words_unread : (form : Form) (behind : List ℕ) (out : Bool) (kinds : List WordKind) (fault : WordFault) (told : LineFault) → head_in mode line ≡ Ok (form, behind) → is_counted form behind ≡ true → out ≡ is_session mode → kinds ≡ kinds_of form
      → AreUnread (length line) (kinds_in out kinds) behind fault → told ≡ word_fault fault → IsUnreadIn mode line told
  words_unread form behind out kinds fault told head counted out_is kinds_are bad told_is = subst (IsUnreadIn mode line) (sym told_is) (unread_words form behind out kinds fault head counted out_is kinds_are bad)
