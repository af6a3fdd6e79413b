-- A line asks for one command, or has one first fault.
use Rattle.std.proofs.Common.{◌≡◌, ◌≢◌, ℕ, List, Result, Ok, Err, inl, inr, refl, sym, ap, ◌∙◌, subst}
use Rattle.std.proofs.lemmas.Bool.{false≢true}
use Rattle.bl_tokens.specs.declared.faults.TextFault.{TextFault}
use Rattle.bl_tokens.specs.declared.faults.TextFault.TheVariants as texts
use Rattle.bl_text.specs.Texts.{AreOneFault}
use Rattle.bl_text.proofs.TextLemmas.{saying_once, statement_or_fault, statement_fault_once}
use Rattle.proof_text.proofs.TextLemmas.{proof_once, proof_or_fault, fault_once}
use Rattle.line_words.specs.Kinds.{blank}
use Rattle.line_words.specs.Reading.{AreWords, IsBadWord}
use Rattle.line_words.specs.declared.arguments.Arguments.{Arguments}
use Rattle.line_words.proofs.ReadingLemmas.{AreWords-unique, words_or_bad, bad_once}
use Rattle.line_forms.specs.declared.asked.Line.{Line}
use Rattle.line_forms.specs.declared.asked.Line.TheVariants as lines
use Rattle.line_forms.specs.declared.mode.Mode.{Mode}
use Rattle.line_forms.specs.declared.command.Command.{Command}
use Rattle.line_forms.specs.declared.command.Command.TheVariants as commands
use Rattle.line_forms.specs.declared.forms.Form.{Form}
use Rattle.line_forms.specs.declared.forms.Form.TheVariants.{At, As, Login, Register, Withdraw, Procap, Checkpoint, Verify, Check, Do, Statement, Goal}
use Rattle.line_forms.specs.declared.fault.LineFault.{LineFault}
use Rattle.line_forms.specs.declared.fault.LineFault.TheVariants.{BadWord, BadText}
use Rattle.proof_term.specs.Proof.{ProofView}
use Rattle.proof_text.specs.Texts.{IsProofText}
use Rattle.line_forms.specs.Making.{written_goal}
use Rattle.line_forms.specs.Heads.{Head, head_in, is_counted, text_of}
use Rattle.line_forms.specs.Lines.{IsAsked, HasTextFault, kinds_said, HasWords, IsLineIn, IsLineFaultIn, of_head, of_count, of_word, of_text, IsLine, IsLineFault}

abbrev head : Form → List ℕ → Head
head form behind = (form, behind)

-- a line has one form
pub record AreOneHead (f g : Form) (x y : List ℕ) : Type 0 where
  pub form : f ≡ g
  pub behind : x ≡ y

pub one_head : (mode : Mode) (line : List ℕ) {x y : List ℕ} {f g : Form} → head_in mode line ≡ Ok (f, x) → head_in mode line ≡ Ok (g, y) → AreOneHead f g x y
one_head mode line {x} {y} {f} {g} h k =
    let both : ◌≡◌ {A = Result Head LineFault} (Ok (head f x)) (Ok (head g y)) = sym h ∙ k in
    let pairs : head f x ≡ head g y = cc in
    record { form = ap (λ (p : Head). p.0) pairs; behind = ap (λ (p : Head). p.1) pairs }

pub no_head : (mode : Mode) (line : List ℕ) {x : List ℕ} {f : Form} {fault : LineFault} → head_in mode line ≡ Ok (f, x) → head_in mode line ≡ Err fault → ⊥
no_head mode line {x} {f} {fault} h k = let both : ◌≡◌ {A = Result Head LineFault} (Ok (head f x)) (Err fault) = sym h ∙ k in absurd (cc)

-- and its words write one thing
pub record AreOneReading (f g : Form) (a b : Arguments) (x y : List ℕ) : Type 0 where
  pub form : f ≡ g
  pub arguments : a ≡ b
  pub rest : x ≡ y

pub HasWords-unique : {mode : Mode} {line : List ℕ} {f g : Form} {a b : Arguments} {x y : List ℕ} → HasWords mode line f a x → HasWords mode line g b y → AreOneReading f g a b x y
HasWords-unique {mode} {line} {f} {g} {a} {b} {x} {y} h k =
    let one = one_head mode line h.head_is k.head_is in
    let words : AreWords (kinds_said mode f) h.behind blank b y =
    subst (λ v. AreWords (kinds_said mode f) v blank b y) (sym one.behind) (subst (λ form. AreWords (kinds_said mode form) k.behind blank b y) (sym one.form) k.words) in
    let same = AreWords-unique (kinds_said mode f) h.behind blank a b x y h.words words in
    record { form = one.form; arguments = same.0; rest = same.1 }

-- ---- what is asked

goal_once : (a : Arguments) (wrap : ProofView → Line) (text : List ℕ) (first second : Line) → (p : ProofView) × IsProofText text p × (first ≡ wrap p) → (p : ProofView) × IsProofText text p × (second ≡ wrap p) → first ≡ second
goal_once a wrap text first second h k = h.2 ∙ ap wrap (proof_once h.1 k.1) ∙ sym k.2

IsAsked-unique : (form : Form) (a : Arguments) (text : List ℕ) (first second : Line) → IsAsked form a text first → IsAsked form a text second → first ≡ second
IsAsked-unique At a text first second h k = h ∙ sym k
IsAsked-unique As a text first second h k = h ∙ sym k
IsAsked-unique Login a text first second h k = h ∙ sym k
IsAsked-unique Register a text first second h k = h.2 ∙ ap (λ s. lines.Command (commands.Register a.signature s)) (saying_once h.1.is_text k.1.is_text) ∙ sym k.2
IsAsked-unique Withdraw a text first second h k = h ∙ sym k
IsAsked-unique Procap a text first second h k = h ∙ sym k
IsAsked-unique Checkpoint a text first second h k = h ∙ sym k
IsAsked-unique Verify a text first second h k = goal_once a (λ p. lines.Command (commands.Verify (written_goal a) a.cited p)) text first second h k
IsAsked-unique Check a text first second h k = goal_once a (λ p. lines.Command (commands.Check (written_goal a) a.cited p)) text first second h k
IsAsked-unique (Do operation) a text first second h k = h ∙ sym k
IsAsked-unique Statement a text first second h k = h.2 ∙ ap lines.Statement (saying_once h.1.is_text k.1.is_text) ∙ sym k.2
IsAsked-unique Goal a text first second h k = goal_once a (λ p. lines.Goal (written_goal a) p) text first second h k

pub one_line : {mode : Mode} {line : List ℕ} {first second : Line} → IsLineIn mode line first → IsLineIn mode line second → first ≡ second
one_line {mode} {line} {first} {second} h k =
    let one = HasWords-unique h.has_words k.has_words in
    let by_form : IsAsked h.form k.arguments (text_of k.rest) second = subst (λ f. IsAsked f k.arguments (text_of k.rest) second) (sym one.form) k.asked in
    let by_words : IsAsked h.form h.arguments (text_of k.rest) second = subst (λ a. IsAsked h.form a (text_of k.rest) second) (sym one.arguments) by_form in
    let asked : IsAsked h.form h.arguments (text_of h.rest) second = subst (λ r. IsAsked h.form h.arguments (text_of r) second) (sym one.rest) by_words in
    IsAsked-unique h.form h.arguments (text_of h.rest) first second h.asked asked

same_command : {first second : Command} → lines.Command first ≡ lines.Command second → first ≡ second
same_command same = cc

pub IsLine-unique : {line : List ℕ} {first second : Command} → IsLine line first → IsLine line second → first ≡ second
IsLine-unique h k = same_command (one_line h k)

-- ---- faults

asked_or_fault : (form : Form) (a : Arguments) (text : List ℕ) (asked : Line) (fault : TextFault) → IsAsked form a text asked → HasTextFault form text fault → fault ≡ texts.NoMemory
asked_or_fault At a text asked fault h k = absurd k
asked_or_fault As a text asked fault h k = absurd k
asked_or_fault Login a text asked fault h k = absurd k
asked_or_fault Register a text asked fault h k = statement_or_fault h.1 k
asked_or_fault Withdraw a text asked fault h k = absurd k
asked_or_fault Procap a text asked fault h k = absurd k
asked_or_fault Checkpoint a text asked fault h k = absurd k
asked_or_fault Verify a text asked fault h k = proof_or_fault h.1 k
asked_or_fault Check a text asked fault h k = proof_or_fault h.1 k
asked_or_fault (Do operation) a text asked fault h k = absurd k
asked_or_fault Statement a text asked fault h k = statement_or_fault h.1 k
asked_or_fault Goal a text asked fault h k = proof_or_fault h.1 k

-- the same reading of the same line
transported : {f g : Form} {x y : List ℕ} (fault : TextFault) → f ≡ g → x ≡ y → HasTextFault g (text_of y) fault → HasTextFault f (text_of x) fault
transported {f} {g} {x} {y} fault same rest h =
    subst (λ r. HasTextFault f (text_of r) fault) (sym rest) (subst (λ form. HasTextFault form (text_of y) fault) (sym same) h)

-- words of a line, and a bad one among them
words_not_bad : {mode : Mode} {line : List ℕ} {f g : Form} {a : Arguments} {x behind : List ℕ} {whole place : ℕ} → HasWords mode line f a x → head_in mode line ≡ Ok (g, behind) → IsBadWord whole (kinds_said mode g) behind place → ⊥
words_not_bad {mode} {line} {f} {g} {a} {x} {behind} h head bad =
    let one = one_head mode line h.head_is head in
    let words : AreWords (kinds_said mode g) behind blank a x =
    subst (λ v. AreWords (kinds_said mode g) v blank a x) one.behind (subst (λ form. AreWords (kinds_said mode form) h.behind blank a x) one.form h.words) in
    words_or_bad bad blank a x words

-- a right number of words, and a wrong one
same_count : (mode : Mode) (line : List ℕ) {f g : Form} {x y : List ℕ} → head_in mode line ≡ Ok (f, x) → head_in mode line ≡ Ok (g, y) → is_counted f x ≡ is_counted g y
same_count mode line {f} {g} {x} {y} h k =
    let one = one_head mode line h k in
    ap (λ form. is_counted form x) one.form ∙ ap (λ v. is_counted g v) one.behind

pub line_or_fault : {mode : Mode} {line : List ℕ} {asked : Line} {fault : LineFault} → IsLineIn mode line asked → IsLineFaultIn mode line fault → ⊥
line_or_fault {mode} {line} h (of_head fault is) = no_head mode line h.has_words.head_is is
line_or_fault {mode} {line} h (of_count form behind head wrong) = false≢true (sym wrong ∙ sym (same_count mode line h.has_words.head_is head) ∙ h.has_words.counted)
line_or_fault {mode} {line} h (of_word form behind place head counted bad) = words_not_bad h.has_words head bad
line_or_fault {mode} {line} {asked} h (of_text form arguments rest fault words is some) =
    let one = HasWords-unique h.has_words words in
    some (asked_or_fault h.form h.arguments (text_of h.rest) asked fault h.asked (transported fault one.form one.rest is))

pub command_or_fault : {line : List ℕ} {command : Command} {fault : LineFault} → IsLine line command → IsLineFault line fault → ⊥
command_or_fault h k = line_or_fault h k

-- two first faults of a text are one
one_if_told : {e f : TextFault} → AreOneFault e f → e ≢ texts.NoMemory → f ≢ texts.NoMemory → e ≡ f
one_if_told h first second = elim h [ inl none ↦ absurd (first none) | inr more ↦ elim more [ inl none ↦ absurd (second none) | inr same ↦ same ] ]

text_fault_once : (form : Form) (text : List ℕ) (e f : TextFault) → HasTextFault form text e → HasTextFault form text f → e ≢ texts.NoMemory → f ≢ texts.NoMemory → e ≡ f
text_fault_once At text e f h k first second = absurd h
text_fault_once As text e f h k first second = absurd h
text_fault_once Login text e f h k first second = absurd h
text_fault_once Register text e f h k first second = one_if_told (statement_fault_once h k) first second
text_fault_once Withdraw text e f h k first second = absurd h
text_fault_once Procap text e f h k first second = absurd h
text_fault_once Checkpoint text e f h k first second = absurd h
text_fault_once Verify text e f h k first second = one_if_told (fault_once h k) first second
text_fault_once Check text e f h k first second = one_if_told (fault_once h k) first second
text_fault_once (Do operation) text e f h k first second = absurd h
text_fault_once Statement text e f h k first second = one_if_told (statement_fault_once h k) first second
text_fault_once Goal text e f h k first second = one_if_told (fault_once h k) first second

one_of_heads : (mode : Mode) (line : List ℕ) {e f : LineFault} → head_in mode line ≡ Err e → head_in mode line ≡ Err f → e ≡ f
one_of_heads mode line {e} {f} h k = let both : ◌≡◌ {A = Result Head LineFault} (Err e) (Err f) = sym h ∙ k in cc

one_bad_place : (mode : Mode) (line : List ℕ) {f g : Form} {x y : List ℕ} {whole first second : ℕ} → head_in mode line ≡ Ok (f, x) → head_in mode line ≡ Ok (g, y) → IsBadWord whole (kinds_said mode f) x first → IsBadWord whole (kinds_said mode g) y second → first ≡ second
one_bad_place mode line {f} {g} {x} {y} {whole} {first} {second} h k bad other =
    let one = one_head mode line h k in
    let moved : IsBadWord whole (kinds_said mode f) x second =
    subst (λ v. IsBadWord whole (kinds_said mode f) v second) (sym one.behind) (subst (λ form. IsBadWord whole (kinds_said mode form) y second) (sym one.form) other) in
    bad_once bad second moved

pub one_fault : {mode : Mode} {line : List ℕ} {first : LineFault} → IsLineFaultIn mode line first → (second : LineFault) → IsLineFaultIn mode line second → first ≡ second
one_fault {mode} {line} (of_head e is) second (of_head f other) = one_of_heads mode line is other
one_fault {mode} {line} (of_head e is) second (of_count g y head wrong) = absurd (no_head mode line head is)
one_fault {mode} {line} (of_head e is) second (of_word g y p head counted bad) = absurd (no_head mode line head is)
one_fault {mode} {line} (of_head e is) second (of_text g b y f words h some) = absurd (no_head mode line words.head_is is)
one_fault {mode} {line} (of_count f x head wrong) second (of_head e is) = absurd (no_head mode line head is)
one_fault {mode} {line} (of_count f x head wrong) second (of_count g y other still) = refl
one_fault {mode} {line} (of_count f x head wrong) second (of_word g y p other counted bad) = absurd (false≢true (sym wrong ∙ same_count mode line head other ∙ counted))
one_fault {mode} {line} (of_count f x head wrong) second (of_text g b y e words h some) = absurd (false≢true (sym wrong ∙ same_count mode line head words.head_is ∙ words.counted))
one_fault {mode} {line} (of_word f x place head counted bad) second (of_head e is) = absurd (no_head mode line head is)
one_fault {mode} {line} (of_word f x place head counted bad) second (of_count g y other wrong) = absurd (false≢true (sym wrong ∙ same_count mode line other head ∙ counted))
one_fault {mode} {line} (of_word f x place head counted bad) second (of_word g y p other fits worse) = ap BadWord (one_bad_place mode line head other bad worse)
one_fault {mode} {line} (of_word f x place head counted bad) second (of_text g b y e words h some) = absurd (words_not_bad words head bad)
one_fault {mode} {line} (of_text f a x e words h some) second (of_head fault is) = absurd (no_head mode line words.head_is is)
one_fault {mode} {line} (of_text f a x e words h some) second (of_count g y head wrong) = absurd (false≢true (sym wrong ∙ same_count mode line head words.head_is ∙ words.counted))
one_fault {mode} {line} (of_text f a x e words h some) second (of_word g y p head counted bad) = absurd (words_not_bad words head bad)
one_fault {mode} {line} (of_text f a x e words h some) second (of_text g b y d other k more) =
    let one = HasWords-unique words other in
    ap BadText (text_fault_once f (text_of x) e d h (transported d one.form one.rest k) some more)
