-- Lines that are signed one after the other.
use Rattle.std.proofs.Common.{◌≡◌, ◌≢◌, ◌≤◌, ◌<◌, ℕ, suc, ◌+◌, ◌^◌, List, [], ◌∷◌, ◌++◌, length, codes, Option, Some, None, Ok, Err, refl, sym, ap, ap₂, subst, ◌∙◌, append_assoc, arith}
use Rattle.std.specs.Prelude.{Result, IfOk}
use Rattle.std.specs.Fmt.{decimal}
use Rattle.std.proofs.lemmas.List.{append-nil}
use Rattle.bl_syntax.specs.Statement.{StatementView}
use Rattle.bl_syntax.specs.declared.lists.NoMemory.{NoMemory as OutOfMemory}
use Rattle.bl_tokens.specs.declared.faults.TextFault.{TextFault}
use Rattle.bl_tokens.specs.declared.faults.TextFault.TheVariants as texts
use Rattle.bl_text.specs.Texts.{IsStatementText, StatementFault}
use Rattle.line_forms.specs.declared.fault.LineFault.{LineFault}
use Rattle.line_forms.specs.declared.fault.LineFault.TheVariants.{BadText}
use Rattle.line_text.specs.HexWord.{hex_word}
use Rattle.line_text.specs.Lines.{lines_of}
use Rattle.merkle_sig.specs.Signature.{signature_of}
use Rattle.merkle_sig.specs.Signer.{SignerView, Signs, signs, spent}
use Rattle.merkle_sig.specs.declared.signer.SignFault.TheVariants.{Spent}
use Rattle.policy_statement.specs.Messages.{statement_message}
use Rattle.root_signing.specs.Reading.{SignsLine, SignsStatement}
use Rattle.root_signing.specs.Signed.{Decides, SignsLines, all_signed, decided, fault_line, register_line, signed, wrong}
use Rattle.root_signing.specs.Signed as ends
use Rattle.root_signing.specs.SigningLines.{IsStatementFault, SaysStatement, of_statement_text}

-- ---- one statement

signs_so : (s after : SignerView) (message signature : List ℕ) → Signs s message (Ok signature) after → (s.next < 2 ^ s.height) × (after ≡ record s { next = s.next + 1 }) × (signature ≡ signature_of s.seed s.height s.next message)
signs_so s _ message _ (signs left) = (left, refl, refl)

pub signs_now : (s after : SignerView) (text message signature written : List ℕ) (said : StatementView) → message ≡ statement_message said → Signs s message (Ok signature) after
    → written ≡ codes "register " ++ (hex_word signature ++ 32 ∷ (text ++ 10 ∷ [])) → SignsStatement s text said None after written
signs_now s after text message signature written said message_is gives written_is =
    let so = signs_so s after message signature gives in
    let same : signature ≡ signature_of s.seed s.height s.next (statement_message said) = so.2 ∙ ap (signature_of s.seed s.height s.next) message_is in
    (so.0, so.1, written_is ∙ ap (λ (b : List ℕ). codes "register " ++ (hex_word b ++ 32 ∷ (text ++ 10 ∷ []))) same)

none_left : (s after : SignerView) (message : List ℕ) → Signs s message (Err Spent) after → s.next ≡ 2 ^ s.height
none_left s _ message (spent at_end) = at_end

pub finds_none : (s after : SignerView) (text message written : List ℕ) (said : StatementView) (leaves : ℕ) → leaves ≡ 2 ^ s.height → Signs s message (Err Spent) after
    → written ≡ codes "leaves " ++ (decimal leaves ++ 10 ∷ []) → SignsStatement s text said (Some 18) after written
finds_none s after text message written said leaves leaves_are gives written_is =
    (none_left s after message gives, refl, written_is ∙ ap (λ (n : ℕ). codes "leaves " ++ (decimal n ++ 10 ∷ [])) leaves_are)

-- ---- one line

says_line : (s : SignerView) (number : ℕ) (line text : List ℕ) (said : StatementView) (status : Option ℕ) (after : SignerView) (written : List ℕ) → SaysStatement line text said → SignsStatement s text said status after written
    → SignsLine s number line status after written
says_line s number line text said None after written says h = (text, said, says, h)
says_line s number line text said (Some status) after written says h =
    subst (λ (n : ℕ). Decides s.height s.next number line n written) (sym h.1) (subst (Decides s.height s.next number line 18) (sym h.2) (ends.spent text said says h.0))

-- what was written of a statement was written of its line
pub line_said : (r : Result (Option ℕ) OutOfMemory) (s : SignerView) (number : ℕ) (line text : List ℕ) (said : StatementView) (after : SignerView) (old new : List ℕ) → line ≡ codes "statement" ++ 32 ∷ text → IsStatementText text said
    → IfOk r (λ (status : Option ℕ). (written : List ℕ) × SignsStatement s text said status after written × (new ≡ old ++ written))
    → IfOk r (λ (status : Option ℕ). (written : List ℕ) × SignsLine s number line status after written × (new ≡ old ++ written))
line_said (Ok status) s number line text said after old new line_is text_is h = (h.0, says_line s number line text said status after h.0 (record { line_is = line_is; text_is = text_is }) h.1, h.2)
line_said (Err refused) s number line text said after old new line_is text_is h = tt

-- a wrong line decides the status
pub line_wrong : (r : Result (Option ℕ) OutOfMemory) (s : SignerView) (number : ℕ) (line : List ℕ) (fault : LineFault) (after : SignerView) (old new : List ℕ) → IsStatementFault line fault → IfOk r (λ (status : Option ℕ). status ≡ Some 12)
    → IfOk r (λ (status : Option ℕ). new ≡ old ++ fault_line number fault) → IfOk r (λ (status : Option ℕ). (written : List ℕ) × SignsLine s number line status after written × (new ≡ old ++ written))
line_wrong (Ok status) s number line fault after old new h decides written =
    (fault_line number fault, subst (λ (o : Option ℕ). SignsLine s number line o after (fault_line number fault)) (sym decides) (wrong fault h), written)
line_wrong (Err refused) s number line fault after old new h decides written = tt

-- as a line does whose text is wrong
pub line_wrong_text : (r : Result (Option ℕ) OutOfMemory) (s : SignerView) (number : ℕ) (line text : List ℕ) (fault : TextFault) (after : SignerView) (old new : List ℕ) → line ≡ codes "statement" ++ 32 ∷ text → StatementFault text fault
    → IfOk r (λ (status : Option ℕ). status ≡ Some 12) → IfOk r (λ (status : Option ℕ). new ≡ old ++ fault_line number (BadText fault)) → IfOk r (λ (status : Option ℕ). fault ≢ texts.NoMemory)
    → IfOk r (λ (status : Option ℕ). (written : List ℕ) × SignsLine s number line status after written × (new ≡ old ++ written))
line_wrong_text (Ok status) s number line text fault after old new is h decides written told = line_wrong (Ok status) s number line (BadText fault) after old new (of_statement_text text fault is h told) decides written
line_wrong_text (Err refused) s number line text fault after old new is h decides written told = tt

-- ---- one line after the other

-- the lines before the rest were signed, and the rest decides the status and what is written after that
pub record HasSigned (start : SignerView) (text before : List ℕ) (s : SignerView) (rest out : List ℕ) (number : ℕ) : Type 0 where
  pub so_far : List ℕ
  pub out_is : out ≡ before ++ so_far
  pub seed_is : s.seed ≡ start.seed
  pub height_is : s.height ≡ start.height
  pub ends : (status : ℕ) (written : List ℕ) → SignsLines start.seed start.height s.next number (lines_of rest) status written → SignsLines start.seed start.height start.next 2 (lines_of text) status (so_far ++ written)
  pub few : number + length rest ≤ length text + 2

pub HasSigned-nothing : (start : SignerView) (text before : List ℕ) → HasSigned start text before start text before 2
HasSigned-nothing start text before = record {
  so_far = [];
  out_is = sym (append-nil before);
  seed_is = refl;
  height_is = refl;
  ends = λ status written h. h;
  few = omega arith;
}

-- what the lines after a signed one come to, the line and they come to
with_line : (start s after : SignerView) (rest line others : List ℕ) (number : ℕ) (text : List ℕ) (said : StatementView) (status : ℕ) (written : List ℕ) → s.height ≡ start.height → lines_of rest ≡ line ∷ lines_of others → SaysStatement line text said
    → s.next < 2 ^ s.height → after ≡ record s { next = s.next + 1 } → SignsLines start.seed start.height after.next (number + 1) (lines_of others) status written
    → SignsLines start.seed start.height s.next number (lines_of rest) status (register_line start.seed start.height s.next text said ++ written)
with_line start s after rest line others number text said status written height_is lines_are says left after_is more =
    let next : after.next ≡ s.next + 1 = ap (λ (a : SignerView). a.next) after_is in
    let moved : SignsLines start.seed start.height (s.next + 1) (number + 1) (lines_of others) status written = subst (λ (n : ℕ). SignsLines start.seed start.height n (number + 1) (lines_of others) status written) next more in
    let low : s.next < 2 ^ start.height = subst (λ (h : ℕ). s.next < 2 ^ h) height_is left in
    subst (λ (ls : List (List ℕ)). SignsLines start.seed start.height s.next number ls status (register_line start.seed start.height s.next text said ++ written)) (sym lines_are)
    (signed s.next number line (lines_of others) text said status written says low moved)

same_line : (start s : SignerView) (text : List ℕ) (said : StatementView) → s.seed ≡ start.seed → s.height ≡ start.height → register_line s.seed s.height s.next text said ≡ register_line start.seed start.height s.next text said
same_line start s text said seed_is height_is = ap₂ (λ (seed : List ℕ) (height : ℕ). register_line seed height s.next text said) seed_is height_is

pub HasSigned-more : (start : SignerView) (text before : List ℕ) (s after : SignerView) (rest out line others new : List ℕ) (number : ℕ) → HasSigned start text before s rest out number → lines_of rest ≡ line ∷ lines_of others
    → suc (length others) ≤ length rest → (h : (written : List ℕ) × SignsLine s number line None after written × (new ≡ out ++ written)) → HasSigned start text before after others new (number + 1)
HasSigned-more start text before s after rest out line others new number has lines_are shorter (piece, (said_text, said, says, (left, after_is, piece_is)), new_is) =
    let written_is : piece ≡ register_line start.seed start.height s.next said_text said = piece_is ∙ same_line start s said_text said has.seed_is has.height_is in
    record {
      so_far = has.so_far ++ piece;
      out_is = new_is ∙ ap (λ (b : List ℕ). b ++ piece) has.out_is ∙ append_assoc before has.so_far piece;
      seed_is = ap (λ (a : SignerView). a.seed) after_is ∙ has.seed_is;
      height_is = ap (λ (a : SignerView). a.height) after_is ∙ has.height_is;
      ends = λ status written more.
          let whole = has.ends status (register_line start.seed start.height s.next said_text said ++ written)
          (with_line start s after rest line others number said_text said status written has.height_is lines_are says left after_is more) in
          let same : has.so_far ++ (register_line start.seed start.height s.next said_text said ++ written) ≡ (has.so_far ++ piece) ++ written =
          ap (λ (b : List ℕ). has.so_far ++ (b ++ written)) (sym written_is) ∙ sym (append_assoc has.so_far piece written) in
          subst (SignsLines start.seed start.height start.next 2 (lines_of text) status) same whole;
      few = omega (arith, has.few, shorter);
    }

-- no line is left
pub all_are_signed : (start : SignerView) (text before : List ℕ) (s : SignerView) (rest out : List ℕ) (number : ℕ) → HasSigned start text before s rest out number → rest ≡ []
    → (written : List ℕ) × SignsLines start.seed start.height start.next 2 (lines_of text) 0 written × (out ≡ before ++ written)
all_are_signed start text before s rest out number has none =
    let nothing : SignsLines start.seed start.height s.next number (lines_of rest) 0 [] = subst (λ (r : List ℕ). SignsLines start.seed start.height s.next number (lines_of r) 0 []) (sym none) (all_signed s.next number) in
    let whole = has.ends 0 [] nothing in
    (has.so_far, subst (SignsLines start.seed start.height start.next 2 (lines_of text) 0) (append-nil has.so_far) whole, has.out_is)

-- the line decides the status
pub line_decides : (start : SignerView) (text before : List ℕ) (s after : SignerView) (rest out line others new : List ℕ) (number status : ℕ) → HasSigned start text before s rest out number → lines_of rest ≡ line ∷ lines_of others
    → (h : (written : List ℕ) × SignsLine s number line (Some status) after written × (new ≡ out ++ written))
    → (written : List ℕ) × SignsLines start.seed start.height start.next 2 (lines_of text) status written × (new ≡ before ++ written)
line_decides start text before s after rest out line others new number status has lines_are (piece, decides, new_is) =
    let moved : Decides start.height s.next number line status piece = subst (λ (h : ℕ). Decides h s.next number line status piece) has.height_is decides in
    let last : SignsLines start.seed start.height s.next number (lines_of rest) status piece =
    subst (λ (ls : List (List ℕ)). SignsLines start.seed start.height s.next number ls status piece) (sym lines_are) (decided s.next number line (lines_of others) status piece moved) in
    (has.so_far ++ piece, has.ends status piece last, new_is ∙ ap (λ (b : List ℕ). b ++ piece) has.out_is ∙ append_assoc before has.so_far piece)
