-- What a line of the control file asks, or that it asks nothing.
use Rattle.std.proofs.Common.{◌≡◌, ◌≢◌, List, ℕ, ◌++◌, codes, Option, Some, None, refl, sym, ap, ◌∙◌, subst}
use Rattle.std.proofs.lemmas.List.{append_cancel_left}
use Rattle.line_text.specs.Words.{HasNo}
use Rattle.line_text.proofs.HexLemmas.{IsHex-same}
use Rattle.line_text.proofs.WordLemmas.{same_words, HasNo-principal, differ}
use Rattle.line_words.specs.Grammar.{IsPrincipal, IsSignatureHex}
use Rattle.line_words.specs.Procaps.{IsProcapHex}
use Rattle.line_words.proofs.ProcapLemmas.{IsProcapHex-same}
use Rattle.procap.specs.declared.procap.Procap.{Procap}
use Rattle.nine_fids.specs.declared.control.Control.{Control}
use Rattle.nine_fids.specs.declared.control.Control.TheVariants.{Login, Brings, Empties}
use Rattle.nine_fids.specs.Control.{AreLoginWords, IsControlLine, IsAskedOf, line_in}

-- ---- the words of a login

pub no_name : (words name word : List ℕ) → HasNo 32 name → words ≡ name ++ (codes " " ++ word) → ((who : List ℕ) → IsPrincipal name who → ⊥) → (who signature : List ℕ) → AreLoginWords words who signature → ⊥
no_name words name word unbroken words_are none who signature h =
    let same = same_words (codes " ") h.name name h.word word refl (HasNo-principal h.name h.names.named) unbroken (sym h.words_are ∙ words_are) in
    none who (subst (λ (w : List ℕ). IsPrincipal w who) same.word h.names)

pub no_signature : (words name word : List ℕ) → HasNo 32 name → words ≡ name ++ (codes " " ++ word) → ((signature : List ℕ) → IsSignatureHex word signature → ⊥) → (who signature : List ℕ) → AreLoginWords words who signature → ⊥
no_signature words name word unbroken words_are none who signature h =
    let same = same_words (codes " ") h.name name h.word word refl (HasNo-principal h.name h.names.named) unbroken (sym h.words_are ∙ words_are) in
    none signature (subst (λ (w : List ℕ). IsSignatureHex w signature) same.rest h.signs)

-- ---- lines

pub no_login_line : (words : List ℕ) → ((who signature : List ℕ) → AreLoginWords words who signature → ⊥) → (c : Control) → IsControlLine (codes "login " ++ words) c → ⊥
no_login_line words none (Login who signature) h =
    none who signature (subst (λ (w : List ℕ). AreLoginWords w who signature) (sym (append_cancel_left (codes "login ") words h.0 h.1)) h.2)
no_login_line words none (Brings p) h = differ 0 refl h.1
no_login_line words none Empties h = differ 0 refl h

pub no_procap_line : (word : List ℕ) → ((p : Procap) → IsProcapHex word p → ⊥) → (c : Control) → IsControlLine (codes "procap " ++ word) c → ⊥
no_procap_line word none (Login who signature) h = differ 0 refl h.1
no_procap_line word none (Brings p) h =
    none p (subst (λ (w : List ℕ). IsProcapHex w p) (sym (append_cancel_left (codes "procap ") word h.0 h.1)) h.2)
no_procap_line word none Empties h = differ 0 refl h

pub no_short_line : (line : List ℕ) → ((words : List ℕ) → line ≢ codes "login " ++ words) → ((word : List ℕ) → line ≢ codes "procap " ++ word) → (line ≡ codes "drop" → ⊥) → (c : Control) → IsControlLine line c → ⊥
no_short_line line not_login not_procap not_drop (Login who signature) h = not_login h.0 h.1
no_short_line line not_login not_procap not_drop (Brings p) h = not_procap h.0 h.1
no_short_line line not_login not_procap not_drop Empties h = not_drop h

-- ---- one meaning

pub login_once : (words others who signature name sign : List ℕ) → words ≡ others → AreLoginWords words who signature → AreLoginWords others name sign → (who ≡ name) × (signature ≡ sign)
login_once words others who signature name sign is h k =
    let same = same_words (codes " ") h.name k.name h.word k.word refl (HasNo-principal h.name h.names.named) (HasNo-principal k.name k.names.named) (sym h.words_are ∙ is ∙ k.words_are) in
    let signs = subst (λ (w : List ℕ). IsSignatureHex w signature) same.rest h.signs in
    (h.names.same ∙ same.word ∙ sym k.names.same, IsHex-same k.word signature sign signs.hex k.signs.hex)

pub control_once : (line : List ℕ) (c d : Control) → IsControlLine line c → IsControlLine line d → c ≡ d
control_once line (Login who signature) (Login name sign) h k =
    let words : h.0 ≡ k.0 = append_cancel_left (codes "login ") h.0 k.0 (sym h.1 ∙ k.1) in
    let same = login_once h.0 k.0 who signature name sign words h.2 k.2 in
    ap (λ (w : List ℕ). Login w signature) same.0 ∙ ap (Login name) same.1
control_once line (Login who signature) (Brings p) h k = absurd (differ 0 refl (sym h.1 ∙ k.1))
control_once line (Login who signature) Empties h k = absurd (differ 0 refl (sym h.1 ∙ k))
control_once line (Brings p) (Login who signature) h k = absurd (differ 0 refl (sym h.1 ∙ k.1))
control_once line (Brings p) (Brings q) h k =
    let words : h.0 ≡ k.0 = append_cancel_left (codes "procap ") h.0 k.0 (sym h.1 ∙ k.1) in
    ap Brings (IsProcapHex-same k.0 p q (subst (λ (w : List ℕ). IsProcapHex w p) words h.2) k.2)
control_once line (Brings p) Empties h k = absurd (differ 0 refl (sym h.1 ∙ k))
control_once line Empties (Login who signature) h k = absurd (differ 0 refl (sym h ∙ k.1))
control_once line Empties (Brings p) h k = absurd (differ 0 refl (sym h ∙ k.1))
control_once line Empties Empties h k = refl

pub asked_once : (bytes : List ℕ) (asked other : Option Control) → IsAskedOf bytes asked → IsAskedOf bytes other → asked ≡ other
asked_once bytes None None h k = refl
asked_once bytes None (Some d) h k = absurd (h d k)
asked_once bytes (Some c) None h k = absurd (k c h)
asked_once bytes (Some c) (Some d) h k = ap Some (control_once (line_in bytes) c d h k)
