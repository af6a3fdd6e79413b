-- Where printed bytes stand in a text, and the tokens there.
use Rattle.std.proofs.Common.{◌≡◌, ℕ, zero, suc, ◌+◌, Bool, true, false, List, [], ◌∷◌, ◌++◌, length, refl, sym, ap, ◌∙◌, arith}
use Rattle.std.specs.Prelude.{drop, cond, ◌==◌}
use Rattle.std.specs.List.{prefix_len}
use Rattle.std.proofs.lemmas.Bool.{false≢true}
use Rattle.std.proofs.lemmas.Bool.Decides.{nat_tests}
use Rattle.std.proofs.Math.Seq.{drop-append_seam}
use Rattle.bl_tokens.specs.declared.classes.Class.TheVariants as classes
use Rattle.bl_tokens.specs.declared.tokens.Token.{Token}
use Rattle.bl_tokens.specs.declared.tokens.Token.TheVariants as tokens
use Rattle.bl_tokens.specs.declared.tokens.Lexeme.{Lexeme}
use Rattle.bl_tokens.specs.declared.tokens.Cursor.{Cursor}
use Rattle.bl_tokens.specs.Classes.{is_in}
use Rattle.bl_tokens.specs.Tokens.{sized_lexeme, bad_lexeme, first_lexeme, token_from}

-- these bytes stand in the text from that byte on, up to its end
pub record Stands (text : List ℕ) (from : ℕ) (bytes : List ℕ) : Type 0 where
  pub is : drop from text ≡ bytes

drop_none : (n : ℕ) → ◌≡◌ {A = List ℕ} (drop n []) []
drop_none zero = refl
drop_none (suc n) = refl

pub drop_plus : (k n : ℕ) (xs : List ℕ) → drop (k + n) xs ≡ drop n (drop k xs)
drop_plus zero n xs = let same : 0 + n ≡ n = omega arith in ap (λ m. drop m xs) same
drop_plus (suc k) n [] = drop_none (suc k + n) ∙ sym (ap (λ (xs : List ℕ). drop n xs) (drop_none (suc k)) ∙ drop_none n)
drop_plus (suc k) n (x ∷ xs) = let same : suc k + n ≡ suc (k + n) = omega arith in ap (λ m. drop m (x ∷ xs)) same ∙ drop_plus k n xs

-- after a word
pub stands_behind : {text : List ℕ} {from : ℕ} (word rest : List ℕ) → Stands text from (word ++ rest) → Stands text (from + length word) rest
stands_behind {text} {from} word rest h = record { is = drop_plus from (length word) text ∙ ap (λ (xs : List ℕ). drop (length word) xs) h.is ∙ drop-append_seam word rest }

pub stands_at : {text : List ℕ} {from from' : ℕ} {bytes bytes' : List ℕ} → from ≡ from' → bytes ≡ bytes' → Stands text from bytes → Stands text from' bytes'
stands_at {text} {from} {from'} {bytes} {bytes'} place same h = record { is = ap (λ n. drop n text) (sym place) ∙ h.is ∙ same }

abbrev pub is_bad : Token → Bool
is_bad tokens.Bad = true
is_bad _ = false

-- a reader of tokens to which a space is a bad one gives no other token that begins with a space
no_space_by : (lexer : List ℕ → Lexeme) → ((more : List ℕ) → lexer (32 ∷ more) ≡ bad_lexeme) → (bytes : List ℕ) (t : Token) (n : ℕ) → lexer bytes ≡ sized_lexeme t n → is_bad t ≡ false → prefix_len (is_in classes.Space) bytes ≡ 0
no_space_by lexer space [] t n h good = refl
no_space_by lexer space (byte ∷ more) t n h good = by_test (byte == 32) refl
  where
    by_test : (b : Bool) → (byte == 32) ≡ b → prefix_len (is_in classes.Space) (byte ∷ more) ≡ 0
    by_test false is = ap (λ c. cond c (1 + prefix_len (is_in classes.Space) more) 0) is
    by_test true is =
        let same : byte ≡ 32 = grind (arith, nat_tests) in
        let lexeme : sized_lexeme t n ≡ bad_lexeme = sym h ∙ ap (λ c. lexer (c ∷ more)) same ∙ space more in
        let bad_ : is_bad t ≡ true = ap (λ (l : Lexeme). is_bad l.token) lexeme in
        absurd (false≢true (sym good ∙ bad_))

space_bad : (more : List ℕ) → first_lexeme (32 ∷ more) ≡ bad_lexeme
space_bad more = refl

pub no_space : (bytes : List ℕ) (t : Token) (n : ℕ) → first_lexeme bytes ≡ sized_lexeme t n → is_bad t ≡ false → prefix_len (is_in classes.Space) bytes ≡ 0
no_space bytes t n h good = no_space_by first_lexeme space_bad bytes t n h good

-- a token at its first byte
abbrev pub here_at : ℕ → Token → ℕ → ℕ → Cursor
here_at from t size left = record { at = from; token = t; end = from + size; left = left }

placed_by : (text : List ℕ) (from left k : ℕ) (bytes : List ℕ) (t : Token) (n : ℕ) → drop from text ≡ bytes → k ≡ 0 → first_lexeme bytes ≡ sized_lexeme t n
    → ◌≡◌ {A = Cursor} (record { at = from + k; token = (first_lexeme (drop (from + k) text)).token; end = from + k + (first_lexeme (drop (from + k) text)).size; left = left }) (here_at from t n left)
placed_by text from left k bytes t n stands none lexed =
    let same : from + k ≡ from = omega arith in
    let found : first_lexeme (drop (from + k) text) ≡ sized_lexeme t n = ap (λ m. first_lexeme (drop m text)) same ∙ ap first_lexeme stands ∙ lexed in
    ap (λ (l : Lexeme). record { at = from + k; token = l.token; end = from + k + l.size; left = left }) found ∙ ap (λ m. record { at = m; token = t; end = m + n; left = left }) same

pub token_stands : {text : List ℕ} {from : ℕ} (left : ℕ) {bytes : List ℕ} {t : Token} {n : ℕ} → Stands text from bytes → first_lexeme bytes ≡ sized_lexeme t n → is_bad t ≡ false → token_from text from left ≡ here_at from t n left
unfolding token_from
token_stands {text} {from} left {bytes} {t} {n} stands lexed good =
    placed_by text from left (prefix_len (is_in classes.Space) (drop from text)) bytes t n stands.is (ap (prefix_len (is_in classes.Space)) stands.is ∙ no_space bytes t n lexed good) lexed

skipped_by : (text : List ℕ) (from left k m : ℕ) → from + k ≡ from + 1 + m → ◌≡◌ {A = Cursor} (record { at = from + k; token = (first_lexeme (drop (from + k) text)).token; end = from + k + (first_lexeme (drop (from + k) text)).size; left = left })
    (record { at = from + 1 + m; token = (first_lexeme (drop (from + 1 + m) text)).token; end = from + 1 + m + (first_lexeme (drop (from + 1 + m) text)).size; left = left })
skipped_by text from left k m same = ap (λ p. record { at = p; token = (first_lexeme (drop p text)).token; end = p + (first_lexeme (drop p text)).size; left = left }) same

-- spaces in front are passed over
pub space_skipped : {text : List ℕ} {from : ℕ} (left : ℕ) {bytes : List ℕ} → Stands text from (32 ∷ bytes) → token_from text from left ≡ token_from text (from + 1) left
unfolding token_from
space_skipped {text} {from} left {bytes} stands =
    let next : drop (from + 1) text ≡ bytes = (stands_behind (32 ∷ []) bytes stands).is in
    let one : prefix_len (is_in classes.Space) (drop from text) ≡ 1 + prefix_len (is_in classes.Space) bytes = ap (prefix_len (is_in classes.Space)) stands.is in
    let two : prefix_len (is_in classes.Space) (drop (from + 1) text) ≡ prefix_len (is_in classes.Space) bytes = ap (prefix_len (is_in classes.Space)) next in
    skipped_by text from left (prefix_len (is_in classes.Space) (drop from text)) (prefix_len (is_in classes.Space) (drop (from + 1) text)) (omega arith)
