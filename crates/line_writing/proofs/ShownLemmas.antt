-- The word that is written for a value writes it, and is cut whole.
use Rattle.std.proofs.Common.{◌≡◌, ◌≤◌, ◌<◌, ◌^◌, ℕ, suc, ℤ, pos, negsuc, Bool, true, false, not, List, [], ◌∷◌, ◌++◌, length, codes, Option, IsTrue, refl, sym, ap, ◌∙◌, subst, append-nil, arith}
use Rattle.std.specs.Prelude.{◌==◌, ◌&&◌, ◌||◌, nat_le}
use Rattle.std.specs.Fmt.{decimal, signed_decimal}
use Rattle.std.specs.List.{list_all}
use Rattle.std.proofs.lemmas.Bool.{and_parts, and_from, false≢true}
use Rattle.std.proofs.lemmas.Int.{ints}
use Rattle.std.proofs.lemmas.Fmt.{digits_decimal}
use Rattle.bl_syntax.specs.Names.{is_digit, is_lower_case, is_name_byte, is_identifier, is_among, reserved_words, is_principal_name}
use Rattle.bl_syntax.specs.TimeOrder.{IsMoment}
use Rattle.bl_syntax.specs.declared.terms.NodeId.{NodeId}
use Rattle.bl_syntax.specs.declared.terms.TimePoint.TheVariants.{At}
use Rattle.bl_syntax.specs.declared.terms.Perm.{Perm}
use Rattle.bl_syntax.specs.declared.terms.Perm.TheVariants.{Read, Write, Execute, Identity, Govern}
use Rattle.bl_text.specs.Printed.{permission_text}
use Rattle.line_words.proofs.TimeLemmas.{time_is_read}
use Rattle.line_text.specs.HexWord.{hex_word, IsHex}
use Rattle.line_text.specs.Words.{has_first, is_word_end, HasNo}
use Rattle.line_text.proofs.HexLemmas.{IsHex-all}
use Rattle.line_text.proofs.WordLemmas.{HasNo-all, HasNo-principal}
use Rattle.procap.specs.Procap.{procap_spelling}
use Rattle.line_words.specs.Cited.{AreJoined, one_number, more_numbers}
use Rattle.line_words.specs.Cutting.{first_cut}
use Rattle.line_words.specs.Grammar.{is_word_byte, is_name_word, IsSigned, by_ring, by_bytes}
use Rattle.line_words.specs.Numbers.{IsSecond, IsNumberBelow, IsFile}
use Rattle.line_words.specs.Procaps.{IsProcapWord, by_number, by_spelling}
use Rattle.line_words.specs.declared.kinds.WordKind.{WordKind}
use Rattle.line_words.specs.declared.kinds.WordKind.TheVariants as kinds
use Rattle.line_words.specs.declared.procap_word.ProcapWord.{ProcapWord}
use Rattle.line_words.proofs.CitedLemmas.{joined_some}
use Rattle.line_words.proofs.CutLemmas.{first_cut-plain, first_cut-quoted}
use Rattle.line_words.proofs.NumeralLemmas.{is_numeral_model, IsMoment-second, IsWritten-below}
use Rattle.line_writing.specs.WordTexts.{cited_text, signature_text, procap_text}
use Rattle.line_writing.proofs.Values.{Value, Writes, word_of}

-- ---- numbers

below_shown : (limit : ℕ) (word : List ℕ) (n : ℕ) → IsNumberBelow limit word n → IsNumberBelow limit (decimal n) n
below_shown limit word n h = record { decimal_is = refl; fits = h.fits }

file_shown : (word : List ℕ) (node : NodeId) → IsFile word node → IsFile (codes "#" ++ decimal node.0) node
file_shown word node h = record { digits = decimal node.0; word_is = refl; number = below_shown (2 ^ 64) h.digits node.0 h.number }

second_shown : (z : ℤ) → IsMoment z → IsSecond (signed_decimal z) z
second_shown z h = time_is_read (At z) h

-- ---- numbers of statements, signatures, procaps: there is one word

one_only : (digits : List ℕ) → digits ++ [] ≡ digits
one_only digits = append-nil digits

-- one number before others, of which there are some
joined_more : (word others : List ℕ) (number : ℕ) (numbers : List ℕ) → word ≡ decimal number → others ≡ cited_text numbers → AreJoined others numbers → word ++ 44 ∷ others ≡ cited_text (number ∷ numbers)
joined_more word others number [] word_is others_are more = absurd (omega (arith, joined_some more))
joined_more word others number (next ∷ numbers) word_is others_are more = ap (λ (w : List ℕ). w ++ 44 ∷ others) word_is ∙ ap (λ (o : List ℕ). decimal number ++ 44 ∷ o) others_are

more_joined : {word numbers : List ℕ} → AreJoined word numbers → word ≡ cited_text numbers
more_joined (one_number word number h) = h.decimal_is ∙ sym (one_only (decimal number))
more_joined (more_numbers word others number numbers h more) = joined_more word others number numbers h.decimal_is (more_joined more) more

signed_word : {word : List ℕ} {signature : Option (List ℕ)} → IsSigned word signature → word ≡ signature_text signature
signed_word by_ring = refl
signed_word (by_bytes word bytes h) = h.hex.word_is

procap_word : {word : List ℕ} {given : ProcapWord} → IsProcapWord word given → word ≡ procap_text given
procap_word (by_number digits number h) = ap (λ (ds : List ℕ). 64 ∷ ds) h.decimal_is
procap_word (by_spelling word p h) = h.hex.word_is

-- ---- the word of a value writes it

pub shown : (kind : WordKind) (word : List ℕ) (v : Value kind) → Writes kind word v → Writes kind (word_of kind v) v
shown kinds.Node word v h = file_shown word v h
shown kinds.Target word v h = file_shown word v h
shown kinds.Name word v h = record { named = subst (λ (w : List ℕ). IsTrue (is_name_word w)) (sym h.same) h.named; same = refl }
shown kinds.NewName word v h = record { named = subst (λ (w : List ℕ). IsTrue (is_name_word w)) (sym h.same) h.named; same = refl }
shown kinds.Offset word v h = below_shown (2 ^ 64) word v h
shown kinds.Len word v h = below_shown (2 ^ 64) word v h
shown kinds.Most word v h = below_shown 65537 word v h
shown kinds.Data word v h = record { hex = record { in_range = h.hex.in_range; word_is = refl }; few = h.few }
shown kinds.Value word v h = record { fits = h.fits; word_is = refl }
shown kinds.Who word v h = record { named = subst (λ (w : List ℕ). IsTrue (is_principal_name w)) (sym h.same) h.named; same = refl }
shown kinds.Permission word v h = refl
shown kinds.Second word v h = second_shown v (IsMoment-second word h)
shown kinds.Issue word v h = record { number_is = below_shown (2 ^ 64) word v h.number_is; some = h.some }
shown kinds.Number word v h = below_shown (2 ^ 32) word v h
shown kinds.Cited word v h = record { joined = subst (λ (w : List ℕ). AreJoined w v) (more_joined h.joined) h.joined; citable = h.citable }
shown kinds.Signature word v h = subst (λ (w : List ℕ). IsSigned w v) (signed_word h) h
shown kinds.Procap word v h = subst (λ (w : List ℕ). IsProcapWord w v) (procap_word h) h
shown kinds.SignatureHex word v h = record { hex = record { in_range = h.hex.in_range; word_is = refl }; few = h.few }
shown kinds.ProcapHex word v h = record { spelled = h.spelled; hex = record { in_range = h.hex.in_range; word_is = refl } }

-- ---- and is cut whole

-- no space is in it, and no quote begins it
record IsClean (word : List ℕ) : Type 0 where
  no_space : HasNo 32 word
  no_quote : IsTrue (not (has_first 34 word))

abbrev IsCutWhole : List ℕ → Type 0
IsCutWhole word = (rest : List ℕ) → IsTrue (is_word_end 32 rest) → first_cut (word ++ rest) ≡ record { word = word; behind = rest }

clean_cut : (word : List ℕ) → IsClean word → IsCutWhole word
clean_cut word h rest ends = first_cut-plain word rest h.no_space h.no_quote ends

first_other : (p : ℕ → Bool) → p 34 ≡ false → (word : List ℕ) → IsTrue (list_all p word) → IsTrue (not (has_first 34 word))
first_other p none [] h = refl
first_other p none (byte ∷ word) h = (and_parts (not (byte == 34)) (list_all (λ b. not (b == 34)) word) (HasNo-all p 34 none (byte ∷ word) h)).0

clean_all : (p : ℕ → Bool) → p 32 ≡ false → p 34 ≡ false → (word : List ℕ) → IsTrue (list_all p word) → IsClean word
clean_all p space quote word h = record { no_space = HasNo-all p 32 space word h; no_quote = first_other p quote word h }

hex_clean : (word bytes : List ℕ) → IsHex word bytes → IsClean word
hex_clean word bytes h = clean_all (λ byte. not (byte == 32) && not (byte == 34)) refl refl word (IsHex-all (λ byte. not (byte == 32) && not (byte == 34)) refl refl word bytes h)

number_clean : (limit : ℕ) → limit ≤ 2 ^ 64 → (word : List ℕ) (n : ℕ) → IsNumberBelow limit word n → IsClean word
number_clean limit few word n h = clean_all is_digit refl refl word (IsWritten-below limit few word n h).plain.digits

name_clean : (word : List ℕ) → IsTrue (is_name_word word) → IsClean word
name_clean [] h = absurd (false≢true h)
name_clean (first ∷ others) h =
    let outer = and_parts (not (first == 34) && list_all is_word_byte (first ∷ others)) (nat_le (length others) 254) h in
    let inner = and_parts (not (first == 34)) (list_all is_word_byte (first ∷ others)) outer.0 in
    record { no_space = HasNo-all is_word_byte 32 refl (first ∷ others) inner.1; no_quote = inner.0 }

permission_clean : (permission : Perm) → IsClean (permission_text permission)
permission_clean Read = record { no_space = refl; no_quote = refl }
permission_clean Write = record { no_space = refl; no_quote = refl }
permission_clean Execute = record { no_space = refl; no_quote = refl }
permission_clean Identity = record { no_space = refl; no_quote = refl }
permission_clean Govern = record { no_space = refl; no_quote = refl }

digits_clean : (n : ℕ) → n < 2 ^ 64 → IsTrue (list_all is_digit (decimal n))
digits_clean n fits = digits_decimal is_numeral_model n fits

second_clean : (z : ℤ) → IsMoment z → IsClean (signed_decimal z)
second_clean (pos n) h =
    let few : n ≤ 253402300799 = omega (arith, ints, h.not_after) in
    clean_all is_digit refl refl (decimal n) (digits_clean n (omega arith))
second_clean (negsuc n) h =
    let few : n ≤ 62135596799 = omega (arith, ints, h.not_before) in
    record { no_space = HasNo-all is_digit 32 refl (decimal (suc n)) (digits_clean (suc n) (omega arith)); no_quote = refl }

-- digits and commas
abbrev is_cited_byte : ℕ → Bool
is_cited_byte byte = is_digit byte || byte == 44

or_left : (a b : Bool) → IsTrue a → IsTrue (a || b)
or_left true b h = refl
or_left false b h = absurd (false≢true h)

digit_or_comma : (word : List ℕ) → IsTrue (list_all is_digit word) → IsTrue (list_all is_cited_byte word)
digit_or_comma [] h = refl
digit_or_comma (byte ∷ word) h =
    let parts = and_parts (is_digit byte) (list_all is_digit word) h in
    and_from (is_cited_byte byte) (list_all is_cited_byte word) (or_left (is_digit byte) (byte == 44) parts.0) (digit_or_comma word parts.1)

all_append : (p : ℕ → Bool) (front rest : List ℕ) → IsTrue (list_all p front) → IsTrue (list_all p rest) → IsTrue (list_all p (front ++ rest))
all_append p [] rest h k = k
all_append p (byte ∷ bytes) rest h k = let parts = and_parts (p byte) (list_all p bytes) h in and_from (p byte) (list_all p (bytes ++ rest)) parts.0 (all_append p bytes rest parts.1 k)

cited_bytes : {word numbers : List ℕ} → AreJoined word numbers → IsTrue (list_all is_cited_byte word)
cited_bytes (one_number word number h) = digit_or_comma word (IsWritten-below (2 ^ 32) (omega arith) word number h).plain.digits
cited_bytes (more_numbers word others number numbers h more) = all_append is_cited_byte word (44 ∷ others) (digit_or_comma word (IsWritten-below (2 ^ 32) (omega arith) word number h).plain.digits) (cited_bytes more)

signed_clean : {word : List ℕ} {signature : Option (List ℕ)} → IsSigned word signature → IsClean word
signed_clean by_ring = record { no_space = refl; no_quote = refl }
signed_clean (by_bytes word bytes h) = hex_clean word bytes h.hex

procap_clean : {word : List ℕ} {given : ProcapWord} → IsProcapWord word given → IsClean word
procap_clean (by_number digits number h) = record { no_space = HasNo-all is_digit 32 refl digits (IsWritten-below (2 ^ 64) (omega arith) digits number h).plain.digits; no_quote = refl }
procap_clean (by_spelling word p h) = hex_clean word (procap_spelling p) h.hex

file_clean : (word : List ℕ) (node : NodeId) → IsFile word node → IsClean (codes "#" ++ decimal node.0)
file_clean word node h =
    record { no_space = HasNo-all is_digit 32 refl (decimal node.0) (IsWritten-below (2 ^ 64) (omega arith) (decimal node.0) node.0 (below_shown (2 ^ 64) h.digits node.0 h.number)).plain.digits; no_quote = refl }

-- a name of a principal begins with a letter
principal_first : (word : List ℕ) → IsTrue (is_principal_name word) → IsTrue (not (has_first 34 word))
principal_first [] h = refl
principal_first (first ∷ others) h =
    let identifier = (and_parts (is_identifier (first ∷ others)) (not (is_among reserved_words (first ∷ others))) h).0 in
    let letters = (and_parts (is_lower_case first && list_all is_name_byte others) _ identifier).0 in
    (and_parts (not (first == 34)) (list_all (λ b. not (b == 34)) []) (HasNo-all is_lower_case 34 refl (first ∷ []) (and_from (is_lower_case first) true (and_parts (is_lower_case first) (list_all is_name_byte others) letters).0 refl))).0

principal_clean : (word : List ℕ) → IsTrue (is_principal_name word) → IsClean word
principal_clean word h = record { no_space = HasNo-principal word h; no_quote = principal_first word h }

pub cut_whole : (kind : WordKind) (v : Value kind) → Writes kind (word_of kind v) v → IsCutWhole (word_of kind v)
cut_whole kinds.Node v h = clean_cut (word_of kinds.Node v) (file_clean (word_of kinds.Node v) v h)
cut_whole kinds.Target v h = clean_cut (word_of kinds.Target v) (file_clean (word_of kinds.Target v) v h)
cut_whole kinds.Name v h = clean_cut v (name_clean v h.named)
cut_whole kinds.NewName v h = clean_cut v (name_clean v h.named)
cut_whole kinds.Offset v h = clean_cut (decimal v) (number_clean (2 ^ 64) (omega arith) (decimal v) v h)
cut_whole kinds.Len v h = clean_cut (decimal v) (number_clean (2 ^ 64) (omega arith) (decimal v) v h)
cut_whole kinds.Most v h = clean_cut (decimal v) (number_clean 65537 (omega arith) (decimal v) v h)
cut_whole kinds.Data v h = clean_cut (hex_word v) (hex_clean (hex_word v) v h.hex)
cut_whole kinds.Value v h = λ rest ends. first_cut-quoted v rest h.fits ends
cut_whole kinds.Who v h = clean_cut v (principal_clean v h.named)
cut_whole kinds.Permission v h = clean_cut (permission_text v) (permission_clean v)
cut_whole kinds.Second v h = clean_cut (signed_decimal v) (second_clean v (IsMoment-second (signed_decimal v) h))
cut_whole kinds.Issue v h = clean_cut (decimal v) (number_clean (2 ^ 64) (omega arith) (decimal v) v h.number_is)
cut_whole kinds.Number v h = clean_cut (decimal v) (number_clean (2 ^ 32) (omega arith) (decimal v) v h)
cut_whole kinds.Cited v h = clean_cut (cited_text v) (clean_all is_cited_byte refl refl (cited_text v) (cited_bytes h.joined))
cut_whole kinds.Signature v h = clean_cut (signature_text v) (signed_clean h)
cut_whole kinds.Procap v h = clean_cut (procap_text v) (procap_clean h)
cut_whole kinds.SignatureHex v h = clean_cut (hex_word v) (hex_clean (hex_word v) v h.hex)
cut_whole kinds.ProcapHex v h = clean_cut (hex_word (procap_spelling v)) (hex_clean (hex_word (procap_spelling v)) (procap_spelling v) h.hex)
