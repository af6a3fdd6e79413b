-- What is given to a command.
use Rattle.std.proofs.Common.{◌≡◌, ◌≤◌, ℕ, List, sym, subst, ◌∙◌, Option, Some, None}
use Rattle.std.proofs.lemmas.Fmt.{decimal_injective}
use Rattle.clap.specs.Words.{Row, Text, first_of}
use Rattle.line_words.specs.Numbers.{IsLongNumber}
use Rattle.command_words.specs.CommandWords.{GivesNumber}

pub same_some : (x y : Text) → Some x ≡ Some y → x ≡ y
same_some x y is = cc

pub some_none : (x : Text) → Some x ≡ None → ⊥
some_none x is = absurd cc

same_number : (x y : ℕ) → Some x ≡ Some y → x ≡ y
same_number x y is = cc

-- one number is given under a name, whatever its range is
pub given_once : (least most low high : ℕ) (name : Text) (given : List Row) (m n : ℕ) → GivesNumber least most name given m → GivesNumber low high name given n → m ≡ n
given_once least most low high name given m n first second =
    let text = same_some first.text second.text (sym first.is_given ∙ second.is_given) in
    decimal_injective m n first.says.fits second.says.fits (sym first.says.decimal_is ∙ text ∙ second.says.decimal_is)

module _ (least most : ℕ) (name : Text) (given : List Row) where
  -- nothing is given
  pub no_value : first_of name given ≡ None → (n : ℕ) → GivesNumber least most name given n → ⊥
  no_value none n g = let e : None ≡ Some g.text = sym none ∙ g.is_given in absurd cc

  module _ (text : Text) (is : first_of name given ≡ Some text) where
    same_text : (n : ℕ) (g : GivesNumber least most name given n) → g.text ≡ text
    same_text n g = same_some g.text text (sym g.is_given ∙ is)

    -- what is given is no number
    pub no_number : ((n : ℕ) → IsLongNumber text n → ⊥) → (n : ℕ) → GivesNumber least most name given n → ⊥
    no_number other n g = other n (subst (λ (t : Text). IsLongNumber t n) (same_text n g) g.says)

    -- it is another number
    pub no_such_number : (m : ℕ) (read : Option ℕ) → ((n : ℕ) → IsLongNumber text n → read ≡ Some n) → read ≡ Some m → (least ≤ m → m ≤ most → ⊥) → (n : ℕ) → GivesNumber least most name given n → ⊥
    no_such_number m read only is_read outside n g =
        let same : n ≡ m = same_number n m (sym (only n (subst (λ (t : Text). IsLongNumber t n) (same_text n g) g.says)) ∙ is_read) in
        outside (subst (λ (k : ℕ). least ≤ k) same g.not_below) (subst (λ (k : ℕ). k ≤ most) same g.not_above)

    -- it is this one
    pub a_number : (m : ℕ) → IsLongNumber text m → least ≤ m → m ≤ most → GivesNumber least most name given m
    a_number m says not_below not_above = record { text = text; is_given = is; says = says; not_below = not_below; not_above = not_above }
