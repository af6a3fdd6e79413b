-- The keys of lines, one line after the other.
use Rattle.std.proofs.Common.{◌≡◌, ℕ, suc, ◌+◌, ◌≤◌, List, [], ◌∷◌, ◌++◌, length, refl, sym, subst, arith}
use Rattle.line_text.specs.Lines.{lines_of}
use Rattle.policy_statement.specs.Ring.{KeyView}
use Rattle.pcfs_secrets.specs.SecretLines.{GivesKey, GiveKeys, IsBadAt}

-- the ring has the keys of the lines before the rest of the text, which are so many
pub record HasAdded (before : List KeyView) (text : List ℕ) (ring : List KeyView) (rest : List ℕ) (place : ℕ) : Type 0 where
  pub given : (after : List KeyView) → GiveKeys ring (lines_of rest) after → GiveKeys before (lines_of text) after
  pub bad : (n : ℕ) → IsBadAt ring (lines_of rest) n → IsBadAt before (lines_of text) (n + place)
  pub few : place + length rest ≤ length text

pub HasAdded-nothing : (before : List KeyView) (text : List ℕ) → HasAdded before text before text 0
HasAdded-nothing before text = record {
  given = λ after h. h;
  bad = λ n h. let same : n ≡ n + 0 = omega arith in subst (IsBadAt before (lines_of text)) same h;
  few = omega arith;
}

give_step : (ring more : List KeyView) (k : KeyView) (line : List ℕ) (lines others : List (List ℕ)) (after : List KeyView) → lines ≡ line ∷ others → GivesKey ring line k → more ≡ ring ++ k ∷ []
    → GiveKeys more others after → GiveKeys ring lines after
give_step ring more k line lines others after lines_are gives more_is h =
    subst (λ l. GiveKeys ring l after) (sym lines_are) (k, gives, subst (λ r. GiveKeys r others after) more_is h)

bad_step : (ring more : List KeyView) (k : KeyView) (line : List ℕ) (lines others : List (List ℕ)) (n : ℕ) → lines ≡ line ∷ others → GivesKey ring line k → more ≡ ring ++ k ∷ []
    → IsBadAt more others n → IsBadAt ring lines (suc n)
bad_step ring more k line lines others n lines_are gives more_is h =
    subst (λ l. IsBadAt ring l (suc n)) (sym lines_are) (k, gives, subst (λ r. IsBadAt r others n) more_is h)

pub HasAdded-more : (before : List KeyView) (text : List ℕ) (ring more : List KeyView) (rest line others : List ℕ) (k : KeyView) (place : ℕ) → HasAdded before text ring rest place
    → lines_of rest ≡ line ∷ lines_of others → suc (length others) ≤ length rest → GivesKey ring line k → more ≡ ring ++ k ∷ [] → HasAdded before text more others (place + 1)
HasAdded-more before text ring more rest line others k place added lines_are shorter gives more_is = record {
  given = λ after h. added.given after (give_step ring more k line (lines_of rest) (lines_of others) after lines_are gives more_is h);
  bad = λ n h.
      let same : suc n + place ≡ n + (place + 1) = omega arith in
      subst (IsBadAt before (lines_of text)) same (added.bad (suc n) (bad_step ring more k line (lines_of rest) (lines_of others) n lines_are gives more_is h));
  few = let sum = added.few in omega arith;
}

pub bad_here : (before : List KeyView) (text : List ℕ) (ring : List KeyView) (rest line : List ℕ) (others : List (List ℕ)) (place : ℕ) → HasAdded before text ring rest place
    → lines_of rest ≡ line ∷ others → ((k : KeyView) → GivesKey ring line k → ⊥) → IsBadAt before (lines_of text) place
bad_here before text ring rest line others place added lines_are none =
    let same : 0 + place ≡ place = omega arith in
    subst (IsBadAt before (lines_of text)) same (added.bad 0 (subst (λ l. IsBadAt ring l 0) (sym lines_are) none))

pub all_given : (before : List KeyView) (text : List ℕ) (ring : List KeyView) (rest : List ℕ) (place : ℕ) → HasAdded before text ring rest place → rest ≡ [] → GiveKeys before (lines_of text) ring
all_given before text ring rest place added at_end = added.given ring (subst (λ r. GiveKeys ring (lines_of r) ring) (sym at_end) refl)
