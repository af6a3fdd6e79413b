-- Texts that are written one after the other, and the objects of procaps.
use Rattle.std.proofs.Common.{◌≡◌, ◌≤◌, ◌-◌, ℕ, List, [], ◌∷◌, ◌++◌, length, length-drop, drop, take, get_or, ap, ◌∙◌, append_assoc, arith}
use Rattle.std.proofs.lemmas.List.{take_all}
use Rattle.access_history.specs.Base.{BaseView}
use Rattle.history_table.specs.declared.rows.Use.{Use}
use Rattle.history_text.specs.Objects.{more_uses, use_object, use_objects}

step : (o m a r : List ℕ) → m ≡ o ++ a → m ++ r ≡ o ++ (a ++ r)
step o m a r e = ap (λ (x : List ℕ). x ++ r) e ∙ append_assoc o a r

pub joined3 : (o m1 m2 a b c : List ℕ) → m1 ≡ o ++ a → m2 ≡ m1 ++ b → m2 ++ c ≡ o ++ (a ++ (b ++ c))
joined3 o m1 m2 a b c e1 e2 = step m1 m2 b c e2 ∙ step o m1 a (b ++ c) e1

pub joined4 : (o m1 m2 m3 a b c d : List ℕ) → m1 ≡ o ++ a → m2 ≡ m1 ++ b → m3 ≡ m2 ++ c → m3 ++ d ≡ o ++ (a ++ (b ++ (c ++ d)))
joined4 o m1 m2 m3 a b c d e1 e2 e3 = step m2 m3 c d e3 ∙ joined3 o m1 m2 a b (c ++ d) e1 e2

pub joined5 : (o m1 m2 m3 m4 a b c d e : List ℕ) → m1 ≡ o ++ a → m2 ≡ m1 ++ b → m3 ≡ m2 ++ c → m4 ≡ m3 ++ d → m4 ++ e ≡ o ++ (a ++ (b ++ (c ++ (d ++ e))))
joined5 o m1 m2 m3 m4 a b c d e e1 e2 e3 e4 = step m3 m4 d e e4 ∙ joined4 o m1 m2 m3 a b c (d ++ e) e1 e2 e3

pub joined6 : (o m1 m2 m3 m4 m5 a b c d e f : List ℕ) → m1 ≡ o ++ a → m2 ≡ m1 ++ b → m3 ≡ m2 ++ c → m4 ≡ m3 ++ d → m5 ≡ m4 ++ e → m5 ++ f ≡ o ++ (a ++ (b ++ (c ++ (d ++ (e ++ f)))))
joined6 o m1 m2 m3 m4 m5 a b c d e f e1 e2 e3 e4 e5 = step m4 m5 e f e5 ∙ joined5 o m1 m2 m3 m4 a b c d (e ++ f) e1 e2 e3 e4

pub joined7 : (o m1 m2 m3 m4 m5 m6 a b c d e f g : List ℕ) → m1 ≡ o ++ a → m2 ≡ m1 ++ b → m3 ≡ m2 ++ c → m4 ≡ m3 ++ d → m5 ≡ m4 ++ e → m6 ≡ m5 ++ f → m6 ++ g ≡ o ++ (a ++ (b ++ (c ++ (d ++ (e ++ (f ++ g))))))
joined7 o m1 m2 m3 m4 m5 m6 a b c d e f g e1 e2 e3 e4 e5 e6 = step m5 m6 f g e6 ∙ joined6 o m1 m2 m3 m4 m5 a b c d e (f ++ g) e1 e2 e3 e4 e5

pub joined8 : (o m1 m2 m3 m4 m5 m6 m7 a b c d e f g h : List ℕ) → m1 ≡ o ++ a → m2 ≡ m1 ++ b → m3 ≡ m2 ++ c → m4 ≡ m3 ++ d → m5 ≡ m4 ++ e → m6 ≡ m5 ++ f → m7 ≡ m6 ++ g → m7 ++ h ≡ o ++ (a ++ (b ++ (c ++ (d ++ (e ++ (f ++ (g ++ h)))))))
joined8 o m1 m2 m3 m4 m5 m6 m7 a b c d e f g h e1 e2 e3 e4 e5 e6 e7 = step m6 m7 g h e7 ∙ joined7 o m1 m2 m3 m4 m5 m6 a b c d e f (g ++ h) e1 e2 e3 e4 e5 e6

-- those after the first
pub rest_is : (uses : List Use) → take (length uses - 1) (drop 1 uses) ≡ drop 1 uses
rest_is uses = take_all (length uses - 1) (drop 1 uses) (omega (arith, length-drop 1 uses))

-- the objects of the first and of the others
pub uses_parts : (state : BaseView) (uses : List Use) (one : Use) → 1 ≤ length uses → one ≡ get_or uses 0 one → use_object state one ++ more_uses state (drop 1 uses) ≡ use_objects state uses
uses_parts state [] one some is = absurd (omega (arith, some))
uses_parts state (first ∷ others) one some is = ap (λ (u : Use). use_object state u ++ more_uses state others) is

pub more_parts : (state : BaseView) (uses : List Use) (one : Use) → 1 ≤ length uses → one ≡ get_or uses 0 one → 44 ∷ (use_object state one ++ more_uses state (drop 1 uses)) ≡ more_uses state uses
more_parts state [] one some is = absurd (omega (arith, some))
more_parts state (first ∷ others) one some is = ap (λ (u : Use). 44 ∷ (use_object state u ++ more_uses state others)) is
