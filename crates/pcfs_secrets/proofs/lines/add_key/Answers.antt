-- The line falls into a name and the word of a key, into a name and the word of a root, or into neither.
use Rattle.std.proofs.Common.{◌≡◌, ◌++◌, ◌∷◌, ℕ, List, IsTrue, refl, codes}
use Rattle.std.proofs.lemmas.Result.{IfOk-weaker}
use Rattle.bl_syntax.specs.Names.{is_principal_name}
use Rattle.pcfs_secrets.proofs.LineLemmas.{gives_key, gives_none, gives_root}
use Rattle.pcfs_secrets.proofs.lines.add_key.Goals as goal

pub returns-in-Some : goal.returns-in-Some
returns-in-Some c =
    IfOk-weaker c.give_key.result _ _ (λ added h. gives_key c.args.ring.now c.give_key.new.ring c.args.line.now c.in-Some.name.now c.in-Some.word.now c.in-Some.ensures.found c.in-Some.ensures.only added h) c.give_key.ensures

pub returns-in-Some-name_and_word : goal.returns-in-Some-name_and_word
returns-in-Some-name_and_word c =
    let falls = c.in-Some-name_and_word.ensures in
    IfOk-weaker c.give_root.result _ _ (λ added h. gives_root c.args.ring.now c.give_root.new.ring c.args.line.now c.in-Some-name_and_word.name.now c.in-Some-name_and_word.word.now falls.found falls.only added h) c.give_root.ensures

pub returns-in-None : goal.returns-in-None
returns-in-None c =
    let keys : (who word : List ℕ) → IsTrue (is_principal_name who) → c.args.line.now ≡ codes "key " ++ (who ++ 32 ∷ word) → ⊥ = λ who word named is. c.in_default.ensures.only who word named is in
    let roots : (who word : List ℕ) → IsTrue (is_principal_name who) → c.args.line.now ≡ codes "root " ++ (who ++ 32 ∷ word) → ⊥ = λ who word named is. c.in-None.ensures.only who word named is in
    (gives_none c.args.ring.now c.args.line.now keys roots, refl)
