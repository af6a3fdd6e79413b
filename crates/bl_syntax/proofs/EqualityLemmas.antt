-- `==` tells exactly whether two values are the same. Crates above cite these for `contains` or `==` over a slice of such values, as
-- `contains_decides constraint_eq Decides-constraint_eq` with std's lemma on the elements of a list.
use Rattle.std.proofs.Common.{◌≡◌, ◌∙◌, ℕ, List, refl, ap, rules}
use Rattle.std.specs.Bool.{Decides}
use Rattle.std.proofs.lemmas.Bool.Decides.{Decides-and, Decides-like}
use Rattle.std.proofs.lemmas.Bool.{false≢true}
use Rattle.std.proofs.lemmas.Slice.Eq.{bytes_eq-Decides, slice_eq-Decides}
use borrow.Author.Tests.{tests}
use Rattle.bl_syntax.specs.declared.terms.NodeId.{NodeId}
use Rattle.bl_syntax.specs.declared.terms.Perm.{Perm}
use Rattle.bl_syntax.specs.declared.terms.Sort.{Sort}
use Rattle.bl_syntax.specs.declared.terms.TimePoint.{TimePoint}
use Rattle.bl_syntax.specs.declared.terms.Term.{Term}
use Rattle.bl_syntax.specs.declared.terms.Constraint.{Constraint}
use Rattle.bl_syntax.specs.declared.terms.StatePred.{StatePred}
use Rattle.bl_syntax.specs.declared.terms.StatePred.TheVariants.{Owner, HasXattr, InDir}
use Rattle.bl_syntax.specs.declared.grant.Goal.{Goal}
use Rattle.bl_syntax.specs.Grant.{GrantView}
use Rattle.bl_syntax.specs.Equality.{principal_eq, word_eq, text_eq, node_eq, perm_eq, sort_eq, time_point_eq, term_eq, constraint_eq, state_eq, goal_eq, grant_eq}

pub Decides-principal_eq : (a b : List ℕ) → Decides (principal_eq a b) (a ≡ b)
Decides-principal_eq a b = bytes_eq-Decides a b

pub Decides-word_eq : (a b : List ℕ) → Decides (word_eq a b) (a ≡ b)
Decides-word_eq a b = bytes_eq-Decides a b

pub Decides-text_eq : (a b : List ℕ) → Decides (text_eq a b) (a ≡ b)
Decides-text_eq a b = bytes_eq-Decides a b

pub Decides-node_eq : (a b : NodeId) → Decides (node_eq a b) (a ≡ b)
Decides-node_eq a b = search (tests, rules)

pub Decides-perm_eq : (a b : Perm) → Decides (perm_eq a b) (a ≡ b)
Decides-perm_eq a b = search (tests, rules)

pub Decides-sort_eq : (a b : Sort) → Decides (sort_eq a b) (a ≡ b)
Decides-sort_eq a b = search (tests, rules)

pub Decides-time_point_eq : (a b : TimePoint) → Decides (time_point_eq a b) (a ≡ b)
Decides-time_point_eq a b = search (tests, rules)

pub Decides-term_eq : (a b : Term) → Decides (term_eq a b) (a ≡ b)
Decides-term_eq a b = search (tests, rules)

between : Term → Term → Constraint
between u v = record { low = u; high = v }

same_between : (a b : Constraint) → (a.low ≡ b.low) × (a.high ≡ b.high) → a ≡ b
unfolding between
same_between a b h = ap (λ (u : Term). between u a.high) h.0 ∙ ap (λ (v : Term). between b.low v) h.1

pub Decides-constraint_eq : (a b : Constraint) → Decides (constraint_eq a b) (a ≡ b)
Decides-constraint_eq a b =
    Decides-like (constraint_eq a b) (same_between a b) (λ e. (ap (λ (c : Constraint). c.low) e, ap (λ (c : Constraint). c.high) e))
    (Decides-and _ _ (Decides-term_eq a.low b.low) (Decides-term_eq a.high b.high))

pub Decides-state_eq : (a b : StatePred) → Decides (state_eq a b) (a ≡ b)
Decides-state_eq (Owner f k) (Owner g l) =
    Decides-like _ (λ (h : (f ≡ g) × (k ≡ l)). let first = h.0 in let second = h.1 in cc) (λ e. (cc, cc)) (Decides-and _ _ (Decides-term_eq f g) (Decides-term_eq k l))
Decides-state_eq (HasXattr f a v) (HasXattr g b w) =
    Decides-like _ (λ (h : (f ≡ g) × ((a ≡ b) × (v ≡ w))). let first = h.0 in let second = h.1.0 in let third = h.1.1 in cc) (λ e. (cc, (cc, cc)))
    (Decides-and _ _ (Decides-term_eq f g) (Decides-and _ _ (Decides-term_eq a b) (Decides-term_eq v w)))
Decides-state_eq (InDir f d) (InDir g e) =
    Decides-like _ (λ (h : (f ≡ g) × (d ≡ e)). let first = h.0 in let second = h.1 in cc) (λ same. (cc, cc)) (Decides-and _ _ (Decides-term_eq f g) (Decides-term_eq d e))
Decides-state_eq _ _ = (λ e. absurd (false≢true e), λ e. cc)

wanted : List ℕ → NodeId → Perm → Goal
wanted who file perm = record { who = who; file = file; perm = perm }

same_wanted : (a b : Goal) → (a.who ≡ b.who) × ((a.file ≡ b.file) × (a.perm ≡ b.perm)) → a ≡ b
unfolding wanted
same_wanted a b h =
    ap (λ (who : List ℕ). wanted who a.file a.perm) h.0 ∙ ap (λ (file : NodeId). wanted b.who file a.perm) h.1.0 ∙ ap (λ (p : Perm). wanted b.who b.file p) h.1.1

pub Decides-goal_eq : (a b : Goal) → Decides (goal_eq a b) (a ≡ b)
Decides-goal_eq a b =
    Decides-like (goal_eq a b) (same_wanted a b)
    (λ e. (ap (λ (g : Goal). g.who) e, (ap (λ (g : Goal). g.file) e, ap (λ (g : Goal). g.perm) e)))
    (Decides-and _ _ (Decides-principal_eq a.who b.who) (Decides-and _ _ (Decides-node_eq a.file b.file) (Decides-perm_eq a.perm b.perm)))

given : Goal → List Constraint → List StatePred → List ℕ → GrantView
given goal times states cited = record { goal = goal; times = times; states = states; cited = cited }

-- the same grant, by its parts
pub same_grant : (a b : GrantView) → a.goal ≡ b.goal → a.times ≡ b.times → a.states ≡ b.states → a.cited ≡ b.cited → a ≡ b
unfolding given
same_grant a b goal times states cited =
    ap (λ (g : Goal). given g a.times a.states a.cited) goal ∙ ap (λ (ts : List Constraint). given b.goal ts a.states a.cited) times
    ∙ ap (λ (ss : List StatePred). given b.goal b.times ss a.cited) states ∙ ap (λ (ns : List ℕ). given b.goal b.times b.states ns) cited

pub Decides-grant_eq : (a b : GrantView) → Decides (grant_eq a b) (a ≡ b)
Decides-grant_eq a b =
    Decides-like (grant_eq a b) (λ h. same_grant a b h.0 h.1.0 h.1.1.0 h.1.1.1)
    (λ e. (ap (λ (g : GrantView). g.goal) e, (ap (λ (g : GrantView). g.times) e, (ap (λ (g : GrantView). g.states) e, ap (λ (g : GrantView). g.cited) e))))
    (Decides-and _ _ (Decides-goal_eq a.goal b.goal)
    (Decides-and _ _ (slice_eq-Decides Decides-constraint_eq a.times b.times _ refl)
    (Decides-and _ _ (slice_eq-Decides Decides-state_eq a.states b.states _ refl) (bytes_eq-Decides a.cited b.cited))))
