-- A script grows by users and by rounds.
use Rattle.std.proofs.Common.{◌≡◌, ◌<◌, ◌≤◌, ◌+◌, ◌-◌, ℕ, suc, List, ◌++◌, sym, ap, ◌∙◌, append_assoc, append-nil, arith}
use Rattle.generated_script.specs.declared.drawing.Round.{Round}
use Rattle.generated_script.specs.Draws.{round_from}
use Rattle.generated_script.specs.Script.{issues_after, root_lines, round_lines, rounds_text, users_lines}

-- ---- users

pub no_users : (text : List ℕ) → text ≡ text ++ users_lines 0
unfolding users_lines
no_users text = sym (append-nil text)

-- one user more
pub user_more : (text so_far new : List ℕ) (user : ℕ) → so_far ≡ text ++ users_lines user → new ≡ so_far ++ root_lines user → new ≡ text ++ users_lines (user + 1)
unfolding users_lines
user_more text so_far new user before is =
    let next : user + 1 ≡ suc user = omega arith in
    is ∙ ap (λ (t : List ℕ). t ++ root_lines user) before ∙ append_assoc text (users_lines user) (root_lines user) ∙ ap (λ (n : ℕ). text ++ users_lines n) (sym next)

pub all_users : (text so_far : List ℕ) (user : ℕ) → 8 ≤ user → user ≤ 8 → so_far ≡ text ++ users_lines user → so_far ≡ text ++ users_lines 8
all_users text so_far user enough most before =
    let all : user ≡ 8 = omega (arith, enough, most) in
    before ∙ ap (λ (n : ℕ). text ++ users_lines n) all

-- ---- rounds

pub no_rounds : (text : List ℕ) (rounds seed : ℕ) → text ++ rounds_text 1 (rounds - 0) seed 8 ≡ text ++ rounds_text 1 rounds seed 8
no_rounds text rounds seed =
    let all : rounds - 0 ≡ rounds = omega arith in
    ap (λ (n : ℕ). text ++ rounds_text 1 n seed 8) all

-- one round more
pub round_more : (text new whole : List ℕ) (place rounds state issues after : ℕ) (round : Round) → place < rounds → round ≡ round_from state → new ≡ text ++ round_lines round (place + 1) issues
    → after ≡ issues_after round.kind issues → text ++ rounds_text (place + 1) (rounds - place) state issues ≡ whole → new ++ rounds_text (place + 1 + 1) (rounds - (place + 1)) round.state after ≡ whole
unfolding rounds_text
round_more text new whole place rounds state issues after round within drawn is count before =
    let left : rounds - place ≡ suc (rounds - (place + 1)) = omega (arith, within) in
    let more = rounds - (place + 1) in
    let rest : Round → List ℕ = λ r. rounds_text (place + 1 + 1) more r.state (issues_after r.kind issues) in
    ap (λ (t : List ℕ). t ++ rounds_text (place + 1 + 1) more round.state after) is
    ∙ ap (λ (n : ℕ). (text ++ round_lines round (place + 1) issues) ++ rounds_text (place + 1 + 1) more round.state n) count
    ∙ append_assoc text (round_lines round (place + 1) issues) (rest round)
    ∙ ap (λ (r : Round). text ++ (round_lines r (place + 1) issues ++ rest r)) drawn
    ∙ ap (λ (n : ℕ). text ++ rounds_text (place + 1) n state issues) (sym left)
    ∙ before

pub all_rounds : (text whole : List ℕ) (place rounds state issues : ℕ) → rounds ≤ place → text ++ rounds_text (place + 1) (rounds - place) state issues ≡ whole → text ≡ whole
unfolding rounds_text
all_rounds text whole place rounds state issues all before =
    let none : rounds - place ≡ 0 = omega (arith, all) in
    sym (append-nil text) ∙ ap (λ (n : ℕ). text ++ rounds_text (place + 1) n state issues) (sym none) ∙ before
