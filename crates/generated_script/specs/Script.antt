-- A script that is generated from a number of rounds and a seed (this project's own): eight users
-- with a procap each for the root, and then rounds in which one of them makes a file or writes into
-- one, or `admin` gives one away.
use Rattle.std.specs.Prelude.{ℕ, zero, suc, List, [], ◌++◌, ◌+◌, ◌-◌, ◌*◌, ◌%◌, ◌==◌, if◌then◌else◌}
use Rattle.generated_script.specs.declared.drawing.Kind.{Kind}
use Rattle.generated_script.specs.declared.drawing.Kind.TheVariants.{Create, Prove, Again, Give}
use Rattle.generated_script.specs.declared.drawing.Round.{Round}
use Rattle.generated_script.specs.Draws.{round_from}
use Rattle.generated_script.specs.Lines.{admin_line, at_line, chown_line, create_line, govern_line, govern_proof_line, owner_line, owner_proof_line, root_line, root_proof_line, user_line, write_line}

-- ---- before the rounds

-- a user may write the root, and gets the procap for it
unfoldable pub root_lines : ℕ → List ℕ
root_lines user = root_line user ++ root_proof_line user

-- so may each of that many users
unfoldable pub users_lines : ℕ → List ℕ
users_lines zero = []
users_lines (suc user) = users_lines user ++ root_lines user

-- what stands before the first round. It has ten statements and eight issues
unfoldable pub front_text : List ℕ
front_text = at_line 1000 ++ (users_lines 8 ++ (owner_line ++ govern_line))

-- ---- rounds

-- a user makes a file that is named after the round, by its procap for the root
unfoldable pub create_lines : ℕ → ℕ → List ℕ
create_lines user number = user_line user ++ create_line number (user + 1)

-- a user writes the number of the round into a file, by the procap of that issue
unfoldable pub write_lines : ℕ → ℕ → ℕ → ℕ → List ℕ
write_lines user file number issue = user_line user ++ write_line file number issue

-- a user proves that it may write a file that it owns, and writes
unfoldable pub prove_lines : ℕ → ℕ → ℕ → ℕ → List ℕ
prove_lines user file number issue = owner_proof_line user file ++ write_lines user file number issue

-- a user writes by the procap of an issue that a round has made; it makes a file if there is none
unfoldable pub again_lines : Round → ℕ → ℕ → List ℕ
again_lines round number issues =
    if issues == 8 then create_lines round.user number else
    write_lines round.user round.file number (9 + round.choice % (issues - 8))

-- `admin` gives a file to a user
unfoldable pub give_lines : ℕ → ℕ → ℕ → List ℕ
give_lines file user issue = govern_proof_line file ++ (admin_line ++ chown_line file user issue)

-- the lines of a round after its time, if there were so many issues before it
abbrev pub kind_lines : Kind → Round → ℕ → ℕ → List ℕ
kind_lines Create round number issues = create_lines round.user number
kind_lines Prove round number issues = prove_lines round.user round.file number (issues + 1)
kind_lines Again round number issues = again_lines round number issues
kind_lines Give round number issues = give_lines round.file round.choice (issues + 1)

-- the lines of the round of that number, if there were so many issues before it
unfoldable pub round_lines : Round → ℕ → ℕ → List ℕ
round_lines round number issues = at_line (1000 + 10 * number) ++ kind_lines round.kind round number issues

-- how many issues there are after a round of that kind
abbrev pub issues_after : Kind → ℕ → ℕ
issues_after Create issues = issues
issues_after Prove issues = issues + 1
issues_after Again issues = issues
issues_after Give issues = issues + 1

-- so many rounds, the first of that number, from a state of the draws and a number of issues
unfoldable pub rounds_text : ℕ → ℕ → ℕ → ℕ → List ℕ
rounds_text number zero state issues = []
rounds_text number (suc more) state issues =
    let round = round_from state in
    round_lines round number issues ++ rounds_text (number + 1) more round.state (issues_after round.kind issues)

-- the script of so many rounds with that seed
unfoldable pub script_text : ℕ → ℕ → List ℕ
script_text rounds seed = front_text ++ rounds_text 1 rounds seed 8
