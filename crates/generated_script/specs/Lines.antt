-- The lines of a generated script, each with its end (this project's own). The name of a user is
-- `u` and its number.
use Rattle.std.specs.Prelude.{ℕ, List, [], ◌∷◌, ◌++◌, ◌+◌, ◌/◌, ◌%◌, codes}
use Rattle.std.specs.Fmt.{decimal}

-- the clock is set
unfoldable pub at_line : ℕ → List ℕ
at_line second = codes "at " ++ (decimal second ++ codes "\n")

-- a user is the caller from now on
unfoldable pub user_line : ℕ → List ℕ
user_line user = codes "as u" ++ (decimal user ++ codes "\n")

-- `admin` is the caller from now on
unfoldable pub admin_line : List ℕ
admin_line = codes "as admin\n"

-- ---- statements and proofs

-- `admin` lets a user write the root
unfoldable pub root_line : ℕ → List ℕ
root_line user = codes "register - admin says may(u" ++ (decimal user ++ codes ",#1,write) from 0 to 100000\n")

-- the proof that the user may, from the statement whose number is greater by one
unfoldable pub root_proof_line : ℕ → List ℕ
root_proof_line user = codes "verify u" ++ (decimal user ++ (codes " #1 write " ++ (decimal (user + 1) ++ codes " saysR(claim(0,init(1)))\n")))

-- `admin` lets each owner of a file write it
unfoldable pub owner_line : List ℕ
owner_line = codes "register - admin says forall F:file. forall K:principal. owner(F,K) => may(K,F,write) from 0 to 100000\n"

-- `admin` lets itself govern each file
unfoldable pub govern_line : List ℕ
govern_line = codes "register - admin says forall F:file. may(admin,F,govern) from 0 to 100000\n"

-- the goal that a user may do something with a file
unfoldable pub user_goal : ℕ → ℕ → List ℕ
user_goal user file = codes "verify u" ++ (decimal user ++ (codes " #" ++ decimal file))

-- the proof that a user may write a file, if it owns the file
unfoldable pub owner_proof_line : ℕ → ℕ → List ℕ
owner_proof_line user file =
    user_goal user file ++ (codes " write 9 saysR(claim(0,forallL(1,#"
    ++ (decimal file ++ (codes ",forallL(2,u"
    ++ (decimal user ++ codes ",impL(3,ctime,ctime,interR,init(4))))))\n"))))

-- the proof that `admin` may govern a file
unfoldable pub govern_proof_line : ℕ → List ℕ
govern_proof_line file = codes "verify admin #" ++ (decimal file ++ (codes " govern 10 saysR(claim(0,forallL(1,#" ++ (decimal file ++ codes ",init(2))))\n")))

-- ---- operations

-- the procap of an issue, at the end of a line
unfoldable pub procap_end : ℕ → List ℕ
procap_end issue = codes " @" ++ (decimal issue ++ codes "\n")

-- a file is made in the root, whose name is `f` and a number
unfoldable pub create_line : ℕ → ℕ → List ℕ
create_line number issue = codes "do create #1 f" ++ (decimal number ++ procap_end issue)

-- the last digit of a number
unfoldable pub digit : ℕ → ℕ
digit number = 48 + number % 10

-- a number in eight digits
unfoldable pub eight_digits : ℕ → List ℕ
eight_digits number =
    digit (number / 10000000) ∷ (digit (number / 1000000)
    ∷ (digit (number / 100000)
    ∷ (digit (number / 10000)
    ∷ (digit (number / 1000)
    ∷ (digit (number / 100) ∷ (digit (number / 10) ∷ (digit number ∷ [])))))))

-- a number is written into a file
unfoldable pub write_line : ℕ → ℕ → ℕ → List ℕ
write_line file number issue = codes "do write #" ++ (decimal file ++ (codes " 0 " ++ (eight_digits number ++ procap_end issue)))

-- a file is given to a user
unfoldable pub chown_line : ℕ → ℕ → ℕ → List ℕ
chown_line file user issue = codes "do chown #" ++ (decimal file ++ (codes " u" ++ (decimal user ++ procap_end issue)))
