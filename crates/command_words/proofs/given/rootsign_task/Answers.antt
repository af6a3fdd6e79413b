-- Both words are numbers, or one is none.
use Rattle.std.proofs.Common.{subst, sym, codes, ℕ, ◌^◌}
use Rattle.clap.specs.Words.{found_of, rows_of}
use Rattle.command_words.specs.CommandWords.{GivesNumber}
use Rattle.command_words.specs.declared.given.TheConstants.{MOST_HEIGHT}
use Rattle.command_words.proofs.GivenLemmas.{given_once}
use Rattle.command_words.proofs.TaskLemmas.{no_rootsign}
use Rattle.command_words.proofs.given.rootsign_task.Goals as goal

pub returns-in-None : goal.returns-in-None
returns-in-None c = no_rootsign (rows_of (found_of c.args.given.now)) (λ height from gives_height gives_from. c.in-None.ensures height gives_height)

pub returns-in-None-number_given : goal.returns-in-None-number_given
returns-in-None-number_given c = no_rootsign (rows_of (found_of c.args.given.now)) (λ height from gives_height gives_from.
    let same = given_once 0 MOST_HEIGHT 0 MOST_HEIGHT (codes "height") (rows_of (found_of c.args.given.now)) height c.in-Some.height gives_height c.in-Some.ensures in
    let most = subst (λ (h : ℕ). GivesNumber 0 (2 ^ h) (codes "from") (rows_of (found_of c.args.given.now)) from) same gives_from in
    c.in-None-number_given.ensures from (subst (λ (n : ℕ). GivesNumber 0 n (codes "from") (rows_of (found_of c.args.given.now)) from) (sym c.leaves_of.ensures.leaves) most))
