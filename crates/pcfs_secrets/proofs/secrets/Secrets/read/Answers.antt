-- The first line gives the key of the seal.
use Rattle.std.proofs.Common.{ℕ, List, rules}
use Rattle.line_text.specs.Lines.{lines_of}
use Rattle.pcfs_secrets.specs.SecretLines.{IsSealLine}
use Rattle.pcfs_secrets.specs.SecretsFile.{no_seal}
use Rattle.pcfs_secrets.proofs.FileLemmas.{reads_lines}
use Rattle.pcfs_secrets.proofs.secrets.Secrets.read.Goals as goal

pub returns-in-Some : goal.returns-in-Some
returns-in-Some c =
    let seal : IsSealLine c.args.line.now c.in-Some.seal_key = search rules in
    reads_lines c.args.line.now c.in-Some.seal_key (lines_of c.args.others.now) c.secrets_with_seal.result seal c.secrets_with_seal.ensures.ok c.secrets_with_seal.ensures.err

pub returns-in-None : goal.returns-in-None
returns-in-None c =
    let none : (key : List ℕ) → IsSealLine c.args.line.now key → ⊥ = rw c.in-None.is at c.in_ok-seal_key.ensures in
    no_seal c.args.line.now (lines_of c.args.others.now) none
