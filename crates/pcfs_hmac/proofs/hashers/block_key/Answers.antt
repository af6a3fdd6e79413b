use Rattle.std.proofs.Common.{◌++◌, ℕ, List, ap₂, sym, ◌∙◌}
use Rattle.std.proofs.lemmas.List.{drop-replicate}
use Rattle.pcfs_hmac.proofs.hashers.block_key.Goals as goal
use Rattle.pcfs_hmac.proofs.BlockKeyLemmas.{block_key-long, block_key-short}

pub returns-then-key-gt-BLOCK_LENGTH : goal.returns-then-key-gt-BLOCK_LENGTH
returns-then-key-gt-BLOCK_LENGTH c =
    rw (c.copy_from_slice.ensures.after, c.digest.ensures) (sym (block_key-long _ c.if-key-gt-BLOCK_LENGTH.true))

pub returns-else-key-gt-BLOCK_LENGTH : goal.returns-else-key-gt-BLOCK_LENGTH
returns-else-key-gt-BLOCK_LENGTH c =
    ap₂ (λ (a b : List ℕ). a ++ b) c.copy_from_slice-else-key-gt-BLOCK_LENGTH.ensures.after (drop-replicate _ 64 0)
    ∙ sym (block_key-short _ c.if-key-gt-BLOCK_LENGTH.false)
