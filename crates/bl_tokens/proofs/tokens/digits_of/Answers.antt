-- The run of digits has digits alone.
use Rattle.bl_syntax.specs.Names.{is_digit}
use Rattle.std.proofs.Common.{rules}
use Rattle.bl_tokens.proofs.RunLemmas.{list_all-prefix}
use Rattle.bl_tokens.proofs.tokens.digits_of.Goals as goal

pub returns-clause-digits : goal.returns-clause-digits
returns-clause-digits c = search (rules, list_all-prefix is_digit c.args.bytes.now)
