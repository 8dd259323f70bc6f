use Rattle.cv_cert.proofs.Splits.{tokens_first}
use Rattle.cv_cert.proofs.tokens.token_end.Goals as goal

pub returns-clause-tokens : goal.returns-clause-tokens
returns-clause-tokens c = tokens_first c.args.bytes.now c.place_of.result c.place_of.ensures.place
