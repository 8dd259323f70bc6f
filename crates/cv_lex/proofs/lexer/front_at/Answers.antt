use Rattle.std.proofs.Common.{ℕ, List, ap, ◌∙◌}
use Rattle.std.proofs.lemmas.List.{take_rest}
use Rattle.cv_lex.specs.Parts.{begun}
use Rattle.cv_lex.proofs.Scanning.{front_fits}
use Rattle.cv_lex.proofs.lexer.front_at.Goals as goal

pub returns-clause-within : goal.returns-clause-within
returns-clause-within c =
    front_fits c.args.source.now c.args.at c.starts_line.result c.byte.result c.begun.result c.requires c.starts_line.ensures c.byte.ensures
    (c.begun.ensures.front ∙ ap (λ (u : List ℕ). begun c.starts_line.result c.byte.result u) (take_rest c.args.source.now c.args.at))
