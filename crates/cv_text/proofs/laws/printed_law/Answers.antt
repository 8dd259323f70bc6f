use Rattle.cv_text.proofs.Shaped.{read_again, shaped_spells, shaped_within}
use Rattle.cv_text.proofs.laws.printed_law.Goals as goal

pub returns-clause-spells : goal.returns-clause-spells
returns-clause-spells c = shaped_spells

pub returns-clause-levels : goal.returns-clause-levels
returns-clause-levels c = shaped_within

pub returns-clause-again : goal.returns-clause-again
returns-clause-again c = read_again
