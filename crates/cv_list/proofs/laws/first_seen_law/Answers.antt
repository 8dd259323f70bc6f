use Rattle.cv_list.proofs.laws.first_seen_law.Goals as goal
use Rattle.cv_list.proofs.Numbered.{is_numbering, only_numbering}

-- src/laws.rt:6:1
pub returns-clause-numbers : goal.returns-clause-numbers
returns-clause-numbers c = λ keys. is_numbering keys

-- src/laws.rt:6:1
pub returns-clause-only : goal.returns-clause-only
returns-clause-only c = λ keys numbers h. only_numbering keys numbers h
