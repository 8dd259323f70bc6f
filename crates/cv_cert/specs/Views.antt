-- What the kinds of lines that the code tells apart stand for.
use Rattle.std.specs.Prelude.{ℕ, List, [], ◌∷◌, ◌⊎◌, Option, Some, None}
use Rattle.std.proofs.Common.{inl, inr}
use Rattle.cv_num.specs.declared.rows.Row.{Row}
use Rattle.cv_cert.specs.declared.certificate.Block.{Block}
use Rattle.cv_cert.specs.declared.kinds.StatementStart.{StatementStart}
use Rattle.cv_cert.specs.declared.kinds.StatementStart.TheVariants.{At, Picks}
use Rattle.cv_cert.specs.declared.kinds.Heading.{Heading}
use Rattle.cv_cert.specs.declared.kinds.Heading.TheVariants.{Proc, End}
use Rattle.cv_cert.specs.declared.grammar.Statement.{Statement}
use Rattle.cv_cert.specs.declared.grammar.Statement.TheVariants as statement
use Rattle.cv_cert.specs.declared.grammar.NextBlock.{NextBlock}
use Rattle.cv_cert.specs.declared.grammar.NextBlock.TheVariants as next

abbrev pub statement_line : StatementStart → ℕ ⊎ List ℕ
statement_line (At n) = inl n
statement_line (Picks picks) = inr picks

abbrev pub heading : Heading → (List ℕ × ℕ) ⊎ Unit {0}
heading (Proc name n) = inl (name, n)
heading End = inr tt

abbrev pub rows_or_picks : Statement → List Row ⊎ List ℕ
rows_or_picks (statement.Rows rows) = inl rows
rows_or_picks (statement.Picks picks) = inr picks

abbrev pub next_block : NextBlock → Block ⊎ Unit {0}
next_block (next.Block b) = inl b
next_block next.End = inr tt

-- the last of some rows
abbrev pub last_row : List Row → Option Row
last_row [] = None
last_row (r ∷ []) = Some r
last_row (r ∷ (s ∷ rs)) = last_row (s ∷ rs)
