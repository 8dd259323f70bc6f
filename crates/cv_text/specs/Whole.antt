-- Which bytes spell which program.
use Rattle.std.specs.Prelude.{ℕ, List, ◌++◌, Option, Some, None}
use Rattle.cv_core.specs.declared.program.Program.{Program}
use Rattle.cv_core.specs.declared.program.Proc.{Proc}
use Rattle.cv_core.specs.declared.program.ProcBody.{ProcBody}
use Rattle.cv_core.specs.declared.program.Formal.{Formal}
use Rattle.cv_text.specs.declared.token.Key.TheVariants as key
use Rattle.cv_text.specs.declared.token.Sign.TheVariants as sign
use Rattle.cv_text.specs.Tokens.{Line, lexemes}
use Rattle.cv_reading.specs.Phrase.{◌⋅◌, Each, Separated}
use Rattle.cv_text.specs.Grammar.{Name, Word, Mark, Count, Answer, FormalText, LocalText, variables_of, Statement, GlobalText, LiteralText, end}
use Rattle.cv_text.specs.Clauses.{ContractText}

-- the mark of an extern procedure, or a body where these formals are declared
abbrev pub BodyText : List Formal → Option ProcBody → Line → Type 0
BodyText formals None = Word key.Extern ⋅ end
BodyText formals (Some b) = Mark sign.OpenBrace ⋅ Each LocalText b.locals ⋅ Each (Statement (formals ++ variables_of b.locals)) b.stmts ⋅ Mark sign.CloseBrace

abbrev pub ProcText : Proc → Line → Type 0
ProcText f = Count f.line ⋅ Mark sign.Colon ⋅ Word key.Proc ⋅ Answer f.answer ⋅ Name f.name
    ⋅ Mark sign.Open ⋅ Separated (Mark sign.Comma) FormalText f.formals ⋅ Mark sign.Close
    ⋅ ContractText f.contract ⋅ BodyText f.formals f.body

abbrev pub ProgramText : Program → Line → Type 0
ProgramText p = Each GlobalText p.globals ⋅ Each LiteralText p.literals ⋅ Each ProcText p.procs

-- These bytes are a text of CoreC, and this program is what it stands for.
pub record Spells (bytes : List ℕ) (p : Program) : Type 0 where
  pub tokens : ProgramText p (lexemes bytes)
