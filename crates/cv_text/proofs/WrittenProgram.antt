-- A program that a text spells has the form that the grammar alone asks, where its contracts have.
use Rattle.std.proofs.Common.{◌≡◌, ◌<◌, ℕ, List, Option, Some, None}
use Rattle.std.specs.List.{All}
use Rattle.cv_core.specs.Grammar.{IsName, AreBytes, IsGlobalBody, IsContract, IsBody, IsLocal, IsStmt, IsProc, IsWritten}
use Rattle.cv_core.specs.declared.program.Program.{Program}
use Rattle.cv_core.specs.declared.program.GlobalDecl.{GlobalDecl}
use Rattle.cv_core.specs.declared.program.GlobalBody.{GlobalBody}
use Rattle.cv_core.specs.declared.program.GlobalBody.TheVariants as global_body
use Rattle.cv_core.specs.declared.program.Literal.{Literal}
use Rattle.cv_core.specs.declared.program.Formal.{Formal}
use Rattle.cv_core.specs.declared.program.Contract.{Contract}
use Rattle.cv_core.specs.declared.program.Proc.{Proc}
use Rattle.cv_core.specs.declared.program.ProcBody.{ProcBody}
use Rattle.cv_text.specs.declared.token.Sign.TheVariants as sign
use Rattle.cv_text.specs.Tokens.{Line}
use Rattle.cv_text.specs.Grammar.{Mark, Byte, GlobalPhrase, GlobalText, LiteralText, FormalText, LocalText, Statement, variables_of}
use Rattle.cv_text.specs.Clauses.{ContractText}
use Rattle.cv_text.specs.Whole.{BodyText, ProcText, ProgramText}
use Rattle.cv_text.proofs.Written.{AllFine, split, name_fine, each_fine, separated_fine, written_fine, local_fine}

-- ---- declarations

global_fine : (g : GlobalDecl) (text : Line) → GlobalText g text → AllFine text → IsName g.name × IsGlobalBody g.body
global_fine g text h fine = let a1 = split text h fine in by_body g.name g.body a1.1 a1.3 a1.5
  where
    by_body : (x : List ℕ) (b : GlobalBody) (text : Line) → GlobalPhrase x b text → AllFine text → IsName x × IsGlobalBody b
    by_body x (global_body.Buffer n) text h fine = let a1 = split text h fine in let a2 = split a1.1 a1.3 a1.5 in let a3 = split a2.1 a2.3 a2.5 in (name_fine x a2.0 a2.2 a2.4, (a3.2.0, a3.2.1))
    by_body x global_body.Pointer text h fine = let a1 = split text h fine in let a2 = split a1.1 a1.3 a1.5 in (name_fine x a2.0 a2.2 a2.4, tt)
    by_body x global_body.Int text h fine = let a1 = split text h fine in let a2 = split a1.1 a1.3 a1.5 in (name_fine x a2.0 a2.2 a2.4, tt)

byte_fine : (b : ℕ) (text : Line) → Byte b text → AllFine text → b < 256
byte_fine b text h fine = h.1

literal_fine : (l : Literal) (text : Line) → LiteralText l text → AllFine text → IsName l.name × AreBytes l.bytes
literal_fine l text h fine =
    let a1 = split text h fine in
    let a2 = split a1.1 a1.3 a1.5 in
    let a3 = split a2.1 a2.3 a2.5 in
    let a4 = split a3.1 a3.3 a3.5 in
    (name_fine l.name a2.0 a2.2 a2.4, separated_fine (λ b. b < 256) Byte (Mark sign.Comma) byte_fine l.bytes a4.0 a4.2 a4.4)

formal_fine : (f : Formal) (text : Line) → FormalText f text → AllFine text → IsName f.name
formal_fine f text h fine = let a1 = split text h fine in name_fine f.name a1.1 a1.3 a1.5

-- ---- procedures and programs

body_fine : (fs : List Formal) (b : Option ProcBody) (text : Line) → BodyText fs b text → AllFine text → IsBody b
body_fine fs None text h fine = tt
body_fine fs (Some b) text h fine =
    let a1 = split text h fine in
    let a2 = split a1.1 a1.3 a1.5 in
    let a3 = split a2.1 a2.3 a2.5 in
    (each_fine IsLocal LocalText local_fine b.locals a2.0 a2.2 a2.4, each_fine IsStmt (Statement _) (λ s t k f. written_fine s t k.1 f) b.stmts a3.0 a3.2 a3.4)

module _ (contract_fine : (c : Contract) (text : Line) → ContractText c text → AllFine text → IsContract c) where
  proc_fine : (f : Proc) (text : Line) → ProcText f text → AllFine text → IsProc f
  proc_fine f text h fine =
      let a1 = split text h fine in
      let a2 = split a1.1 a1.3 a1.5 in
      let a3 = split a2.1 a2.3 a2.5 in
      let a4 = split a3.1 a3.3 a3.5 in
      let a5 = split a4.1 a4.3 a4.5 in
      let a6 = split a5.1 a5.3 a5.5 in
      let a7 = split a6.1 a6.3 a6.5 in
      let a8 = split a7.1 a7.3 a7.5 in
      let a9 = split a8.1 a8.3 a8.5 in
      record {
        line = a1.2.1;
        name = name_fine f.name a5.0 a5.2 a5.4;
        formals = separated_fine (λ v. IsName v.name) FormalText (Mark sign.Comma) formal_fine f.formals a7.0 a7.2 a7.4;
        contract = contract_fine f.contract a9.0 a9.2 a9.4;
        body = body_fine f.formals f.body a9.1 a9.3 a9.5;
      }

  pub program_fine : (p : Program) (text : Line) → ProgramText p text → AllFine text → IsWritten p
  program_fine p text h fine =
      let a1 = split text h fine in
      let a2 = split a1.1 a1.3 a1.5 in
      record {
        globals = each_fine (λ g. IsName g.name × IsGlobalBody g.body) GlobalText global_fine p.globals a1.0 a1.2 a1.4;
        literals = each_fine (λ l. IsName l.name × AreBytes l.bytes) LiteralText literal_fine p.literals a2.0 a2.2 a2.4;
        procs = each_fine IsProc ProcText proc_fine p.procs a2.1 a2.3 a2.5;
      }
