-- Reading a program, where this is how a contract is read.
use Rattle.std.specs.Prelude.{ℕ, ◌^◌, Bool, List, [], Option}
use Rattle.std.specs.List.{list_all}
use Rattle.cv_core.specs.declared.program.Program.{Program}
use Rattle.cv_core.specs.declared.program.GlobalDecl.{GlobalDecl}
use Rattle.cv_core.specs.declared.program.Literal.{Literal}
use Rattle.cv_core.specs.declared.program.ResultKind.{ResultKind}
use Rattle.cv_core.specs.declared.program.Formal.{Formal}
use Rattle.cv_core.specs.declared.program.Contract.{Contract}
use Rattle.cv_core.specs.declared.program.Proc.{Proc}
use Rattle.cv_core.specs.declared.program.ProcBody.{ProcBody}
use Rattle.cv_reading.specs.Reading.{Reading, ◌&◌, ◌▷◌}
use Rattle.cv_reading.specs.Deep.{Deep, plain, changed, ◌⊗◌, repeat, more_onto}
use Rattle.cv_text.specs.declared.token.Key.TheVariants as key
use Rattle.cv_text.specs.declared.token.Sign.TheVariants as sign
use Rattle.cv_text.specs.Tokens.{Lexeme}
use Rattle.cv_text.specs.Levels.{contract_within, most_levels}
use Rattle.cv_text.specs.Reader.{the_word, the_mark, a_name, within}
use Rattle.cv_text.specs.DeclarationReader.{answer, formals, globals, literals, body}

-- ---- procedures

-- the kind of the result, the name and the formals
abbrev pub Heading : Type 0
Heading = ResultKind × (List ℕ × List Formal)

-- behind the line
unfoldable pub heading : Reading Lexeme Heading
heading = the_mark sign.Colon ▷ the_word key.Proc ▷ answer & λ _. a_name & λ _. the_mark sign.Open ▷ formals

abbrev pub Rest : Type 0
Rest = Contract × Option ProcBody

abbrev pub proc_of : ℕ → Heading × Rest → Proc
proc_of line v = record { line = line; answer = v.0.0; name = v.0.1.0; formals = v.0.1.1; contract = v.1.0; body = v.1.1 }

-- the contract and the body, where these formals are declared
unfoldable pub contract_and_body : Deep Lexeme Contract → List Formal → Deep Lexeme Rest
contract_and_body contract fs = contract ⊗ (λ _. plain (body fs))

-- behind the line
unfoldable pub proc_rest : Deep Lexeme Contract → ℕ → Deep Lexeme Proc
proc_rest contract line = changed (proc_of line) (plain heading ⊗ (λ h. contract_and_body contract h.1.1))

-- the number of a line, with which a procedure begins
abbrev pub line_of : Lexeme → Option ℕ
line_of t = within 0 (2 ^ 31) t

-- the procedures behind these
unfoldable pub procs_onto : Deep Lexeme Contract → List Proc → Deep Lexeme (List Proc)
procs_onto contract before = more_onto before (repeat line_of (proc_rest contract))

unfoldable pub procs : Deep Lexeme Contract → Deep Lexeme (List Proc)
procs contract = procs_onto contract []

-- ---- programs

abbrev pub Parts : Type 0
Parts = List GlobalDecl × (List Literal × List Proc)

abbrev pub program_of : Parts → Program
program_of v = record { globals = v.0; literals = v.1.0; procs = v.1.1 }

unfoldable pub program : Deep Lexeme Contract → Deep Lexeme Parts
program contract = plain globals ⊗ (λ _. plain literals ⊗ (λ _. procs contract))

-- no pointer and no term of a contract has more levels than a text may open
abbrev pub is_within : Program → Bool
is_within p = list_all (λ f. contract_within most_levels f.contract) p.procs
