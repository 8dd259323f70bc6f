-- The printed text of a program spells that program.
use Rattle.std.proofs.Common.{◌≡◌, ℕ, ◌<◌, List, [], ◌∷◌, ◌++◌, Option, Some, None, codes, refl, sym, ap, subst, ◌∙◌, append_assoc, append-nil}
use Rattle.std.specs.List.{All, flat_map}
use Rattle.std.specs.Fmt.{decimal}
use Rattle.cv_core.specs.Grammar.{Tree, AreBytes, IsName, IsSize, IsLocal, IsLocalBody, IsGlobalBody, IsBody, IsProc, IsStmt, IsWritten}
use Rattle.cv_core.specs.declared.program.GlobalDecl.{GlobalDecl}
use Rattle.cv_core.specs.declared.program.GlobalBody.{GlobalBody}
use Rattle.cv_core.specs.declared.program.GlobalBody.TheVariants as global
use Rattle.cv_core.specs.declared.program.Literal.{Literal}
use Rattle.cv_core.specs.declared.program.Proc.{Proc}
use Rattle.cv_core.specs.declared.program.ProcBody.{ProcBody}
use Rattle.cv_core.specs.declared.program.ResultKind.{ResultKind}
use Rattle.cv_core.specs.declared.program.ResultKind.TheVariants as answer
use Rattle.cv_core.specs.declared.program.VarKind.{VarKind}
use Rattle.cv_core.specs.declared.program.VarKind.TheVariants as kind
use Rattle.cv_core.specs.declared.program.Formal.{Formal}
use Rattle.cv_core.specs.declared.program.Local.{Local}
use Rattle.cv_core.specs.declared.program.LocalBody.{LocalBody}
use Rattle.cv_core.specs.declared.program.LocalBody.TheVariants as local
use Rattle.cv_reading.specs.Phrase.{◌⋅◌, Separated}
use Rattle.cv_reading.proofs.Laws.{behind_nothing, with_nothing}
use Rattle.cv_text.specs.declared.token.Key.TheVariants as key
use Rattle.cv_text.specs.declared.token.Sign.TheVariants as sign
use Rattle.cv_text.specs.Tokens.{lexemes}
use Rattle.cv_text.specs.Grammar.{Name, Word, Mark, Size, Byte, Kind, LocalPhrase, LocalText, GlobalPhrase, GlobalText, LiteralText, Answer, FormalText, Statement, AsDeclared, variables_of, end}
use Rattle.cv_text.specs.Clauses.{ContractText}
use Rattle.cv_text.specs.Whole.{BodyText, ProcText, ProgramText, Spells}
use Rattle.cv_text.specs.PrintedContract.{joined, contract_text}
use Rattle.cv_text.specs.Printed.{kind_text, local_phrase, local_text, global_phrase, global_text, bytes_text, literal_text, answer_text, formal_text, braced_text, body_text, statement_text, proc_text, program_text}
use Rattle.cv_text.proofs.Declared.{AreDeclared, BodyDeclared}
use Rattle.cv_text.proofs.Pieces.{closed_blank, closed_word, closed_colon, closed_bracket, closed_end_bracket, closed_brace, closed_end_brace, closed_brace_between, open_closed, open_name, word_open}
use Rattle.cv_text.proofs.Respelled.{Prints, PrintsOpen, ◌▸◌, ◌▹◌, open_then, regroup, prints_as, token, open_token, then_newline, name_prints, semicolon, count_prints, size_prints, byte_prints, separated_then, each_prints}
use Rattle.cv_text.proofs.RespelledForms.{comma, blank_piece, statement_prints}
use Rattle.cv_text.proofs.RespelledContract.{contract_prints}

-- ---- declarations

kind_prints : (k : VarKind) → Prints (kind_text k) (Kind k)
kind_prints kind.Int = token (closed_word (codes "int") key.Int refl refl)
kind_prints kind.Char = token (closed_word (codes "char") key.Char refl refl)
kind_prints kind.Ptr = token (closed_word (codes "ptr") key.Ptr refl refl)
kind_prints kind.Pptr = token (closed_word (codes "pptr") key.Pptr refl refl)
kind_prints kind.Iptr = token (closed_word (codes "iptr") key.Iptr refl refl)

-- a name and the semicolon
named : (x : List ℕ) → IsName x → Prints (x ++ codes ";") (Name x ⋅ end)
named x h = open_then (name_prints x h) (λ rest. refl) semicolon

-- a name, a size and the semicolon
sized : (x : List ℕ) (n : ℕ) → IsName x → IsSize n → Prints ((x ++ codes " ") ++ (decimal n ++ codes ";")) (Name x ⋅ Size n ⋅ end)
sized x n h k =
    let spaced : Prints (x ++ codes " ") (Name x) = token (open_closed (open_name x h) closed_blank (λ rest. refl)) in
    spaced ▸ open_then (size_prints n k) (λ rest. refl) semicolon

local_phrase_prints : (x : List ℕ) (b : LocalBody) → IsName x → IsLocalBody b → Prints (local_phrase x b) (LocalPhrase x b)
local_phrase_prints x (local.Var k) h g =
    let whole : kind_text k ++ (x ++ codes ";") ≡ local_phrase x (local.Var k) = sym (append_assoc (kind_text k) x (codes ";")) in
    regroup whole (kind_prints k ▸ named x h)
local_phrase_prints x (local.Buffer n) h g =
    let whole : codes "buf " ++ ((x ++ codes " ") ++ (decimal n ++ codes ";")) ≡ local_phrase x (local.Buffer n) = simp append_assoc in
    regroup whole (token (closed_word (codes "buf") key.Buf refl refl) ▸ sized x n h g)
local_phrase_prints x local.PointerCell h g =
    let whole : codes "pcell " ++ (x ++ codes ";") ≡ local_phrase x local.PointerCell = simp append_assoc in
    regroup whole (token (closed_word (codes "pcell") key.Pcell refl refl) ▸ named x h)
local_phrase_prints x local.IntCell h g =
    let whole : codes "icell " ++ (x ++ codes ";") ≡ local_phrase x local.IntCell = simp append_assoc in
    regroup whole (token (closed_word (codes "icell") key.Icell refl refl) ▸ named x h)

local_prints : (l : Local) → IsLocal l → Prints (local_text l) (LocalText l)
local_prints l h = then_newline (local_phrase_prints l.name l.body h.0 h.1)

global_word : Prints (codes "global ") (Word key.Global)
global_word = token (closed_word (codes "global") key.Global refl refl)

global_phrase_prints : (x : List ℕ) (b : GlobalBody) → IsName x → IsGlobalBody b → Prints (global_phrase x b) (Word key.Global ⋅ GlobalPhrase x b)
global_phrase_prints x (global.Buffer n) h g =
    let whole : codes "global buf " ++ ((x ++ codes " ") ++ (decimal n ++ codes ";")) ≡ global_phrase x (global.Buffer n) = simp append_assoc in
    regroup whole (global_word ▸ (token (closed_word (codes "buf") key.Buf refl refl) ▸ sized x n h g))
global_phrase_prints x global.Pointer h g =
    let whole : codes "global ptr " ++ (x ++ codes ";") ≡ global_phrase x global.Pointer = simp append_assoc in
    regroup whole (global_word ▸ (token (closed_word (codes "ptr") key.Ptr refl refl) ▸ named x h))
global_phrase_prints x global.Int h g =
    let whole : codes "global int " ++ (x ++ codes ";") ≡ global_phrase x global.Int = simp append_assoc in
    regroup whole (global_word ▸ (token (closed_word (codes "int") key.Int refl refl) ▸ named x h))

abbrev GlobalGood : GlobalDecl → Type 0
GlobalGood g = IsName g.name × IsGlobalBody g.body

global_prints : (g : GlobalDecl) → GlobalGood g → Prints (global_text g) (GlobalText g)
global_prints g h = then_newline (global_phrase_prints g.name g.body h.0 h.1)

-- ---- literals

closes : Prints (codes "};") (Mark sign.CloseBrace ⋅ end)
closes = token closed_end_brace ▸ semicolon

bytes_print : (bytes : List ℕ) → AreBytes bytes → Prints (bytes_text bytes ++ codes "};") (Separated (Mark sign.Comma) Byte bytes ⋅ Mark sign.CloseBrace ⋅ end)
bytes_print [] h = prints_as (with_nothing (Mark sign.CloseBrace ⋅ end)) closes
bytes_print (b ∷ bs) h =
    let last : Prints (codes " };") (Mark sign.CloseBrace ⋅ end) = prints_as (behind_nothing (Mark sign.CloseBrace ⋅ end)) (blank_piece ▸ closes) in
    let all = separated_then (codes ", ") (Mark sign.Comma) decimal Byte (λ c. c < 256) (codes " };") (Mark sign.CloseBrace ⋅ end) comma (λ rest. refl) (λ rest. refl) last byte_prints (b ∷ bs) h in
    regroup (sym (append_assoc (joined (codes ", ") decimal (b ∷ bs)) (codes " ") (codes "};"))) all

abbrev LiteralGood : Literal → Type 0
LiteralGood l = IsName l.name × AreBytes l.bytes

literal_prints : (l : Literal) → LiteralGood l → Prints (literal_text l) (LiteralText l)
literal_prints l h =
    let whole : codes "literal " ++ (l.name ++ (codes " { " ++ (bytes_text l.bytes ++ codes "};"))) ≡ codes "literal " ++ l.name ++ codes " { " ++ bytes_text l.bytes ++ codes "};" = simp append_assoc in
    then_newline (regroup whole (token (closed_word (codes "literal") key.Literal refl refl) ▸ open_then (name_prints l.name h.0) (λ rest. refl) (token closed_brace_between ▸ bytes_print l.bytes h.1)))

-- ---- procedures

answer_prints : (k : ResultKind) → Prints (answer_text k) (Answer k)
answer_prints answer.Void = token (closed_word (codes "void") key.Void refl refl)
answer_prints answer.Int = token (closed_word (codes "int") key.Int refl refl)
answer_prints answer.Char = token (closed_word (codes "char") key.Char refl refl)
answer_prints answer.Ptr = token (closed_word (codes "ptr") key.Ptr refl refl)

abbrev FormalGood : Formal → Type 0
FormalGood f = IsName f.name

formal_prints : (f : Formal) → FormalGood f → PrintsOpen (formal_text f) (FormalText f)
formal_prints f h = kind_prints f.kind ▹ name_prints f.name h

brace_line : Prints (codes "{" ++ 10 ∷ []) (Mark sign.OpenBrace)
brace_line = then_newline (token closed_brace)

braced_prints : (formals : List Formal) (b : ProcBody) → All IsLocal b.locals → All IsStmt b.stmts → All (λ s. AsDeclared (formals ++ variables_of b.locals) s.form) b.stmts → Prints (braced_text b) (BodyText formals (Some b))
braced_prints formals b h k g =
    let vs : List Formal = formals ++ variables_of b.locals in
    let locals = each_prints local_text LocalText IsLocal local_prints b.locals h in
    let stmts = each_prints statement_text (Statement vs) (λ s. IsStmt s × AsDeclared vs s.form) (statement_prints vs) b.stmts (λ i d lt. (k i d lt, g i d lt)) in
    let begin : List ℕ = codes "{" ++ 10 ∷ [] in
    let whole : begin ++ (flat_map local_text b.locals ++ (flat_map statement_text b.stmts ++ (codes "}" ++ 10 ∷ []))) ≡ braced_text b = simp append_assoc in
    regroup whole (brace_line ▸ (locals ▸ (stmts ▸ then_newline (token closed_end_brace))))

body_prints : (formals : List Formal) (body : Option ProcBody) → IsBody body → BodyDeclared formals body → Prints (body_text body) (BodyText formals body)
body_prints formals None h k = then_newline (open_then (open_token (word_open (codes "extern") key.Extern refl refl)) (λ rest. refl) semicolon)
body_prints formals (Some b) h k = braced_prints formals b h.0 h.1 k

abbrev ProcGood : Proc → Type 0
ProcGood f = IsProc f × BodyDeclared f.formals f.body

proc_prints : (f : Proc) → ProcGood f → Prints (proc_text f) (ProcText f)
unfolding proc_text
proc_prints f h =
    let rest : List ℕ = contract_text f.contract ++ body_text f.body in
    let tail : List ℕ = (codes ")" ++ 10 ∷ []) ++ rest in
    let behind = contract_prints f.contract h.0.contract ▸ body_prints f.formals f.body h.0.body h.1 in
    let closed = then_newline (token closed_end_bracket) ▸ behind in
    let formals = separated_then (codes ", ") (Mark sign.Comma) formal_text FormalText FormalGood tail (Mark sign.Close ⋅ ContractText f.contract ⋅ BodyText f.formals f.body) comma (λ r. refl) (λ r. refl) closed formal_prints f.formals h.0.formals in
    let whole : decimal f.line ++ (codes ": proc " ++ (answer_text f.answer ++ (f.name ++ (codes "(" ++ (joined (codes ", ") formal_text f.formals ++ tail))))) ≡ proc_text f = simp append_assoc in
    regroup whole (open_then (count_prints f.line h.0.line) (λ r. refl) (token closed_colon ▸ (token (closed_word (codes "proc") key.Proc refl refl) ▸ (answer_prints f.answer ▸ open_then (name_prints f.name h.0.name) (λ r. refl) (token closed_bracket ▸ formals)))))

-- ---- the program

pub program_prints : (p : Tree) → IsWritten p → AreDeclared p → Prints (program_text p) (ProgramText p)
unfolding program_text
program_prints p h k =
    let globals = each_prints global_text GlobalText GlobalGood global_prints p.globals h.globals in
    let literals = each_prints literal_text LiteralText LiteralGood literal_prints p.literals h.literals in
    let procs = each_prints proc_text ProcText ProcGood proc_prints p.procs (λ i d lt. (h.procs i d lt, k i d lt)) in
    let whole : flat_map global_text p.globals ++ (flat_map literal_text p.literals ++ flat_map proc_text p.procs) ≡ program_text p = sym (append_assoc (flat_map global_text p.globals) (flat_map literal_text p.literals) (flat_map proc_text p.procs)) in
    regroup whole (globals ▸ (literals ▸ procs))

pub printed_spells : (p : Tree) → IsWritten p → AreDeclared p → Spells (program_text p) p
unfolding lexemes
printed_spells p h k =
    let x = program_prints p h k in
    let e : lexemes (program_text p) ≡ x.line = ap lexemes (sym (append-nil (program_text p))) ∙ x.closed.read [] ∙ append-nil x.line in
    record { tokens = subst (ProgramText p) (sym e) x.is }
