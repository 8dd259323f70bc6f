-- What declarations and bodies are read from.
use Rattle.std.proofs.Common.{◌≡◌, ℕ, ◌<◌, Bool, true, false, List, [], ◌∷◌, ◌++◌, length, Option, Some, None, Result, Ok, Err, refl, sym, ap, subst, ◌∙◌, arith, inl, inr}
use Rattle.cv_core.specs.declared.program.GlobalDecl.{GlobalDecl}
use Rattle.cv_core.specs.declared.program.GlobalBody.{GlobalBody}
use Rattle.cv_core.specs.declared.program.GlobalBody.TheVariants as global_body
use Rattle.cv_core.specs.declared.program.Literal.{Literal}
use Rattle.cv_core.specs.declared.program.ResultKind.{ResultKind}
use Rattle.cv_core.specs.declared.program.ResultKind.TheVariants as result_kind
use Rattle.cv_core.specs.declared.program.VarKind.{VarKind}
use Rattle.cv_core.specs.declared.program.VarKind.TheVariants as var_kind
use Rattle.cv_core.specs.declared.program.Formal.{Formal}
use Rattle.cv_core.specs.declared.program.Local.{Local}
use Rattle.cv_core.specs.declared.program.LocalBody.{LocalBody}
use Rattle.cv_core.specs.declared.program.LocalBody.TheVariants as local_body
use Rattle.cv_core.specs.declared.program.Stmt.{Stmt}
use Rattle.cv_core.specs.declared.program.ProcBody.{ProcBody}
use Rattle.cv_reading.specs.Phrase.{one, nothing, ◌⋅◌, Each, Separated}
use Rattle.cv_reading.specs.Reading.{passed}
use Rattle.cv_reading.specs.Lists.{each}
use Rattle.cv_reading.proofs.Laws.{Reads, Made, Only, Or, Then, Token, Begins, BeginsElsewhere, reads_as, reads_made, reads_on, reads_token, reads_both, reads_then, reads_ended, to_left, to_right}
use Rattle.cv_reading.proofs.Lists.{Closed, reads_closed_list, reads_before, elsewhere_on, elsewhere_one, list_goes, list_ends, list_fails, list_shorter}
use Rattle.cv_reading.proofs.Each.{ReadsUpTo, Ended, Follow, reads_each_onto_none, reads_closed, reads_closed_both, reads_closed_ended, each_goes_onto, each_shorter, each_ends_onto, each_fails_onto}
use Rattle.cv_text.specs.declared.token.Key.{Key}
use Rattle.cv_text.specs.declared.token.Key.TheVariants as key
use Rattle.cv_text.specs.declared.token.Sign.TheVariants as sign
use Rattle.cv_text.specs.declared.declarations.LocalStart.{LocalStart}
use Rattle.cv_text.specs.declared.declarations.LocalStart.TheVariants as start
use Rattle.cv_text.specs.declared.cursor.ReadError.{ReadError}
use Rattle.cv_text.specs.declared.cursor.ReadError.TheVariants as errors
use Rattle.cv_text.specs.Given.{Fails, from}
use Rattle.cv_text.specs.Tokens.{Lexeme, name, word, digits, mark, other, Line}
use Rattle.cv_text.specs.Grammar.{Name, Word, Mark, Size, Byte, Kind, Answer, GlobalPhrase, GlobalText, LiteralText, FormalText, LocalPhrase, LocalText, Statement, variables_of, is_pointer, end}
use Rattle.cv_text.specs.Whole.{BodyText}
use Rattle.cv_text.specs.Reader.{is_word, is_mark}
use Rattle.cv_text.specs.DeclarationReader.{kind_by, kind_of, kind, answer_by, answer_of, answer, sized_name, global_buffer, global_pointer, global_int, global_rest, global, next_global, globals_onto, globals, byte, next_byte, bytes_onto, bytes, literal_of, literal, next_literal, literals_onto, literals, formal_of, formal, next_formal, formals_onto, formals, start_by, start_of, is_some, begins_local, variable, local_buffer, pointer_cell, int_cell, local_rest, local, next_local, locals_onto, locals, is_digits, next_statement, statements_onto, statements, block, no_body, body_of, body}
use Rattle.cv_text.proofs.Singles.{only_word, only_mark, same_bytes, reads_the_word, reads_the_mark, reads_semicolon, reads_a_name, reads_size, reads_digits}
use Rattle.cv_text.proofs.OperandLaws.{reads_ended_name}
use Rattle.cv_text.proofs.Phrases.{Tested, reads_tested, reads_statement}

-- ---- kinds

some_is : {A : Type 0} (a b : A) → Some a ≡ Some b → a ≡ b
some_is a b h = cc

abbrev kind_key : VarKind → Key
kind_key var_kind.Int = key.Int
kind_key var_kind.Char = key.Char
kind_key var_kind.Ptr = key.Ptr
kind_key var_kind.Pptr = key.Pptr
kind_key var_kind.Iptr = key.Iptr

kind_as : (k : VarKind) (text : Line) → one (word (kind_key k)) text → Kind k text
kind_as var_kind.Int text h = h
kind_as var_kind.Char text h = h
kind_as var_kind.Ptr text h = h
kind_as var_kind.Pptr text h = h
kind_as var_kind.Iptr text h = h

kind_to : (k : VarKind) (text : Line) → Kind k text → Token kind_of k text
kind_to var_kind.Int text h = (word key.Int, refl, h)
kind_to var_kind.Char text h = (word key.Char, refl, h)
kind_to var_kind.Ptr text h = (word key.Ptr, refl, h)
kind_to var_kind.Pptr text h = (word key.Pptr, refl, h)
kind_to var_kind.Iptr text h = (word key.Iptr, refl, h)

kind_is : (t : Lexeme) (k : VarKind) → kind_of t ≡ Some k → t ≡ word (kind_key k)
kind_is (word key.Int) k h = ap (λ (q : VarKind). word (kind_key q)) (some_is var_kind.Int k h)
kind_is (word key.Char) k h = ap (λ (q : VarKind). word (kind_key q)) (some_is var_kind.Char k h)
kind_is (word key.Ptr) k h = ap (λ (q : VarKind). word (kind_key q)) (some_is var_kind.Ptr k h)
kind_is (word key.Pptr) k h = ap (λ (q : VarKind). word (kind_key q)) (some_is var_kind.Pptr k h)
kind_is (word key.Iptr) k h = ap (λ (q : VarKind). word (kind_key q)) (some_is var_kind.Iptr k h)
kind_is (word _) k h = absurd cc
kind_is (name x) k h = absurd cc
kind_is (digits ds) k h = absurd cc
kind_is (mark s) k h = absurd cc
kind_is other k h = absurd cc

pub reads_kind : Reads kind Kind
unfolding kind
reads_kind = reads_as (reads_token kind_of (word key.Int) var_kind.Int refl) (λ k text h. kind_as k text (h.2 ∙ ap (λ (u : Lexeme). u ∷ []) (kind_is h.0 k h.1))) kind_to

abbrev answer_key : ResultKind → Key
answer_key result_kind.Void = key.Void
answer_key result_kind.Int = key.Int
answer_key result_kind.Char = key.Char
answer_key result_kind.Ptr = key.Ptr

answer_as : (k : ResultKind) (text : Line) → one (word (answer_key k)) text → Answer k text
answer_as result_kind.Void text h = h
answer_as result_kind.Int text h = h
answer_as result_kind.Char text h = h
answer_as result_kind.Ptr text h = h

answer_to : (k : ResultKind) (text : Line) → Answer k text → Token answer_of k text
answer_to result_kind.Void text h = (word key.Void, refl, h)
answer_to result_kind.Int text h = (word key.Int, refl, h)
answer_to result_kind.Char text h = (word key.Char, refl, h)
answer_to result_kind.Ptr text h = (word key.Ptr, refl, h)

answer_is : (t : Lexeme) (k : ResultKind) → answer_of t ≡ Some k → t ≡ word (answer_key k)
answer_is (word key.Void) k h = ap (λ (q : ResultKind). word (answer_key q)) (some_is result_kind.Void k h)
answer_is (word key.Int) k h = ap (λ (q : ResultKind). word (answer_key q)) (some_is result_kind.Int k h)
answer_is (word key.Char) k h = ap (λ (q : ResultKind). word (answer_key q)) (some_is result_kind.Char k h)
answer_is (word key.Ptr) k h = ap (λ (q : ResultKind). word (answer_key q)) (some_is result_kind.Ptr k h)
answer_is (word _) k h = absurd cc
answer_is (name x) k h = absurd cc
answer_is (digits ds) k h = absurd cc
answer_is (mark s) k h = absurd cc
answer_is other k h = absurd cc

pub reads_answer : Reads answer Answer
unfolding answer
reads_answer = reads_as (reads_token answer_of (word key.Int) result_kind.Int refl) (λ k text h. answer_as k text (h.2 ∙ ap (λ (u : Lexeme). u ∷ []) (answer_is h.0 k h.1))) answer_to

-- ---- globals

abbrev SizedName : List ℕ × ℕ → Line → Type 0
SizedName v = Name v.0 ⋅ Size v.1 ⋅ end

abbrev EndedName : List ℕ → Line → Type 0
EndedName x = Name x ⋅ end

reads_sized_name : Reads sized_name SizedName
unfolding sized_name
reads_sized_name = reads_both reads_a_name (λ _. reads_ended reads_size reads_semicolon)

abbrev IntGlobal : GlobalDecl → Line → Type 0
IntGlobal = Made global_int (λ x. Word key.Int ⋅ EndedName x)

abbrev PointerGlobal : GlobalDecl → Line → Type 0
PointerGlobal = Or (λ g. one (word key.Ptr) ⋅ Made global_pointer EndedName g) IntGlobal

abbrev GlobalRest : GlobalDecl → Line → Type 0
GlobalRest = Or (λ g. one (word key.Buf) ⋅ Made global_buffer SizedName g) PointerGlobal

int_elsewhere : {B : Type 0} {f : Lexeme → Option B} → f (word key.Int) ≡ None → BeginsElsewhere f IntGlobal
int_elsewhere i g text (x, e, (front, rest, is, h, parts)) = (word key.Int, rest, parts ∙ ap (λ (u : Line). u ++ rest) is, i)

reads_global_rest : Reads global_rest GlobalRest
unfolding global_rest
reads_global_rest = reads_on (is_word key.Buf) (word key.Buf) refl (only_word key.Buf) (reads_made global_buffer reads_sized_name)
    (reads_on (is_word key.Ptr) (word key.Ptr) refl (only_word key.Ptr) (reads_made global_pointer reads_ended_name)
    (reads_made global_int (reads_then (reads_the_word key.Int) reads_ended_name)) (int_elsewhere refl)) (elsewhere_on (word key.Ptr) (Made global_pointer EndedName) IntGlobal refl (int_elsewhere refl))

abbrev PhraseOf : GlobalDecl → Line → Type 0
PhraseOf g = GlobalPhrase g.name g.body

global_is : (g : GlobalDecl) (text : Line) → GlobalRest g text → PhraseOf g text
global_is g text (inl (w, r1, w_is, (v, e, h), p1)) =
    let whole : PhraseOf (global_buffer v) text = (w, r1, w_is, h, p1) in
    subst (λ (u : GlobalDecl). PhraseOf u text) (sym e) whole
global_is g text (inr (inl (w, r1, w_is, (x, e, h), p1))) =
    let whole : PhraseOf (global_pointer x) text = (w, r1, w_is, h, p1) in
    subst (λ (u : GlobalDecl). PhraseOf u text) (sym e) whole
global_is g text (inr (inr (x, e, h))) =
    let whole : PhraseOf (global_int x) text = h in
    subst (λ (u : GlobalDecl). PhraseOf u text) (sym e) whole

global_back_by : (x : List ℕ) (b : GlobalBody) (text : Line) → GlobalPhrase x b text → GlobalRest (record { name = x; body = b }) text
global_back_by x (global_body.Buffer n) text (w, r1, w_is, h, p1) = inl (w, r1, w_is, ((x, n), refl, h), p1)
global_back_by x global_body.Pointer text (w, r1, w_is, h, p1) = inr (inl (w, r1, w_is, (x, refl, h), p1))
global_back_by x global_body.Int text h = inr (inr (x, refl, h))

pub reads_global : Reads global GlobalText
unfolding global
reads_global = reads_then (reads_the_word key.Global) (reads_as reads_global_rest global_is (λ g text h. global_back_by g.name g.body text h))

pub begins_global : Begins (is_word key.Global) GlobalText
begins_global g text (w, r1, w_is, h, p1) = (word key.Global, r1, p1 ∙ ap (λ (u : Line). u ++ r1) w_is, refl)

pub reads_globals : ReadsUpTo globals (Each GlobalText) (Ended (is_word key.Global))
unfolding globals globals_onto
reads_globals = reads_each_onto_none reads_global begins_global

-- ---- literals

pub reads_byte : Reads byte Byte
unfolding byte
reads_byte = reads_digits 0 256 (48 ∷ []) (omega arith) (omega arith)

byte_elsewhere : BeginsElsewhere (λ t. passed (is_mark sign.CloseBrace t)) Byte
byte_elsewhere n text (low, high, (ds, v, is)) = (digits ds, [], is, refl)

abbrev Bytes : List ℕ → Line → Type 0
Bytes bs = Separated (Mark sign.Comma) Byte bs ⋅ Mark sign.CloseBrace

reads_bytes : Reads bytes Bytes
unfolding bytes
reads_bytes = reads_closed_list (mark sign.CloseBrace) refl (only_mark sign.CloseBrace) (mark sign.Comma) refl (reads_the_mark sign.Comma) reads_byte byte_elsewhere

abbrev LiteralParts : List ℕ × List ℕ → Line → Type 0
LiteralParts v = Name v.0 ⋅ Mark sign.OpenBrace ⋅ Bytes v.1 ⋅ end

literal_is : (l : Literal) (text : Line) → (Word key.Literal ⋅ Made literal_of LiteralParts l) text → LiteralText l text
literal_is l text (w, r1, w_is, (v, e, (n, r2, n_is, (o, r3, o_is, h, p3), p2)), p1) =
    let whole : LiteralText (literal_of v) text = (w, r1, w_is, (n, r2, n_is, (o, r3, o_is, to_right _ _ _ r3 h, p3), p2), p1) in
    subst (λ (u : Literal). LiteralText u text) (sym e) whole

literal_back : (l : Literal) (text : Line) → LiteralText l text → (Word key.Literal ⋅ Made literal_of LiteralParts l) text
literal_back l text (w, r1, w_is, (n, r2, n_is, (o, r3, o_is, h, p3), p2), p1) = (w, r1, w_is, ((l.name, l.bytes), refl, (n, r2, n_is, (o, r3, o_is, to_left _ _ _ r3 h, p3), p2)), p1)

pub reads_literal : Reads literal LiteralText
unfolding literal
reads_literal = reads_as (reads_then (reads_the_word key.Literal) (reads_made literal_of (reads_both reads_a_name (λ _. reads_then (reads_the_mark sign.OpenBrace) (reads_ended reads_bytes reads_semicolon))))) literal_is literal_back

pub begins_literal : Begins (is_word key.Literal) LiteralText
begins_literal l text (w, r1, w_is, h, p1) = (word key.Literal, r1, p1 ∙ ap (λ (u : Line). u ++ r1) w_is, refl)

pub reads_literals : ReadsUpTo literals (Each LiteralText) (Ended (is_word key.Literal))
unfolding literals literals_onto
reads_literals = reads_each_onto_none reads_literal begins_literal

-- ---- formals

formal_is : (f : Formal) (text : Line) → Made formal_of (λ v. Kind v.0 ⋅ Name v.1) f text → FormalText f text
formal_is f text (v, e, h) = subst (λ (u : Formal). FormalText u text) (sym e) h

pub reads_formal : Reads formal FormalText
unfolding formal
reads_formal = reads_as (reads_made formal_of (reads_both reads_kind (λ _. reads_a_name))) formal_is (λ f text h. ((f.kind, f.name), refl, h))

kind_elsewhere : BeginsElsewhere (λ t. passed (is_mark sign.Close t)) Kind
kind_elsewhere var_kind.Int text h = (word key.Int, [], h, refl)
kind_elsewhere var_kind.Char text h = (word key.Char, [], h, refl)
kind_elsewhere var_kind.Ptr text h = (word key.Ptr, [], h, refl)
kind_elsewhere var_kind.Pptr text h = (word key.Pptr, [], h, refl)
kind_elsewhere var_kind.Iptr text h = (word key.Iptr, [], h, refl)

formal_elsewhere : BeginsElsewhere (λ t. passed (is_mark sign.Close t)) FormalText
formal_elsewhere f text (front, rest, h, k, parts) = let x = kind_elsewhere f.kind front h in (x.0, x.1 ++ rest, parts ∙ ap (λ (u : Line). u ++ rest) x.2, x.3)

abbrev pub Formals : List Formal → Line → Type 0
Formals fs = Separated (Mark sign.Comma) FormalText fs ⋅ Mark sign.Close

pub reads_formals : Reads formals Formals
unfolding formals
reads_formals = reads_closed_list (mark sign.Close) refl (only_mark sign.Close) (mark sign.Comma) refl (reads_the_mark sign.Comma) reads_formal formal_elsewhere

-- ---- locals

abbrev LocalRest : LocalStart → Local → Line → Type 0
LocalRest (start.Variable k) = Made (variable k) EndedName
LocalRest start.Buffer = Made local_buffer SizedName
LocalRest start.PointerCell = Made pointer_cell EndedName
LocalRest start.IntCell = Made int_cell EndedName

reads_local_rest : (s : LocalStart) → Reads (local_rest s) (LocalRest s)
reads_local_rest (start.Variable k) = reads_made (variable k) reads_ended_name
reads_local_rest start.Buffer = reads_made local_buffer reads_sized_name
reads_local_rest start.PointerCell = reads_made pointer_cell reads_ended_name
reads_local_rest start.IntCell = reads_made int_cell reads_ended_name

abbrev start_key : LocalStart → Key
start_key (start.Variable k) = kind_key k
start_key start.Buffer = key.Buf
start_key start.PointerCell = key.Pcell
start_key start.IntCell = key.Icell

start_is : (t : Lexeme) (s : LocalStart) → start_of t ≡ Some s → t ≡ word (start_key s)
start_is (word key.Int) s h = ap (λ (q : LocalStart). word (start_key q)) (some_is (start.Variable var_kind.Int) s h)
start_is (word key.Char) s h = ap (λ (q : LocalStart). word (start_key q)) (some_is (start.Variable var_kind.Char) s h)
start_is (word key.Ptr) s h = ap (λ (q : LocalStart). word (start_key q)) (some_is (start.Variable var_kind.Ptr) s h)
start_is (word key.Pptr) s h = ap (λ (q : LocalStart). word (start_key q)) (some_is (start.Variable var_kind.Pptr) s h)
start_is (word key.Iptr) s h = ap (λ (q : LocalStart). word (start_key q)) (some_is (start.Variable var_kind.Iptr) s h)
start_is (word key.Buf) s h = ap (λ (q : LocalStart). word (start_key q)) (some_is start.Buffer s h)
start_is (word key.Pcell) s h = ap (λ (q : LocalStart). word (start_key q)) (some_is start.PointerCell s h)
start_is (word key.Icell) s h = ap (λ (q : LocalStart). word (start_key q)) (some_is start.IntCell s h)
start_is (word _) s h = absurd cc
start_is (name x) s h = absurd cc
start_is (digits ds) s h = absurd cc
start_is (mark m) s h = absurd cc
start_is other s h = absurd cc

start_to : (s : LocalStart) (text : Line) → one (word (start_key s)) text → Token start_of s text
start_to (start.Variable var_kind.Int) text h = (word key.Int, refl, h)
start_to (start.Variable var_kind.Char) text h = (word key.Char, refl, h)
start_to (start.Variable var_kind.Ptr) text h = (word key.Ptr, refl, h)
start_to (start.Variable var_kind.Pptr) text h = (word key.Pptr, refl, h)
start_to (start.Variable var_kind.Iptr) text h = (word key.Iptr, refl, h)
start_to start.Buffer text h = (word key.Buf, refl, h)
start_to start.PointerCell text h = (word key.Pcell, refl, h)
start_to start.IntCell text h = (word key.Icell, refl, h)

kind_from : (k : VarKind) (text : Line) → Kind k text → one (word (kind_key k)) text
kind_from var_kind.Int text h = h
kind_from var_kind.Char text h = h
kind_from var_kind.Ptr text h = h
kind_from var_kind.Pptr text h = h
kind_from var_kind.Iptr text h = h

abbrev LocalRead : Local → Line → Type 0
LocalRead = Then (Token start_of) LocalRest

local_is : (l : Local) (text : Line) → LocalRead l text → LocalText l text
local_is l text (s, (w, r1, (t, f, is), h, p1)) = by_start s (is ∙ ap (λ (u : Lexeme). u ∷ []) (start_is t s f)) h
  where
    by_start : (s : LocalStart) → one (word (start_key s)) w → LocalRest s l r1 → LocalText l text
    by_start (start.Variable k) w_is (x, e, h) = (let whole : LocalText (variable k x) text = (w, r1, kind_as k w w_is, h, p1) in subst (λ (u : Local). LocalText u text) (sym e) whole)
    by_start start.Buffer w_is (v, e, h) = (let whole : LocalText (local_buffer v) text = (w, r1, w_is, h, p1) in subst (λ (u : Local). LocalText u text) (sym e) whole)
    by_start start.PointerCell w_is (x, e, h) = (let whole : LocalText (pointer_cell x) text = (w, r1, w_is, h, p1) in subst (λ (u : Local). LocalText u text) (sym e) whole)
    by_start start.IntCell w_is (x, e, h) = (let whole : LocalText (int_cell x) text = (w, r1, w_is, h, p1) in subst (λ (u : Local). LocalText u text) (sym e) whole)

local_back_by : (x : List ℕ) (b : LocalBody) (text : Line) → LocalPhrase x b text → LocalRead (record { name = x; body = b }) text
local_back_by x (local_body.Var k) text (w, r1, w_is, h, p1) = (start.Variable k, (w, r1, start_to (start.Variable k) w (kind_from k w w_is), (x, refl, h), p1))
local_back_by x (local_body.Buffer n) text (w, r1, w_is, h, p1) = (start.Buffer, (w, r1, start_to start.Buffer w w_is, ((x, n), refl, h), p1))
local_back_by x local_body.PointerCell text (w, r1, w_is, h, p1) = (start.PointerCell, (w, r1, start_to start.PointerCell w w_is, (x, refl, h), p1))
local_back_by x local_body.IntCell text (w, r1, w_is, h, p1) = (start.IntCell, (w, r1, start_to start.IntCell w w_is, (x, refl, h), p1))

pub reads_local : Reads local LocalText
unfolding local
reads_local = reads_as (reads_before (reads_token start_of (word key.Buf) start.Buffer refl) reads_local_rest) local_is (λ l text h. local_back_by l.name l.body text h)

pub begins_locally : Begins begins_local LocalText
begins_locally l text h = begun (local_back_by l.name l.body text h)
  where
    begun : LocalRead l text → (t : Lexeme) × (rest : Line) × (text ≡ t ∷ rest) × (begins_local t ≡ true)
    begun (s, (w, r1, (t, f, is), k, p1)) = (t, r1, p1 ∙ ap (λ (u : Line). u ++ r1) is, ap is_some f)

pub reads_locals : ReadsUpTo locals (Each LocalText) (Ended begins_local)
unfolding locals locals_onto
reads_locals = reads_each_onto_none reads_local begins_locally

-- ---- bodies

pub begins_statement : (vs : List Formal) → Begins is_digits (Statement vs)
begins_statement vs s text (d, (c, r1, (low, high, (ds, v, is)), h, p1)) = (digits ds, r1, p1 ∙ ap (λ (u : Line). u ++ r1) is, refl)

begins_tested : (test : List ℕ → Bool) → Begins is_digits (Tested test)
begins_tested test s text (d, (c, r1, (low, high, (ds, v, is)), h, p1)) = (digits ds, r1, p1 ∙ ap (λ (u : Line). u ++ r1) is, refl)

pub reads_statements : (vs : List Formal) → ReadsUpTo (statements (is_pointer vs)) (Each (Statement vs)) (Ended is_digits)
unfolding statements statements_onto
reads_statements vs = reads_each_onto_none (reads_statement vs) (begins_statement vs)

brace_follows : Follow (Ended is_digits) (λ (_ : Unit {0}). Mark sign.CloseBrace)
brace_follows u text h = (mark sign.CloseBrace, [], h, refl)

abbrev ClosedStatements : List Formal → List Stmt → Line → Type 0
ClosedStatements vs ss = Each (Statement vs) ss ⋅ Mark sign.CloseBrace

-- a statement, or the brace, begins no local
statements_follow : (vs : List Formal) → Follow (Ended begins_local) (ClosedStatements vs)
statements_follow vs [] text (front, rest, n, h, parts) = (mark sign.CloseBrace, [], parts ∙ ap (λ (u : Line). u ++ rest) n ∙ h, refl)
statements_follow vs (s ∷ ss) text (front, rest, (c, others, (d, (k, r1, (low, high, (ds, v, is)), said, p1)), more, inner), h, parts) =
    (digits ds, (r1 ++ others) ++ rest, parts ∙ ap (λ (u : Line). u ++ rest) (inner ∙ ap (λ (u : Line). u ++ others) (p1 ∙ ap (λ (u : Line). u ++ r1) is)), refl)

abbrev Block : List Formal → List Local × List Stmt → Line → Type 0
Block fs v = Each LocalText v.0 ⋅ ClosedStatements (fs ++ variables_of v.0) v.1

reads_block : (fs : List Formal) → Reads (block fs) (Block fs)
unfolding block
reads_block fs = reads_closed_both reads_locals (λ ls. reads_closed_ended (reads_statements (fs ++ variables_of ls)) (reads_the_mark sign.CloseBrace) brace_follows) (λ ls. statements_follow (fs ++ variables_of ls))

abbrev BodyParts : List Formal → Option ProcBody → Line → Type 0
BodyParts fs = Or (λ b. one (word key.Extern) ⋅ Made no_body (λ _. end) b) (λ b. one (mark sign.OpenBrace) ⋅ Made body_of (Block fs) b)

body_is : (fs : List Formal) (b : Option ProcBody) (text : Line) → BodyParts fs b text → BodyText fs b text
body_is fs b text (inl (w, r1, w_is, (u, e, h), p1)) =
    let whole : BodyText fs None text = (w, r1, w_is, h, p1) in
    subst (λ (v : Option ProcBody). BodyText fs v text) (sym e) whole
body_is fs b text (inr (w, r1, w_is, (v, e, h), p1)) =
    let whole : BodyText fs (body_of v) text = (w, r1, w_is, h, p1) in
    subst (λ (u : Option ProcBody). BodyText fs u text) (sym e) whole

body_back : (fs : List Formal) (b : Option ProcBody) (text : Line) → BodyText fs b text → BodyParts fs b text
body_back fs None text (w, r1, w_is, h, p1) = inl (w, r1, w_is, (tt, refl, h), p1)
body_back fs (Some b) text (w, r1, w_is, h, p1) = inr (w, r1, w_is, ((b.locals, b.stmts), refl, h), p1)

pub reads_body : (fs : List Formal) → Reads (body fs) (BodyText fs)
unfolding body
reads_body fs = reads_as (reads_on (is_word key.Extern) (word key.Extern) refl (only_word key.Extern) (reads_made no_body reads_semicolon) (reads_then (reads_the_mark sign.OpenBrace) (reads_made body_of (reads_block fs))) (elsewhere_one (mark sign.OpenBrace) (Made body_of (Block fs)) refl)) (body_is fs) (body_back fs)

-- ---- loops

pub global_goes : (before : List GlobalDecl) (ts : Line) (a : GlobalDecl) (after : Line) → next_global ts ≡ Ok (Ok a, after) → globals_onto before ts ≡ globals_onto (before ++ a ∷ []) after
unfolding globals_onto next_global
global_goes before ts a after e = each_goes_onto reads_global begins_global before ts a after e

pub global_ends : (before : List GlobalDecl) (ts after : Line) → next_global ts ≡ Ok (Err tt, after) → globals_onto before ts ≡ Ok (before, after)
unfolding globals_onto next_global
global_ends before ts after e = each_ends_onto reads_global begins_global before ts after e

pub global_fails : (text : List ℕ) (e : ReadError) (before : List GlobalDecl) (ts : Line) → Fails text e (next_global ts) → Fails text e (globals_onto before ts)
unfolding globals_onto next_global
global_fails text errors.Memory before ts h = tt
global_fails text (errors.Fault at) before ts h = each_fails_onto reads_global begins_global before ts (from text at) h

pub global_shorter : (ts : Line) (a : GlobalDecl) (after : Line) → next_global ts ≡ Ok (Ok a, after) → length after < length ts
unfolding next_global
global_shorter ts a after e = each_shorter reads_global begins_global ts a after e

pub literal_goes : (before : List Literal) (ts : Line) (a : Literal) (after : Line) → next_literal ts ≡ Ok (Ok a, after) → literals_onto before ts ≡ literals_onto (before ++ a ∷ []) after
unfolding literals_onto next_literal
literal_goes before ts a after e = each_goes_onto reads_literal begins_literal before ts a after e

pub literal_ends : (before : List Literal) (ts after : Line) → next_literal ts ≡ Ok (Err tt, after) → literals_onto before ts ≡ Ok (before, after)
unfolding literals_onto next_literal
literal_ends before ts after e = each_ends_onto reads_literal begins_literal before ts after e

pub literal_fails : (text : List ℕ) (e : ReadError) (before : List Literal) (ts : Line) → Fails text e (next_literal ts) → Fails text e (literals_onto before ts)
unfolding literals_onto next_literal
literal_fails text errors.Memory before ts h = tt
literal_fails text (errors.Fault at) before ts h = each_fails_onto reads_literal begins_literal before ts (from text at) h

pub literal_shorter : (ts : Line) (a : Literal) (after : Line) → next_literal ts ≡ Ok (Ok a, after) → length after < length ts
unfolding next_literal
literal_shorter ts a after e = each_shorter reads_literal begins_literal ts a after e

pub local_goes : (before : List Local) (ts : Line) (a : Local) (after : Line) → next_local ts ≡ Ok (Ok a, after) → locals_onto before ts ≡ locals_onto (before ++ a ∷ []) after
unfolding locals_onto next_local
local_goes before ts a after e = each_goes_onto reads_local begins_locally before ts a after e

pub local_ends : (before : List Local) (ts after : Line) → next_local ts ≡ Ok (Err tt, after) → locals_onto before ts ≡ Ok (before, after)
unfolding locals_onto next_local
local_ends before ts after e = each_ends_onto reads_local begins_locally before ts after e

pub local_fails : (text : List ℕ) (e : ReadError) (before : List Local) (ts : Line) → Fails text e (next_local ts) → Fails text e (locals_onto before ts)
unfolding locals_onto next_local
local_fails text errors.Memory before ts h = tt
local_fails text (errors.Fault at) before ts h = each_fails_onto reads_local begins_locally before ts (from text at) h

pub local_shorter : (ts : Line) (a : Local) (after : Line) → next_local ts ≡ Ok (Ok a, after) → length after < length ts
unfolding next_local
local_shorter ts a after e = each_shorter reads_local begins_locally ts a after e

pub statement_goes : (test : List ℕ → Bool) (before : List Stmt) (ts : Line) (a : Stmt) (after : Line) → next_statement test ts ≡ Ok (Ok a, after) → statements_onto test before ts ≡ statements_onto test (before ++ a ∷ []) after
unfolding statements_onto next_statement
statement_goes test before ts a after e = each_goes_onto (reads_tested test) (begins_tested test) before ts a after e

pub statement_ends : (test : List ℕ → Bool) (before : List Stmt) (ts after : Line) → next_statement test ts ≡ Ok (Err tt, after) → statements_onto test before ts ≡ Ok (before, after)
unfolding statements_onto next_statement
statement_ends test before ts after e = each_ends_onto (reads_tested test) (begins_tested test) before ts after e

pub statement_fails : (text : List ℕ) (e : ReadError) (test : List ℕ → Bool) (before : List Stmt) (ts : Line) → Fails text e (next_statement test ts) → Fails text e (statements_onto test before ts)
unfolding statements_onto next_statement
statement_fails text errors.Memory test before ts h = tt
statement_fails text (errors.Fault at) test before ts h = each_fails_onto (reads_tested test) (begins_tested test) before ts (from text at) h

pub statement_shorter : (test : List ℕ → Bool) (ts : Line) (a : Stmt) (after : Line) → next_statement test ts ≡ Ok (Ok a, after) → length after < length ts
unfolding next_statement
statement_shorter test ts a after e = each_shorter (reads_tested test) (begins_tested test) ts a after e

pub byte_goes : (before : List ℕ) (ts : Line) (a : ℕ) (after : Line) → next_byte ts ≡ Ok (Ok a, after) → bytes_onto before ts ≡ bytes_onto (before ++ a ∷ []) after
unfolding bytes_onto next_byte
byte_goes before ts a after e = list_goes (mark sign.CloseBrace) refl (only_mark sign.CloseBrace) (mark sign.Comma) refl (reads_the_mark sign.Comma) reads_byte before ts a after e

pub byte_ends : (before : List ℕ) (ts after : Line) → next_byte ts ≡ Ok (Err tt, after) → bytes_onto before ts ≡ Ok (before, after)
unfolding bytes_onto next_byte
byte_ends before ts after e = list_ends (mark sign.CloseBrace) refl (only_mark sign.CloseBrace) (mark sign.Comma) refl (reads_the_mark sign.Comma) reads_byte before ts after e

pub byte_fails : (text : List ℕ) (e : ReadError) (before : List ℕ) (ts : Line) → Fails text e (next_byte ts) → Fails text e (bytes_onto before ts)
unfolding bytes_onto next_byte
byte_fails text errors.Memory before ts h = tt
byte_fails text (errors.Fault at) before ts h = list_fails (mark sign.CloseBrace) refl (only_mark sign.CloseBrace) (mark sign.Comma) refl (reads_the_mark sign.Comma) reads_byte before ts (from text at) h

pub byte_shorter : (ts : Line) (a : ℕ) (after : Line) → next_byte ts ≡ Ok (Ok a, after) → length after < length ts
unfolding next_byte
byte_shorter ts a after e = list_shorter (mark sign.CloseBrace) refl (only_mark sign.CloseBrace) (mark sign.Comma) refl (reads_the_mark sign.Comma) reads_byte ts (Ok a) after e

pub formal_goes : (before : List Formal) (ts : Line) (a : Formal) (after : Line) → next_formal ts ≡ Ok (Ok a, after) → formals_onto before ts ≡ formals_onto (before ++ a ∷ []) after
unfolding formals_onto next_formal
formal_goes before ts a after e = list_goes (mark sign.Close) refl (only_mark sign.Close) (mark sign.Comma) refl (reads_the_mark sign.Comma) reads_formal before ts a after e

pub formal_ends : (before : List Formal) (ts after : Line) → next_formal ts ≡ Ok (Err tt, after) → formals_onto before ts ≡ Ok (before, after)
unfolding formals_onto next_formal
formal_ends before ts after e = list_ends (mark sign.Close) refl (only_mark sign.Close) (mark sign.Comma) refl (reads_the_mark sign.Comma) reads_formal before ts after e

pub formal_fails : (text : List ℕ) (e : ReadError) (before : List Formal) (ts : Line) → Fails text e (next_formal ts) → Fails text e (formals_onto before ts)
unfolding formals_onto next_formal
formal_fails text errors.Memory before ts h = tt
formal_fails text (errors.Fault at) before ts h = list_fails (mark sign.Close) refl (only_mark sign.Close) (mark sign.Comma) refl (reads_the_mark sign.Comma) reads_formal before ts (from text at) h

pub formal_shorter : (ts : Line) (a : Formal) (after : Line) → next_formal ts ≡ Ok (Ok a, after) → length after < length ts
unfolding next_formal
formal_shorter ts a after e = list_shorter (mark sign.Close) refl (only_mark sign.Close) (mark sign.Comma) refl (reads_the_mark sign.Comma) reads_formal ts (Ok a) after e
