-- The printed text of a statement is of the grammar, for that statement.
use Rattle.std.proofs.Common.{◌≡◌, ℕ, Bool, true, false, List, [], ◌++◌, Some, None, codes, refl, sym, append_assoc, arith}
use Rattle.std.specs.List.{All}
use Rattle.std.specs.Fmt.{decimal, signed_decimal}
use Rattle.cv_core.specs.Grammar.{IsName, IsDigits, IsOperand, IsAnyOperand, IsCompared, IsForm, IsStmt}
use Rattle.cv_core.specs.declared.program.Formal.{Formal}
use Rattle.cv_core.specs.declared.program.Stmt.{Stmt}
use Rattle.cv_core.specs.declared.program.Form.{Form}
use Rattle.cv_core.specs.declared.program.Form.TheVariants as form
use Rattle.cv_core.specs.declared.program.Operand.{Operand}
use Rattle.cv_core.specs.declared.program.Operand.TheVariants as operand
use Rattle.cv_core.specs.declared.program.AnyOperand.{AnyOperand}
use Rattle.cv_core.specs.declared.program.AnyOperand.TheVariants as any
use Rattle.cv_core.specs.declared.program.Rel.{Rel}
use Rattle.cv_core.specs.declared.program.Rel.TheVariants as rel
use Rattle.cv_reading.specs.Phrase.{nothing, ◌⋅◌}
use Rattle.cv_reading.proofs.Laws.{behind_nothing}
use Rattle.cv_text.specs.declared.token.Key.TheVariants as key
use Rattle.cv_text.specs.declared.token.Sign.TheVariants as sign
use Rattle.cv_text.specs.Tokens.{Line}
use Rattle.cv_text.specs.Grammar.{Name, Word, Mark, Value, Any, Divisor, Relation, Equality, Zero, Jump, CallPhrase, Phrase, AsDeclared, Statement, end}
use Rattle.cv_text.specs.PrintedContract.{joined, rel_text}
use Rattle.cv_text.specs.Printed.{operand_text, any_text, call_text, zero_test_text, form_text, statement_text}
use Rattle.cv_text.proofs.Pieces.{Apart, closed_blank, digits_open, closed_word, closed_comma, closed_assign, closed_plus, closed_minus, closed_times, closed_slash, closed_percent, closed_and, closed_bracket, closed_end_bracket, closed_colon, closed_rel, word_open}
use Rattle.cv_text.proofs.Respelled.{Prints, PrintsOpen, ◌▸◌, open_then, regroup, prints_as, token, open_token, then_newline, name_prints, semicolon, count_prints, number_prints, divisor_prints, value_prints, any_prints, separated_then}

pub assign : Prints (codes " = ") (Mark sign.Assign)
assign = token closed_assign

pub comma : Prints (codes ", ") (Mark sign.Comma)
comma = token closed_comma

load : Prints (codes "load ") (Word key.Load)
load = token (closed_word (codes "load") key.Load refl refl)

pub blank_piece : Prints (codes " ") nothing
blank_piece = record { line = []; is = refl; closed = closed_blank }

jumps : (to : ℕ) → IsDigits to → Prints (codes "goto " ++ (decimal to ++ codes ";")) (Jump to)
jumps to h = token (closed_word (codes "goto") key.Goto refl refl) ▸ open_then (count_prints to h) (λ rest. refl) semicolon

goto_after : (to : ℕ) → IsDigits to → Prints (codes " goto " ++ (decimal to ++ codes ";")) (Jump to)
goto_after to h = prints_as (behind_nothing (Jump to)) (blank_piece ▸ jumps to h)

-- ---- parts of statements

-- X = E and what follows
assigned : (x : List ℕ) (e : Operand) (tail : List ℕ) (q : Line → Type 0) → IsName x → IsOperand e → Apart tail → Prints tail q →
    Prints (x ++ (codes " = " ++ (operand_text e ++ tail))) (Name x ⋅ Mark sign.Assign ⋅ Value e ⋅ q)
assigned x e tail q h k apart t = open_then (name_prints x h) (λ rest. refl) (assign ▸ open_then (value_prints e k) apart t)

-- E and the semicolon
last : (e : Operand) → IsOperand e → Prints (operand_text e ++ codes ";") (Value e ⋅ end)
last e h = open_then (value_prints e h) (λ rest. refl) semicolon

last_name : (x : List ℕ) → IsName x → Prints (x ++ codes ";") (Name x ⋅ end)
last_name x h = open_then (name_prints x h) (λ rest. refl) semicolon

last_any : (e : AnyOperand) → IsAnyOperand e → Prints (any_text e ++ codes ";") (Any e ⋅ end)
last_any e h = open_then (any_prints e h) (λ rest. refl) semicolon

pub null_word : PrintsOpen (codes "null") (Word key.Null)
null_word = open_token (word_open (codes "null") key.Null refl refl)

if_word : Prints (codes "if ") (Word key.If)
if_word = token (closed_word (codes "if") key.If refl refl)

pub relation : (r : Rel) → Prints (rel_text r) (Relation r)
relation rel.Eq = token (closed_rel rel.Eq)
relation rel.Ne = token (closed_rel rel.Ne)
relation rel.Lt = token (closed_rel rel.Lt)
relation rel.Le = token (closed_rel rel.Le)
relation rel.Gt = token (closed_rel rel.Gt)
relation rel.Ge = token (closed_rel rel.Ge)

pub relation_apart : (r : Rel) (tail : List ℕ) → Apart (rel_text r ++ tail)
relation_apart rel.Eq tail = λ rest. refl
relation_apart rel.Ne tail = λ rest. refl
relation_apart rel.Lt tail = λ rest. refl
relation_apart rel.Le tail = λ rest. refl
relation_apart rel.Gt tail = λ rest. refl
relation_apart rel.Ge tail = λ rest. refl

zero_digit : PrintsOpen (codes "0") Zero
zero_digit = open_token (digits_open (codes "0") (omega arith) refl)

zero_tested : (equal : Bool) (to : ℕ) → IsDigits to → Prints (zero_test_text equal ++ (decimal to ++ codes ";")) (Equality equal ⋅ Zero ⋅ Jump to)
zero_tested true to h = relation rel.Eq ▸ open_then zero_digit (λ rest. refl) (goto_after to h)
zero_tested false to h = relation rel.Ne ▸ open_then zero_digit (λ rest. refl) (goto_after to h)

zero_test_apart : (equal : Bool) (tail : List ℕ) → Apart (zero_test_text equal ++ tail)
zero_test_apart true tail = λ rest. refl
zero_test_apart false tail = λ rest. refl

called : (f : List ℕ) (args : List AnyOperand) → IsName f → All IsAnyOperand args → Prints (call_text f args) (CallPhrase f args)
called f args h k =
    let close : Prints (codes ");") (Mark sign.Close ⋅ end) = token closed_end_bracket ▸ semicolon in
    let inside = separated_then (codes ", ") (Mark sign.Comma) any_text Any IsAnyOperand (codes ");") (Mark sign.Close ⋅ end) comma (λ rest. refl) (λ rest. refl) close any_prints args k in
    let whole : codes "call " ++ (f ++ (codes "(" ++ (joined (codes ", ") any_text args ++ codes ");"))) ≡ call_text f args = simp append_assoc in
    regroup whole (token (closed_word (codes "call") key.Call refl refl) ▸ open_then (name_prints f h) (λ rest. refl) (token closed_bracket ▸ inside))

compared : (e : Operand) (r : Rel) (f : AnyOperand) (to : ℕ) → IsCompared e r f → IsDigits to → Prints (codes "if " ++ (operand_text e ++ (rel_text r ++ (any_text f ++ (codes " goto " ++ (decimal to ++ codes ";")))))) (Phrase (form.If e r f to))
compared e r (any.Operand f) to h k = if_word ▸ open_then (value_prints e h.0) (relation_apart r (operand_text f ++ (codes " goto " ++ (decimal to ++ codes ";")))) (relation r ▸ open_then (value_prints f h.1) (λ rest. refl) (goto_after to k))
compared (operand.Var p) rel.Eq any.Null to h k = if_word ▸ open_then (name_prints p h) (λ rest. refl) (relation rel.Eq ▸ open_then null_word (λ rest. refl) (goto_after to k))
compared (operand.Var p) rel.Ne any.Null to h k = if_word ▸ open_then (name_prints p h) (λ rest. refl) (relation rel.Ne ▸ open_then null_word (λ rest. refl) (goto_after to k))
compared (operand.Var p) rel.Lt any.Null to h k = absurd h
compared (operand.Var p) rel.Le any.Null to h k = absurd h
compared (operand.Var p) rel.Gt any.Null to h k = absurd h
compared (operand.Var p) rel.Ge any.Null to h k = absurd h
compared (operand.Number z) r any.Null to h k = absurd h

-- ---- statements

pub form_prints : (f : Form) → IsForm f → Prints (form_text f) (Phrase f)
form_prints (form.Assign x e) h =
    let whole : x ++ (codes " = " ++ (operand_text e ++ codes ";")) ≡ form_text (form.Assign x e) = simp append_assoc in
    regroup whole (assigned x e (codes ";") end h.0 h.1 (λ rest. refl) semicolon)
form_prints (form.Sum x e f) h =
    let whole : x ++ (codes " = " ++ (operand_text e ++ (codes " + " ++ (operand_text f ++ codes ";")))) ≡ form_text (form.Sum x e f) = simp append_assoc in
    regroup whole (assigned x e (codes " + " ++ (operand_text f ++ codes ";")) (Mark sign.Plus ⋅ Value f ⋅ end) h.0 h.1 (λ rest. refl) (token closed_plus ▸ last f h.2))
form_prints (form.Minus x e f) h =
    let whole : x ++ (codes " = " ++ (operand_text e ++ (codes " - " ++ (operand_text f ++ codes ";")))) ≡ form_text (form.Minus x e f) = simp append_assoc in
    regroup whole (assigned x e (codes " - " ++ (operand_text f ++ codes ";")) (Mark sign.Minus ⋅ Value f ⋅ end) h.0 h.1 (λ rest. refl) (token closed_minus ▸ last f h.2))
form_prints (form.Product x z e) h =
    let whole : x ++ (codes " = " ++ (signed_decimal z ++ (codes " * " ++ (operand_text e ++ codes ";")))) ≡ form_text (form.Product x z e) = simp append_assoc in
    regroup whole (open_then (name_prints x h.0) (λ rest. refl) (assign ▸ open_then (number_prints z h.2) (λ rest. refl) (token closed_times ▸ last e h.1)))
form_prints (form.Quotient x e z) h =
    let whole : x ++ (codes " = " ++ (operand_text e ++ (codes " / " ++ (signed_decimal z ++ codes ";")))) ≡ form_text (form.Quotient x e z) = simp append_assoc in
    regroup whole (assigned x e (codes " / " ++ (signed_decimal z ++ codes ";")) (Mark sign.Slash ⋅ Divisor z ⋅ end) h.0 h.1 (λ rest. refl) (token closed_slash ▸ open_then (divisor_prints z h.3 h.2) (λ rest. refl) semicolon))
form_prints (form.Remainder x e z) h =
    let whole : x ++ (codes " = " ++ (operand_text e ++ (codes " % " ++ (signed_decimal z ++ codes ";")))) ≡ form_text (form.Remainder x e z) = simp append_assoc in
    regroup whole (assigned x e (codes " % " ++ (signed_decimal z ++ codes ";")) (Mark sign.Percent ⋅ Divisor z ⋅ end) h.0 h.1 (λ rest. refl) (token closed_percent ▸ open_then (divisor_prints z h.3 h.2) (λ rest. refl) semicolon))
form_prints (form.CopyPtr p (Some q)) h =
    let whole : p ++ (codes " = " ++ (q ++ codes ";")) ≡ form_text (form.CopyPtr p (Some q)) = simp append_assoc in
    regroup whole (open_then (name_prints p h.0) (λ rest. refl) (assign ▸ last_name q h.1))
form_prints (form.CopyPtr p None) h = open_then (name_prints p h.0) (λ rest. refl) (assign ▸ open_then null_word (λ rest. refl) semicolon)
form_prints (form.Address p a) h =
    let whole : p ++ (codes " = &" ++ (a ++ codes ";")) ≡ form_text (form.Address p a) = simp append_assoc in
    regroup whole (open_then (name_prints p h.0) (λ rest. refl) (assign ▸ (token closed_and ▸ last_name a h.1)))
form_prints (form.Shift p q e) h =
    let whole : p ++ (codes " = " ++ (q ++ (codes " + " ++ (operand_text e ++ codes ";")))) ≡ form_text (form.Shift p q e) = simp append_assoc in
    regroup whole (open_then (name_prints p h.0) (λ rest. refl) (assign ▸ open_then (name_prints q h.1) (λ rest. refl) (token closed_plus ▸ last e h.2)))
form_prints (form.Load x p) h =
    let whole : x ++ (codes " = load " ++ (p ++ codes ";")) ≡ form_text (form.Load x p) = simp append_assoc in
    regroup whole (open_then (name_prints x h.0) (λ rest. refl) (assign ▸ (load ▸ last_name p h.1)))
form_prints (form.Store p e) h =
    let whole : codes "store " ++ (p ++ (codes ", " ++ (operand_text e ++ codes ";"))) ≡ form_text (form.Store p e) = simp append_assoc in
    regroup whole (token (closed_word (codes "store") key.Store refl refl) ▸ open_then (name_prints p h.0) (λ rest. refl) (comma ▸ last e h.1))
form_prints (form.Get x w) h =
    let whole : x ++ (codes " = get " ++ (w ++ codes ";")) ≡ form_text (form.Get x w) = simp append_assoc in
    regroup whole (open_then (name_prints x h.0) (λ rest. refl) (assign ▸ (token (closed_word (codes "get") key.Get refl refl) ▸ last_name w h.1)))
form_prints (form.Put w e) h =
    let whole : codes "put " ++ (w ++ (codes ", " ++ (any_text e ++ codes ";"))) ≡ form_text (form.Put w e) = simp append_assoc in
    regroup whole (token (closed_word (codes "put") key.Put refl refl) ▸ open_then (name_prints w h.0) (λ rest. refl) (comma ▸ last_any e h.1))
form_prints (form.Diff x p q) h =
    let whole : x ++ (codes " = diff " ++ (p ++ (codes ", " ++ (q ++ codes ";")))) ≡ form_text (form.Diff x p q) = simp append_assoc in
    regroup whole (open_then (name_prints x h.0) (λ rest. refl) (assign ▸ (token (closed_word (codes "diff") key.Diff refl refl) ▸ open_then (name_prints p h.1) (λ rest. refl) (comma ▸ last_name q h.2))))
form_prints (form.Goto to) h =
    let whole : codes "goto " ++ (decimal to ++ codes ";") ≡ form_text (form.Goto to) = simp append_assoc in
    regroup whole (jumps to h)
form_prints (form.If e r f to) h =
    let whole : codes "if " ++ (operand_text e ++ (rel_text r ++ (any_text f ++ (codes " goto " ++ (decimal to ++ codes ";"))))) ≡ form_text (form.If e r f to) = simp append_assoc in
    regroup whole (compared e r f to h.0 h.1)
form_prints (form.IfByte p equal to) h =
    let whole : codes "if load " ++ (p ++ (zero_test_text equal ++ (decimal to ++ codes ";"))) ≡ form_text (form.IfByte p equal to) = simp append_assoc in
    regroup whole (if_word ▸ (load ▸ open_then (name_prints p h.0) (zero_test_apart equal (decimal to ++ codes ";")) (zero_tested equal to h.1)))
form_prints (form.Call None f args) h = called f args h.1 h.2
form_prints (form.Call (Some x) f args) h =
    let whole : x ++ (codes " = " ++ call_text f args) ≡ form_text (form.Call (Some x) f args) = sym (append_assoc x (codes " = ") (call_text f args)) in
    regroup whole (open_then (name_prints x h.0) (λ rest. refl) (assign ▸ called f args h.1 h.2))
form_prints (form.Return None) h = open_then (open_token (word_open (codes "return") key.Return refl refl)) (λ rest. refl) semicolon
form_prints (form.Return (Some e)) h =
    let whole : codes "return " ++ (any_text e ++ codes ";") ≡ form_text (form.Return (Some e)) = simp append_assoc in
    regroup whole (token (closed_word (codes "return") key.Return refl refl) ▸ last_any e h)

pub statement_prints : (vs : List Formal) (s : Stmt) → IsStmt s × AsDeclared vs s.form → Prints (statement_text s) (Statement vs s)
statement_prints vs s h =
    let whole : decimal s.line ++ (codes ": " ++ form_text s.form) ≡ (decimal s.line ++ codes ": ") ++ form_text s.form = sym (append_assoc (decimal s.line) (codes ": ") (form_text s.form)) in
    let all = regroup whole (open_then (count_prints s.line h.0.0) (λ rest. refl) (token closed_colon ▸ form_prints s.form h.0.1)) in
    prints_as (λ l k. (h.1, k)) (then_newline all)
