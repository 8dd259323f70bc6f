-- What a straight-line program is read from.
use Rattle.std.proofs.Common.{◌≡◌, ℕ, ◌<◌, List, [], ◌∷◌, ◌++◌, length, Some, None, Result, Ok, Err, ℤ, refl, sym, ap, subst, ◌∙◌, arith, inl, inr, append_assoc}
use Rattle.cv_core.specs.declared.program.Stmt.{Stmt}
use Rattle.cv_core.specs.declared.program.Form.{Form}
use Rattle.cv_core.specs.declared.program.Form.TheVariants as form
use Rattle.cv_core.specs.declared.program.Operand.TheVariants as operand
use Rattle.cv_core.specs.declared.program.AnyOperand.TheVariants as any
use Rattle.cv_reading.specs.Phrase.{one, ◌⋅◌}
use Rattle.cv_reading.specs.Reading.{Outcome, and_then, passed, many, ◌◁◌}
use Rattle.cv_reading.proofs.Laws.{Reads, Made, Or, BeginsElsewhere, reads_as, reads_made, reads_on, reads_both, reads_then, reads_ended, many_goes, many_ends, many_fails, shrinks}
use Rattle.cv_text.specs.declared.token.Key.TheVariants as key
use Rattle.cv_text.specs.declared.token.Sign.TheVariants as sign
use Rattle.cv_text.specs.Tokens.{Lexeme, name, word, digits, mark, Line}
use Rattle.cv_text.specs.Grammar.{Name, Mark, Count, Number, end, Phrase}
use Rattle.cv_text.specs.Reader.{is_word, is_mark, number, semicolon}
use Rattle.cv_text.specs.Narrow.{IsMove, IsReturn}
use Rattle.cv_text.specs.NarrowReader.{store, address, shift, assignment, pointer_move, number_return, last_or_move, at_line, statement, all_of, statements_onto}
use Rattle.cv_text.specs.declared.cursor.ReadError.{ReadError}
use Rattle.cv_text.specs.declared.cursor.ReadError.TheVariants as errors
use Rattle.cv_text.specs.Given.{Fails, from}
use Rattle.cv_text.proofs.Singles.{only_word, only_mark, reads_the_name, reads_the_mark, reads_semicolon, reads_count, reads_number}

-- ---- moves

abbrev stored : List ℕ → ℤ → Form
stored p k = form.Store p (operand.Number k)

abbrev shifted : List ℕ → ℤ → Form
shifted p k = form.Shift p p (operand.Number k)

abbrev EndedNumber : ℤ → Line → Type 0
EndedNumber k = Number k ⋅ end

abbrev StoreText : List ℕ → Form → Line → Type 0
StoreText p f = Name p ⋅ Mark sign.Comma ⋅ Made (stored p) EndedNumber f

reads_ended_number : Reads (number ◁ semicolon) EndedNumber
reads_ended_number = reads_ended reads_number reads_semicolon

reads_store : (p : List ℕ) → Reads (store p) (StoreText p)
unfolding store
reads_store p = reads_then (reads_the_name p) (reads_then (reads_the_mark sign.Comma) (reads_made (stored p) reads_ended_number))

abbrev AddressText : List ℕ → List ℕ → Form → Line → Type 0
AddressText b p = Made (λ (_ : Unit {0}). form.Address p b) (λ _. Name b ⋅ end)

reads_address : (b p : List ℕ) → Reads (address b p) (AddressText b p)
unfolding address
reads_address b p = reads_made (λ (_ : Unit {0}). form.Address p b) (reads_then (reads_the_name b) reads_semicolon)

abbrev ShiftText : List ℕ → Form → Line → Type 0
ShiftText p f = Name p ⋅ Mark sign.Plus ⋅ Made (shifted p) EndedNumber f

reads_shift : (p : List ℕ) → Reads (shift p) (ShiftText p)
unfolding shift
reads_shift p = reads_then (reads_the_name p) (reads_then (reads_the_mark sign.Plus) (reads_made (shifted p) reads_ended_number))

abbrev RightText : List ℕ → List ℕ → Form → Line → Type 0
RightText b p = Or (λ f. one (mark sign.And) ⋅ AddressText b p f) (ShiftText p)

shift_elsewhere : (p : List ℕ) → BeginsElsewhere (λ t. passed (is_mark sign.And t)) (ShiftText p)
shift_elsewhere p f text (front, rest, h, k, parts) = (name p, rest, parts ∙ ap (λ (u : Line). u ++ rest) h, refl)

abbrev AssignmentText : List ℕ → List ℕ → Form → Line → Type 0
AssignmentText b p f = Name p ⋅ Mark sign.Assign ⋅ RightText b p f

reads_assignment : (b p : List ℕ) → Reads (assignment b p) (AssignmentText b p)
unfolding assignment
reads_assignment b p = reads_then (reads_the_name p) (reads_then (reads_the_mark sign.Assign) (reads_on (is_mark sign.And) (mark sign.And) refl (only_mark sign.And) (reads_address b p) (reads_shift p) (shift_elsewhere p)))

assignment_elsewhere : (b p : List ℕ) → BeginsElsewhere (λ t. passed (is_word key.Store t)) (AssignmentText b p)
assignment_elsewhere b p f text (front, rest, h, k, parts) = (name p, rest, parts ∙ ap (λ (u : Line). u ++ rest) h, refl)

abbrev MoveText : List ℕ → List ℕ → Form → Line → Type 0
MoveText b p f text = IsMove b p f × Phrase f text

move_is : (b p : List ℕ) (f : Form) (text : Line) → Or (λ g. one (word key.Store) ⋅ StoreText p g) (AssignmentText b p) f text → MoveText b p f text
move_is b p f text (inl (w, r1, w_is, (n, r2, n_is, (c, r3, c_is, (k, e, v), p3), p2), p1)) =
    let whole : MoveText b p (stored p k) text = (refl, (w, r1, w_is, (n, r2, n_is, (c, r3, c_is, v, p3), p2), p1)) in
    subst (λ (g : Form). MoveText b p g text) (sym e) whole
move_is b p f text (inr (n, r1, n_is, (q, r2, q_is, inl (a, r3, a_is, (u, e, v), p3), p2), p1)) =
    let whole : MoveText b p (form.Address p b) text = ((refl, refl), (n, r1, n_is, (q, r2, q_is, (a, r3, a_is, v, p3), p2), p1)) in
    subst (λ (g : Form). MoveText b p g text) (sym e) whole
move_is b p f text (inr (n, r1, n_is, (q, r2, q_is, inr (m, r3, m_is, (s, r4, s_is, (k, e, v), p4), p3), p2), p1)) =
    let whole : MoveText b p (shifted p k) text = ((refl, refl), (n, r1, n_is, (q, r2, q_is, (m, r3, m_is, (s, r4, s_is, v, p4), p3), p2), p1)) in
    subst (λ (g : Form). MoveText b p g text) (sym e) whole

abbrev Movement : List ℕ → List ℕ → Form → Line → Type 0
Movement b p = Or (λ g. one (word key.Store) ⋅ StoreText p g) (AssignmentText b p)

store_back : (b p x : List ℕ) (k : ℤ) (text : Line) → x ≡ p → Phrase (stored x k) text → Movement b p (stored x k) text
store_back b p x k text e h = subst (λ (y : List ℕ). Phrase (stored y k) text → Movement b p (stored y k) text) (sym e) (λ (w, r1, w_is, (n, r2, n_is, (c, r3, c_is, v, p3), p2), p1). inl (w, r1, w_is, (n, r2, n_is, (c, r3, c_is, (k, refl, v), p3), p2), p1)) h

move_back : (b p : List ℕ) (f : Form) (text : Line) → MoveText b p f text → Movement b p f text
move_back b p (form.Store x (operand.Number k)) text (e, h) = store_back b p x k text e h
move_back b p (form.Store x (operand.Var y)) text (e, h) = absurd e
move_back b p (form.Address x a) text ((e, g), (n, r1, n_is, (q, r2, q_is, (m, r3, m_is, v, p3), p2), p1)) =
    let whole : Movement b p (form.Address p b) text = inr (n, r1, subst (λ (y : List ℕ). Name y n) e n_is, (q, r2, q_is, inl (m, r3, m_is, (tt, refl, subst (λ (y : List ℕ). (Name y ⋅ end) r3) g v), p3), p2), p1) in
    let same : form.Address p b ≡ form.Address x a = ap (λ (y : List ℕ). form.Address y b) (sym e) ∙ ap (λ (y : List ℕ). form.Address x y) (sym g) in
    subst (λ (u : Form). Movement b p u text) same whole
move_back b p (form.Shift x y (operand.Number k)) text ((e, g), (n, r1, n_is, (q, r2, q_is, (m, r3, m_is, (s, r4, s_is, v, p4), p3), p2), p1)) =
    let whole : Movement b p (shifted p k) text = inr (n, r1, subst (λ (z : List ℕ). Name z n) e n_is, (q, r2, q_is, inr (m, r3, subst (λ (z : List ℕ). Name z m) g m_is, (s, r4, s_is, (k, refl, v), p4), p3), p2), p1) in
    let same : shifted p k ≡ form.Shift x y (operand.Number k) = ap (λ (z : List ℕ). form.Shift z p (operand.Number k)) (sym e) ∙ ap (λ (z : List ℕ). form.Shift x z (operand.Number k)) (sym g) in
    subst (λ (u : Form). Movement b p u text) same whole
move_back b p (form.Shift x y (operand.Var z)) text (e, h) = absurd e
move_back b p _ text (e, h) = absurd e

reads_move : (b p : List ℕ) → Reads (pointer_move b p) (MoveText b p)
unfolding pointer_move
reads_move b p = reads_as (reads_on (is_word key.Store) (word key.Store) refl (only_word key.Store) (reads_store p) (reads_assignment b p) (assignment_elsewhere b p)) (move_is b p) (move_back b p)

-- ---- a return, or a move

abbrev returned : ℤ → Form
returned k = form.Return (Some (any.Operand (operand.Number k)))

abbrev ReturnText : Form → Line → Type 0
ReturnText = Made returned EndedNumber

reads_return : Reads number_return ReturnText
unfolding number_return
reads_return = reads_made returned reads_ended_number

abbrev StepForm : List ℕ → List ℕ → Result Form Form → Line → Type 0
StepForm b p (Ok f) text = MoveText b p f text
StepForm b p (Err f) text = IsReturn f × Phrase f text

abbrev as_move : Form → Result Form Form
as_move f = Ok f

abbrev as_last : Form → Result Form Form
as_last f = Err f

abbrev EitherStep : List ℕ → List ℕ → Result Form Form → Line → Type 0
EitherStep b p = Or (λ o. one (word key.Return) ⋅ Made as_last ReturnText o) (Made as_move (MoveText b p))

first_move : (b p : List ℕ) (f : Form) (text : Line) → Movement b p f text → (t : Lexeme) × (rest : Line) × (text ≡ t ∷ rest) × (passed (is_word key.Return t) ≡ None)
first_move b p f text (inl (w, r1, w_is, h, p1)) = (word key.Store, r1, p1 ∙ ap (λ (u : Line). u ++ r1) w_is, refl)
first_move b p f text (inr (n, r1, n_is, h, p1)) = (name p, r1, p1 ∙ ap (λ (u : Line). u ++ r1) n_is, refl)

moves_elsewhere : (b p : List ℕ) → BeginsElsewhere (λ t. passed (is_word key.Return t)) (Made as_move (MoveText b p))
moves_elsewhere b p o text (f, e, h) = first_move b p f text (move_back b p f text h)

step_is : (b p : List ℕ) (o : Result Form Form) (text : Line) → EitherStep b p o text → StepForm b p o text
step_is b p o text (inl (w, r1, w_is, (f, e, (k, g, v)), p1)) =
    let whole : StepForm b p (Err (returned k)) text = (tt, (w, r1, w_is, v, p1)) in
    subst (λ (u : Result Form Form). StepForm b p u text) (sym (e ∙ ap as_last g)) whole
step_is b p o text (inr (f, e, h)) = subst (λ (u : Result Form Form). StepForm b p u text) (sym e) h

return_back : (b p : List ℕ) (f : Form) (text : Line) → IsReturn f → Phrase f text → EitherStep b p (Err f) text
return_back b p (form.Return (Some (any.Operand (operand.Number k)))) text i (w, r1, w_is, v, p1) = inl (w, r1, w_is, (returned k, refl, (k, refl, v)), p1)
return_back b p (form.Return (Some (any.Operand (operand.Var x)))) text i h = absurd i
return_back b p (form.Return (Some any.Null)) text i h = absurd i
return_back b p (form.Return None) text i h = absurd i
return_back b p _ text i h = absurd i

step_back : (b p : List ℕ) (o : Result Form Form) (text : Line) → StepForm b p o text → EitherStep b p o text
step_back b p (Ok f) text h = inr (f, refl, h)
step_back b p (Err f) text (i, h) = return_back b p f text i h

reads_step : (b p : List ℕ) → Reads (last_or_move b p) (StepForm b p)
unfolding last_or_move
reads_step b p = reads_as (reads_on (is_word key.Return) (word key.Return) refl (only_word key.Return) (reads_made as_last reads_return) (reads_made as_move (reads_move b p)) (moves_elsewhere b p)) (step_is b p) (step_back b p)

-- ---- a statement

abbrev pub Written : Stmt → Line → Type 0
Written s = Count s.line ⋅ Mark sign.Colon ⋅ Phrase s.form

abbrev pub StepText : List ℕ → List ℕ → Result Stmt Stmt → Line → Type 0
StepText b p (Ok s) text = IsMove b p s.form × Written s text
StepText b p (Err s) text = IsReturn s.form × Written s text

abbrev Lined : List ℕ → List ℕ → ℕ × Result Form Form → Line → Type 0
Lined b p v = Count v.0 ⋅ Mark sign.Colon ⋅ StepForm b p v.1

lined_is : (b p : List ℕ) (line : ℕ) (o : Result Form Form) (text : Line) → Lined b p (line, o) text → StepText b p (at_line (line, o)) text
lined_is b p line (Ok f) text (c, r1, c_is, (q, r2, q_is, (m, h), p2), p1) = (m, (c, r1, c_is, (q, r2, q_is, h, p2), p1))
lined_is b p line (Err f) text (c, r1, c_is, (q, r2, q_is, (m, h), p2), p1) = (m, (c, r1, c_is, (q, r2, q_is, h, p2), p1))

statement_is : (b p : List ℕ) (o : Result Stmt Stmt) (text : Line) → Made at_line (Lined b p) o text → StepText b p o text
statement_is b p o text (v, e, h) = subst (λ (u : Result Stmt Stmt). StepText b p u text) (sym e) (lined_is b p v.0 v.1 text h)

statement_back : (b p : List ℕ) (o : Result Stmt Stmt) (text : Line) → StepText b p o text → Made at_line (Lined b p) o text
statement_back b p (Ok s) text (m, (c, r1, c_is, (q, r2, q_is, h, p2), p1)) = ((s.line, Ok s.form), refl, (c, r1, c_is, (q, r2, q_is, (m, h), p2), p1))
statement_back b p (Err s) text (m, (c, r1, c_is, (q, r2, q_is, h, p2), p1)) = ((s.line, Err s.form), refl, (c, r1, c_is, (q, r2, q_is, (m, h), p2), p1))

pub reads_statement : (b p : List ℕ) → Reads (statement b p) (StepText b p)
unfolding statement
reads_statement b p = reads_as (reads_made at_line (reads_both reads_count (λ _. reads_then (reads_the_mark sign.Colon) (reads_step b p)))) (statement_is b p) (statement_back b p)

written_is_long : (s : Stmt) (text : Line) → Written s text → 0 < length text
written_is_long s text (c, r1, (low, high, (ds, v, c_is)), h, p1) = let e : text ≡ digits ds ∷ r1 = p1 ∙ ap (λ (u : Line). u ++ r1) c_is in rw e (omega arith)

pub statement_is_long : (b p : List ℕ) (o : Result Stmt Stmt) (text : Line) → StepText b p o text → 0 < length text
statement_is_long b p (Ok s) text h = written_is_long s text h.1
statement_is_long b p (Err s) text h = written_is_long s text h.1

-- ---- the loop over the statements

goes_onto : (before : List Stmt) (s : Stmt) (o : Outcome Lexeme (List Stmt × Stmt)) → and_then o (λ v rest. Ok (before ++ all_of (s ∷ v.0, v.1), rest)) ≡ and_then o (λ v rest. Ok ((before ++ s ∷ []) ++ all_of v, rest))
goes_onto before s (Ok q) = ap (λ (u : List Stmt). Ok (u, q.1)) (simp append_assoc)
goes_onto before s (Err at) = refl

pub goes : (b p : List ℕ) (before : List Stmt) (ts : Line) (s : Stmt) (after : Line) → statement b p ts ≡ Ok (Ok s, after) → statements_onto b p before ts ≡ statements_onto b p (before ++ s ∷ []) after
goes b p before ts s after e = many_goes (reads_statement b p) (statement_is_long b p) (λ v rest. Ok (before ++ all_of v, rest)) ts s after e ∙ goes_onto before s (many (statement b p) after)

pub ends : (b p : List ℕ) (before : List Stmt) (ts : Line) (s : Stmt) (after : Line) → statement b p ts ≡ Ok (Err s, after) → statements_onto b p before ts ≡ Ok (before ++ s ∷ [], after)
ends b p before ts s after e = many_ends (reads_statement b p) (statement_is_long b p) (λ v rest. Ok (before ++ all_of v, rest)) ts s after e

pub fails : (b p : List ℕ) (before : List Stmt) (ts at : Line) → statement b p ts ≡ Err at → statements_onto b p before ts ≡ Err at
fails b p before ts at e = many_fails (reads_statement b p) (statement_is_long b p) (λ v rest. Ok (before ++ all_of v, rest)) ts at e

pub shorter : (b p : List ℕ) (ts : Line) (o : Result Stmt Stmt) (after : Line) → statement b p ts ≡ Ok (o, after) → length after < length ts
shorter b p ts o after e = shrinks (reads_statement b p) (statement_is_long b p) ts o after e

pub fails_as : (text : List ℕ) (e : ReadError) (b p : List ℕ) (before : List Stmt) (ts : Line) → Fails text e (statement b p ts) → Fails text e (statements_onto b p before ts)
fails_as text errors.Memory b p before ts h = tt
fails_as text (errors.Fault at) b p before ts h = fails b p before ts (from text at) h
