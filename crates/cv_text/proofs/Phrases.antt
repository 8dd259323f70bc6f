-- What statements are read from.
use Rattle.std.proofs.Common.{◌≡◌, ℕ, Bool, true, false, List, [], ◌∷◌, ◌++◌, length, Option, Some, None, ℤ, refl, sym, ap, subst, ◌∙◌, arith, inl, inr, ◌<◌}
use Rattle.cv_core.specs.declared.program.Formal.{Formal}
use Rattle.cv_core.specs.declared.program.Stmt.{Stmt}
use Rattle.cv_core.specs.declared.program.Form.{Form}
use Rattle.cv_core.specs.declared.program.Form.TheVariants as form
use Rattle.cv_core.specs.declared.program.Operand.{Operand}
use Rattle.cv_core.specs.declared.program.Operand.TheVariants as operand
use Rattle.cv_core.specs.declared.program.AnyOperand.{AnyOperand}
use Rattle.cv_core.specs.declared.program.AnyOperand.TheVariants as any
use Rattle.cv_core.specs.declared.program.Rel.{Rel}
use Rattle.cv_core.specs.declared.program.Rel.TheVariants as rel
use Rattle.cv_reading.specs.Phrase.{one, nothing, ◌⋅◌}
use Rattle.cv_reading.specs.Reading.{Reading, passed}
use Rattle.cv_reading.proofs.Laws.{Reads, Made, Or, Then, BeginsElsewhere, reads_as, reads_made, reads_on, reads_both, reads_then, reads_ended, to_left, to_right}
use Rattle.cv_reading.proofs.Lists.{Given, reads_give, reads_before, elsewhere_on, elsewhere_then, elsewhere_made, elsewhere_or, elsewhere_one}
use Rattle.cv_text.specs.declared.token.Key.TheVariants as key
use Rattle.cv_text.specs.declared.token.Sign.TheVariants as sign
use Rattle.cv_text.specs.Tokens.{Lexeme, name, word, digits, mark, Line}
use Rattle.cv_text.specs.Grammar.{Name, Word, Mark, Count, Number, Divisor, Value, Any, Relation, Equality, Jump, CallPhrase, Phrase, AsDeclared, Statement, is_pointer, end}
use Rattle.cv_text.specs.Reader.{is_word, is_mark, named}
use Rattle.cv_text.specs.StatementReader.{store, put, goto, byte_test, may_be_null, comparison, branch, return_rest, call, assigned, added, after_value, after_number, computed, load, get, diff, null, address, right_side, assignment, phrase, lined, after_line, statement}
use Rattle.cv_text.proofs.Singles.{only_word, only_mark, reads_the_mark, reads_semicolon, reads_a_name, reads_count, reads_number}
use Rattle.cv_text.proofs.OperandLaws.{reads_named, number_elsewhere, value_elsewhere, any_elsewhere, reads_value, reads_any, reads_ended_value, reads_ended_name, reads_ended_divisor, reads_relation, reads_equality, reads_zero, reads_jump, Compared, reads_compared, Arguments, reads_arguments}

abbrev EndedValue : Operand → Line → Type 0
EndedValue e = Value e ⋅ end

abbrev EndedName : List ℕ → Line → Type 0
EndedName x = Name x ⋅ end

abbrev EndedDivisor : ℤ → Line → Type 0
EndedDivisor k = Divisor k ⋅ end

-- ---- statements that begin with a word

abbrev stored : List ℕ × Operand → Form
stored v = form.Store v.0 v.1

abbrev StoreText : Form → Line → Type 0
StoreText = Made stored (λ v. Name v.0 ⋅ Mark sign.Comma ⋅ EndedValue v.1)

reads_store : Reads store StoreText
unfolding store
reads_store = reads_made stored (reads_both reads_a_name (λ _. reads_then (reads_the_mark sign.Comma) reads_ended_value))

abbrev put_in : List ℕ × AnyOperand → Form
put_in v = form.Put v.0 v.1

abbrev PutText : Form → Line → Type 0
PutText = Made put_in (λ v. Name v.0 ⋅ Mark sign.Comma ⋅ Any v.1 ⋅ end)

reads_put : Reads put PutText
unfolding put
reads_put = reads_made put_in (reads_both reads_a_name (λ _. reads_then (reads_the_mark sign.Comma) (reads_ended reads_any reads_semicolon)))

abbrev gone_to : ℕ → Form
gone_to to = form.Goto to

abbrev GotoText : Form → Line → Type 0
GotoText = Made gone_to (λ to. Count to ⋅ end)

reads_goto : Reads goto GotoText
unfolding goto
reads_goto = reads_made gone_to (reads_ended reads_count reads_semicolon)

abbrev tested : List ℕ × (Bool × ℕ) → Form
tested v = form.IfByte v.0 v.1.0 v.1.1

abbrev ByteText : Form → Line → Type 0
ByteText = Made tested (λ v. Name v.0 ⋅ Equality v.1.0 ⋅ one (digits (48 ∷ [])) ⋅ Jump v.1.1)

reads_byte_test : Reads byte_test ByteText
unfolding byte_test
reads_byte_test = reads_made tested (reads_both reads_a_name (λ _. reads_both reads_equality (λ _. reads_then reads_zero reads_jump)))

abbrev compared_as : Operand × (Rel × (AnyOperand × ℕ)) → Form
compared_as v = form.If v.0 v.1.0 v.1.1.0 v.1.1.1

abbrev ComparisonText : Form → Line → Type 0
ComparisonText = Made compared_as (λ v. Value v.0 ⋅ Relation v.1.0 ⋅ Compared (may_be_null v.0 v.1.0) v.1.1.0 ⋅ Jump v.1.1.1)

reads_comparison : Reads comparison ComparisonText
unfolding comparison
reads_comparison = reads_made compared_as (reads_both reads_value (λ e. reads_both reads_relation (λ r. reads_both (reads_compared e r) (λ _. reads_jump))))

abbrev BranchText : Form → Line → Type 0
BranchText = Or (λ f. one (word key.Load) ⋅ ByteText f) ComparisonText

comparison_elsewhere : {B : Type 0} {f : Lexeme → Option B} → ((x : List ℕ) → f (name x) ≡ None) → ((ds : List ℕ) → f (digits ds) ≡ None) → f (mark sign.Minus) ≡ None → BeginsElsewhere f ComparisonText
comparison_elsewhere {B} {f} n h k g text (v, e, (front, rest, is, others, parts)) = let x = value_elsewhere {f = f} n h k v.0 front is in (x.0, x.1 ++ rest, parts ∙ ap (λ (u : Line). u ++ rest) x.2, x.3)

reads_branch : Reads branch BranchText
unfolding branch
reads_branch = reads_on (is_word key.Load) (word key.Load) refl (only_word key.Load) reads_byte_test reads_comparison (comparison_elsewhere (λ x. refl) (λ ds. refl) refl)

abbrev returned : AnyOperand → Form
returned e = form.Return (Some e)

abbrev ReturnText : Form → Line → Type 0
ReturnText = Or (λ f. one (mark sign.Semicolon) ⋅ Given (form.Return None) f) (Made returned (λ e. Any e ⋅ end))

returned_elsewhere : BeginsElsewhere (λ t. passed (is_mark sign.Semicolon t)) (Made returned (λ e. Any e ⋅ end))
returned_elsewhere f text (e, is, (front, rest, h, others, parts)) =
    let x = begins e front h in (x.0, x.1 ++ rest, parts ∙ ap (λ (u : Line). u ++ rest) x.2, x.3)
  where
    begins : BeginsElsewhere (λ t. passed (is_mark sign.Semicolon t)) Any
    begins = any_elsewhere refl (λ x. refl) (λ ds. refl) refl

reads_return : Reads return_rest ReturnText
unfolding return_rest
reads_return = reads_on (is_mark sign.Semicolon) (mark sign.Semicolon) refl (only_mark sign.Semicolon) (reads_give (form.Return None)) (reads_made returned (reads_ended reads_any reads_semicolon)) returned_elsewhere

-- ---- calls

abbrev called : Option (List ℕ) → List ℕ × List AnyOperand → Form
called into v = form.Call into v.0 v.1

abbrev CallText : Option (List ℕ) → Form → Line → Type 0
CallText into = Made (called into) (λ v. Name v.0 ⋅ Mark sign.Open ⋅ Arguments v.1 ⋅ end)

reads_call : (into : Option (List ℕ)) → Reads (call into) (CallText into)
unfolding call
reads_call into = reads_made (called into) (reads_both reads_a_name (λ _. reads_then (reads_the_mark sign.Open) (reads_ended reads_arguments reads_semicolon)))

-- ---- assignments

abbrev plus_value : (List ℕ → Bool) → List ℕ → Operand → Operand → Form
plus_value test x e f = added test x e f

abbrev less_value : List ℕ → Operand → Operand → Form
less_value x e f = form.Minus x e f

abbrev divided : List ℕ → Operand → ℤ → Form
divided x e k = form.Quotient x e k

abbrev remaining : List ℕ → Operand → ℤ → Form
remaining x e k = form.Remainder x e k

abbrev alone : (List ℕ → Bool) → List ℕ → Operand → Unit {0} → Form
alone test x e u = assigned test x e

abbrev LessText : (List ℕ → Bool) → List ℕ → Operand → Form → Line → Type 0
LessText test x e = Or (λ f. one (mark sign.Minus) ⋅ Made (less_value x e) EndedValue f)
    (Or (λ f. one (mark sign.Slash) ⋅ Made (divided x e) EndedDivisor f)
    (Or (λ f. one (mark sign.Percent) ⋅ Made (remaining x e) EndedDivisor f)
    (Made (alone test x e) (λ _. end))))

abbrev AfterText : (List ℕ → Bool) → List ℕ → Operand → Form → Line → Type 0
AfterText test x e = Or (λ f. one (mark sign.Plus) ⋅ Made (plus_value test x e) EndedValue f) (LessText test x e)

alone_elsewhere : {B : Type 0} {f : Lexeme → Option B} (test : List ℕ → Bool) (x : List ℕ) (e : Operand) → f (mark sign.Semicolon) ≡ None → BeginsElsewhere f (Made (alone test x e) (λ _. end))
alone_elsewhere test x e h g text (u, is, k) = (mark sign.Semicolon, [], k, h)

percent_elsewhere : {B : Type 0} {f : Lexeme → Option B} (test : List ℕ → Bool) (x : List ℕ) (e : Operand) → f (mark sign.Percent) ≡ None → f (mark sign.Semicolon) ≡ None → BeginsElsewhere f (Or (λ g. one (mark sign.Percent) ⋅ Made (remaining x e) EndedDivisor g) (Made (alone test x e) (λ _. end)))
percent_elsewhere test x e p s = elsewhere_on (mark sign.Percent) (Made (remaining x e) EndedDivisor) (Made (alone test x e) (λ _. end)) p (alone_elsewhere test x e s)

slash_elsewhere : {B : Type 0} {f : Lexeme → Option B} (test : List ℕ → Bool) (x : List ℕ) (e : Operand) → f (mark sign.Slash) ≡ None → f (mark sign.Percent) ≡ None → f (mark sign.Semicolon) ≡ None → BeginsElsewhere f (Or (λ g. one (mark sign.Slash) ⋅ Made (divided x e) EndedDivisor g) (Or (λ g. one (mark sign.Percent) ⋅ Made (remaining x e) EndedDivisor g) (Made (alone test x e) (λ _. end))))
slash_elsewhere test x e d p s = elsewhere_on (mark sign.Slash) (Made (divided x e) EndedDivisor) (Or (λ g. one (mark sign.Percent) ⋅ Made (remaining x e) EndedDivisor g) (Made (alone test x e) (λ _. end))) d (percent_elsewhere test x e p s)

less_elsewhere : {B : Type 0} {f : Lexeme → Option B} (test : List ℕ → Bool) (x : List ℕ) (e : Operand) → f (mark sign.Minus) ≡ None → f (mark sign.Slash) ≡ None → f (mark sign.Percent) ≡ None → f (mark sign.Semicolon) ≡ None → BeginsElsewhere f (LessText test x e)
less_elsewhere test x e m d p s = elsewhere_on (mark sign.Minus) (Made (less_value x e) EndedValue) (Or (λ g. one (mark sign.Slash) ⋅ Made (divided x e) EndedDivisor g) (Or (λ g. one (mark sign.Percent) ⋅ Made (remaining x e) EndedDivisor g) (Made (alone test x e) (λ _. end)))) m (slash_elsewhere test x e d p s)

after_elsewhere : {B : Type 0} {f : Lexeme → Option B} (test : List ℕ → Bool) (x : List ℕ) (e : Operand) → f (mark sign.Plus) ≡ None → f (mark sign.Minus) ≡ None → f (mark sign.Slash) ≡ None → f (mark sign.Percent) ≡ None → f (mark sign.Semicolon) ≡ None → BeginsElsewhere f (AfterText test x e)
after_elsewhere test x e q m d p s = elsewhere_on (mark sign.Plus) (Made (plus_value test x e) EndedValue) (LessText test x e) q (less_elsewhere test x e m d p s)

reads_after_value : (test : List ℕ → Bool) (x : List ℕ) (e : Operand) → Reads (after_value test x e) (AfterText test x e)
unfolding after_value
reads_after_value test x e =
    reads_on (is_mark sign.Plus) (mark sign.Plus) refl (only_mark sign.Plus) (reads_made (plus_value test x e) reads_ended_value)
    (reads_on (is_mark sign.Minus) (mark sign.Minus) refl (only_mark sign.Minus) (reads_made (less_value x e) reads_ended_value)
    (reads_on (is_mark sign.Slash) (mark sign.Slash) refl (only_mark sign.Slash) (reads_made (divided x e) reads_ended_divisor)
    (reads_on (is_mark sign.Percent) (mark sign.Percent) refl (only_mark sign.Percent) (reads_made (remaining x e) reads_ended_divisor)
    (reads_made (alone test x e) reads_semicolon) (alone_elsewhere test x e refl)) (percent_elsewhere test x e refl refl)) (slash_elsewhere test x e refl refl refl)) (less_elsewhere test x e refl refl refl refl)

abbrev multiplied : List ℕ → ℤ → Operand → Form
multiplied x k e = form.Product x k e

abbrev BehindNumber : (List ℕ → Bool) → List ℕ → ℤ → Form → Line → Type 0
BehindNumber test x k = Or (λ f. one (mark sign.Star) ⋅ Made (multiplied x k) EndedValue f) (AfterText test x (operand.Number k))

reads_after_number : (test : List ℕ → Bool) (x : List ℕ) (k : ℤ) → Reads (after_number test x k) (BehindNumber test x k)
unfolding after_number
reads_after_number test x k = reads_on (is_mark sign.Star) (mark sign.Star) refl (only_mark sign.Star) (reads_made (multiplied x k) reads_ended_value) (reads_after_value test x (operand.Number k)) (after_elsewhere test x (operand.Number k) refl refl refl refl refl)

abbrev ComputedText : (List ℕ → Bool) → List ℕ → Form → Line → Type 0
ComputedText test x = Or (Then Name (λ y. AfterText test x (operand.Var y))) (Then Number (BehindNumber test x))

reads_computed : (test : List ℕ → Bool) (x : List ℕ) → Reads (computed test x) (ComputedText test x)
unfolding computed
reads_computed test x = reads_named (λ y. reads_after_value test x (operand.Var y)) (reads_before reads_number (λ k. reads_after_number test x k)) (elsewhere_then Number (BehindNumber test x) (number_elsewhere (λ ds. refl) refl))

name_elsewhere : {B : Type 0} {f : Lexeme → Option B} → ((y : List ℕ) → f (name y) ≡ None) → BeginsElsewhere f Name
name_elsewhere n x text h = (name x, [], h, n x)

computed_elsewhere : {B : Type 0} {f : Lexeme → Option B} (test : List ℕ → Bool) (x : List ℕ) → ((y : List ℕ) → f (name y) ≡ None) → ((ds : List ℕ) → f (digits ds) ≡ None) → f (mark sign.Minus) ≡ None → BeginsElsewhere f (ComputedText test x)
computed_elsewhere test x n h k = elsewhere_or (Then Name (λ y. AfterText test x (operand.Var y))) (Then Number (BehindNumber test x)) (elsewhere_then Name (λ y. AfterText test x (operand.Var y)) (name_elsewhere n)) (elsewhere_then Number (BehindNumber test x) (number_elsewhere h k))

-- ---- right sides

abbrev loaded : List ℕ → List ℕ → Form
loaded x p = form.Load x p

abbrev gotten : List ℕ → List ℕ → Form
gotten x w = form.Get x w

abbrev apart_by : List ℕ → List ℕ × List ℕ → Form
apart_by x v = form.Diff x v.0 v.1

abbrev nulled : List ℕ → Unit {0} → Form
nulled x u = form.CopyPtr x None

abbrev pointed : List ℕ → List ℕ → Form
pointed x a = form.Address x a

abbrev DiffText : List ℕ → Form → Line → Type 0
DiffText x = Made (apart_by x) (λ v. Name v.0 ⋅ Mark sign.Comma ⋅ EndedName v.1)

abbrev Right1 : (List ℕ → Bool) → List ℕ → Form → Line → Type 0
Right1 test x = Or (λ f. one (mark sign.And) ⋅ Made (pointed x) EndedName f) (ComputedText test x)

abbrev Right2 : (List ℕ → Bool) → List ℕ → Form → Line → Type 0
Right2 test x = Or (λ f. one (word key.Null) ⋅ Made (nulled x) (λ _. end) f) (Right1 test x)

abbrev Right3 : (List ℕ → Bool) → List ℕ → Form → Line → Type 0
Right3 test x = Or (λ f. one (word key.Call) ⋅ CallText (Some x) f) (Right2 test x)

abbrev Right4 : (List ℕ → Bool) → List ℕ → Form → Line → Type 0
Right4 test x = Or (λ f. one (word key.Diff) ⋅ DiffText x f) (Right3 test x)

abbrev Right5 : (List ℕ → Bool) → List ℕ → Form → Line → Type 0
Right5 test x = Or (λ f. one (word key.Get) ⋅ Made (gotten x) EndedName f) (Right4 test x)

abbrev RightText : (List ℕ → Bool) → List ℕ → Form → Line → Type 0
RightText test x = Or (λ f. one (word key.Load) ⋅ Made (loaded x) EndedName f) (Right5 test x)

module _ {B : Type 0} {f : Lexeme → Option B} (test : List ℕ → Bool) (x : List ℕ) (n : (y : List ℕ) → f (name y) ≡ None) (d : (ds : List ℕ) → f (digits ds) ≡ None) (m : f (mark sign.Minus) ≡ None) where
  elsewhere1 : f (mark sign.And) ≡ None → BeginsElsewhere f (Right1 test x)
  elsewhere1 a = elsewhere_on (mark sign.And) (Made (pointed x) EndedName) (ComputedText test x) a (computed_elsewhere test x n d m)

  elsewhere2 : f (word key.Null) ≡ None → f (mark sign.And) ≡ None → BeginsElsewhere f (Right2 test x)
  elsewhere2 k a = elsewhere_on (word key.Null) (Made (nulled x) (λ _. end)) (Right1 test x) k (elsewhere1 a)

  elsewhere3 : f (word key.Call) ≡ None → f (word key.Null) ≡ None → f (mark sign.And) ≡ None → BeginsElsewhere f (Right3 test x)
  elsewhere3 c k a = elsewhere_on (word key.Call) (CallText (Some x)) (Right2 test x) c (elsewhere2 k a)

  elsewhere4 : f (word key.Diff) ≡ None → f (word key.Call) ≡ None → f (word key.Null) ≡ None → f (mark sign.And) ≡ None → BeginsElsewhere f (Right4 test x)
  elsewhere4 e c k a = elsewhere_on (word key.Diff) (DiffText x) (Right3 test x) e (elsewhere3 c k a)

  elsewhere5 : f (word key.Get) ≡ None → f (word key.Diff) ≡ None → f (word key.Call) ≡ None → f (word key.Null) ≡ None → f (mark sign.And) ≡ None → BeginsElsewhere f (Right5 test x)
  elsewhere5 g e c k a = elsewhere_on (word key.Get) (Made (gotten x) EndedName) (Right4 test x) g (elsewhere4 e c k a)

reads_load : (x : List ℕ) → Reads (load x) (Made (loaded x) EndedName)
unfolding load
reads_load x = reads_made (loaded x) reads_ended_name

reads_get : (x : List ℕ) → Reads (get x) (Made (gotten x) EndedName)
unfolding get
reads_get x = reads_made (gotten x) reads_ended_name

reads_diff : (x : List ℕ) → Reads (diff x) (DiffText x)
unfolding diff
reads_diff x = reads_made (apart_by x) (reads_both reads_a_name (λ _. reads_then (reads_the_mark sign.Comma) reads_ended_name))

reads_null : (x : List ℕ) → Reads (null x) (Made (nulled x) (λ _. end))
unfolding null
reads_null x = reads_made (nulled x) reads_semicolon

reads_address : (x : List ℕ) → Reads (address x) (Made (pointed x) EndedName)
unfolding address
reads_address x = reads_made (pointed x) reads_ended_name

reads_right_side : (test : List ℕ → Bool) (x : List ℕ) → Reads (right_side test x) (RightText test x)
unfolding right_side
reads_right_side test x =
    reads_on (is_word key.Load) (word key.Load) refl (only_word key.Load) (reads_load x)
    (reads_on (is_word key.Get) (word key.Get) refl (only_word key.Get) (reads_get x)
    (reads_on (is_word key.Diff) (word key.Diff) refl (only_word key.Diff) (reads_diff x)
    (reads_on (is_word key.Call) (word key.Call) refl (only_word key.Call) (reads_call (Some x))
    (reads_on (is_word key.Null) (word key.Null) refl (only_word key.Null) (reads_null x)
    (reads_on (is_mark sign.And) (mark sign.And) refl (only_mark sign.And) (reads_address x)
    (reads_computed test x)
    (computed_elsewhere test x (λ y. refl) (λ ds. refl) refl))
    (elsewhere1 test x (λ y. refl) (λ ds. refl) refl refl))
    (elsewhere2 test x (λ y. refl) (λ ds. refl) refl refl refl))
    (elsewhere3 test x (λ y. refl) (λ ds. refl) refl refl refl refl))
    (elsewhere4 test x (λ y. refl) (λ ds. refl) refl refl refl refl refl))
    (elsewhere5 test x (λ y. refl) (λ ds. refl) refl refl refl refl refl refl)

abbrev AssignmentText : (List ℕ → Bool) → Form → Line → Type 0
AssignmentText test = Then Name (λ x f. Mark sign.Assign ⋅ RightText test x f)

reads_assignment : (test : List ℕ → Bool) → Reads (assignment test) (AssignmentText test)
unfolding assignment
reads_assignment test = reads_before reads_a_name (λ x. reads_then (reads_the_mark sign.Assign) (reads_right_side test x))

-- ---- phrases

abbrev Phrase1 : (List ℕ → Bool) → Form → Line → Type 0
Phrase1 test = Or (λ f. one (word key.Return) ⋅ ReturnText f) (AssignmentText test)

abbrev Phrase2 : (List ℕ → Bool) → Form → Line → Type 0
Phrase2 test = Or (λ f. one (word key.Call) ⋅ CallText None f) (Phrase1 test)

abbrev Phrase3 : (List ℕ → Bool) → Form → Line → Type 0
Phrase3 test = Or (λ f. one (word key.If) ⋅ BranchText f) (Phrase2 test)

abbrev Phrase4 : (List ℕ → Bool) → Form → Line → Type 0
Phrase4 test = Or (λ f. one (word key.Goto) ⋅ GotoText f) (Phrase3 test)

abbrev Phrase5 : (List ℕ → Bool) → Form → Line → Type 0
Phrase5 test = Or (λ f. one (word key.Put) ⋅ PutText f) (Phrase4 test)

abbrev PhraseText : (List ℕ → Bool) → Form → Line → Type 0
PhraseText test = Or (λ f. one (word key.Store) ⋅ StoreText f) (Phrase5 test)

module _ {B : Type 0} {f : Lexeme → Option B} (test : List ℕ → Bool) (n : (y : List ℕ) → f (name y) ≡ None) where
  assignments_elsewhere : BeginsElsewhere f (AssignmentText test)
  assignments_elsewhere = elsewhere_then Name (λ x g. Mark sign.Assign ⋅ RightText test x g) (name_elsewhere n)

  phrases1 : f (word key.Return) ≡ None → BeginsElsewhere f (Phrase1 test)
  phrases1 r = elsewhere_on (word key.Return) ReturnText (AssignmentText test) r assignments_elsewhere

  phrases2 : f (word key.Call) ≡ None → f (word key.Return) ≡ None → BeginsElsewhere f (Phrase2 test)
  phrases2 c r = elsewhere_on (word key.Call) (CallText None) (Phrase1 test) c (phrases1 r)

  phrases3 : f (word key.If) ≡ None → f (word key.Call) ≡ None → f (word key.Return) ≡ None → BeginsElsewhere f (Phrase3 test)
  phrases3 i c r = elsewhere_on (word key.If) BranchText (Phrase2 test) i (phrases2 c r)

  phrases4 : f (word key.Goto) ≡ None → f (word key.If) ≡ None → f (word key.Call) ≡ None → f (word key.Return) ≡ None → BeginsElsewhere f (Phrase4 test)
  phrases4 g i c r = elsewhere_on (word key.Goto) GotoText (Phrase3 test) g (phrases3 i c r)

  phrases5 : f (word key.Put) ≡ None → f (word key.Goto) ≡ None → f (word key.If) ≡ None → f (word key.Call) ≡ None → f (word key.Return) ≡ None → BeginsElsewhere f (Phrase5 test)
  phrases5 p g i c r = elsewhere_on (word key.Put) PutText (Phrase4 test) p (phrases4 g i c r)

reads_phrase : (test : List ℕ → Bool) → Reads (phrase test) (PhraseText test)
unfolding phrase
reads_phrase test =
    reads_on (is_word key.Store) (word key.Store) refl (only_word key.Store) reads_store
    (reads_on (is_word key.Put) (word key.Put) refl (only_word key.Put) reads_put
    (reads_on (is_word key.Goto) (word key.Goto) refl (only_word key.Goto) reads_goto
    (reads_on (is_word key.If) (word key.If) refl (only_word key.If) reads_branch
    (reads_on (is_word key.Call) (word key.Call) refl (only_word key.Call) (reads_call None)
    (reads_on (is_word key.Return) (word key.Return) refl (only_word key.Return) reads_return
    (reads_assignment test)
    (assignments_elsewhere test (λ y. refl)))
    (phrases1 test (λ y. refl) refl))
    (phrases2 test (λ y. refl) refl refl))
    (phrases3 test (λ y. refl) refl refl refl))
    (phrases4 test (λ y. refl) refl refl refl refl))
    (phrases5 test (λ y. refl) refl refl refl refl refl)

-- ---- what is read is a phrase of the grammar

-- as the grammar says it of declared variables, by a test of names
abbrev pub Declared : (List ℕ → Bool) → Form → Type 0
Declared test (form.Assign x (operand.Var y)) = test x ≡ false
Declared test (form.Sum x (operand.Var y) e) = test x ≡ false
Declared test (form.CopyPtr p (Some q)) = test p ≡ true
Declared test (form.Shift p q e) = test p ≡ true
Declared test f = Unit {0}

abbrev pub Said : (List ℕ → Bool) → Form → Line → Type 0
Said test f text = Declared test f × Phrase f text

in_place : (test : List ℕ → Bool) (f g : Form) (text : Line) → f ≡ g → Said test g text → Said test f text
in_place test f g text e h = subst (λ (u : Form). Said test u text) (sym e) h

-- the comma-separated list with its bracket, and the semicolon
call_said : (into : Option (List ℕ)) (g : List ℕ) (args : List AnyOperand) (text : Line) → (Word key.Call ⋅ Name g ⋅ Mark sign.Open ⋅ Arguments args ⋅ end) text → CallPhrase g args text
call_said into g args text (c, r1, c_is, (n, r2, n_is, (o, r3, o_is, h, p3), p2), p1) = (c, r1, c_is, (n, r2, n_is, (o, r3, o_is, to_right _ _ _ r3 h, p3), p2), p1)

call_back : (g : List ℕ) (args : List AnyOperand) (text : Line) → CallPhrase g args text → (Word key.Call ⋅ Name g ⋅ Mark sign.Open ⋅ Arguments args ⋅ end) text
call_back g args text (c, r1, c_is, (n, r2, n_is, (o, r3, o_is, h, p3), p2), p1) = (c, r1, c_is, (n, r2, n_is, (o, r3, o_is, to_left _ _ _ r3 h, p3), p2), p1)

abbrev LeftOf : List ℕ → (Line → Type 0) → Line → Type 0
LeftOf x p = Name x ⋅ Mark sign.Assign ⋅ p

plus_said : (test : List ℕ → Bool) (x : List ℕ) (e f : Operand) (b : Bool) (text : Line) → test x ≡ b → LeftOf x (Value e ⋅ Mark sign.Plus ⋅ EndedValue f) text → Said test (added test x e f) text
plus_said test x (operand.Number k) f b text d h = (tt, h)
plus_said test x (operand.Var y) f true text d h = let whole : Said test (form.Shift x y f) text = (d, h) in rw d whole
plus_said test x (operand.Var y) f false text d h = let whole : Said test (form.Sum x (operand.Var y) f) text = (d, h) in rw d whole

alone_said : (test : List ℕ → Bool) (x : List ℕ) (e : Operand) (b : Bool) (text : Line) → test x ≡ b → LeftOf x (Value e ⋅ end) text → Said test (assigned test x e) text
alone_said test x (operand.Number k) b text d h = (tt, h)
alone_said test x (operand.Var y) true text d h = let whole : Said test (form.CopyPtr x (Some y)) text = (d, h) in rw d whole
alone_said test x (operand.Var y) false text d h = let whole : Said test (form.Assign x (operand.Var y)) text = (d, h) in rw d whole

after_said : (test : List ℕ → Bool) (x : List ℕ) (e : Operand) (f : Form) (text : Line) → LeftOf x (Value e ⋅ AfterText test x e f) text → Said test f text
after_said test x e f text (n, r1, n_is, (q, r2, q_is, (v, r3, v_is, inl (m, r4, m_is, (g, is, h), p4), p3), p2), p1) =
    in_place test f (added test x e g) text is (plus_said test x e g (test x) text refl (n, r1, n_is, (q, r2, q_is, (v, r3, v_is, (m, r4, m_is, h, p4), p3), p2), p1))
after_said test x e f text (n, r1, n_is, (q, r2, q_is, (v, r3, v_is, inr (inl (m, r4, m_is, (g, is, h), p4)), p3), p2), p1) =
    in_place test f (form.Minus x e g) text is (tt, (n, r1, n_is, (q, r2, q_is, (v, r3, v_is, (m, r4, m_is, h, p4), p3), p2), p1))
after_said test x e f text (n, r1, n_is, (q, r2, q_is, (v, r3, v_is, inr (inr (inl (m, r4, m_is, (k, is, h), p4))), p3), p2), p1) =
    in_place test f (form.Quotient x e k) text is (tt, (n, r1, n_is, (q, r2, q_is, (v, r3, v_is, (m, r4, m_is, h, p4), p3), p2), p1))
after_said test x e f text (n, r1, n_is, (q, r2, q_is, (v, r3, v_is, inr (inr (inr (inl (m, r4, m_is, (k, is, h), p4)))), p3), p2), p1) =
    in_place test f (form.Remainder x e k) text is (tt, (n, r1, n_is, (q, r2, q_is, (v, r3, v_is, (m, r4, m_is, h, p4), p3), p2), p1))
after_said test x e f text (n, r1, n_is, (q, r2, q_is, (v, r3, v_is, inr (inr (inr (inr (u, is, h)))), p3), p2), p1) =
    in_place test f (assigned test x e) text is (alone_said test x e (test x) text refl (n, r1, n_is, (q, r2, q_is, (v, r3, v_is, h, p3), p2), p1))

assignment_said : (test : List ℕ → Bool) (f : Form) (text : Line) → AssignmentText test f text → Said test f text
assignment_said test f text (x, (n, r1, n_is, (q, r2, q_is, inl (w, r3, w_is, (p, is, h), p3), p2), p1)) =
    in_place test f (form.Load x p) text is (tt, (n, r1, n_is, (q, r2, q_is, (w, r3, w_is, h, p3), p2), p1))
assignment_said test f text (x, (n, r1, n_is, (q, r2, q_is, inr (inl (w, r3, w_is, (p, is, h), p3)), p2), p1)) =
    in_place test f (form.Get x p) text is (tt, (n, r1, n_is, (q, r2, q_is, (w, r3, w_is, h, p3), p2), p1))
assignment_said test f text (x, (n, r1, n_is, (q, r2, q_is, inr (inr (inl (w, r3, w_is, (v, is, h), p3))), p2), p1)) =
    in_place test f (form.Diff x v.0 v.1) text is (tt, (n, r1, n_is, (q, r2, q_is, (w, r3, w_is, h, p3), p2), p1))
assignment_said test f text (x, (n, r1, n_is, (q, r2, q_is, inr (inr (inr (inl (w, r3, w_is, (v, is, h), p3)))), p2), p1)) =
    in_place test f (form.Call (Some x) v.0 v.1) text is (tt, (n, r1, n_is, (q, r2, q_is, call_said (Some x) v.0 v.1 r2 (w, r3, w_is, h, p3), p2), p1))
assignment_said test f text (x, (n, r1, n_is, (q, r2, q_is, inr (inr (inr (inr (inl (w, r3, w_is, (u, is, h), p3))))), p2), p1)) =
    in_place test f (form.CopyPtr x None) text is (tt, (n, r1, n_is, (q, r2, q_is, (w, r3, w_is, h, p3), p2), p1))
assignment_said test f text (x, (n, r1, n_is, (q, r2, q_is, inr (inr (inr (inr (inr (inl (w, r3, w_is, (a, is, h), p3)))))), p2), p1)) =
    in_place test f (form.Address x a) text is (tt, (n, r1, n_is, (q, r2, q_is, (w, r3, w_is, h, p3), p2), p1))
assignment_said test f text (x, (n, r1, n_is, (q, r2, q_is, inr (inr (inr (inr (inr (inr (inl (y, h))))))), p2), p1)) =
    after_said test x (operand.Var y) f text (n, r1, n_is, (q, r2, q_is, h, p2), p1)
assignment_said test f text (x, (n, r1, n_is, (q, r2, q_is, inr (inr (inr (inr (inr (inr (inr (k, (v, r3, v_is, inl (m, r4, m_is, (e, is, h), p4), p3)))))))), p2), p1)) =
    in_place test f (form.Product x k e) text is (tt, (n, r1, n_is, (q, r2, q_is, (v, r3, v_is, (m, r4, m_is, h, p4), p3), p2), p1))
assignment_said test f text (x, (n, r1, n_is, (q, r2, q_is, inr (inr (inr (inr (inr (inr (inr (k, (v, r3, v_is, inr h, p3)))))))), p2), p1)) =
    after_said test x (operand.Number k) f text (n, r1, n_is, (q, r2, q_is, (v, r3, v_is, h, p3), p2), p1)

-- where null may not stand
plainly : (test : List ℕ → Bool) (e : Operand) (r : Rel) (f : AnyOperand) (to : ℕ) (text : Line) → (Word key.If ⋅ Value e ⋅ Relation r ⋅ Compared false f ⋅ Jump to) text → Said test (form.If e r f to) text
plainly test e r f to text (w, r1, w_is, (v, r2, v_is, (q, r3, q_is, (c, r4, (g, is, c_is), j, p4), p3), p2), p1) =
    let whole : Said test (form.If e r (any.Operand g) to) text = (tt, (w, r1, w_is, (v, r2, v_is, (q, r3, q_is, (c, r4, c_is, j, p4), p3), p2), p1)) in
    subst (λ (u : AnyOperand). Said test (form.If e r u to) text) (sym is) whole

comparison_said : (test : List ℕ → Bool) (e : Operand) (r : Rel) (f : AnyOperand) (to : ℕ) (text : Line) → (Word key.If ⋅ Value e ⋅ Relation r ⋅ Compared (may_be_null e r) f ⋅ Jump to) text → Said test (form.If e r f to) text
comparison_said test (operand.Var x) rel.Eq (any.Operand f) to text h = (tt, h)
comparison_said test (operand.Var x) rel.Eq any.Null to text h = (tt, h)
comparison_said test (operand.Var x) rel.Ne (any.Operand f) to text h = (tt, h)
comparison_said test (operand.Var x) rel.Ne any.Null to text h = (tt, h)
comparison_said test (operand.Var x) rel.Lt f to text h = plainly test (operand.Var x) rel.Lt f to text h
comparison_said test (operand.Var x) rel.Le f to text h = plainly test (operand.Var x) rel.Le f to text h
comparison_said test (operand.Var x) rel.Gt f to text h = plainly test (operand.Var x) rel.Gt f to text h
comparison_said test (operand.Var x) rel.Ge f to text h = plainly test (operand.Var x) rel.Ge f to text h
comparison_said test (operand.Number k) r f to text h = plainly test (operand.Number k) r f to text h

branch_said : (test : List ℕ → Bool) (f : Form) (w r1 text : Line) → Word key.If w → BranchText f r1 → text ≡ w ++ r1 → Said test f text
branch_said test f w r1 text w_is (inl (l, r2, l_is, (v, is, h), p2)) p1 = in_place test f (form.IfByte v.0 v.1.0 v.1.1) text is (tt, (w, r1, w_is, (l, r2, l_is, h, p2), p1))
branch_said test f w r1 text w_is (inr (v, is, h)) p1 = in_place test f (form.If v.0 v.1.0 v.1.1.0 v.1.1.1) text is (comparison_said test v.0 v.1.0 v.1.1.0 v.1.1.1 text (w, r1, w_is, h, p1))

return_said : (test : List ℕ → Bool) (f : Form) (w r1 text : Line) → Word key.Return w → ReturnText f r1 → text ≡ w ++ r1 → Said test f text
return_said test f w r1 text w_is (inl (m, r2, m_is, (is, n), p2)) p1 = in_place test f (form.Return None) text is (tt, (w, r1, w_is, p2 ∙ ap (λ (u : Line). u ++ r2) m_is ∙ ap (λ (u : Line). mark sign.Semicolon ∷ u) n, p1))
return_said test f w r1 text w_is (inr (e, is, h)) p1 = in_place test f (form.Return (Some e)) text is (tt, (w, r1, w_is, h, p1))

phrase_said : (test : List ℕ → Bool) (f : Form) (text : Line) → PhraseText test f text → Said test f text
phrase_said test f text (inl (w, r1, w_is, (v, is, h), p1)) = in_place test f (form.Store v.0 v.1) text is (tt, (w, r1, w_is, h, p1))
phrase_said test f text (inr (inl (w, r1, w_is, (v, is, h), p1))) = in_place test f (form.Put v.0 v.1) text is (tt, (w, r1, w_is, h, p1))
phrase_said test f text (inr (inr (inl (w, r1, w_is, (to, is, h), p1)))) = in_place test f (form.Goto to) text is (tt, (w, r1, w_is, h, p1))
phrase_said test f text (inr (inr (inr (inl (w, r1, w_is, h, p1))))) = branch_said test f w r1 text w_is h p1
phrase_said test f text (inr (inr (inr (inr (inl (w, r1, w_is, (v, is, h), p1)))))) = in_place test f (form.Call None v.0 v.1) text is (tt, call_said None v.0 v.1 text (w, r1, w_is, h, p1))
phrase_said test f text (inr (inr (inr (inr (inr (inl (w, r1, w_is, h, p1))))))) = return_said test f w r1 text w_is h p1
phrase_said test f text (inr (inr (inr (inr (inr (inr h)))))) = assignment_said test f text h

-- ---- a phrase of the grammar is read

from_right : (test : List ℕ → Bool) (x : List ℕ) (f : Form) (text : Line) → LeftOf x (RightText test x f) text → PhraseText test f text
from_right test x f text h = inr (inr (inr (inr (inr (inr (x, h))))))

from_after : (test : List ℕ → Bool) (x : List ℕ) (e : Operand) (f : Form) (text : Line) → LeftOf x (Value e ⋅ AfterText test x e f) text → PhraseText test f text
from_after test x (operand.Var y) f text (n, r1, n_is, (q, r2, q_is, h, p2), p1) = from_right test x f text (n, r1, n_is, (q, r2, q_is, inr (inr (inr (inr (inr (inr (inl (y, h))))))), p2), p1)
from_after test x (operand.Number k) f text (n, r1, n_is, (q, r2, q_is, (v, r3, v_is, h, p3), p2), p1) = from_right test x f text (n, r1, n_is, (q, r2, q_is, inr (inr (inr (inr (inr (inr (inr (k, (v, r3, v_is, inr h, p3)))))))), p2), p1)

from_alone : (test : List ℕ → Bool) (x : List ℕ) (e : Operand) (f : Form) (text : Line) → f ≡ assigned test x e → LeftOf x (Value e ⋅ end) text → PhraseText test f text
from_alone test x e f text is (n, r1, n_is, (q, r2, q_is, (v, r3, v_is, h, p3), p2), p1) = from_after test x e f text (n, r1, n_is, (q, r2, q_is, (v, r3, v_is, inr (inr (inr (inr (tt, is, h)))), p3), p2), p1)

from_plus : (test : List ℕ → Bool) (x : List ℕ) (e g : Operand) (f : Form) (text : Line) → f ≡ added test x e g → LeftOf x (Value e ⋅ Mark sign.Plus ⋅ EndedValue g) text → PhraseText test f text
from_plus test x e g f text is (n, r1, n_is, (q, r2, q_is, (v, r3, v_is, (m, r4, m_is, h, p4), p3), p2), p1) = from_after test x e f text (n, r1, n_is, (q, r2, q_is, (v, r3, v_is, inl (m, r4, m_is, (g, is, h), p4), p3), p2), p1)

-- behind `if`
from_branch : (test : List ℕ → Bool) (f : Form) (text : Line) → (Word key.If ⋅ BranchText f) text → PhraseText test f text
from_branch test f text h = inr (inr (inr (inl h)))

from_comparison : (test : List ℕ → Bool) (e : Operand) (r : Rel) (f : AnyOperand) (to : ℕ) (text : Line) → (Word key.If ⋅ Value e ⋅ Relation r ⋅ Compared (may_be_null e r) f ⋅ Jump to) text → PhraseText test (form.If e r f to) text
from_comparison test e r f to text (w, r1, w_is, h, p1) = from_branch test (form.If e r f to) text (w, r1, w_is, inr ((e, (r, (f, to))), refl, h), p1)

plain_back : (e : Operand) (r : Rel) (f : Operand) (text : Line) → Value f text → Compared (may_be_null e r) (any.Operand f) text
plain_back e r f text h = by_test (may_be_null e r)
  where
    by_test : (b : Bool) → Compared b (any.Operand f) text
    by_test true = h
    by_test false = (f, refl, h)

phrase_back : (test : List ℕ → Bool) (f : Form) (text : Line) → Declared test f → Phrase f text → PhraseText test f text
phrase_back test (form.Assign x (operand.Var y)) text d h = from_alone test x (operand.Var y) (form.Assign x (operand.Var y)) text (rw d refl) h
phrase_back test (form.Assign x (operand.Number k)) text d h = from_alone test x (operand.Number k) (form.Assign x (operand.Number k)) text refl h
phrase_back test (form.Sum x (operand.Var y) g) text d h = from_plus test x (operand.Var y) g (form.Sum x (operand.Var y) g) text (rw d refl) h
phrase_back test (form.Sum x (operand.Number k) g) text d h = from_plus test x (operand.Number k) g (form.Sum x (operand.Number k) g) text refl h
phrase_back test (form.Minus x e g) text d (n, r1, n_is, (q, r2, q_is, (v, r3, v_is, (m, r4, m_is, h, p4), p3), p2), p1) = from_after test x e (form.Minus x e g) text (n, r1, n_is, (q, r2, q_is, (v, r3, v_is, inr (inl (m, r4, m_is, (g, refl, h), p4)), p3), p2), p1)
phrase_back test (form.Product x k e) text d (n, r1, n_is, (q, r2, q_is, (v, r3, v_is, (m, r4, m_is, h, p4), p3), p2), p1) = from_right test x (form.Product x k e) text (n, r1, n_is, (q, r2, q_is, inr (inr (inr (inr (inr (inr (inr (k, (v, r3, v_is, inl (m, r4, m_is, (e, refl, h), p4), p3)))))))), p2), p1)
phrase_back test (form.Quotient x e k) text d (n, r1, n_is, (q, r2, q_is, (v, r3, v_is, (m, r4, m_is, h, p4), p3), p2), p1) = from_after test x e (form.Quotient x e k) text (n, r1, n_is, (q, r2, q_is, (v, r3, v_is, inr (inr (inl (m, r4, m_is, (k, refl, h), p4))), p3), p2), p1)
phrase_back test (form.Remainder x e k) text d (n, r1, n_is, (q, r2, q_is, (v, r3, v_is, (m, r4, m_is, h, p4), p3), p2), p1) = from_after test x e (form.Remainder x e k) text (n, r1, n_is, (q, r2, q_is, (v, r3, v_is, inr (inr (inr (inl (m, r4, m_is, (k, refl, h), p4)))), p3), p2), p1)
phrase_back test (form.CopyPtr x (Some y)) text d h = from_alone test x (operand.Var y) (form.CopyPtr x (Some y)) text (rw d refl) h
phrase_back test (form.CopyPtr x None) text d (n, r1, n_is, (q, r2, q_is, (w, r3, w_is, h, p3), p2), p1) = from_right test x (form.CopyPtr x None) text (n, r1, n_is, (q, r2, q_is, inr (inr (inr (inr (inl (w, r3, w_is, (tt, refl, h), p3))))), p2), p1)
phrase_back test (form.Address x a) text d (n, r1, n_is, (q, r2, q_is, (w, r3, w_is, h, p3), p2), p1) = from_right test x (form.Address x a) text (n, r1, n_is, (q, r2, q_is, inr (inr (inr (inr (inr (inl (w, r3, w_is, (a, refl, h), p3)))))), p2), p1)
phrase_back test (form.Shift x y g) text d h = from_plus test x (operand.Var y) g (form.Shift x y g) text (rw d refl) h
phrase_back test (form.Load x p) text d (n, r1, n_is, (q, r2, q_is, (w, r3, w_is, h, p3), p2), p1) = from_right test x (form.Load x p) text (n, r1, n_is, (q, r2, q_is, inl (w, r3, w_is, (p, refl, h), p3), p2), p1)
phrase_back test (form.Store p e) text d (w, r1, w_is, h, p1) = inl (w, r1, w_is, ((p, e), refl, h), p1)
phrase_back test (form.Get x y) text d (n, r1, n_is, (q, r2, q_is, (w, r3, w_is, h, p3), p2), p1) = from_right test x (form.Get x y) text (n, r1, n_is, (q, r2, q_is, inr (inl (w, r3, w_is, (y, refl, h), p3)), p2), p1)
phrase_back test (form.Put x e) text d (w, r1, w_is, h, p1) = inr (inl (w, r1, w_is, ((x, e), refl, h), p1))
phrase_back test (form.Diff x p y) text d (n, r1, n_is, (q, r2, q_is, (w, r3, w_is, h, p3), p2), p1) = from_right test x (form.Diff x p y) text (n, r1, n_is, (q, r2, q_is, inr (inr (inl (w, r3, w_is, ((p, y), refl, h), p3))), p2), p1)
phrase_back test (form.Goto to) text d (w, r1, w_is, (c, r2, h, e, p2), p1) = inr (inr (inl (w, r1, w_is, (to, refl, (c, r2, h, e, p2)), p1)))
phrase_back test (form.If e r (any.Operand f) to) text d (w, r1, w_is, (v, r2, v_is, (q, r3, q_is, (c, r4, c_is, j, p4), p3), p2), p1) = from_comparison test e r (any.Operand f) to text (w, r1, w_is, (v, r2, v_is, (q, r3, q_is, (c, r4, plain_back e r f c c_is, j, p4), p3), p2), p1)
phrase_back test (form.If (operand.Var p) rel.Eq any.Null to) text d h = from_comparison test (operand.Var p) rel.Eq any.Null to text h
phrase_back test (form.If (operand.Var p) rel.Ne any.Null to) text d h = from_comparison test (operand.Var p) rel.Ne any.Null to text h
phrase_back test (form.If (operand.Var p) rel.Lt any.Null to) text d h = absurd h
phrase_back test (form.If (operand.Var p) rel.Le any.Null to) text d h = absurd h
phrase_back test (form.If (operand.Var p) rel.Gt any.Null to) text d h = absurd h
phrase_back test (form.If (operand.Var p) rel.Ge any.Null to) text d h = absurd h
phrase_back test (form.If (operand.Number k) r any.Null to) text d h = absurd h
phrase_back test (form.IfByte p equal to) text d (w, r1, w_is, (l, r2, l_is, h, p2), p1) = from_branch test (form.IfByte p equal to) text (w, r1, w_is, inl (l, r2, l_is, ((p, (equal, to)), refl, h), p2), p1)
phrase_back test (form.Call None g args) text d h = let c = call_back g args text h in inr (inr (inr (inr (inl (c.0, c.1, c.2, ((g, args), refl, c.3), c.4)))))
phrase_back test (form.Call (Some x) g args) text d (n, r1, n_is, (q, r2, q_is, h, p2), p1) = let c = call_back g args r2 h in from_right test x (form.Call (Some x) g args) text (n, r1, n_is, (q, r2, q_is, inr (inr (inr (inl (c.0, c.1, c.2, ((g, args), refl, c.3), c.4)))), p2), p1)
phrase_back test (form.Return None) text d (w, r1, w_is, h, p1) = inr (inr (inr (inr (inr (inl (w, r1, w_is, inl (mark sign.Semicolon ∷ [], [], refl, (refl, refl), h), p1))))))
phrase_back test (form.Return (Some e)) text d (w, r1, w_is, h, p1) = inr (inr (inr (inr (inr (inl (w, r1, w_is, inr (e, refl, h), p1))))))

-- ---- statements

pub reads_said : (test : List ℕ → Bool) → Reads (phrase test) (Said test)
reads_said test = reads_as (reads_phrase test) (phrase_said test) (λ f text h. phrase_back test f text h.0 h.1)

abbrev Lined : (List ℕ → Bool) → ℕ × Form → Line → Type 0
Lined test v = Count v.0 ⋅ Mark sign.Colon ⋅ Said test v.1

abbrev pub Tested : (List ℕ → Bool) → Stmt → Line → Type 0
Tested test s text = Declared test s.form × (Count s.line ⋅ Mark sign.Colon ⋅ Phrase s.form) text

statement_said : (test : List ℕ → Bool) (s : Stmt) (text : Line) → Made lined (Lined test) s text → Tested test s text
statement_said test s text (v, is, (c, r1, c_is, (q, r2, q_is, (d, h), p2), p1)) =
    let whole : Tested test (lined v) text = (d, (c, r1, c_is, (q, r2, q_is, h, p2), p1)) in
    subst (λ (u : Stmt). Tested test u text) (sym is) whole

statement_back : (test : List ℕ → Bool) (s : Stmt) (text : Line) → Tested test s text → Made lined (Lined test) s text
statement_back test s text (d, (c, r1, c_is, (q, r2, q_is, h, p2), p1)) = ((s.line, s.form), refl, (c, r1, c_is, (q, r2, q_is, (d, h), p2), p1))

pub reads_tested : (test : List ℕ → Bool) → Reads (statement test) (Tested test)
unfolding statement after_line
reads_tested test = reads_as (reads_made lined (reads_both reads_count (λ _. reads_then (reads_the_mark sign.Colon) (reads_said test)))) (statement_said test) (statement_back test)

-- ---- where variables are declared

as_declared : (vs : List Formal) (f : Form) → Declared (is_pointer vs) f → AsDeclared vs f
as_declared vs (form.Assign x (operand.Var y)) h = h
as_declared vs (form.Assign x (operand.Number k)) h = tt
as_declared vs (form.Sum x (operand.Var y) e) h = h
as_declared vs (form.Sum x (operand.Number k) e) h = tt
as_declared vs (form.CopyPtr p (Some q)) h = h
as_declared vs (form.CopyPtr p None) h = tt
as_declared vs (form.Shift p q e) h = h
as_declared vs _ h = tt

declared_as : (vs : List Formal) (f : Form) → AsDeclared vs f → Declared (is_pointer vs) f
declared_as vs (form.Assign x (operand.Var y)) h = h
declared_as vs (form.Assign x (operand.Number k)) h = tt
declared_as vs (form.Sum x (operand.Var y) e) h = h
declared_as vs (form.Sum x (operand.Number k) e) h = tt
declared_as vs (form.CopyPtr p (Some q)) h = h
declared_as vs (form.CopyPtr p None) h = tt
declared_as vs (form.Shift p q e) h = h
declared_as vs _ h = tt

pub reads_statement : (vs : List Formal) → Reads (statement (is_pointer vs)) (Statement vs)
reads_statement vs = reads_as (reads_tested (is_pointer vs)) (λ s text h. (as_declared vs s.form h.0, h.1)) (λ s text h. (declared_as vs s.form h.0, h.1))
