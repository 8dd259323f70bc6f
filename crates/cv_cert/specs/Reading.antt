-- Reading lines from left to right, up to the first that does not fit.
use Rattle.std.specs.Prelude.{◌≡◌, ℕ, zero, suc, ◌==◌, List, [], ◌∷◌, length, Option, Some, None, Result, Ok, Err, ◌⊎◌}
use Rattle.std.proofs.Common.{inl, inr}
use Rattle.std.specs.List.{slice_split}
use Rattle.cv_cert.specs.declared.fault.ReadError.{ReadError}
use Rattle.cv_cert.specs.declared.fault.ReadError.TheVariants as errors
use Rattle.cv_cert.specs.Text.{Line}

-- ---- the lines of a text

-- the tokens of a line: its parts between spaces
abbrev pub tokens_of : List ℕ → Line
tokens_of line = slice_split (λ b. b == 32) line

-- the parts of a text between newlines as lines; the last one is no line, and where it is not empty it stands as a line without tokens
abbrev pub whole_lines : List (List ℕ) → List Line
whole_lines [] = []
whole_lines ([] ∷ []) = []
whole_lines ((b ∷ bs) ∷ []) = [] ∷ []
whole_lines (part ∷ (next ∷ parts)) = tokens_of part ∷ whole_lines (next ∷ parts)

unfoldable pub lines_in : List ℕ → List Line
lines_in text = whole_lines (slice_split (λ b. b == 10) text)

-- a text without a newline as lines
abbrev pub unfinished : List ℕ → List Line
unfinished [] = []
unfinished (b ∷ bs) = [] ∷ []

-- ---- reading

-- a value and the lines after it, or the lines from the wrong one on
abbrev pub Outcome : Type 0 → Type 0
Outcome A = Result (A × List Line) (List Line)

abbrev pub Reading : Type 0 → Type 0
Reading A = List Line → Outcome A

abbrev pub and_then : {A B : Type 0} → Outcome A → (A → Reading B) → Outcome B
and_then (Ok p) f = f p.0 p.1
and_then (Err at) f = Err at

infixl 10 ◌>>=◌
abbrev pub ◌>>=◌ : {A B : Type 0} → Reading A → (A → Reading B) → Reading B
r >>= f = λ lines. and_then (r lines) f

abbrev pub give : {A : Type 0} → A → Reading A
give a = λ lines. Ok (a, lines)

abbrev pub taken : {A : Type 0} → Option A → List Line → List Line → Outcome A
taken (Some a) all rest = Ok (a, rest)
taken None all rest = Err all

-- one line, by what it is
abbrev pub one_line : {A : Type 0} → (Line → Option A) → Reading A
one_line f [] = Err []
one_line f (line ∷ lines) = taken (f line) (line ∷ lines) lines

-- n items; an item is told how many come after it, and a state that the items before have led to
abbrev pub each : {A S : Type 0} → (ℕ → S → Reading A) → (S → A → S) → ℕ → S → Reading (List A)
each item next zero s = give []
each item next (suc n) s = item n s >>= λ a. each item next n (next s a) >>= λ rest. give (a ∷ rest)

-- items up to one that ends them
abbrev pub more : {A E : Type 0} → (A → Reading (List A × E)) → A ⊎ E → Reading (List A × E)
more others (inr e) = give ([], e)
more others (inl a) = others a >>= λ rest. give (a ∷ rest.0, rest.1)

abbrev pub many_in : {A E S : Type 0} → (S → Reading (A ⊎ E)) → (S → A → S) → ℕ → S → Reading (List A × E)
many_in item next zero s = λ lines. Err lines
many_in item next (suc n) s = item s >>= more (λ a. many_in item next n (next s a))

-- each item takes a line, so that there are no more items than lines
unfoldable pub many : {A E S : Type 0} → (S → Reading (A ⊎ E)) → (S → A → S) → S → Reading (List A × E)
many item next s lines = many_in item next (suc (length lines)) s lines

-- all of the lines
abbrev pub ended_after : {A : Type 0} → A → List Line → Result A (List Line)
ended_after a [] = Ok a
ended_after a (line ∷ lines) = Err (line ∷ lines)

abbrev pub all_by : {A : Type 0} → Outcome A → Result A (List Line)
all_by (Ok p) = ended_after p.0 p.1
all_by (Err at) = Err at

-- ---- what a function returned

-- how many lines are left from the wrong one on
abbrev pub left_of : {A : Type 0} → Outcome A → Option ℕ
left_of (Ok p) = None
left_of (Err at) = Some (length at)

abbrev pub left_by : {A : Type 0} → Result A (List Line) → Option ℕ
left_by (Ok a) = None
left_by (Err at) = Some (length at)

abbrev pub Fails : {A : Type 0} → ReadError → Outcome A → Type 0
Fails errors.Memory read = Unit {0}
Fails (errors.Fault left) read = left_of read ≡ Some left

-- what was returned, seen by view, is what reading gives, unless memory ran out
abbrev pub Gives : {X A : Type 0} → (X → A × List Line) → Result X ReadError → Outcome A → Type 0
Gives view (Ok x) read = read ≡ Ok (view x)
Gives view (Err e) read = Fails e read

abbrev pub FailsAll : {A : Type 0} → ReadError → Result A (List Line) → Type 0
FailsAll errors.Memory read = Unit {0}
FailsAll (errors.Fault left) read = left_by read ≡ Some left

abbrev pub GivesAll : {X A : Type 0} → (X → A) → Result X ReadError → Result A (List Line) → Type 0
GivesAll view (Ok x) read = read ≡ Ok (view x)
GivesAll view (Err e) read = FailsAll e read
