-- Reading tokens from left to right, up to the first that does not fit.
use Rattle.std.specs.Prelude.{ℕ, zero, suc, Bool, if◌then◌else◌, List, [], ◌∷◌, length, Option, Some, None, Result, Ok, Err}

-- A value and the tokens after it, or the tokens from the fault on.
abbrev pub Outcome : Type 0 → Type 0 → Type 0
Outcome T A = Result (A × List T) (List T)

abbrev pub Reading : Type 0 → Type 0 → Type 0
Reading T A = List T → Outcome T A

abbrev pub and_then : {T A B : Type 0} → Outcome T A → (A → Reading T B) → Outcome T B
and_then (Ok p) f = f p.0 p.1
and_then (Err at) f = Err at

-- a value, and no token
abbrev pub give : {T A : Type 0} → A → Reading T A
give a = λ ts. Ok (a, ts)

abbrev pub taken : {T A : Type 0} → Option A → List T → List T → Outcome T A
taken (Some a) all rest = Ok (a, rest)
taken None all rest = Err all

-- one token, by what it is
abbrev pub token : {T A : Type 0} → (T → Option A) → Reading T A
token f [] = Err []
token f (t ∷ ts) = taken (f t) (t ∷ ts) ts

-- a token that passes the test
abbrev pub passed : Bool → Option (Unit {0})
passed b = if b then Some tt else None

abbrev pub exactly : {T : Type 0} → (T → Bool) → Reading T (Unit {0})
exactly test = token (λ t. passed (test t))

-- what is made of the value
abbrev pub made : {T A B : Type 0} → (A → B) → Reading T A → Reading T B
made c r = λ ts. and_then (r ts) (λ a rest. Ok (c a, rest))

-- the one, and then the other, which may depend on it
infixr 10 ◌&◌
abbrev pub ◌&◌ : {T A B : Type 0} → Reading T A → (A → Reading T B) → Reading T (A × B)
r & s = λ ts. and_then (r ts) (λ a. made (λ b. (a, b)) (s a))

-- the one, and then the other, whose value counts
infixr 10 ◌▷◌
abbrev pub ◌▷◌ : {T B : Type 0} → Reading T (Unit {0}) → Reading T B → Reading T B
r ▷ s = λ ts. and_then (r ts) (λ _. s)

-- the one, whose value counts, and then the other
infixl 11 ◌◁◌
abbrev pub ◌◁◌ : {T A : Type 0} → Reading T A → Reading T (Unit {0}) → Reading T A
r ◁ s = λ ts. and_then (r ts) (λ a. made (λ _. a) s)

-- By the first token where it is one of these, and another reading where it is not.
abbrev pub chosen : {T A B : Type 0} → Option B → (B → Reading T A) → Reading T A → List T → List T → Outcome T A
chosen (Some b) then_by otherwise all rest = then_by b rest
chosen None then_by otherwise all rest = otherwise all

abbrev pub choose : {T A B : Type 0} → (T → Option B) → (B → Reading T A) → Reading T A → Reading T A
choose f then_by otherwise [] = otherwise []
choose f then_by otherwise (t ∷ ts) = chosen (f t) then_by otherwise (t ∷ ts) ts

abbrev pub on : {T A : Type 0} → (T → Bool) → Reading T A → Reading T A → Reading T A
on test here elsewhere = choose (λ t. passed (test t)) (λ _. here) elsewhere

-- Items one behind another, up to what ends them.
abbrev pub more : {T A E : Type 0} → Reading T (List A × E) → Result A E → Reading T (List A × E)
more others (Err e) = give ([], e)
more others (Ok a) = made (λ v. (a ∷ v.0, v.1)) others

abbrev pub many_in : {T A E : Type 0} → ℕ → Reading T (Result A E) → Reading T (List A × E)
many_in zero item = λ ts. Err ts
many_in (suc n) item = λ ts. and_then (item ts) (more (many_in n item))

-- Each item takes a token, so that there are no more items than tokens.
unfoldable pub many : {T A E : Type 0} → Reading T (Result A E) → Reading T (List A × E)
many item ts = many_in (suc (length ts)) item ts
