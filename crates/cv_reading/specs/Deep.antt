-- Readings that give up where a level too many opens.
use Rattle.std.specs.Prelude.{ℕ, zero, suc, Bool, true, false, List, [], ◌∷◌, ◌++◌, length, Option, Some, None, Ok, Err}
use Rattle.cv_reading.specs.Reading.{Outcome, Reading, and_then, made, choose, give}

-- What was read, or None where a level too many opened.
abbrev pub Deep : Type 0 → Type 0 → Type 0
Deep T A = Reading T (Option A)

abbrev pub go_on : {T A B : Type 0} → Option A → (A → Deep T B) → Deep T B
go_on (Some a) f = f a
go_on None f = λ ts. Ok (None, ts)

-- the one, and then the other, which may depend on it
abbrev pub then_deep : {T A B : Type 0} → Outcome T (Option A) → (A → Deep T B) → Outcome T (Option B)
then_deep o f = and_then o (λ x. go_on x f)

-- a reading without levels
abbrev pub plain : {T A : Type 0} → Reading T A → Deep T A
plain r = made Some r

-- what is made of the value
abbrev pub changed : {T A B : Type 0} → (A → B) → Deep T A → Deep T B
changed c r = λ ts. then_deep (r ts) (λ a. give (Some (c a)))

infixr 10 ◌⊗◌
abbrev pub ◌⊗◌ : {T A B : Type 0} → Deep T A → (A → Deep T B) → Deep T (A × B)
r ⊗ s = λ ts. then_deep (r ts) (λ a. changed (λ b. (a, b)) (s a))

-- the one, and then the other, whose value counts
infixr 10 ◌⊳◌
abbrev pub ◌⊳◌ : {T B : Type 0} → Reading T (Unit {0}) → Deep T B → Deep T B
r ⊳ s = changed (λ v. v.1) (plain r ⊗ (λ _. s))

-- the one, whose value counts, and then the other
infixl 11 ◌⊲◌
abbrev pub ◌⊲◌ : {T A : Type 0} → Deep T A → Reading T (Unit {0}) → Deep T A
r ⊲ s = changed (λ v. v.0) (r ⊗ (λ _. plain s))

-- A first token of which something is made, where the second one opens a bracket, and what stands behind the two.
abbrev pub call_by : {T B : Type 0} → Option B → Bool → List T → Option (B × List T)
call_by (Some b) true rest = Some (b, rest)
call_by (Some b) false rest = None
call_by None opens rest = None

abbrev pub call_at : {T B : Type 0} → (T → Option B) → (T → Bool) → List T → Option (B × List T)
call_at f opens [] = None
call_at f opens (t ∷ []) = None
call_at f opens (t ∷ u ∷ rest) = call_by (f t) (opens u) rest

-- By the call with which the tokens begin, and another reading where they begin with none.
abbrev pub called_by : {T A B : Type 0} → Option (B × List T) → (B → Deep T A) → Outcome T (Option A) → Outcome T (Option A)
called_by (Some c) g otherwise = g c.0 c.1
called_by None g otherwise = otherwise

abbrev pub called : {T A B : Type 0} → (T → Option B) → (T → Bool) → (B → Deep T A) → Deep T A → Deep T A
called f opens g otherwise = λ ts. called_by (call_at f opens ts) g (otherwise ts)

-- Items, each with a first token that is one of these.
abbrev pub onto : {T A : Type 0} → A → Outcome T (Option (List A)) → Outcome T (Option (List A))
onto a o = then_deep o (λ xs. give (Some (a ∷ xs)))

abbrev pub repeat_in : {T A B : Type 0} → ℕ → (T → Option B) → (B → Deep T A) → Deep T (List A)
repeat_in zero f item = λ ts. Err ts
repeat_in (suc n) f item = choose f (λ b ts. then_deep (item b ts) (λ a rest. onto a (repeat_in n f item rest))) (give (Some []))

-- Each item takes a token, so that there are no more items than tokens.
unfoldable pub repeat : {T A B : Type 0} → (T → Option B) → (B → Deep T A) → Deep T (List A)
repeat f item ts = repeat_in (suc (length ts)) f item ts

-- ---- as a loop goes over the items

-- what the first token is made into, and the tokens behind it
abbrev pub next_made : {T B : Type 0} → Option B → List T → Option (B × List T)
next_made (Some b) ts = Some (b, ts)
next_made None ts = None

abbrev pub next_by : {T B : Type 0} → (T → Option B) → List T → Option (B × List T)
next_by f [] = None
next_by f (t ∷ ts) = next_made (f t) ts

-- those behind the ones before
abbrev pub more_onto : {T A : Type 0} → List A → Deep T (List A) → Deep T (List A)
more_onto before r = changed (λ more. before ++ more) r
