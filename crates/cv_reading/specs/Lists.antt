-- Reading what depends on what was read before, and lists.
use Rattle.std.specs.Prelude.{ℕ, zero, suc, Bool, if◌then◌else◌, List, [], ◌∷◌, ◌++◌, length, Option, Some, None, Result, Ok, Err}
use Rattle.cv_reading.specs.Reading.{Reading, and_then, give, made, on, many, ◌▷◌}

-- the one, and then the other, which depends on it and whose value counts
infixr 10 ◌⇒◌
abbrev pub ◌⇒◌ : {T A B : Type 0} → Reading T A → (A → Reading T B) → Reading T B
r ⇒ s = λ ts. and_then (r ts) s

-- an item of the code, or the end of its list
abbrev pub item_or_end : {A : Type 0} → Option A → Result A (Unit {0})
item_or_end (Some a) = Ok a
item_or_end None = Err tt

-- an item behind a separator, or what closes the list
abbrev pub next_item : {T A : Type 0} → (T → Bool) → Reading T (Unit {0}) → Reading T A → Reading T (Result A (Unit {0}))
next_item closes separator item = on closes (give (Err tt)) (separator ▷ made (λ a. Ok a) item)

-- the items behind these, up to what closes the list
abbrev pub items_onto : {T A : Type 0} → (T → Bool) → Reading T (Unit {0}) → Reading T A → List A → Reading T (List A)
items_onto closes separator item before = made (λ v. before ++ v.0) (many (next_item closes separator item))

-- items with a separator between each two, and what closes the list
abbrev pub closed_list : {T A : Type 0} → (T → Bool) → Reading T (Unit {0}) → Reading T A → Reading T (List A)
closed_list closes separator item = on closes (give []) (item ⇒ λ a. items_onto closes separator item (a ∷ []))

-- By the next token, which stays.
abbrev pub peeked : {T A : Type 0} → (T → Bool) → Reading T A → Reading T A → Reading T A
peeked test here elsewhere [] = elsewhere []
peeked test here elsewhere (t ∷ ts) = if test t then here (t ∷ ts) else elsewhere (t ∷ ts)

-- Items one behind another, as long as the next token is one with which they begin.
abbrev pub each_in : {T A : Type 0} → ℕ → (T → Bool) → Reading T A → Reading T (List A)
each_in zero test item = give []
each_in (suc n) test item = peeked test (item ⇒ λ a. made (λ rest. a ∷ rest) (each_in n test item)) (give [])

-- Each item takes a token, so that there are no more items than tokens.
unfoldable pub each : {T A : Type 0} → (T → Bool) → Reading T A → Reading T (List A)
each test item ts = each_in (length ts) test item ts

-- the items behind these
abbrev pub each_onto : {T A : Type 0} → (T → Bool) → Reading T A → List A → Reading T (List A)
each_onto test item before = made (λ rest. before ++ rest) (each test item)

-- one more item, or the end
abbrev pub each_next : {T A : Type 0} → (T → Bool) → Reading T A → Reading T (Result A (Unit {0}))
each_next test item = peeked test (made (λ a. Ok a) item) (give (Err tt))
