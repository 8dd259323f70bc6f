-- A word in front of a bracket, and what is made of the word.
use Rattle.std.proofs.Common.{◌≡◌, ℕ, Bool, true, false, List, [], ◌∷◌, Option, Some, None, refl, ap}
use Rattle.cv_reading.specs.Deep.{call_by}
use Rattle.cv_text.specs.declared.token.Sign.TheVariants as sign
use Rattle.cv_text.specs.Tokens.{name, word, digits, mark, other, Line}
use Rattle.cv_text.specs.Reader.{is_mark}
use Rattle.cv_text.specs.ContractReader.{call_of}

none_by : {B : Type 0} (o : Option B) (x : List ℕ) (b : Bool) (rest : Line) → call_by (Some x) b rest ≡ None → call_by o b rest ≡ None
none_by (Some c) x true rest h = absurd cc
none_by (Some c) x false rest h = refl
none_by None x b rest h = refl

pub call_none : {B : Type 0} (f : List ℕ → Option B) (ts : Line) → call_of (λ x. Some x) ts ≡ None → call_of f ts ≡ None
call_none f [] h = refl
call_none f (t ∷ []) h = refl
call_none f (name x ∷ u ∷ rest) h = none_by (f x) x (is_mark sign.Open u) rest h
call_none f (word k ∷ u ∷ rest) h = refl
call_none f (digits ds ∷ u ∷ rest) h = refl
call_none f (mark s ∷ u ∷ rest) h = refl
call_none f (other ∷ u ∷ rest) h = refl

abbrev pair : List ℕ → Line → List ℕ × Line
pair x rest = (x, rest)

some_by : {B : Type 0} (o : Option B) (x y : List ℕ) (b : Bool) (rest end : Line) → call_by (Some x) b rest ≡ Some (y, end) → (x ≡ y) × (b ≡ true) × (rest ≡ end)
some_by o x y true rest end h = let e : pair x rest ≡ pair y end = cc in (ap (λ (v : List ℕ × Line). v.0) e, refl, ap (λ (v : List ℕ × Line). v.1) e)
some_by o x y false rest end h = absurd cc

pub call_some : {B : Type 0} (f : List ℕ → Option B) (ts : Line) (x : List ℕ) (rest : Line) (b : B) → call_of (λ x. Some x) ts ≡ Some (x, rest) → f x ≡ Some b → call_of f ts ≡ Some (b, rest)
call_some f [] x rest b h k = absurd cc
call_some f (t ∷ []) x rest b h k = absurd cc
call_some f (name y ∷ u ∷ after) x rest b h k = let e = some_by (f y) y x (is_mark sign.Open u) after rest h in rw (e.0, e.1, e.2, k) refl
call_some f (word l ∷ u ∷ after) x rest b h k = absurd cc
call_some f (digits ds ∷ u ∷ after) x rest b h k = absurd cc
call_some f (mark s ∷ u ∷ after) x rest b h k = absurd cc
call_some f (other ∷ u ∷ after) x rest b h k = absurd cc

pub call_other : {B : Type 0} (f : List ℕ → Option B) (ts : Line) (x : List ℕ) (rest : Line) → call_of (λ x. Some x) ts ≡ Some (x, rest) → f x ≡ None → call_of f ts ≡ None
call_other f [] x rest h k = absurd cc
call_other f (t ∷ []) x rest h k = absurd cc
call_other f (name y ∷ u ∷ after) x rest h k = let e = some_by (f y) y x (is_mark sign.Open u) after rest h in rw (e.0, k) refl
call_other f (word l ∷ u ∷ after) x rest h k = absurd cc
call_other f (digits ds ∷ u ∷ after) x rest h k = absurd cc
call_other f (mark s ∷ u ∷ after) x rest h k = absurd cc
call_other f (other ∷ u ∷ after) x rest h k = absurd cc

pub ruleset calls = (call_none, call_some, call_other)
