-- Reading contracts. `levels` is how many levels of pointers and terms may open.
use Rattle.std.specs.Prelude.{ℕ, zero, suc, ◌^◌, Bool, true, false, ◌&&◌, if◌then◌else◌, is_some, List, [], ◌∷◌, codes, Ok, Err, Option, Some, None}
use Rattle.std.specs.Option.{option_map}
use Rattle.std.specs.Str.{bytes_eq}
use Rattle.cv_core.specs.declared.program.Contract.{Contract}
use Rattle.cv_core.specs.declared.program.PtrTerm.{PtrTerm}
use Rattle.cv_core.specs.declared.program.PtrTerm.TheVariants as pointers
use Rattle.cv_core.specs.declared.program.Term.{Term, Row_of-Term, end_of-Term, more_of-Term}
use Rattle.cv_core.specs.declared.program.Term.TheVariants as terms
use Rattle.cv_core.specs.declared.program.LinPart.{LinPart}
use Rattle.cv_core.specs.declared.program.Atom.{Atom}
use Rattle.cv_core.specs.declared.program.Atom.TheVariants as atoms
use Rattle.cv_core.specs.declared.program.Item.{Item}
use Rattle.cv_core.specs.declared.program.Item.TheVariants as items
use Rattle.cv_core.specs.declared.program.Rel.{Rel}
use Rattle.cv_core.specs.declared.program.Rel.TheVariants as rel
use Rattle.cv_core.specs.Terms.{pre_pointer, pre_term}
use Rattle.cv_reading.specs.Reading.{Reading, token, passed, choose, made, give, on}
use Rattle.cv_reading.specs.Deep.{Deep, plain, changed, ◌⊗◌, ◌⊳◌, ◌⊲◌, call_at, called, repeat}
use Rattle.cv_text.specs.declared.token.Key.TheVariants as key
use Rattle.cv_text.specs.declared.token.Sign.{Sign}
use Rattle.cv_text.specs.declared.token.Sign.TheVariants as sign
use Rattle.cv_text.specs.declared.nesting.Head.{Head}
use Rattle.cv_text.specs.declared.nesting.Head.TheVariants as head
use Rattle.cv_text.specs.declared.nesting.Predicate.{Predicate}
use Rattle.cv_text.specs.declared.nesting.Predicate.TheVariants as predicate
use Rattle.cv_text.specs.Tokens.{Lexeme, name, word, mark, Line}
use Rattle.cv_text.specs.Levels.{most_levels}
use Rattle.cv_text.specs.Reader.{is_name_token, is_word, is_mark, the_name, the_word, the_mark, a_name, within}

-- ---- words in front of a bracket

-- what is made of a name
abbrev pub as_name : {B : Type 0} → (List ℕ → Option B) → Lexeme → Option B
as_name f (name x) = f x
as_name f t = None

abbrev pub pre_of : List ℕ → Option (Unit {0})
pre_of x = passed (bytes_eq x (codes "pre"))

abbrev pub head_of : List ℕ → Option Head
head_of x = if bytes_eq x (codes "pre") then Some head.Pre else if bytes_eq x (codes "alloc") then Some head.Alloc
    else if bytes_eq x (codes "offset") then Some head.Offset else if bytes_eq x (codes "strlen") then Some head.Strlen else None

abbrev pub predicate_of : List ℕ → Option Predicate
predicate_of x = if bytes_eq x (codes "nullt") then Some predicate.Nullt else if bytes_eq x (codes "clear") then Some predicate.Clear
    else if bytes_eq x (codes "fresh") then Some predicate.Fresh else if bytes_eq x (codes "apart") then Some predicate.Apart
    else if bytes_eq x (codes "base") then Some predicate.Base else None

abbrev pub body_of : List ℕ → Option (Unit {0})
body_of x = passed (bytes_eq x (codes "body"))

-- the word in front of a bracket with which the tokens begin, and the tokens behind the two
abbrev pub call_of : {B : Type 0} → (List ℕ → Option B) → Line → Option (B × Line)
call_of f ts = call_at (as_name f) (is_mark sign.Open) ts

abbrev pub close : Reading Lexeme (Unit {0})
close = the_mark sign.Close

abbrev pub applied : {A B : Type 0} → (List ℕ → Option B) → (B → Deep Lexeme A) → Deep Lexeme A → Deep Lexeme A
applied f g otherwise = called (as_name f) (is_mark sign.Open) g otherwise

-- ---- pointers

-- whether a pointer or a term begins with this token
abbrev pub opens_level : Lexeme → Option (Unit {0})
opens_level (name x) = Some tt
opens_level (word k) = passed (is_word key.Result (word k))
opens_level (mark s) = passed (is_mark sign.Star (mark s))
opens_level t = None

unfoldable pub too_deep : {A : Type 0} → Deep Lexeme A
too_deep = choose opens_level (λ _ ts. Ok (None, ts)) (λ ts. Err ts)

abbrev pub one_pointer : Lexeme → Option PtrTerm
one_pointer (name x) = Some (pointers.Name x)
one_pointer (word k) = option_map (λ _. pointers.Answer) (passed (is_word key.Result (word k)))
one_pointer t = None

unfoldable pub simple_pointer : Reading Lexeme PtrTerm
simple_pointer = on (is_mark sign.Star) (made pointers.Star a_name) (token one_pointer)

abbrev pub pointer_by : Deep Lexeme PtrTerm → Deep Lexeme PtrTerm
pointer_by inner = applied pre_of (λ _. changed pre_pointer (inner ⊲ close)) (plain simple_pointer)

unfoldable pub pointer : ℕ → Deep Lexeme PtrTerm
pointer zero = too_deep
pointer (suc levels) = pointer_by (pointer levels)

-- ---- terms

abbrev pub one_term : Lexeme → Option Term
one_term (name x) = Some (terms.Name x)
one_term (word k) = option_map (λ _. terms.Answer) (passed (is_word key.Result (word k)))
one_term t = None

unfoldable pub simple_term : Reading Lexeme Term
simple_term = on (is_mark sign.Star) (made terms.Star a_name) (token one_term)

abbrev pub argument : Deep Lexeme Term → Deep Lexeme PtrTerm → Head → Deep Lexeme Term
argument inner place head.Pre = changed pre_term (inner ⊲ close)
argument inner place head.Alloc = changed terms.Alloc (place ⊲ close)
argument inner place head.Offset = changed terms.Offset (place ⊲ close)
argument inner place head.Strlen = changed terms.Strlen (place ⊲ close)

abbrev pub term_by : Deep Lexeme Term → Deep Lexeme PtrTerm → Deep Lexeme Term
term_by inner place = applied head_of (argument inner place) (plain simple_term)

unfoldable pub term : ℕ → Deep Lexeme Term
term zero = too_deep
term (suc levels) = term_by (term levels) (pointer levels)

-- ---- sums

-- the number and the term of a part
abbrev pub Factors : Type 0
Factors = Option ℕ × Option Term

abbrev pub count_of : Lexeme → Option ℕ
count_of = within 0 (2 ^ 31)

abbrev pub number_alone : ℕ → Factors
number_alone k = (Some k, None)

abbrev pub term_alone : Term → Factors
term_alone t = (None, Some t)

abbrev pub multiple : ℕ → Term → Factors
multiple k t = (Some k, Some t)

unfoldable pub after_number : ℕ → Deep Lexeme Factors
after_number k = on (is_mark sign.Star) (changed (multiple k) (term most_levels)) (give (Some (number_alone k)))

unfoldable pub factors : Deep Lexeme Factors
factors = choose count_of after_number (changed term_alone (term most_levels))

abbrev pub part_of : Bool → Factors → LinPart
part_of negative v = record { negative = negative; number = v.0; term = v.1 }

unfoldable pub part : Bool → Deep Lexeme LinPart
part negative = changed (part_of negative) factors

abbrev pub sign_of : Lexeme → Option Bool
sign_of t = if is_mark sign.Plus t then Some false else if is_mark sign.Minus t then Some true else None

unfoldable pub first_part : Deep Lexeme LinPart
first_part = on (is_mark sign.Minus) (part true) (part false)

unfoldable pub later_parts : Deep Lexeme (List LinPart)
later_parts = repeat sign_of part

abbrev pub joined : {A : Type 0} → A × List A → List A
joined v = v.0 ∷ v.1

unfoldable pub sum : Deep Lexeme (List LinPart)
sum = changed joined (first_part ⊗ (λ _. later_parts))

-- ---- atoms

-- the pointer that a term is
abbrev mutual
  pub pointer_of : Term → Option PtrTerm
  pointer_of (terms.Name x) = Some (pointers.Name x)
  pointer_of (terms.Star x) = Some (pointers.Star x)
  pointer_of terms.Answer = Some pointers.Answer
  pointer_of (terms.Pre' s held) = option_map pre_pointer (pointer_held held)
  pointer_of t = None

  pub pointer_held : {n : _} → Row_of-Term n → Option PtrTerm
  pointer_held end_of-Term = None
  pointer_held (more_of-Term t rest) = pointer_of t

abbrev pub pointer_by_parts : Bool → Option ℕ → Option Term → Option PtrTerm
pointer_by_parts false None (Some t) = pointer_of t
pointer_by_parts negative number t = None

abbrev pub pointer_of_part : LinPart → Option PtrTerm
pointer_of_part p = pointer_by_parts p.negative p.number p.term

-- the pointer that a sum is
abbrev pub pointer_alone : List LinPart → Option PtrTerm
pointer_alone (p ∷ []) = pointer_of_part p
pointer_alone parts = None

-- the relation behind a sum, where != stands behind a pointer alone
abbrev pub relation_behind : Bool → Lexeme → Option Rel
relation_behind pointer t = if is_mark sign.Equal t then Some rel.Eq else if pointer && is_mark sign.NotEqual t then Some rel.Ne
    else if is_mark sign.Less t then Some rel.Lt else if is_mark sign.AtMost t then Some rel.Le
    else if is_mark sign.Greater t then Some rel.Gt else if is_mark sign.AtLeast t then Some rel.Ge else None

unfoldable pub relation : Bool → Reading Lexeme Rel
relation pointer = token (relation_behind pointer)

unfoldable pub compared : List LinPart → Rel → Deep Lexeme Atom
compared left r = changed (λ right. atoms.Compare left r right) sum

unfoldable pub null_or_compared : List LinPart → PtrTerm → Deep Lexeme Atom
null_or_compared left p = on (is_word key.Null) (give (Some (atoms.Null p true))) (compared left rel.Eq)

unfoldable pub not_null : PtrTerm → Reading Lexeme Atom
not_null p = made (λ _. atoms.Null p false) (the_word key.Null)

abbrev pub right_side : List LinPart → Option PtrTerm → Rel → Deep Lexeme Atom
right_side left (Some p) rel.Eq = null_or_compared left p
right_side left (Some p) rel.Ne = plain (not_null p)
right_side left p r = compared left r

unfoldable pub comparison_of : List LinPart → Deep Lexeme Atom
comparison_of left = changed (λ v. v.1) (plain (relation (is_some (pointer_alone left))) ⊗ (λ r. right_side left (pointer_alone left) r))

unfoldable pub comparison : Deep Lexeme Atom
comparison = changed (λ v. v.1) (sum ⊗ comparison_of)

unfoldable pub two_pointers : Deep Lexeme (PtrTerm × PtrTerm)
two_pointers = pointer most_levels ⊗ (λ _. the_mark sign.Comma ⊳ (pointer most_levels ⊲ close))

unfoldable pub two_bases : Deep Lexeme (PtrTerm × PtrTerm)
two_bases = (pointer most_levels ⊲ close) ⊗ (λ _. the_mark sign.Equal ⊳ the_name (codes "base") ⊳ the_mark sign.Open ⊳ (pointer most_levels ⊲ close))

abbrev pub predicated : Predicate → Deep Lexeme Atom
predicated predicate.Nullt = changed atoms.Nullt (pointer most_levels ⊲ close)
predicated predicate.Clear = changed atoms.Clear (pointer most_levels ⊲ close)
predicated predicate.Fresh = changed atoms.Fresh (pointer most_levels ⊲ close)
predicated predicate.Apart = changed (λ v. atoms.Apart v.0 v.1) two_pointers
predicated predicate.Base = changed (λ v. atoms.SameBase v.0 v.1) two_bases

unfoldable pub atom : Deep Lexeme Atom
atom = applied predicate_of predicated comparison

-- ---- items

unfoldable pub simple_item : Reading Lexeme Item
simple_item = on (is_mark sign.Star) (made items.Star a_name) (made items.Name a_name)

unfoldable pub item : Deep Lexeme Item
item = applied body_of (λ _. changed items.Body (pointer most_levels ⊲ close)) (plain simple_item)

-- ---- lists and clauses

-- what stands in front of an item behind the first
abbrev pub separator : Sign → Lexeme → Option (Unit {0})
separator s t = passed (is_mark s t)

unfoldable pub later_items : {A : Type 0} → Sign → Deep Lexeme A → Deep Lexeme (List A)
later_items s one_item = repeat (separator s) (λ _. one_item)

unfoldable pub separated : {A : Type 0} → Sign → Deep Lexeme A → Deep Lexeme (List A)
separated s one_item = changed joined (one_item ⊗ (λ _. later_items s one_item))

unfoldable pub clause : {A : Type 0} → List ℕ → Deep Lexeme (List A) → Deep Lexeme (List A)
clause begin list = on (is_name_token begin) (list ⊲ the_mark sign.Semicolon) (give (Some []))

abbrev pub names : Deep Lexeme (List (List ℕ))
names = separated sign.Comma (plain a_name)

abbrev pub atom_list : Deep Lexeme (List Atom)
atom_list = separated sign.Comma atom

abbrev pub item_list : Deep Lexeme (List Item)
item_list = separated sign.Comma item

abbrev pub alternatives : Deep Lexeme (List (List Atom))
alternatives = separated sign.Bar atom_list

unfoldable pub listed : Deep Lexeme (List (List ℕ))
listed = clause (codes "uses") names

unfoldable pub needs : Deep Lexeme (List Atom)
needs = clause (codes "requires") atom_list

unfoldable pub changes : Deep Lexeme (List Item)
changes = clause (codes "modifies") item_list

unfoldable pub gives : Deep Lexeme (List (List Atom))
gives = clause (codes "ensures") alternatives

abbrev pub Clauses : Type 0
Clauses = List (List ℕ) × (List Atom × (List Item × List (List Atom)))

abbrev pub contract_of : Clauses → Contract
contract_of v = record { listed = v.0; needs = v.1.0; changes = v.1.1.0; gives = v.1.1.1 }

unfoldable pub changes_and_gives : Deep Lexeme (List Item × List (List Atom))
changes_and_gives = changes ⊗ (λ _. gives)

unfoldable pub needs_and_more : Deep Lexeme (List Atom × (List Item × List (List Atom)))
needs_and_more = needs ⊗ (λ _. changes_and_gives)

unfoldable pub contract : Deep Lexeme Contract
contract = changed contract_of (listed ⊗ (λ _. needs_and_more))
