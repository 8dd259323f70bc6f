-- What the lists and the clauses of contracts are read from.
use Rattle.std.proofs.Common.{◌≡◌, ℕ, ◌<◌, Bool, true, false, ◌&&◌, ◌||◌, List, [], ◌∷◌, ◌++◌, length, Some, None, Ok, refl, sym, ap, subst, ◌∙◌, append_assoc, inl, inr, codes}
use Rattle.cv_core.specs.declared.program.Contract.{Contract}
use Rattle.cv_core.specs.declared.program.Atom.{Atom}
use Rattle.cv_core.specs.declared.program.Item.{Item}
use Rattle.cv_reading.specs.Phrase.{◌⋅◌, Each, Following}
use Rattle.cv_reading.specs.Reading.{passed}
use Rattle.cv_reading.specs.Deep.{Deep, plain, next_by, more_onto}
use Rattle.cv_reading.proofs.Laws.{Only, Made, Either, passes, to_left, to_right}
use Rattle.cv_reading.proofs.Deep.{ReadsDeep, Clear, none, clear_none, all_within, all_small, Avoids, Given, Round, deep_plain, deep_as, deep_give, deep_made, deep_both, deep_ended, deep_choose, deep_repeat, each_clear, loop_ends, loop_goes, loop_fails, loop_cut, loop_shrinks}
use Rattle.cv_text.specs.declared.token.Sign.{Sign}
use Rattle.cv_text.specs.declared.token.Sign.TheVariants as sign
use Rattle.cv_text.specs.declared.nesting.NestedError.{NestedError}
use Rattle.cv_text.specs.declared.nesting.NestedError.TheVariants as errors
use Rattle.cv_text.specs.Given.{from}
use Rattle.cv_text.specs.Nested.{FailsNested}
use Rattle.cv_text.specs.Spelling.{sign_text}
use Rattle.cv_text.specs.Tokens.{Lexeme, name, mark, Line}
use Rattle.cv_text.specs.Grammar.{Name, Mark}
use Rattle.cv_text.specs.Clauses.{AtomText, ItemText, Some_of, Clause, Atoms, ContractText}
use Rattle.cv_text.specs.Levels.{most_levels, atom_within, item_within, contract_within}
use Rattle.cv_text.specs.Reader.{is_mark, is_name_token, a_name}
use Rattle.cv_text.specs.ContractReader.{joined, separator, later_items, separated, clause, names, atom_list, item_list, alternatives, listed, needs, changes, gives, Clauses, contract_of, changes_and_gives, needs_and_more, contract}
use Rattle.cv_text.proofs.Singles.{only_name, only_mark, same_bytes, reads_the_mark, reads_a_name}
use Rattle.cv_text.proofs.ContractTerms.{opens}
use Rattle.cv_text.proofs.ContractSums.{sum_bars, neither, not_passed}
use Rattle.cv_text.proofs.ContractAtoms.{reads_atom, reads_item}

-- ---- items with a separator between each two

abbrev pub or_mark : (Lexeme → Bool) → Sign → Lexeme → Bool
or_mark bars s t = bars t || is_mark s t

module _ {A : Type 0} {bars : Lexeme → Bool} {w : A → Bool} {one_item : Deep Lexeme A} {p : A → Line → Type 0} (s : Sign) (by : ReadsDeep false bars w one_item p) (free : bars (mark s) ≡ false) where
  between : (t : Lexeme) (b : Unit {0}) → separator s t ≡ Some b → bars t ≡ false
  between t b h = ap bars (only_mark s t (passes (is_mark s t) b h)) ∙ free

  ends : (ts : Line) → Clear (or_mark bars s) ts → Avoids (separator s) ts × Clear bars ts
  ends [] h = (tt, tt)
  ends (t ∷ ts) h = let k = neither (bars t) (is_mark s t) h in (not_passed (is_mark s t) k.1, k.0)

  abbrev Later : List A → Line → Type 0
  Later = Each (Round (separator s) (λ (_ : Unit {0}). p))

  later_law : ReadsDeep false (or_mark bars s) (all_small w) (later_items s one_item) Later
  unfolding later_items
  later_law = deep_repeat (λ _. by) between ends

  later_is : (xs : List A) (text : Line) → Later xs text → Following (Mark s) p xs text
  later_is [] text h = h
  later_is (a ∷ xs) text (front, rest, (b, (x, y, (t, h, is), k, p2)), more, p1) = to_right (Mark s) (p a) (Following (Mark s) p xs) text (front, rest, (x, y, is ∙ ap (λ (l : Lexeme). l ∷ []) (only_mark s t (passes (is_mark s t) b h)), k, p2), later_is xs rest more, p1)

  later_back : (xs : List A) (text : Line) → Following (Mark s) p xs text → Later xs text
  later_back [] text h = h
  later_back (a ∷ xs) text h =
      let m = to_left (Mark s) (p a) (Following (Mark s) p xs) text h in
      let n = m.2 in
      (m.0, m.1, (tt, (n.0, n.1, (mark s, ap passed (same_bytes (sign_text s)), n.2), n.3, n.4)), later_back xs m.1 m.3, m.4)

  abbrev FirstAndLater : A × List A → Line → Type 0
  FirstAndLater v = p v.0 ⋅ Later v.1

  some_is : (xs : List A) (text : Line) → Made joined FirstAndLater xs text → Some_of (Mark s) p xs text
  some_is xs text (v, e, (front, rest, h, k, parts)) =
      let whole : Some_of (Mark s) p (joined v) text = (front, rest, h, later_is v.1 rest k, parts) in
      subst (λ (ys : List A). Some_of (Mark s) p ys text) (sym e) whole

  some_back : (xs : List A) (text : Line) → Some_of (Mark s) p xs text → Made joined FirstAndLater xs text
  some_back [] text h = absurd h
  some_back (a ∷ xs) text (front, rest, h, k, parts) = ((a, xs), refl, (front, rest, h, later_back xs rest k, parts))

  pub separated_law : ReadsDeep false (or_mark bars s) (all_small w) (separated s one_item) (Some_of (Mark s) p)
  unfolding separated
  separated_law = deep_as
      (deep_made {w2 = all_small w} joined (deep_both by (λ _. later_law) (λ a xs text h rest clear. each_clear (λ _. by) between ends xs text rest h clear)) (λ v. refl))
      (λ ts c. c) (λ xs text h. refl) some_is some_back

  -- ---- as a loop goes over them

  pub items_end : (before : List A) (ts : Line) → next_by (separator s) ts ≡ None → more_onto before (later_items s one_item) ts ≡ Ok (Some before, ts)
  unfolding later_items
  items_end before ts h = loop_ends (λ _. by) between ends before ts h

  pub items_go : (before : List A) (ts behind : Line) (a : A) (after : Line) → next_by (separator s) ts ≡ Some (tt, behind) → one_item behind ≡ Ok (Some a, after) → more_onto before (later_items s one_item) ts ≡ more_onto (before ++ a ∷ []) (later_items s one_item) after
  unfolding later_items
  items_go before ts behind a after h e = loop_goes (λ _. by) between ends before ts tt behind a after h e

  pub items_err : (text : List ℕ) (e : NestedError) (before : List A) (ts behind : Line) → next_by (separator s) ts ≡ Some (tt, behind) → FailsNested text e (one_item behind) → FailsNested text e (more_onto before (later_items s one_item) ts)
  unfolding later_items
  items_err text errors.Memory before ts behind h k = tt
  items_err text (errors.Fault at) before ts behind h k = loop_fails (λ _. by) between ends before ts tt behind (from text at) h k
  items_err text (errors.Nesting at) before ts behind h k = loop_cut (λ _. by) between ends before ts tt behind (from text at) h k

  pub items_shrink : (ts behind : Line) (a : A) (after : Line) → next_by (separator s) ts ≡ Some (tt, behind) → one_item behind ≡ Ok (Some a, after) → length after < length ts
  items_shrink ts behind a after h e = loop_shrinks (λ _. by) between ends ts tt behind a after h e

-- ---- the four lists

pub name_law : ReadsDeep false none all_within (plain a_name) Name
name_law = deep_plain reads_a_name

abbrev pub list_bars : Lexeme → Bool
list_bars = or_mark sum_bars sign.Comma

pub names_law : ReadsDeep false (or_mark none sign.Comma) (all_small all_within) names (Some_of (Mark sign.Comma) Name)
names_law = separated_law sign.Comma name_law refl

pub atoms_law : ReadsDeep false list_bars (all_small (atom_within most_levels)) atom_list Atoms
atoms_law = separated_law sign.Comma reads_atom refl

pub items_law : ReadsDeep false (or_mark opens sign.Comma) (all_small (item_within most_levels)) item_list (Some_of (Mark sign.Comma) ItemText)
items_law = separated_law sign.Comma reads_item refl

pub alternatives_law : ReadsDeep false (or_mark list_bars sign.Bar) (all_small (all_small (atom_within most_levels))) alternatives (Some_of (Mark sign.Bar) Atoms)
alternatives_law = separated_law sign.Bar atoms_law refl

-- ---- clauses

abbrev pub word_is : List ℕ → Lexeme → Bool
word_is begin t = is_name_token begin t

abbrev EitherClause : {A : Type 0} → List ℕ → (Line → Type 0) → (A → Line → Type 0) → List A → Line → Type 0
EitherClause {A} begin separates p = Either (λ (t : Lexeme). passed (word_is begin t)) (λ (_ : Unit {0}) (xs : List A). Some_of separates p xs ⋅ Only (mark sign.Semicolon) tt) (Given [])

clause_is : {A : Type 0} (begin : List ℕ) (separates : Line → Type 0) (p : A → Line → Type 0) (xs : List A) (text : Line) → EitherClause begin separates p xs text → Clause begin separates p xs text
clause_is begin separates p [] text (inl (u, (front, rest, (t, h, is), k, parts))) = absurd k.2
clause_is begin separates p (a ∷ xs) text (inl (u, (front, rest, (t, h, is), k, parts))) = (front, rest, is ∙ ap (λ (l : Lexeme). l ∷ []) (only_name begin t (passes (word_is begin t) u h)), k, parts)
clause_is begin separates p [] text (inr (e, h)) = h
clause_is begin separates p (a ∷ xs) text (inr (e, h)) = absurd cc

clause_back : {A : Type 0} (begin : List ℕ) (separates : Line → Type 0) (p : A → Line → Type 0) (xs : List A) (text : Line) → Clause begin separates p xs text → EitherClause begin separates p xs text
clause_back begin separates p [] text h = inr (refl, h)
clause_back begin separates p (a ∷ xs) text (front, rest, h, k, parts) = inl (tt, (front, rest, (name begin, ap passed (same_bytes begin), h), k, parts))

no_word_by : (begin : List ℕ) (rest : Line) → Clear (word_is begin) rest → Avoids (λ (t : Lexeme). passed (word_is begin t)) rest
no_word_by begin [] c = tt
no_word_by begin (t ∷ ts) c = not_passed (word_is begin t) c

no_word : {A : Type 0} (begin : List ℕ) (xs : List A) (text : Line) → Given [] xs text → (rest : Line) → Clear (word_is begin) rest → Avoids (λ (t : Lexeme). passed (word_is begin t)) (text ++ rest)
no_word begin xs text h rest clear = subst (λ (l : Line). Avoids (λ (t : Lexeme). passed (word_is begin t)) (l ++ rest)) (sym h.1) (no_word_by begin rest clear)

semicolon_clear : (bars : Lexeme → Bool) → bars (mark sign.Semicolon) ≡ false → (text : Line) → Only (mark sign.Semicolon) tt text → (rest : Line) → Clear bars (text ++ rest)
semicolon_clear bars free text h rest = subst (λ (l : Line). Clear bars (l ++ rest)) (sym h) free

clause_law : {A : Type 0} (begin : List ℕ) (separates : Line → Type 0) {bars : Lexeme → Bool} {small : List A → Bool} {list : Deep Lexeme (List A)} {p : A → Line → Type 0} → ReadsDeep false bars small list (Some_of separates p) → bars (mark sign.Semicolon) ≡ false → small [] ≡ true → ReadsDeep false (word_is begin) small (clause begin list) (Clause begin separates p)
unfolding clause
clause_law begin separates {bars} {small} {list} {p} by free none_small = deep_as
    (deep_choose
    (λ _. deep_as (deep_ended by (reads_the_mark sign.Semicolon) (semicolon_clear bars free)) (λ ts c. clear_none ts) (λ xs text h. refl) (λ xs text h. h) (λ xs text h. h))
    (deep_give [] none_small)
    (no_word begin))
    (λ ts c. c) (λ xs text h. refl) (clause_is begin separates p) (clause_back begin separates p)

-- a clause, or none, and what may not stand behind it
clause_clear : {A : Type 0} (begin : List ℕ) (separates : Line → Type 0) (p : A → Line → Type 0) (bars : Lexeme → Bool) → bars (name begin) ≡ false → (xs : List A) (text : Line) → Clause begin separates p xs text → (rest : Line) → Clear bars rest → Clear bars (text ++ rest)
clause_clear begin separates p bars free [] text h rest clear = subst (λ (l : Line). Clear bars (l ++ rest)) (sym h) clear
clause_clear begin separates p bars free (a ∷ xs) text (x, y, h, k, parts) rest clear = subst (λ (l : Line). Clear bars (l ++ rest)) (sym (parts ∙ ap (λ (l : Line). l ++ y) h)) free

-- ---- contracts

abbrev UsesText : List (List ℕ) → Line → Type 0
UsesText = Clause (codes "uses") (Mark sign.Comma) Name

abbrev NeedsText : List Atom → Line → Type 0
NeedsText = Clause (codes "requires") (Mark sign.Comma) AtomText

abbrev ChangesText : List Item → Line → Type 0
ChangesText = Clause (codes "modifies") (Mark sign.Comma) ItemText

abbrev GivesText : List (List Atom) → Line → Type 0
GivesText = Clause (codes "ensures") (Mark sign.Bar) Atoms

abbrev ensures_bars : Lexeme → Bool
ensures_bars = word_is (codes "ensures")

abbrev modifies_bars : Lexeme → Bool
modifies_bars t = word_is (codes "modifies") t || ensures_bars t

abbrev requires_bars : Lexeme → Bool
requires_bars t = word_is (codes "requires") t || modifies_bars t

abbrev pub contract_bars : Lexeme → Bool
contract_bars t = word_is (codes "uses") t || requires_bars t

front_clear : (a b : Lexeme → Bool) (ts : Line) → Clear (λ t. a t || b t) ts → Clear a ts
front_clear a b [] h = tt
front_clear a b (t ∷ ts) h = (neither (a t) (b t) h).0

rest_clear : (a b : Lexeme → Bool) (ts : Line) → Clear (λ t. a t || b t) ts → Clear b ts
rest_clear a b [] h = tt
rest_clear a b (t ∷ ts) h = (neither (a t) (b t) h).1

abbrev narrower : {A : Type 0} {w : A → Bool} {r : Deep Lexeme A} {p : A → Line → Type 0} (a b : Lexeme → Bool) → ReadsDeep false b w r p → ReadsDeep false (λ t. a t || b t) w r p
narrower a b by = deep_as by (λ ts c. rest_clear a b ts c) (λ x text h. refl) (λ x text h. h) (λ x text h. h)

abbrev small_atoms : List Atom → Bool
small_atoms = all_small (atom_within most_levels)

abbrev small_items : List Item → Bool
small_items = all_small (item_within most_levels)

abbrev small_gives : List (List Atom) → Bool
small_gives = all_small small_atoms

reads_listed : ReadsDeep false (word_is (codes "uses")) (all_small all_within) listed UsesText
unfolding listed
reads_listed = clause_law (codes "uses") (Mark sign.Comma) names_law refl refl

reads_needs : ReadsDeep false (word_is (codes "requires")) small_atoms needs NeedsText
unfolding needs
reads_needs = clause_law (codes "requires") (Mark sign.Comma) atoms_law refl refl

reads_changes : ReadsDeep false (word_is (codes "modifies")) small_items changes ChangesText
unfolding changes
reads_changes = clause_law (codes "modifies") (Mark sign.Comma) items_law refl refl

reads_gives : ReadsDeep false ensures_bars small_gives gives GivesText
unfolding gives
reads_gives = clause_law (codes "ensures") (Mark sign.Bar) alternatives_law refl refl

abbrev ChangesAndGives : List Item × List (List Atom) → Line → Type 0
ChangesAndGives v = ChangesText v.0 ⋅ GivesText v.1

reads_changes_and_gives : ReadsDeep false modifies_bars (λ v. small_items v.0 && small_gives v.1) changes_and_gives ChangesAndGives
unfolding changes_and_gives
reads_changes_and_gives = deep_both reads_changes (λ _. narrower (word_is (codes "modifies")) ensures_bars reads_gives)
    (λ a b text h rest clear. clause_clear (codes "ensures") (Mark sign.Bar) Atoms (word_is (codes "modifies")) refl b text h rest (front_clear (word_is (codes "modifies")) ensures_bars rest clear))

two_clear : (p q : Line → Type 0) (bars : Lexeme → Bool) → ((text : Line) → p text → (rest : Line) → Clear bars rest → Clear bars (text ++ rest)) → ((text : Line) → q text → (rest : Line) → Clear bars rest → Clear bars (text ++ rest)) → (text : Line) → (p ⋅ q) text → (rest : Line) → Clear bars rest → Clear bars (text ++ rest)
two_clear p q bars f g text (x, y, h, k, parts) rest clear = subst (λ (l : Line). Clear bars l) (sym (ap (λ (l : Line). l ++ rest) parts ∙ append_assoc x y rest)) (f x h (y ++ rest) (g y k rest clear))

abbrev NeedsAndMore : List Atom × (List Item × List (List Atom)) → Line → Type 0
NeedsAndMore v = NeedsText v.0 ⋅ ChangesAndGives v.1

reads_needs_and_more : ReadsDeep false requires_bars (λ v. small_atoms v.0 && (small_items v.1.0 && small_gives v.1.1)) needs_and_more NeedsAndMore
unfolding needs_and_more
reads_needs_and_more = deep_both reads_needs (λ _. narrower (word_is (codes "requires")) modifies_bars reads_changes_and_gives)
    (λ a b text h rest clear. two_clear (ChangesText b.0) (GivesText b.1) (word_is (codes "requires"))
    (clause_clear (codes "modifies") (Mark sign.Comma) ItemText (word_is (codes "requires")) refl b.0)
    (clause_clear (codes "ensures") (Mark sign.Bar) Atoms (word_is (codes "requires")) refl b.1)
    text h rest (front_clear (word_is (codes "requires")) modifies_bars rest clear))

abbrev FourClauses : Clauses → Line → Type 0
FourClauses v = UsesText v.0 ⋅ NeedsAndMore v.1

all_true : {A : Type 0} (xs : List A) → all_small all_within xs ≡ true
all_true [] = refl
all_true (x ∷ xs) = all_true xs

and_assoc : (a b c : Bool) → ((a && b) && c) ≡ (a && (b && c))
and_assoc true b c = refl
and_assoc false b c = refl

contract_small : (v : Clauses) → contract_within most_levels (contract_of v) ≡ (all_small all_within v.0 && (small_atoms v.1.0 && (small_items v.1.1.0 && small_gives v.1.1.1)))
contract_small v = and_assoc (small_atoms v.1.0) (small_items v.1.1.0) (small_gives v.1.1.1) ∙ ap (λ (b : Bool). b && (small_atoms v.1.0 && (small_items v.1.1.0 && small_gives v.1.1.1))) (sym (all_true v.0))

contract_is : (c : Contract) (text : Line) → Made contract_of FourClauses c text → ContractText c text
contract_is c text (v, e, h) = subst (λ (d : Contract). ContractText d text) (sym e) h

contract_back : (c : Contract) (text : Line) → ContractText c text → Made contract_of FourClauses c text
contract_back c text h = ((c.listed, (c.needs, (c.changes, c.gives))), refl, h)

pub reads_contract : ReadsDeep false contract_bars (contract_within most_levels) contract ContractText
unfolding contract
reads_contract = deep_as
    (deep_made {w2 = contract_within most_levels} contract_of
    (deep_both reads_listed (λ _. narrower (word_is (codes "uses")) requires_bars reads_needs_and_more)
    (λ a b text h rest clear. two_clear (NeedsText b.0) (ChangesAndGives b.1) (word_is (codes "uses"))
    (clause_clear (codes "requires") (Mark sign.Comma) AtomText (word_is (codes "uses")) refl b.0)
    (two_clear (ChangesText b.1.0) (GivesText b.1.1) (word_is (codes "uses"))
    (clause_clear (codes "modifies") (Mark sign.Comma) ItemText (word_is (codes "uses")) refl b.1.0)
    (clause_clear (codes "ensures") (Mark sign.Bar) Atoms (word_is (codes "uses")) refl b.1.1))
    text h rest (front_clear (word_is (codes "uses")) requires_bars rest clear)))
    contract_small)
    (λ ts c. c) (λ c text h. refl) contract_is contract_back
