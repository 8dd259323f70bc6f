-- What the atoms and the items of contracts are read from.
use Rattle.std.proofs.Common.{◌≡◌, ℕ, suc, Bool, true, false, if◌then◌else◌, leb, is_some, ◌&&◌, List, [], ◌∷◌, ◌++◌, Option, Some, None, refl, sym, ap, subst, ◌∙◌, append_assoc, inl, inr, codes}
use Rattle.std.proofs.lemmas.List.{append-nil}
use Rattle.std.specs.Option.{option_map}
use Rattle.std.specs.Str.{bytes_eq}
use Rattle.cv_core.specs.declared.program.PtrTerm.{PtrTerm, end_of-PtrTerm, more_of-PtrTerm}
use Rattle.cv_core.specs.declared.program.PtrTerm.TheVariants as pointers
use Rattle.cv_core.specs.declared.program.Term.{Term, Row_of-Term, end_of-Term, more_of-Term}
use Rattle.cv_core.specs.declared.program.Term.TheVariants as terms
use Rattle.cv_core.specs.declared.program.LinPart.{LinPart}
use Rattle.cv_core.specs.declared.program.Atom.{Atom}
use Rattle.cv_core.specs.declared.program.Atom.TheVariants as atoms
use Rattle.cv_core.specs.declared.program.Item.{Item}
use Rattle.cv_core.specs.declared.program.Item.TheVariants as items
use Rattle.cv_core.specs.declared.program.Rel.{Rel}
use Rattle.cv_core.specs.declared.program.Rel.TheVariants as rel
use Rattle.cv_core.specs.Terms.{pre_pointer, pre_term}
use Rattle.cv_reading.specs.Phrase.{one, nothing, ◌⋅◌}
use Rattle.cv_reading.specs.Reading.{passed}
use Rattle.cv_reading.specs.Deep.{Deep, plain, ◌⊲◌, call_by, call_at}
use Rattle.cv_reading.proofs.Laws.{Reads, Only, Token, Made, Or, Either, BeginsElsewhere, passes, reads_token, reads_as, reads_made, reads_on, to_left, to_right, second_as}
use Rattle.cv_reading.proofs.Deep.{ReadsDeep, Clear, none, clear_none, all_within, Avoids, Given, Called, deep_plain, deep_as, deep_give, deep_made, deep_both, deep_then, deep_ended, deep_choose, deep_called}
use Rattle.cv_text.specs.declared.token.Key.TheVariants as key
use Rattle.cv_text.specs.declared.token.Sign.{Sign}
use Rattle.cv_text.specs.declared.token.Sign.TheVariants as sign
use Rattle.cv_text.specs.declared.nesting.Predicate.{Predicate}
use Rattle.cv_text.specs.declared.nesting.Predicate.TheVariants as predicate
use Rattle.cv_text.specs.Tokens.{Lexeme, name, word, digits, mark, other, Line}
use Rattle.cv_text.specs.Grammar.{Name, Word, Mark, Relation, Equality}
use Rattle.cv_text.specs.Clauses.{Applied, Pointer, TermText, TermHeld, Factor, FirstSign, LaterSign, LaterParts, Linear, SumRelation, AtomText, ItemText}
use Rattle.cv_text.specs.Levels.{most_levels, pointer_levels, term_levels, term_held_levels, pointer_within, term_within, sum_within, atom_within, item_within}
use Rattle.cv_text.specs.Reader.{is_word, is_mark}
use Rattle.cv_text.specs.ContractReader.{as_name, predicate_of, body_of, close, opens_level, pointer, pointer_of, pointer_held, pointer_by_parts, pointer_alone, relation_behind, relation, compared, null_or_compared, not_null, right_side, comparison_of, comparison, two_pointers, two_bases, predicated, atom, simple_item, item}
use Rattle.cv_text.proofs.Singles.{only_word, only_mark, bytes_same, reads_the_word, reads_the_mark, reads_the_name, reads_a_name}
use Rattle.cv_text.proofs.ContractTerms.{opens, opens_is, reads_close, close_clear, named_by, called_text, text_called, reads_pointer, term_begins, simple_term_apart, simple_pointer_apart}
use Rattle.cv_text.proofs.ContractSums.{sum_bars, reads_sum}

-- ---- the pointer that a term is

abbrev Same : Term → PtrTerm → Type 0
Same t p = (term_levels t ≡ pointer_levels p) × ((text : Line) → TermText t text → Pointer p text)

inside_as : (f : List ℕ) (p q : Line → Type 0) → ((text : Line) → p text → q text) → (text : Line) → Applied f p text → Applied f q text
inside_as f p q to text (a, r1, a_is, (b, r2, b_is, (c, r3, h, e, p3), p2), p1) = (a, r1, a_is, (b, r2, b_is, (c, r3, to c h, e, p3), p2), p1)

pre_same : (s : (mathlib.Core.Former.this {0}).Shape) (held : Row_of-Term (mathlib.Core.Former.arity (mathlib.Core.Former.this {0}) s)) (p : PtrTerm) → ((q : PtrTerm) → pointer_held held ≡ Some q → (term_held_levels held ≡ pointer_levels q) × ((text : Line) → TermHeld held text → Pointer q text)) → option_map pre_pointer (pointer_held held) ≡ Some p → Same (terms.Pre' s held) p
pre_same s held p below h = by_option (pointer_held held) refl h
  where
    by_option : (o : Option PtrTerm) → pointer_held held ≡ o → option_map pre_pointer o ≡ Some p → Same (terms.Pre' s held) p
    by_option (Some q) e k =
        let f = below q e in
        let is : pre_pointer q ≡ p = cc in
        subst (λ (r : PtrTerm). Same (terms.Pre' s held) r) is (ap (λ (i : ℕ). suc i) f.0, inside_as (codes "pre") (TermHeld held) (Pointer q) f.1)
    by_option None e k = absurd cc

mutual
  alone_term : (t : Term) (p : PtrTerm) → pointer_of t ≡ Some p → Same t p
  alone_term (terms.Name x) p h = let e : pointers.Name x ≡ p = cc in subst (λ (q : PtrTerm). Same (terms.Name x) q) e (refl, λ text k. k)
  alone_term (terms.Star x) p h = let e : pointers.Star x ≡ p = cc in subst (λ (q : PtrTerm). Same (terms.Star x) q) e (refl, λ text k. k)
  alone_term terms.Answer p h = let e : pointers.Answer ≡ p = cc in subst (λ (q : PtrTerm). Same terms.Answer q) e (refl, λ text k. k)
  alone_term (terms.Pre' s held) p h = pre_same s held p (λ q k. alone_held held q k) h
  alone_term (terms.Alloc q) p h = absurd cc
  alone_term (terms.Offset q) p h = absurd cc
  alone_term (terms.Strlen q) p h = absurd cc

  alone_held : {n : _} (held : Row_of-Term n) (p : PtrTerm) → pointer_held held ≡ Some p → (term_held_levels held ≡ pointer_levels p) × ((text : Line) → TermHeld held text → Pointer p text)
  alone_held end_of-Term p h = absurd cc
  alone_held (more_of-Term t rest) p h = alone_term t p h

-- each pointer is a term
abbrev Named : PtrTerm → Type 0
Named p = (t : Term) × (pointer_of t ≡ Some p) × ((text : Line) → Pointer p text → TermText t text)

alone_back : (p : PtrTerm) → Named p
alone_back (pointers.Name x) = (terms.Name x, refl, λ text h. h)
alone_back (pointers.Star x) = (terms.Star x, refl, λ text h. h)
alone_back pointers.Answer = (terms.Answer, refl, λ text h. h)
alone_back (pointers.Pre' s (more_of-PtrTerm q end_of-PtrTerm)) =
    let b = alone_back q in
    (pre_term b.0, ap (λ (o : Option PtrTerm). option_map pre_pointer o) b.1, inside_as (codes "pre") (Pointer q) (TermText b.0) b.2)

-- ---- the pointer that a sum is

abbrev SameSum : List LinPart → PtrTerm → Type 0
SameSum parts p = (sum_within most_levels parts ≡ pointer_within most_levels p) × ((text : Line) → Linear parts text → Pointer p text)

and_true : (a : Bool) → (a && true) ≡ a
and_true true = refl
and_true false = refl

alone_part : (negative : Bool) (number : Option ℕ) (t : Option Term) (p : PtrTerm) → pointer_by_parts negative number t ≡ Some p → SameSum (record { negative = negative; number = number; term = t } ∷ []) p
alone_part false None (Some t) p h =
    let e = alone_term t p h in
    (and_true (term_within most_levels t) ∙ ap (λ (i : ℕ). leb i most_levels) e.0, λ text k. e.1 text (bare t text k))
  where
    bare : (t : Term) (text : Line) → (nothing ⋅ TermText t ⋅ nothing) text → TermText t text
    bare t text (a, r1, ha, (b, r2, hb, hr, p2), p1) =
        let same : text ≡ b = p1 ∙ ap (λ (l : Line). l ++ r1) ha ∙ p2 ∙ ap (λ (l : Line). b ++ l) hr ∙ append-nil b in
        subst (λ (l : Line). TermText t l) (sym same) hb
alone_part false None None p h = absurd cc
alone_part false (Some k) t p h = absurd cc
alone_part true number t p h = absurd cc

alone_sum : (parts : List LinPart) (p : PtrTerm) → pointer_alone parts ≡ Some p → SameSum parts p
alone_sum [] p h = absurd cc
alone_sum (x ∷ []) p h = alone_part x.negative x.number x.term p h
alone_sum (x ∷ y ∷ parts) p h = absurd cc

abbrev pointer_part : Term → LinPart
pointer_part t = record { negative = false; number = None; term = Some t }

pointer_sum : (p : PtrTerm) → (parts : List LinPart) × (pointer_alone parts ≡ Some p) × ((text : Line) → Pointer p text → Linear parts text)
pointer_sum p =
    let b = alone_back p in
    (pointer_part b.0 ∷ [], b.1, λ text h. ([], text, refl, (text, [], b.2 text h, refl, sym (append-nil text)), refl))

-- ---- what a sum begins with

abbrev Starts : (Lexeme → Type 0) → Line → Type 0
Starts P text = (t : Lexeme) × (rest : Line) × (text ≡ t ∷ rest) × P t

abbrev NoNull : Lexeme → Type 0
NoNull t = passed (is_word key.Null t) ≡ None

level_no_null : (t : Lexeme) (b : Unit {0}) → opens_level t ≡ Some b → NoNull t
level_no_null (name x) b h = refl
level_no_null (word k) b h = ap (λ (t : Lexeme). passed (is_word key.Null t)) (only_word key.Result (word k) (passes (is_word key.Result (word k)) b h))
level_no_null (mark s) b h = refl
level_no_null (digits ds) b h = absurd cc
level_no_null other b h = absurd cc

factor_starts : (number : Option ℕ) (t : Option Term) (text : Line) → Factor number t text → Starts NoNull text
factor_starts None None text h = absurd h
factor_starts None (Some t) text h = let x = term_begins t text h in (x.0, x.1, x.3, level_no_null x.0 x.2 x.4)
factor_starts (Some k) None text (low, high, (ds, e, is)) = (digits ds, [], is, refl)
factor_starts (Some k) (Some t) text (front, after, (low, high, (ds, e, is)), m, parts) = (digits ds, after, parts ∙ ap (λ (l : Line). l ++ after) is, refl)

signed_starts : (negative : Bool) (number : Option ℕ) (t : Option Term) (more : Line → Type 0) (text : Line) → (FirstSign negative ⋅ Factor number t ⋅ more) text → Starts NoNull text
signed_starts true number t more text (a, r1, h, k, parts) = (mark sign.Minus, r1, parts ∙ ap (λ (l : Line). l ++ r1) h, refl)
signed_starts false number t more text (a, r1, h, (b, r2, m, n, p2), p1) =
    let x = factor_starts number t b m in
    (x.0, x.1 ++ r2, p1 ∙ ap (λ (l : Line). l ++ r1) h ∙ p2 ∙ ap (λ (l : Line). l ++ r2) x.2, x.3)

sum_starts : (parts : List LinPart) (text : Line) → Linear parts text → Starts NoNull text
sum_starts [] text h = absurd h
sum_starts (p ∷ parts) text h = signed_starts p.negative p.number p.term (LaterParts parts) text h

-- ---- relations

abbrev Behind : Bool → Rel → Line → Type 0
Behind pointer rel.Ne text = (pointer ≡ true) × Mark sign.NotEqual text
Behind pointer r text = Relation r text

relation_is : (pointer : Bool) (t : Lexeme) (r : Rel) → relation_behind pointer t ≡ Some r → Behind pointer r (t ∷ [])
relation_is pointer t r h = by_equal (is_mark sign.Equal t) refl h
  where
    done : (s : Sign) (x : Rel) → is_mark s t ≡ true → Some x ≡ Some r → ((text : Line) → Mark s text → Behind pointer x text) → Behind pointer r (t ∷ [])
    done s x e k f = let same : x ≡ r = cc in subst (λ (y : Rel). Behind pointer y (t ∷ [])) same (f (t ∷ []) (ap (λ (l : Lexeme). l ∷ []) (only_mark s t e)))

    by_least : (v : Bool) → is_mark sign.AtLeast t ≡ v → (if v then Some rel.Ge else None) ≡ Some r → Behind pointer r (t ∷ [])
    by_least true e k = done sign.AtLeast rel.Ge e k (λ text m. m)
    by_least false e k = absurd cc

    by_greater : (v : Bool) → is_mark sign.Greater t ≡ v → (if v then Some rel.Gt else if is_mark sign.AtLeast t then Some rel.Ge else None) ≡ Some r → Behind pointer r (t ∷ [])
    by_greater true e k = done sign.Greater rel.Gt e k (λ text m. m)
    by_greater false e k = by_least (is_mark sign.AtLeast t) refl k

    by_most : (v : Bool) → is_mark sign.AtMost t ≡ v → (if v then Some rel.Le else if is_mark sign.Greater t then Some rel.Gt else if is_mark sign.AtLeast t then Some rel.Ge else None) ≡ Some r → Behind pointer r (t ∷ [])
    by_most true e k = done sign.AtMost rel.Le e k (λ text m. m)
    by_most false e k = by_greater (is_mark sign.Greater t) refl k

    by_less : (v : Bool) → is_mark sign.Less t ≡ v → (if v then Some rel.Lt else if is_mark sign.AtMost t then Some rel.Le else if is_mark sign.Greater t then Some rel.Gt else if is_mark sign.AtLeast t then Some rel.Ge else None) ≡ Some r → Behind pointer r (t ∷ [])
    by_less true e k = done sign.Less rel.Lt e k (λ text m. m)
    by_less false e k = by_most (is_mark sign.AtMost t) refl k

    by_not : (p v : Bool) → pointer ≡ p → is_mark sign.NotEqual t ≡ v → (if p && v then Some rel.Ne else if is_mark sign.Less t then Some rel.Lt else if is_mark sign.AtMost t then Some rel.Le else if is_mark sign.Greater t then Some rel.Gt else if is_mark sign.AtLeast t then Some rel.Ge else None) ≡ Some r → Behind pointer r (t ∷ [])
    by_not true true j e k = done sign.NotEqual rel.Ne e k (λ text m. (j, m))
    by_not true false j e k = by_less (is_mark sign.Less t) refl k
    by_not false v j e k = by_less (is_mark sign.Less t) refl k

    by_equal : (v : Bool) → is_mark sign.Equal t ≡ v → (if v then Some rel.Eq else if pointer && is_mark sign.NotEqual t then Some rel.Ne else if is_mark sign.Less t then Some rel.Lt else if is_mark sign.AtMost t then Some rel.Le else if is_mark sign.Greater t then Some rel.Gt else if is_mark sign.AtLeast t then Some rel.Ge else None) ≡ Some r → Behind pointer r (t ∷ [])
    by_equal true e k = done sign.Equal rel.Eq e k (λ text m. m)
    by_equal false e k = by_not pointer (is_mark sign.NotEqual t) refl refl k

not_passes : (pointer : Bool) (o : Option Rel) → (if pointer && false then Some rel.Ne else o) ≡ o
not_passes true o = refl
not_passes false o = refl

relation_back : (pointer : Bool) (r : Rel) (text : Line) → Behind pointer r text → Token (relation_behind pointer) r text
relation_back pointer rel.Eq text h = (mark sign.Equal, refl, h)
relation_back pointer rel.Ne text (e, h) = (mark sign.NotEqual, rw e refl, h)
relation_back pointer rel.Lt text h = (mark sign.Less, not_passes pointer (Some rel.Lt), h)
relation_back pointer rel.Le text h = (mark sign.AtMost, not_passes pointer (Some rel.Le), h)
relation_back pointer rel.Gt text h = (mark sign.Greater, not_passes pointer (Some rel.Gt), h)
relation_back pointer rel.Ge text h = (mark sign.AtLeast, not_passes pointer (Some rel.Ge), h)

reads_relation : (pointer : Bool) → Reads (relation pointer) (Behind pointer)
unfolding relation
reads_relation pointer = reads_as (reads_token (relation_behind pointer) (mark sign.Equal) rel.Eq refl) (λ r text x. subst (λ (l : Line). Behind pointer r l) (sym x.2) (relation_is pointer x.0 r x.1)) (relation_back pointer)

behind_clear : (pointer : Bool) (r : Rel) (text : Line) → Behind pointer r text → (rest : Line) → Clear sum_bars (text ++ rest)
behind_clear pointer rel.Eq text h rest = subst (λ (l : Line). Clear sum_bars (l ++ rest)) (sym h) refl
behind_clear pointer rel.Ne text (e, h) rest = subst (λ (l : Line). Clear sum_bars (l ++ rest)) (sym h) refl
behind_clear pointer rel.Lt text h rest = subst (λ (l : Line). Clear sum_bars (l ++ rest)) (sym h) refl
behind_clear pointer rel.Le text h rest = subst (λ (l : Line). Clear sum_bars (l ++ rest)) (sym h) refl
behind_clear pointer rel.Gt text h rest = subst (λ (l : Line). Clear sum_bars (l ++ rest)) (sym h) refl
behind_clear pointer rel.Ge text h rest = subst (λ (l : Line). Clear sum_bars (l ++ rest)) (sym h) refl

-- ---- the right side

abbrev right_within : Atom → Bool
right_within (atoms.Compare left r right) = sum_within most_levels right
right_within a = true

abbrev Compared : List LinPart → Rel → Atom → Line → Type 0
Compared left r = Made (λ (right : List LinPart). atoms.Compare left r right) Linear

reads_compared : (left : List LinPart) (r : Rel) → ReadsDeep false sum_bars right_within (compared left r) (Compared left r)
unfolding compared
reads_compared left r = deep_made {w2 = right_within} (λ (right : List LinPart). atoms.Compare left r right) reads_sum (λ right. refl)

abbrev null_word : Lexeme → Option (Unit {0})
null_word t = passed (is_word key.Null t)

abbrev NullOrCompared : List LinPart → PtrTerm → Atom → Line → Type 0
NullOrCompared left p = Either null_word (λ _. Given (atoms.Null p true)) (Compared left rel.Eq)

reads_null_or_compared : (left : List LinPart) (p : PtrTerm) → ReadsDeep false sum_bars right_within (null_or_compared left p) (NullOrCompared left p)
unfolding null_or_compared
reads_null_or_compared left p = deep_choose
    (λ _. deep_give (atoms.Null p true) refl)
    (reads_compared left rel.Eq)
    (λ a text h rest clear. (let x = sum_starts h.0 text h.2 in subst (λ (l : Line). Avoids null_word (l ++ rest)) (sym x.2) x.3))

abbrev NotNull : PtrTerm → Atom → Line → Type 0
NotNull p = Made (λ (_ : Unit {0}). atoms.Null p false) (Only (word key.Null))

reads_not_null : (p : PtrTerm) → ReadsDeep false sum_bars right_within (plain (not_null p)) (NotNull p)
unfolding not_null
reads_not_null p = deep_as (deep_plain (reads_made (λ (_ : Unit {0}). atoms.Null p false) (reads_the_word key.Null))) (λ ts c. clear_none ts) (λ a text h. sym (ap right_within h.1)) (λ a text h. h) (λ a text h. h)

abbrev RightSide : List LinPart → Option PtrTerm → Rel → Atom → Line → Type 0
RightSide left (Some p) rel.Eq = NullOrCompared left p
RightSide left (Some p) rel.Ne = NotNull p
RightSide left p r = Compared left r

reads_right_side : (left : List LinPart) (p : Option PtrTerm) (r : Rel) → ReadsDeep false sum_bars right_within (right_side left p r) (RightSide left p r)
reads_right_side left None r = reads_compared left r
reads_right_side left (Some p) rel.Eq = reads_null_or_compared left p
reads_right_side left (Some p) rel.Ne = reads_not_null p
reads_right_side left (Some p) rel.Lt = reads_compared left rel.Lt
reads_right_side left (Some p) rel.Le = reads_compared left rel.Le
reads_right_side left (Some p) rel.Gt = reads_compared left rel.Gt
reads_right_side left (Some p) rel.Ge = reads_compared left rel.Ge

-- ---- comparisons

abbrev Sides : List LinPart → Rel × Atom → Line → Type 0
Sides left v = Behind (is_some (pointer_alone left)) v.0 ⋅ RightSide left (pointer_alone left) v.0 v.1

abbrev ComparisonOf : List LinPart → Atom → Line → Type 0
ComparisonOf left = Made (λ (v : Rel × Atom). v.1) (Sides left)

reads_comparison_of : (left : List LinPart) → ReadsDeep false sum_bars right_within (comparison_of left) (ComparisonOf left)
unfolding comparison_of
reads_comparison_of left = deep_made {w2 = right_within} (λ (v : Rel × Atom). v.1) (deep_both (deep_plain (reads_relation (is_some (pointer_alone left)))) (λ r. reads_right_side left (pointer_alone left) r) (λ r a text h rest clear. clear_none (text ++ rest))) (λ v. refl)

comparison_clear : (left : List LinPart) (a : Atom) (text : Line) → ComparisonOf left a text → (rest : Line) → Clear sum_bars (text ++ rest)
comparison_clear left a text (v, e, (front, after, h, k, parts)) rest = subst (λ (l : Line). Clear sum_bars l) (sym (ap (λ (l : Line). l ++ rest) parts ∙ append_assoc front after rest)) (behind_clear (is_some (pointer_alone left)) v.0 front h (after ++ rest))

abbrev PlainAtom : Atom → Line → Type 0
PlainAtom (atoms.Null p equal) = Pointer p ⋅ Equality equal ⋅ Word key.Null
PlainAtom (atoms.Compare left r right) = Linear left ⋅ SumRelation r ⋅ Linear right
PlainAtom a = λ _. ⊥

abbrev Compares : List LinPart × Atom → Line → Type 0
Compares v = Linear v.0 ⋅ ComparisonOf v.0 v.1

right_is : (left : List LinPart) (o : Option PtrTerm) → pointer_alone left ≡ o → (r : Rel) (b : Atom) (front x y : Line) → Linear left front → Behind (is_some o) r x → RightSide left o r b y → PlainAtom b (front ++ (x ++ y)) × ((sum_within most_levels left && right_within b) ≡ atom_within most_levels b)
right_is left o alone r b front x y l beh right = by_both o alone r beh right
  where
    comparing : (r : Rel) → SumRelation r x → Compared left r b y → PlainAtom b (front ++ (x ++ y)) × ((sum_within most_levels left && right_within b) ≡ atom_within most_levels b)
    comparing r s (v, e, k) =
        let whole : PlainAtom (atoms.Compare left r v) (front ++ (x ++ y)) = (front, x ++ y, l, (x, y, s, k, refl), refl) in
        subst (λ (a : Atom). PlainAtom a (front ++ (x ++ y)) × ((sum_within most_levels left && right_within a) ≡ atom_within most_levels a)) (sym e) (whole, refl)

    with_null : (p : PtrTerm) (equal : Bool) → pointer_alone left ≡ Some p → Equality equal x → Word key.Null y → b ≡ atoms.Null p equal → PlainAtom b (front ++ (x ++ y)) × ((sum_within most_levels left && right_within b) ≡ atom_within most_levels b)
    with_null p equal e q n is =
        let f = alone_sum left p e in
        let whole : PlainAtom (atoms.Null p equal) (front ++ (x ++ y)) = (front, x ++ y, f.1 front l, (x, y, q, n, refl), refl) in
        subst (λ (a : Atom). PlainAtom a (front ++ (x ++ y)) × ((sum_within most_levels left && right_within a) ≡ atom_within most_levels a)) (sym is) (whole, and_true (sum_within most_levels left) ∙ f.0)

    null_is : (t : Lexeme) (u : Unit {0}) (z1 z2 : Line) → null_word t ≡ Some u → z1 ≡ t ∷ [] → z2 ≡ [] → y ≡ z1 ++ z2 → Word key.Null y
    null_is t u z1 z2 h is nil parts = parts ∙ ap (λ (z : Line). z1 ++ z) nil ∙ append-nil z1 ∙ is ∙ ap (λ (w : Lexeme). w ∷ []) (only_word key.Null t (passes (is_word key.Null t) u h))

    by_both : (o : Option PtrTerm) → pointer_alone left ≡ o → (r : Rel) → Behind (is_some o) r x → RightSide left o r b y → PlainAtom b (front ++ (x ++ y)) × ((sum_within most_levels left && right_within b) ≡ atom_within most_levels b)
    by_both None e rel.Eq s k = comparing rel.Eq s k
    by_both None e rel.Ne s k = (let z : false ≡ true = s.0 in absurd cc)
    by_both None e rel.Lt s k = comparing rel.Lt s k
    by_both None e rel.Le s k = comparing rel.Le s k
    by_both None e rel.Gt s k = comparing rel.Gt s k
    by_both None e rel.Ge s k = comparing rel.Ge s k
    by_both (Some p) e rel.Eq s (inl (u, (z1, z2, (t, h, is), (same, nil), parts))) = with_null p true e s (null_is t u z1 z2 h is nil parts) same
    by_both (Some p) e rel.Eq s (inr k) = comparing rel.Eq s k
    by_both (Some p) e rel.Ne s (u, same, n) = with_null p false e s.1 n same
    by_both (Some p) e rel.Lt s k = comparing rel.Lt s k
    by_both (Some p) e rel.Le s k = comparing rel.Le s k
    by_both (Some p) e rel.Gt s k = comparing rel.Gt s k
    by_both (Some p) e rel.Ge s k = comparing rel.Ge s k

abbrev Right : Atom → List LinPart → Line → Type 0
Right a left text = PlainAtom a text × ((sum_within most_levels left && right_within a) ≡ atom_within most_levels a)

compares_are : (left : List LinPart) (a : Atom) (text : Line) → Compares (left, a) text → Right a left text
compares_are left a text (front, after, l, (v, e, (x, y, beh, right, p2)), p1) =
    let whole : Right v.1 left (front ++ (x ++ y)) = right_is left (pointer_alone left) refl v.0 v.1 front x y l beh right in
    subst (λ (b : Atom). Right b left text) (sym e) (subst (λ (t : Line). Right v.1 left t) (sym (p1 ∙ ap (λ (t : Line). front ++ t) p2)) whole)

sides_back : (left : List LinPart) (o : Option PtrTerm) (r : Rel) (right : List LinPart) (x y : Line) → SumRelation r x → Linear right y → Behind (is_some o) r x × RightSide left o r (atoms.Compare left r right) y
sides_back left o rel.Ne right x y s k = absurd s
sides_back left None rel.Eq right x y s k = (s, (right, refl, k))
sides_back left None rel.Lt right x y s k = (s, (right, refl, k))
sides_back left None rel.Le right x y s k = (s, (right, refl, k))
sides_back left None rel.Gt right x y s k = (s, (right, refl, k))
sides_back left None rel.Ge right x y s k = (s, (right, refl, k))
sides_back left (Some p) rel.Eq right x y s k = (s, inr (right, refl, k))
sides_back left (Some p) rel.Lt right x y s k = (s, (right, refl, k))
sides_back left (Some p) rel.Le right x y s k = (s, (right, refl, k))
sides_back left (Some p) rel.Gt right x y s k = (s, (right, refl, k))
sides_back left (Some p) rel.Ge right x y s k = (s, (right, refl, k))

abbrev SidesBy : List LinPart → Option PtrTerm → Rel → Atom → Line → Line → Type 0
SidesBy left o r a x y = Behind (is_some o) r x × RightSide left o r a y

null_back : (left : List LinPart) (p : PtrTerm) (equal : Bool) (x y : Line) → Equality equal x → Word key.Null y → (r : Rel) × SidesBy left (Some p) r (atoms.Null p equal) x y
null_back left p true x y q n = (rel.Eq, (q, inl (tt, (y, [], (word key.Null, refl, n), (refl, refl), sym (append-nil y)))))
null_back left p false x y q n = (rel.Ne, ((refl, q), (tt, refl, n)))

plain_back : (a : Atom) (text : Line) → PlainAtom a text → Made (λ (v : List LinPart × Atom). v.1) Compares a text
plain_back (atoms.Null p equal) text (front, after, l, (x, y, q, n, p2), p1) =
    let s = pointer_sum p in
    let b = null_back s.0 p equal x y q n in
    let c : SidesBy s.0 (pointer_alone s.0) b.0 (atoms.Null p equal) x y = subst (λ (o : Option PtrTerm). SidesBy s.0 o b.0 (atoms.Null p equal) x y) (sym s.1) b.1 in
    ((s.0, atoms.Null p equal), refl, (front, after, s.2 front l, ((b.0, atoms.Null p equal), refl, (x, y, c.0, c.1, p2)), p1))
plain_back (atoms.Compare left r right) text (front, after, l, (x, y, s, k, p2), p1) =
    let c = sides_back left (pointer_alone left) r right x y s k in
    ((left, atoms.Compare left r right), refl, (front, after, l, ((r, atoms.Compare left r right), refl, (x, y, c.0, c.1, p2)), p1))
plain_back (atoms.Nullt p) text h = absurd h
plain_back (atoms.Clear p) text h = absurd h
plain_back (atoms.Fresh p) text h = absurd h
plain_back (atoms.Apart p q) text h = absurd h
plain_back (atoms.SameBase p q) text h = absurd h

reads_comparison : ReadsDeep false sum_bars (atom_within most_levels) comparison PlainAtom
unfolding comparison
reads_comparison = deep_as
    (deep_made {w2 = atom_within most_levels} (λ (v : List LinPart × Atom). v.1)
    (deep_as {w2 = λ (v : List LinPart × Atom). atom_within most_levels v.1}
    (deep_both reads_sum reads_comparison_of (λ left a text h rest clear. comparison_clear left a text h rest))
    (λ ts c. c) (λ v text h. (compares_are v.0 v.1 text h).1) (λ v text h. h) (λ v text h. h))
    (λ v. refl))
    (λ ts c. c) (λ a text h. refl)
    (λ a text x. subst (λ (b : Atom). PlainAtom b text) (sym x.1) (compares_are x.0.0 x.0.1 text x.2).0)
    plain_back

-- ---- atoms of one word

abbrev Closed : PtrTerm → Line → Type 0
Closed p = Pointer p ⋅ Only (mark sign.Close) tt

closed_law : ReadsDeep false none (pointer_within most_levels) (pointer most_levels ⊲ close) Closed
closed_law = deep_ended (reads_pointer 100) reads_close close_clear

abbrev Two : (PtrTerm × PtrTerm) → Bool
Two v = pointer_within most_levels v.0 && pointer_within most_levels v.1

abbrev TwoPointers : PtrTerm × PtrTerm → Line → Type 0
TwoPointers v = Pointer v.0 ⋅ Only (mark sign.Comma) tt ⋅ Closed v.1

reads_two_pointers : ReadsDeep false none Two two_pointers TwoPointers
unfolding two_pointers
reads_two_pointers = deep_both (reads_pointer 100) (λ _. deep_then (reads_the_mark sign.Comma) closed_law) (λ p q text (a, b, h, k, parts) rest clear. subst (λ (l : Line). Clear opens (l ++ rest)) (sym (parts ∙ ap (λ (l : Line). l ++ b) h)) refl)

abbrev TwoBases : PtrTerm × PtrTerm → Line → Type 0
TwoBases v = Closed v.0 ⋅ Only (mark sign.Equal) tt ⋅ Only (name (codes "base")) tt ⋅ Only (mark sign.Open) tt ⋅ Closed v.1

reads_two_bases : ReadsDeep false none Two two_bases TwoBases
unfolding two_bases
reads_two_bases = deep_both closed_law (λ _. deep_then (reads_the_mark sign.Equal) (deep_then (reads_the_name (codes "base")) (deep_then (reads_the_mark sign.Open) closed_law))) (λ p q text h rest clear. clear_none (text ++ rest))

abbrev apart_of : PtrTerm × PtrTerm → Atom
apart_of v = atoms.Apart v.0 v.1

abbrev base_of : PtrTerm × PtrTerm → Atom
base_of v = atoms.SameBase v.0 v.1

abbrev PredicatedText : Predicate → Atom → Line → Type 0
PredicatedText predicate.Nullt = Made atoms.Nullt Closed
PredicatedText predicate.Clear = Made atoms.Clear Closed
PredicatedText predicate.Fresh = Made atoms.Fresh Closed
PredicatedText predicate.Apart = Made apart_of TwoPointers
PredicatedText predicate.Base = Made base_of TwoBases

abbrev barred : {A : Type 0} {w : A → Bool} {r : Deep Lexeme A} {p : A → Line → Type 0} → ReadsDeep false none w r p → ReadsDeep false sum_bars w r p
barred by = deep_as by (λ ts c. clear_none ts) (λ a text h. refl) (λ a text h. h) (λ a text h. h)

reads_predicated : (b : Predicate) → ReadsDeep false sum_bars (atom_within most_levels) (predicated b) (PredicatedText b)
reads_predicated predicate.Nullt = barred (deep_made {w2 = atom_within most_levels} atoms.Nullt closed_law (λ p. refl))
reads_predicated predicate.Clear = barred (deep_made {w2 = atom_within most_levels} atoms.Clear closed_law (λ p. refl))
reads_predicated predicate.Fresh = barred (deep_made {w2 = atom_within most_levels} atoms.Fresh closed_law (λ p. refl))
reads_predicated predicate.Apart = barred (deep_made {w2 = atom_within most_levels} apart_of reads_two_pointers (λ v. refl))
reads_predicated predicate.Base = barred (deep_made {w2 = atom_within most_levels} base_of reads_two_bases (λ v. refl))

abbrev predicate_word : Predicate → List ℕ
predicate_word predicate.Nullt = codes "nullt"
predicate_word predicate.Clear = codes "clear"
predicate_word predicate.Fresh = codes "fresh"
predicate_word predicate.Apart = codes "apart"
predicate_word predicate.Base = codes "base"

predicate_back : (b : Predicate) → predicate_of (predicate_word b) ≡ Some b
predicate_back predicate.Nullt = refl
predicate_back predicate.Clear = refl
predicate_back predicate.Fresh = refl
predicate_back predicate.Apart = refl
predicate_back predicate.Base = refl

predicate_is : (x : List ℕ) (b : Predicate) → predicate_of x ≡ Some b → x ≡ predicate_word b
predicate_is x b h = by_nullt (bytes_eq x (codes "nullt")) refl h
  where
    done : (c : Predicate) → bytes_eq x (predicate_word c) ≡ true → Some c ≡ Some b → x ≡ predicate_word b
    done c e k = let same : c ≡ b = cc in bytes_same x (predicate_word c) e ∙ ap predicate_word same

    by_base : (v : Bool) → bytes_eq x (codes "base") ≡ v → (if v then Some predicate.Base else None) ≡ Some b → x ≡ predicate_word b
    by_base true e k = done predicate.Base e k
    by_base false e k = absurd cc

    by_apart : (v : Bool) → bytes_eq x (codes "apart") ≡ v → (if v then Some predicate.Apart else if bytes_eq x (codes "base") then Some predicate.Base else None) ≡ Some b → x ≡ predicate_word b
    by_apart true e k = done predicate.Apart e k
    by_apart false e k = by_base (bytes_eq x (codes "base")) refl k

    by_fresh : (v : Bool) → bytes_eq x (codes "fresh") ≡ v → (if v then Some predicate.Fresh else if bytes_eq x (codes "apart") then Some predicate.Apart else if bytes_eq x (codes "base") then Some predicate.Base else None) ≡ Some b → x ≡ predicate_word b
    by_fresh true e k = done predicate.Fresh e k
    by_fresh false e k = by_apart (bytes_eq x (codes "apart")) refl k

    by_clear : (v : Bool) → bytes_eq x (codes "clear") ≡ v → (if v then Some predicate.Clear else if bytes_eq x (codes "fresh") then Some predicate.Fresh else if bytes_eq x (codes "apart") then Some predicate.Apart else if bytes_eq x (codes "base") then Some predicate.Base else None) ≡ Some b → x ≡ predicate_word b
    by_clear true e k = done predicate.Clear e k
    by_clear false e k = by_fresh (bytes_eq x (codes "fresh")) refl k

    by_nullt : (v : Bool) → bytes_eq x (codes "nullt") ≡ v → (if v then Some predicate.Nullt else if bytes_eq x (codes "clear") then Some predicate.Clear else if bytes_eq x (codes "fresh") then Some predicate.Fresh else if bytes_eq x (codes "apart") then Some predicate.Apart else if bytes_eq x (codes "base") then Some predicate.Base else None) ≡ Some b → x ≡ predicate_word b
    by_nullt true e k = done predicate.Nullt e k
    by_nullt false e k = by_clear (bytes_eq x (codes "clear")) refl k

-- ---- atoms

abbrev CalledAtom : Atom → Line → Type 0
CalledAtom = Called (as_name predicate_of) opens PredicatedText PlainAtom

-- two pointers in one pair of brackets, and two pointers in brackets of their own
regrouped : (p q : PtrTerm) (text : Line) → TwoPointers (p, q) text → ((Pointer p ⋅ Mark sign.Comma ⋅ Pointer q) ⋅ Mark sign.Close) text
regrouped p q text h = to_left (Pointer p) (Mark sign.Comma ⋅ Pointer q) (Mark sign.Close) text (second_as (Pointer p) (Mark sign.Comma ⋅ Pointer q ⋅ Mark sign.Close) ((Mark sign.Comma ⋅ Pointer q) ⋅ Mark sign.Close) (to_left (Mark sign.Comma) (Pointer q) (Mark sign.Close)) text h)

grouped : (p q : PtrTerm) (text : Line) → ((Pointer p ⋅ Mark sign.Comma ⋅ Pointer q) ⋅ Mark sign.Close) text → TwoPointers (p, q) text
grouped p q text h = second_as (Pointer p) ((Mark sign.Comma ⋅ Pointer q) ⋅ Mark sign.Close) (Mark sign.Comma ⋅ Pointer q ⋅ Mark sign.Close) (to_right (Mark sign.Comma) (Pointer q) (Mark sign.Close)) text (to_right (Pointer p) (Mark sign.Comma ⋅ Pointer q) (Mark sign.Close) text h)

atom_called : (b : Predicate) (a : Atom) (t u : Lexeme) (rest text : Line) → text ≡ t ∷ u ∷ rest → t ≡ name (predicate_word b) → u ≡ mark sign.Open → PredicatedText b a rest → AtomText a text
atom_called predicate.Nullt a t u rest text is h k (q, e, m) = subst (λ (x : Atom). AtomText x text) (sym e) (let whole : AtomText (atoms.Nullt q) text = called_text (codes "nullt") (Pointer q) t u rest text is h k m in whole)
atom_called predicate.Clear a t u rest text is h k (q, e, m) = subst (λ (x : Atom). AtomText x text) (sym e) (let whole : AtomText (atoms.Clear q) text = called_text (codes "clear") (Pointer q) t u rest text is h k m in whole)
atom_called predicate.Fresh a t u rest text is h k (q, e, m) = subst (λ (x : Atom). AtomText x text) (sym e) (let whole : AtomText (atoms.Fresh q) text = called_text (codes "fresh") (Pointer q) t u rest text is h k m in whole)
atom_called predicate.Apart a t u rest text is h k (v, e, m) = subst (λ (x : Atom). AtomText x text) (sym e) (let whole : AtomText (apart_of v) text = called_text (codes "apart") (Pointer v.0 ⋅ Mark sign.Comma ⋅ Pointer v.1) t u rest text is h k (regrouped v.0 v.1 rest m) in whole)
atom_called predicate.Base a t u rest text is h k (v, e, (x, y, m, n, parts)) =
    let first : Applied (codes "base") (Pointer v.0) (t ∷ u ∷ x) = called_text (codes "base") (Pointer v.0) t u x (t ∷ u ∷ x) refl h k m in
    let whole : AtomText (base_of v) text = (t ∷ u ∷ x, y, first, n, is ∙ ap (λ (l : Line). t ∷ u ∷ l) parts) in
    subst (λ (z : Atom). AtomText z text) (sym e) whole

atom_is : (a : Atom) (text : Line) → CalledAtom a text → AtomText a text
atom_is a text (inl (t, u, rest, b, is, h, k, m)) = let x = named_by predicate_of t b h in atom_called b a t u rest text is (x.1 ∙ ap name (predicate_is x.0 b x.2)) (opens_is u k) m
atom_is (atoms.Null p equal) text (inr h) = h
atom_is (atoms.Compare left r right) text (inr h) = h
atom_is (atoms.Nullt p) text (inr h) = absurd h
atom_is (atoms.Clear p) text (inr h) = absurd h
atom_is (atoms.Fresh p) text (inr h) = absurd h
atom_is (atoms.Apart p q) text (inr h) = absurd h
atom_is (atoms.SameBase p q) text (inr h) = absurd h

called_back : (b : Predicate) (a : Atom) (inside : Line → Type 0) (text : Line) → Applied (predicate_word b) inside text → ((rest : Line) → (inside ⋅ Mark sign.Close) rest → PredicatedText b a rest) → CalledAtom a text
called_back b a inside text h f = let c = text_called (predicate_word b) inside text h in inl (name (predicate_word b), mark sign.Open, c.0, b, c.1, predicate_back b, refl, f c.0 c.2)

atom_back : (a : Atom) (text : Line) → AtomText a text → CalledAtom a text
atom_back (atoms.Null p equal) text h = inr h
atom_back (atoms.Compare left r right) text h = inr h
atom_back (atoms.Nullt p) text h = called_back predicate.Nullt (atoms.Nullt p) (Pointer p) text h (λ rest m. (p, refl, m))
atom_back (atoms.Clear p) text h = called_back predicate.Clear (atoms.Clear p) (Pointer p) text h (λ rest m. (p, refl, m))
atom_back (atoms.Fresh p) text h = called_back predicate.Fresh (atoms.Fresh p) (Pointer p) text h (λ rest m. (p, refl, m))
atom_back (atoms.Apart p q) text h = called_back predicate.Apart (atoms.Apart p q) (Pointer p ⋅ Mark sign.Comma ⋅ Pointer q) text h (λ rest m. ((p, q), refl, grouped p q rest m))
atom_back (atoms.SameBase p q) text (x, y, h, m, parts) =
    let c = text_called (codes "base") (Pointer p) x h in
    inl (name (codes "base"), mark sign.Open, c.0 ++ y, predicate.Base, parts ∙ ap (λ (l : Line). l ++ y) c.1, refl, refl, ((p, q), refl, (c.0, y, c.2, m, refl)))

-- ---- where no word stands in front

not_called : (f : List ℕ) (inside : Line → Type 0) (text : Line) → predicate_of f ≡ None → Applied f inside text → (rest : Line) → call_at (as_name predicate_of) opens (text ++ rest) ≡ None
not_called f inside text e h rest =
    let c = text_called f inside text h in
    ap (λ (l : Line). call_at (as_name predicate_of) opens (l ++ rest)) c.1 ∙ ap (λ (o : Option Predicate). call_by o true (c.0 ++ rest)) e

term_apart : (t : Term) (text : Line) → TermText t text → (rest : Line) → Clear opens rest → call_at (as_name predicate_of) opens (text ++ rest) ≡ None
term_apart (terms.Name x) text h rest clear = simple_term_apart predicate_of (terms.Name x) text h rest clear
term_apart (terms.Star x) text h rest clear = simple_term_apart predicate_of (terms.Star x) text h rest clear
term_apart terms.Answer text h rest clear = simple_term_apart predicate_of terms.Answer text h rest clear
term_apart (terms.Pre' s held) text h rest clear = not_called (codes "pre") (TermHeld held) text refl h rest
term_apart (terms.Alloc p) text h rest clear = not_called (codes "alloc") (Pointer p) text refl h rest
term_apart (terms.Offset p) text h rest clear = not_called (codes "offset") (Pointer p) text refl h rest
term_apart (terms.Strlen p) text h rest clear = not_called (codes "strlen") (Pointer p) text refl h rest

no_name : (t : Lexeme) (rest : Line) → as_name predicate_of t ≡ None → call_at (as_name predicate_of) opens (t ∷ rest) ≡ None
no_name t [] e = refl
no_name t (u ∷ rest) e = ap (λ (o : Option Predicate). call_by o (opens u) rest) e

later_clear : (xs : List LinPart) (text rest : Line) → LaterParts xs text → Clear opens rest → Clear opens (text ++ rest)
later_clear [] text rest h clear = subst (λ (l : Line). Clear opens (l ++ rest)) (sym h) clear
later_clear (p ∷ xs) text rest h clear = by_sign p.negative h
  where
    by_sign : (negative : Bool) → (LaterSign negative ⋅ Factor p.number p.term ⋅ LaterParts xs) text → Clear opens (text ++ rest)
    by_sign true (a, b, k, m, parts) = subst (λ (l : Line). Clear opens (l ++ rest)) (sym (parts ∙ ap (λ (l : Line). l ++ b) k)) refl
    by_sign false (a, b, k, m, parts) = subst (λ (l : Line). Clear opens (l ++ rest)) (sym (parts ∙ ap (λ (l : Line). l ++ b) k)) refl

factor_apart : (number : Option ℕ) (t : Option Term) (text : Line) → Factor number t text → (rest : Line) → Clear opens rest → call_at (as_name predicate_of) opens (text ++ rest) ≡ None
factor_apart None None text h rest clear = absurd h
factor_apart None (Some t) text h rest clear = term_apart t text h rest clear
factor_apart (Some k) None text (low, high, (ds, e, is)) rest clear = ap (λ (l : Line). call_at (as_name predicate_of) opens (l ++ rest)) is ∙ no_name (digits ds) rest refl
factor_apart (Some k) (Some t) text (a, b, (low, high, (ds, e, is)), m, parts) rest clear = ap (λ (l : Line). call_at (as_name predicate_of) opens (l ++ rest)) (parts ∙ ap (λ (l : Line). l ++ b) is) ∙ no_name (digits ds) (b ++ rest) refl

signed_apart : (negative : Bool) (number : Option ℕ) (t : Option Term) (xs : List LinPart) (text : Line) → (FirstSign negative ⋅ Factor number t ⋅ LaterParts xs) text → (rest : Line) → Clear opens rest → call_at (as_name predicate_of) opens (text ++ rest) ≡ None
signed_apart true number t xs text (a, b, h, m, parts) rest clear = ap (λ (l : Line). call_at (as_name predicate_of) opens (l ++ rest)) (parts ∙ ap (λ (l : Line). l ++ b) h) ∙ no_name (mark sign.Minus) (b ++ rest) refl
signed_apart false number t xs text (a, b, h, (c, d, k, m, p2), p1) rest clear =
    ap (call_at (as_name predicate_of) opens) (ap (λ (l : Line). l ++ rest) (p1 ∙ ap (λ (l : Line). l ++ b) h ∙ p2) ∙ append_assoc c d rest)
    ∙ factor_apart number t c k (d ++ rest) (later_clear xs d rest m clear)

sum_apart : (left : List LinPart) (text : Line) → Linear left text → (rest : Line) → Clear opens rest → call_at (as_name predicate_of) opens (text ++ rest) ≡ None
sum_apart [] text h rest clear = absurd h
sum_apart (p ∷ xs) text h rest clear = signed_apart p.negative p.number p.term xs text h rest clear

pointer_apart : (p : PtrTerm) (text : Line) → Pointer p text → (rest : Line) → Clear opens rest → call_at (as_name predicate_of) opens (text ++ rest) ≡ None
pointer_apart p text h rest clear = let b = alone_back p in term_apart b.0 text (b.2 text h) rest clear

equality_clear : (equal : Bool) (text : Line) → Equality equal text → (rest : Line) → Clear opens (text ++ rest)
equality_clear true text h rest = subst (λ (l : Line). Clear opens (l ++ rest)) (sym h) refl
equality_clear false text h rest = subst (λ (l : Line). Clear opens (l ++ rest)) (sym h) refl

relation_clear : (r : Rel) (text : Line) → SumRelation r text → (rest : Line) → Clear opens (text ++ rest)
relation_clear rel.Eq text h rest = subst (λ (l : Line). Clear opens (l ++ rest)) (sym h) refl
relation_clear rel.Ne text h rest = absurd h
relation_clear rel.Lt text h rest = subst (λ (l : Line). Clear opens (l ++ rest)) (sym h) refl
relation_clear rel.Le text h rest = subst (λ (l : Line). Clear opens (l ++ rest)) (sym h) refl
relation_clear rel.Gt text h rest = subst (λ (l : Line). Clear opens (l ++ rest)) (sym h) refl
relation_clear rel.Ge text h rest = subst (λ (l : Line). Clear opens (l ++ rest)) (sym h) refl

three : (front x y rest text after : Line) → text ≡ front ++ after → after ≡ x ++ y → text ++ rest ≡ front ++ (x ++ (y ++ rest))
three front x y rest text after p1 p2 = ap (λ (l : Line). l ++ rest) (p1 ∙ ap (λ (l : Line). front ++ l) p2) ∙ append_assoc front (x ++ y) rest ∙ ap (λ (l : Line). front ++ l) (append_assoc x y rest)

plain_apart : (a : Atom) (text : Line) → PlainAtom a text → (rest : Line) → call_at (as_name predicate_of) opens (text ++ rest) ≡ None
plain_apart (atoms.Null p equal) text (front, after, h, (x, y, q, n, p2), p1) rest = ap (call_at (as_name predicate_of) opens) (three front x y rest text after p1 p2) ∙ pointer_apart p front h (x ++ (y ++ rest)) (equality_clear equal x q (y ++ rest))
plain_apart (atoms.Compare left r right) text (front, after, h, (x, y, s, k, p2), p1) rest = ap (call_at (as_name predicate_of) opens) (three front x y rest text after p1 p2) ∙ sum_apart left front h (x ++ (y ++ rest)) (relation_clear r x s (y ++ rest))
plain_apart (atoms.Nullt p) text h rest = absurd h
plain_apart (atoms.Clear p) text h rest = absurd h
plain_apart (atoms.Fresh p) text h rest = absurd h
plain_apart (atoms.Apart p q) text h rest = absurd h
plain_apart (atoms.SameBase p q) text h rest = absurd h

empty_front : (front after : Line) → [] ≡ front ++ after → (front ≡ []) × (after ≡ [])
empty_front [] after h = (refl, sym h)
empty_front (t ∷ front) after h = absurd cc

not_empty : (s : Sign) (x : Line) → Mark s x → x ≡ [] → ⊥
not_empty s x h e = (let k = sym h ∙ e in absurd cc)

plain_long : (a : Atom) → PlainAtom a [] → ⊥
plain_long (atoms.Null p true) (front, after, h, (x, y, q, n, p2), p1) = not_empty sign.Equal x q (empty_front x y (sym (empty_front front after p1).1 ∙ p2)).0
plain_long (atoms.Null p false) (front, after, h, (x, y, q, n, p2), p1) = not_empty sign.NotEqual x q (empty_front x y (sym (empty_front front after p1).1 ∙ p2)).0
plain_long (atoms.Compare left r right) (front, after, h, (x, y, s, k, p2), p1) = by_relation r s
  where
    nil : x ≡ []
    nil = (empty_front x y (sym (empty_front front after p1).1 ∙ p2)).0

    by_relation : (r : Rel) → SumRelation r x → ⊥
    by_relation rel.Eq s = not_empty sign.Equal x s nil
    by_relation rel.Ne s = s
    by_relation rel.Lt s = not_empty sign.Less x s nil
    by_relation rel.Le s = not_empty sign.AtMost x s nil
    by_relation rel.Gt s = not_empty sign.Greater x s nil
    by_relation rel.Ge s = not_empty sign.AtLeast x s nil
plain_long (atoms.Nullt p) h = h
plain_long (atoms.Clear p) h = h
plain_long (atoms.Fresh p) h = h
plain_long (atoms.Apart p q) h = h
plain_long (atoms.SameBase p q) h = h

pub reads_atom : ReadsDeep false sum_bars (atom_within most_levels) atom AtomText
unfolding atom
reads_atom = deep_as
    (deep_called reads_predicated reads_comparison (λ a text h rest clear. plain_apart a text h rest)
    (λ t b h. (let x = named_by predicate_of t b h in (atoms.Null (pointers.Name x.0) true, mark sign.Equal ∷ word key.Null ∷ [], refl, (t ∷ [], mark sign.Equal ∷ word key.Null ∷ [], ap (λ (l : Lexeme). l ∷ []) x.1, (mark sign.Equal ∷ [], word key.Null ∷ [], refl, refl, refl), refl))))
    plain_long)
    (λ ts c. c) (λ a text h. refl) atom_is atom_back

-- ---- items

abbrev SimpleItem : Item → Line → Type 0
SimpleItem (items.Body p) = λ _. ⊥
SimpleItem (items.Star x) = Mark sign.Star ⋅ Name x
SimpleItem (items.Name x) = Name x

abbrev EitherItem : Item → Line → Type 0
EitherItem = Or (λ i. one (mark sign.Star) ⋅ Made items.Star Name i) (Made items.Name Name)

simple_item_is : (i : Item) (text : Line) → EitherItem i text → SimpleItem i text
simple_item_is i text (inl (front, rest, h, (x, e, k), parts)) = subst (λ (j : Item). SimpleItem j text) (sym e) (let whole : SimpleItem (items.Star x) text = (front, rest, h, k, parts) in whole)
simple_item_is i text (inr (x, e, k)) = subst (λ (j : Item). SimpleItem j text) (sym e) (let whole : SimpleItem (items.Name x) text = k in whole)

simple_item_back : (i : Item) (text : Line) → SimpleItem i text → EitherItem i text
simple_item_back (items.Body p) text h = absurd h
simple_item_back (items.Star x) text (front, rest, h, k, parts) = inl (front, rest, h, (x, refl, k), parts)
simple_item_back (items.Name x) text h = inr (x, refl, h)

name_elsewhere : BeginsElsewhere (λ t. passed (is_mark sign.Star t)) (Made items.Name Name)
name_elsewhere i text (x, e, h) = (name x, [], h, refl)

reads_simple_item : Reads simple_item SimpleItem
unfolding simple_item
reads_simple_item = reads_as (reads_on (is_mark sign.Star) (mark sign.Star) refl (only_mark sign.Star) (reads_made items.Star reads_a_name) (reads_made items.Name reads_a_name) name_elsewhere) simple_item_is simple_item_back

item_small : (i : Item) (text : Line) → SimpleItem i text → all_within i ≡ item_within most_levels i
item_small (items.Body p) text h = absurd h
item_small (items.Star x) text h = refl
item_small (items.Name x) text h = refl

abbrev CalledItem : Item → Line → Type 0
CalledItem = Called (as_name body_of) opens (λ (_ : Unit {0}). Made items.Body Closed) SimpleItem

item_is : (i : Item) (text : Line) → CalledItem i text → ItemText i text
item_is i text (inl (t, u, rest, b, is, h, k, (p, e, m))) =
    let x = named_by body_of t b h in
    let word_is : x.0 ≡ codes "body" = bytes_same x.0 (codes "body") (passes _ b x.2) in
    let whole : ItemText (items.Body p) text = called_text (codes "body") (Pointer p) t u rest text is (x.1 ∙ ap name word_is) (opens_is u k) m in
    subst (λ (j : Item). ItemText j text) (sym e) whole
item_is (items.Body p) text (inr h) = absurd h
item_is (items.Star x) text (inr h) = h
item_is (items.Name x) text (inr h) = h

item_back : (i : Item) (text : Line) → ItemText i text → CalledItem i text
item_back (items.Body p) text h = let c = text_called (codes "body") (Pointer p) text h in inl (name (codes "body"), mark sign.Open, c.0, tt, c.1, refl, refl, (p, refl, c.2))
item_back (items.Star x) text h = inr h
item_back (items.Name x) text h = inr h

item_apart : (i : Item) (text : Line) → SimpleItem i text → (rest : Line) → Clear opens rest → call_at (as_name body_of) opens (text ++ rest) ≡ None
item_apart (items.Body p) text h rest clear = absurd h
item_apart (items.Star x) text h rest clear = simple_pointer_apart body_of (pointers.Star x) text h rest clear
item_apart (items.Name x) text h rest clear = simple_pointer_apart body_of (pointers.Name x) text h rest clear

item_long : (i : Item) → SimpleItem i [] → ⊥
item_long (items.Body p) h = h
item_long (items.Star x) (a, b, h, k, parts) = not_empty sign.Star a h (empty_front a b parts).0
item_long (items.Name x) h = absurd cc

pub reads_item : ReadsDeep false opens (item_within most_levels) item ItemText
unfolding item
reads_item = deep_as
    (deep_called {w = item_within most_levels}
    (λ _. deep_as (deep_made {w2 = item_within most_levels} items.Body closed_law (λ p. refl)) (λ ts c. clear_none ts) (λ i text h. refl) (λ i text h. h) (λ i text h. h))
    (deep_as (deep_plain reads_simple_item) (λ ts c. clear_none ts) item_small (λ i text h. h) (λ i text h. h))
    item_apart
    (λ t b h. (let x = named_by body_of t b h in (items.Name x.0, [], refl, ap (λ (l : Lexeme). l ∷ []) x.1)))
    item_long)
    (λ ts c. c) (λ i text h. refl) item_is item_back
