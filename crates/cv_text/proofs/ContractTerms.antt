-- What the pointers and the terms of contracts are read from.
use Rattle.std.proofs.Common.{◌≡◌, ℕ, zero, suc, Bool, true, false, leb, List, [], ◌∷◌, ◌++◌, Option, Some, None, refl, sym, ap, subst, ◌∙◌, arith, inl, inr, codes}
use Rattle.std.proofs.Math.Dec.{leb-suc-zero, leb-suc-suc}
use Rattle.std.proofs.lemmas.Bool.{le-leb}
use Rattle.std.specs.Option.{option_map}
use Rattle.std.specs.Str.{bytes_eq}
use Rattle.cv_core.specs.declared.program.PtrTerm.{PtrTerm, Row_of-PtrTerm, end_of-PtrTerm, more_of-PtrTerm}
use Rattle.cv_core.specs.declared.program.PtrTerm.TheVariants as pointers
use Rattle.cv_core.specs.declared.program.Term.{Term, Row_of-Term, end_of-Term, more_of-Term}
use Rattle.cv_core.specs.declared.program.Term.TheVariants as terms
use Rattle.cv_core.specs.Terms.{pre_pointer, pre_term}
use Rattle.cv_reading.specs.Phrase.{one, ◌⋅◌}
use Rattle.cv_reading.specs.Reading.{passed}
use Rattle.cv_reading.specs.Fault.{Viable}
use Rattle.cv_reading.specs.Deep.{call_by, call_at}
use Rattle.cv_reading.proofs.Laws.{Reads, Only, Made, Or, Token, BeginsElsewhere, reads_token, reads_as, reads_made, reads_on, passes}
use Rattle.cv_reading.proofs.Deep.{ReadsDeep, Clear, none, clear_none, all_within, Called, deep_plain, deep_as, deep_made, deep_ended, deep_called, deep_refused}
use Rattle.cv_text.specs.declared.token.Key.TheVariants as key
use Rattle.cv_text.specs.declared.token.Sign.TheVariants as sign
use Rattle.cv_text.specs.declared.nesting.Head.{Head}
use Rattle.cv_text.specs.declared.nesting.Head.TheVariants as head
use Rattle.cv_text.specs.Tokens.{Lexeme, name, word, digits, mark, other, Line}
use Rattle.cv_text.specs.Grammar.{Name, Word, Mark}
use Rattle.cv_text.specs.Clauses.{Applied, Pointer, PointerHeld, TermText, TermHeld}
use Rattle.cv_text.specs.Levels.{pointer_levels, term_levels, pointer_within, term_within}
use Rattle.cv_text.specs.Reader.{is_word, is_mark}
use Rattle.cv_text.specs.ContractReader.{as_name, pre_of, head_of, close, opens_level, too_deep, one_pointer, simple_pointer, pointer, one_term, simple_term, argument, term}
use Rattle.cv_text.proofs.Singles.{only_word, only_mark, bytes_same, reads_the_mark, reads_a_name}

-- ---- pre(..) of one part

pub pre_pointer_shape : (s : (mathlib.Core.Former.this {0}).Shape) (held : Row_of-PtrTerm (mathlib.Core.Former.arity (mathlib.Core.Former.this {0}) s)) → (t : PtrTerm) × (pointers.Pre' s held ≡ pre_pointer t)
pre_pointer_shape s (more_of-PtrTerm t end_of-PtrTerm) = (t, refl)

pub pre_term_shape : (s : (mathlib.Core.Former.this {0}).Shape) (held : Row_of-Term (mathlib.Core.Former.arity (mathlib.Core.Former.this {0}) s)) → (t : Term) × (terms.Pre' s held ≡ pre_term t)
pre_term_shape s (more_of-Term t end_of-Term) = (t, refl)

-- ---- words in front of a bracket

abbrev pub opens : Lexeme → Bool
opens t = is_mark sign.Open t

pub reads_close : Reads close (Only (mark sign.Close))
reads_close = reads_the_mark sign.Close

pub close_clear : (text : Line) → Only (mark sign.Close) tt text → (rest : Line) → Clear opens (text ++ rest)
close_clear text h rest = subst (λ (l : Line). Clear opens (l ++ rest)) (sym h) refl

pub named_by : {B : Type 0} (f : List ℕ → Option B) (t : Lexeme) (b : B) → as_name f t ≡ Some b → (x : List ℕ) × (t ≡ name x) × (f x ≡ Some b)
named_by f (name x) b h = (x, refl, h)
named_by f (word k) b h = absurd cc
named_by f (digits ds) b h = absurd cc
named_by f (mark s) b h = absurd cc
named_by f other b h = absurd cc

pub no_call : {B : Type 0} (o : Option B) (rest : Line) → call_by o false rest ≡ None
no_call (Some b) rest = refl
no_call None rest = refl

-- a name that no bracket follows
pub name_alone : {B : Type 0} (f : List ℕ → Option B) (x : List ℕ) (rest : Line) → Clear opens rest → call_at (as_name f) opens (name x ∷ rest) ≡ None
name_alone f x [] clear = refl
name_alone f x (u ∷ rest) clear = ap (λ (b : Bool). call_by (f x) b rest) clear ∙ no_call (f x) rest

pub opens_is : (t : Lexeme) → opens t ≡ true → t ≡ mark sign.Open
opens_is t h = only_mark sign.Open t h

-- a word and what is in brackets, token by token
pub called_text : (f : List ℕ) (inside : Line → Type 0) (t u : Lexeme) (rest text : Line) → text ≡ t ∷ u ∷ rest → t ≡ name f → u ≡ mark sign.Open → (inside ⋅ Mark sign.Close) rest → Applied f inside text
called_text f inside t u rest text e h k m = (t ∷ [], u ∷ rest, ap (λ (l : Lexeme). l ∷ []) h, (u ∷ [], rest, ap (λ (l : Lexeme). l ∷ []) k, m, refl), e)

pub text_called : (f : List ℕ) (inside : Line → Type 0) (text : Line) → Applied f inside text → (rest : Line) × (text ≡ name f ∷ mark sign.Open ∷ rest) × (inside ⋅ Mark sign.Close) rest
text_called f inside text (a, r1, a_is, (b, r2, b_is, m, p2), p1) = (r2, p1 ∙ ap (λ (l : Line). l ++ r1) a_is ∙ ap (λ (l : Line). name f ∷ l) (p2 ∙ ap (λ (l : Line). l ++ r2) b_is), m)

-- ---- pointers without brackets

abbrev pub SimplePointer : PtrTerm → Line → Type 0
SimplePointer (pointers.Name x) = Name x
SimplePointer (pointers.Star x) = Mark sign.Star ⋅ Name x
SimplePointer pointers.Answer = Word key.Result
SimplePointer (pointers.Pre' s held) = λ _. ⊥

abbrev OnePointer : PtrTerm → Line → Type 0
OnePointer = Token one_pointer

one_pointer_is : (t : Lexeme) (p : PtrTerm) (text : Line) → one_pointer t ≡ Some p → one t text → SimplePointer p text
one_pointer_is (name x) p text h is = let e : pointers.Name x ≡ p = cc in subst (λ (q : PtrTerm). SimplePointer q text) e is
one_pointer_is (word k) p text h is = by_test (is_word key.Result (word k)) refl h
  where
    by_test : (b : Bool) → is_word key.Result (word k) ≡ b → option_map (λ _. pointers.Answer) (passed b) ≡ Some p → SimplePointer p text
    by_test true e j = let f : pointers.Answer ≡ p = cc in subst (λ (q : PtrTerm). SimplePointer q text) f (is ∙ ap (λ (t : Lexeme). t ∷ []) (only_word key.Result (word k) e))
    by_test false e j = absurd cc
one_pointer_is (digits ds) p text h is = absurd cc
one_pointer_is (mark s) p text h is = absurd cc
one_pointer_is other p text h is = absurd cc

abbrev EitherPointer : PtrTerm → Line → Type 0
EitherPointer = Or (λ p. one (mark sign.Star) ⋅ Made pointers.Star Name p) OnePointer

simple_pointer_is : (p : PtrTerm) (text : Line) → EitherPointer p text → SimplePointer p text
simple_pointer_is p text (inl (front, rest, h, (x, e, k), parts)) = subst (λ (q : PtrTerm). SimplePointer q text) (sym e) (let whole : SimplePointer (pointers.Star x) text = (front, rest, h, k, parts) in whole)
simple_pointer_is p text (inr (t, h, is)) = one_pointer_is t p text h is

simple_pointer_back : (p : PtrTerm) (text : Line) → SimplePointer p text → EitherPointer p text
simple_pointer_back (pointers.Name x) text h = inr (name x, refl, h)
simple_pointer_back (pointers.Star x) text (front, rest, h, k, parts) = inl (front, rest, h, (x, refl, k), parts)
simple_pointer_back pointers.Answer text h = inr (word key.Result, refl, h)
simple_pointer_back (pointers.Pre' s held) text h = absurd h

one_pointer_elsewhere : BeginsElsewhere (λ t. passed (is_mark sign.Star t)) OnePointer
one_pointer_elsewhere p text (name x, h, is) = (name x, [], is, refl)
one_pointer_elsewhere p text (word k, h, is) = (word k, [], is, refl)
one_pointer_elsewhere p text (digits ds, h, is) = absurd cc
one_pointer_elsewhere p text (mark s, h, is) = absurd cc
one_pointer_elsewhere p text (other, h, is) = absurd cc

reads_simple_pointer : Reads simple_pointer SimplePointer
unfolding simple_pointer
reads_simple_pointer = reads_as (reads_on (is_mark sign.Star) (mark sign.Star) refl (only_mark sign.Star) (reads_made pointers.Star reads_a_name) (reads_token one_pointer (name []) (pointers.Name []) refl) one_pointer_elsewhere) simple_pointer_is simple_pointer_back

pub one_level : (n : ℕ) → leb 1 (suc n) ≡ true
one_level n = le-leb 1 (suc n) (omega arith)

simple_pointer_small : (n : ℕ) (p : PtrTerm) (text : Line) → SimplePointer p text → all_within p ≡ pointer_within (suc n) p
simple_pointer_small n (pointers.Name x) text h = sym (one_level n)
simple_pointer_small n (pointers.Star x) text h = sym (one_level n)
simple_pointer_small n pointers.Answer text h = sym (one_level n)
simple_pointer_small n (pointers.Pre' s held) text h = absurd h

-- ---- where no level may open

no_pointer : (p : PtrTerm) → pointer_within 0 p ≡ false
no_pointer (pointers.Name x) = refl
no_pointer (pointers.Star x) = refl
no_pointer pointers.Answer = refl
no_pointer (pointers.Pre' s held) = leb-suc-zero _

abbrev pub Opening : Line → Type 0
Opening text = (t : Lexeme) × (rest : Line) × (b : Unit {0}) × (text ≡ t ∷ rest) × (opens_level t ≡ Some b)

star_begins : (x : List ℕ) (text : Line) → (Mark sign.Star ⋅ Name x) text → Opening text
star_begins x text (front, rest, h, k, parts) = (mark sign.Star, rest, tt, parts ∙ ap (λ (l : Line). l ++ rest) h, refl)

call_begins : (f : List ℕ) (inside : Line → Type 0) (text : Line) → Applied f inside text → Opening text
call_begins f inside text h = let c = text_called f inside text h in (name f, mark sign.Open ∷ c.0, tt, c.1, refl)

pointer_begins : (p : PtrTerm) (text : Line) → Pointer p text → Opening text
pointer_begins (pointers.Name x) text h = (name x, [], tt, h, refl)
pointer_begins (pointers.Star x) text h = star_begins x text h
pointer_begins pointers.Answer text h = (word key.Result, [], tt, h, refl)
pointer_begins (pointers.Pre' s held) text h = call_begins (codes "pre") (PointerHeld held) text h

passed_some : (b : Bool) (u : Unit {0}) → passed b ≡ Some u → b ≡ true
passed_some b u h = passes b u h

pointer_can_begin : (t : Lexeme) (b : Unit {0}) → opens_level t ≡ Some b → Viable Pointer (t ∷ [])
pointer_can_begin (name x) b h = (pointers.Name x, [], refl)
pointer_can_begin (word k) b h = (pointers.Answer, [], ap (λ (t : Lexeme). t ∷ []) (only_word key.Result (word k) (passed_some (is_word key.Result (word k)) b h)))
pointer_can_begin (mark s) b h = (pointers.Star [], name [] ∷ [], (mark s ∷ [], name [] ∷ [], ap (λ (t : Lexeme). t ∷ []) (only_mark sign.Star (mark s) (passed_some (is_mark sign.Star (mark s)) b h)), refl, refl))
pointer_can_begin (digits ds) b h = absurd cc
pointer_can_begin other b h = absurd cc

-- ---- pointers

abbrev pub is_zero : ℕ → Bool
is_zero zero = true
is_zero (suc n) = false

abbrev PreText : Unit {0} → PtrTerm → Line → Type 0
PreText _ = Made pre_pointer (λ p. Pointer p ⋅ Only (mark sign.Close) tt)

abbrev pub CalledPointer : PtrTerm → Line → Type 0
CalledPointer = Called (as_name pre_of) opens PreText SimplePointer

pointer_is : (p : PtrTerm) (text : Line) → CalledPointer p text → Pointer p text
pointer_is p text (inl (t, u, rest, b, is, h, k, (q, e, m))) =
    let x = named_by pre_of t b h in
    let word_is : x.0 ≡ codes "pre" = bytes_same x.0 (codes "pre") (passed_some _ b x.2) in
    let whole : Pointer (pre_pointer q) text = called_text (codes "pre") (Pointer q) t u rest text is (x.1 ∙ ap name word_is) (opens_is u k) m in
    subst (λ (r : PtrTerm). Pointer r text) (sym e) whole
pointer_is (pointers.Name x) text (inr h) = h
pointer_is (pointers.Star x) text (inr h) = h
pointer_is pointers.Answer text (inr h) = h
pointer_is (pointers.Pre' s held) text (inr h) = absurd h

pointer_back : (p : PtrTerm) (text : Line) → Pointer p text → CalledPointer p text
pointer_back (pointers.Name x) text h = inr h
pointer_back (pointers.Star x) text h = inr h
pointer_back pointers.Answer text h = inr h
pointer_back (pointers.Pre' s held) text h =
    let one_part = pre_pointer_shape s held in
    let whole : Pointer (pre_pointer one_part.0) text = subst (λ (r : PtrTerm). Pointer r text) one_part.1 h in
    let c = text_called (codes "pre") (Pointer one_part.0) text whole in
    inl (name (codes "pre"), mark sign.Open, c.0, tt, c.1, refl, refl, (one_part.0, one_part.1, c.2))

pub simple_pointer_apart : {B : Type 0} (f : List ℕ → Option B) (p : PtrTerm) (text : Line) → SimplePointer p text → (rest : Line) → Clear opens rest → call_at (as_name f) opens (text ++ rest) ≡ None
simple_pointer_apart f (pointers.Name x) text h rest clear = ap (λ (l : Line). call_at (as_name f) opens (l ++ rest)) h ∙ name_alone f x rest clear
simple_pointer_apart f (pointers.Star x) text (a, b, h, k, parts) rest clear = ap (λ (l : Line). call_at (as_name f) opens (l ++ rest)) (parts ∙ ap (λ (l : Line). l ++ b) h ∙ ap (λ (l : Line). mark sign.Star ∷ l) k)
simple_pointer_apart f pointers.Answer text h rest clear = ap (λ (l : Line). call_at (as_name f) opens (l ++ rest)) h ∙ answer_alone rest
  where
    answer_alone : (rest : Line) → call_at (as_name f) opens (word key.Result ∷ rest) ≡ None
    answer_alone [] = refl
    answer_alone (u ∷ us) = refl
simple_pointer_apart f (pointers.Pre' s held) text h rest clear = absurd h

simple_pointer_long : (p : PtrTerm) → SimplePointer p [] → ⊥
simple_pointer_long (pointers.Name x) h = absurd cc
simple_pointer_long (pointers.Star x) (a, b, h, k, parts) = (let e : [] ≡ mark sign.Star ∷ b = parts ∙ ap (λ (l : Line). l ++ b) h in absurd cc)
simple_pointer_long pointers.Answer h = absurd cc
simple_pointer_long (pointers.Pre' s held) h = absurd h

pub reads_pointer : (n : ℕ) → ReadsDeep (is_zero n) opens (pointer_within n) (pointer n) Pointer
unfolding pointer too_deep
reads_pointer zero = deep_as (deep_refused opens_level (pointer_within 0) Pointer no_pointer pointer_begins pointer_can_begin (pointers.Name [], name [] ∷ [], refl)) (λ ts c. clear_none ts) (λ p text h. refl) (λ p text h. h) (λ p text h. h)
reads_pointer (suc n) = deep_as
    (deep_called {w = pointer_within (suc n)}
    (λ _. deep_as (deep_made {w2 = pointer_within (suc n)} pre_pointer (deep_ended (reads_pointer n) reads_close close_clear) (λ p. leb-suc-suc (pointer_levels p) n)) (λ ts c. clear_none ts) (λ p text h. refl) (λ p text h. h) (λ p text h. h))
    (deep_as (deep_plain reads_simple_pointer) (λ ts c. clear_none ts) (simple_pointer_small n) (λ p text h. h) (λ p text h. h))
    (simple_pointer_apart pre_of)
    (λ t b h. (let x = named_by pre_of t b h in (pointers.Name x.0, [], one_level n, ap (λ (l : Lexeme). l ∷ []) x.1)))
    simple_pointer_long)
    (λ ts c. c) (λ p text h. refl) pointer_is pointer_back

-- ---- terms without brackets

abbrev pub SimpleTerm : Term → Line → Type 0
SimpleTerm (terms.Name x) = Name x
SimpleTerm (terms.Star x) = Mark sign.Star ⋅ Name x
SimpleTerm terms.Answer = Word key.Result
SimpleTerm t = λ _. ⊥

abbrev OneTerm : Term → Line → Type 0
OneTerm = Token one_term

one_term_is : (t : Lexeme) (p : Term) (text : Line) → one_term t ≡ Some p → one t text → SimpleTerm p text
one_term_is (name x) p text h is = let e : terms.Name x ≡ p = cc in subst (λ (q : Term). SimpleTerm q text) e is
one_term_is (word k) p text h is = by_test (is_word key.Result (word k)) refl h
  where
    by_test : (b : Bool) → is_word key.Result (word k) ≡ b → option_map (λ _. terms.Answer) (passed b) ≡ Some p → SimpleTerm p text
    by_test true e j = let f : terms.Answer ≡ p = cc in subst (λ (q : Term). SimpleTerm q text) f (is ∙ ap (λ (t : Lexeme). t ∷ []) (only_word key.Result (word k) e))
    by_test false e j = absurd cc
one_term_is (digits ds) p text h is = absurd cc
one_term_is (mark s) p text h is = absurd cc
one_term_is other p text h is = absurd cc

abbrev EitherTerm : Term → Line → Type 0
EitherTerm = Or (λ p. one (mark sign.Star) ⋅ Made terms.Star Name p) OneTerm

simple_term_is : (p : Term) (text : Line) → EitherTerm p text → SimpleTerm p text
simple_term_is p text (inl (front, rest, h, (x, e, k), parts)) = subst (λ (q : Term). SimpleTerm q text) (sym e) (let whole : SimpleTerm (terms.Star x) text = (front, rest, h, k, parts) in whole)
simple_term_is p text (inr (t, h, is)) = one_term_is t p text h is

simple_term_back : (p : Term) (text : Line) → SimpleTerm p text → EitherTerm p text
simple_term_back (terms.Name x) text h = inr (name x, refl, h)
simple_term_back (terms.Star x) text (front, rest, h, k, parts) = inl (front, rest, h, (x, refl, k), parts)
simple_term_back terms.Answer text h = inr (word key.Result, refl, h)
simple_term_back (terms.Pre' s held) text h = absurd h
simple_term_back (terms.Alloc p) text h = absurd h
simple_term_back (terms.Offset p) text h = absurd h
simple_term_back (terms.Strlen p) text h = absurd h

one_term_elsewhere : BeginsElsewhere (λ t. passed (is_mark sign.Star t)) OneTerm
one_term_elsewhere p text (name x, h, is) = (name x, [], is, refl)
one_term_elsewhere p text (word k, h, is) = (word k, [], is, refl)
one_term_elsewhere p text (digits ds, h, is) = absurd cc
one_term_elsewhere p text (mark s, h, is) = absurd cc
one_term_elsewhere p text (other, h, is) = absurd cc

reads_simple_term : Reads simple_term SimpleTerm
unfolding simple_term
reads_simple_term = reads_as (reads_on (is_mark sign.Star) (mark sign.Star) refl (only_mark sign.Star) (reads_made terms.Star reads_a_name) (reads_token one_term (name []) (terms.Name []) refl) one_term_elsewhere) simple_term_is simple_term_back

simple_term_small : (n : ℕ) (p : Term) (text : Line) → SimpleTerm p text → all_within p ≡ term_within (suc n) p
simple_term_small n (terms.Name x) text h = sym (one_level n)
simple_term_small n (terms.Star x) text h = sym (one_level n)
simple_term_small n terms.Answer text h = sym (one_level n)
simple_term_small n (terms.Pre' s held) text h = absurd h
simple_term_small n (terms.Alloc p) text h = absurd h
simple_term_small n (terms.Offset p) text h = absurd h
simple_term_small n (terms.Strlen p) text h = absurd h

no_term : (p : Term) → term_within 0 p ≡ false
no_term (terms.Name x) = refl
no_term (terms.Star x) = refl
no_term terms.Answer = refl
no_term (terms.Pre' s held) = leb-suc-zero _
no_term (terms.Alloc p) = leb-suc-zero _
no_term (terms.Offset p) = leb-suc-zero _
no_term (terms.Strlen p) = leb-suc-zero _

pub term_begins : (p : Term) (text : Line) → TermText p text → Opening text
term_begins (terms.Name x) text h = (name x, [], tt, h, refl)
term_begins (terms.Star x) text h = star_begins x text h
term_begins terms.Answer text h = (word key.Result, [], tt, h, refl)
term_begins (terms.Pre' s held) text h = call_begins (codes "pre") (TermHeld held) text h
term_begins (terms.Alloc p) text h = call_begins (codes "alloc") (Pointer p) text h
term_begins (terms.Offset p) text h = call_begins (codes "offset") (Pointer p) text h
term_begins (terms.Strlen p) text h = call_begins (codes "strlen") (Pointer p) text h

term_can_begin : (t : Lexeme) (b : Unit {0}) → opens_level t ≡ Some b → Viable TermText (t ∷ [])
term_can_begin (name x) b h = (terms.Name x, [], refl)
term_can_begin (word k) b h = (terms.Answer, [], ap (λ (t : Lexeme). t ∷ []) (only_word key.Result (word k) (passed_some (is_word key.Result (word k)) b h)))
term_can_begin (mark s) b h = (terms.Star [], name [] ∷ [], (mark s ∷ [], name [] ∷ [], ap (λ (t : Lexeme). t ∷ []) (only_mark sign.Star (mark s) (passed_some (is_mark sign.Star (mark s)) b h)), refl, refl))
term_can_begin (digits ds) b h = absurd cc
term_can_begin other b h = absurd cc

-- ---- terms

-- the word of a head
abbrev head_word : Head → List ℕ
head_word head.Pre = codes "pre"
head_word head.Alloc = codes "alloc"
head_word head.Offset = codes "offset"
head_word head.Strlen = codes "strlen"

head_back : (b : Head) → head_of (head_word b) ≡ Some b
head_back head.Pre = refl
head_back head.Alloc = refl
head_back head.Offset = refl
head_back head.Strlen = refl

head_is : (x : List ℕ) (b : Head) → head_of x ≡ Some b → x ≡ head_word b
head_is x b h = by_pre (bytes_eq x (codes "pre")) refl
  where
    step : (c : Head) → bytes_eq x (head_word c) ≡ true → Some c ≡ Some b → x ≡ head_word b
    step c e k = let same : c ≡ b = cc in bytes_same x (head_word c) e ∙ ap head_word same

    by_strlen : (v : Bool) → bytes_eq x (codes "strlen") ≡ v → bytes_eq x (codes "pre") ≡ false → bytes_eq x (codes "alloc") ≡ false → bytes_eq x (codes "offset") ≡ false → x ≡ head_word b
    by_strlen true e e1 e2 e3 = step head.Strlen e (sym (let k : head_of x ≡ Some head.Strlen = rw (e1, e2, e3, e) refl in k) ∙ h)
    by_strlen false e e1 e2 e3 = (let k : head_of x ≡ None = rw (e1, e2, e3, e) refl in absurd cc)

    by_offset : (v : Bool) → bytes_eq x (codes "offset") ≡ v → bytes_eq x (codes "pre") ≡ false → bytes_eq x (codes "alloc") ≡ false → x ≡ head_word b
    by_offset true e e1 e2 = step head.Offset e (sym (let k : head_of x ≡ Some head.Offset = rw (e1, e2, e) refl in k) ∙ h)
    by_offset false e e1 e2 = by_strlen (bytes_eq x (codes "strlen")) refl e1 e2 e

    by_alloc : (v : Bool) → bytes_eq x (codes "alloc") ≡ v → bytes_eq x (codes "pre") ≡ false → x ≡ head_word b
    by_alloc true e e1 = step head.Alloc e (sym (let k : head_of x ≡ Some head.Alloc = rw (e1, e) refl in k) ∙ h)
    by_alloc false e e1 = by_offset (bytes_eq x (codes "offset")) refl e1 e

    by_pre : (v : Bool) → bytes_eq x (codes "pre") ≡ v → x ≡ head_word b
    by_pre true e = step head.Pre e (sym (let k : head_of x ≡ Some head.Pre = rw e refl in k) ∙ h)
    by_pre false e = by_alloc (bytes_eq x (codes "alloc")) refl e

abbrev Closed : {A : Type 0} → (A → Line → Type 0) → A → Line → Type 0
Closed p a = p a ⋅ Only (mark sign.Close) tt

abbrev ArgumentText : Head → Term → Line → Type 0
ArgumentText head.Pre = Made pre_term (Closed TermText)
ArgumentText head.Alloc = Made terms.Alloc (Closed Pointer)
ArgumentText head.Offset = Made terms.Offset (Closed Pointer)
ArgumentText head.Strlen = Made terms.Strlen (Closed Pointer)

abbrev CalledTerm : Term → Line → Type 0
CalledTerm = Called (as_name head_of) opens ArgumentText SimpleTerm

term_called : (b : Head) (a : Term) (t u : Lexeme) (rest text : Line) → text ≡ t ∷ u ∷ rest → t ≡ name (head_word b) → u ≡ mark sign.Open → ArgumentText b a rest → TermText a text
term_called head.Pre a t u rest text is h k (q, e, m) = subst (λ (r : Term). TermText r text) (sym e) (let whole : TermText (pre_term q) text = called_text (codes "pre") (TermText q) t u rest text is h k m in whole)
term_called head.Alloc a t u rest text is h k (q, e, m) = subst (λ (r : Term). TermText r text) (sym e) (let whole : TermText (terms.Alloc q) text = called_text (codes "alloc") (Pointer q) t u rest text is h k m in whole)
term_called head.Offset a t u rest text is h k (q, e, m) = subst (λ (r : Term). TermText r text) (sym e) (let whole : TermText (terms.Offset q) text = called_text (codes "offset") (Pointer q) t u rest text is h k m in whole)
term_called head.Strlen a t u rest text is h k (q, e, m) = subst (λ (r : Term). TermText r text) (sym e) (let whole : TermText (terms.Strlen q) text = called_text (codes "strlen") (Pointer q) t u rest text is h k m in whole)

term_is : (p : Term) (text : Line) → CalledTerm p text → TermText p text
term_is p text (inl (t, u, rest, b, is, h, k, m)) = let x = named_by head_of t b h in term_called b p t u rest text is (x.1 ∙ ap name (head_is x.0 b x.2)) (opens_is u k) m
term_is (terms.Name x) text (inr h) = h
term_is (terms.Star x) text (inr h) = h
term_is terms.Answer text (inr h) = h
term_is (terms.Pre' s held) text (inr h) = absurd h
term_is (terms.Alloc p) text (inr h) = absurd h
term_is (terms.Offset p) text (inr h) = absurd h
term_is (terms.Strlen p) text (inr h) = absurd h

measure_back : (b : Head) (a : Term) (p : PtrTerm) (text : Line) → Applied (head_word b) (Pointer p) text → ((rest : Line) → (Pointer p ⋅ Mark sign.Close) rest → ArgumentText b a rest) → CalledTerm a text
measure_back b a p text h f = let c = text_called (head_word b) (Pointer p) text h in inl (name (head_word b), mark sign.Open, c.0, b, c.1, head_back b, refl, f c.0 c.2)

term_back : (p : Term) (text : Line) → TermText p text → CalledTerm p text
term_back (terms.Name x) text h = inr h
term_back (terms.Star x) text h = inr h
term_back terms.Answer text h = inr h
term_back (terms.Pre' s held) text h =
    let one_part = pre_term_shape s held in
    let whole : TermText (pre_term one_part.0) text = subst (λ (r : Term). TermText r text) one_part.1 h in
    let c = text_called (codes "pre") (TermText one_part.0) text whole in
    inl (name (codes "pre"), mark sign.Open, c.0, head.Pre, c.1, refl, refl, (one_part.0, one_part.1, c.2))
term_back (terms.Alloc p) text h = measure_back head.Alloc (terms.Alloc p) p text h (λ rest m. (p, refl, m))
term_back (terms.Offset p) text h = measure_back head.Offset (terms.Offset p) p text h (λ rest m. (p, refl, m))
term_back (terms.Strlen p) text h = measure_back head.Strlen (terms.Strlen p) p text h (λ rest m. (p, refl, m))

pub simple_term_apart : {B : Type 0} (f : List ℕ → Option B) (p : Term) (text : Line) → SimpleTerm p text → (rest : Line) → Clear opens rest → call_at (as_name f) opens (text ++ rest) ≡ None
simple_term_apart f (terms.Name x) text h rest clear = ap (λ (l : Line). call_at (as_name f) opens (l ++ rest)) h ∙ name_alone f x rest clear
simple_term_apart f (terms.Star x) text (a, b, h, k, parts) rest clear = ap (λ (l : Line). call_at (as_name f) opens (l ++ rest)) (parts ∙ ap (λ (l : Line). l ++ b) h ∙ ap (λ (l : Line). mark sign.Star ∷ l) k)
simple_term_apart f terms.Answer text h rest clear = ap (λ (l : Line). call_at (as_name f) opens (l ++ rest)) h ∙ answer_alone rest
  where
    answer_alone : (rest : Line) → call_at (as_name f) opens (word key.Result ∷ rest) ≡ None
    answer_alone [] = refl
    answer_alone (u ∷ us) = refl
simple_term_apart f (terms.Pre' s held) text h rest clear = absurd h
simple_term_apart f (terms.Alloc p) text h rest clear = absurd h
simple_term_apart f (terms.Offset p) text h rest clear = absurd h
simple_term_apart f (terms.Strlen p) text h rest clear = absurd h

simple_term_long : (p : Term) → SimpleTerm p [] → ⊥
simple_term_long (terms.Name x) h = absurd cc
simple_term_long (terms.Star x) (a, b, h, k, parts) = (let e : [] ≡ mark sign.Star ∷ b = parts ∙ ap (λ (l : Line). l ++ b) h in absurd cc)
simple_term_long terms.Answer h = absurd cc
simple_term_long (terms.Pre' s held) h = absurd h
simple_term_long (terms.Alloc p) h = absurd h
simple_term_long (terms.Offset p) h = absurd h
simple_term_long (terms.Strlen p) h = absurd h

abbrev more_bars : {A : Type 0} {early : Bool} {w : A → Bool} {r : _} {p : A → Line → Type 0} → ReadsDeep early none w r p → ReadsDeep early opens w r p
more_bars by = deep_as by (λ ts c. clear_none ts) (λ a text h. refl) (λ a text h. h) (λ a text h. h)

reads_argument : (n : ℕ) → ReadsDeep (is_zero n) opens (term_within n) (term n) TermText → (b : Head) → ReadsDeep (is_zero n) opens (term_within (suc n)) (argument (term n) (pointer n) b) (ArgumentText b)
reads_argument n by head.Pre = more_bars (deep_made {w2 = term_within (suc n)} pre_term (deep_ended by reads_close close_clear) (λ t. leb-suc-suc (term_levels t) n))
reads_argument n by head.Alloc = more_bars (deep_made {w2 = term_within (suc n)} terms.Alloc (deep_ended (reads_pointer n) reads_close close_clear) (λ p. leb-suc-suc (pointer_levels p) n))
reads_argument n by head.Offset = more_bars (deep_made {w2 = term_within (suc n)} terms.Offset (deep_ended (reads_pointer n) reads_close close_clear) (λ p. leb-suc-suc (pointer_levels p) n))
reads_argument n by head.Strlen = more_bars (deep_made {w2 = term_within (suc n)} terms.Strlen (deep_ended (reads_pointer n) reads_close close_clear) (λ p. leb-suc-suc (pointer_levels p) n))

pub reads_term : (n : ℕ) → ReadsDeep (is_zero n) opens (term_within n) (term n) TermText
unfolding term too_deep
reads_term zero = deep_as (deep_refused opens_level (term_within 0) TermText no_term term_begins term_can_begin (terms.Name [], name [] ∷ [], refl)) (λ ts c. clear_none ts) (λ p text h. refl) (λ p text h. h) (λ p text h. h)
reads_term (suc n) = deep_as
    (deep_called {w = term_within (suc n)}
    (reads_argument n (reads_term n))
    (deep_as (deep_plain reads_simple_term) (λ ts c. clear_none ts) (simple_term_small n) (λ p text h. h) (λ p text h. h))
    (simple_term_apart head_of)
    (λ t b h. (let x = named_by head_of t b h in (terms.Name x.0, [], one_level n, ap (λ (l : Lexeme). l ∷ []) x.1)))
    simple_term_long)
    (λ ts c. c) (λ p text h. refl) term_is term_back
