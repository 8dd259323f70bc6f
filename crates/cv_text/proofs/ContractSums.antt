-- What the sums of contracts are read from.
use Rattle.std.proofs.Common.{◌≡◌, ℕ, ◌<◌, ◌^◌, Bool, true, false, if◌then◌else◌, ◌||◌, List, [], ◌∷◌, ◌++◌, length, Option, Some, None, Ok, refl, sym, ap, subst, ◌∙◌, inl, inr}
use Rattle.std.proofs.lemmas.List.{append-nil}
use Rattle.cv_core.specs.declared.program.Term.{Term}
use Rattle.cv_core.specs.declared.program.LinPart.{LinPart}
use Rattle.cv_reading.specs.Phrase.{◌⋅◌, Each}
use Rattle.cv_reading.specs.Reading.{passed}
use Rattle.cv_reading.specs.Deep.{next_by, more_onto}
use Rattle.cv_reading.proofs.Laws.{Made, Either, passes, to_left, to_right, behind_nothing, with_nothing}
use Rattle.cv_reading.proofs.Deep.{ReadsDeep, Clear, Avoids, Given, Round, deep_as, deep_give, deep_made, deep_choose, deep_both, deep_repeat, each_clear, loop_ends, loop_goes, loop_fails, loop_cut, loop_shrinks}
use Rattle.cv_text.specs.declared.token.Sign.TheVariants as sign
use Rattle.cv_text.specs.declared.nesting.NestedError.{NestedError}
use Rattle.cv_text.specs.declared.nesting.NestedError.TheVariants as errors
use Rattle.cv_text.specs.Given.{from}
use Rattle.cv_text.specs.Nested.{FailsNested}
use Rattle.cv_text.specs.Tokens.{Lexeme, name, word, digits, mark, other, Line}
use Rattle.cv_text.specs.Clauses.{TermText, Factor, FirstSign, LaterSign, LaterParts, Linear}
use Rattle.cv_text.specs.Levels.{most_levels, term_within, maybe_within, sum_within}
use Rattle.cv_text.specs.Reader.{is_mark}
use Rattle.cv_text.specs.ContractReader.{opens_level, term, Factors, count_of, number_alone, term_alone, multiple, after_number, factors, part_of, part, sign_of, first_part, later_parts, joined, sum}
use Rattle.cv_text.proofs.Singles.{only_mark, within_is, within_back}
use Rattle.cv_text.proofs.ContractTerms.{opens, reads_term, term_begins}

-- ---- tokens that may not follow

abbrev pub star_bars : Lexeme → Bool
star_bars t = opens t || is_mark sign.Star t

abbrev pub sum_bars : Lexeme → Bool
sum_bars t = star_bars t || (is_mark sign.Plus t || is_mark sign.Minus t)

pub neither : (a b : Bool) → (a || b) ≡ false → (a ≡ false) × (b ≡ false)
neither false b h = (refl, h)
neither true b h = absurd cc

abbrev pub star : Lexeme → Option (Unit {0})
star t = passed (is_mark sign.Star t)

pub not_passed : (b : Bool) → b ≡ false → passed b ≡ None
not_passed false h = refl
not_passed true h = absurd cc

star_clear : (ts : Line) → Clear star_bars ts → Clear opens ts
star_clear [] h = tt
star_clear (t ∷ ts) h = (neither (opens t) (is_mark sign.Star t) h).0

star_avoids : (ts : Line) → Clear star_bars ts → Avoids star ts
star_avoids [] h = tt
star_avoids (t ∷ ts) h = not_passed (is_mark sign.Star t) (neither (opens t) (is_mark sign.Star t) h).1

-- ---- a number, a term, or a multiple of a term

pub term_law : ReadsDeep false opens (term_within most_levels) (term most_levels) TermText
term_law = reads_term 100

abbrev factors_within : Factors → Bool
factors_within v = maybe_within most_levels v.1

abbrev AfterNumber : ℕ → Factors → Line → Type 0
AfterNumber k = Either star (λ _. Made (multiple k) TermText) (Given (number_alone k))

reads_after_number : (k : ℕ) → ReadsDeep false star_bars factors_within (after_number k) (AfterNumber k)
unfolding after_number
reads_after_number k = deep_choose
    (λ _. deep_as (deep_made {w2 = factors_within} (multiple k) term_law (λ t. refl)) star_clear (λ v text h. refl) (λ v text h. h) (λ v text h. h))
    (deep_give (number_alone k) refl)
    (λ v text h rest clear. subst (λ (l : Line). Avoids star (l ++ rest)) (sym h.1) (star_avoids rest clear))

abbrev FactorText : Factors → Line → Type 0
FactorText v = Factor v.0 v.1

abbrev EitherFactor : Factors → Line → Type 0
EitherFactor = Either count_of AfterNumber (Made term_alone TermText)

factor_is : (v : Factors) (text : Line) → EitherFactor v text → FactorText v text
factor_is v text (inl (k, (front, rest, (t, h, is), inl (u, (front2, rest2, (t2, h2, is2), (q, e, m), parts2)), parts))) =
    let star_is : front2 ≡ mark sign.Star ∷ [] = is2 ∙ ap (λ (l : Lexeme). l ∷ []) (only_mark sign.Star t2 (passes (is_mark sign.Star t2) u h2)) in
    let whole : FactorText (multiple k q) text = (front, rest, within_is 0 (2 ^ 31) t k front h is, (front2, rest2, star_is, m, parts2), parts) in
    subst (λ (w : Factors). FactorText w text) (sym e) whole
factor_is v text (inl (k, (front, rest, (t, h, is), inr (e, m), parts))) =
    let whole : FactorText (number_alone k) front = within_is 0 (2 ^ 31) t k front h is in
    let same : text ≡ front = parts ∙ ap (λ (l : Line). front ++ l) m ∙ append-nil front in
    subst (λ (w : Factors). FactorText w text) (sym e) (subst (λ (l : Line). FactorText (number_alone k) l) (sym same) whole)
factor_is v text (inr (q, e, m)) = subst (λ (w : Factors). FactorText w text) (sym e) (let whole : FactorText (term_alone q) text = m in whole)

factor_back_by : (number : Option ℕ) (t : Option Term) (text : Line) → Factor number t text → EitherFactor (number, t) text
factor_back_by None None text h = absurd h
factor_back_by None (Some t) text h = inr (t, refl, h)
factor_back_by (Some k) None text (low, high, (ds, e, is)) = inl (k, (digits ds ∷ [], [], (digits ds, within_back 0 (2 ^ 31) k ds e low high, refl), inr (refl, refl), is))
factor_back_by (Some k) (Some t) text (front, rest, (low, high, (ds, e, is)), (front2, rest2, s, m, parts2), parts) = inl (k, (front, rest, (digits ds, within_back 0 (2 ^ 31) k ds e low high, is), inl (tt, (front2, rest2, (mark sign.Star, refl, s), (t, refl, m), parts2)), parts))

no_count : (t : Lexeme) (b : Unit {0}) → opens_level t ≡ Some b → count_of t ≡ None
no_count (name x) b h = refl
no_count (word k) b h = refl
no_count (mark s) b h = refl
no_count (digits ds) b h = absurd cc
no_count other b h = absurd cc

pub reads_factors : ReadsDeep false star_bars factors_within factors FactorText
unfolding factors
reads_factors = deep_as
    (deep_choose reads_after_number
    (deep_as (deep_made {w2 = factors_within} term_alone term_law (λ t. refl)) star_clear (λ v text h. refl) (λ v text h. h) (λ v text h. h))
    (λ v text h rest clear. (let x = term_begins h.0 text h.2 in subst (λ (l : Line). Avoids count_of (l ++ rest)) (sym x.3) (no_count x.0 x.2 x.4))))
    (λ ts c. c) (λ v text h. refl) factor_is (λ v text h. factor_back_by v.0 v.1 text h)

-- ---- parts

abbrev part_within : LinPart → Bool
part_within p = maybe_within most_levels p.term

abbrev PartText : Bool → LinPart → Line → Type 0
PartText negative p text = (p.negative ≡ negative) × Factor p.number p.term text

part_is : (negative : Bool) (p : LinPart) (text : Line) → Made (part_of negative) FactorText p text → PartText negative p text
part_is negative p text (v, e, h) = subst (λ (q : LinPart). PartText negative q text) (sym e) (let whole : PartText negative (part_of negative v) text = (refl, h) in whole)

part_back : (negative : Bool) (p : LinPart) (text : Line) → PartText negative p text → Made (part_of negative) FactorText p text
part_back negative p text (e, h) = ((p.number, p.term), ap (λ (b : Bool). part_of b (p.number, p.term)) e, h)

reads_part : (negative : Bool) → ReadsDeep false star_bars part_within (part negative) (PartText negative)
unfolding part
reads_part negative = deep_as (deep_made {w2 = part_within} (part_of negative) reads_factors (λ v. refl)) (λ ts c. c) (λ p text h. refl) (part_is negative) (part_back negative)

-- ---- the first part

abbrev minus : Lexeme → Option (Unit {0})
minus t = passed (is_mark sign.Minus t)

abbrev FirstPart : LinPart → Line → Type 0
FirstPart p = FirstSign p.negative ⋅ Factor p.number p.term

abbrev EitherPart : LinPart → Line → Type 0
EitherPart = Either minus (λ _. PartText true) (PartText false)

first_sign_is : (negative : Bool) (F : Line → Type 0) (text : Line) → negative ≡ false → F text → (FirstSign negative ⋅ F) text
first_sign_is true F text e h = absurd cc
first_sign_is false F text e h = with_nothing F text h

first_is : (p : LinPart) (text : Line) → EitherPart p text → FirstPart p text
first_is p text (inl (u, (front, rest, (t, h, is), (e, m), parts))) =
    let sign_is : FirstSign p.negative front = subst (λ (b : Bool). FirstSign b front) (sym e) (is ∙ ap (λ (l : Lexeme). l ∷ []) (only_mark sign.Minus t (passes (is_mark sign.Minus t) u h))) in
    (front, rest, sign_is, m, parts)
first_is p text (inr (e, m)) = first_sign_is p.negative (Factor p.number p.term) text e m

first_back_by : (negative : Bool) (number : Option ℕ) (t : Option Term) (text : Line) → (FirstSign negative ⋅ Factor number t) text → EitherPart (record { negative = negative; number = number; term = t }) text
first_back_by true number t text (front, rest, h, m, parts) = inl (tt, (front, rest, (mark sign.Minus, refl, h), (refl, m), parts))
first_back_by false number t text h = inr (refl, behind_nothing (Factor number t) text h)

no_minus : (t : Lexeme) (b : Unit {0}) → opens_level t ≡ Some b → minus t ≡ None
no_minus (name x) b h = refl
no_minus (word k) b h = refl
no_minus (mark s) b h = ap minus (only_mark sign.Star (mark s) (passes (is_mark sign.Star (mark s)) b h))
no_minus (digits ds) b h = absurd cc
no_minus other b h = absurd cc

factor_apart : (number : Option ℕ) (t : Option Term) (text : Line) → Factor number t text → (rest : Line) → Avoids minus (text ++ rest)
factor_apart None None text h rest = absurd h
factor_apart None (Some t) text h rest = let x = term_begins t text h in subst (λ (l : Line). Avoids minus (l ++ rest)) (sym x.3) (no_minus x.0 x.2 x.4)
factor_apart (Some k) None text (low, high, (ds, e, is)) rest = subst (λ (l : Line). Avoids minus (l ++ rest)) (sym is) refl
factor_apart (Some k) (Some t) text (front, after, (low, high, (ds, e, is)), m, parts) rest = subst (λ (l : Line). Avoids minus (l ++ rest)) (sym (parts ∙ ap (λ (l : Line). l ++ after) is)) refl

pub reads_first_part : ReadsDeep false star_bars part_within first_part FirstPart
unfolding first_part
reads_first_part = deep_as
    (deep_choose (λ _. reads_part true) (reads_part false) (λ p text h rest clear. factor_apart p.number p.term text h.1 rest))
    (λ ts c. c) (λ p text h. refl) first_is (λ p text h. first_back_by p.negative p.number p.term text h)

-- ---- the parts behind it

sign_is : (t : Lexeme) (b : Bool) → sign_of t ≡ Some b → LaterSign b (t ∷ [])
sign_is t b h = by_plus (is_mark sign.Plus t) refl h
  where
    by_minus : (v : Bool) → is_mark sign.Minus t ≡ v → (if v then Some true else None) ≡ Some b → LaterSign b (t ∷ [])
    by_minus true e k = let same : true ≡ b = cc in subst (λ (c : Bool). LaterSign c (t ∷ [])) same (ap (λ (l : Lexeme). l ∷ []) (only_mark sign.Minus t e))
    by_minus false e k = absurd cc

    by_plus : (v : Bool) → is_mark sign.Plus t ≡ v → (if v then Some false else if is_mark sign.Minus t then Some true else None) ≡ Some b → LaterSign b (t ∷ [])
    by_plus true e k = let same : false ≡ b = cc in subst (λ (c : Bool). LaterSign c (t ∷ [])) same (ap (λ (l : Lexeme). l ∷ []) (only_mark sign.Plus t e))
    by_plus false e k = by_minus (is_mark sign.Minus t) refl k

sign_clear : (t : Lexeme) (b : Bool) → sign_of t ≡ Some b → star_bars t ≡ false
sign_clear t true h = ap star_bars (one_same t (mark sign.Minus) (sign_is t true h))
  where
    one_same : (t u : Lexeme) → t ∷ [] ≡ u ∷ [] → t ≡ u
    one_same t u e = cc
sign_clear t false h = ap star_bars (one_same t (mark sign.Plus) (sign_is t false h))
  where
    one_same : (t u : Lexeme) → t ∷ [] ≡ u ∷ [] → t ≡ u
    one_same t u e = cc

sum_ends_by : (t : Lexeme) → sum_bars t ≡ false → (sign_of t ≡ None) × (star_bars t ≡ false)
sum_ends_by t h =
    let a = neither (star_bars t) (is_mark sign.Plus t || is_mark sign.Minus t) h in
    let b = neither (is_mark sign.Plus t) (is_mark sign.Minus t) a.1 in
    (rw (b.0, b.1) refl, a.0)

sum_ends : (ts : Line) → Clear sum_bars ts → Avoids sign_of ts × Clear star_bars ts
sum_ends [] h = (tt, tt)
sum_ends (t ∷ ts) h = sum_ends_by t h

abbrev Later : List LinPart → Line → Type 0
Later = Each (Round sign_of PartText)

reads_later_parts : ReadsDeep false sum_bars (sum_within most_levels) later_parts Later
unfolding later_parts
reads_later_parts = deep_repeat reads_part sign_clear sum_ends

round_is : (p : LinPart) (text : Line) → Round sign_of PartText p text → (LaterSign p.negative ⋅ Factor p.number p.term) text
round_is p text (b, (front, rest, (t, h, is), (e, m), parts)) = (front, rest, subst (λ (l : Line). LaterSign p.negative l) (sym is) (subst (λ (c : Bool). LaterSign c (t ∷ [])) (sym e) (sign_is t b h)), m, parts)

round_back_by : (negative : Bool) (number : Option ℕ) (t : Option Term) (text : Line) → (LaterSign negative ⋅ Factor number t) text → Round sign_of PartText (record { negative = negative; number = number; term = t }) text
round_back_by true number t text (front, rest, h, m, parts) = (true, (front, rest, (mark sign.Minus, refl, h), (refl, m), parts))
round_back_by false number t text (front, rest, h, m, parts) = (false, (front, rest, (mark sign.Plus, refl, h), (refl, m), parts))

later_is : (xs : List LinPart) (text : Line) → Later xs text → LaterParts xs text
later_is [] text h = h
later_is (p ∷ xs) text (front, rest, h, m, parts) = to_right (LaterSign p.negative) (Factor p.number p.term) (LaterParts xs) text (front, rest, round_is p front h, later_is xs rest m, parts)

later_back : (xs : List LinPart) (text : Line) → LaterParts xs text → Later xs text
later_back [] text h = h
later_back (p ∷ xs) text h =
    let m = to_left (LaterSign p.negative) (Factor p.number p.term) (LaterParts xs) text h in
    (m.0, m.1, round_back_by p.negative p.number p.term m.0 m.2, later_back xs m.1 m.3, m.4)

-- ---- sums

abbrev SumParts : LinPart × List LinPart → Line → Type 0
SumParts v = FirstPart v.0 ⋅ Later v.1

sum_is : (xs : List LinPart) (text : Line) → Made joined SumParts xs text → Linear xs text
sum_is xs text (v, e, (front, rest, h, m, parts)) =
    let whole : Linear (joined v) text = to_right (FirstSign v.0.negative) (Factor v.0.number v.0.term) (LaterParts v.1) text (front, rest, h, later_is v.1 rest m, parts) in
    subst (λ (ys : List LinPart). Linear ys text) (sym e) whole

sum_back : (xs : List LinPart) (text : Line) → Linear xs text → Made joined SumParts xs text
sum_back [] text h = absurd h
sum_back (p ∷ xs) text h =
    let m = to_left (FirstSign p.negative) (Factor p.number p.term) (LaterParts xs) text h in
    ((p, xs), refl, (m.0, m.1, m.2, later_back xs m.1 m.3, m.4))

pub reads_sum : ReadsDeep false sum_bars (sum_within most_levels) sum Linear
unfolding sum
reads_sum = deep_as
    (deep_made {w2 = sum_within most_levels} joined (deep_both reads_first_part (λ _. reads_later_parts) (λ p xs text h rest clear. each_clear reads_part sign_clear sum_ends xs text rest h clear)) (λ v. refl))
    (λ ts c. c) (λ xs text h. refl) sum_is sum_back

-- ---- the loop over the parts

pub parts_end : (before : List LinPart) (ts : Line) → next_by sign_of ts ≡ None → more_onto before later_parts ts ≡ Ok (Some before, ts)
unfolding later_parts
parts_end before ts h = loop_ends reads_part sign_clear sum_ends before ts h

pub parts_go : (before : List LinPart) (ts : Line) (negative : Bool) (behind : Line) (p : LinPart) (after : Line) → next_by sign_of ts ≡ Some (negative, behind) → part negative behind ≡ Ok (Some p, after) → more_onto before later_parts ts ≡ more_onto (before ++ p ∷ []) later_parts after
unfolding later_parts
parts_go before ts negative behind p after h e = loop_goes reads_part sign_clear sum_ends before ts negative behind p after h e

pub parts_err : (text : List ℕ) (e : NestedError) (before : List LinPart) (ts : Line) (negative : Bool) (behind : Line) → next_by sign_of ts ≡ Some (negative, behind) → FailsNested text e (part negative behind) → FailsNested text e (more_onto before later_parts ts)
unfolding later_parts
parts_err text errors.Memory before ts negative behind h k = tt
parts_err text (errors.Fault at) before ts negative behind h k = loop_fails reads_part sign_clear sum_ends before ts negative behind (from text at) h k
parts_err text (errors.Nesting at) before ts negative behind h k = loop_cut reads_part sign_clear sum_ends before ts negative behind (from text at) h k

pub parts_shrink : (ts : Line) (negative : Bool) (behind : Line) (p : LinPart) (after : Line) → next_by sign_of ts ≡ Some (negative, behind) → part negative behind ≡ Ok (Some p, after) → length after < length ts
parts_shrink ts negative behind p after h e = loop_shrinks reads_part sign_clear sum_ends ts negative behind p after h e
