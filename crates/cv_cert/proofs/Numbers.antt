-- The numbers that tokens spell.
use Rattle.std.proofs.Common.{◌≡◌, ◌≢◌, ℕ, zero, suc, ◌+◌, ◌-◌, ◌*◌, ◌/◌, ◌<◌, ◌≤◌, ◌^◌, Bool, true, false, ◌&&◌, cond, nat_le, eqb, List, [], ◌∷◌, length, get_or, Option, Some, None, option_map, ℤ, pos, negsuc, refl, sym, ap, subst, ◌∙◌, arith, rules, FitsSigned, eqb-true, lit<}
use Rattle.std.proofs.lemmas.Bool.Decides.{nat_tests}
use Rattle.std.proofs.lemmas.Fmt.{digits_decimal, digits_value-decimal, decimal-digits_value, decimal_nonempty, first_decimal, decimal_digit}
use Rattle.std.proofs.lemmas.Str.Parse.{IsNumeralModel, numerals_by_fold}
use Rattle.std.specs.Fmt.{decimal, signed_decimal}
use Rattle.std.specs.Str.{all_ascii_digits}
use Rattle.std.specs.Char.{is_ascii_digit}
use Rattle.std.specs.Int.{w64}
use Rattle.std.proofs.lemmas.Int.{ints}
use Rattle.cv_cert.specs.Tokens.{digits_after, no_leading_zero, natural_of, number_of, integer_of, negative_of}

abbrev pub IsDigits : List ℕ → Type 0
IsDigits ds = all_ascii_digits ds ≡ true

pub own : IsNumeralModel IsDigits (digits_after 0)
own = numerals_by_fold _ (search rules) digits_after (search rules)

digits_grow : (n : ℕ) (ds : List ℕ) → n ≤ digits_after n ds
digits_grow n [] = omega arith
digits_grow n (c ∷ cs) = omega (arith, digits_grow (10 * n + (c - 48)) cs)

-- ---- what the loop over digits answers

pub no_digits : (most : ℕ) (token : List ℕ) → all_ascii_digits token ≡ false → natural_of most token ≡ None
unfolding natural_of
no_digits most token h = chosen (no_leading_zero token) (nat_le (digits_after 0 token) most) (all_ascii_digits token) h
  where
    chosen : (a b d : Bool) → d ≡ false → cond (a && (d && b)) (Some (digits_after 0 token)) None ≡ None
    chosen false b d h = refl
    chosen true b false h = refl
    chosen true b true h = absurd cc

pub too_great : (most : ℕ) (token : List ℕ) → most < digits_after 0 token → natural_of most token ≡ None
unfolding natural_of
too_great most token h = chosen (no_leading_zero token) (all_ascii_digits token) (nat_le (digits_after 0 token) most) (grind (arith, nat_tests))
  where
    chosen : (a d b : Bool) → b ≡ false → cond (a && (d && b)) (Some (digits_after 0 token)) None ≡ None
    chosen false d b h = refl
    chosen true false b h = refl
    chosen true true false h = refl
    chosen true true true h = absurd cc

pub goes_over : (most value digit : ℕ) (token rest : List ℕ) → digits_after value (digit ∷ rest) ≡ digits_after 0 token → most / 10 < value → natural_of most token ≡ None
goes_over most value digit token rest e h = too_great most token (omega (arith, digits_grow (10 * value + (digit - 48)) rest))

pub spelled : (most : ℕ) (token : List ℕ) → no_leading_zero token ≡ true → all_ascii_digits token ≡ true → digits_after 0 token ≤ most → natural_of most token ≡ Some (digits_after 0 token)
unfolding natural_of
spelled most token a d h = chosen (no_leading_zero token) (all_ascii_digits token) (nat_le (digits_after 0 token) most) a d (grind (arith, nat_tests))
  where
    chosen : (a d b : Bool) → a ≡ true → d ≡ true → b ≡ true → cond (a && (d && b)) (Some (digits_after 0 token)) None ≡ Some (digits_after 0 token)
    chosen true true true p q r = refl
    chosen true true false p q r = absurd cc
    chosen true false b p q r = absurd cc
    chosen false d b p q r = absurd cc

-- ---- a number and its text

pub natural_again : (most n : ℕ) → n ≤ most → most < 2 ^ 64 → natural_of most (decimal n) ≡ Some n
natural_again most n h small =
    let v : digits_after 0 (decimal n) ≡ n = digits_value-decimal own n (omega arith) in
    spelled most (decimal n) (no_zero (decimal n) (decimal_nonempty n (omega arith)) (one_zero n (omega arith))) (digits_decimal own n (omega arith)) (omega arith) ∙ ap (λ m. Some m) v
  where
    no_zero : (ds : List ℕ) → 0 < length ds → (get_or ds 0 0 ≡ 48 → length ds ≡ 1) → no_leading_zero ds ≡ true
    no_zero [] h k = absurd (omega arith)
    no_zero (c ∷ []) h k = refl
    no_zero (c ∷ (d ∷ ds)) h k = let ne : c ≢ 48 = λ e. (let m : suc (suc (length ds)) ≡ 1 = k e in omega arith) in grind (arith, nat_tests)

    one_zero : (n : ℕ) → n < 2 ^ 64 → get_or (decimal n) 0 0 ≡ 48 → length (decimal n) ≡ 1
    one_zero zero s e = ap length (decimal_digit 0 (omega arith))
    one_zero (suc n) s e = absurd (omega (arith, first_decimal (suc n) (omega arith) s))

pub natural_takes : (most : ℕ) (token : List ℕ) (n : ℕ) → most < 2 ^ 64 → natural_of most token ≡ Some n → (token ≡ decimal n) × (n ≤ most)
unfolding natural_of
natural_takes most token n small h = chosen (no_leading_zero token) (all_ascii_digits token) (nat_le (digits_after 0 token) most) refl refl refl h
  where
    first_zero : (ds : List ℕ) → no_leading_zero ds ≡ true → get_or ds 0 0 ≡ 48 → length ds ≡ 1
    first_zero [] a e = absurd cc
    first_zero (c ∷ []) a e = refl
    first_zero (c ∷ (d ∷ ds)) a e = absurd (grind (arith, nat_tests))

    some_byte : (ds : List ℕ) → no_leading_zero ds ≡ true → 0 < length ds
    some_byte [] a = absurd cc
    some_byte (c ∷ cs) a = omega arith

    chosen : (a d b : Bool) → no_leading_zero token ≡ a → all_ascii_digits token ≡ d → nat_le (digits_after 0 token) most ≡ b → cond (a && (d && b)) (Some (digits_after 0 token)) None ≡ Some n → (token ≡ decimal n) × (n ≤ most)
    chosen false d b p q r e = absurd cc
    chosen true false b p q r e = absurd cc
    chosen true true false p q r e = absurd cc
    chosen true true true p q r e =
        let v : digits_after 0 token ≡ n = cc in
        let le : digits_after 0 token ≤ most = grind (arith, nat_tests) in
        (sym (decimal-digits_value own token q (some_byte token p) (first_zero token p) (omega arith)) ∙ ap decimal v, omega arith)

pub number_again : (n : ℕ) → n < 2 ^ 32 → number_of (decimal n) ≡ Some n
unfolding number_of
number_again n h = natural_again 4294967295 n (omega arith) (lit< tt)

pub number_takes : (token : List ℕ) (n : ℕ) → number_of token ≡ Some n → (token ≡ decimal n) × (n < 2 ^ 32)
unfolding number_of
number_takes token n h = let k = natural_takes 4294967295 token n (lit< tt) h in (k.0, omega (arith, k.1))

-- ---- what the loop over digits answers at the first byte of what is left

pub bad_digit : (most : ℕ) (token rest : List ℕ) → all_ascii_digits rest ≡ all_ascii_digits token → 1 ≤ length rest → is_ascii_digit (get_or rest 0 0) ≡ false → natural_of most token ≡ None
bad_digit most token [] e h k = absurd (omega arith)
bad_digit most token (c ∷ cs) e h k = no_digits most token (sym e ∙ ap (λ b. b && all_ascii_digits cs) k)

pub over : (most value : ℕ) (token rest : List ℕ) → digits_after value rest ≡ digits_after 0 token → 1 ≤ length rest → most / 10 < value → natural_of most token ≡ None
over most value token [] e h k = absurd (omega arith)
over most value token (c ∷ cs) e h k = goes_over most value c token cs e k

-- ---- integers

pub integer_again : (z : ℤ) → FitsSigned w64 z → integer_of (signed_decimal z) ≡ Some z
unfolding integer_of
integer_again (pos n) h = plain (decimal n) (no_minus n (omega (arith, ints))) (natural_again 9223372036854775807 n (omega (arith, ints)) (lit< tt))
  where
    no_minus : (n : ℕ) → n < 2 ^ 64 → 48 ≤ get_or (decimal n) 0 0
    no_minus zero s = omega (arith, ap (λ (ds : List ℕ). get_or ds 0 0) (decimal_digit 0 (omega arith)))
    no_minus (suc n) s = omega (arith, first_decimal (suc n) (omega arith) s)

    plain : (ds : List ℕ) → 48 ≤ get_or ds 0 0 → natural_of 9223372036854775807 ds ≡ Some n → integer_of ds ≡ Some (pos n)
    plain [] h e = absurd (omega arith)
    plain (c ∷ cs) h e = let k : eqb c 45 ≡ false = grind (arith, nat_tests) in rw (k, e) refl
integer_again (negsuc n) h = ap negative_of (natural_again 9223372036854775808 (suc n) (omega (arith, ints)) (lit< tt))

pub integer_takes : (token : List ℕ) (z : ℤ) → integer_of token ≡ Some z → (token ≡ signed_decimal z) × FitsSigned w64 z
unfolding integer_of
integer_takes [] z h = absurd cc
integer_takes (c ∷ cs) z h = chosen (eqb c 45) refl h
  where
    minus : (o : Option ℕ) → natural_of 9223372036854775808 cs ≡ o → c ≡ 45 → negative_of o ≡ Some z → (c ∷ cs ≡ signed_decimal z) × FitsSigned w64 z
    minus None e k m = absurd cc
    minus (Some zero) e k m = absurd cc
    minus (Some (suc n)) e k m =
        let t = natural_takes 9223372036854775808 cs (suc n) (lit< tt) e in
        let is : negsuc n ≡ z = cc in
        let same : c ∷ cs ≡ 45 ∷ decimal (suc n) = cc (k, t.0) in
        let fits : FitsSigned w64 (negsuc n) = grind (arith, ints, t.1) in
        subst (λ (y : ℤ). (c ∷ cs ≡ signed_decimal y) × FitsSigned w64 y) is (same, fits)

    plain : (o : Option ℕ) → natural_of 9223372036854775807 (c ∷ cs) ≡ o → option_map (λ n. pos n) o ≡ Some z → (c ∷ cs ≡ signed_decimal z) × FitsSigned w64 z
    plain None e m = absurd cc
    plain (Some n) e m =
        let t = natural_takes 9223372036854775807 (c ∷ cs) n (lit< tt) e in
        let is : pos n ≡ z = cc in
        let fits : FitsSigned w64 (pos n) = grind (arith, ints, t.1) in
        subst (λ (y : ℤ). (c ∷ cs ≡ signed_decimal y) × FitsSigned w64 y) is (t.0, fits)

    chosen : (b : Bool) → eqb c 45 ≡ b → cond b (negative_of (natural_of 9223372036854775808 cs)) (option_map (λ n. pos n) (natural_of 9223372036854775807 (c ∷ cs))) ≡ Some z → (c ∷ cs ≡ signed_decimal z) × FitsSigned w64 z
    chosen true e m = minus (natural_of 9223372036854775808 cs) refl (eqb-true c 45 e) m
    chosen false e m = plain (natural_of 9223372036854775807 (c ∷ cs)) refl m
