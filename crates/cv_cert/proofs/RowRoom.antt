-- How many rows can stand behind a row: there are enough just where there is room.
use Rattle.std.proofs.Common.{◌≡◌, ◌≢◌, ◌==◌, ℕ, suc, ◌+◌, ◌<◌, ◌≤◌, ◌^◌, Bool, true, false, ◌&&◌, ◌||◌, nat_lt, List, [], ◌∷◌, length, Some, None, ℤ, pos, negsuc, ◌<ℤ◌, refl, sym, ap, subst, ◌∙◌, arith, FitsSigned, eqb-true, eq-eqb, lit<}
use Rattle.std.specs.Prelude.{int_lt}
use Rattle.std.specs.Int.{w64}
use Rattle.std.specs.List.{All, AllByRecursion}
use Rattle.std.specs.Ordering.{int_eq}
use Rattle.std.proofs.lemmas.Bool.Decides.{nat_tests}
use Rattle.std.proofs.lemmas.Int.{ints}
use Rattle.cv_num.specs.Pairs.{IsCanonical}
use Rattle.cv_num.specs.declared.rows.Row.{Row}
use Rattle.cv_cert.specs.Certificate.{IsNumber, IsPair, IsRow, AreRows, is_before, pair_before}
use Rattle.cv_cert.specs.Tokens.{has_room, room_above}
use Rattle.cv_cert.proofs.LineLaws.{Fitting}

abbrev pair_row : ℕ × ℤ → Row
pair_row p = record { pairs = p ∷ []; constant = pos 0 }

zero_fits : FitsSigned w64 (pos 0)
zero_fits = grind (arith, ints)

least : ℤ
least = negsuc 9223372036854775807

least_fits : FitsSigned w64 least
unfolding least
least_fits = grind (arith, ints)

none_above : (x : ℕ × ℤ) → All {X = ℕ × ℤ} (λ y. x.0 < y.0) []
none_above x = λ k d lt. absurd (omega arith)

one_pair : (v : ℕ) (c : ℤ) → IsNumber v → FitsSigned w64 c → c ≢ pos 0 → IsRow (pair_row (v, c))
one_pair v c h k ne = record { constant = zero_fits; canonical = (ne, none_above (v, c), tt); pairs = ((h, k), tt) }

not_none : (k : ℕ) → pos (suc k) ≢ pos 0
not_none k e = let m : suc k ≡ 0 = cc in omega arith

or_true : (b : Bool) → b || true ≡ true
or_true true = refl
or_true false = refl

true_or : (a b : Bool) → a ≡ true → a || b ≡ true
true_or true b e = refl
true_or false b e = absurd cc

false_or : (a b : Bool) → a ≡ false → a || b ≡ b
false_or true b e = absurd cc
false_or false b e = refl

lt_test : (m n : ℕ) → m < n → nat_lt m n ≡ true
lt_test m n h = grind (arith, nat_tests)

not_lt_test : (m n : ℕ) → n ≤ m → nat_lt m n ≡ false
not_lt_test m n h = grind (arith, nat_tests)

is_lt : (m n : ℕ) → nat_lt m n ≡ true → m < n
is_lt m n h = grind (arith, nat_tests)

not_lt : (m n : ℕ) → nat_lt m n ≡ false → n ≤ m
not_lt m n h = grind (arith, nat_tests)

-- ---- a row that can follow

-- behind a pair of the greatest variable
behind_last : (n v : ℕ) (c : ℤ) (ps : List (ℕ × ℤ)) (k : ℤ) (before : Row) → before.pairs ≡ (v, c) ∷ ps → suc n < 2 ^ 32 → IsNumber v → 4294967295 ≤ v → c ≡ k → room_above (suc n) k ≡ true → (r : Row) × Fitting n (Some before) r
behind_last n v c ps (pos k) before e small num last is room =
    let lt : suc n + k < 2 ^ 63 = is_lt (suc n + k) (2 ^ 63) room in
    let fits : FitsSigned w64 (pos (suc k)) = grind (arith, ints) in
    let step : int_lt (pos k) (pos (suc k)) ≡ true = grind (arith, ints) in
    let before_it : pair_before (v, pos k) (v, pos (suc k)) ≡ true = rw (not_lt_test v v (omega arith), eq-eqb v v refl, step) refl in (
      pair_row (v, pos (suc k)),
      record {
        row = one_pair v (pos (suc k)) num fits (not_none k);
        after = ap (λ (qs : List (ℕ × ℤ)). is_before qs ((v, pos (suc k)) ∷ [])) e ∙ ap (λ (z : ℤ). is_before ((v, z) ∷ ps) ((v, pos (suc k)) ∷ [])) is ∙ true_or (pair_before (v, pos k) (v, pos (suc k))) _ before_it;
        room = false_or (nat_lt v 4294967295) _ (not_lt_test v 4294967295 last) ∙ lt_test (n + suc k) (2 ^ 63) (omega arith);
      },
    )
behind_last n v c ps (negsuc k) before e small num last is room =
    let fits : FitsSigned w64 (pos 1) = grind (arith, ints) in
    let step : int_lt (negsuc k) (pos 1) ≡ true = grind (arith, ints) in
    let before_it : pair_before (v, negsuc k) (v, pos 1) ≡ true = rw (not_lt_test v v (omega arith), eq-eqb v v refl, step) refl in (
      pair_row (v, pos 1),
      record {
        row = one_pair v (pos 1) num fits (not_none 0);
        after = ap (λ (qs : List (ℕ × ℤ)). is_before qs ((v, pos 1) ∷ [])) e ∙ ap (λ (z : ℤ). is_before ((v, z) ∷ ps) ((v, pos 1) ∷ [])) is ∙ true_or (pair_before (v, negsuc k) (v, pos 1)) _ before_it;
        room = false_or (nat_lt v 4294967295) _ (not_lt_test v 4294967295 last) ∙ lt_test (n + 1) (2 ^ 63) (omega arith);
      },
    )

-- behind a pair of another variable: the next variable with the least coefficient
behind_other : (n v : ℕ) (c : ℤ) (ps : List (ℕ × ℤ)) (before : Row) → before.pairs ≡ (v, c) ∷ ps → v < 4294967295 → (r : Row) × Fitting n (Some before) r
unfolding least
behind_other n v c ps before e lt = (
  pair_row (suc v, least),
  record {
    row = one_pair (suc v) least (omega arith) least_fits (λ z. absurd cc);
    after = ap (λ (qs : List (ℕ × ℤ)). is_before qs ((suc v, least) ∷ [])) e ∙ true_or (pair_before (v, c) (suc v, least)) _ (true_or (nat_lt v (suc v)) _ (lt_test v (suc v) (omega arith)));
    room = or_true (nat_lt (suc v) 4294967295);
  },
)

pub can_follow : (n : ℕ) (before : Row) → suc n < 2 ^ 32 → IsRow before → has_room (suc n) before.pairs ≡ true → (r : Row) × Fitting n (Some before) r
can_follow n before small h room = by_pairs before.pairs refl
  where
    by_pairs : (ps : List (ℕ × ℤ)) → before.pairs ≡ ps → (r : Row) × Fitting n (Some before) r
    by_pairs [] e =
        let fits : FitsSigned w64 (pos 1) = grind (arith, ints) in
        (pair_row (0, pos 1), record { row = one_pair 0 (pos 1) (lit< tt) fits (not_none 0); after = ap (λ (qs : List (ℕ × ℤ)). is_before qs ((0, pos 1) ∷ [])) e; room = refl })
    by_pairs (p ∷ ps) e = by_test (nat_lt p.0 4294967295) refl
      where
        first : IsPair p
        first = (let all : AllByRecursion IsPair (p ∷ ps) = subst (λ (qs : List (ℕ × ℤ)). AllByRecursion IsPair qs) e h.pairs in all.0)

        room_of : has_room (suc n) (p ∷ ps) ≡ true
        room_of = ap (has_room (suc n)) (sym e) ∙ room

        by_test : (b : Bool) → nat_lt p.0 4294967295 ≡ b → (r : Row) × Fitting n (Some before) r
        by_test true t = behind_other n p.0 p.1 ps before e (is_lt p.0 4294967295 t)
        by_test false t = behind_last n p.0 p.1 ps p.1 before e small first.0 (not_lt p.0 4294967295 t) refl (sym (false_or (nat_lt p.0 4294967295) (room_above (suc n) p.1) t) ∙ room_of)

pub can_begin : (n : ℕ) → (r : Row) × Fitting n None r
can_begin n = (record { pairs = []; constant = pos 0 }, record { row = record { constant = zero_fits; canonical = tt; pairs = tt }; after = tt; room = refl })

-- ---- rows that follow need room

-- what stands before pairs of the greatest variable is that variable with a lesser coefficient
same_variable : (v w : ℕ) (c d : ℤ) (ps qs : List (ℕ × ℤ)) → 4294967295 ≤ v → IsNumber w → IsCanonical ((w, d) ∷ qs) → AllByRecursion IsPair qs → is_before ((v, c) ∷ ps) ((w, d) ∷ qs) ≡ true → (v ≡ w) × (c <ℤ d)
same_variable v w c d ps qs last num canon pairs e = by_tests (nat_lt v w) (v == w) (int_lt c d) (int_eq c d) refl refl refl refl e
  where
    no_more : (qs : List (ℕ × ℤ)) → All (λ y. w < y.0) qs → AllByRecursion IsPair qs → v ≡ w → is_before ps qs ≡ true → ⊥
    no_more [] a b s t = nothing ps t
      where
        nothing : (ps : List (ℕ × ℤ)) → is_before ps [] ≡ true → ⊥
        nothing [] t = absurd cc
        nothing (p ∷ ps) t = absurd cc
    no_more (q ∷ qs) a b s t = (let k : w < q.0 = a 0 q (omega arith) in let m = (b.0).0 in absurd (omega arith))

    by_tests : (x y z u : Bool) → nat_lt v w ≡ x → (v == w) ≡ y → int_lt c d ≡ z → int_eq c d ≡ u → (x || (y && z)) || ((y && u) && is_before ps qs) ≡ true → (v ≡ w) × (c <ℤ d)
    by_tests true y z u p q r s t = absurd (omega (arith, is_lt v w p))
    by_tests false false z u p q r s t = absurd cc
    by_tests false true true u p q r s t = (eqb-true v w q, grind (arith, ints))
    by_tests false true false false p q r s t = absurd cc
    by_tests false true false true p q r s t = absurd (no_more qs canon.1 pairs (eqb-true v w q) t)

room_for_none : (ps : List (ℕ × ℤ)) → AllByRecursion IsPair ps → has_room 0 ps ≡ true
room_for_none [] h = refl
room_for_none ((v, negsuc c) ∷ ps) h = or_true (nat_lt v 4294967295)
room_for_none ((v, pos c) ∷ ps) h =
    let fits = (h.0).1 in
    let lt : c < 2 ^ 63 = omega (arith, ints) in
    rw (lt_test (0 + c) (2 ^ 63) (omega arith)) (or_true (nat_lt v 4294967295))

room_for_more : (n : ℕ) (ps qs : List (ℕ × ℤ)) → AllByRecursion IsPair qs → IsCanonical qs → is_before ps qs ≡ true → has_room n qs ≡ true → has_room (suc n) ps ≡ true
room_for_more n [] qs pairs canon lt room = refl
room_for_more n ((v, negsuc c) ∷ ps) qs pairs canon lt room = or_true (nat_lt v 4294967295)
room_for_more n ((v, pos c) ∷ ps) [] pairs canon lt room = absurd cc
room_for_more n ((v, pos c) ∷ ps) ((w, d) ∷ qs) pairs canon lt room = by_test (nat_lt v 4294967295) refl
  where
    last : (d : ℤ) → 4294967295 ≤ v → v ≡ w → pos c <ℤ d → nat_lt w 4294967295 || room_above n d ≡ true → suc n + c < 2 ^ 63
    last (negsuc k) ge same less room = absurd (omega (arith, ints))
    last (pos k) ge same less room =
        let up : c < k = omega (arith, ints) in
        let m : n + k < 2 ^ 63 = is_lt (n + k) (2 ^ 63) (sym (false_or (nat_lt w 4294967295) (nat_lt (n + k) (2 ^ 63)) (not_lt_test w 4294967295 (omega arith))) ∙ room) in
        omega arith

    by_test : (b : Bool) → nat_lt v 4294967295 ≡ b → b || room_above (suc n) (pos c) ≡ true
    by_test true t = refl
    by_test false t =
        let ge : 4294967295 ≤ v = not_lt v 4294967295 t in
        let k = same_variable v w (pos c) d ps qs ge (pairs.0).0 canon pairs.1 lt in
        lt_test (suc n + c) (2 ^ 63) (last d ge k.0 k.1 room)

-- there is room for rows that do follow
pub needs_room : (rows : List Row) (r : Row) → IsRow r → AreRows (Some r) rows → has_room (length rows) r.pairs ≡ true
needs_room [] r h k = room_for_none r.pairs h.pairs
needs_room (s ∷ rest) r h k = let row = k.0 in room_for_more (length rest) r.pairs s.pairs row.pairs row.canonical k.1 (needs_room rest s row k.2)
