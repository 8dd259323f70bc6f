-- What first-seen numbers say of keys, and that nothing else says it.
use Rattle.std.proofs.Common.{refl, ℕ, zero, suc, ◌≡◌, ◌≤◌, ◌<◌, ◌-◌, Bool, true, false, List, [], ◌∷◌, length, get_or, ap, sym, subst, ◌∙◌, arith, if◌then◌else◌, nat_eq, Option, Some, None, inl, inr, ◌⊎◌}
use Rattle.std.proofs.lemmas.Bool.{cases_order}
use Rattle.std.proofs.lemmas.Bool.Decides.{eqb_tells}
use Rattle.std.proofs.lemmas.List.{ext_get_or}
use Rattle.cv_list.specs.FirstSeen.{IsNumbering, first_seen, numbers_behind, seen_number, with_key}

-- ---- keys that were seen

abbrev IsSeen : List ℕ → ℕ → Type 0
IsSeen seen key = seen_number seen key ≤ length seen

same_or_not : (a b : ℕ) → ((a ≡ b) × (nat_eq a b ≡ true)) ⊎ (nat_eq a b ≡ false)
same_or_not a b = elim (eqb_tells a b) [
  | inl (e, f) ↦ inl (f, e)
  | inr (e, f) ↦ inr e
]

is_same : (a : ℕ) → nat_eq a a ≡ true
is_same a = elim (eqb_tells a a) [
  | inl (e, f) ↦ e
  | inr (e, f) ↦ absurd (f refl)
]

-- a number is from 1 on, and at most one more than the number of keys seen
pub number_from_one : (seen : List ℕ) (key : ℕ) → 1 ≤ seen_number seen key
number_from_one [] key = omega arith
number_from_one (k ∷ ks) key = by_test (nat_eq k key) (seen_number ks key)
  where
    by_test : (b : Bool) (n : ℕ) → 1 ≤ (if b then 1 else suc n)
    by_test true n = omega arith
    by_test false n = omega arith

pub number_at_most : (seen : List ℕ) (key : ℕ) → seen_number seen key ≤ suc (length seen)
number_at_most [] key = omega arith
number_at_most (k ∷ ks) key = by_test (nat_eq k key) (seen_number ks key) (length ks) (number_at_most ks key)
  where
    by_test : (b : Bool) (n m : ℕ) → n ≤ suc m → (if b then 1 else suc n) ≤ suc (suc m)
    by_test true n m h = omega arith
    by_test false n m h = omega arith

-- a key keeps its number behind other ones
kept : (seen : List ℕ) (other key : ℕ) → IsSeen seen key → seen_number (with_key seen other) key ≡ seen_number seen key
kept [] other key h = absurd (omega (arith, h))
kept (x ∷ xs) other key h = by_test (nat_eq x other) (λ g. kept xs other key g)
  where
    below : (IsSeen xs key → seen_number (with_key xs other) key ≡ seen_number xs key) → (b : Bool) → (if b then 1 else suc (seen_number xs key)) ≤ suc (length xs) →
        (if b then 1 else suc (seen_number (with_key xs other) key)) ≡ (if b then 1 else suc (seen_number xs key))
    below rest true g = refl
    below rest false g = ap suc (rest (omega (arith, g)))

    by_test : (a : Bool) → (IsSeen xs key → seen_number (with_key xs other) key ≡ seen_number xs key) →
        seen_number (if a then x ∷ xs else x ∷ with_key xs other) key ≡ seen_number (x ∷ xs) key
    by_test true rest = refl
    by_test false rest = below rest (nat_eq x key) h

longer : (seen : List ℕ) (key : ℕ) → length seen ≤ length (with_key seen key)
longer [] key = omega arith
longer (x ∷ xs) key = by_test (nat_eq x key) (longer xs key)
  where
    by_test : (b : Bool) → length xs ≤ length (with_key xs key) → suc (length xs) ≤ length (if b then x ∷ xs else x ∷ with_key xs key)
    by_test true h = omega arith
    by_test false h = omega (arith, h)

-- a key that is put behind gets the number that it had, or the next one
added_number : (seen : List ℕ) (key : ℕ) → seen_number (with_key seen key) key ≡ seen_number seen key
added_number [] key = ap (λ b. if b then 1 else 2) (is_same key)
added_number (x ∷ xs) key = by_test (nat_eq x key) refl (added_number xs key)
  where
    by_test : (b : Bool) → nat_eq x key ≡ b → seen_number (with_key xs key) key ≡ seen_number xs key →
        seen_number (if b then x ∷ xs else x ∷ with_key xs key) key ≡ (if b then 1 else suc (seen_number xs key))
    by_test true e h = ap (λ b. if b then 1 else suc (seen_number xs key)) e
    by_test false e h = ap (λ b. if b then 1 else suc (seen_number (with_key xs key) key)) e ∙ ap suc h

added_seen : (seen : List ℕ) (key : ℕ) → seen_number seen key ≤ length (with_key seen key)
added_seen [] key = omega arith
added_seen (x ∷ xs) key = by_test (nat_eq x key) (added_seen xs key)
  where
    by_test : (b : Bool) → seen_number xs key ≤ length (with_key xs key) →
        (if b then 1 else suc (seen_number xs key)) ≤ length (if b then x ∷ xs else x ∷ with_key xs key)
    by_test true h = omega arith
    by_test false h = omega (arith, h)

pub is_seen : (seen : List ℕ) (key : ℕ) → IsSeen (with_key seen key) key
is_seen seen key = omega (arith, added_number seen key, added_seen seen key)

-- a key was seen, or it is the last one now
last_or_not : (seen : List ℕ) (key : ℕ) → (length (with_key seen key) ≤ length seen) ⊎ (seen_number seen key ≡ suc (length seen))
last_or_not [] key = inr refl
last_or_not (x ∷ xs) key = by_test (nat_eq x key) (last_or_not xs key)
  where
    by_test : (b : Bool) → (length (with_key xs key) ≤ length xs) ⊎ (seen_number xs key ≡ suc (length xs)) →
        (length (if b then x ∷ xs else x ∷ with_key xs key) ≤ suc (length xs)) ⊎ ((if b then 1 else suc (seen_number xs key)) ≡ suc (suc (length xs)))
    by_test true h = inl (omega arith)
    by_test false (inl h) = inl (omega (arith, h))
    by_test false (inr h) = inr (ap suc h)

one_longer : (seen : List ℕ) (key : ℕ) → length (with_key seen key) ≤ suc (length seen)
one_longer [] key = omega arith
one_longer (x ∷ xs) key = by_test (nat_eq x key) (one_longer xs key)
  where
    by_test : (b : Bool) → length (with_key xs key) ≤ suc (length xs) → length (if b then x ∷ xs else x ∷ with_key xs key) ≤ suc (suc (length xs))
    by_test true h = omega arith
    by_test false h = omega (arith, h)

-- keys that have one number are one key
one_key : (seen : List ℕ) (k l : ℕ) → IsSeen seen k → seen_number seen k ≡ seen_number seen l → k ≡ l
one_key [] k l h e = absurd (omega (arith, h))
one_key (x ∷ xs) k l h e = elim (same_or_not x k) [
  | inl (same, f) ↦ elim (same_or_not x l) [
    | inl (too, g) ↦ sym same ∙ too
    | inr g ↦
        let i : seen_number (x ∷ xs) k ≡ 1 = ap (λ b. if b then 1 else suc (seen_number xs k)) f in
        let j : seen_number (x ∷ xs) l ≡ suc (seen_number xs l) = ap (λ b. if b then 1 else suc (seen_number xs l)) g in
        absurd (omega (arith, i, j, e, number_from_one xs l))
  ]
  | inr f ↦
      let i : seen_number (x ∷ xs) k ≡ suc (seen_number xs k) = ap (λ b. if b then 1 else suc (seen_number xs k)) f in
      elim (same_or_not x l) [
        | inl (too, g) ↦
            let j : seen_number (x ∷ xs) l ≡ 1 = ap (λ b. if b then 1 else suc (seen_number xs l)) g in
            absurd (omega (arith, i, j, e, number_from_one xs k))
        | inr g ↦
            let j : seen_number (x ∷ xs) l ≡ suc (seen_number xs l) = ap (λ b. if b then 1 else suc (seen_number xs l)) g in
            one_key xs k l (omega (arith, i, h)) (omega (arith, i, j, e))
      ]
]

-- ---- the numbers are those in the list of all keys

abbrev numbered : List ℕ → Option ℕ → ℕ
numbered seen None = 0
numbered seen (Some key) = seen_number seen key

abbrev seen_behind : List ℕ → List (Option ℕ) → List ℕ
seen_behind seen [] = seen
seen_behind seen (None ∷ keys) = seen_behind seen keys
seen_behind seen (Some key ∷ keys) = seen_behind (with_key seen key) keys

still_seen : (seen : List ℕ) (other key : ℕ) → IsSeen seen key → IsSeen (with_key seen other) key
still_seen seen other key h = omega (arith, kept seen other key h, longer seen other, h)

kept_behind : (seen : List ℕ) (keys : List (Option ℕ)) (key : ℕ) → IsSeen seen key → seen_number (seen_behind seen keys) key ≡ seen_number seen key
kept_behind seen [] key h = refl
kept_behind seen (None ∷ keys) key h = kept_behind seen keys key h
kept_behind seen (Some other ∷ keys) key h = kept_behind (with_key seen other) keys key (still_seen seen other key h) ∙ kept seen other key h

seen_at_last : (seen : List ℕ) (keys : List (Option ℕ)) (key : ℕ) → IsSeen seen key → IsSeen (seen_behind seen keys) key
seen_at_last seen [] key h = h
seen_at_last seen (None ∷ keys) key h = seen_at_last seen keys key h
seen_at_last seen (Some other ∷ keys) key h = seen_at_last (with_key seen other) keys key (still_seen seen other key h)

each_seen : (seen : List ℕ) (keys : List (Option ℕ)) (i key : ℕ) → get_or keys i None ≡ Some key → IsSeen (seen_behind seen keys) key
each_seen seen [] i key e = cc
each_seen seen (None ∷ keys) zero key e = cc
each_seen seen (None ∷ keys) (suc i) key e = each_seen seen keys i key e
each_seen seen (Some k ∷ keys) zero key e = let same : k ≡ key = cc in seen_at_last (with_key seen k) keys key (subst (λ (n : ℕ). IsSeen (with_key seen k) n) same (is_seen seen k))
each_seen seen (Some k ∷ keys) (suc i) key e = each_seen (with_key seen k) keys i key e

as_numbered : (seen : List ℕ) (keys : List (Option ℕ)) (i : ℕ) → get_or (numbers_behind seen keys) i 0 ≡ numbered (seen_behind seen keys) (get_or keys i None)
as_numbered seen [] i = refl
as_numbered seen (None ∷ keys) zero = refl
as_numbered seen (None ∷ keys) (suc i) = as_numbered seen keys i
as_numbered seen (Some k ∷ keys) zero = sym (kept_behind (with_key seen k) keys k (is_seen seen k) ∙ added_number seen k)
as_numbered seen (Some k ∷ keys) (suc i) = as_numbered (with_key seen k) keys i

each_number : (seen : List ℕ) (keys : List (Option ℕ)) → length (numbers_behind seen keys) ≡ length keys
each_number seen [] = refl
each_number seen (None ∷ keys) = ap suc (each_number seen keys)
each_number seen (Some k ∷ keys) = ap suc (each_number (with_key seen k) keys)

one_numbered : (seen : List ℕ) (a b : Option ℕ) → ((key : ℕ) → a ≡ Some key → IsSeen seen key) → numbered seen a ≡ numbered seen b → a ≡ b
one_numbered seen None None h e = refl
one_numbered seen None (Some l) h e = absurd (omega (arith, e, number_from_one seen l))
one_numbered seen (Some k) None h e = absurd (omega (arith, e, number_from_one seen k))
one_numbered seen (Some k) (Some l) h e = ap Some (one_key seen k l (h k refl) e)

none_numbered : (seen : List ℕ) (a : Option ℕ) → numbered seen a ≡ 0 → a ≡ None
none_numbered seen None e = refl
none_numbered seen (Some k) e = absurd (omega (arith, e, number_from_one seen k))

-- ---- each number but 1 has the one before it in front

next_behind : (seen : List ℕ) (keys : List (Option ℕ)) (i n : ℕ) → get_or (numbers_behind seen keys) i 0 ≡ suc (suc n) →
    (suc n ≤ length seen) ⊎ ((j : ℕ) × (j < i) × (get_or (numbers_behind seen keys) j 0 ≡ suc n))
next_behind seen [] i n e = cc
next_behind seen (None ∷ keys) zero n e = cc
next_behind seen (None ∷ keys) (suc i) n e = elim (next_behind seen keys i n e) [
  | inl h ↦ inl h
  | inr (j, lt, is) ↦ inr (suc j, omega (arith, lt), is)
]
next_behind seen (Some k ∷ keys) zero n e = inl (omega (arith, e, number_at_most seen k))
next_behind seen (Some k ∷ keys) (suc i) n e = elim (next_behind (with_key seen k) keys i n e) [
  | inl h ↦ elim (last_or_not seen k) [
    | inl m ↦ inl (omega (arith, h, m))
    | inr m ↦ elim (cases_order (suc n) (suc (length seen))) [
      | inl same ↦ inr (0, omega arith, m ∙ sym same)
      | inr (inl less) ↦ inl (omega (arith, less))
      | inr (inr more) ↦ absurd (omega (arith, more, h, one_longer seen k))
    ]
  ]
  | inr (j, lt, is) ↦ inr (suc j, omega (arith, lt), is)
]

-- first-seen numbers number the keys
pub is_numbering : (keys : List (Option ℕ)) → IsNumbering keys (first_seen keys)
is_numbering keys =
    let at : (i : ℕ) → get_or (first_seen keys) i 0 ≡ numbered (seen_behind [] keys) (get_or keys i None) = λ i. as_numbered [] keys i in
    record {
      each = each_number [] keys;
      none = λ i lt. (λ e. at i ∙ ap (numbered (seen_behind [] keys)) e, λ e. none_numbered (seen_behind [] keys) (get_or keys i None) (sym (at i) ∙ e));
      same = λ i j lt lt_too. (
        λ e. at i ∙ ap (numbered (seen_behind [] keys)) e ∙ sym (at j),
        λ e. one_numbered (seen_behind [] keys) (get_or keys i None) (get_or keys j None) (λ key f. each_seen [] keys i key f) (sym (at i) ∙ e ∙ at j),
      );
      next = λ i n lt e. elim (next_behind [] keys i n e) [
        | inl h ↦ absurd (omega (arith, h))
        | inr h ↦ h
      ];
    }

-- ---- there is one numbering

-- in front of a number stand all that are less, but 0
down : (keys : List (Option ℕ)) (numbers : List ℕ) → IsNumbering keys numbers → (most i n : ℕ) → i < length keys → get_or numbers i 0 ≤ most → suc n < get_or numbers i 0 →
    (j : ℕ) × (j < i) × (get_or numbers j 0 ≡ suc n)
down keys numbers is zero i n lt within less = absurd (omega (arith, within, less))
down keys numbers is (suc most) i n lt within less =
    let before : ℕ = get_or numbers i 0 - 2 in
    let (j, earlier, at) = is.next i before lt (omega (arith, less)) in
    elim (cases_order n before) [
      | inl same ↦ (j, earlier, at ∙ ap suc (sym same))
      | inr (inl more) ↦
          let (k, below, there) = down keys numbers is most j n (omega (arith, earlier, lt)) (omega (arith, at, within, less)) (omega (arith, at, more)) in
          (k, omega (arith, earlier, below), there)
      | inr (inr past) ↦ absurd (omega (arith, past, less))
    ]

less_not : (keys : List (Option ℕ)) (xs ys : List ℕ) → IsNumbering keys xs → IsNumbering keys ys → (i : ℕ) → i < length keys →
    ((j : ℕ) → j < i → get_or xs j 0 ≡ get_or ys j 0) → get_or xs i 0 < get_or ys i 0 → ⊥
less_not keys xs ys f g i lt before less = by_number (get_or xs i 0) (get_or ys i 0) refl refl
  where
    by_number : (a b : ℕ) → get_or xs i 0 ≡ a → get_or ys i 0 ≡ b → ⊥
    by_number zero b e h =
        let none : get_or ys i 0 ≡ 0 = (g.none i lt).0 ((f.none i lt).1 e) in
        absurd (omega (arith, none, less))
    by_number (suc a) b e h =
        let (j, earlier, at) = down keys ys g (get_or ys i 0) i a lt (omega arith) (omega (arith, less, e)) in
        let inside : j < length keys = omega (arith, earlier, lt) in
        let too : get_or xs j 0 ≡ get_or xs i 0 = before j earlier ∙ at ∙ sym e in
        let one : get_or ys j 0 ≡ get_or ys i 0 = (g.same j i inside lt).0 ((f.same j i inside lt).1 too) in
        absurd (omega (arith, at, one, e, less))

one_below : (keys : List (Option ℕ)) (xs ys : List ℕ) → IsNumbering keys xs → IsNumbering keys ys → (n i : ℕ) → i < n → i < length keys → get_or xs i 0 ≡ get_or ys i 0
one_below keys xs ys f g zero i below lt = absurd (omega (arith, below))
one_below keys xs ys f g (suc n) i below lt =
    let before : (j : ℕ) → j < i → get_or xs j 0 ≡ get_or ys j 0 = λ j h. one_below keys xs ys f g n j (omega (arith, h, below)) (omega (arith, h, lt)) in
    elim (cases_order (get_or xs i 0) (get_or ys i 0)) [
      | inl same ↦ same
      | inr (inl less) ↦ absurd (less_not keys xs ys f g i lt before less)
      | inr (inr more) ↦ absurd (less_not keys ys xs g f i lt (λ j h. sym (before j h)) more)
    ]

-- nothing else numbers them so
pub only_numbering : (keys : List (Option ℕ)) (numbers : List ℕ) → IsNumbering keys numbers → numbers ≡ first_seen keys
only_numbering keys numbers h =
    let first = is_numbering keys in
    ext_get_or 0 numbers (first_seen keys) (h.each ∙ sym first.each) (λ i lt. one_below keys numbers (first_seen keys) h first (suc i) i (omega arith) (omega (arith, lt, h.each)))
