-- Lists of pairs, taken apart variable by variable from the least on.
use Rattle.std.proofs.Common.{◌≡◌, ◌≢◌, ℕ, ◌<◌, ◌≤◌, ◌+◌, ◌-◌, ◌^◌, ℤ, pos, ◌+ℤ◌, ◌*ℤ◌, ◌<ℤ◌, List, [], ◌∷◌, ◌⊎◌, inl, inr, Bool, true, false, refl, sym, subst, ◌∙◌, ap, arith, nat_eq, eqb-true, length, take, drop, slice_index_or, if◌then◌else◌}
use Rattle.std.specs.Prelude.{int_lt}
use Rattle.std.proofs.lemmas.Int.{ints}
use Rattle.std.proofs.lemmas.Bool.{cases_order, cases_lt}
use Rattle.std.proofs.lemmas.List.Elements.{All-weaker}
use Rattle.std.proofs.Math.IntN.{*ℤ-zero}
use Rattle.cv_num.specs.Pairs.{IsCanonical, coefficient_of}
use Rattle.cv_num.specs.Coefficients.{coefficient_of-head, coefficient_of-under, coefficient_of-above}
use Rattle.cv_num.proofs.Build.{take_past}
use Rattle.std.specs.declared.cmp.Ordering.TheVariants.{Less, Greater}
use Rattle.cv_farkas.specs.Order.{IsCompared, IsSplit}

-- ---- one list
cons_split : (x : ℕ × ℤ) (xs : List (ℕ × ℤ)) → IsCanonical (x ∷ xs) → IsSplit (x ∷ xs) x.0 x.1 xs
cons_split x xs h = record {
  here = coefficient_of-head x xs h;
  beyond = λ u l. past u (nat_eq x.0 u) refl l;
  none = λ u l. coefficient_of-above u xs (All-weaker (λ y. x.0 < y.0) (λ y. u < y.0) (λ y k. omega arith) xs h.1);
  canonical = h.2;
}
  where
    past : (u : ℕ) (t : Bool) → nat_eq x.0 u ≡ t → x.0 < u → (if t then x.1 else pos 0) +ℤ coefficient_of xs u ≡ coefficient_of xs u
    past u true e l = absurd (let k : x.0 ≡ u = eqb-true x.0 u e in omega arith)
    past u false e l = omega (arith, ints)

tail_is : (x : ℕ × ℤ) (xs : List (ℕ × ℤ)) → take (length (x ∷ xs) - 1) (drop 1 (x ∷ xs)) ≡ xs
tail_is x xs = take_past xs (length (x ∷ xs) - 1) (omega arith)

pub head_split : (xs : List (ℕ × ℤ)) (v : ℕ) (c : ℤ) → 1 ≤ length xs → IsCanonical xs → (slice_index_or xs 0 (0, pos 0)).0 ≡ v → c ≡ (slice_index_or xs 0 (0, pos 0)).1 → IsSplit xs v c (take (length xs - 1) (drop 1 xs))
head_split [] v c l h e f = absurd (omega arith)
head_split (x ∷ xs) v c l h e f =
    let P : List (ℕ × ℤ) → Type 0 = λ r. IsSplit (x ∷ xs) v c r in
    let Q : ℕ → Type 0 = λ u. IsSplit (x ∷ xs) u c xs in
    let R : ℤ → Type 0 = λ z. IsSplit (x ∷ xs) x.0 z xs in
    subst P (sym (tail_is x xs)) (subst Q e (subst R (sym f) (cons_split x xs h)))

none_at : (xs : List (ℕ × ℤ)) (v : ℕ) → IsCanonical xs → ((u : ℕ) → u < v → coefficient_of xs u ≡ pos 0) → (1 ≤ length xs → (slice_index_or xs 0 (0, pos 0)).0 ≢ v) → coefficient_of xs v ≡ pos 0
none_at [] v h b n = refl
none_at (x ∷ xs) v h b n = at (cases_order x.0 v)
  where
    at : (x.0 ≡ v) ⊎ ((x.0 < v) ⊎ (v < x.0)) → coefficient_of (x ∷ xs) v ≡ pos 0
    at (inl e) = absurd (n (omega arith) e)
    at (inr (inl l)) = absurd (h.0 (sym (coefficient_of-head x xs h) ∙ b x.0 l))
    at (inr (inr l)) = coefficient_of-under v x xs h l

pub no_split : (xs : List (ℕ × ℤ)) (v : ℕ) → IsCanonical xs → ((u : ℕ) → u < v → coefficient_of xs u ≡ pos 0) → (1 ≤ length xs → (slice_index_or xs 0 (0, pos 0)).0 ≢ v) → IsSplit xs v (pos 0) xs
no_split xs v h b n = record {
  here = none_at xs v h b n;
  beyond = λ u l. refl;
  none = λ u l. at u (cases_order u v) l;
  canonical = h;
}
  where
    at : (u : ℕ) → (u ≡ v) ⊎ ((u < v) ⊎ (v < u)) → u < v + 1 → coefficient_of xs u ≡ pos 0
    at u (inl e) l = ap (λ (w : ℕ). coefficient_of xs w) e ∙ none_at xs v h b n
    at u (inr (inl k)) l = b u k
    at u (inr (inr k)) l = absurd (omega arith)

-- ---- tests of whole numbers
pub less_from : (a b : ℤ) → int_lt a b ≡ true → a <ℤ b
less_from a b e = grind (arith, ints)

pub same_from : (a b : ℤ) → int_lt a b ≡ false → int_lt b a ≡ false → a ≡ b
same_from a b e f = grind (arith, ints)

-- ---- the comparison of left + k * right with goal
-- what is left of each list, with the same difference as the whole, and nothing below from
pub record IsSwept (left right goal : List (ℕ × ℤ)) (k : ℤ) (l r g : List (ℕ × ℤ)) (from : ℕ) : Type 0 where
  pub in_range : from ≤ 2 ^ 32
  pub left_in : IsCanonical l
  pub right_in : IsCanonical r
  pub goal_in : IsCanonical g
  pub none : (u : ℕ) → u < from → (coefficient_of l u ≡ pos 0) × (coefficient_of r u ≡ pos 0) × (coefficient_of g u ≡ pos 0)
  pub balance : (u : ℕ) → (coefficient_of left u +ℤ k *ℤ coefficient_of right u) +ℤ coefficient_of g u ≡ coefficient_of goal u +ℤ (coefficient_of l u +ℤ k *ℤ coefficient_of r u)

pub sweep_start : (left right goal : List (ℕ × ℤ)) (k : ℤ) → IsCanonical left → IsCanonical right → IsCanonical goal → IsSwept left right goal k left right goal 0
sweep_start left right goal k a b c = record {
  in_range = omega arith;
  left_in = a;
  right_in = b;
  goal_in = c;
  none = λ u l. absurd (omega arith);
  balance = λ u. omega (arith, ints);
}

-- nothing below the next variable
abbrev pub NoneBelow : List (ℕ × ℤ) → List (ℕ × ℤ) → List (ℕ × ℤ) → ℕ → Type 0
NoneBelow l r g v = (u : ℕ) → u < v → (coefficient_of l u ≡ pos 0) × (coefficient_of r u ≡ pos 0) × (coefficient_of g u ≡ pos 0)

pub none_below : (left right goal : List (ℕ × ℤ)) (k : ℤ) (l r g : List (ℕ × ℤ)) (from v : ℕ) → IsSwept left right goal k l r g from
    → ((u : ℕ) → from ≤ u → u < v → (coefficient_of l u ≡ pos 0) × (coefficient_of r u ≡ pos 0) × (coefficient_of g u ≡ pos 0)) → NoneBelow l r g v
none_below left right goal k l r g from v s n u m = at (cases_lt u from)
  where
    at : (u < from) ⊎ (from ≤ u) → (coefficient_of l u ≡ pos 0) × (coefficient_of r u ≡ pos 0) × (coefficient_of g u ≡ pos 0)
    at (inl h) = s.none u h
    at (inr h) = n u h m

sides_same : (f g k : ℤ) (l r z : ℤ) → l ≡ pos 0 → r ≡ pos 0 → z ≡ pos 0 → f +ℤ z ≡ g +ℤ (l +ℤ k *ℤ r) → f ≡ g
sides_same f g k l r z el er ez e =
    let none : k *ℤ r ≡ pos 0 = ap (λ w. k *ℤ w) er ∙ *ℤ-zero k in omega (arith, ints)

pub sweep_below : (left right goal : List (ℕ × ℤ)) (k : ℤ) (l r g : List (ℕ × ℤ)) (from v : ℕ) (x y z : ℤ) → IsSwept left right goal k l r g from → NoneBelow l r g v
    → coefficient_of l v ≡ x → coefficient_of r v ≡ y → coefficient_of g v ≡ z → (x +ℤ k *ℤ y) <ℤ z → v < 2 ^ 32 → IsCompared Less (λ u. coefficient_of left u +ℤ k *ℤ coefficient_of right u) (coefficient_of goal)
sweep_below left right goal k l r g from v x y z s n ex ey ez m inside =
    let p : k *ℤ coefficient_of r v ≡ k *ℤ y = ap (λ w. k *ℤ w) ey in
    let b : (coefficient_of left v +ℤ k *ℤ coefficient_of right v) +ℤ coefficient_of g v ≡ coefficient_of goal v +ℤ (coefficient_of l v +ℤ k *ℤ coefficient_of r v) = s.balance v in (
      record {
        at = v;
        less = less_at (coefficient_of left v +ℤ k *ℤ coefficient_of right v) (coefficient_of goal v) (coefficient_of l v) (k *ℤ coefficient_of r v) (coefficient_of g v) x (k *ℤ y) z b ex p ez m;
        same = λ u h. sides_same (coefficient_of left u +ℤ k *ℤ coefficient_of right u) (coefficient_of goal u) k (coefficient_of l u) (coefficient_of r u) (coefficient_of g u) ((n u h).0) ((n u h).1) ((n u h).2) (s.balance u);
      },
      inside,
    )
  where
    less_at : (f g l r h x y z : ℤ) → f +ℤ h ≡ g +ℤ (l +ℤ r) → l ≡ x → r ≡ y → h ≡ z → (x +ℤ y) <ℤ z → f <ℤ g
    less_at f g l r h x y z e el er eh m = omega (arith, ints)

pub sweep_above : (left right goal : List (ℕ × ℤ)) (k : ℤ) (l r g : List (ℕ × ℤ)) (from v : ℕ) (x y z : ℤ) → IsSwept left right goal k l r g from → NoneBelow l r g v
    → coefficient_of l v ≡ x → coefficient_of r v ≡ y → coefficient_of g v ≡ z → z <ℤ (x +ℤ k *ℤ y) → v < 2 ^ 32 → IsCompared Greater (λ u. coefficient_of left u +ℤ k *ℤ coefficient_of right u) (coefficient_of goal)
sweep_above left right goal k l r g from v x y z s n ex ey ez m inside =
    let p : k *ℤ coefficient_of r v ≡ k *ℤ y = ap (λ w. k *ℤ w) ey in
    let b : (coefficient_of left v +ℤ k *ℤ coefficient_of right v) +ℤ coefficient_of g v ≡ coefficient_of goal v +ℤ (coefficient_of l v +ℤ k *ℤ coefficient_of r v) = s.balance v in (
      record {
        at = v;
        less = less_at (coefficient_of left v +ℤ k *ℤ coefficient_of right v) (coefficient_of goal v) (coefficient_of l v) (k *ℤ coefficient_of r v) (coefficient_of g v) x (k *ℤ y) z b ex p ez m;
        same = λ u h. sym (sides_same (coefficient_of left u +ℤ k *ℤ coefficient_of right u) (coefficient_of goal u) k (coefficient_of l u) (coefficient_of r u) (coefficient_of g u) ((n u h).0) ((n u h).1) ((n u h).2) (s.balance u));
      },
      inside,
    )
  where
    less_at : (f g l r h x y z : ℤ) → f +ℤ h ≡ g +ℤ (l +ℤ r) → l ≡ x → r ≡ y → h ≡ z → z <ℤ (x +ℤ y) → g <ℤ f
    less_at f g l r h x y z e el er eh m = omega (arith, ints)

pub sweep_end : (left right goal : List (ℕ × ℤ)) (k : ℤ) (l r g : List (ℕ × ℤ)) (from : ℕ) → IsSwept left right goal k l r g from
    → ((u : ℕ) → from ≤ u → (coefficient_of l u ≡ pos 0) × (coefficient_of r u ≡ pos 0) × (coefficient_of g u ≡ pos 0)) → (u : ℕ) → coefficient_of left u +ℤ k *ℤ coefficient_of right u ≡ coefficient_of goal u
sweep_end left right goal k l r g from s n u = at (cases_lt u from)
  where
    at : (u < from) ⊎ (from ≤ u) → coefficient_of left u +ℤ k *ℤ coefficient_of right u ≡ coefficient_of goal u
    at (inl h) =
        let z = s.none u h in sides_same (coefficient_of left u +ℤ k *ℤ coefficient_of right u) (coefficient_of goal u) k (coefficient_of l u) (coefficient_of r u) (coefficient_of g u) z.0 z.1 z.2 (s.balance u)
    at (inr h) =
        let z = n u h in sides_same (coefficient_of left u +ℤ k *ℤ coefficient_of right u) (coefficient_of goal u) k (coefficient_of l u) (coefficient_of r u) (coefficient_of g u) z.0 z.1 z.2 (s.balance u)

pub sweep_step : (left right goal : List (ℕ × ℤ)) (k : ℤ) (l r g l' r' g' : List (ℕ × ℤ)) (from v : ℕ) (x y z : ℤ) → IsSwept left right goal k l r g from → NoneBelow l r g v → v < 2 ^ 32
    → IsSplit l v x l' → IsSplit r v y r' → IsSplit g v z g' → x +ℤ k *ℤ y ≡ z → IsSwept left right goal k l' r' g' (v + 1)
sweep_step left right goal k l r g l' r' g' from v x y z s n inside sl sr sg e = record {
  in_range = omega arith;
  left_in = sl.canonical;
  right_in = sr.canonical;
  goal_in = sg.canonical;
  none = λ u h. (sl.none u h, sr.none u h, sg.none u h);
  balance = λ u. at u (cases_order u v);
}
  where
    balanced : (f h c m l r : ℤ) → f ≡ h → l ≡ pos 0 → r ≡ pos 0 → c ≡ pos 0 → f +ℤ c ≡ h +ℤ (l +ℤ m *ℤ r)
    balanced f h c m l r e el er ec = let none : m *ℤ r ≡ pos 0 = ap (λ w. m *ℤ w) er ∙ *ℤ-zero m in omega (arith, ints)

    equal_at : (f h c l r x y z : ℤ) → f +ℤ c ≡ h +ℤ (l +ℤ r) → l ≡ x → r ≡ y → c ≡ z → x +ℤ y ≡ z → f ≡ h
    equal_at f h c l r x y z b el er ec e = omega (arith, ints)

    here : coefficient_of left v +ℤ k *ℤ coefficient_of right v ≡ coefficient_of goal v
    here = equal_at (coefficient_of left v +ℤ k *ℤ coefficient_of right v) (coefficient_of goal v) (coefficient_of g v) (coefficient_of l v) (k *ℤ coefficient_of r v) x (k *ℤ y) z (s.balance v) sl.here (ap (λ w. k *ℤ w) sr.here) sg.here e

    below : (u : ℕ) → u < v → coefficient_of left u +ℤ k *ℤ coefficient_of right u ≡ coefficient_of goal u
    below u h = let m = n u h in sides_same (coefficient_of left u +ℤ k *ℤ coefficient_of right u) (coefficient_of goal u) k (coefficient_of l u) (coefficient_of r u) (coefficient_of g u) m.0 m.1 m.2 (s.balance u)

    done : (u : ℕ) → u < v + 1 → coefficient_of left u +ℤ k *ℤ coefficient_of right u ≡ coefficient_of goal u → (coefficient_of left u +ℤ k *ℤ coefficient_of right u) +ℤ coefficient_of g' u ≡ coefficient_of goal u +ℤ (coefficient_of l' u +ℤ k *ℤ coefficient_of r' u)
    done u h q = balanced (coefficient_of left u +ℤ k *ℤ coefficient_of right u) (coefficient_of goal u) (coefficient_of g' u) k (coefficient_of l' u) (coefficient_of r' u) q (sl.none u h) (sr.none u h) (sg.none u h)

    at : (u : ℕ) → (u ≡ v) ⊎ ((u < v) ⊎ (v < u)) → (coefficient_of left u +ℤ k *ℤ coefficient_of right u) +ℤ coefficient_of g' u ≡ coefficient_of goal u +ℤ (coefficient_of l' u +ℤ k *ℤ coefficient_of r' u)
    at u (inl q) =
        let P : ℕ → Type 0 = λ w. coefficient_of left w +ℤ k *ℤ coefficient_of right w ≡ coefficient_of goal w in done u (omega arith) (subst P (sym q) here)
    at u (inr (inl h)) = done u (omega arith) (below u h)
    at u (inr (inr h)) = rw (← sl.beyond u h, ← sr.beyond u h, ← sg.beyond u h) (s.balance u)
