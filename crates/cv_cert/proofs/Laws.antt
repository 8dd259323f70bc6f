-- What each way of reading keeps: what is taken is spelled so, what is spelled so is taken whatever follows,
-- and where reading stops, what was taken can go on, and the next line alone decides that it stops.
use Rattle.std.proofs.Common.{◌≡◌, ℕ, zero, suc, ◌+◌, ◌<◌, List, [], ◌∷◌, ◌++◌, length, Option, Some, None, Ok, Err, refl, sym, ap, subst, ◌∙◌, append_assoc, arith, ◌⊎◌, inl, inr}
use Rattle.std.proofs.lemmas.List.{append-nil, length-append}
use Rattle.cv_cert.specs.Text.{Line}
use Rattle.cv_cert.specs.Reading.{Outcome, Reading, and_then, ◌>>=◌, give, taken, one_line, each, more, many_in, many, left_of, ended_after, all_by}

abbrev pub Lines : Type 0
Lines = List Line

abbrev pub first : Lines → Option Line
first [] = None
first (t ∷ ts) = Some t

pub record Takes {A : Type 0} (spells : A → Lines → Type 0) (ts : Lines) (a : A) (rest : Lines) : Type 0 where
  pub front : Lines
  pub fits : spells a front
  pub parts : ts ≡ front ++ rest

-- some value is spelled by lines that begin so
abbrev pub Viable : {A : Type 0} → (A → Lines → Type 0) → Lines → Type 0
Viable {A} spells front = (a : A) × (tail : Lines) × spells a (front ++ tail)

pub record Stops {A : Type 0} (r : Reading A) (spells : A → Lines → Type 0) (ts at : Lines) : Type 0 where
  pub front : Lines
  pub parts : ts ≡ front ++ at
  pub decides : (other : Lines) → first other ≡ first at → r (front ++ other) ≡ Err other
  pub viable : Viable spells front

pub record Reads {A : Type 0} (r : Reading A) (spells : A → Lines → Type 0) : Type 0 where
  pub takes : (ts : Lines) (a : A) (rest : Lines) → r ts ≡ Ok (a, rest) → Takes spells ts a rest
  pub again : (a : A) (text rest : Lines) → spells a text → r (text ++ rest) ≡ Ok (a, rest)
  pub stops : (ts at : Lines) → r ts ≡ Err at → Stops r spells ts at
  pub can : (a : A) × (text : Lines) × spells a text

-- ---- outcomes

pub bind_ok : {A B : Type 0} (o : Outcome A) (f : A → Reading B) (b : B) (rest : Lines) → and_then o f ≡ Ok (b, rest) → (a : A) × (mid : Lines) × (o ≡ Ok (a, mid)) × (f a mid ≡ Ok (b, rest))
bind_ok (Ok p) f b rest e = (p.0, p.1, refl, e)
bind_ok (Err d) f b rest e = absurd cc

pub bind_err : {A B : Type 0} (o : Outcome A) (f : A → Reading B) (at : Lines) → and_then o f ≡ Err at → (o ≡ Err at) ⊎ ((a : A) × (mid : Lines) × (o ≡ Ok (a, mid)) × (f a mid ≡ Err at))
bind_err (Ok p) f at e = inr (p.0, p.1, refl, e)
bind_err (Err d) f at e = inl (cc)

abbrev done : {A : Type 0} → A × Lines → Outcome A
done x = Ok x

pub ok_is : {A : Type 0} (x y : A × Lines) → done x ≡ done y → x ≡ y
ok_is x y e = cc

pub ok_value : {A : Type 0} (a b : A) (s t : Lines) → done (a, s) ≡ done (b, t) → a ≡ b
ok_value {A} a b s t e = ap (λ (p : A × Lines). p.0) (ok_is (a, s) (b, t) e)

pub ok_rest : {A : Type 0} (a b : A) (s t : Lines) → done (a, s) ≡ done (b, t) → s ≡ t
ok_rest {A} a b s t e = ap (λ (p : A × Lines). p.1) (ok_is (a, s) (b, t) e)

-- ---- a value without a line

abbrev pub Given : {A : Type 0} → A → A → Lines → Type 0
Given v a text = (a ≡ v) × (text ≡ [])

pub reads_give : {A : Type 0} (v : A) → Reads (give v) (Given v)
reads_give {A} v = record {
  takes = λ ts a rest e. record { front = []; fits = (sym (ok_value v a ts rest e), refl); parts = ok_rest v a ts rest e };
  again = λ a text rest h. rw (h.0, h.1) refl;
  stops = λ ts at e. absurd cc;
  can = (v, [], (refl, refl));
}

-- ---- one line

abbrev pub OneLine : {A : Type 0} → (Line → Option A) → A → Lines → Type 0
OneLine f a text = (t : Line) × (f t ≡ Some a) × (text ≡ t ∷ [])

line_takes : {A : Type 0} (f : Line → Option A) (t : Line) (ts : Lines) (a : A) (rest : Lines) (o : Option A) → f t ≡ o → taken o (t ∷ ts) ts ≡ Ok (a, rest) → Takes (OneLine f) (t ∷ ts) a rest
line_takes f t ts a rest (Some b) h e = record { front = t ∷ []; fits = (t, h ∙ ap Some (ok_value b a ts rest e), refl); parts = ap (λ (u : Lines). t ∷ u) (ok_rest b a ts rest e) }
line_takes f t ts a rest None h e = absurd cc

line_stops : {A : Type 0} (f : Line → Option A) (t : Line) (ts at : Lines) (o : Option A) (v : Viable (OneLine f) []) → f t ≡ o → taken o (t ∷ ts) ts ≡ Err at → Stops (one_line f) (OneLine f) (t ∷ ts) at
line_stops f t ts at (Some b) v h e = absurd cc
line_stops f t ts at None v h e = record {
  front = [];
  parts = cc;
  decides = λ other k. stopped f t other h (k ∙ ap first (let q : at ≡ t ∷ ts = cc in q));
  viable = v;
}
  where
    stopped : {A : Type 0} (f : Line → Option A) (t : Line) (other : Lines) → f t ≡ None → first other ≡ Some t → one_line f other ≡ Err other
    stopped f t [] h k = absurd cc
    stopped f t (u ∷ us) h k = let q : u ≡ t = cc in rw (q, h) refl

pub reads_line : {A : Type 0} (f : Line → Option A) (t : Line) (a : A) → f t ≡ Some a → Reads (one_line f) (OneLine f)
reads_line {A} f t a h = record {
  takes = takes_of;
  again = λ b text rest k. rw (k.2, k.1) refl;
  stops = stops_of;
  can = (a, t ∷ [], (t, h, refl));
}
  where
    nothing : (other : Lines) → first other ≡ None → one_line f other ≡ Err other
    nothing [] k = refl
    nothing (u ∷ us) k = absurd cc

    takes_of : (ts : Lines) (b : A) (rest : Lines) → one_line f ts ≡ Ok (b, rest) → Takes (OneLine f) ts b rest
    takes_of [] b rest e = absurd cc
    takes_of (u ∷ us) b rest e = line_takes f u us b rest (f u) refl e

    stops_of : (ts at : Lines) → one_line f ts ≡ Err at → Stops (one_line f) (OneLine f) ts at
    stops_of [] at e = record { front = []; parts = cc; decides = λ other k. nothing other (k ∙ ap first (let q : at ≡ [] = cc in q)); viable = (a, t ∷ [], (t, h, refl)) }
    stops_of (u ∷ us) at e = line_stops f u us at (f u) (a, t ∷ [], (t, h, refl)) refl e

-- ---- one behind another

abbrev pub Then : {A B : Type 0} → (A → Lines → Type 0) → (A → B → Lines → Type 0) → B → Lines → Type 0
Then {A} p q b text = (a : A) × (front : Lines) × (rest : Lines) × p a front × q a b rest × (text ≡ front ++ rest)

goes_through : {A B : Type 0} (r : Reading A) (f : A → Reading B) (ts : Lines) (a : A) (mid : Lines) (o : Outcome B) → r ts ≡ Ok (a, mid) → f a mid ≡ o → (r >>= f) ts ≡ o
goes_through r f ts a mid o e k = ap (λ x. and_then x f) e ∙ k

pub reads_bind : {A B : Type 0} {r : Reading A} {f : A → Reading B} {p : A → Lines → Type 0} {q : A → B → Lines → Type 0} → Reads r p → ((a : A) (front : Lines) → p a front → Reads (f a) (q a)) → Reads (r >>= f) (Then p q)
reads_bind {A} {B} {r} {f} {p} {q} one_by then_by = record {
  takes = takes_of;
  again = again_of;
  stops = λ ts at e. stops_of ts at (bind_err (r ts) f at e);
  can = (let a = one_by.can in let b = (then_by a.0 a.1 a.2).can in (b.0, a.1 ++ b.1, (a.0, a.1, b.1, a.2, b.2, refl)));
}
  where
    takes_of : (ts : Lines) (b : B) (rest : Lines) → (r >>= f) ts ≡ Ok (b, rest) → Takes (Then p q) ts b rest
    takes_of ts b rest e =
        let m = bind_ok (r ts) f b rest e in
        let x = one_by.takes ts m.0 m.1 m.2 in
        let y = (then_by m.0 x.front x.fits).takes m.1 b rest m.3 in
        record { front = x.front ++ y.front; fits = (m.0, x.front, y.front, x.fits, y.fits, refl); parts = x.parts ∙ ap (λ (u : Lines). x.front ++ u) y.parts ∙ sym (append_assoc x.front y.front rest) }

    again_of : (b : B) (text rest : Lines) → Then p q b text → (r >>= f) (text ++ rest) ≡ Ok (b, rest)
    again_of b text rest h =
        let parts : text ++ rest ≡ h.1 ++ (h.2 ++ rest) = ap (λ (u : Lines). u ++ rest) h.5 ∙ append_assoc h.1 h.2 rest in
        ap (r >>= f) parts ∙ goes_through r f (h.1 ++ (h.2 ++ rest)) h.0 (h.2 ++ rest) (Ok (b, rest)) (one_by.again h.0 h.1 (h.2 ++ rest) h.3) ((then_by h.0 h.1 h.3).again b h.2 rest h.4)

    stops_of : (ts at : Lines) → (r ts ≡ Err at) ⊎ ((a : A) × (mid : Lines) × (r ts ≡ Ok (a, mid)) × (f a mid ≡ Err at)) → Stops (r >>= f) (Then p q) ts at
    stops_of ts at (inl e) =
        let s = one_by.stops ts at e in
        let v = s.viable in
        let b = (then_by v.0 (s.front ++ v.1) v.2).can in
        record {
          front = s.front;
          parts = s.parts;
          decides = λ other k. ap (λ x. and_then x f) (s.decides other k);
          viable = (b.0, v.1 ++ b.1, (v.0, s.front ++ v.1, b.1, v.2, b.2, sym (append_assoc s.front v.1 b.1)));
        }
    stops_of ts at (inr m) =
        let x = one_by.takes ts m.0 m.1 m.2 in
        let s = (then_by m.0 x.front x.fits).stops m.1 at m.3 in
        let v = s.viable in
        record {
          front = x.front ++ s.front;
          parts = x.parts ∙ ap (λ (u : Lines). x.front ++ u) s.parts ∙ sym (append_assoc x.front s.front at);
          decides = λ other k. ap (r >>= f) (append_assoc x.front s.front other) ∙ goes_through r f (x.front ++ (s.front ++ other)) m.0 (s.front ++ other) (Err other) (one_by.again m.0 x.front (s.front ++ other) x.fits) (s.decides other k);
          viable = (v.0, v.1, (m.0, x.front, s.front ++ v.1, x.fits, v.2, append_assoc x.front s.front v.1));
        }

-- ---- the same texts, said otherwise

pub reads_as : {A : Type 0} {r : Reading A} {p q : A → Lines → Type 0} → Reads r p → ((a : A) (text : Lines) → p a text → q a text) → ((a : A) (text : Lines) → q a text → p a text) → Reads r q
reads_as {A} {r} {p} {q} by to from = record {
  takes = λ ts a rest e. (let x = by.takes ts a rest e in record { front = x.front; fits = to a x.front x.fits; parts = x.parts });
  again = λ a text rest h. by.again a text rest (from a text h);
  stops = λ ts at e. (let s = by.stops ts at e in let v = s.viable in record { front = s.front; parts = s.parts; decides = s.decides; viable = (v.0, v.1, to v.0 (s.front ++ v.1) v.2) });
  can = (let c = by.can in (c.0, c.1, to c.0 c.1 c.2));
}

-- ---- n items

-- lines that spell n items in order, of which p says what spells one
abbrev pub Each : {A S : Type 0} → (ℕ → S → A → Lines → Type 0) → (S → A → S) → ℕ → S → List A → Lines → Type 0
Each p next zero s [] text = text ≡ []
Each p next zero s (x ∷ xs) text = ⊥
Each p next (suc n) s [] text = ⊥
Each p next (suc n) s (x ∷ xs) text = (front : Lines) × (rest : Lines) × p n s x front × Each p next n (next s x) xs rest × (text ≡ front ++ rest)

module _ {A S : Type 0} {item : ℕ → S → Reading A} {next : S → A → S} {p : ℕ → S → A → Lines → Type 0} (Can : ℕ → S → Type 0) (by : (n : ℕ) (s : S) → Can (suc n) s → Reads (item n s) (p n s)) (keeps : (n : ℕ) (s : S) (a : A) (text : Lines) → Can (suc n) s → p n s a text → Can n (next s a)) where
  abbrev One : ℕ → S → A → List A → Lines → Type 0
  One n s a = Then (Each p next n (next s a)) (λ rest. Given (a ∷ rest))

  each_to : (n : ℕ) (s : S) (xs : List A) (text : Lines) → Then (p n s) (One n s) xs text → Each p next (suc n) s xs text
  each_to n s xs text h =
      let k = h.4 in
      let rest_is : h.2 ≡ k.1 = k.5 ∙ ap (λ (u : Lines). k.1 ++ u) (k.4).1 ∙ append-nil k.1 in
      let made : Each p next (suc n) s (h.0 ∷ k.0) text = (h.1, k.1, h.3, k.3, h.5 ∙ ap (λ (u : Lines). h.1 ++ u) rest_is) in
      subst (λ (ys : List A). Each p next (suc n) s ys text) (sym (k.4).0) made

  each_from : (n : ℕ) (s : S) (xs : List A) (text : Lines) → Each p next (suc n) s xs text → Then (p n s) (One n s) xs text
  each_from n s [] text h = absurd h
  each_from n s (x ∷ xs) text h = (x, h.0, h.1, h.2, (xs, h.1, [], h.3, (refl, refl), sym (append-nil h.1)), h.4)

  pub reads_each : (n : ℕ) (s : S) → Can n s → Reads (each item next n s) (Each p next n s)
  reads_each zero s can = reads_as (reads_give []) none some
    where
      none : (xs : List A) (text : Lines) → Given [] xs text → Each p next zero s xs text
      none [] text h = h.1
      none (x ∷ xs) text h = let e = h.0 in absurd cc

      some : (xs : List A) (text : Lines) → Each p next zero s xs text → Given [] xs text
      some [] text h = (refl, h)
      some (x ∷ xs) text h = absurd h
  reads_each (suc n) s can =
      reads_as (reads_bind (by n s can) (λ a front h. reads_bind (reads_each n (next s a) (keeps n s a front can h)) (λ rest text k. reads_give (a ∷ rest)))) (each_to n s) (each_from n s)

-- what a loop keeps: the items before, and what the rest gives behind them
abbrev pub onto : {A : Type 0} → List A → Outcome (List A) → Outcome (List A)
onto before o = and_then o (λ rest. give (before ++ rest))

onto_regroups : {A : Type 0} (before : List A) (a : A) (o : Outcome (List A)) → onto before (and_then o (λ rest. give (a ∷ rest))) ≡ onto (before ++ a ∷ []) o
onto_regroups {A} before a (Ok q) = ap (λ (u : List A). Ok (u, q.1)) (sym (append_assoc before (a ∷ []) q.0))
onto_regroups before a (Err at) = refl

module _ {A S : Type 0} (item : ℕ → S → Reading A) (next : S → A → S) where
  pub each_goes : (before : List A) (n : ℕ) (s : S) (ts : Lines) (a : A) (after : Lines) → item n s ts ≡ Ok (a, after) → onto before (each item next (suc n) s ts) ≡ onto (before ++ a ∷ []) (each item next n (next s a) after)
  each_goes before n s ts a after e = ap (λ o. onto before (and_then o (λ x. each item next n (next s x) >>= λ rest. give (x ∷ rest)))) e ∙ onto_regroups before a (each item next n (next s a) after)

  pub each_ends : (before : List A) (s : S) (ts : Lines) → onto before (each item next zero s ts) ≡ Ok (before, ts)
  each_ends before s ts = ap (λ (u : List A). Ok (u, ts)) (append-nil before)

  pub each_fails : (before : List A) (n : ℕ) (s : S) (ts : Lines) (left : ℕ) → left_of (item n s ts) ≡ Some left → left_of (onto before (each item next (suc n) s ts)) ≡ Some left
  each_fails before n s ts left e = by_outcome (item n s ts) e
    where
      by_outcome : (o : Outcome A) → left_of o ≡ Some left → left_of (onto before (and_then o (λ x. each item next n (next s x) >>= λ rest. give (x ∷ rest)))) ≡ Some left
      by_outcome (Ok q) k = absurd cc
      by_outcome (Err at) k = k

-- ---- items up to one that ends them

abbrev pub Items : {A E S : Type 0} → (S → A ⊎ E → Lines → Type 0) → (S → A → S) → S → List A → E → Lines → Type 0
Items p next s [] e text = p s (inr e) text
Items p next s (a ∷ as_) e text = (front : Lines) × (rest : Lines) × p s (inl a) front × Items p next (next s a) as_ e rest × (text ≡ front ++ rest)

abbrev pub Many : {A E S : Type 0} → (S → A ⊎ E → Lines → Type 0) → (S → A → S) → S → List A × E → Lines → Type 0
Many p next s x text = Items p next s x.0 x.1 text

-- an item before the others
abbrev onto_one : {A E : Type 0} → A → Outcome (List A × E) → Outcome (List A × E)
onto_one a o = and_then o (λ rest. give (a ∷ rest.0, rest.1))

-- what a loop keeps: the items before, and what the rest gives behind them
abbrev pub onto_many : {A E : Type 0} → List A → Outcome (List A × E) → Outcome (List A × E)
onto_many before o = and_then o (λ rest. give (before ++ rest.0, rest.1))

module _ {A E S : Type 0} (next : S → A → S) {item : S → Reading (A ⊎ E)} {p : S → A ⊎ E → Lines → Type 0} (by : (s : S) → Reads (item s) (p s)) (some_line : (s : S) (o : A ⊎ E) (text : Lines) → p s o text → 0 < length text) where
  pub shrinks : (s : S) (ts : Lines) (o : A ⊎ E) (rest : Lines) → item s ts ≡ Ok (o, rest) → length rest < length ts
  shrinks s ts o rest e =
      let x = (by s).takes ts o rest e in
      let len : length ts ≡ length x.front + length rest = ap length x.parts ∙ length-append x.front rest in
      omega (arith, some_line s o x.front x.fits)

  abbrev rest_in : ℕ → S → A → Reading (List A × E)
  rest_in n s a = many_in item next n (next s a)

  abbrev rest_of : S → A → Reading (List A × E)
  rest_of s a = many item next (next s a)

  enough_by : (m n : ℕ) (s : S) (ts : Lines) (again : (t : S) (rest : Lines) → length rest < length ts → many_in item next m t rest ≡ many_in item next n t rest) (o : Outcome (A ⊎ E)) → item s ts ≡ o → and_then o (more (rest_in m s)) ≡ and_then o (more (rest_in n s))
  enough_by m n s ts again (Err at) e = refl
  enough_by m n s ts again (Ok q) e = by_item q.0 q.1 e
    where
      by_item : (o : A ⊎ E) (rest : Lines) → item s ts ≡ Ok (o, rest) → more (rest_in m s) o rest ≡ more (rest_in n s) o rest
      by_item (inr x) rest h = refl
      by_item (inl a) rest h = ap (onto_one a) (again (next s a) rest (shrinks s ts (inl a) rest h))

  -- how many rounds are allowed for makes no difference, where they are more than the lines
  enough : (m n : ℕ) (s : S) (ts : Lines) → length ts < m → length ts < n → many_in item next m s ts ≡ many_in item next n s ts
  enough zero n s ts h k = absurd (omega arith)
  enough (suc m) zero s ts h k = absurd (omega arith)
  enough (suc m) (suc n) s ts h k = enough_by m n s ts (λ t rest lt. enough m n t rest (omega arith) (omega arith)) (item s ts) refl

  pub many_opens : (s : S) (ts : Lines) → many item next s ts ≡ (item s >>= more (rest_of s)) ts
  unfolding many
  many_opens s ts = opens (item s ts) refl
    where
      opens : (o : Outcome (A ⊎ E)) → item s ts ≡ o → and_then o (more (rest_in (length ts) s)) ≡ and_then o (more (λ a rest. many_in item next (suc (length rest)) (next s a) rest))
      opens (Err at) e = refl
      opens (Ok q) e = by_item q.0 q.1 e
        where
          by_item : (o : A ⊎ E) (rest : Lines) → item s ts ≡ Ok (o, rest) → more (rest_in (length ts) s) o rest ≡ more (λ a us. many_in item next (suc (length us)) (next s a) us) o rest
          by_item (inr x) rest h = refl
          by_item (inl a) rest h = ap (onto_one a) (enough (length ts) (suc (length rest)) (next s a) rest (shrinks s ts (inl a) rest h) (omega arith))

  items_again : (s : S) (found : List A) (e : E) (text rest : Lines) → Items p next s found e text → many item next s (text ++ rest) ≡ Ok ((found, e), rest)
  items_again s [] e text rest h = many_opens s (text ++ rest) ∙ goes_through (item s) (more (rest_of s)) (text ++ rest) (inr e) rest (Ok (([], e), rest)) ((by s).again (inr e) text rest h) refl
  items_again s (a ∷ found) e text rest h =
      let parts : text ++ rest ≡ h.0 ++ (h.1 ++ rest) = ap (λ (u : Lines). u ++ rest) h.4 ∙ append_assoc h.0 h.1 rest in
      ap (many item next s) parts ∙ many_opens s (h.0 ++ (h.1 ++ rest)) ∙ goes_through (item s) (more (rest_of s)) (h.0 ++ (h.1 ++ rest)) (inl a) (h.1 ++ rest) (Ok ((a ∷ found, e), rest)) ((by s).again (inl a) h.0 (h.1 ++ rest) h.2) (ap (onto_one a) (items_again (next s a) found e h.1 rest h.3))

  abbrev Taken : S → Lines → (List A × E) × Lines → Type 0
  Taken s ts y = Takes (Many p next s) ts y.0 y.1

  items_take : (n : ℕ) (s : S) (ts : Lines) (found : List A × E) (rest : Lines) → length ts < n → many item next s ts ≡ Ok (found, rest) → Taken s ts (found, rest)
  items_take zero s ts found rest lt e = absurd (omega arith)
  items_take (suc n) s ts found rest lt e =
      let m = bind_ok (item s ts) (more (rest_of s)) found rest (sym (many_opens s ts) ∙ e) in
      by_item (λ t mid others after k. items_take n t mid others after k) m.0 m.1 m.2 m.3
    where
      by_item : ((t : S) (mid : Lines) (others : List A × E) (after : Lines) → length mid < n → many item next t mid ≡ Ok (others, after) → Taken t mid (others, after)) → (o : A ⊎ E) (mid : Lines) → item s ts ≡ Ok (o, mid) → more (rest_of s) o mid ≡ Ok (found, rest) → Taken s ts (found, rest)
      by_item go (inr x) mid e1 e2 =
          let t = (by s).takes ts (inr x) mid e1 in
          let made : Taken s ts (([], x), mid) = record { front = t.front; fits = t.fits; parts = t.parts } in
          subst (λ (y : (List A × E) × Lines). Taken s ts y) (ok_is (([], x), mid) (found, rest) e2) made
      by_item go (inl a) mid e1 e2 =
          let x = (by s).takes ts (inl a) mid e1 in
          let m = bind_ok (rest_of s a mid) (λ others. give (a ∷ others.0, others.1)) found rest e2 in
          let shorter : length mid < length ts = shrinks s ts (inl a) mid e1 in
          let y = go (next s a) mid m.0 m.1 (omega arith) m.2 in
          let made : Taken s ts ((a ∷ (m.0).0, (m.0).1), m.1) = record { front = x.front ++ y.front; fits = (x.front, y.front, x.fits, y.fits, refl); parts = x.parts ∙ ap (λ (u : Lines). x.front ++ u) y.parts ∙ sym (append_assoc x.front y.front m.1) } in
          subst (λ (z : (List A × E) × Lines). Taken s ts z) (ok_is ((a ∷ (m.0).0, (m.0).1), m.1) (found, rest) m.3) made

  pub many_goes : (before : List A) (s : S) (ts : Lines) (a : A) (after : Lines) → item s ts ≡ Ok (inl a, after) → onto_many before (many item next s ts) ≡ onto_many (before ++ a ∷ []) (many item next (next s a) after)
  many_goes before s ts a after e = ap (onto_many before) (many_opens s ts ∙ goes_through (item s) (more (rest_of s)) ts (inl a) after (onto_one a (many item next (next s a) after)) e refl) ∙ regroup (many item next (next s a) after)
    where
      regroup : (o : Outcome (List A × E)) → onto_many before (onto_one a o) ≡ onto_many (before ++ a ∷ []) o
      regroup (Ok q) = ap (λ (u : List A). done ((u, (q.0).1), q.1)) (sym (append_assoc before (a ∷ []) (q.0).0))
      regroup (Err at) = refl

  pub many_ends : (before : List A) (s : S) (ts : Lines) (x : E) (after : Lines) → item s ts ≡ Ok (inr x, after) → onto_many before (many item next s ts) ≡ Ok ((before, x), after)
  many_ends before s ts x after e = ap (onto_many before) (many_opens s ts ∙ goes_through (item s) (more (rest_of s)) ts (inr x) after (Ok (([], x), after)) e refl) ∙ ap (λ (u : List A). done ((u, x), after)) (append-nil before)

  pub many_fails : (before : List A) (s : S) (ts : Lines) (left : ℕ) → left_of (item s ts) ≡ Some left → left_of (onto_many before (many item next s ts)) ≡ Some left
  many_fails before s ts left e = ap (λ o. left_of (onto_many before o)) (many_opens s ts) ∙ by_outcome (item s ts) e
    where
      by_outcome : (o : Outcome (A ⊎ E)) → left_of o ≡ Some left → left_of (onto_many before (and_then o (more (rest_of s)))) ≡ Some left
      by_outcome (Ok q) k = absurd cc
      by_outcome (Err at) k = k

  module _ (end : (s : S) → (e : E) × (text : Lines) × p s (inr e) text) where
    stops_at_item : (s : S) (ts at : Lines) → Stops (item s) (p s) ts at → Stops (many item next s) (Many p next s) ts at
    stops_at_item s ts at stop = record {
      front = stop.front;
      parts = stop.parts;
      decides = λ other k. many_opens s (stop.front ++ other) ∙ ap (λ x. and_then x (more (rest_of s))) (stop.decides other k);
      viable = completed stop.viable.0 stop.viable.1 stop.viable.2;
    }
      where
        completed : (o : A ⊎ E) (tail : Lines) → p s o (stop.front ++ tail) → Viable (Many p next s) stop.front
        completed (inr x) tail h = (([], x), tail, h)
        completed (inl a) tail h = (let k = end (next s a) in ((a ∷ [], k.0), tail ++ k.1, (stop.front ++ tail, k.1, h, k.2, sym (append_assoc stop.front tail k.1))))

    items_stop : (n : ℕ) (s : S) (ts at : Lines) → length ts < n → many item next s ts ≡ Err at → Stops (many item next s) (Many p next s) ts at
    items_stop zero s ts at lt e = absurd (omega arith)
    items_stop (suc n) s ts at lt e = elim (bind_err (item s ts) (more (rest_of s)) at (sym (many_opens s ts) ∙ e)) [
      | inl h ↦ stops_at_item s ts at ((by s).stops ts at h)
      | inr m ↦ by_item (λ t mid k. items_stop n t mid at k) m.0 m.1 m.2 m.3
    ]
      where
        later : ((t : S) (mid : Lines) → length mid < n → many item next t mid ≡ Err at → Stops (many item next t) (Many p next t) mid at) → (a : A) (mid : Lines) → item s ts ≡ Ok (inl a, mid) → many item next (next s a) mid ≡ Err at → Stops (many item next s) (Many p next s) ts at
        later go a mid e1 e3 =
            let x = (by s).takes ts (inl a) mid e1 in
            let shorter : length mid < length ts = shrinks s ts (inl a) mid e1 in
            let stop = go (next s a) mid (omega arith) e3 in
            let v = stop.viable in
            record {
              front = x.front ++ stop.front;
              parts = x.parts ∙ ap (λ (u : Lines). x.front ++ u) stop.parts ∙ sym (append_assoc x.front stop.front at);
              decides = λ other k. ap (many item next s) (append_assoc x.front stop.front other) ∙ many_opens s (x.front ++ (stop.front ++ other)) ∙ goes_through (item s) (more (rest_of s)) (x.front ++ (stop.front ++ other)) (inl a) (stop.front ++ other) (Err other) ((by s).again (inl a) x.front (stop.front ++ other) x.fits) (ap (onto_one a) (stop.decides other k));
              viable = ((a ∷ (v.0).0, (v.0).1), v.1, (x.front, stop.front ++ v.1, x.fits, v.2, append_assoc x.front stop.front v.1));
            }

        by_item : ((t : S) (mid : Lines) → length mid < n → many item next t mid ≡ Err at → Stops (many item next t) (Many p next t) mid at) → (o : A ⊎ E) (mid : Lines) → item s ts ≡ Ok (o, mid) → more (rest_of s) o mid ≡ Err at → Stops (many item next s) (Many p next s) ts at
        by_item go (inr x) mid e1 e2 = absurd cc
        by_item go (inl a) mid e1 e2 = elim (bind_err (rest_of s a mid) (λ others. give (a ∷ others.0, others.1)) at e2) [
          | inl e3 ↦ later go a mid e1 e3
          | inr m ↦ (let h = m.3 in absurd cc)
        ]

    pub reads_many : (s : S) → Reads (many item next s) (Many p next s)
    reads_many s = record {
      takes = λ ts found rest e. items_take (suc (length ts)) s ts found rest (omega arith) e;
      again = λ found text rest h. items_again s found.0 found.1 text rest h;
      stops = λ ts at e. items_stop (suc (length ts)) s ts at (omega arith) e;
      can = (let k = end s in (([], k.0), k.1, k.2));
    }

-- ---- all of the lines

-- the lines from `at` on are those from the first on that no spelling can have there
abbrev pub NoneGoesOn : {A : Type 0} → (A → Lines → Type 0) → Lines → Lines → Type 0
NoneGoesOn {A} spells front [] = (a : A) → spells a front → ⊥
NoneGoesOn spells front (t ∷ rest) = Viable spells (front ++ t ∷ []) → ⊥

pub record FirstWrong {A : Type 0} (spells : A → Lines → Type 0) (text at : Lines) : Type 0 where
  pub front : Lines
  pub parts : text ≡ front ++ at
  pub viable : Viable spells front
  pub fails : NoneGoesOn spells front at

module _ {A : Type 0} {r : Reading A} {p : A → Lines → Type 0} (by : Reads r p) where
  pub all_again : (a : A) (text : Lines) → p a text → all_by (r text) ≡ Ok a
  all_again a text h = let e : r text ≡ Ok (a, []) = ap r (sym (append-nil text)) ∙ by.again a text [] h in ap all_by e

  pub one_value : (a b : A) (text : Lines) → p a text → p b text → a ≡ b
  one_value a b text h k = let e : r text ≡ Ok (a, []) = ap r (sym (append-nil text)) ∙ by.again a text [] h in
      let f : r text ≡ Ok (b, []) = ap r (sym (append-nil text)) ∙ by.again b text [] k in ok_value a b [] [] (sym e ∙ f)

  pub all_taken : (ts : Lines) (a : A) → all_by (r ts) ≡ Ok a → p a ts
  all_taken ts a e = go (r ts) refl e
    where
      go : (o : Outcome A) → r ts ≡ o → all_by o ≡ Ok a → p a ts
      go (Err at) h k = absurd cc
      go (Ok q) h k = ended q.0 q.1 h k
        where
          ended : (b : A) (rest : Lines) → r ts ≡ Ok (b, rest) → ended_after b rest ≡ Ok a → p a ts
          ended b (t ∷ us) h k = absurd cc
          ended b [] h k =
              let x = by.takes ts b [] h in
              let same : b ≡ a = cc in
              subst (λ (c : A). p c ts) same (subst (λ (u : Lines). p b u) (sym (append-nil x.front) ∙ sym x.parts) x.fits)

  -- where the next line decides that reading stops, no text goes on with it
  no_text : (front at : Lines) → ((other : Lines) → first other ≡ first at → r (front ++ other) ≡ Err other) → NoneGoesOn p front at
  no_text front [] decides = λ a h. (let e : r front ≡ Ok (a, []) = ap r (sym (append-nil front)) ∙ by.again a front [] h in let k : r front ≡ Err [] = ap r (sym (append-nil front)) ∙ decides [] refl in absurd cc)
  no_text front (t ∷ rest) decides = λ v.
      let text : Lines = (front ++ t ∷ []) ++ v.1 in
      let e : r text ≡ Ok (v.0, []) = ap r (sym (append-nil text)) ∙ by.again v.0 text [] v.2 in
      let k : r text ≡ Err (t ∷ v.1) = ap r (append_assoc front (t ∷ []) v.1) ∙ decides (t ∷ v.1) refl in
      absurd cc

  pub first_wrong : (ts at : Lines) → all_by (r ts) ≡ Err at → FirstWrong p ts at
  first_wrong ts at e = go (r ts) refl e
    where
      go : (o : Outcome A) → r ts ≡ o → all_by o ≡ Err at → FirstWrong p ts at
      go (Err d) h k =
          let same : d ≡ at = cc in
          let s = by.stops ts at (h ∙ ap Err same) in
          record { front = s.front; parts = s.parts; viable = s.viable; fails = no_text s.front at s.decides }
      go (Ok q) h k = left q.0 q.1 h k
        where
          left : (b : A) (rest : Lines) → r ts ≡ Ok (b, rest) → ended_after b rest ≡ Err at → FirstWrong p ts at
          left b [] h k = absurd cc
          left b (t ∷ us) h k =
              let x = by.takes ts b (t ∷ us) h in
              let same : t ∷ us ≡ at = cc in
              let made : FirstWrong p ts (t ∷ us) = record {
                front = x.front;
                parts = x.parts;
                viable = (b, [], subst (λ (u : Lines). p b u) (sym (append-nil x.front)) x.fits);
                fails = λ v. (let text : Lines = (x.front ++ t ∷ []) ++ v.1 in
                    let e : r text ≡ Ok (v.0, []) = ap r (sym (append-nil text)) ∙ by.again v.0 text [] v.2 in
                    let f : r text ≡ Ok (b, t ∷ v.1) = ap r (append_assoc x.front (t ∷ []) v.1) ∙ by.again b x.front (t ∷ v.1) x.fits in
                    let g : [] ≡ t ∷ v.1 = ok_rest v.0 b [] (t ∷ v.1) (sym e ∙ f) in absurd cc);
              } in
              subst (λ (u : Lines). FirstWrong p ts u) same made
