-- What each way of reading keeps: what is taken is spelled so, what is spelled so is taken whatever follows,
-- and where reading stops, what was taken can go on, and the next token alone decides that it stops.
use Rattle.std.proofs.Common.{◌≡◌, ℕ, zero, suc, ◌+◌, ◌<◌, Bool, true, false, List, [], ◌∷◌, ◌++◌, length, Option, Some, None, Result, Ok, Err, refl, sym, ap, subst, ◌∙◌, append_assoc, arith, ◌⊎◌, inl, inr}
use Rattle.std.proofs.lemmas.List.{append-nil, length-append}
use Rattle.cv_reading.specs.Phrase.{one, nothing, ◌⋅◌}
use Rattle.cv_reading.specs.Reading.{Outcome, Reading, and_then, taken, token, passed, exactly, ◌&◌, ◌▷◌, ◌◁◌, made, chosen, choose, on, more, many_in, many}
use Rattle.cv_reading.specs.Fault.{Viable, Fails, FirstFault}

abbrev pub first : {T : Type 0} → List T → Option T
first [] = None
first (t ∷ ts) = Some t

pub record Takes {T A : Type 0} (spells : A → List T → Type 0) (ts : List T) (a : A) (rest : List T) : Type 0 where
  pub front : List T
  pub fits : spells a front
  pub parts : ts ≡ front ++ rest

pub record Stops {T A : Type 0} (r : Reading T A) (spells : A → List T → Type 0) (ts at : List T) : Type 0 where
  pub front : List T
  pub parts : ts ≡ front ++ at
  pub decides : (other : List T) → first other ≡ first at → r (front ++ other) ≡ Err other
  pub viable : Viable spells front

pub record Reads {T A : Type 0} (r : Reading T A) (spells : A → List T → Type 0) : Type 0 where
  pub takes : (ts : List T) (a : A) (rest : List T) → r ts ≡ Ok (a, rest) → Takes spells ts a rest
  pub again : (a : A) (text rest : List T) → spells a text → r (text ++ rest) ≡ Ok (a, rest)
  pub stops : (ts at : List T) → r ts ≡ Err at → Stops r spells ts at
  pub can : (a : A) × (text : List T) × spells a text

-- ---- outcomes

pub bind_ok : {T A B : Type 0} (o : Outcome T A) (f : A → Reading T B) (b : B) (rest : List T) → and_then o f ≡ Ok (b, rest) → (a : A) × (mid : List T) × (o ≡ Ok (a, mid)) × (f a mid ≡ Ok (b, rest))
bind_ok (Ok p) f b rest e = (p.0, p.1, refl, e)
bind_ok (Err d) f b rest e = absurd cc

pub bind_err : {T A B : Type 0} (o : Outcome T A) (f : A → Reading T B) (at : List T) → and_then o f ≡ Err at → (o ≡ Err at) ⊎ ((a : A) × (mid : List T) × (o ≡ Ok (a, mid)) × (f a mid ≡ Err at))
bind_err (Ok p) f at e = inr (p.0, p.1, refl, e)
bind_err (Err d) f at e = inl (cc)

abbrev done : {T A : Type 0} → A × List T → Outcome T A
done x = Ok x

pub ok_is : {T A : Type 0} (x y : A × List T) → done x ≡ done y → x ≡ y
ok_is x y e = cc

pub ok_value : {T A : Type 0} (a b : A) (s t : List T) → done (a, s) ≡ done (b, t) → a ≡ b
ok_value {T} {A} a b s t e = ap (λ (p : A × List T). p.0) (ok_is (a, s) (b, t) e)

pub ok_rest : {T A : Type 0} (a b : A) (s t : List T) → done (a, s) ≡ done (b, t) → s ≡ t
ok_rest {T} {A} a b s t e = ap (λ (p : A × List T). p.1) (ok_is (a, s) (b, t) e)

-- ---- one token

abbrev pub Token : {T A : Type 0} → (T → Option A) → A → List T → Type 0
Token {T} f a text = (t : T) × (f t ≡ Some a) × one t text

token_takes : {T A : Type 0} (f : T → Option A) (t : T) (ts : List T) (a : A) (rest : List T) (o : Option A) → f t ≡ o → taken o (t ∷ ts) ts ≡ Ok (a, rest) → Takes (Token f) (t ∷ ts) a rest
token_takes {T} f t ts a rest (Some b) h e = record { front = t ∷ []; fits = (t, h ∙ ap Some (ok_value b a ts rest e), refl); parts = ap (λ (u : List T). t ∷ u) (ok_rest b a ts rest e) }
token_takes f t ts a rest None h e = absurd cc

token_stops : {T A : Type 0} (f : T → Option A) (t : T) (ts at : List T) (o : Option A) (v : Viable (Token f) []) → f t ≡ o → taken o (t ∷ ts) ts ≡ Err at → Stops (token f) (Token f) (t ∷ ts) at
token_stops f t ts at (Some b) v h e = absurd cc
token_stops f t ts at None v h e = record {
  front = [];
  parts = cc;
  decides = λ other k. stopped f t other h (k ∙ ap first (let q : at ≡ t ∷ ts = cc in q));
  viable = v;
}
  where
    stopped : {T A : Type 0} (f : T → Option A) (t : T) (other : List T) → f t ≡ None → first other ≡ Some t → token f other ≡ Err other
    stopped f t [] h k = absurd cc
    stopped f t (u ∷ us) h k = let q : u ≡ t = cc in rw (q, h) refl

pub reads_token : {T A : Type 0} (f : T → Option A) (t : T) (a : A) → f t ≡ Some a → Reads (token f) (Token f)
reads_token {T} {A} f t a h = record {
  takes = takes_of;
  again = λ b text rest k. rw (k.2, k.1) refl;
  stops = stops_of;
  can = (a, t ∷ [], (t, h, refl));
}
  where
    at_end : (other : List T) → first other ≡ None → token f other ≡ Err other
    at_end [] k = refl
    at_end (u ∷ us) k = absurd cc

    takes_of : (ts : List T) (b : A) (rest : List T) → token f ts ≡ Ok (b, rest) → Takes (Token f) ts b rest
    takes_of [] b rest e = absurd cc
    takes_of (u ∷ us) b rest e = token_takes f u us b rest (f u) refl e

    stops_of : (ts at : List T) → token f ts ≡ Err at → Stops (token f) (Token f) ts at
    stops_of [] at e = record { front = []; parts = cc; decides = λ other k. at_end other (k ∙ ap first (let q : at ≡ [] = cc in q)); viable = (a, t ∷ [], (t, h, refl)) }
    stops_of (u ∷ us) at e = token_stops f u us at (f u) (a, t ∷ [], (t, h, refl)) refl e

-- ---- the same texts, said otherwise

pub reads_as : {T A : Type 0} {r : Reading T A} {p q : A → List T → Type 0} → Reads r p → ((a : A) (text : List T) → p a text → q a text) → ((a : A) (text : List T) → q a text → p a text) → Reads r q
reads_as {T} {A} {r} {p} {q} by to from = record {
  takes = λ ts a rest e. (let x = by.takes ts a rest e in record { front = x.front; fits = to a x.front x.fits; parts = x.parts });
  again = λ a text rest h. by.again a text rest (from a text h);
  stops = λ ts at e. (let s = by.stops ts at e in let v = s.viable in record { front = s.front; parts = s.parts; decides = s.decides; viable = (v.0, v.1, to v.0 (s.front ++ v.1) v.2) });
  can = (let c = by.can in (c.0, c.1, to c.0 c.1 c.2));
}

-- ---- the token that passes a test

abbrev pub Only : {T : Type 0} → T → Unit {0} → List T → Type 0
Only t _ = one t

pub passes : (b : Bool) (u : Unit {0}) → passed b ≡ Some u → b ≡ true
passes true u e = refl
passes false u e = absurd cc

pub reads_exactly : {T : Type 0} (test : T → Bool) (t : T) → test t ≡ true → ((u : T) → test u ≡ true → u ≡ t) → Reads (exactly test) (Only t)
reads_exactly {T} test t h only = reads_as (reads_token (λ (u : T). passed (test u)) t tt (ap passed h))
    (λ a text k. k.2 ∙ ap (λ (u : T). u ∷ []) (only k.0 (passes (test k.0) a k.1)))
    (λ a text k. (t, ap passed h, k))

-- ---- one behind another

abbrev pub Then : {T A B : Type 0} → (A → List T → Type 0) → (A → B → List T → Type 0) → B → List T → Type 0
Then {T} {A} p q b text = (a : A) × (p a ⋅ q a b) text

abbrev pub bound : {T A B : Type 0} → Reading T A → (A → Reading T B) → Reading T B
bound r f ts = and_then (r ts) f

pub goes_through : {T A B : Type 0} (r : Reading T A) (f : A → Reading T B) (ts : List T) (a : A) (mid : List T) (o : Outcome T B) → r ts ≡ Ok (a, mid) → f a mid ≡ o → and_then (r ts) f ≡ o
goes_through {T} {A} {B} r f ts a mid o e k = ap (λ (x : Outcome T A). and_then x f) e ∙ k

pub reads_bind : {T A B : Type 0} {r : Reading T A} {f : A → Reading T B} {p : A → List T → Type 0} {q : A → B → List T → Type 0} → Reads r p → ((a : A) → Reads (f a) (q a)) → Reads (bound r f) (Then p q)
reads_bind {T} {A} {B} {r} {f} {p} {q} one_by then_by = record {
  takes = takes_of;
  again = again_of;
  stops = λ ts at e. stops_of ts at (bind_err (r ts) f at e);
  can = (let a = one_by.can in let b = (then_by a.0).can in (b.0, a.1 ++ b.1, (a.0, (a.1, b.1, a.2, b.2, refl))));
}
  where
    takes_of : (ts : List T) (b : B) (rest : List T) → bound r f ts ≡ Ok (b, rest) → Takes (Then p q) ts b rest
    takes_of ts b rest e =
        let m = bind_ok (r ts) f b rest e in
        let x = one_by.takes ts m.0 m.1 m.2 in
        let y = (then_by m.0).takes m.1 b rest m.3 in
        record { front = x.front ++ y.front; fits = (m.0, (x.front, y.front, x.fits, y.fits, refl)); parts = x.parts ∙ ap (λ (u : List T). x.front ++ u) y.parts ∙ sym (append_assoc x.front y.front rest) }

    again_of : (b : B) (text rest : List T) → Then p q b text → bound r f (text ++ rest) ≡ Ok (b, rest)
    again_of b text rest (a, (u, v, h, k, whole)) =
        let parts : text ++ rest ≡ u ++ (v ++ rest) = ap (λ (w : List T). w ++ rest) whole ∙ append_assoc u v rest in
        ap (bound r f) parts ∙ goes_through r f (u ++ (v ++ rest)) a (v ++ rest) (Ok (b, rest)) (one_by.again a u (v ++ rest) h) ((then_by a).again b v rest k)

    stops_of : (ts at : List T) → (r ts ≡ Err at) ⊎ ((a : A) × (mid : List T) × (r ts ≡ Ok (a, mid)) × (f a mid ≡ Err at)) → Stops (bound r f) (Then p q) ts at
    stops_of ts at (inl e) =
        let s = one_by.stops ts at e in
        let v = s.viable in
        let b = (then_by v.0).can in
        record {
          front = s.front;
          parts = s.parts;
          decides = λ other k. ap (λ (x : Outcome T A). and_then x f) (s.decides other k);
          viable = (b.0, v.1 ++ b.1, (v.0, (s.front ++ v.1, b.1, v.2, b.2, sym (append_assoc s.front v.1 b.1))));
        }
    stops_of ts at (inr m) =
        let x = one_by.takes ts m.0 m.1 m.2 in
        let s = (then_by m.0).stops m.1 at m.3 in
        let v = s.viable in
        record {
          front = x.front ++ s.front;
          parts = x.parts ∙ ap (λ (u : List T). x.front ++ u) s.parts ∙ sym (append_assoc x.front s.front at);
          decides = λ other k. ap (bound r f) (append_assoc x.front s.front other) ∙ goes_through r f (x.front ++ (s.front ++ other)) m.0 (s.front ++ other) (Err other) (one_by.again m.0 x.front (s.front ++ other) x.fits) (s.decides other k);
          viable = (v.0, v.1, (m.0, (x.front, s.front ++ v.1, x.fits, v.2, append_assoc x.front s.front v.1)));
        }

-- ---- a value made of what was read

abbrev pub Made : {T A B : Type 0} → (A → B) → (A → List T → Type 0) → B → List T → Type 0
Made {T} {A} c p b text = (a : A) × (b ≡ c a) × p a text

pub reads_made : {T A B : Type 0} (c : A → B) {r : Reading T A} {p : A → List T → Type 0} → Reads r p → Reads (made c r) (Made c p)
reads_made {T} {A} {B} c {r} {p} by = record {
  takes = λ ts b rest e. (let m = bind_ok (r ts) after b rest e in takes_of ts b rest m.0 m.1 m.2 m.3);
  again = λ b text rest h. (goes_through r after (text ++ rest) h.0 rest (Ok (b, rest)) (by.again h.0 text rest h.2) (ap (λ (x : B). Ok (x, rest)) (sym h.1)));
  stops = λ ts at e. stops_of ts at (bind_err (r ts) after at e);
  can = (let a = by.can in (c a.0, a.1, (a.0, refl, a.2)));
}
  where
    after : A → Reading T B
    after = λ a rest. Ok (c a, rest)

    takes_of : (ts : List T) (b : B) (rest : List T) (a : A) (mid : List T) → r ts ≡ Ok (a, mid) → after a mid ≡ Ok (b, rest) → Takes (Made c p) ts b rest
    takes_of ts b rest a mid e k =
        let x = by.takes ts a mid e in
        record { front = x.front; fits = (a, sym (ok_value (c a) b mid rest k), x.fits); parts = x.parts ∙ ap (λ (u : List T). x.front ++ u) (ok_rest (c a) b mid rest k) }

    stops_of : (ts at : List T) → (r ts ≡ Err at) ⊎ ((a : A) × (mid : List T) × (r ts ≡ Ok (a, mid)) × (after a mid ≡ Err at)) → Stops (made c r) (Made c p) ts at
    stops_of ts at (inl e) =
        let s = by.stops ts at e in
        let v = s.viable in
        record { front = s.front; parts = s.parts; decides = λ other k. ap (λ (x : Outcome T A). and_then x after) (s.decides other k); viable = (c v.0, v.1, (v.0, refl, v.2)) }
    stops_of ts at (inr m) = (let h = m.3 in absurd cc)

-- ---- two readings in a row

pub reads_both : {T A B : Type 0} {r : Reading T A} {s : A → Reading T B} {p : A → List T → Type 0} {q : A → B → List T → Type 0} → Reads r p → ((a : A) → Reads (s a) (q a)) → Reads (r & s) (λ v. p v.0 ⋅ q v.0 v.1)
reads_both {T} {A} {B} {r} {s} {p} {q} one_by then_by = reads_as (reads_bind one_by (λ a. reads_made (λ b. (a, b)) (then_by a))) to (λ v text h. (v.0, (h.0, h.1, h.2, (v.1, refl, h.3), h.4)))
  where
    to : (v : A × B) (text : List T) → Then p (λ a. Made (λ b. (a, b)) (q a)) v text → (p v.0 ⋅ q v.0 v.1) text
    to v text (a, (front, rest, h, (b, e, k), parts)) =
        let whole : (p a ⋅ q a b) text = (front, rest, h, k, parts) in
        subst (λ (w : A × B). (p w.0 ⋅ q w.0 w.1) text) (sym e) whole

pub reads_then : {T B : Type 0} {r : Reading T (Unit {0})} {s : Reading T B} {p : Unit {0} → List T → Type 0} {q : B → List T → Type 0} → Reads r p → Reads s q → Reads (r ▷ s) (λ b. p tt ⋅ q b)
reads_then one_by then_by = reads_as (reads_bind one_by (λ _. then_by)) (λ b text h. h.1) (λ b text h. (tt, h))

pub reads_ended : {T A : Type 0} {r : Reading T A} {s : Reading T (Unit {0})} {p : A → List T → Type 0} {q : Unit {0} → List T → Type 0} → Reads r p → Reads s q → Reads (r ◁ s) (λ a. p a ⋅ q tt)
reads_ended {T} {A} {r} {s} {p} {q} one_by then_by = reads_as (reads_bind one_by (λ a. reads_made (λ _. a) then_by)) to (λ a text h. (a, (h.0, h.1, h.2, (tt, refl, h.3), h.4)))
  where
    to : (a : A) (text : List T) → Then p (λ b. Made (λ _. b) q) a text → (p a ⋅ q tt) text
    to a text (b, (front, rest, h, (u, e, k), parts)) =
        let whole : (p b ⋅ q tt) text = (front, rest, h, k, parts) in
        subst (λ (c : A). (p c ⋅ q tt) text) (sym e) whole

-- ---- the same sets of lines

pub behind_nothing : {T : Type 0} (p : List T → Type 0) (text : List T) → (nothing ⋅ p) text → p text
behind_nothing {T} p text (front, rest, e, h, parts) = subst (λ (u : List T). p u) (sym (parts ∙ ap (λ (u : List T). u ++ rest) e)) h

pub with_nothing : {T : Type 0} (p : List T → Type 0) (text : List T) → p text → (nothing ⋅ p) text
with_nothing p text h = ([], text, refl, h, refl)

pub before_nothing : {T : Type 0} (p : List T → Type 0) (text : List T) → (p ⋅ nothing) text → p text
before_nothing {T} p text (front, rest, h, e, parts) = subst (λ (u : List T). p u) (sym (parts ∙ ap (λ (u : List T). front ++ u) e ∙ append-nil front)) h

pub then_nothing : {T : Type 0} (p : List T → Type 0) (text : List T) → p text → (p ⋅ nothing) text
then_nothing p text h = (text, [], h, refl, sym (append-nil text))

pub to_right : {T : Type 0} (p q r : List T → Type 0) (text : List T) → ((p ⋅ q) ⋅ r) text → (p ⋅ (q ⋅ r)) text
to_right {T} p q r text (front, c, (a, b, h, k, inner), l, parts) = (a, b ++ c, h, (b, c, k, l, refl), parts ∙ ap (λ (u : List T). u ++ c) inner ∙ append_assoc a b c)

pub to_left : {T : Type 0} (p q r : List T → Type 0) (text : List T) → (p ⋅ (q ⋅ r)) text → ((p ⋅ q) ⋅ r) text
to_left {T} p q r text (a, rest, h, (b, c, k, l, inner), parts) = (a ++ b, c, (a, b, h, k, refl), l, parts ∙ ap (λ (u : List T). a ++ u) inner ∙ sym (append_assoc a b c))

-- one of the two changed
pub first_as : {T : Type 0} (p q r : List T → Type 0) → ((text : List T) → p text → q text) → (text : List T) → (p ⋅ r) text → (q ⋅ r) text
first_as p q r f text (a, b, h, k, parts) = (a, b, f a h, k, parts)

pub second_as : {T : Type 0} (p q r : List T → Type 0) → ((text : List T) → q text → r text) → (text : List T) → (p ⋅ q) text → (p ⋅ r) text
second_as p q r f text (a, b, h, k, parts) = (a, b, h, f b k, parts)

-- ---- items, up to what ends them

abbrev pub Items : {T A E : Type 0} → (Result A E → List T → Type 0) → List A → E → List T → Type 0
Items p [] e = p (Err e)
Items p (a ∷ rest) e = p (Ok a) ⋅ Items p rest e

abbrev pub Until : {T A E : Type 0} → (Result A E → List T → Type 0) → List A × E → List T → Type 0
Until p v = Items p v.0 v.1

abbrev with_item : {T A E : Type 0} → A → Outcome T (List A × E) → Outcome T (List A × E)
with_item {T} {A} {E} a o = and_then o (λ v rest. Ok ((a ∷ v.0, v.1), rest))

module _ {T A E : Type 0} {item : Reading T (Result A E)} {p : Result A E → List T → Type 0} (by : Reads item p) (some_token : (o : Result A E) (text : List T) → p o text → 0 < length text) where
  pub shrinks : (ts : List T) (o : Result A E) (rest : List T) → item ts ≡ Ok (o, rest) → length rest < length ts
  shrinks ts o rest e =
      let x = by.takes ts o rest e in
      let len : length ts ≡ length x.front + length rest = ap length x.parts ∙ length-append x.front rest in
      omega (arith, some_token o x.front x.fits)

  -- how many rounds are allowed for makes no difference, where they are more than the tokens
  enough_by : (m n : ℕ) (ts : List T) (again : (rest : List T) → length rest < length ts → many_in m item rest ≡ many_in n item rest) (o : Outcome T (Result A E)) → item ts ≡ o → and_then o (more (many_in m item)) ≡ and_then o (more (many_in n item))
  enough_by m n ts again (Err at) e = refl
  enough_by m n ts again (Ok p) e = by_item p.0 p.1 e
    where
      by_item : (o : Result A E) (rest : List T) → item ts ≡ Ok (o, rest) → more (many_in m item) o rest ≡ more (many_in n item) o rest
      by_item (Err e) rest h = refl
      by_item (Ok a) rest h = ap (with_item a) (again rest (shrinks ts (Ok a) rest h))

  enough : (m n : ℕ) (ts : List T) → length ts < m → length ts < n → many_in m item ts ≡ many_in n item ts
  enough zero n ts h k = absurd (omega arith)
  enough (suc m) zero ts h k = absurd (omega arith)
  enough (suc m) (suc n) ts h k = enough_by m n ts (λ rest lt. enough m n rest (omega arith) (omega arith)) (item ts) refl

  pub many_opens : (ts : List T) → many item ts ≡ and_then (item ts) (more (many item))
  unfolding many
  many_opens ts = opens (item ts) refl
    where
      opens : (o : Outcome T (Result A E)) → item ts ≡ o → and_then o (more (many_in (length ts) item)) ≡ and_then o (more (λ rest. many_in (suc (length rest)) item rest))
      opens (Err at) e = refl
      opens (Ok q) e = by_item q.0 q.1 e
        where
          by_item : (o : Result A E) (rest : List T) → item ts ≡ Ok (o, rest) → more (many_in (length ts) item) o rest ≡ more (λ us. many_in (suc (length us)) item us) o rest
          by_item (Err e) rest h = refl
          by_item (Ok a) rest h = ap (with_item a) (enough (length ts) (suc (length rest)) rest (shrinks ts (Ok a) rest h) (omega arith))

  -- what a loop over the items does with each of them
  pub many_goes : {C : Type 0} (f : List A × E → Reading T C) (ts : List T) (a : A) (after : List T) → item ts ≡ Ok (Ok a, after) → and_then (many item ts) f ≡ and_then (many item after) (λ v. f (a ∷ v.0, v.1))
  many_goes {C} f ts a after e = ap (λ (o : Outcome T (List A × E)). and_then o f) (many_opens ts ∙ goes_through item (more (many item)) ts (Ok a) after (with_item a (many item after)) e refl) ∙ regroup (many item after)
    where
      regroup : (o : Outcome T (List A × E)) → and_then (with_item a o) f ≡ and_then o (λ v. f (a ∷ v.0, v.1))
      regroup (Ok q) = refl
      regroup (Err at) = refl

  pub many_ends : {C : Type 0} (f : List A × E → Reading T C) (ts : List T) (e : E) (after : List T) → item ts ≡ Ok (Err e, after) → and_then (many item ts) f ≡ f ([], e) after
  many_ends {C} f ts e after h = ap (λ (o : Outcome T (List A × E)). and_then o f) (many_opens ts ∙ goes_through item (more (many item)) ts (Err e) after (Ok (([], e), after)) h refl)

  pub many_fails : {C : Type 0} (f : List A × E → Reading T C) (ts at : List T) → item ts ≡ Err at → and_then (many item ts) f ≡ Err at
  many_fails {C} f ts at h = ap (λ (o : Outcome T (List A × E)). and_then o f) (many_opens ts ∙ ap (λ (o : Outcome T (Result A E)). and_then o (more (many item))) h)

  items_again : (found : List A) (e : E) (text rest : List T) → Items p found e text → many item (text ++ rest) ≡ Ok ((found, e), rest)
  items_again [] e text rest h = many_opens (text ++ rest) ∙ goes_through item (more (many item)) (text ++ rest) (Err e) rest (Ok (([], e), rest)) (by.again (Err e) text rest h) refl
  items_again (a ∷ found) e text rest h =
      let parts : text ++ rest ≡ h.0 ++ (h.1 ++ rest) = ap (λ (u : List T). u ++ rest) h.4 ∙ append_assoc h.0 h.1 rest in
      ap (many item) parts ∙ many_opens (h.0 ++ (h.1 ++ rest)) ∙ goes_through item (more (many item)) (h.0 ++ (h.1 ++ rest)) (Ok a) (h.1 ++ rest) (Ok ((a ∷ found, e), rest)) (by.again (Ok a) h.0 (h.1 ++ rest) h.2) (ap (with_item a) (items_again found e h.1 rest h.3))

  items_take : (n : ℕ) (ts : List T) (found : List A × E) (rest : List T) → length ts < n → many item ts ≡ Ok (found, rest) → Takes (Until p) ts found rest
  items_take zero ts found rest lt e = absurd (omega arith)
  items_take (suc n) ts found rest lt e =
      let m = bind_ok (item ts) (more (many item)) found rest (sym (many_opens ts) ∙ e) in
      by_item (λ mid others after k. items_take n mid others after k) m.0 m.1 m.2 m.3
    where
      by_item : ((mid : List T) (others : List A × E) (after : List T) → length mid < n → many item mid ≡ Ok (others, after) → Takes (Until p) mid others after) → (o : Result A E) (mid : List T) → item ts ≡ Ok (o, mid) → more (many item) o mid ≡ Ok (found, rest) → Takes (Until p) ts found rest
      by_item go (Err last) mid e1 e2 =
          let x = by.takes ts (Err last) mid e1 in
          let whole : Takes (Until p) ts ([], last) mid = record { front = x.front; fits = x.fits; parts = x.parts } in
          subst (λ (y : (List A × E) × List T). Takes (Until p) ts y.0 y.1) (ok_is (([], last), mid) (found, rest) e2) whole
      by_item go (Ok a) mid e1 e2 =
          let x = by.takes ts (Ok a) mid e1 in
          let m = bind_ok (many item mid) (λ v after. Ok ((a ∷ v.0, v.1), after)) found rest e2 in
          let shorter : length mid < length ts = shrinks ts (Ok a) mid e1 in
          let y = go mid m.0 m.1 (omega arith) m.2 in
          let whole : Takes (Until p) ts (a ∷ m.0.0, m.0.1) m.1 = record { front = x.front ++ y.front; fits = (x.front, y.front, x.fits, y.fits, refl); parts = x.parts ∙ ap (λ (u : List T). x.front ++ u) y.parts ∙ sym (append_assoc x.front y.front m.1) } in
          subst (λ (z : (List A × E) × List T). Takes (Until p) ts z.0 z.1) (ok_is ((a ∷ m.0.0, m.0.1), m.1) (found, rest) m.3) whole

  module _ (last : E) (end : List T) (ends : p (Err last) end) where
    stops_at_item : (ts at : List T) → Stops item p ts at → Stops (many item) (Until p) ts at
    stops_at_item ts at s = record {
      front = s.front;
      parts = s.parts;
      decides = λ other k. many_opens (s.front ++ other) ∙ ap (λ (x : Outcome T (Result A E)). and_then x (more (many item))) (s.decides other k);
      viable = completed s.viable.0 s.viable.1 s.viable.2;
    }
      where
        completed : (o : Result A E) (tail : List T) → p o (s.front ++ tail) → Viable (Until p) s.front
        completed (Err e) tail h = (([], e), tail, h)
        completed (Ok a) tail h = ((a ∷ [], last), tail ++ end, (s.front ++ tail, end, h, ends, sym (append_assoc s.front tail end)))

    items_stop : (n : ℕ) (ts at : List T) → length ts < n → many item ts ≡ Err at → Stops (many item) (Until p) ts at
    items_stop zero ts at lt e = absurd (omega arith)
    items_stop (suc n) ts at lt e = elim (bind_err (item ts) (more (many item)) at (sym (many_opens ts) ∙ e)) [
      | inl h ↦ stops_at_item ts at (by.stops ts at h)
      | inr m ↦ by_item (λ mid k. items_stop n mid at k) m.0 m.1 m.2 m.3
    ]
      where
        later : ((mid : List T) → length mid < n → many item mid ≡ Err at → Stops (many item) (Until p) mid at) → (a : A) (mid : List T) → item ts ≡ Ok (Ok a, mid) → many item mid ≡ Err at → Stops (many item) (Until p) ts at
        later go a mid e1 e3 =
            let x = by.takes ts (Ok a) mid e1 in
            let shorter : length mid < length ts = shrinks ts (Ok a) mid e1 in
            let s = go mid (omega arith) e3 in
            let v = s.viable in
            record {
              front = x.front ++ s.front;
              parts = x.parts ∙ ap (λ (u : List T). x.front ++ u) s.parts ∙ sym (append_assoc x.front s.front at);
              decides = λ other k. ap (many item) (append_assoc x.front s.front other) ∙ many_opens (x.front ++ (s.front ++ other)) ∙ goes_through item (more (many item)) (x.front ++ (s.front ++ other)) (Ok a) (s.front ++ other) (Err other) (by.again (Ok a) x.front (s.front ++ other) x.fits) (ap (with_item a) (s.decides other k));
              viable = ((a ∷ v.0.0, v.0.1), v.1, (x.front, s.front ++ v.1, x.fits, v.2, append_assoc x.front s.front v.1));
            }

        by_item : ((mid : List T) → length mid < n → many item mid ≡ Err at → Stops (many item) (Until p) mid at) → (o : Result A E) (mid : List T) → item ts ≡ Ok (o, mid) → more (many item) o mid ≡ Err at → Stops (many item) (Until p) ts at
        by_item go (Err e) mid e1 e2 = absurd cc
        by_item go (Ok a) mid e1 e2 = elim (bind_err (many item mid) (λ v rest. Ok ((a ∷ v.0, v.1), rest)) at e2) [
          | inl e3 ↦ later go a mid e1 e3
          | inr m ↦ (let h = m.3 in absurd cc)
        ]

    pub reads_many : Reads (many item) (Until p)
    reads_many = record {
      takes = λ ts found rest e. items_take (suc (length ts)) ts found rest (omega arith) e;
      again = λ found text rest h. items_again found.0 found.1 text rest h;
      stops = λ ts at e. items_stop (suc (length ts)) ts at (omega arith) e;
      can = (([], last), end, ends);
    }

-- ---- by the first token, or otherwise

abbrev pub Either : {T A B : Type 0} → (T → Option B) → (B → A → List T → Type 0) → (A → List T → Type 0) → A → List T → Type 0
Either {T} {A} {B} f p q a text = ((b : B) × (Token f b ⋅ p b a) text) ⊎ q a text

-- Texts of q begin with other tokens.
abbrev pub BeginsElsewhere : {T A B : Type 0} → (T → Option B) → (A → List T → Type 0) → Type 0
BeginsElsewhere {T} {A} f q = (a : A) (text : List T) → q a text → (t : T) × (rest : List T) × (text ≡ t ∷ rest) × (f t ≡ None)

module _ {T A B : Type 0} {f : T → Option B} {g : B → Reading T A} {other_way : Reading T A} {p : B → A → List T → Type 0} {q : A → List T → Type 0} (then_by : (b : B) → Reads (g b) (p b)) (otherwise : Reads other_way q) (apart : BeginsElsewhere f q) where
  abbrev whole : Reading T A
  whole = choose f g other_way

  goes : (t : T) (rest : List T) (b : B) → f t ≡ Some b → whole (t ∷ rest) ≡ g b rest
  goes t rest b h = rw h refl

  stays : (t : T) (rest : List T) → f t ≡ None → whole (t ∷ rest) ≡ other_way (t ∷ rest)
  stays t rest h = rw h refl

  either_again : (a : A) (text rest : List T) → Either f p q a text → whole (text ++ rest) ≡ Ok (a, rest)
  either_again a text rest (inl (b, (front, after, (t, h, is), k, parts))) =
      let e : text ≡ t ∷ after = parts ∙ ap (λ (u : List T). u ++ after) is in
      ap whole (ap (λ (u : List T). u ++ rest) e) ∙ goes t (after ++ rest) b h ∙ (then_by b).again a after rest k
  either_again a text rest (inr h) =
      let k = apart a text h in
      let e : text ++ rest ≡ k.0 ∷ (k.1 ++ rest) = ap (λ (u : List T). u ++ rest) k.2 in
      ap whole e ∙ stays k.0 (k.1 ++ rest) k.3 ∙ ap other_way (sym e) ∙ otherwise.again a text rest h

  other_takes : (ts : List T) (a : A) (rest : List T) → other_way ts ≡ Ok (a, rest) → Takes (Either f p q) ts a rest
  other_takes ts a rest e = let x = otherwise.takes ts a rest e in record { front = x.front; fits = inr x.fits; parts = x.parts }

  -- a line of the first kind
  headed : (t : T) (b : B) (a : A) (rest : List T) → f t ≡ Some b → p b a rest → Either f p q a (t ∷ rest)
  headed t b a rest h k = inl (b, (t ∷ [], rest, (t, h, refl), k, refl))

  either_takes : (ts : List T) (a : A) (rest : List T) → whole ts ≡ Ok (a, rest) → Takes (Either f p q) ts a rest
  either_takes [] a rest e = other_takes [] a rest e
  either_takes (t ∷ ts) a rest e = by_test (f t) refl e
    where
      by_test : (o : Option B) → f t ≡ o → chosen o g other_way (t ∷ ts) ts ≡ Ok (a, rest) → Takes (Either f p q) (t ∷ ts) a rest
      by_test (Some b) h k = let x = (then_by b).takes ts a rest k in record { front = t ∷ x.front; fits = headed t b a x.front h x.fits; parts = ap (λ (u : List T). t ∷ u) x.parts }
      by_test None h k = other_takes (t ∷ ts) a rest k

  -- Where the other way stops, the first token is none of these, in any text that goes on so.
  other_stops : (ts at : List T) → ((us : List T) → first us ≡ first ts → whole us ≡ other_way us) → other_way ts ≡ Err at → Stops whole (Either f p q) ts at
  other_stops ts at same e =
      let s = otherwise.stops ts at e in
      let v = s.viable in
      record { front = s.front; parts = s.parts; decides = λ other k. same (s.front ++ other) (shared s.front other k ∙ sym (ap first s.parts)) ∙ s.decides other k; viable = (v.0, v.1, inr v.2) }
    where
      shared : (front other : List T) → first other ≡ first at → first (front ++ other) ≡ first (front ++ at)
      shared [] other k = k
      shared (u ∷ us) other k = refl

  either_stops : (ts at : List T) → whole ts ≡ Err at → Stops whole (Either f p q) ts at
  either_stops [] at e = other_stops [] at at_end e
    where
      at_end : (us : List T) → first us ≡ first [] → whole us ≡ other_way us
      at_end [] k = refl
      at_end (u ∷ us) k = absurd cc
  either_stops (t ∷ ts) at e = by_test (f t) refl e
    where
      same_first : f t ≡ None → (us : List T) → first us ≡ first (t ∷ ts) → whole us ≡ other_way us
      same_first h [] k = absurd cc
      same_first h (u ∷ us) k = let e : t ≡ u = cc in stays u us (ap f (sym e) ∙ h)

      by_test : (o : Option B) → f t ≡ o → chosen o g other_way (t ∷ ts) ts ≡ Err at → Stops whole (Either f p q) (t ∷ ts) at
      by_test None h k = other_stops (t ∷ ts) at (same_first h) k
      by_test (Some b) h k =
          let s = (then_by b).stops ts at k in
          let v = s.viable in
          record { front = t ∷ s.front; parts = ap (λ (u : List T). t ∷ u) s.parts; decides = λ other m. goes t (s.front ++ other) b h ∙ s.decides other m; viable = (v.0, v.1, headed t b v.0 (s.front ++ v.1) h v.2) }

  pub reads_choose : Reads whole (Either f p q)
  reads_choose = record {
    takes = either_takes;
    again = either_again;
    stops = either_stops;
    can = (let c = otherwise.can in (c.0, c.1, inr c.2));
  }

-- ---- by the first token, where it is the one

abbrev pub Or : {T A : Type 0} → (A → List T → Type 0) → (A → List T → Type 0) → A → List T → Type 0
Or p q a text = p a text ⊎ q a text

module _ {T A : Type 0} (test : T → Bool) (t : T) (is : test t ≡ true) (only : (u : T) → test u ≡ true → u ≡ t) {here elsewhere : Reading T A} {p q : A → List T → Type 0} (by : Reads here p) (otherwise : Reads elsewhere q) where
  abbrev when : T → Option (Unit {0})
  when u = passed (test u)

  on_is : (a : A) (text : List T) → Either when (λ _. p) q a text → Or (λ b. one t ⋅ p b) q a text
  on_is a text (inl (b, (front, rest, (u, h, is_u), k, parts))) = inl (front, rest, is_u ∙ ap (λ (w : T). w ∷ []) (only u (passes (test u) b h)), k, parts)
  on_is a text (inr h) = inr h

  on_back : (a : A) (text : List T) → Or (λ b. one t ⋅ p b) q a text → Either when (λ _. p) q a text
  on_back a text (inl (front, rest, is_t, k, parts)) = inl (tt, (front, rest, (t, ap passed is, is_t), k, parts))
  on_back a text (inr h) = inr h

  pub reads_on : BeginsElsewhere when q → Reads (on test here elsewhere) (Or (λ b. one t ⋅ p b) q)
  reads_on apart = reads_as (reads_choose (λ _. by) otherwise apart) on_is on_back

-- ---- what texts begin with

-- Each text of p begins with a token that passes the test.
abbrev pub Begins : {T A : Type 0} → (T → Bool) → (A → List T → Type 0) → Type 0
Begins {T} {A} test p = (a : A) (text : List T) → p a text → (t : T) × (rest : List T) × (text ≡ t ∷ rest) × (test t ≡ true)

-- ---- all of a line

abbrev pub ended_after : {T A : Type 0} → A → List T → Result A (List T)
ended_after a [] = Ok a
ended_after a (t ∷ ts) = Err (t ∷ ts)

abbrev pub all_by : {T A : Type 0} → Outcome T A → Result A (List T)
all_by (Ok p) = ended_after p.0 p.1
all_by (Err at) = Err at

module _ {T A : Type 0} {r : Reading T A} {p : A → List T → Type 0} (by : Reads r p) where
  pub all_again : (a : A) (text : List T) → p a text → r text ≡ Ok (a, [])
  all_again a text h = ap r (sym (append-nil text)) ∙ by.again a text [] h

  pub one_value : (a b : A) (text : List T) → p a text → p b text → a ≡ b
  one_value a b text h k = ok_value a b [] [] (sym (all_again a text h) ∙ all_again b text k)

  pub all_taken : (ts : List T) (a : A) → r ts ≡ Ok (a, []) → p a ts
  all_taken ts a e = let x = by.takes ts a [] e in subst (λ (u : List T). p a u) (sym (append-nil x.front) ∙ sym x.parts) x.fits

  -- where the next token decides that reading stops, no line goes on with it
  no_text : (front at : List T) → ((other : List T) → first other ≡ first at → r (front ++ other) ≡ Err other) → Fails p front at
  no_text front [] decides = λ a h. (let e : r front ≡ Ok (a, []) = all_again a front h in let k : r front ≡ Err [] = ap r (sym (append-nil front)) ∙ decides [] refl in absurd cc)
  no_text front (t ∷ rest) decides = λ v.
      let text : List T = (front ++ t ∷ []) ++ v.1 in
      let e : r text ≡ Ok (v.0, []) = all_again v.0 text v.2 in
      let k : r text ≡ Err (t ∷ v.1) = ap r (append_assoc front (t ∷ []) v.1) ∙ decides (t ∷ v.1) refl in
      absurd cc

  -- what was read, and tokens behind it
  pub left_over : (ts : List T) (b : A) (t : T) (us : List T) → r ts ≡ Ok (b, t ∷ us) → FirstFault p ts (t ∷ us)
  left_over ts b t us h =
      let x = by.takes ts b (t ∷ us) h in
      record {
        front = x.front;
        parts = x.parts;
        viable = (b, [], subst (λ (u : List T). p b u) (sym (append-nil x.front)) x.fits);
        fails = λ v. (let text : List T = (x.front ++ t ∷ []) ++ v.1 in
            let e : r text ≡ Ok (v.0, []) = all_again v.0 text v.2 in
            let f : r text ≡ Ok (b, t ∷ v.1) = ap r (append_assoc x.front (t ∷ []) v.1) ∙ by.again b x.front (t ∷ v.1) x.fits in
            let g : [] ≡ t ∷ v.1 = ok_rest v.0 b [] (t ∷ v.1) (sym e ∙ f) in absurd cc);
      }

  pub stopped : (ts at : List T) → r ts ≡ Err at → FirstFault p ts at
  stopped ts at e = let s = by.stops ts at e in record { front = s.front; parts = s.parts; viable = s.viable; fails = no_text s.front at s.decides }
