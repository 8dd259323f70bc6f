-- What readings keep that go on as long as the next token is one with which an item begins.
use Rattle.std.proofs.Common.{◌≡◌, ℕ, zero, suc, ◌+◌, ◌<◌, ◌≤◌, Bool, true, false, if◌then◌else◌, List, [], ◌∷◌, ◌++◌, length, Option, Some, None, Result, Ok, Err, refl, sym, ap, subst, ◌∙◌, append_assoc, arith, ◌⊎◌, inl, inr}
use Rattle.std.proofs.lemmas.List.{append-nil, length-append}
use Rattle.cv_reading.specs.Phrase.{nothing, ◌⋅◌, Each}
use Rattle.cv_reading.specs.Reading.{Outcome, Reading, and_then, give, made, ◌&◌, ◌◁◌}
use Rattle.cv_reading.specs.Lists.{◌⇒◌, peeked, each_in, each, each_onto, each_next}
use Rattle.cv_reading.specs.Fault.{Viable, Fails, FirstFault}
use Rattle.cv_reading.proofs.Laws.{first, bound, Takes, Stops, Reads, Then, Made, Begins, bind_ok, bind_err, ok_is, ok_value, ok_rest, goes_through, reads_as, reads_made}

-- A reading that stops where a token stands that may follow: this one must.
pub record ReadsUpTo {T A : Type 0} (r : Reading T A) (spells : A → List T → Type 0) (follows : Option T → Type 0) : Type 0 where
  pub takes : (ts : List T) (a : A) (rest : List T) → r ts ≡ Ok (a, rest) → Takes spells ts a rest
  pub ends : (ts : List T) (a : A) (rest : List T) → r ts ≡ Ok (a, rest) → follows (first rest)
  pub again : (a : A) (text rest : List T) → spells a text → follows (first rest) → r (text ++ rest) ≡ Ok (a, rest)
  pub stops : (ts at : List T) → r ts ≡ Err at → Stops r spells ts at
  pub can : (a : A) × (text : List T) × spells a text

-- ---- items

-- the end, or a token with which no item begins
abbrev pub Ended : {T : Type 0} → (T → Bool) → Option T → Type 0
Ended test None = Unit {0}
Ended test (Some t) = test t ≡ false

module _ {T A : Type 0} {test : T → Bool} {item : Reading T A} {p : A → List T → Type 0} (by : Reads item p) (begins : Begins test p) where
  long : (a : A) (text : List T) → p a text → 0 < length text
  long a text h = let b = begins a text h in rw b.2 (omega arith)

  shrinks : (ts : List T) (a : A) (rest : List T) → item ts ≡ Ok (a, rest) → length rest < length ts
  shrinks ts a rest e =
      let x = by.takes ts a rest e in
      let len : length ts ≡ length x.front + length rest = ap length x.parts ∙ length-append x.front rest in
      omega (arith, long a x.front x.fits)

  abbrev put_before : A → Outcome T (List A) → Outcome T (List A)
  put_before a o = and_then o (λ xs rest. Ok (a ∷ xs, rest))

  abbrev with_others : Reading T (List A) → Outcome T A → Outcome T (List A)
  with_others others o = and_then o (λ a rest. put_before a (others rest))

  same_others : (ts : List T) (r s : Reading T (List A)) → ((rest : List T) → length rest < length ts → r rest ≡ s rest) → with_others r (item ts) ≡ with_others s (item ts)
  same_others ts r s same = by_item (item ts) refl
    where
      by_item : (o : Outcome T A) → item ts ≡ o → with_others r o ≡ with_others s o
      by_item (Err at) e = refl
      by_item (Ok x) e = ap (put_before x.0) (same x.1 (shrinks ts x.0 x.1 e))

  enough : (m n : ℕ) (ts : List T) → length ts ≤ m → length ts ≤ n → each_in m test item ts ≡ each_in n test item ts
  enough zero zero ts h k = refl
  enough zero (suc n) [] h k = refl
  enough zero (suc n) (t ∷ ts) h k = absurd (omega arith)
  enough (suc m) zero [] h k = refl
  enough (suc m) zero (t ∷ ts) h k = absurd (omega arith)
  enough (suc m) (suc n) [] h k = refl
  enough (suc m) (suc n) (t ∷ ts) h k =
      let e : with_others (each_in m test item) (item (t ∷ ts)) ≡ with_others (each_in n test item) (item (t ∷ ts)) = same_others (t ∷ ts) (each_in m test item) (each_in n test item) (λ rest lt. enough m n rest (omega arith) (omega arith)) in
      ap (λ (o : Outcome T (List A)). if test t then o else Ok ([], t ∷ ts)) e

  pub each_none : each test item [] ≡ Ok ([], [])
  unfolding each
  each_none = refl

  pub each_stays : (t : T) (ts : List T) → test t ≡ false → each test item (t ∷ ts) ≡ Ok ([], t ∷ ts)
  unfolding each
  each_stays t ts h = rw h refl

  pub each_goes : (t : T) (ts : List T) → test t ≡ true → each test item (t ∷ ts) ≡ with_others (each test item) (item (t ∷ ts))
  unfolding each
  each_goes t ts h =
      let e : with_others (each_in (length ts) test item) (item (t ∷ ts)) ≡ with_others (λ rest. each_in (length rest) test item rest) (item (t ∷ ts)) = same_others (t ∷ ts) (each_in (length ts) test item) (λ rest. each_in (length rest) test item rest) (λ rest lt. enough (length ts) (length rest) rest (omega arith) (omega arith)) in
      ap (λ (b : Bool). if b then with_others (each_in (length ts) test item) (item (t ∷ ts)) else Ok ([], t ∷ ts)) h ∙ e

  abbrev given_out : List A → List T → Outcome T (List A)
  given_out xs rest = Ok (xs, rest)

  pub record Found (ts : List T) (xs : List A) (rest : List T) : Type 0 where
    pub takes : Takes (Each p) ts xs rest
    pub ends : Ended test (first rest)

  found_none : (ts : List T) (xs : List A) (rest : List T) → Ended test (first ts) → given_out [] ts ≡ given_out xs rest → Found ts xs rest
  found_none ts xs rest h e = subst (λ (y : List A × List T). Found ts y.0 y.1) (ok_is ([], ts) (xs, rest) e) (record { takes = record { front = []; fits = refl; parts = refl }; ends = h })

  each_takes : (n : ℕ) (ts : List T) (xs : List A) (rest : List T) → length ts ≤ n → each test item ts ≡ Ok (xs, rest) → Found ts xs rest
  each_takes n [] xs rest lt e = found_none [] xs rest tt (sym each_none ∙ e)
  each_takes zero (t ∷ ts) xs rest lt e = absurd (omega arith)
  each_takes (suc n) (t ∷ ts) xs rest lt e = by_test (λ mid others after l k. each_takes n mid others after l k) (test t) refl
    where
      goes : ((mid : List T) (others : List A) (after : List T) → length mid ≤ n → each test item mid ≡ Ok (others, after) → Found mid others after) → test t ≡ true → Found (t ∷ ts) xs rest
      goes go h =
          let m = bind_ok (item (t ∷ ts)) (λ a mid. put_before a (each test item mid)) xs rest (sym (each_goes t ts h) ∙ e) in
          let x = by.takes (t ∷ ts) m.0 m.1 m.2 in
          let o = bind_ok (each test item m.1) (λ others after. Ok (m.0 ∷ others, after)) xs rest m.3 in
          let shorter : length m.1 < length (t ∷ ts) = shrinks (t ∷ ts) m.0 m.1 m.2 in
          let y = go m.1 o.0 o.1 (omega arith) o.2 in
          let z = y.takes in
          let whole : Found (t ∷ ts) (m.0 ∷ o.0) o.1 = record {
            takes = record { front = x.front ++ z.front; fits = (x.front, z.front, x.fits, z.fits, refl); parts = x.parts ∙ ap (λ (u : List T). x.front ++ u) z.parts ∙ sym (append_assoc x.front z.front o.1) };
            ends = y.ends;
          } in
          subst (λ (w : List A × List T). Found (t ∷ ts) w.0 w.1) (ok_is (m.0 ∷ o.0, o.1) (xs, rest) o.3) whole

      by_test : ((mid : List T) (others : List A) (after : List T) → length mid ≤ n → each test item mid ≡ Ok (others, after) → Found mid others after) → (b : Bool) → test t ≡ b → Found (t ∷ ts) xs rest
      by_test go true h = goes go h
      by_test go false h = found_none (t ∷ ts) xs rest h (sym (each_stays t ts h) ∙ e)

  each_again : (xs : List A) (text rest : List T) → Each p xs text → Ended test (first rest) → each test item (text ++ rest) ≡ Ok (xs, rest)
  each_again [] text rest h f = ap (λ (u : List T). each test item (u ++ rest)) h ∙ at_end rest f
    where
      at_end : (us : List T) → Ended test (first us) → each test item us ≡ Ok ([], us)
      at_end [] g = each_none
      at_end (u ∷ us) g = each_stays u us g
  each_again (a ∷ xs) text rest (front, others, h, k, parts) f =
      let b = begins a front h in
      let e : text ++ rest ≡ front ++ (others ++ rest) = ap (λ (u : List T). u ++ rest) parts ∙ append_assoc front others rest in
      let head : front ++ (others ++ rest) ≡ b.0 ∷ (b.1 ++ (others ++ rest)) = ap (λ (u : List T). u ++ (others ++ rest)) b.2 in
      let item_read : item (b.0 ∷ (b.1 ++ (others ++ rest))) ≡ Ok (a, others ++ rest) = ap item (sym head) ∙ by.again a front (others ++ rest) h in
      ap (each test item) (e ∙ head) ∙ each_goes b.0 (b.1 ++ (others ++ rest)) b.3 ∙ ap (with_others (each test item)) item_read ∙ ap (put_before a) (each_again xs others rest k f)

  each_stops : (n : ℕ) (ts at : List T) → length ts ≤ n → each test item ts ≡ Err at → Stops (each test item) (Each p) ts at
  each_stops n [] at lt e = (let k = each_none in absurd cc)
  each_stops zero (t ∷ ts) at lt e = absurd (omega arith)
  each_stops (suc n) (t ∷ ts) at lt e = by_test (λ mid l k. each_stops n mid at l k) (test t) refl
    where
      -- the token with which a text begins that goes on behind these
      begun : (b : Bool) → test t ≡ b → (front other after : List T) → front ++ after ≡ t ∷ ts → first other ≡ first after → (us : List T) → front ++ other ≡ us → (v : T) × (vs : List T) × (us ≡ v ∷ vs) × (test v ≡ b)
      begun b h [] [] [] parts k us is = absurd cc
      begun b h [] [] (w ∷ after) parts k us is = absurd cc
      begun b h [] (v ∷ other) [] parts k us is = absurd cc
      begun b h [] (v ∷ other) (w ∷ after) parts k us is = (v, other, sym is, (let e : v ≡ t = cc in rw e h))
      begun b h (v ∷ front) other after parts k us is = (v, front ++ other, sym is, (let e : v ≡ t = cc in rw e h))

      decided : test t ≡ true → (front after : List T) → t ∷ ts ≡ front ++ after → (o : Outcome T (List A)) (other : List T) → first other ≡ first after → with_others (each test item) (item (front ++ other)) ≡ o → each test item (front ++ other) ≡ o
      decided h front after parts o other k r =
          let v = begun true h front other after (sym parts) k (front ++ other) refl in
          ap (each test item) v.2 ∙ each_goes v.0 v.1 v.3 ∙ ap (λ (u : List T). with_others (each test item) (item u)) (sym v.2) ∙ r

      at_item : test t ≡ true → Stops item p (t ∷ ts) at → Stops (each test item) (Each p) (t ∷ ts) at
      at_item h s = (let v = s.viable in record {
        front = s.front;
        parts = s.parts;
        decides = λ other k. decided h s.front at s.parts (Err other) other k (ap (with_others (each test item)) (s.decides other k));
        viable = (v.0 ∷ [], v.1, (s.front ++ v.1, [], v.2, refl, sym (append-nil (s.front ++ v.1))));
      })

      later : ((mid : List T) → length mid ≤ n → each test item mid ≡ Err at → Stops (each test item) (Each p) mid at) → test t ≡ true → (a : A) (mid : List T) → item (t ∷ ts) ≡ Ok (a, mid) → each test item mid ≡ Err at → Stops (each test item) (Each p) (t ∷ ts) at
      later go h a mid e1 e2 =
          let x = by.takes (t ∷ ts) a mid e1 in
          let shorter : length mid < length (t ∷ ts) = shrinks (t ∷ ts) a mid e1 in
          let s = go mid (omega arith) e2 in
          let v = s.viable in
          let whole : t ∷ ts ≡ (x.front ++ s.front) ++ at = x.parts ∙ ap (λ (u : List T). x.front ++ u) s.parts ∙ sym (append_assoc x.front s.front at) in
          record {
            front = x.front ++ s.front;
            parts = whole;
            decides = λ other k. decided h (x.front ++ s.front) at whole (Err other) other k (ap (λ (u : List T). with_others (each test item) (item u)) (append_assoc x.front s.front other) ∙ ap (with_others (each test item)) (by.again a x.front (s.front ++ other) x.fits) ∙ ap (put_before a) (s.decides other k));
            viable = (a ∷ v.0, v.1, (x.front, s.front ++ v.1, x.fits, v.2, append_assoc x.front s.front v.1));
          }

      goes : ((mid : List T) → length mid ≤ n → each test item mid ≡ Err at → Stops (each test item) (Each p) mid at) → test t ≡ true → Stops (each test item) (Each p) (t ∷ ts) at
      goes go h = elim (bind_err (item (t ∷ ts)) (λ a mid. put_before a (each test item mid)) at (sym (each_goes t ts h) ∙ e)) [
        | inl k ↦ at_item h (by.stops (t ∷ ts) at k)
        | inr m ↦ elim (bind_err (each test item m.1) (λ xs rest. Ok (m.0 ∷ xs, rest)) at m.3) [
          | inl k ↦ later go h m.0 m.1 m.2 k
          | inr q ↦ (let z = q.3 in absurd cc)
        ]
      ]

      by_test : ((mid : List T) → length mid ≤ n → each test item mid ≡ Err at → Stops (each test item) (Each p) mid at) → (b : Bool) → test t ≡ b → Stops (each test item) (Each p) (t ∷ ts) at
      by_test go true h = goes go h
      by_test go false h = (let k = each_stays t ts h in absurd cc)

  pub reads_each : ReadsUpTo (each test item) (Each p) (Ended test)
  reads_each = record {
    takes = λ ts xs rest e. (each_takes (length ts) ts xs rest (omega arith) e).takes;
    ends = λ ts xs rest e. (each_takes (length ts) ts xs rest (omega arith) e).ends;
    again = each_again;
    stops = λ ts at e. each_stops (length ts) ts at (omega arith) e;
    can = ([], [], refl);
  }

  -- ---- a loop over the items

  regroup : (before : List A) (a : A) (o : Outcome T (List A)) → and_then (put_before a o) (λ xs rest. Ok (before ++ xs, rest)) ≡ and_then o (λ xs rest. Ok ((before ++ a ∷ []) ++ xs, rest))
  regroup before a (Ok q) = ap (λ (u : List A). Ok (u, q.1)) (simp append_assoc)
  regroup before a (Err at) = refl

  abbrev item_out : Result A (Unit {0}) → List T → Outcome T (Result A (Unit {0}))
  item_out o rest = Ok (o, rest)

  abbrev made_item : A → Result A (Unit {0})
  made_item a = Ok a

  no_item : (a : A) → made_item a ≡ Err tt → ⊥
  no_item a e = absurd cc

  -- what one more item is
  pub next_item_is : (ts : List T) (a : A) (after : List T) → each_next test item ts ≡ item_out (Ok a) after → (t : T) × (us : List T) × (ts ≡ t ∷ us) × (test t ≡ true) × (item ts ≡ Ok (a, after))
  next_item_is [] a after e = absurd (no_item a (sym (ok_value (Err tt) (made_item a) [] after e)))
  next_item_is (t ∷ us) a after e = by_test (test t) refl e
    where
      by_test : (b : Bool) → test t ≡ b → (if b then made made_item item (t ∷ us) else item_out (Err tt) (t ∷ us)) ≡ item_out (Ok a) after → (v : T) × (vs : List T) × (t ∷ us ≡ v ∷ vs) × (test v ≡ true) × (item (t ∷ us) ≡ Ok (a, after))
      by_test true h k =
          let m = bind_ok (item (t ∷ us)) (λ x rest. item_out (Ok x) rest) (made_item a) after k in
          let same : made_item m.0 ≡ made_item a = ok_value (made_item m.0) (made_item a) m.1 after m.3 in
          let value : m.0 ≡ a = cc in
          (t, us, refl, h, m.2 ∙ ap (λ (x : A). Ok (x, m.1)) value ∙ ap (λ (u : List T). Ok (a, u)) (ok_rest (made_item m.0) (made_item a) m.1 after m.3))
      by_test false h k = absurd (no_item a (sym (ok_value (Err tt) (made_item a) (t ∷ us) after k)))

  pub each_goes_onto : (before : List A) (ts : List T) (a : A) (after : List T) → each_next test item ts ≡ Ok (Ok a, after) → each_onto test item before ts ≡ each_onto test item (before ++ a ∷ []) after
  each_goes_onto before ts a after e =
      let n = next_item_is ts a after e in
      let read : each test item ts ≡ put_before a (each test item after) = ap (each test item) n.2 ∙ each_goes n.0 n.1 n.3 ∙ ap (with_others (each test item)) (ap item (sym n.2) ∙ n.4) in
      ap (λ (o : Outcome T (List A)). and_then o (λ xs rest. Ok (before ++ xs, rest))) read ∙ regroup before a (each test item after)

  pub each_shorter : (ts : List T) (a : A) (after : List T) → each_next test item ts ≡ Ok (Ok a, after) → length after < length ts
  each_shorter ts a after e = let n = next_item_is ts a after e in shrinks ts a after n.4

  pub each_ends_onto : (before : List A) (ts after : List T) → each_next test item ts ≡ Ok (Err tt, after) → each_onto test item before ts ≡ Ok (before, after)
  each_ends_onto before ts after e =
      let read : each test item ts ≡ Ok ([], after) = at_end ts e in
      ap (λ (o : Outcome T (List A)). and_then o (λ xs rest. Ok (before ++ xs, rest))) read ∙ ap (λ (u : List A). Ok (u, after)) (append-nil before)
    where
      by_test : (t : T) (us : List T) (b : Bool) → test t ≡ b → (if b then made made_item item (t ∷ us) else item_out (Err tt) (t ∷ us)) ≡ item_out (Err tt) after → each test item (t ∷ us) ≡ Ok ([], after)
      by_test t us true h k = (let m = bind_ok (item (t ∷ us)) (λ x rest. item_out (Ok x) rest) (Err tt) after k in absurd (no_item m.0 (ok_value (made_item m.0) (Err tt) m.1 after m.3)))
      by_test t us false h k = each_stays t us h ∙ ap (λ (u : List T). Ok ([], u)) (ok_rest (Err tt) (Err tt) (t ∷ us) after k)

      at_end : (us : List T) → each_next test item us ≡ item_out (Err tt) after → each test item us ≡ Ok ([], after)
      at_end [] k = each_none ∙ ap (λ (u : List T). Ok ([], u)) (ok_rest (Err tt) (Err tt) [] after k)
      at_end (t ∷ us) k = by_test t us (test t) refl k

  pub each_fails_onto : (before : List A) (ts at : List T) → each_next test item ts ≡ Err at → each_onto test item before ts ≡ Err at
  each_fails_onto before ts at e = ap (λ (o : Outcome T (List A)). and_then o (λ xs rest. Ok (before ++ xs, rest))) (failed ts e)
    where
      by_test : (t : T) (us : List T) (b : Bool) → test t ≡ b → (if b then made made_item item (t ∷ us) else item_out (Err tt) (t ∷ us)) ≡ Err at → each test item (t ∷ us) ≡ Err at
      by_test t us true h k = elim (bind_err (item (t ∷ us)) (λ x rest. item_out (Ok x) rest) at k) [
        | inl q ↦ each_goes t us h ∙ ap (with_others (each test item)) q
        | inr m ↦ (let q = m.3 in absurd cc)
      ]
      by_test t us false h k = absurd cc

      failed : (us : List T) → each_next test item us ≡ Err at → each test item us ≡ Err at
      failed [] k = absurd cc
      failed (t ∷ us) k = by_test t us (test t) refl k

-- ---- the same texts, said otherwise

pub up_to_as : {T A : Type 0} {r : Reading T A} {p q : A → List T → Type 0} {follows : Option T → Type 0} → ReadsUpTo r p follows → ((a : A) (text : List T) → p a text → q a text) → ((a : A) (text : List T) → q a text → p a text) → ReadsUpTo r q follows
up_to_as {T} {A} {r} {p} {q} {follows} by to from = record {
  takes = λ ts a rest e. (let x = by.takes ts a rest e in record { front = x.front; fits = to a x.front x.fits; parts = x.parts });
  ends = by.ends;
  again = λ a text rest h f. by.again a text rest (from a text h) f;
  stops = λ ts at e. (let s = by.stops ts at e in let v = s.viable in record { front = s.front; parts = s.parts; decides = s.decides; viable = (v.0, v.1, to v.0 (s.front ++ v.1) v.2) });
  can = (let c = by.can in (c.0, c.1, to c.0 c.1 c.2));
}

-- ---- what begins with a token that may follow

-- Each text of q begins with a token that may follow.
abbrev pub Follow : {T A : Type 0} → (Option T → Type 0) → (A → List T → Type 0) → Type 0
Follow {T} {A} follows q = (a : A) (text : List T) → q a text → (t : T) × (rest : List T) × (text ≡ t ∷ rest) × follows (Some t)

first_behind : {T : Type 0} (front other after : List T) → first other ≡ first after → first (front ++ other) ≡ first (front ++ after)
first_behind [] other after k = k
first_behind (u ∷ front) other after k = refl

module _ {T A B : Type 0} {r : Reading T A} {p : A → List T → Type 0} {follows : Option T → Type 0} (f : A → Reading T B) (q : A → B → List T → Type 0) (by : ReadsUpTo r p follows) where
  -- where the first of the two fails, or the second
  first_fails : ((a : A) → (b : B) × (text : List T) × q a b text) → (ts at : List T) → r ts ≡ Err at → Stops (bound r f) (Then p q) ts at
  first_fails can ts at e =
      let s = by.stops ts at e in
      let v = s.viable in
      let b = can v.0 in
      record {
        front = s.front;
        parts = s.parts;
        decides = λ other k. ap (λ (x : Outcome T A). and_then x f) (s.decides other k);
        viable = (b.0, v.1 ++ b.1, (v.0, (s.front ++ v.1, b.1, v.2, b.2, sym (append_assoc s.front v.1 b.1))));
      }

  second_fails : (ts at : List T) (a : A) (mid : List T) → r ts ≡ Ok (a, mid) → Stops (f a) (q a) mid at → Stops (bound r f) (Then p q) ts at
  second_fails ts at a mid e s =
      let x = by.takes ts a mid e in
      let v = s.viable in
      record {
        front = x.front ++ s.front;
        parts = x.parts ∙ ap (λ (u : List T). x.front ++ u) s.parts ∙ sym (append_assoc x.front s.front at);
        decides = λ other k.
            let may : follows (first (s.front ++ other)) = subst follows (ap first s.parts ∙ sym (first_behind s.front other at k)) (by.ends ts a mid e) in
            ap (bound r f) (append_assoc x.front s.front other) ∙ goes_through r f (x.front ++ (s.front ++ other)) a (s.front ++ other) (Err other) (by.again a x.front (s.front ++ other) x.fits may) (s.decides other k);
        viable = (v.0, v.1, (a, (x.front, s.front ++ v.1, x.fits, v.2, append_assoc x.front s.front v.1)));
      }

  both_take : ((a : A) (ts : List T) (b : B) (rest : List T) → f a ts ≡ Ok (b, rest) → Takes (q a) ts b rest) → (ts : List T) (b : B) (rest : List T) → bound r f ts ≡ Ok (b, rest) → Takes (Then p q) ts b rest
  both_take second ts b rest e =
      let m = bind_ok (r ts) f b rest e in
      let x = by.takes ts m.0 m.1 m.2 in
      let y = second m.0 m.1 b rest m.3 in
      record { front = x.front ++ y.front; fits = (m.0, (x.front, y.front, x.fits, y.fits, refl)); parts = x.parts ∙ ap (λ (u : List T). x.front ++ u) y.parts ∙ sym (append_assoc x.front y.front rest) }

  -- An own end behind what goes up to it.
  module _ (then_by : (a : A) → Reads (f a) (q a)) (starts : (a : A) → Follow follows (q a)) where
    closed_again : (b : B) (text rest : List T) → Then p q b text → bound r f (text ++ rest) ≡ Ok (b, rest)
    closed_again b text rest (a, (u, v, h, k, whole)) =
        let s = starts a b v k in
        let may : follows (first (v ++ rest)) = subst (λ (w : List T). follows (first (w ++ rest))) (sym s.2) s.3 in
        let parts : text ++ rest ≡ u ++ (v ++ rest) = ap (λ (w : List T). w ++ rest) whole ∙ append_assoc u v rest in
        ap (bound r f) parts ∙ goes_through r f (u ++ (v ++ rest)) a (v ++ rest) (Ok (b, rest)) (by.again a u (v ++ rest) h may) ((then_by a).again b v rest k)

    pub reads_closed_by : Reads (bound r f) (Then p q)
    reads_closed_by = record {
      takes = both_take (λ a. (then_by a).takes);
      again = closed_again;
      stops = λ ts at e. elim (bind_err (r ts) f at e) [
        | inl k ↦ first_fails (λ a. (then_by a).can) ts at k
        | inr m ↦ second_fails ts at m.0 m.1 m.2 ((then_by m.0).stops m.1 at m.3)
      ];
      can = (let a = by.can in let b = (then_by a.0).can in (b.0, a.1 ++ b.1, (a.0, (a.1, b.1, a.2, b.2, refl))));
    }

pub reads_closed : {T A B : Type 0} {r : Reading T A} {f : A → Reading T B} {p : A → List T → Type 0} {q : A → B → List T → Type 0} {follows : Option T → Type 0} → ReadsUpTo r p follows → ((a : A) → Reads (f a) (q a)) → ((a : A) → Follow follows (q a)) → Reads (r ⇒ f) (Then p q)
reads_closed {T} {A} {B} {r} {f} {p} {q} by then_by starts = reads_closed_by f q by then_by starts

pub reads_closed_both : {T A B : Type 0} {r : Reading T A} {s : A → Reading T B} {p : A → List T → Type 0} {q : A → B → List T → Type 0} {follows : Option T → Type 0} → ReadsUpTo r p follows → ((a : A) → Reads (s a) (q a)) → ((a : A) → Follow follows (q a)) → Reads (r & s) (λ v. p v.0 ⋅ q v.0 v.1)
reads_closed_both {T} {A} {B} {r} {s} {p} {q} by then_by starts = reads_as (reads_closed by (λ a. reads_made (λ b. (a, b)) (then_by a)) (λ a v text h. starts a h.0 text h.2)) to (λ v text h. (v.0, (h.0, h.1, h.2, (v.1, refl, h.3), h.4)))
  where
    to : (v : A × B) (text : List T) → Then p (λ a. Made (λ b. (a, b)) (q a)) v text → (p v.0 ⋅ q v.0 v.1) text
    to v text (a, (front, rest, h, (b, e, k), parts)) =
        let whole : (p a ⋅ q a b) text = (front, rest, h, k, parts) in
        subst (λ (w : A × B). (p w.0 ⋅ q w.0 w.1) text) (sym e) whole

pub reads_closed_ended : {T A : Type 0} {r : Reading T A} {s : Reading T (Unit {0})} {p : A → List T → Type 0} {q : Unit {0} → List T → Type 0} {follows : Option T → Type 0} → ReadsUpTo r p follows → Reads s q → Follow follows q → Reads (r ◁ s) (λ a. p a ⋅ q tt)
reads_closed_ended {T} {A} {r} {s} {p} {q} by then_by starts = reads_as (reads_closed by (λ a. reads_made (λ _. a) then_by) (λ a b text h. starts h.0 text h.2)) to (λ a text h. (a, (h.0, h.1, h.2, (tt, refl, h.3), h.4)))
  where
    to : (a : A) (text : List T) → Then p (λ b. Made (λ _. b) q) a text → (p a ⋅ q tt) text
    to a text (b, (front, rest, h, (u, e, k), parts)) =
        let whole : (p b ⋅ q tt) text = (front, rest, h, k, parts) in
        subst (λ (c : A). (p c ⋅ q tt) text) (sym e) whole

-- ---- all items

onto_none : {T A : Type 0} (o : Outcome T (List A)) → and_then o (λ xs rest. Ok ([] ++ xs, rest)) ≡ o
onto_none (Ok q) = refl
onto_none (Err at) = refl

pub reads_each_onto_none : {T A : Type 0} {test : T → Bool} {item : Reading T A} {p : A → List T → Type 0} → Reads item p → Begins test p → ReadsUpTo (each_onto test item []) (Each p) (Ended test)
reads_each_onto_none {T} {A} {test} {item} {p} by begins = record {
  takes = λ ts xs rest e. all.takes ts xs rest (sym (same ts) ∙ e);
  ends = λ ts xs rest e. all.ends ts xs rest (sym (same ts) ∙ e);
  again = λ xs text rest h f. same (text ++ rest) ∙ all.again xs text rest h f;
  stops = λ ts at e. (let s = all.stops ts at (sym (same ts) ∙ e) in record { front = s.front; parts = s.parts; decides = λ other k. same (s.front ++ other) ∙ s.decides other k; viable = s.viable });
  can = all.can;
}
  where
    all : ReadsUpTo (each test item) (Each p) (Ended test)
    all = reads_each by begins

    same : (ts : List T) → each_onto test item [] ts ≡ each test item ts
    same ts = onto_none (each test item ts)
