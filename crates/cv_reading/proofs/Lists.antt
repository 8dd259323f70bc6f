-- What lists, and readings that depend on one another, keep.
use Rattle.std.proofs.Common.{◌≡◌, ℕ, zero, suc, ◌+◌, ◌<◌, ◌≤◌, Bool, true, false, List, [], ◌∷◌, ◌++◌, length, Option, Some, None, Result, Ok, Err, refl, sym, ap, subst, ◌∙◌, append_assoc, arith, ◌⊎◌, inl, inr}
use Rattle.std.proofs.lemmas.List.{append-nil, length-append}
use Rattle.cv_reading.specs.Phrase.{one, nothing, ◌⋅◌, Each, Following, Separated}
use Rattle.cv_reading.specs.Reading.{Outcome, Reading, and_then, give, passed, made, choose, on, many}
use Rattle.cv_reading.specs.Lists.{◌⇒◌, next_item, items_onto, closed_list}
use Rattle.cv_reading.proofs.Laws.{first, Takes, Stops, Reads, Token, Only, Then, Made, Or, Items, Until, BeginsElsewhere, reads_as, reads_bind, reads_made, reads_then, reads_many, reads_on, many_goes, many_ends, many_fails, shrinks, ok_value, ok_rest, behind_nothing, with_nothing, before_nothing, then_nothing}

-- ---- no token

abbrev pub Given : {T A : Type 0} → A → A → List T → Type 0
Given a b text = (b ≡ a) × nothing text

pub reads_give : {T A : Type 0} (a : A) → Reads (give {T = T} a) (Given a)
reads_give {T} {A} a = record {
  takes = λ ts b rest e. record { front = []; fits = (sym (ok_value a b ts rest e), refl); parts = ok_rest a b ts rest e };
  again = λ b text rest h. rw (h.0, h.1) refl;
  stops = λ ts at e. absurd cc;
  can = (a, [], (refl, refl));
}

-- ---- one behind another

pub reads_before : {T A B : Type 0} {r : Reading T A} {s : A → Reading T B} {p : A → List T → Type 0} {q : A → B → List T → Type 0} → Reads r p → ((a : A) → Reads (s a) (q a)) → Reads (r ⇒ s) (Then p q)
reads_before by then_by = reads_bind by then_by

-- ---- what texts begin with

pub elsewhere_on : {T A B : Type 0} {f : T → Option B} (t : T) (p q : A → List T → Type 0) → f t ≡ None → BeginsElsewhere f q → BeginsElsewhere f (Or (λ a. one t ⋅ p a) q)
elsewhere_on t p q h by a text (inl (front, rest, is, k, parts)) = (t, rest, parts ∙ ap (λ u. u ++ rest) is, h)
elsewhere_on t p q h by a text (inr k) = by a text k

pub elsewhere_one : {T A B : Type 0} {f : T → Option B} (t : T) (p : A → List T → Type 0) → f t ≡ None → BeginsElsewhere f (λ a. one t ⋅ p a)
elsewhere_one t p h a text (front, rest, is, k, parts) = (t, rest, parts ∙ ap (λ u. u ++ rest) is, h)

pub elsewhere_then : {T A B C : Type 0} {f : T → Option C} (p : A → List T → Type 0) (q : A → B → List T → Type 0) → BeginsElsewhere f p → BeginsElsewhere f (Then p q)
elsewhere_then p q by b text (a, (front, rest, h, k, parts)) = let x = by a front h in (x.0, x.1 ++ rest, parts ∙ ap (λ u. u ++ rest) x.2, x.3)

pub elsewhere_made : {T A B C : Type 0} {f : T → Option C} (c : A → B) (p : A → List T → Type 0) → BeginsElsewhere f p → BeginsElsewhere f (Made c p)
elsewhere_made c p by b text (a, e, h) = by a text h

pub elsewhere_before : {T A C : Type 0} {f : T → Option C} (p : A → List T → Type 0) (q : List T → Type 0) → BeginsElsewhere f p → BeginsElsewhere f (λ a. p a ⋅ q)
elsewhere_before p q by a text (front, rest, h, k, parts) = let x = by a front h in (x.0, x.1 ++ rest, parts ∙ ap (λ u. u ++ rest) x.2, x.3)

pub elsewhere_or : {T A C : Type 0} {f : T → Option C} (p q : A → List T → Type 0) → BeginsElsewhere f p → BeginsElsewhere f q → BeginsElsewhere f (Or p q)
elsewhere_or p q by other a text (inl h) = by a text h
elsewhere_or p q by other a text (inr h) = other a text h

-- ---- items with a separator between each two, up to what closes the list

abbrev pub ends : {A : Type 0} → Unit {0} → Result A (Unit {0})
ends u = Err u

abbrev pub goes_on : {A : Type 0} → A → Result A (Unit {0})
goes_on a = Ok a

-- one more item, or the end
abbrev pub Next : {T A : Type 0} → T → (List T → Type 0) → (A → List T → Type 0) → Result A (Unit {0}) → List T → Type 0
Next close separator p (Err u) = one close
Next close separator p (Ok a) = separator ⋅ p a

module _ {T A : Type 0} {closes : T → Bool} (close : T) (is : closes close ≡ true) (only : (u : T) → closes u ≡ true → u ≡ close) {separator : Reading T (Unit {0})} (comma : T) (other : closes comma ≡ false) (by_comma : Reads separator (Only comma)) {item : Reading T A} {p : A → List T → Type 0} (by : Reads item p) where
  abbrev Closing : Result A (Unit {0}) → List T → Type 0
  Closing = Or (λ o. one close ⋅ Given (ends tt) o) (λ o. one comma ⋅ Made goes_on p o)

  next_is : (o : Result A (Unit {0})) (text : List T) → Closing o text → Next close (one comma) p o text
  next_is o text (inl (front, rest, h, (e, n), parts)) = subst (λ (u : Result A (Unit {0})). Next close (one comma) p u text) (sym e) (parts ∙ ap (λ (u : List T). u ++ rest) h ∙ ap (λ (u : List T). close ∷ u) n)
  next_is o text (inr (front, rest, h, (a, e, k), parts)) =
      let whole : Next close (one comma) p (Ok a) text = (front, rest, h, k, parts) in
      subst (λ (u : Result A (Unit {0})). Next close (one comma) p u text) (sym e) whole

  next_back : (o : Result A (Unit {0})) (text : List T) → Next close (one comma) p o text → Closing o text
  next_back (Err u) text h = inl (close ∷ [], [], refl, (refl, refl), h)
  next_back (Ok a) text (front, rest, h, k, parts) = inr (front, rest, h, (a, refl, k), parts)

  pub reads_next_item : Reads (next_item closes separator item) (Next close (one comma) p)
  reads_next_item = reads_as (reads_on closes close is only (reads_give (ends tt)) (reads_then by_comma (reads_made goes_on by)) (elsewhere_one comma (Made goes_on p) (ap passed other))) next_is next_back

  pub next_is_long : (o : Result A (Unit {0})) (text : List T) → Next close (one comma) p o text → 0 < length text
  next_is_long (Err u) text h = rw h (omega arith)
  next_is_long (Ok a) text (front, rest, h, k, parts) = let e : text ≡ comma ∷ rest = parts ∙ ap (λ (u : List T). u ++ rest) h in rw e (omega arith)

  items_is : (xs : List A) (u : Unit {0}) (text : List T) → Items (Next close (one comma) p) xs u text → (Following (one comma) p xs ⋅ one close) text
  items_is [] u text h = with_nothing (one close) text h
  items_is (a ∷ xs) u text (front, rest, (c, item_text, c_is, h, inner), k, parts) =
      let below = items_is xs u rest k in
      (front ++ below.0, below.1, (c, item_text ++ below.0, c_is, (item_text, below.0, h, below.2, refl), ap (λ (w : List T). w ++ below.0) inner ∙ append_assoc c item_text below.0), below.3, parts ∙ ap (λ (w : List T). front ++ w) below.4 ∙ sym (append_assoc front below.0 below.1))

  items_back : (xs : List A) (text : List T) → (Following (one comma) p xs ⋅ one close) text → Items (Next close (one comma) p) xs tt text
  items_back [] text h = behind_nothing (one close) text h
  items_back (a ∷ xs) text (front, rest, (c, more, c_is, (item_text, others, h, k, within), inner), closing, parts) =
      let below : Items (Next close (one comma) p) xs tt (others ++ rest) = items_back xs (others ++ rest) (others, rest, k, closing, refl) in
      let whole : text ≡ (c ++ item_text) ++ (others ++ rest) = parts ∙ ap (λ (w : List T). w ++ rest) (inner ∙ ap (λ (w : List T). c ++ w) within ∙ sym (append_assoc c item_text others)) ∙ append_assoc (c ++ item_text) others rest in
      (c ++ item_text, others ++ rest, (c, item_text, c_is, h, refl), below, whole)

  abbrev pub Onto : List A → List A → List T → Type 0
  Onto before xs text = (found : List A) × (xs ≡ before ++ found) × (Following (one comma) p found ⋅ one close) text

  onto_is : (before xs : List A) (text : List T) → Made (λ (v : List A × Unit {0}). before ++ v.0) (Until (Next close (one comma) p)) xs text → Onto before xs text
  onto_is before xs text (v, e, h) = (v.0, e, items_is v.0 v.1 text h)

  onto_back : (before xs : List A) (text : List T) → Onto before xs text → Made (λ (v : List A × Unit {0}). before ++ v.0) (Until (Next close (one comma) p)) xs text
  onto_back before xs text (found, e, h) = ((found, tt), e, items_back found text h)

  pub reads_items_onto : (before : List A) → Reads (items_onto closes separator item before) (Onto before)
  reads_items_onto before = reads_as (reads_made (λ (v : List A × Unit {0}). before ++ v.0) (reads_many reads_next_item next_is_long tt (close ∷ []) refl)) (onto_is before) (onto_back before)

  abbrev pub Closed : List A → List T → Type 0
  Closed xs = Separated (one comma) p xs ⋅ one close

  abbrev Listed : List A → List T → Type 0
  Listed = Or (λ xs. one close ⋅ Given [] xs) (Then p (λ a. Onto (a ∷ [])))

  closed_is : (xs : List A) (text : List T) → Listed xs text → Closed xs text
  closed_is xs text (inl (front, rest, h, (e, n), parts)) =
      let all : text ≡ close ∷ [] = parts ∙ ap (λ (u : List T). u ++ rest) h ∙ ap (λ (u : List T). close ∷ u) n in
      subst (λ (u : List A). Closed u text) (sym e) (with_nothing (one close) text all)
  closed_is xs text (inr (a, (front, rest, h, (found, e, (others, closing, k, c, inner)), parts))) =
      let whole : Closed (a ∷ found) text = (front ++ others, closing, (front, others, h, k, refl), c, parts ∙ ap (λ (u : List T). front ++ u) inner ∙ sym (append_assoc front others closing)) in
      subst (λ (u : List A). Closed u text) (sym e) whole

  closed_back : (xs : List A) (text : List T) → Closed xs text → Listed xs text
  closed_back [] text h = inl (close ∷ [], [], refl, (refl, refl), behind_nothing (one close) text h)
  closed_back (a ∷ xs) text (front, closing, (item_text, others, h, k, inner), c, parts) =
      inr (a, (item_text, others ++ closing, h, (xs, refl, (others, closing, k, c, refl)), parts ∙ ap (λ (u : List T). u ++ closing) inner ∙ append_assoc item_text others closing))

  pub reads_closed_list : BeginsElsewhere (λ t. passed (closes t)) p → Reads (closed_list closes separator item) Closed
  reads_closed_list apart = reads_as (reads_on closes close is only (reads_give []) (reads_before by (λ a. reads_items_onto (a ∷ []))) (elsewhere_then p (λ a. Onto (a ∷ [])) apart)) closed_is closed_back

  -- ---- a loop over the items

  list_goes_onto : (before : List A) (a : A) (o : Outcome T (List A × Unit {0})) → and_then o (λ v rest. Ok (before ++ a ∷ v.0, rest)) ≡ and_then o (λ v rest. Ok ((before ++ a ∷ []) ++ v.0, rest))
  list_goes_onto before a (Ok q) = ap (λ (u : List A). Ok (u, q.1)) (simp append_assoc)
  list_goes_onto before a (Err at) = refl

  pub list_goes : (before : List A) (ts : List T) (a : A) (after : List T) → next_item closes separator item ts ≡ Ok (Ok a, after) → items_onto closes separator item before ts ≡ items_onto closes separator item (before ++ a ∷ []) after
  list_goes before ts a after e = many_goes reads_next_item next_is_long (λ v rest. Ok (before ++ v.0, rest)) ts a after e ∙ list_goes_onto before a (many (next_item closes separator item) after)

  pub list_ends : (before : List A) (ts after : List T) → next_item closes separator item ts ≡ Ok (Err tt, after) → items_onto closes separator item before ts ≡ Ok (before, after)
  list_ends before ts after e = many_ends reads_next_item next_is_long (λ v rest. Ok (before ++ v.0, rest)) ts tt after e ∙ ap (λ (u : List A). Ok (u, after)) (append-nil before)

  pub list_fails : (before : List A) (ts at : List T) → next_item closes separator item ts ≡ Err at → items_onto closes separator item before ts ≡ Err at
  list_fails before ts at e = many_fails reads_next_item next_is_long (λ v rest. Ok (before ++ v.0, rest)) ts at e

  pub list_shorter : (ts : List T) (o : Result A (Unit {0})) (after : List T) → next_item closes separator item ts ≡ Ok (o, after) → length after < length ts
  list_shorter ts o after e = shrinks reads_next_item next_is_long ts o after e
