-- What each way of reading with levels keeps. What is spelled within the levels is taken, whatever follows but a token that
-- is barred; what is spelled with more of them is given up; and where reading stops, the next token alone decides that it stops,
-- and each shorter front can go on within the levels.
use Rattle.std.proofs.Common.{◌≡◌, ℕ, zero, suc, ◌+◌, ◌<◌, Bool, true, false, ◌&&◌, List, [], ◌∷◌, ◌++◌, length, Option, Some, None, Ok, Err, refl, sym, ap, subst, ◌∙◌, append_assoc, arith, ◌⊎◌, inl, inr}
use Rattle.std.specs.List.{list_all}
use Rattle.std.proofs.lemmas.List.{append-nil, length-append}
use Rattle.cv_reading.specs.Phrase.{nothing, ◌⋅◌, Each}
use Rattle.cv_reading.specs.Reading.{Outcome, Reading, and_then, choose, give}
use Rattle.cv_reading.specs.Deep.{Deep, then_deep, plain, changed, ◌⊗◌, ◌⊳◌, ◌⊲◌, call_by, call_at, called_by, called, onto, repeat_in, repeat, next_made, next_by, more_onto}
use Rattle.cv_reading.specs.Fault.{Viable, Fails, FirstFault}
use Rattle.cv_reading.specs.Levels.{OpensTooMany}
use Rattle.cv_reading.proofs.Laws.{first, Reads, ok_value, ok_rest, Token, Made, Either}

-- ---- lists

pub same_first : {T : Type 0} (front other at : List T) → first other ≡ first at → first (front ++ other) ≡ first (front ++ at)
same_first [] other at k = k
same_first (u ∷ us) other at k = refl

-- one list, parted in two ways
pub parted : {T : Type 0} (a b u v : List T) → a ++ b ≡ u ++ v → ((w : List T) × (a ≡ u ++ w) × (v ≡ w ++ b)) ⊎ ((w : List T) × (u ≡ a ++ w) × (b ≡ w ++ v))
parted [] b u v e = inr (u, refl, e)
parted (x ∷ a) b [] v e = inl (x ∷ a, refl, sym e)
parted {T} (x ∷ a) b (y ∷ u) v e =
    let same : x ≡ y = cc in
    let below : a ++ b ≡ u ++ v = cc in
    elim (parted a b u v below) [
      | inl (w, p, q) ↦ inl (w, cc, q)
      | inr (w, p, q) ↦ inr (w, cc, q)
    ]

-- ---- tokens that may not follow

abbrev pub Clear : {T : Type 0} → (T → Bool) → List T → Type 0
Clear bars [] = Unit {0}
Clear bars (t ∷ ts) = bars t ≡ false

abbrev pub none : {T : Type 0} → T → Bool
none t = false

pub clear_none : {T : Type 0} (ts : List T) → Clear none ts
clear_none [] = tt
clear_none (t ∷ ts) = refl

-- ---- the laws

pub record Found {T A : Type 0} (within : A → Bool) (r : Deep T A) (spells : A → List T → Type 0) (ts : List T) (a : A) (rest : List T) : Type 0 where
  pub front : List T
  pub fits : spells a front
  pub parts : ts ≡ front ++ rest
  pub small : within a ≡ true
  pub goes : (other : List T) → first other ≡ first rest → r (front ++ other) ≡ Ok (Some a, other)

-- `early` tells whether this may come before two tokens.
pub record Cut {T A : Type 0} (early : Bool) (r : Deep T A) (spells : A → List T → Type 0) (ts : List T) : Type 0 where
  pub front : List T
  pub here : T
  pub rest : List T
  pub parts : ts ≡ front ++ here ∷ rest
  pub viable : Viable spells (front ++ here ∷ [])
  pub never : (other : List T) (a : A) (after : List T) → r (front ++ other) ≡ Ok (Some a, after) → ⊥
  pub begun : length front < 2 → early ≡ true

abbrev pub Within : {T A : Type 0} → (A → Bool) → (A → List T → Type 0) → List T → Type 0
Within {T} {A} within spells front = (a : A) × (tail : List T) × (within a ≡ true) × spells a (front ++ tail)

pub record Halts {T A : Type 0} (within : A → Bool) (r : Deep T A) (spells : A → List T → Type 0) (ts at : List T) : Type 0 where
  pub front : List T
  pub parts : ts ≡ front ++ at
  pub decides : (other : List T) → first other ≡ first at → r (front ++ other) ≡ Err other
  pub viable : Viable spells front
  pub free : (u v : List T) → front ≡ u ++ v → (v ≡ [] → ⊥) → Within within spells u

pub record ReadsDeep {T A : Type 0} (early : Bool) (bars : T → Bool) (within : A → Bool) (r : Deep T A) (spells : A → List T → Type 0) : Type 0 where
  pub takes : (ts : List T) (a : A) (rest : List T) → r ts ≡ Ok (Some a, rest) → Found within r spells ts a rest
  pub cuts : (ts rest : List T) → r ts ≡ Ok (None, rest) → Cut early r spells ts
  pub again : (a : A) (text rest : List T) → spells a text → within a ≡ true → Clear bars rest → r (text ++ rest) ≡ Ok (Some a, rest)
  pub deep : (a : A) (text rest : List T) → spells a text → within a ≡ false → Clear bars rest → (at : List T) × (r (text ++ rest) ≡ Ok (None, at))
  pub stops : (ts at : List T) → r ts ≡ Err at → Halts within r spells ts at
  pub can : (a : A) × (text : List T) × (early ≡ false → within a ≡ true) × spells a text

-- ---- outcomes

pub some_is : {T A : Type 0} (a b : A) (s t : List T) → (let x : Outcome T (Option A) = Ok (Some a, s) in x) ≡ Ok (Some b, t) → a ≡ b
some_is {T} {A} a b s t e = let k : Some a ≡ Some b = ok_value (Some a) (Some b) s t e in cc

pub some_not_none : {T A : Type 0} (a : A) (s t : List T) → (let x : Outcome T (Option A) = Ok (Some a, s) in x) ≡ Ok (None, t) → ⊥
some_not_none {T} {A} a s t e = let k : Some a ≡ None = ok_value (Some a) None s t e in absurd cc

pub deep_some : {T A B : Type 0} (o : Outcome T (Option A)) (f : A → Deep T B) (b : B) (rest : List T) → then_deep o f ≡ Ok (Some b, rest) → (a : A) × (mid : List T) × (o ≡ Ok (Some a, mid)) × (f a mid ≡ Ok (Some b, rest))
deep_some (Ok (Some a, mid)) f b rest e = (a, mid, refl, e)
deep_some (Ok (None, mid)) f b rest e = (let k : None ≡ Some b = ok_value None (Some b) mid rest e in absurd cc)
deep_some (Err d) f b rest e = absurd cc

pub deep_none : {T A B : Type 0} (o : Outcome T (Option A)) (f : A → Deep T B) (rest : List T) → then_deep o f ≡ Ok (None, rest) → (o ≡ Ok (None, rest)) ⊎ ((a : A) × (mid : List T) × (o ≡ Ok (Some a, mid)) × (f a mid ≡ Ok (None, rest)))
deep_none (Ok (Some a, mid)) f rest e = inr (a, mid, refl, e)
deep_none (Ok (None, mid)) f rest e = inl (ap (λ t. Ok (None, t)) (ok_rest None None mid rest e))
deep_none (Err d) f rest e = absurd cc

pub deep_err : {T A B : Type 0} (o : Outcome T (Option A)) (f : A → Deep T B) (at : List T) → then_deep o f ≡ Err at → (o ≡ Err at) ⊎ ((a : A) × (mid : List T) × (o ≡ Ok (Some a, mid)) × (f a mid ≡ Err at))
deep_err (Ok (Some a, mid)) f at e = inr (a, mid, refl, e)
deep_err (Ok (None, mid)) f at e = absurd cc
deep_err (Err d) f at e = inl (cc)

pub deep_goes : {T A B : Type 0} (o : Outcome T (Option A)) (f : A → Deep T B) (a : A) (mid : List T) → o ≡ Ok (Some a, mid) → then_deep o f ≡ f a mid
deep_goes {T} {A} {B} o f a mid e = ap (λ (x : Outcome T (Option A)). then_deep x f) e

pub deep_gone : {T A B : Type 0} (o : Outcome T (Option A)) (f : A → Deep T B) (mid : List T) → o ≡ Ok (None, mid) → then_deep o f ≡ Ok (None, mid)
deep_gone {T} {A} {B} o f mid e = ap (λ (x : Outcome T (Option A)). then_deep x f) e

pub deep_fails : {T A B : Type 0} (o : Outcome T (Option A)) (f : A → Deep T B) (at : List T) → o ≡ Err at → then_deep o f ≡ Err at
deep_fails {T} {A} {B} o f at e = ap (λ (x : Outcome T (Option A)). then_deep x f) e

-- ---- a reading without levels

abbrev pub all_within : {A : Type 0} → A → Bool
all_within a = true

plain_some : {T A : Type 0} (o : Outcome T A) (a : A) (rest : List T) → and_then o (λ b after. Ok (Some b, after)) ≡ Ok (Some a, rest) → o ≡ Ok (a, rest)
plain_some {T} {A} (Ok (b, after)) a rest e =
    let k : b ≡ a = some_is b a after rest e in
    let m : after ≡ rest = ok_rest (Some b) (Some a) after rest e in
    cc
plain_some (Err d) a rest e = absurd cc

plain_none : {T A : Type 0} (o : Outcome T A) (rest : List T) → and_then o (λ b after. Ok (Some b, after)) ≡ Ok (None, rest) → ⊥
plain_none (Ok (b, after)) rest e = (let k : Some b ≡ None = ok_value (Some b) None after rest e in absurd cc)
plain_none (Err d) rest e = absurd cc

plain_err : {T A : Type 0} (o : Outcome T A) (at : List T) → and_then o (λ b after. Ok (Some b, after)) ≡ Err at → o ≡ Err at
plain_err (Ok (b, after)) at e = absurd cc
plain_err (Err d) at e = cc

pub plain_goes : {T A : Type 0} (r : Reading T A) (ts : List T) (a : A) (rest : List T) → r ts ≡ Ok (a, rest) → plain r ts ≡ Ok (Some a, rest)
plain_goes {T} {A} r ts a rest e = ap (λ (o : Outcome T A). and_then o (λ b after. Ok (Some b, after))) e

-- Each front of a reading without levels, with nothing behind it left out, can go on.
pub deep_plain : {T A : Type 0} {r : Reading T A} {p : A → List T → Type 0} → Reads r p → ReadsDeep false none all_within (plain r) p
deep_plain {T} {A} {r} {p} by = record {
  takes = λ ts a rest e. (let x = by.takes ts a rest (plain_some (r ts) a rest e) in record { front = x.front; fits = x.fits; parts = x.parts; small = refl; goes = λ other k. plain_goes r (x.front ++ other) a other (by.again a x.front other x.fits) });
  cuts = λ ts rest e. absurd (plain_none (r ts) rest e);
  again = λ a text rest h w clear. plain_goes r (text ++ rest) a rest (by.again a text rest h);
  deep = λ a text rest h w clear. absurd cc;
  stops = λ ts at e. (let s = by.stops ts at (plain_err (r ts) at e) in let v = s.viable in record {
    front = s.front;
    parts = s.parts;
    decides = λ other k. ap (λ (o : Outcome T A). and_then o (λ b after. Ok (Some b, after))) (s.decides other k);
    viable = s.viable;
    free = λ u w parts some. (v.0, w ++ v.1, refl, subst (λ (z : List T). p v.0 z) (ap (λ (z : List T). z ++ v.1) parts ∙ append_assoc u w v.1) v.2);
  });
  can = (let c = by.can in (c.0, c.1, λ e. refl, c.2));
}

-- ---- a value, and no token

abbrev pub Given : {T A : Type 0} → A → A → List T → Type 0
Given a b text = (b ≡ a) × nothing text

pub deep_give : {T A : Type 0} {bars : T → Bool} {w : A → Bool} (a : A) → w a ≡ true → ReadsDeep false bars w (give (Some a)) (Given a)
deep_give {T} {A} {bars} {w} a small = record {
  takes = takes_of;
  cuts = λ ts rest e. absurd (some_not_none a ts rest e);
  again = λ b text rest h k clear. ap (λ (l : List T). Ok (Some a, l ++ rest)) h.1 ∙ ap (λ (c : A). Ok (Some c, rest)) (sym h.0);
  deep = λ b text rest h k clear. (let l : true ≡ false = sym small ∙ sym (ap w h.0) ∙ k in absurd cc);
  stops = λ ts at e. absurd cc;
  can = (a, [], λ e. small, (refl, refl));
}
  where
    takes_of : (ts : List T) (b : A) (rest : List T) → give (Some a) ts ≡ Ok (Some b, rest) → Found w (give (Some a)) (Given a) ts b rest
    takes_of ts b rest e =
        let value : a ≡ b = some_is a b ts rest e in
        let left : ts ≡ rest = ok_rest (Some a) (Some b) ts rest e in
        record { front = []; fits = (sym value, refl); parts = left; small = sym (ap w value) ∙ small; goes = λ other k. ap (λ (c : A). Ok (Some c, other)) value }

-- ---- the same texts, said otherwise

module _ {T A : Type 0} {early : Bool} {bars bars2 : T → Bool} {w w2 : A → Bool} {r : Deep T A} {p q : A → List T → Type 0} where
  -- a bar more, the levels counted otherwise, the texts said otherwise
  pub deep_as : ReadsDeep early bars w r p → ((ts : List T) → Clear bars2 ts → Clear bars ts) → ((a : A) (text : List T) → p a text → w a ≡ w2 a) → ((a : A) (text : List T) → p a text → q a text) → ((a : A) (text : List T) → q a text → p a text) → ReadsDeep early bars2 w2 r q
  deep_as by fewer same to from = record {
    takes = λ ts a rest e. (let x = by.takes ts a rest e in record { front = x.front; fits = to a x.front x.fits; parts = x.parts; small = sym (same a x.front x.fits) ∙ x.small; goes = x.goes });
    cuts = λ ts rest e. (let c = by.cuts ts rest e in let v = c.viable in record { front = c.front; here = c.here; rest = c.rest; parts = c.parts; viable = (v.0, v.1, to v.0 ((c.front ++ c.here ∷ []) ++ v.1) v.2); never = c.never; begun = c.begun });
    again = λ a text rest h k clear. by.again a text rest (from a text h) (same a text (from a text h) ∙ k) (fewer rest clear);
    deep = λ a text rest h k clear. by.deep a text rest (from a text h) (same a text (from a text h) ∙ k) (fewer rest clear);
    stops = λ ts at e. (let s = by.stops ts at e in let v = s.viable in record {
      front = s.front;
      parts = s.parts;
      decides = s.decides;
      viable = (v.0, v.1, to v.0 (s.front ++ v.1) v.2);
      free = λ x y parts some. (let f = s.free x y parts some in (f.0, f.1, sym (same f.0 (x ++ f.1) f.3) ∙ f.2, to f.0 (x ++ f.1) f.3));
    });
    can = (let c = by.can in (c.0, c.1, λ e. sym (same c.0 c.1 c.3) ∙ c.2 e, to c.0 c.1 c.3));
  }

-- ---- a value made of what was read

abbrev making_of : {T A B : Type 0} → (A → B) → A → Deep T B
making_of c a = give (Some (c a))

module _ {T A B : Type 0} {early : Bool} {bars : T → Bool} {w : A → Bool} {w2 : B → Bool} (c : A → B) {r : Deep T A} {p : A → List T → Type 0} where
  pub deep_made : ReadsDeep early bars w r p → ((a : A) → w2 (c a) ≡ w a) → ReadsDeep early bars w2 (changed c r) (Made c p)
  deep_made by same = record {
    takes = λ ts b rest e. (let m = deep_some (r ts) (making_of c) b rest e in takes_of ts b rest m.0 m.1 m.2 m.3);
    cuts = λ ts rest e. cuts_of ts rest (deep_none (r ts) (making_of c) rest e);
    again = λ b text rest h k clear. (deep_goes (r (text ++ rest)) (making_of c) h.0 rest (by.again h.0 text rest h.2 (sym (same h.0) ∙ sym (ap w2 h.1) ∙ k) clear) ∙ ap (λ (x : B). Ok (Some x, rest)) (sym h.1));
    deep = λ b text rest h k clear. (let d = by.deep h.0 text rest h.2 (sym (same h.0) ∙ sym (ap w2 h.1) ∙ k) clear in (d.0, deep_gone (r (text ++ rest)) (making_of c) d.0 d.1));
    stops = λ ts at e. stops_of ts at (deep_err (r ts) (making_of c) at e);
    can = (let a = by.can in (c a.0, a.1, λ e. same a.0 ∙ a.2 e, (a.0, refl, a.3)));
  }
    where
      takes_of : (ts : List T) (b : B) (rest : List T) (a : A) (mid : List T) → r ts ≡ Ok (Some a, mid) → making_of c a mid ≡ Ok (Some b, rest) → Found w2 (changed c r) (Made c p) ts b rest
      takes_of ts b rest a mid e k =
          let x = by.takes ts a mid e in
          let value : c a ≡ b = some_is (c a) b mid rest k in
          let left : mid ≡ rest = ok_rest (Some (c a)) (Some b) mid rest k in
          record {
            front = x.front;
            fits = (a, sym value, x.fits);
            parts = x.parts ∙ ap (λ (u : List T). x.front ++ u) left;
            small = sym (ap w2 value) ∙ same a ∙ x.small;
            goes = λ other j. deep_goes (r (x.front ++ other)) (making_of c) a other (x.goes other (j ∙ ap first (sym left))) ∙ ap (λ (y : B). Ok (Some y, other)) value;
          }

      cuts_of : (ts rest : List T) → (r ts ≡ Ok (None, rest)) ⊎ ((a : A) × (mid : List T) × (r ts ≡ Ok (Some a, mid)) × (making_of c a mid ≡ Ok (None, rest))) → Cut early (changed c r) (Made c p) ts
      cuts_of ts rest (inl e) =
          let x = by.cuts ts rest e in
          let v = x.viable in
          record {
            front = x.front;
            here = x.here;
            rest = x.rest;
            parts = x.parts;
            viable = (c v.0, v.1, (v.0, refl, v.2));
            never = λ other b after k. (let m = deep_some (r (x.front ++ other)) (making_of c) b after k in x.never other m.0 m.1 m.2);
            begun = x.begun;
          }
      cuts_of ts rest (inr m) = absurd (some_not_none (c m.0) m.1 rest m.3)

      stops_of : (ts at : List T) → (r ts ≡ Err at) ⊎ ((a : A) × (mid : List T) × (r ts ≡ Ok (Some a, mid)) × (making_of c a mid ≡ Err at)) → Halts w2 (changed c r) (Made c p) ts at
      stops_of ts at (inl e) =
          let s = by.stops ts at e in
          let v = s.viable in
          record {
            front = s.front;
            parts = s.parts;
            decides = λ other k. deep_fails (r (s.front ++ other)) (making_of c) other (s.decides other k);
            viable = (c v.0, v.1, (v.0, refl, v.2));
            free = λ x y parts some. (let f = s.free x y parts some in (c f.0, f.1, same f.0 ∙ f.2, (f.0, refl, f.3)));
          }
      stops_of ts at (inr m) = (let h = m.3 in absurd cc)

-- ---- two readings in a row

pub both_true : (a b : Bool) → (a && b) ≡ true → (a ≡ true) × (b ≡ true)
both_true true true h = (refl, refl)
both_true true false h = absurd cc
both_true false b h = absurd cc

pub true_both : (a b : Bool) → a ≡ true → b ≡ true → (a && b) ≡ true
true_both true true h k = refl
true_both true false h k = absurd cc
true_both false b h k = absurd cc

pub one_false : (a b : Bool) → (a && b) ≡ false → (a ≡ false) ⊎ ((a ≡ true) × (b ≡ false))
one_false true false h = inr (refl, refl)
one_false true true h = absurd cc
one_false false b h = inl refl

abbrev pair_of : {T A B : Type 0} → (A → Deep T B) → A → Deep T (A × B)
pair_of s a = changed (λ b. (a, b)) (s a)

both_some : {T A B : Type 0} (r : Deep T A) (s : A → Deep T B) (ts : List T) (v : A × B) (rest : List T) → (r ⊗ s) ts ≡ Ok (Some v, rest) → (mid : List T) × (r ts ≡ Ok (Some v.0, mid)) × (s v.0 mid ≡ Ok (Some v.1, rest))
both_some {T} {A} {B} r s ts v rest e =
    let m = deep_some (r ts) (pair_of s) v rest e in
    let n = deep_some (s m.0 m.1) (λ b. give (Some (m.0, b))) v rest m.3 in
    let value : (let x : A × B = (m.0, n.0) in x) ≡ v = some_is (m.0, n.0) v n.1 rest n.3 in
    let left : n.1 ≡ rest = ok_rest (Some (m.0, n.0)) (Some v) n.1 rest n.3 in
    (m.1, m.2 ∙ ap (λ (y : A × B). Ok (Some y.0, m.1)) value, sym (ap (λ (y : A × B). s y.0 m.1) value) ∙ n.2 ∙ ap (λ (y : A × B). Ok (Some y.1, n.1)) value ∙ ap (λ (t : List T). Ok (Some v.1, t)) left)

module _ {T A B : Type 0} (r : Deep T A) (s : A → Deep T B) where
  both_goes : (ts : List T) (a : A) (mid : List T) → r ts ≡ Ok (Some a, mid) → (r ⊗ s) ts ≡ pair_of s a mid
  both_goes ts a mid e = deep_goes (r ts) (pair_of s) a mid e

  both_take : (ts : List T) (a : A) (mid : List T) (b : B) (rest : List T) → r ts ≡ Ok (Some a, mid) → s a mid ≡ Ok (Some b, rest) → (r ⊗ s) ts ≡ Ok (Some (a, b), rest)
  both_take ts a mid b rest e k = both_goes ts a mid e ∙ deep_goes (s a mid) (λ c. give (Some (a, c))) b rest k

  both_cut : (ts : List T) (a : A) (mid : List T) (rest : List T) → r ts ≡ Ok (Some a, mid) → s a mid ≡ Ok (None, rest) → (r ⊗ s) ts ≡ Ok (None, rest)
  both_cut ts a mid rest e k = both_goes ts a mid e ∙ deep_gone (s a mid) (λ c. give (Some (a, c))) rest k

  both_err : (ts : List T) (a : A) (mid : List T) (at : List T) → r ts ≡ Ok (Some a, mid) → s a mid ≡ Err at → (r ⊗ s) ts ≡ Err at
  both_err ts a mid at e k = both_goes ts a mid e ∙ deep_fails (s a mid) (λ c. give (Some (a, c))) at k

module _ {T A B : Type 0} {early : Bool} {bars1 bars2 : T → Bool} {w1 : A → Bool} {w2 : B → Bool} {r : Deep T A} {s : A → Deep T B} {p : A → List T → Type 0} {q : A → B → List T → Type 0} where
  pub deep_both : ReadsDeep early bars1 w1 r p → ((a : A) → ReadsDeep false bars2 w2 (s a) (q a)) → ((a : A) (b : B) (text : List T) → q a b text → (rest : List T) → Clear bars2 rest → Clear bars1 (text ++ rest)) → ReadsDeep early bars2 (λ v. w1 v.0 && w2 v.1) (r ⊗ s) (λ v. p v.0 ⋅ q v.0 v.1)
  deep_both one_by then_by clears = record {
    takes = λ ts v rest e. (let m = both_some r s ts v rest e in takes_of ts v rest m.0 m.1 m.2);
    cuts = λ ts rest e. cuts_of ts rest (deep_none (r ts) (pair_of s) rest e);
    again = λ v text rest h k clear. again_of v.0 v.1 text rest h (both_true (w1 v.0) (w2 v.1) k) clear;
    deep = λ v text rest h k clear. deep_of v.0 v.1 text rest h (one_false (w1 v.0) (w2 v.1) k) clear;
    stops = λ ts at e. stops_of ts at (deep_err (r ts) (pair_of s) at e);
    can = (let a = one_by.can in let b = (then_by a.0).can in ((a.0, b.0), a.1 ++ b.1, λ e. true_both (w1 a.0) (w2 b.0) (a.2 e) (b.2 refl), (a.1, b.1, a.3, b.3, refl)));
  }
    where
      again_of : (a : A) (b : B) (text rest : List T) → (p a ⋅ q a b) text → (w1 a ≡ true) × (w2 b ≡ true) → Clear bars2 rest → (r ⊗ s) (text ++ rest) ≡ Ok (Some (a, b), rest)
      again_of a b text rest (u, v, h, k, whole) both clear =
          let parts : text ++ rest ≡ u ++ (v ++ rest) = ap (λ (x : List T). x ++ rest) whole ∙ append_assoc u v rest in
          ap (r ⊗ s) parts ∙ both_take r s (u ++ (v ++ rest)) a (v ++ rest) b rest (one_by.again a u (v ++ rest) h both.0 (clears a b v k rest clear)) ((then_by a).again b v rest k both.1 clear)

      deep_of : (a : A) (b : B) (text rest : List T) → (p a ⋅ q a b) text → (w1 a ≡ false) ⊎ ((w1 a ≡ true) × (w2 b ≡ false)) → Clear bars2 rest → (at : List T) × ((r ⊗ s) (text ++ rest) ≡ Ok (None, at))
      deep_of a b text rest (u, v, h, k, whole) (inl e) clear =
          let parts : text ++ rest ≡ u ++ (v ++ rest) = ap (λ (x : List T). x ++ rest) whole ∙ append_assoc u v rest in
          let d = one_by.deep a u (v ++ rest) h e (clears a b v k rest clear) in
          (d.0, ap (r ⊗ s) parts ∙ deep_gone (r (u ++ (v ++ rest))) (pair_of s) d.0 d.1)
      deep_of a b text rest (u, v, h, k, whole) (inr e) clear =
          let parts : text ++ rest ≡ u ++ (v ++ rest) = ap (λ (x : List T). x ++ rest) whole ∙ append_assoc u v rest in
          let d = (then_by a).deep b v rest k e.1 clear in
          (d.0, ap (r ⊗ s) parts ∙ both_cut r s (u ++ (v ++ rest)) a (v ++ rest) d.0 (one_by.again a u (v ++ rest) h e.0 (clears a b v k rest clear)) d.1)

      takes_of : (ts : List T) (v : A × B) (rest mid : List T) → r ts ≡ Ok (Some v.0, mid) → s v.0 mid ≡ Ok (Some v.1, rest) → Found (λ x. w1 x.0 && w2 x.1) (r ⊗ s) (λ x. p x.0 ⋅ q x.0 x.1) ts v rest
      takes_of ts v rest mid e k =
          let x = one_by.takes ts v.0 mid e in
          let y = (then_by v.0).takes mid v.1 rest k in
          record {
            front = x.front ++ y.front;
            fits = (x.front, y.front, x.fits, y.fits, refl);
            parts = x.parts ∙ ap (λ (u : List T). x.front ++ u) y.parts ∙ sym (append_assoc x.front y.front rest);
            small = true_both (w1 v.0) (w2 v.1) x.small y.small;
            goes = λ other j. ap (r ⊗ s) (append_assoc x.front y.front other) ∙ both_take r s (x.front ++ (y.front ++ other)) v.0 (y.front ++ other) v.1 other (x.goes (y.front ++ other) (same_first y.front other rest j ∙ ap first (sym y.parts))) (y.goes other j);
          }

      cuts_of : (ts rest : List T) → (r ts ≡ Ok (None, rest)) ⊎ ((a : A) × (mid : List T) × (r ts ≡ Ok (Some a, mid)) × (pair_of s a mid ≡ Ok (None, rest))) → Cut early (r ⊗ s) (λ x. p x.0 ⋅ q x.0 x.1) ts
      cuts_of ts rest (inl e) =
          let x = one_by.cuts ts rest e in
          let v = x.viable in
          let b = (then_by v.0).can in
          let f : List T = x.front ++ x.here ∷ [] in
          record {
            front = x.front;
            here = x.here;
            rest = x.rest;
            parts = x.parts;
            viable = ((v.0, b.0), v.1 ++ b.1, (f ++ v.1, b.1, v.2, b.3, sym (append_assoc f v.1 b.1)));
            never = λ other a after k. (let m = both_some r s (x.front ++ other) a after k in x.never other a.0 m.0 m.1);
            begun = x.begun;
          }
      cuts_of ts rest (inr m) =
          let x = one_by.takes ts m.0 m.1 m.2 in
          let none_in = deep_none (s m.0 m.1) (λ b. give (Some (m.0, b))) rest m.3 in
          elim none_in [
            | inl k ↦ later ts m.0 m.1 x ((then_by m.0).cuts m.1 rest k)
            | inr n ↦ absurd (some_not_none (m.0, n.0) n.1 rest n.3)
          ]
        where
          later : (ts : List T) (a : A) (mid : List T) → Found w1 r p ts a mid → Cut false (s a) (q a) mid → Cut early (r ⊗ s) (λ x. p x.0 ⋅ q x.0 x.1) ts
          later ts a mid x y =
              let v = y.viable in
              let f : List T = y.front ++ y.here ∷ [] in
              record {
                front = x.front ++ y.front;
                here = y.here;
                rest = y.rest;
                parts = x.parts ∙ ap (λ (u : List T). x.front ++ u) y.parts ∙ sym (append_assoc x.front y.front (y.here ∷ y.rest));
                viable = ((a, v.0), v.1, (x.front, f ++ v.1, x.fits, v.2, ap (λ (u : List T). u ++ v.1) (append_assoc x.front y.front (y.here ∷ [])) ∙ append_assoc x.front f v.1));
                never = λ other c after k. never_of x y other c after k;
                begun = λ e. absurd (false_begun x y e);
              }
            where
              false_begun : (x : Found w1 r p ts a mid) (y : Cut false (s a) (q a) mid) → length (x.front ++ y.front) < 2 → ⊥
              false_begun x y e = (let k : false ≡ true = y.begun (omega (arith, length-append x.front y.front)) in absurd cc)

              shared : (front other : List T) → (front ≡ [] → ⊥) → (after : List T) → first (front ++ other) ≡ first (front ++ after)
              shared [] other h after = absurd (h refl)
              shared (z ∷ front) other h after = refl

              not_empty : (y : Cut false (s a) (q a) mid) → y.front ≡ [] → ⊥
              not_empty y e = (let z : false ≡ true = y.begun (rw e (omega arith)) in absurd cc)

              never_of : (x : Found w1 r p ts a mid) (y : Cut false (s a) (q a) mid) (other : List T) (c : A × B) (after : List T) → (r ⊗ s) ((x.front ++ y.front) ++ other) ≡ Ok (Some c, after) → ⊥
              never_of x y other c after k =
                  let some : y.front ≡ [] → ⊥ = λ e. not_empty y e in
                  let went : r (x.front ++ (y.front ++ other)) ≡ Ok (Some a, y.front ++ other) = x.goes (y.front ++ other) (shared y.front other some (y.here ∷ y.rest) ∙ ap first (sym y.parts)) in
                  let m = both_some r s (x.front ++ (y.front ++ other)) c after (ap (r ⊗ s) (sym (append_assoc x.front y.front other)) ∙ k) in
                  let same : a ≡ c.0 = some_is a c.0 (y.front ++ other) m.0 (sym went ∙ m.1) in
                  let left : y.front ++ other ≡ m.0 = ok_rest (Some a) (Some c.0) (y.front ++ other) m.0 (sym went ∙ m.1) in
                  y.never other c.1 after (ap (λ (z : A). s z (y.front ++ other)) same ∙ ap (s c.0) left ∙ m.2)

      stops_of : (ts at : List T) → (r ts ≡ Err at) ⊎ ((a : A) × (mid : List T) × (r ts ≡ Ok (Some a, mid)) × (pair_of s a mid ≡ Err at)) → Halts (λ x. w1 x.0 && w2 x.1) (r ⊗ s) (λ x. p x.0 ⋅ q x.0 x.1) ts at
      stops_of ts at (inl e) =
          let x = one_by.stops ts at e in
          let v = x.viable in
          let b = (then_by v.0).can in
          record {
            front = x.front;
            parts = x.parts;
            decides = λ other k. deep_fails (r (x.front ++ other)) (pair_of s) other (x.decides other k);
            viable = ((v.0, b.0), v.1 ++ b.1, (x.front ++ v.1, b.1, v.2, b.3, sym (append_assoc x.front v.1 b.1)));
            free = λ u y parts some. (let f = x.free u y parts some in let c = (then_by f.0).can in ((f.0, c.0), f.1 ++ c.1, true_both (w1 f.0) (w2 c.0) f.2 (c.2 refl), (u ++ f.1, c.1, f.3, c.3, sym (append_assoc u f.1 c.1))));
          }
      stops_of ts at (inr m) =
          let x = one_by.takes ts m.0 m.1 m.2 in
          elim (deep_err (s m.0 m.1) (λ b. give (Some (m.0, b))) at m.3) [
            | inl k ↦ later ts m.0 m.1 at x ((then_by m.0).stops m.1 at k)
            | inr n ↦ (let h = n.3 in absurd cc)
          ]
        where
          later : (ts : List T) (a : A) (mid at : List T) → Found w1 r p ts a mid → Halts w2 (s a) (q a) mid at → Halts (λ x. w1 x.0 && w2 x.1) (r ⊗ s) (λ x. p x.0 ⋅ q x.0 x.1) ts at
          later ts a mid at x y =
              let v = y.viable in
              record {
                front = x.front ++ y.front;
                parts = x.parts ∙ ap (λ (u : List T). x.front ++ u) y.parts ∙ sym (append_assoc x.front y.front at);
                decides = λ other k. ap (r ⊗ s) (append_assoc x.front y.front other) ∙ both_err r s (x.front ++ (y.front ++ other)) a (y.front ++ other) other (x.goes (y.front ++ other) (same_first y.front other at k ∙ ap first (sym y.parts))) (y.decides other k);
                viable = ((a, v.0), v.1, (x.front, y.front ++ v.1, x.fits, v.2, append_assoc x.front y.front v.1));
                free = λ u z e some. elim (parted x.front y.front u z e) [
                  | inl (c, h, k) ↦ (let b = (then_by a).can in ((a, b.0), c ++ b.1, true_both (w1 a) (w2 b.0) x.small (b.2 refl), (x.front, b.1, x.fits, b.3, sym (append_assoc u c b.1) ∙ ap (λ (l : List T). l ++ b.1) (sym h))))
                  | inr (c, h, k) ↦ (let f = y.free c z k some in ((a, f.0), f.1, true_both (w1 a) (w2 f.0) x.small f.2, (x.front, c ++ f.1, x.fits, f.3, ap (λ (l : List T). l ++ f.1) h ∙ append_assoc x.front c f.1)))
                ];
              }

-- ---- a reading without levels, and another

pub deep_then : {T B : Type 0} {bars : T → Bool} {w : B → Bool} {r : Reading T (Unit {0})} {s : Deep T B} {p : Unit {0} → List T → Type 0} {q : B → List T → Type 0} → Reads r p → ReadsDeep false bars w s q → ReadsDeep false bars w (r ⊳ s) (λ b. p tt ⋅ q b)
deep_then {T} {B} {bars} {w} {r} {s} {p} {q} one_by then_by = deep_as (deep_made (λ (v : Unit {0} × B). v.1) (deep_both (deep_plain one_by) (λ _. then_by) (λ a b text h rest c. clear_none (text ++ rest))) (λ v. refl)) (λ ts c. c) (λ b text h. refl) to (λ b text h. ((tt, b), refl, h))
  where
    to : (b : B) (text : List T) → Made (λ (v : Unit {0} × B). v.1) (λ v. p v.0 ⋅ q v.1) b text → (p tt ⋅ q b) text
    to b text (v, e, h) = subst (λ (c : B). (p tt ⋅ q c) text) (sym e) h

and_true : (a : Bool) → a ≡ (a && true)
and_true true = refl
and_true false = refl

pub deep_ended : {T A : Type 0} {early : Bool} {bars : T → Bool} {w : A → Bool} {r : Deep T A} {s : Reading T (Unit {0})} {p : A → List T → Type 0} {q : Unit {0} → List T → Type 0} → ReadsDeep early bars w r p → Reads s q → ((text : List T) → q tt text → (rest : List T) → Clear bars (text ++ rest)) → ReadsDeep early none w (r ⊲ s) (λ a. p a ⋅ q tt)
deep_ended {T} {A} {early} {bars} {w} {r} {s} {p} {q} one_by then_by clears = deep_as (deep_made (λ (v : A × Unit {0}). v.0) (deep_both one_by (λ _. deep_plain then_by) (λ a b text h rest c. clears text h rest)) (λ v. and_true (w v.0))) (λ ts c. c) (λ a text h. refl) to (λ a text h. ((a, tt), refl, h))
  where
    to : (a : A) (text : List T) → Made (λ (v : A × Unit {0}). v.0) (λ v. p v.0 ⋅ q v.1) a text → (p a ⋅ q tt) text
    to a text (v, e, h) = subst (λ (c : A). (p c ⋅ q tt) text) (sym e) h

-- ---- by the first token, or otherwise

abbrev pub Avoids : {T B : Type 0} → (T → Option B) → List T → Type 0
Avoids f [] = Unit {0}
Avoids f (t ∷ ts) = f t ≡ None

pub avoids_first : {T B : Type 0} (f : T → Option B) (ts us : List T) → first us ≡ first ts → Avoids f ts → Avoids f us
avoids_first f ts [] k h = tt
avoids_first f [] (u ∷ us) k h = absurd cc
avoids_first f (t ∷ ts) (u ∷ us) k h = let e : u ≡ t = cc in ap f e ∙ h

module _ {T A B : Type 0} (f : T → Option B) (g : B → Deep T A) (other_way : Deep T A) where
  pub choose_goes : (t : T) (rest : List T) (b : B) → f t ≡ Some b → choose f g other_way (t ∷ rest) ≡ g b rest
  choose_goes t rest b h = rw h refl

  pub choose_stays : (ts : List T) → Avoids f ts → choose f g other_way ts ≡ other_way ts
  choose_stays [] h = refl
  choose_stays (t ∷ rest) h = rw h refl

some_or_none : {B : Type 0} (o : Option B) → ((b : B) × (o ≡ Some b)) ⊎ (o ≡ None)
some_or_none (Some b) = inl (b, refl)
some_or_none None = inr refl

abbrev pub Which : {T B : Type 0} → (T → Option B) → List T → Type 0
Which {T} {B} f ts = ((t : T) × (rest : List T) × (b : B) × (ts ≡ t ∷ rest) × (f t ≡ Some b)) ⊎ Avoids f ts

pub which : {T B : Type 0} (f : T → Option B) (ts : List T) → Which f ts
which f [] = inr tt
which f (t ∷ rest) = elim (some_or_none (f t)) [ inl h ↦ inl (t, rest, h.0, refl, h.1) | inr h ↦ inr h ]

module _ {T A B : Type 0} {f : T → Option B} {bars : T → Bool} {w : A → Bool} {g : B → Deep T A} {other_way : Deep T A} {p : B → A → List T → Type 0} {q : A → List T → Type 0} where
  pub deep_choose : ((b : B) → ReadsDeep false bars w (g b) (p b)) → ReadsDeep false bars w other_way q → ((a : A) (text : List T) → q a text → (rest : List T) → Clear bars rest → Avoids f (text ++ rest)) → ReadsDeep false bars w (choose f g other_way) (Either f p q)
  deep_choose then_by otherwise apart = record {
    takes = λ ts a rest e. takes_of ts a rest e (which f ts);
    cuts = λ ts rest e. cuts_of ts rest e (which f ts);
    again = again_of;
    deep = deep_of;
    stops = λ ts at e. stops_of ts at e (which f ts);
    can = (let c = otherwise.can in (c.0, c.1, c.2, inr c.3));
  }
    where
      headed_of : (b : B) (t : T) (a : A) (rest : List T) → f t ≡ Some b → p b a rest → Either f p q a (t ∷ rest)
      headed_of b t a rest h k = inl (b, (t ∷ [], rest, (t, h, refl), k, refl))

      goes : (t : T) (rest : List T) (b : B) → f t ≡ Some b → choose f g other_way (t ∷ rest) ≡ g b rest
      goes = choose_goes f g other_way

      stays : (ts : List T) → Avoids f ts → choose f g other_way ts ≡ other_way ts
      stays = choose_stays f g other_way

      again_of : (a : A) (text rest : List T) → Either f p q a text → w a ≡ true → Clear bars rest → choose f g other_way (text ++ rest) ≡ Ok (Some a, rest)
      again_of a text rest (inl (b, (front, after, (t, h, is), k, parts))) small clear =
          let e : text ≡ t ∷ after = parts ∙ ap (λ (u : List T). u ++ after) is in
          ap (choose f g other_way) (ap (λ (u : List T). u ++ rest) e) ∙ goes t (after ++ rest) b h ∙ (then_by b).again a after rest k small clear
      again_of a text rest (inr h) small clear = stays (text ++ rest) (apart a text h rest clear) ∙ otherwise.again a text rest h small clear

      deep_of : (a : A) (text rest : List T) → Either f p q a text → w a ≡ false → Clear bars rest → (at : List T) × (choose f g other_way (text ++ rest) ≡ Ok (None, at))
      deep_of a text rest (inl (b, (front, after, (t, h, is), k, parts))) large clear =
          let e : text ≡ t ∷ after = parts ∙ ap (λ (u : List T). u ++ after) is in
          let d = (then_by b).deep a after rest k large clear in
          (d.0, ap (choose f g other_way) (ap (λ (u : List T). u ++ rest) e) ∙ goes t (after ++ rest) b h ∙ d.1)
      deep_of a text rest (inr h) large clear = let d = otherwise.deep a text rest h large clear in (d.0, stays (text ++ rest) (apart a text h rest clear) ∙ d.1)

      takes_of : (ts : List T) (a : A) (rest : List T) → choose f g other_way ts ≡ Ok (Some a, rest) → Which f ts → Found w (choose f g other_way) (Either f p q) ts a rest
      takes_of ts a rest e (inl (t, after, b, is, h)) =
          let x = (then_by b).takes after a rest (sym (goes t after b h) ∙ sym (ap (choose f g other_way) is) ∙ e) in
          record { front = t ∷ x.front; fits = headed_of b t a x.front h x.fits; parts = is ∙ ap (λ (u : List T). t ∷ u) x.parts; small = x.small; goes = λ other k. goes t (x.front ++ other) b h ∙ x.goes other k }
      takes_of ts a rest e (inr h) =
          let x = otherwise.takes ts a rest (sym (stays ts h) ∙ e) in
          record { front = x.front; fits = inr x.fits; parts = x.parts; small = x.small; goes = λ other k. stays (x.front ++ other) (avoids_first f ts (x.front ++ other) (same_first x.front other rest k ∙ ap first (sym x.parts)) h) ∙ x.goes other k }

      cuts_of : (ts rest : List T) → choose f g other_way ts ≡ Ok (None, rest) → Which f ts → Cut false (choose f g other_way) (Either f p q) ts
      cuts_of ts rest e (inl (t, after, b, is, h)) =
          let x = (then_by b).cuts after rest (sym (goes t after b h) ∙ sym (ap (choose f g other_way) is) ∙ e) in
          let v = x.viable in
          record {
            front = t ∷ x.front;
            here = x.here;
            rest = x.rest;
            parts = is ∙ ap (λ (u : List T). t ∷ u) x.parts;
            viable = (v.0, v.1, headed_of b t v.0 ((x.front ++ x.here ∷ []) ++ v.1) h v.2);
            never = λ other a end k. x.never other a end (sym (goes t (x.front ++ other) b h) ∙ k);
            begun = λ j. x.begun (omega arith);
          }
      cuts_of ts rest e (inr h) = by_front (otherwise.cuts ts rest (sym (stays ts h) ∙ e))
        where
          begun_by : (front : List T) (here : T) (tail other : List T) → (front ≡ [] → ⊥) → first (front ++ other) ≡ first (front ++ here ∷ tail)
          begun_by [] here tail other h = absurd (h refl)
          begun_by (z ∷ front) here tail other h = refl

          begun_first : (x : Cut false other_way q ts) (other : List T) → first (x.front ++ other) ≡ first ts
          begun_first x other = begun_by x.front x.here x.rest other (λ i. (let z : false ≡ true = x.begun (rw i (omega arith)) in absurd cc)) ∙ ap first (sym x.parts)

          by_front : Cut false other_way q ts → Cut false (choose f g other_way) (Either f p q) ts
          by_front x = let v = x.viable in record {
            front = x.front;
            here = x.here;
            rest = x.rest;
            parts = x.parts;
            viable = (v.0, v.1, inr v.2);
            never = λ other a end k. x.never other a end (sym (stays (x.front ++ other) (avoids_first f ts (x.front ++ other) (begun_first x other) h)) ∙ k);
            begun = x.begun;
          }

      free_of : {after at : List T} (t : T) (b : B) → f t ≡ Some b → (x : Halts w (g b) (p b) after at) → (u y : List T) → t ∷ x.front ≡ u ++ y → (y ≡ [] → ⊥) → Within w (Either f p q) u
      free_of t b h x [] y e some = let c = otherwise.can in (c.0, c.1, c.2 refl, inr c.3)
      free_of t b h x (z ∷ u) y e some =
          let same : t ≡ z = cc in
          let below : x.front ≡ u ++ y = cc in
          let i = x.free u y below some in
          (i.0, i.1, i.2, subst (λ (s : T). Either f p q i.0 (s ∷ (u ++ i.1))) same (headed_of b t i.0 (u ++ i.1) h i.3))

      stops_of : (ts at : List T) → choose f g other_way ts ≡ Err at → Which f ts → Halts w (choose f g other_way) (Either f p q) ts at
      stops_of ts at e (inl (t, after, b, is, h)) =
          let x = (then_by b).stops after at (sym (goes t after b h) ∙ sym (ap (choose f g other_way) is) ∙ e) in
          let v = x.viable in
          record {
            front = t ∷ x.front;
            parts = is ∙ ap (λ (u : List T). t ∷ u) x.parts;
            decides = λ other k. goes t (x.front ++ other) b h ∙ x.decides other k;
            viable = (v.0, v.1, headed_of b t v.0 (x.front ++ v.1) h v.2);
            free = free_of t b h x;
          }
      stops_of ts at e (inr h) =
          let x = otherwise.stops ts at (sym (stays ts h) ∙ e) in
          let v = x.viable in
          record {
            front = x.front;
            parts = x.parts;
            decides = λ other k. stays (x.front ++ other) (avoids_first f ts (x.front ++ other) (same_first x.front other at k ∙ ap first (sym x.parts)) h) ∙ x.decides other k;
            viable = (v.0, v.1, inr v.2);
            free = λ u y parts some. (let i = x.free u y parts some in (i.0, i.1, i.2, inr i.3));
          }

-- ---- where no level may open any more

module _ {T A B : Type 0} (f : T → Option B) (w : A → Bool) (p : A → List T → Type 0) (large : (a : A) → w a ≡ false) (begins : (a : A) (text : List T) → p a text → (t : T) × (rest : List T) × (b : B) × (text ≡ t ∷ rest) × (f t ≡ Some b)) (can_begin : (t : T) (b : B) → f t ≡ Some b → Viable p (t ∷ [])) (can : (a : A) × (text : List T) × p a text) where
  abbrev refusal : Deep T A
  refusal = choose f (λ _ ts. Ok (None, ts)) (λ ts. Err ts)

  refuses : (t : T) (rest : List T) (b : B) → f t ≡ Some b → refusal (t ∷ rest) ≡ Ok (None, rest)
  refuses t rest b h = choose_goes f (λ _ ts. Ok (None, ts)) (λ ts. Err ts) t rest b h

  faults : (ts : List T) → Avoids f ts → refusal ts ≡ Err ts
  faults ts h = choose_stays f (λ _ us. Ok (None, us)) (λ us. Err us) ts h

  never_some : (ts : List T) (a : A) (rest : List T) → refusal ts ≡ Ok (Some a, rest) → ⊥
  never_some ts a rest e = elim (which f ts) [
    | inl (t, after, b, is, h) ↦ some_not_none a rest after (sym e ∙ ap refusal is ∙ refuses t after b h)
    | inr h ↦ (let k = sym e ∙ faults ts h in absurd cc)
  ]

  pub deep_refused : ReadsDeep true none w refusal p
  deep_refused = record {
    takes = λ ts a rest e. absurd (never_some ts a rest e);
    cuts = λ ts rest e. cuts_of ts rest e (which f ts);
    again = λ a text rest h k clear. (let l : w a ≡ false = large a in absurd cc);
    deep = λ a text rest h k clear. (let x = begins a text h in (x.1 ++ rest, ap refusal (ap (λ (l : List T). l ++ rest) x.3) ∙ refuses x.0 (x.1 ++ rest) x.2 x.4));
    stops = λ ts at e. stops_of ts at e (which f ts);
    can = (can.0, can.1, λ e. absurd cc, can.2);
  }
    where
      cuts_of : (ts rest : List T) → refusal ts ≡ Ok (None, rest) → Which f ts → Cut true refusal p ts
      cuts_of ts rest e (inl (t, after, b, is, h)) = record { front = []; here = t; rest = after; parts = is; viable = can_begin t b h; never = λ other a end k. never_some other a end k; begun = λ k. refl }
      cuts_of ts rest e (inr h) = (let k = sym e ∙ faults ts h in absurd cc)

      stops_of : (ts at : List T) → refusal ts ≡ Err at → Which f ts → Halts w refusal p ts at
      stops_of ts at e (inl (t, after, b, is, h)) = (let k = sym e ∙ ap refusal is ∙ refuses t after b h in absurd cc)
      stops_of ts at e (inr h) = record {
        front = [];
        parts = same;
        decides = λ other k. faults other (avoids_first f ts other (k ∙ ap first (sym same)) h);
        viable = can;
        free = λ u v parts some. absurd (some (last_empty u v parts));
      }
        where
          same : ts ≡ at
          same = let k = sym e ∙ faults ts h in cc

          last_empty : (u v : List T) → [] ≡ u ++ v → v ≡ []
          last_empty [] v k = sym k
          last_empty (z ∷ u) v k = absurd cc

-- ---- by a call, or otherwise

call_rest : {T B : Type 0} (o : Option B) (b : Bool) (us vs : List T) → call_by o b us ≡ None → call_by o b vs ≡ None
call_rest (Some c) true us vs h = absurd cc
call_rest (Some c) false us vs h = refl
call_rest None b us vs h = refl

-- whether a call stands in front is told by two tokens
call_same : {T B : Type 0} (f : T → Option B) (opens : T → Bool) (front other at : List T) → (front ≡ [] → ⊥) → first other ≡ first at → call_at f opens (front ++ at) ≡ None → call_at f opens (front ++ other) ≡ None
call_same f opens [] other at some k h = absurd (some refl)
call_same f opens (t ∷ []) [] at some k h = refl
call_same f opens (t ∷ []) (v ∷ vs) [] some k h = absurd cc
call_same f opens (t ∷ []) (v ∷ vs) (u ∷ us) some k h = let e : u ≡ v = cc in call_rest (f t) (opens v) us vs (sym (ap (λ z. call_by (f t) (opens z) us) e) ∙ h)
call_same f opens (t ∷ u ∷ front) other at some k h = call_rest (f t) (opens u) (front ++ at) (front ++ other) h

call_long : {T B : Type 0} (f : T → Option B) (opens : T → Bool) (front other at : List T) → (length front < 2 → ⊥) → call_at f opens (front ++ at) ≡ None → call_at f opens (front ++ other) ≡ None
call_long f opens [] other at some h = absurd (some (omega arith))
call_long f opens (t ∷ []) other at some h = absurd (some (omega arith))
call_long f opens (t ∷ u ∷ front) other at some h = call_rest (f t) (opens u) (front ++ at) (front ++ other) h

abbrev Call : {T B : Type 0} → (T → Option B) → (T → Bool) → List T → Type 0
Call {T} {B} f opens ts = (t : T) × (u : T) × (rest : List T) × (b : B) × (ts ≡ t ∷ u ∷ rest) × (f t ≡ Some b) × (opens u ≡ true)

which_by : {T B : Type 0} (f : T → Option B) (opens : T → Bool) (t u : T) (rest : List T) (o : Option B) (b : Bool) → f t ≡ o → opens u ≡ b → Call f opens (t ∷ u ∷ rest) ⊎ (call_at f opens (t ∷ u ∷ rest) ≡ None)
which_by f opens t u rest (Some c) true h k = inl (t, u, rest, c, refl, h, k)
which_by f opens t u rest (Some c) false h k = inr (rw (h, k) refl)
which_by f opens t u rest None b h k = inr (rw h refl)

which_call : {T B : Type 0} (f : T → Option B) (opens : T → Bool) (ts : List T) → Call f opens ts ⊎ (call_at f opens ts ≡ None)
which_call f opens [] = inr refl
which_call f opens (t ∷ []) = inr refl
which_call f opens (t ∷ u ∷ rest) = which_by f opens t u rest (f t) (opens u) refl refl

-- a line of a call, or one of q
abbrev pub Called : {T A B : Type 0} → (T → Option B) → (T → Bool) → (B → A → List T → Type 0) → (A → List T → Type 0) → A → List T → Type 0
Called {T} {A} {B} f opens p q a text = ((t : T) × (u : T) × (rest : List T) × (b : B) × (text ≡ t ∷ u ∷ rest) × (f t ≡ Some b) × (opens u ≡ true) × p b a rest) ⊎ q a text

module _ {T A B : Type 0} {f : T → Option B} {opens : T → Bool} {later : Bool} {bars : T → Bool} {w : A → Bool} {g : B → Deep T A} {other_way : Deep T A} {p : B → A → List T → Type 0} {q : A → List T → Type 0} where
  pub deep_called : ((b : B) → ReadsDeep later bars w (g b) (p b)) → ReadsDeep false bars w other_way q
      → ((a : A) (text : List T) → q a text → (rest : List T) → Clear bars rest → call_at f opens (text ++ rest) ≡ None)
      → ((t : T) (b : B) → f t ≡ Some b → (a : A) × (tail : List T) × (w a ≡ true) × q a (t ∷ tail))
      → ((a : A) → q a [] → ⊥)
      → ReadsDeep false bars w (called f opens g other_way) (Called f opens p q)
  deep_called then_by otherwise apart starts some = record {
    takes = λ ts a rest e. takes_of ts a rest e (which_call f opens ts);
    cuts = λ ts rest e. cuts_of ts rest e (which_call f opens ts);
    again = again_of;
    deep = deep_of;
    stops = λ ts at e. stops_of ts at e (which_call f opens ts);
    can = (let c = otherwise.can in (c.0, c.1, c.2, inr c.3));
  }
    where
      goes : (t u : T) (rest : List T) (b : B) → f t ≡ Some b → opens u ≡ true → called f opens g other_way (t ∷ u ∷ rest) ≡ g b rest
      goes t u rest b h k = rw (h, k) refl

      stays : (ts : List T) → call_at f opens ts ≡ None → called f opens g other_way ts ≡ other_way ts
      stays ts h = ap (λ (o : Option (B × List T)). called_by o g (other_way ts)) h

      again_of : (a : A) (text rest : List T) → Called f opens p q a text → w a ≡ true → Clear bars rest → called f opens g other_way (text ++ rest) ≡ Ok (Some a, rest)
      again_of a text rest (inl (t, u, after, b, is, h, k, s)) small clear = ap (called f opens g other_way) (ap (λ (z : List T). z ++ rest) is) ∙ goes t u (after ++ rest) b h k ∙ (then_by b).again a after rest s small clear
      again_of a text rest (inr h) small clear = stays (text ++ rest) (apart a text h rest clear) ∙ otherwise.again a text rest h small clear

      deep_of : (a : A) (text rest : List T) → Called f opens p q a text → w a ≡ false → Clear bars rest → (at : List T) × (called f opens g other_way (text ++ rest) ≡ Ok (None, at))
      deep_of a text rest (inl (t, u, after, b, is, h, k, s)) large clear =
          let d = (then_by b).deep a after rest s large clear in
          (d.0, ap (called f opens g other_way) (ap (λ (z : List T). z ++ rest) is) ∙ goes t u (after ++ rest) b h k ∙ d.1)
      deep_of a text rest (inr h) large clear = let d = otherwise.deep a text rest h large clear in (d.0, stays (text ++ rest) (apart a text h rest clear) ∙ d.1)

      takes_of : (ts : List T) (a : A) (rest : List T) → called f opens g other_way ts ≡ Ok (Some a, rest) → Call f opens ts ⊎ (call_at f opens ts ≡ None) → Found w (called f opens g other_way) (Called f opens p q) ts a rest
      takes_of ts a rest e (inl (t, u, after, b, is, h, k)) =
          let x = (then_by b).takes after a rest (sym (goes t u after b h k) ∙ sym (ap (called f opens g other_way) is) ∙ e) in
          record { front = t ∷ u ∷ x.front; fits = inl (t, u, x.front, b, refl, h, k, x.fits); parts = is ∙ ap (λ (z : List T). t ∷ u ∷ z) x.parts; small = x.small; goes = λ other j. goes t u (x.front ++ other) b h k ∙ x.goes other j }
      takes_of ts a rest e (inr h) =
          let x = otherwise.takes ts a rest (sym (stays ts h) ∙ e) in
          record {
            front = x.front;
            fits = inr x.fits;
            parts = x.parts;
            small = x.small;
            goes = λ other j. stays (x.front ++ other) (call_same f opens x.front other rest (λ z. some a (subst (λ (l : List T). q a l) z x.fits)) j (ap (call_at f opens) (sym x.parts) ∙ h)) ∙ x.goes other j;
          }

      cuts_of : (ts rest : List T) → called f opens g other_way ts ≡ Ok (None, rest) → Call f opens ts ⊎ (call_at f opens ts ≡ None) → Cut false (called f opens g other_way) (Called f opens p q) ts
      cuts_of ts rest e (inl (t, u, after, b, is, h, k)) =
          let x = (then_by b).cuts after rest (sym (goes t u after b h k) ∙ sym (ap (called f opens g other_way) is) ∙ e) in
          let v = x.viable in
          record {
            front = t ∷ u ∷ x.front;
            here = x.here;
            rest = x.rest;
            parts = is ∙ ap (λ (z : List T). t ∷ u ∷ z) x.parts;
            viable = (v.0, v.1, inl (t, u, (x.front ++ x.here ∷ []) ++ v.1, b, refl, h, k, v.2));
            never = λ other a end j. x.never other a end (sym (goes t u (x.front ++ other) b h k) ∙ j);
            begun = λ j. absurd (omega arith);
          }
      cuts_of ts rest e (inr h) = by_front (otherwise.cuts ts rest (sym (stays ts h) ∙ e))
        where
          long : (x : Cut false other_way q ts) → length x.front < 2 → ⊥
          long x lt = (let z : false ≡ true = x.begun lt in absurd cc)

          by_front : Cut false other_way q ts → Cut false (called f opens g other_way) (Called f opens p q) ts
          by_front x = let v = x.viable in record {
            front = x.front;
            here = x.here;
            rest = x.rest;
            parts = x.parts;
            viable = (v.0, v.1, inr v.2);
            never = λ other a end j. x.never other a end (sym (stays (x.front ++ other) (call_long f opens x.front other (x.here ∷ x.rest) (λ lt. long x lt) (ap (call_at f opens) (sym x.parts) ∙ h))) ∙ j);
            begun = x.begun;
          }

      free_of : {after at : List T} (t u : T) (b : B) → f t ≡ Some b → opens u ≡ true → (x : Halts w (g b) (p b) after at) → (y z : List T) → t ∷ u ∷ x.front ≡ y ++ z → (z ≡ [] → ⊥) → Within w (Called f opens p q) y
      free_of t u b h k x [] z e more = let c = starts t b h in (c.0, t ∷ c.1, c.2, inr c.3)
      free_of t u b h k x (s ∷ []) z e more =
          let same : t ≡ s = cc in
          let c = starts t b h in
          (c.0, c.1, c.2, inr (subst (λ (l : T). q c.0 (l ∷ c.1)) same c.3))
      free_of t u b h k x (s ∷ r ∷ y) z e more =
          let same : t ≡ s = cc in
          let second : u ≡ r = cc in
          let below : x.front ≡ y ++ z = cc in
          let i = x.free y z below more in
          (i.0, i.1, i.2, inl (s, r, y ++ i.1, b, refl, sym (ap f same) ∙ h, sym (ap opens second) ∙ k, i.3))

      at_once : (ts at : List T) (x : Halts w other_way q ts at) → (other : List T) → x.front ≡ [] → first other ≡ first at → call_at f opens other ≡ None
      at_once ts at x other e k = elim (which_call f opens other) [
        | inl (t, u, rest, b, is, m, n) ↦ absurd (refused t b m (ap first (sym is) ∙ k))
        | inr m ↦ m
      ]
        where
          refused : (t : T) (b : B) → f t ≡ Some b → Some t ≡ first at → ⊥
          refused t b m j =
              let c = starts t b m in
              let yes : other_way (t ∷ c.1) ≡ Ok (Some c.0, []) = ap other_way (sym (append-nil (t ∷ c.1))) ∙ otherwise.again c.0 (t ∷ c.1) [] c.3 c.2 tt in
              let no : other_way (t ∷ c.1) ≡ Err (t ∷ c.1) = ap (λ (l : List T). other_way (l ++ t ∷ c.1)) (sym e) ∙ x.decides (t ∷ c.1) j in
              absurd cc

      decided : (ts at : List T) (x : Halts w other_way q ts at) → call_at f opens ts ≡ None → (other : List T) → first other ≡ first at → call_at f opens (x.front ++ other) ≡ None
      decided ts at x h other k = by_front x.front refl
        where
          by_front : (l : List T) → x.front ≡ l → call_at f opens (x.front ++ other) ≡ None
          by_front [] e = ap (λ (l : List T). call_at f opens (l ++ other)) e ∙ at_once ts at x other e k
          by_front (z ∷ l) e = call_same f opens x.front other at (λ n. (let m : z ∷ l ≡ [] = sym e ∙ n in absurd cc)) k (ap (call_at f opens) (sym x.parts) ∙ h)

      stops_of : (ts at : List T) → called f opens g other_way ts ≡ Err at → Call f opens ts ⊎ (call_at f opens ts ≡ None) → Halts w (called f opens g other_way) (Called f opens p q) ts at
      stops_of ts at e (inl (t, u, after, b, is, h, k)) =
          let x = (then_by b).stops after at (sym (goes t u after b h k) ∙ sym (ap (called f opens g other_way) is) ∙ e) in
          let v = x.viable in
          record {
            front = t ∷ u ∷ x.front;
            parts = is ∙ ap (λ (z : List T). t ∷ u ∷ z) x.parts;
            decides = λ other j. goes t u (x.front ++ other) b h k ∙ x.decides other j;
            viable = (v.0, v.1, inl (t, u, x.front ++ v.1, b, refl, h, k, v.2));
            free = free_of t u b h k x;
          }
      stops_of ts at e (inr h) =
          let x = otherwise.stops ts at (sym (stays ts h) ∙ e) in
          let v = x.viable in
          record {
            front = x.front;
            parts = x.parts;
            decides = λ other j. stays (x.front ++ other) (decided ts at x h other j) ∙ x.decides other j;
            viable = (v.0, v.1, inr v.2);
            free = λ u y parts more. (let i = x.free u y parts more in (i.0, i.1, i.2, inr i.3));
          }

-- ---- items, each with a first token that is one of these

abbrev pub Round : {T A B : Type 0} → (T → Option B) → (B → A → List T → Type 0) → A → List T → Type 0
Round {T} {A} {B} f p a text = (b : B) × (Token f b ⋅ p b a) text

pub next_some : {T B : Type 0} (f : T → Option B) (ts : List T) (b : B) (behind : List T) → next_by f ts ≡ Some (b, behind) → (t : T) × (ts ≡ t ∷ behind) × (f t ≡ Some b)
next_some f [] b behind h = absurd cc
next_some {T} {B} f (t ∷ ts) b behind h = let x = by_test (f t) refl h in (t, x.0, x.1)
  where
    by_test : (o : Option B) → f t ≡ o → next_made o ts ≡ Some (b, behind) → (t ∷ ts ≡ t ∷ behind) × (f t ≡ Some b)
    by_test (Some c) e k = let p : (let v : B × List T = (c, ts) in v) ≡ (b, behind) = cc in (ap (λ (v : B × List T). t ∷ v.1) p, e ∙ ap (λ (v : B × List T). Some v.0) p)
    by_test None e k = absurd cc

pub next_none : {T B : Type 0} (f : T → Option B) (ts : List T) → next_by f ts ≡ None → Avoids f ts
next_none f [] h = tt
next_none {T} {B} f (t ∷ ts) h = by_test (f t) refl h
  where
    by_test : (o : Option B) → f t ≡ o → next_made o ts ≡ None → f t ≡ None
    by_test (Some c) e k = absurd cc
    by_test None e k = e

abbrev pub all_small : {A : Type 0} → (A → Bool) → List A → Bool
all_small w xs = list_all w xs

module _ {T A B : Type 0} {f : T → Option B} {bars bars2 : T → Bool} {w : A → Bool} {item : B → Deep T A} {p : B → A → List T → Type 0} (by : (b : B) → ReadsDeep false bars w (item b) (p b)) (between : (t : T) (b : B) → f t ≡ Some b → bars t ≡ false) (ends : (ts : List T) → Clear bars2 ts → Avoids f ts × Clear bars ts) where
  shorter : (b : B) (ts : List T) (a : A) (rest : List T) → item b ts ≡ Ok (Some a, rest) → length rest < suc (length ts)
  shorter b ts a rest e =
      let x = (by b).takes ts a rest e in
      let len : length ts ≡ length x.front + length rest = ap length x.parts ∙ length-append x.front rest in
      omega arith

  onto_by : (a : A) (mid : List T) (m n : ℕ) → repeat_in m f item mid ≡ repeat_in n f item mid → onto a (repeat_in m f item mid) ≡ onto a (repeat_in n f item mid)
  onto_by a mid m n e = ap (onto a) e

  enough : (m n : ℕ) (ts : List T) → length ts < m → length ts < n → repeat_in m f item ts ≡ repeat_in n f item ts
  enough zero n ts h k = absurd (omega arith)
  enough (suc m) zero ts h k = absurd (omega arith)
  enough (suc m) (suc n) [] h k = refl
  enough (suc m) (suc n) (t ∷ ts) h k = by_test (λ rest lt. enough m n rest (omega arith) (omega arith)) (f t) refl
    where
      by_item : ((rest : List T) → length rest < suc (length ts) → repeat_in m f item rest ≡ repeat_in n f item rest) → (b : B) (o : Outcome T (Option A)) → item b ts ≡ o → then_deep o (λ a rest. onto a (repeat_in m f item rest)) ≡ then_deep o (λ a rest. onto a (repeat_in n f item rest))
      by_item more b (Ok (Some a, rest)) e = onto_by a rest m n (more rest (shorter b ts a rest e))
      by_item more b (Ok (None, rest)) e = refl
      by_item more b (Err at) e = refl

      by_test : ((rest : List T) → length rest < suc (length ts) → repeat_in m f item rest ≡ repeat_in n f item rest) → (o : Option B) → f t ≡ o → repeat_in (suc m) f item (t ∷ ts) ≡ repeat_in (suc n) f item (t ∷ ts)
      by_test more (Some b) e = rw e (by_item more b (item b ts) refl)
      by_test more None e = rw e refl

  pub repeat_ends : (ts : List T) → Avoids f ts → repeat f item ts ≡ Ok (Some [], ts)
  unfolding repeat
  repeat_ends [] h = refl
  repeat_ends (t ∷ ts) h = rw h refl

  pub repeat_goes : (t : T) (ts : List T) (b : B) → f t ≡ Some b → repeat f item (t ∷ ts) ≡ then_deep (item b ts) (λ a rest. onto a (repeat f item rest))
  unfolding repeat
  repeat_goes t ts b h = rw h (by_item (item b ts) refl)
    where
      by_item : (o : Outcome T (Option A)) → item b ts ≡ o → then_deep o (λ a rest. onto a (repeat_in (suc (length ts)) f item rest)) ≡ then_deep o (λ a rest. onto a (repeat_in (suc (length rest)) f item rest))
      by_item (Ok (Some a, rest)) e = onto_by a rest (suc (length ts)) (suc (length rest)) (enough (suc (length ts)) (suc (length rest)) rest (shorter b ts a rest e) (omega arith))
      by_item (Ok (None, rest)) e = refl
      by_item (Err at) e = refl

  pub repeat_steps : (t : T) (ts : List T) (b : B) (a : A) (mid : List T) → f t ≡ Some b → item b ts ≡ Ok (Some a, mid) → repeat f item (t ∷ ts) ≡ onto a (repeat f item mid)
  repeat_steps t ts b a mid h e = repeat_goes t ts b h ∙ deep_goes (item b ts) (λ c rest. onto c (repeat f item rest)) a mid e

  round_of : (t : T) (b : B) (a : A) (text : List T) → f t ≡ Some b → p b a text → Round f p a (t ∷ text)
  round_of t b a text h k = (b, (t ∷ [], text, (t, h, refl), k, refl))

  pub each_clear : (xs : List A) (text rest : List T) → Each (Round f p) xs text → Clear bars2 rest → Clear bars (text ++ rest)
  each_clear [] text rest h clear = subst (λ (l : List T). Clear bars (l ++ rest)) (sym h) (ends rest clear).1
  each_clear (a ∷ xs) text rest (front, after, (b, (one_t, x, (t, h, is), k, parts1)), more, parts) clear =
      let e : text ≡ t ∷ (x ++ after) = parts ∙ ap (λ (l : List T). l ++ after) (parts1 ∙ ap (λ (l : List T). l ++ x) is) in
      subst (λ (l : List T). Clear bars (l ++ rest)) (sym e) (between t b h)

  each_parts : (t : T) (one_t x front after text rest : List T) → text ≡ front ++ after → front ≡ one_t ++ x → one_t ≡ t ∷ [] → text ++ rest ≡ t ∷ (x ++ (after ++ rest))
  each_parts t one_t x front after text rest parts parts1 is = ap (λ (l : List T). l ++ rest) (parts ∙ ap (λ (l : List T). l ++ after) (parts1 ∙ ap (λ (l : List T). l ++ x) is)) ∙ ap (λ (l : List T). t ∷ l) (append_assoc x after rest)

  repeat_again : (xs : List A) (text rest : List T) → Each (Round f p) xs text → all_small w xs ≡ true → Clear bars2 rest → repeat f item (text ++ rest) ≡ Ok (Some xs, rest)
  repeat_again [] text rest h small clear = ap (λ (l : List T). repeat f item (l ++ rest)) h ∙ repeat_ends rest (ends rest clear).0
  repeat_again (a ∷ xs) text rest (front, after, (b, (one_t, x, (t, h, is), k, parts1)), more, parts) small clear =
      let both = both_true (w a) (all_small w xs) small in
      let below : repeat f item (after ++ rest) ≡ Ok (Some xs, rest) = repeat_again xs after rest more both.1 clear in
      ap (repeat f item) (each_parts t one_t x front after text rest parts parts1 is)
      ∙ repeat_steps t (x ++ (after ++ rest)) b a (after ++ rest) h ((by b).again a x (after ++ rest) k both.0 (each_clear xs after rest more clear))
      ∙ ap (onto a) below

  repeat_deep : (xs : List A) (text rest : List T) → Each (Round f p) xs text → all_small w xs ≡ false → Clear bars2 rest → (at : List T) × (repeat f item (text ++ rest) ≡ Ok (None, at))
  repeat_deep [] text rest h large clear = absurd cc
  repeat_deep (a ∷ xs) text rest (front, after, (b, (one_t, x, (t, h, is), k, parts1)), more, parts) large clear =
      by_which (λ lg. repeat_deep xs after rest more lg clear) (one_false (w a) (all_small w xs) large)
    where
      by_which : (all_small w xs ≡ false → (at : List T) × (repeat f item (after ++ rest) ≡ Ok (None, at))) → (w a ≡ false) ⊎ ((w a ≡ true) × (all_small w xs ≡ false)) → (at : List T) × (repeat f item (text ++ rest) ≡ Ok (None, at))
      by_which below (inl e) =
          let d = (by b).deep a x (after ++ rest) k e (each_clear xs after rest more clear) in
          (d.0, ap (repeat f item) (each_parts t one_t x front after text rest parts parts1 is) ∙ repeat_goes t (x ++ (after ++ rest)) b h ∙ deep_gone (item b (x ++ (after ++ rest))) (λ c end. onto c (repeat f item end)) d.0 d.1)
      by_which below (inr e) =
          let d = below e.1 in (
            d.0,
            ap (repeat f item) (each_parts t one_t x front after text rest parts parts1 is)
                ∙ repeat_steps t (x ++ (after ++ rest)) b a (after ++ rest) h ((by b).again a x (after ++ rest) k e.0 (each_clear xs after rest more clear))
                ∙ deep_gone (repeat f item (after ++ rest)) (λ ys. give (Some (a ∷ ys))) d.0 d.1,
          )

  -- the last item, or one with others behind it
  last_round : (t : T) (b : B) (a : A) (text : List T) → f t ≡ Some b → p b a text → Each (Round f p) (a ∷ []) (t ∷ text)
  last_round t b a text h k = (t ∷ text, [], round_of t b a text h k, refl, sym (append-nil (t ∷ text)))

  more_rounds : (t : T) (b : B) (a : A) (xs : List A) (front text : List T) → f t ≡ Some b → p b a front → Each (Round f p) xs text → Each (Round f p) (a ∷ xs) (t ∷ (front ++ text))
  more_rounds t b a xs front text h k more = (t ∷ front, text, round_of t b a front h k, more, refl)

  repeat_onto : (a : A) (mid : List T) (xs : List A) (rest : List T) → onto a (repeat f item mid) ≡ Ok (Some xs, rest) → (ys : List A) × (repeat f item mid ≡ Ok (Some ys, rest)) × (a ∷ ys ≡ xs)
  repeat_onto a mid xs rest e =
      let m = deep_some (repeat f item mid) (λ ys. give (Some (a ∷ ys))) xs rest e in
      (m.0, m.2 ∙ ap (λ (l : List T). Ok (Some m.0, l)) (ok_rest (Some (a ∷ m.0)) (Some xs) m.1 rest m.3), some_is (a ∷ m.0) xs m.1 rest m.3)

  ended_at : (ts : List T) → Avoids f ts → Found (all_small w) (repeat f item) (Each (Round f p)) ts [] ts
  ended_at ts h = record { front = []; fits = refl; parts = refl; small = refl; goes = λ other k. repeat_ends other (avoids_first f ts other k h) }

  repeat_takes : (n : ℕ) (ts : List T) (xs : List A) (rest : List T) → length ts < n → repeat f item ts ≡ Ok (Some xs, rest) → Found (all_small w) (repeat f item) (Each (Round f p)) ts xs rest
  repeat_takes zero ts xs rest lt e = absurd (omega arith)
  repeat_takes (suc n) ts xs rest lt e = by_which (λ mid ys end l k. repeat_takes n mid ys end l k) (which f ts)
    where
      joined : (t : T) (after : List T) (b : B) (a : A) (mid : List T) (ys : List A) → ts ≡ t ∷ after → f t ≡ Some b → Found w (item b) (p b) after a mid → Found (all_small w) (repeat f item) (Each (Round f p)) mid ys rest → Found (all_small w) (repeat f item) (Each (Round f p)) ts (a ∷ ys) rest
      joined t after b a mid ys is h x y = record {
        front = t ∷ (x.front ++ y.front);
        fits = more_rounds t b a ys x.front y.front h x.fits y.fits;
        parts = is ∙ ap (λ (l : List T). t ∷ l) (x.parts ∙ ap (λ (l : List T). x.front ++ l) y.parts ∙ sym (append_assoc x.front y.front rest));
        small = true_both (w a) (all_small w ys) x.small y.small;
        goes = λ other k. ap (λ (l : List T). repeat f item (t ∷ l)) (append_assoc x.front y.front other)
            ∙ repeat_steps t (x.front ++ (y.front ++ other)) b a (y.front ++ other) h (x.goes (y.front ++ other) (same_first y.front other rest k ∙ ap first (sym y.parts)))
            ∙ ap (onto a) (y.goes other k);
      }

      by_which : ((mid : List T) (ys : List A) (end : List T) → length mid < n → repeat f item mid ≡ Ok (Some ys, end) → Found (all_small w) (repeat f item) (Each (Round f p)) mid ys end) → Which f ts → Found (all_small w) (repeat f item) (Each (Round f p)) ts xs rest
      by_which below (inr h) =
          let k = sym (repeat_ends ts h) ∙ e in
          let value : [] ≡ xs = some_is [] xs ts rest k in
          let left : ts ≡ rest = ok_rest (Some []) (Some xs) ts rest k in
          subst (λ (ys : List A). Found (all_small w) (repeat f item) (Each (Round f p)) ts ys rest) value (subst (λ (l : List T). Found (all_small w) (repeat f item) (Each (Round f p)) ts [] l) left (ended_at ts h))
      by_which below (inl (t, after, b, is, h)) =
          let m = deep_some (item b after) (λ c end. onto c (repeat f item end)) xs rest (sym (repeat_goes t after b h) ∙ sym (ap (repeat f item) is) ∙ e) in
          let o = repeat_onto m.0 m.1 xs rest m.3 in
          let len : length ts ≡ suc (length after) = ap length is ∙ omega arith in
          let y = below m.1 o.0 rest (omega (arith, shorter b after m.0 m.1 m.2)) o.1 in
          subst (λ (ys : List A). Found (all_small w) (repeat f item) (Each (Round f p)) ts ys rest) o.2 (joined t after b m.0 m.1 o.0 is h ((by b).takes after m.0 m.1 m.2) y)

  repeat_none : (a : A) (mid rest : List T) → onto a (repeat f item mid) ≡ Ok (None, rest) → repeat f item mid ≡ Ok (None, rest)
  repeat_none a mid rest e = elim (deep_none (repeat f item mid) (λ ys. give (Some (a ∷ ys))) rest e) [
    | inl h ↦ h
    | inr m ↦ absurd (some_not_none (a ∷ m.0) m.1 rest m.3)
  ]

  repeat_err : (a : A) (mid at : List T) → onto a (repeat f item mid) ≡ Err at → repeat f item mid ≡ Err at
  repeat_err a mid at e = elim (deep_err (repeat f item mid) (λ ys. give (Some (a ∷ ys))) at e) [
    | inl h ↦ h
    | inr m ↦ (let k = m.3 in absurd cc)
  ]

  repeat_cuts : (n : ℕ) (ts rest : List T) → length ts < n → repeat f item ts ≡ Ok (None, rest) → Cut false (repeat f item) (Each (Round f p)) ts
  repeat_cuts zero ts rest lt e = absurd (omega arith)
  repeat_cuts (suc n) ts rest lt e = by_which (λ mid end l k. repeat_cuts n mid end l k) (which f ts)
    where
      here_cut : (t : T) (after : List T) (b : B) → ts ≡ t ∷ after → f t ≡ Some b → Cut false (item b) (p b) after → Cut false (repeat f item) (Each (Round f p)) ts
      here_cut t after b is h x = let v = x.viable in record {
        front = t ∷ x.front;
        here = x.here;
        rest = x.rest;
        parts = is ∙ ap (λ (l : List T). t ∷ l) x.parts;
        viable = (v.0 ∷ [], v.1, last_round t b v.0 ((x.front ++ x.here ∷ []) ++ v.1) h v.2);
        never = λ other xs end k. (let m = deep_some (item b (x.front ++ other)) (λ c l. onto c (repeat f item l)) xs end (sym (repeat_goes t (x.front ++ other) b h) ∙ k) in x.never other m.0 m.1 m.2);
        begun = λ j. x.begun (omega arith);
      }

      later_cut : (t : T) (after : List T) (b : B) (a : A) (mid : List T) → ts ≡ t ∷ after → f t ≡ Some b → Found w (item b) (p b) after a mid → Cut false (repeat f item) (Each (Round f p)) mid → Cut false (repeat f item) (Each (Round f p)) ts
      later_cut t after b a mid is h x y = let v = y.viable in record {
        front = t ∷ (x.front ++ y.front);
        here = y.here;
        rest = y.rest;
        parts = is ∙ ap (λ (l : List T). t ∷ l) (x.parts ∙ ap (λ (l : List T). x.front ++ l) y.parts ∙ sym (append_assoc x.front y.front (y.here ∷ y.rest)));
        viable = (a ∷ v.0, v.1, subst (λ (l : List T). Each (Round f p) (a ∷ v.0) (t ∷ l)) (sym (ap (λ (l : List T). l ++ v.1) (append_assoc x.front y.front (y.here ∷ [])) ∙ append_assoc x.front (y.front ++ y.here ∷ []) v.1)) (more_rounds t b a v.0 x.front ((y.front ++ y.here ∷ []) ++ v.1) h x.fits v.2));
        never = λ other xs end k. (
            let went : item b (x.front ++ (y.front ++ other)) ≡ Ok (Some a, y.front ++ other) = x.goes (y.front ++ other) (long_first y.front other (y.here ∷ y.rest) (λ i. not_empty y i) ∙ ap first (sym y.parts)) in
            let m = repeat_onto a (y.front ++ other) xs end (sym (repeat_steps t (x.front ++ (y.front ++ other)) b a (y.front ++ other) h went) ∙ ap (λ (l : List T). repeat f item (t ∷ l)) (sym (append_assoc x.front y.front other)) ∙ k) in
            y.never other m.0 end m.1);
        begun = λ j. y.begun (omega (arith, length-append x.front y.front));
      }
        where
          not_empty : (y : Cut false (repeat f item) (Each (Round f p)) mid) → y.front ≡ [] → ⊥
          not_empty y i = (let z : false ≡ true = y.begun (rw i (omega arith)) in absurd cc)

          long_first : (front other at : List T) → (front ≡ [] → ⊥) → first (front ++ other) ≡ first (front ++ at)
          long_first [] other at i = absurd (i refl)
          long_first (z ∷ front) other at i = refl

      by_which : ((mid end : List T) → length mid < n → repeat f item mid ≡ Ok (None, end) → Cut false (repeat f item) (Each (Round f p)) mid) → Which f ts → Cut false (repeat f item) (Each (Round f p)) ts
      by_which below (inr h) = absurd (some_not_none [] ts rest (sym (repeat_ends ts h) ∙ e))
      by_which below (inl (t, after, b, is, h)) = by_item (deep_none (item b after) (λ c end. onto c (repeat f item end)) rest (sym (repeat_goes t after b h) ∙ sym (ap (repeat f item) is) ∙ e))
        where
          by_item : (item b after ≡ Ok (None, rest)) ⊎ ((a : A) × (mid : List T) × (item b after ≡ Ok (Some a, mid)) × (onto a (repeat f item mid) ≡ Ok (None, rest))) → Cut false (repeat f item) (Each (Round f p)) ts
          by_item (inl k) = here_cut t after b is h ((by b).cuts after rest k)
          by_item (inr (a, mid, k, m)) =
              let len : length ts ≡ suc (length after) = ap length is ∙ omega arith in
              later_cut t after b a mid is h ((by b).takes after a mid k) (below mid rest (omega (arith, shorter b after a mid k)) (repeat_none a mid rest m))

  repeat_stops : (n : ℕ) (ts at : List T) → length ts < n → repeat f item ts ≡ Err at → Halts (all_small w) (repeat f item) (Each (Round f p)) ts at
  repeat_stops zero ts at lt e = absurd (omega arith)
  repeat_stops (suc n) ts at lt e = by_which (λ mid end l k. repeat_stops n mid end l k) (which f ts)
    where
      Free : List T → Type 0
      Free front = (u v : List T) → front ≡ u ++ v → (v ≡ [] → ⊥) → Within (all_small w) (Each (Round f p)) u

      here_free : (t : T) (after : List T) (b : B) → f t ≡ Some b → (x : Halts w (item b) (p b) after at) → Free (t ∷ x.front)
      here_free t after b h x [] v parts some = ([], [], refl, refl)
      here_free t after b h x (s ∷ u) v parts some =
          let same : t ≡ s = cc in
          let below : x.front ≡ u ++ v = cc in
          let i = x.free u v below some in
          (i.0 ∷ [], i.1, true_both (w i.0) true i.2 refl, last_round s b i.0 (u ++ i.1) (sym (ap f same) ∙ h) i.3)

      here_stop : (t : T) (after : List T) (b : B) → ts ≡ t ∷ after → f t ≡ Some b → Halts w (item b) (p b) after at → Halts (all_small w) (repeat f item) (Each (Round f p)) ts at
      here_stop t after b is h x = let v = x.viable in record {
        front = t ∷ x.front;
        parts = is ∙ ap (λ (l : List T). t ∷ l) x.parts;
        decides = λ other k. repeat_goes t (x.front ++ other) b h ∙ deep_fails (item b (x.front ++ other)) (λ c end. onto c (repeat f item end)) other (x.decides other k);
        viable = (v.0 ∷ [], v.1, last_round t b v.0 (x.front ++ v.1) h v.2);
        free = here_free t after b h x;
      }

      later_free : (t : T) (after : List T) (b : B) (a : A) (mid : List T) → f t ≡ Some b → (x : Found w (item b) (p b) after a mid) → (y : Halts (all_small w) (repeat f item) (Each (Round f p)) mid at) → Free (t ∷ (x.front ++ y.front))
      later_free t after b a mid h x y [] v parts some = ([], [], refl, refl)
      later_free t after b a mid h x y (s ∷ u) v parts some =
          let same : t ≡ s = cc in
          let below : x.front ++ y.front ≡ u ++ v = cc in
          elim (parted x.front y.front u v below) [
            | inl (c, j, k) ↦ (a ∷ [], c, true_both (w a) true x.small refl, last_round s b a (u ++ c) (sym (ap f same) ∙ h) (subst (λ (l : List T). p b a l) j x.fits))
            | inr (c, j, k) ↦ (let i = y.free c v k some in (a ∷ i.0, i.1, true_both (w a) (all_small w i.0) x.small i.2, subst (λ (l : List T). Each (Round f p) (a ∷ i.0) (s ∷ l)) (sym (ap (λ (l : List T). l ++ i.1) j ∙ append_assoc x.front c i.1)) (more_rounds s b a i.0 x.front (c ++ i.1) (sym (ap f same) ∙ h) x.fits i.3)))
          ]

      later_stop : (t : T) (after : List T) (b : B) (a : A) (mid : List T) → ts ≡ t ∷ after → f t ≡ Some b → Found w (item b) (p b) after a mid → Halts (all_small w) (repeat f item) (Each (Round f p)) mid at → Halts (all_small w) (repeat f item) (Each (Round f p)) ts at
      later_stop t after b a mid is h x y = let v = y.viable in record {
        front = t ∷ (x.front ++ y.front);
        parts = is ∙ ap (λ (l : List T). t ∷ l) (x.parts ∙ ap (λ (l : List T). x.front ++ l) y.parts ∙ sym (append_assoc x.front y.front at));
        decides = λ other k. ap (λ (l : List T). repeat f item (t ∷ l)) (append_assoc x.front y.front other)
            ∙ repeat_steps t (x.front ++ (y.front ++ other)) b a (y.front ++ other) h (x.goes (y.front ++ other) (same_first y.front other at k ∙ ap first (sym y.parts)))
            ∙ deep_fails (repeat f item (y.front ++ other)) (λ ys. give (Some (a ∷ ys))) other (y.decides other k);
        viable = (a ∷ v.0, v.1, subst (λ (l : List T). Each (Round f p) (a ∷ v.0) (t ∷ l)) (sym (append_assoc x.front y.front v.1)) (more_rounds t b a v.0 x.front (y.front ++ v.1) h x.fits v.2));
        free = later_free t after b a mid h x y;
      }

      by_which : ((mid end : List T) → length mid < n → repeat f item mid ≡ Err end → Halts (all_small w) (repeat f item) (Each (Round f p)) mid end) → Which f ts → Halts (all_small w) (repeat f item) (Each (Round f p)) ts at
      by_which below (inr h) = (let k = sym (repeat_ends ts h) ∙ e in absurd cc)
      by_which below (inl (t, after, b, is, h)) = by_item (deep_err (item b after) (λ c end. onto c (repeat f item end)) at (sym (repeat_goes t after b h) ∙ sym (ap (repeat f item) is) ∙ e))
        where
          by_item : (item b after ≡ Err at) ⊎ ((a : A) × (mid : List T) × (item b after ≡ Ok (Some a, mid)) × (onto a (repeat f item mid) ≡ Err at)) → Halts (all_small w) (repeat f item) (Each (Round f p)) ts at
          by_item (inl k) = here_stop t after b is h ((by b).stops after at k)
          by_item (inr (a, mid, k, m)) =
              let len : length ts ≡ suc (length after) = ap length is ∙ omega arith in
              later_stop t after b a mid is h ((by b).takes after a mid k) (below mid at (omega (arith, shorter b after a mid k)) (repeat_err a mid at m))

  pub deep_repeat : ReadsDeep false bars2 (all_small w) (repeat f item) (Each (Round f p))
  deep_repeat = record {
    takes = λ ts xs rest e. repeat_takes (suc (length ts)) ts xs rest (omega arith) e;
    cuts = λ ts rest e. repeat_cuts (suc (length ts)) ts rest (omega arith) e;
    again = repeat_again;
    deep = repeat_deep;
    stops = λ ts at e. repeat_stops (suc (length ts)) ts at (omega arith) e;
    can = ([], [], λ e. refl, refl);
  }

  -- what a loop over the items does with each of them
  pub loop_ends : (before : List A) (ts : List T) → next_by f ts ≡ None → more_onto before (repeat f item) ts ≡ Ok (Some before, ts)
  loop_ends before ts h = deep_goes (repeat f item ts) (λ more. give (Some (before ++ more))) [] ts (repeat_ends ts (next_none f ts h)) ∙ ap (λ (xs : List A). Ok (Some xs, ts)) (append-nil before)

  pub loop_goes : (before : List A) (ts : List T) (b : B) (behind : List T) (a : A) (after : List T) → next_by f ts ≡ Some (b, behind) → item b behind ≡ Ok (Some a, after) → more_onto before (repeat f item) ts ≡ more_onto (before ++ a ∷ []) (repeat f item) after
  loop_goes before ts b behind a after h e =
      let n = next_some f ts b behind h in
      let same : repeat f item ts ≡ onto a (repeat f item after) = ap (repeat f item) n.1 ∙ repeat_steps n.0 behind b a after n.2 e in
      ap (λ (o : Outcome T (Option (List A))). then_deep o (λ more. give (Some (before ++ more)))) same ∙ regroup (repeat f item after)
    where
      regroup : (o : Outcome T (Option (List A))) → then_deep (onto a o) (λ more. give (Some (before ++ more))) ≡ then_deep o (λ more. give (Some ((before ++ a ∷ []) ++ more)))
      regroup (Ok (Some xs, rest)) = ap (λ (l : List A). Ok (Some l, rest)) (sym (append_assoc before (a ∷ []) xs))
      regroup (Ok (None, rest)) = refl
      regroup (Err at) = refl

  pub loop_fails : (before : List A) (ts : List T) (b : B) (behind at : List T) → next_by f ts ≡ Some (b, behind) → item b behind ≡ Err at → more_onto before (repeat f item) ts ≡ Err at
  loop_fails before ts b behind at h e =
      let n = next_some f ts b behind h in
      let same : repeat f item ts ≡ Err at = ap (repeat f item) n.1 ∙ repeat_goes n.0 behind b n.2 ∙ deep_fails (item b behind) (λ c rest. onto c (repeat f item rest)) at e in
      deep_fails (repeat f item ts) (λ more. give (Some (before ++ more))) at same

  pub loop_cut : (before : List A) (ts : List T) (b : B) (behind rest : List T) → next_by f ts ≡ Some (b, behind) → item b behind ≡ Ok (None, rest) → more_onto before (repeat f item) ts ≡ Ok (None, rest)
  loop_cut before ts b behind rest h e =
      let n = next_some f ts b behind h in
      let same : repeat f item ts ≡ Ok (None, rest) = ap (repeat f item) n.1 ∙ repeat_goes n.0 behind b n.2 ∙ deep_gone (item b behind) (λ c end. onto c (repeat f item end)) rest e in
      deep_gone (repeat f item ts) (λ more. give (Some (before ++ more))) rest same

  pub loop_shrinks : (ts : List T) (b : B) (behind : List T) (a : A) (after : List T) → next_by f ts ≡ Some (b, behind) → item b behind ≡ Ok (Some a, after) → length after < length ts
  loop_shrinks ts b behind a after h e =
      let n = next_some f ts b behind h in
      rw n.1 (shorter b behind a after e)

-- ---- all of a line

module _ {T A : Type 0} {bars : T → Bool} {w : A → Bool} {r : Deep T A} {p : A → List T → Type 0} (by : ReadsDeep false bars w r p) where
  pub whole_is : (ts : List T) (a : A) → r ts ≡ Ok (Some a, []) → p a ts × (w a ≡ true)
  whole_is ts a e = let x = by.takes ts a [] e in (subst (λ (u : List T). p a u) (sym (append-nil x.front) ∙ sym x.parts) x.fits, x.small)

  pub whole_again : (a : A) (ts : List T) → p a ts → w a ≡ true → r ts ≡ Ok (Some a, [])
  whole_again a ts h small = ap r (sym (append-nil ts)) ∙ by.again a ts [] h small tt

  pub whole_deep : (a : A) (ts : List T) → p a ts → w a ≡ false → (at : List T) × (r ts ≡ Ok (None, at))
  whole_deep a ts h large = let d = by.deep a ts [] h large tt in (d.0, ap r (sym (append-nil ts)) ∙ d.1)

  -- what a text spells is read, or given up
  settled : (a : A) (ts : List T) → p a ts → (r ts ≡ Ok (Some a, [])) ⊎ ((at : List T) × (r ts ≡ Ok (None, at)))
  settled a ts h = by_size (w a) refl
    where
      by_size : (b : Bool) → w a ≡ b → (r ts ≡ Ok (Some a, [])) ⊎ ((at : List T) × (r ts ≡ Ok (None, at)))
      by_size true e = inl (whole_again a ts h e)
      by_size false e = inr (whole_deep a ts h e)

  never_err : (a : A) (ts at : List T) → p a ts → r ts ≡ Err at → ⊥
  never_err a ts at h e = elim (settled a ts h) [ inl k ↦ (let z = sym e ∙ k in absurd cc) | inr k ↦ (let z = sym e ∙ k.1 in absurd cc) ]

  never_left : (a b : A) (ts : List T) (t : T) (us : List T) → p a ts → r ts ≡ Ok (Some b, t ∷ us) → ⊥
  never_left a b ts t us h e = elim (settled a ts h) [
    | inl k ↦ (let z : [] ≡ t ∷ us = ok_rest (Some a) (Some b) [] (t ∷ us) (sym k ∙ e) in absurd cc)
    | inr k ↦ absurd (some_not_none b (t ∷ us) k.0 (sym e ∙ k.1))
  ]

  no_text : (front at : List T) → ((other : List T) → first other ≡ first at → r (front ++ other) ≡ Err other) → Fails p front at
  no_text front [] decides = λ a h. never_err a front [] h (ap r (sym (append-nil front)) ∙ decides [] refl)
  no_text front (t ∷ rest) decides = λ v. never_err v.0 ((front ++ t ∷ []) ++ v.1) (t ∷ v.1) v.2 (ap r (append_assoc front (t ∷ []) v.1) ∙ decides (t ∷ v.1) refl)

  pub halted : (ts at : List T) → r ts ≡ Err at → FirstFault p ts at
  halted ts at e = let s = by.stops ts at e in record { front = s.front; parts = s.parts; viable = s.viable; fails = no_text s.front at s.decides }

  none_goes_on : (ts : List T) (b : A) (t : T) (us : List T) (x : Found w r p ts b (t ∷ us)) → Viable p (x.front ++ t ∷ []) → ⊥
  none_goes_on ts b t us x v = never_left v.0 b ((x.front ++ t ∷ []) ++ v.1) t v.1 v.2 (ap r (append_assoc x.front (t ∷ []) v.1) ∙ x.goes (t ∷ v.1) refl)

  -- what was read, and tokens behind it
  pub left_over : (ts : List T) (b : A) (t : T) (us : List T) → r ts ≡ Ok (Some b, t ∷ us) → FirstFault p ts (t ∷ us)
  left_over ts b t us e =
      let x = by.takes ts b (t ∷ us) e in
      record { front = x.front; parts = x.parts; viable = (b, [], subst (λ (u : List T). p b u) (sym (append-nil x.front)) x.fits); fails = none_goes_on ts b t us x }

  pub given_up : (ts rest : List T) → r ts ≡ Ok (None, rest) → OpensTooMany p w ts
  given_up ts rest e =
      let x = by.cuts ts rest e in
      record { front = x.front; here = x.here; rest = x.rest; parts = x.parts; goes_on = x.viable; too_many = λ a tail h. large x a tail h (w a) refl }
    where
      large : (x : Cut false r p ts) (a : A) (tail : List T) → p a (x.front ++ tail) → (b : Bool) → w a ≡ b → w a ≡ false
      large x a tail h true e = absurd (x.never tail a [] (whole_again a (x.front ++ tail) h e))
      large x a tail h false e = e

  -- ---- a text that opens too many levels is given up

  shorter_viable : (front : List T) (z : T) (more : List T) (here : T) → Viable p ((front ++ z ∷ more) ++ here ∷ []) → Viable p (front ++ z ∷ [])
  shorter_viable front z more here v = (v.0, more ++ (here ∷ v.1), subst (λ (l : List T). p v.0 l) (ap (λ (l : List T). l ++ v.1) (append_assoc front (z ∷ more) (here ∷ [])) ∙ append_assoc front ((z ∷ more) ++ here ∷ []) v.1 ∙ ap (λ (l : List T). front ++ (z ∷ l)) (append_assoc more (here ∷ []) v.1) ∙ sym (append_assoc front (z ∷ []) (more ++ (here ∷ v.1)))) v.2)

  apart_at : (front at : List T) → Fails p front at → (o_front : List T) (here : T) (rest : List T) → Viable p (o_front ++ here ∷ []) → (c : List T) → o_front ≡ front ++ c → at ≡ c ++ here ∷ rest → ⊥
  apart_at front [] fails o_front here rest v [] e k = absurd cc
  apart_at front [] fails o_front here rest v (z ∷ c) e k = absurd cc
  apart_at front (t ∷ at) fails o_front here rest v [] e k =
      let same : t ≡ here = cc in
      fails (subst (λ (l : List T). Viable p l) (ap (λ (l : List T). l ++ here ∷ []) (e ∙ append-nil front) ∙ ap (λ (s : T). front ++ s ∷ []) (sym same)) v)
  apart_at front (t ∷ at) fails o_front here rest v (z ∷ c) e k =
      let same : t ≡ z = cc in
      fails (subst (λ (s : T). Viable p (front ++ s ∷ [])) (sym same) (shorter_viable front z c here (subst (λ (l : List T). Viable p (l ++ here ∷ [])) e v)))

  pub not_halted : (ts at : List T) → r ts ≡ Err at → OpensTooMany p w ts → ⊥
  not_halted ts at e o =
      let s = by.stops ts at e in
      elim (parted s.front at o.front (o.here ∷ o.rest) (sym s.parts ∙ o.parts)) [
        | inl (c, h, k) ↦ by_more s c h k
        | inr (c, h, k) ↦ apart_at s.front at (no_text s.front at s.decides) o.front o.here o.rest o.goes_on c h k
      ]
    where
      by_more : (s : Halts w r p ts at) (c : List T) → s.front ≡ o.front ++ c → o.here ∷ o.rest ≡ c ++ at → ⊥
      by_more s [] h k = apart_at s.front at (no_text s.front at s.decides) o.front o.here o.rest o.goes_on [] (sym (append-nil o.front) ∙ sym h ∙ sym (append-nil s.front)) (sym k)
      by_more s (z ∷ c) h k =
          let i = s.free o.front (z ∷ c) h (λ j. absurd cc) in
          let large : w i.0 ≡ false = o.too_many i.0 i.1 i.3 in
          let small : w i.0 ≡ true = i.2 in
          absurd cc

  pub not_left : (ts : List T) (a : A) (rest : List T) → r ts ≡ Ok (Some a, rest) → OpensTooMany p w ts → ⊥
  not_left ts a rest e o = by_rest rest e (by.takes ts a rest e)
    where
      whole_front : (x_rest : List T) (x : Found w r p ts a x_rest) (c : List T) → x.front ≡ o.front ++ c → ⊥
      whole_front x_rest x c h =
          let large : w a ≡ false = o.too_many a c (subst (λ (l : List T). p a l) h x.fits) in
          let small : w a ≡ true = x.small in
          absurd cc

      by_rest : (x_rest : List T) → r ts ≡ Ok (Some a, x_rest) → Found w r p ts a x_rest → ⊥
      by_rest x_rest j x = elim (parted x.front x_rest o.front (o.here ∷ o.rest) (sym x.parts ∙ o.parts)) [
        | inl (c, h, k) ↦ whole_front x_rest x c h
        | inr (c, h, k) ↦ behind x_rest x c h k
      ]
        where
          behind : (x_rest : List T) (x : Found w r p ts a x_rest) (c : List T) → o.front ≡ x.front ++ c → x_rest ≡ c ++ (o.here ∷ o.rest) → ⊥
          behind [] x [] h k = absurd cc
          behind [] x (z ∷ c) h k = absurd cc
          behind (t ∷ us) x c h k = apart_at x.front (t ∷ us) (none_goes_on ts a t us x) o.front o.here o.rest o.goes_on c h k
