-- The place of a name in a list, item by item, and the object of a name.
use Rattle.std.proofs.Common.{◌≡◌, refl, sym, ap, ◌∙◌, ℕ, suc, ◌+◌, ◌<◌, ◌≤◌, inl, inr, Bool, true, false, not, cond, List, ◌∷◌, length, Option, Some, None, arith}
use Rattle.std.specs.Prelude.{nat_lt}
use Rattle.std.proofs.lemmas.Bool.{cases_lt, le-ltb, lt-ltb}
use Rattle.std.specs.List.{filter, position, position_or_len}
use Rattle.std.specs.Option.{option_map}
use Rattle.std.specs.Str.{bytes_eq}
use Rattle.cv_core.specs.Names.{Name, is_object, place_of}
use Rattle.cv_core.specs.declared.program.Local.{Local}

shifted : (b : Bool) (n : ℕ) → cond b (Some (1 + n)) None ≡ option_map suc (cond b (Some n) None)
shifted true n = let e : 1 + n ≡ suc n = omega arith in ap Some e
shifted false n = refl

same_test : (n m : ℕ) → nat_lt (1 + n) (suc m) ≡ nat_lt n m
same_test n m = elim (cases_lt n m) [
  | inl h ↦ (let k : 1 + n < suc m = omega arith in lt-ltb (1 + n) (suc m) k ∙ sym (lt-ltb n m h))
  | inr h ↦ (let k : suc m ≤ 1 + n = omega arith in le-ltb (1 + n) (suc m) k ∙ sym (le-ltb n m h))
]

position_step : (b : Bool) (n len : ℕ) → cond (nat_lt (cond (not b) (1 + n) 0) (suc len)) (Some (cond (not b) (1 + n) 0)) None ≡
    cond b (Some 0) (option_map suc (cond (nat_lt n len) (Some n) None))
position_step true n len = let lt : 0 < suc len = omega arith in ap (λ t. cond t (Some 0) None) (lt-ltb 0 (suc len) lt)
position_step false n len = ap (λ t. cond t (Some (1 + n)) None) (same_test n len) ∙ shifted (nat_lt n len) n

pub position_cons : {X : Type 0} (p : X → Bool) (y : X) (ys : List X) → position p (y ∷ ys) ≡ cond (p y) (Some 0) (option_map suc (position p ys))
position_cons p y ys = position_step (p y) (position_or_len p ys) (length ys)

-- ---- among the local objects

abbrev objects_in : List Local → List Local
objects_in ls = filter (λ l. is_object l.body) ls

pub place_other : (x : Name) (l : Local) (ls : List Local) → is_object l.body ≡ false →
    place_of (λ l. l.name) x (filter (λ l. is_object l.body) (l ∷ ls)) ≡ place_of (λ l. l.name) x (filter (λ l. is_object l.body) ls)
place_other x l ls h = ap (λ (b : Bool). place_of (λ (k : Local). k.name) x (cond b (l ∷ objects_in ls) (objects_in ls))) h

object_cons : (x : Name) (l : Local) (ls : List Local) → is_object l.body ≡ true →
    place_of (λ l. l.name) x (filter (λ l. is_object l.body) (l ∷ ls)) ≡ cond (bytes_eq l.name x) (Some 0) (option_map suc (place_of (λ l. l.name) x (filter (λ l. is_object l.body) ls)))
object_cons x l ls h =
    ap (λ (b : Bool). place_of (λ (k : Local). k.name) x (cond b (l ∷ objects_in ls) (objects_in ls))) h
    ∙ position_cons (λ (k : Local). bytes_eq k.name x) l (objects_in ls)

pub place_first : (x : Name) (l : Local) (ls : List Local) → is_object l.body ≡ true → bytes_eq l.name x ≡ true →
    Some 0 ≡ place_of (λ l. l.name) x (filter (λ l. is_object l.body) (l ∷ ls))
place_first x l ls h e = sym (object_cons x l ls h ∙ ap (λ (b : Bool). cond b (Some 0) (option_map suc (place_of (λ (k : Local). k.name) x (objects_in ls)))) e)

pub place_later : (x : Name) (l : Local) (ls : List Local) (o : Option ℕ) → is_object l.body ≡ true → bytes_eq l.name x ≡ false →
    o ≡ place_of (λ l. l.name) x (filter (λ l. is_object l.body) ls) → option_map suc o ≡ place_of (λ l. l.name) x (filter (λ l. is_object l.body) (l ∷ ls))
place_later x l ls o h e is =
    ap (λ (p : Option ℕ). option_map suc p) is
    ∙ sym (object_cons x l ls h ∙ ap (λ (b : Bool). cond b (Some 0) (option_map suc (place_of (λ (k : Local). k.name) x (objects_in ls)))) e)

-- how many there are
pub count_object : (l : Local) (ls : List Local) → is_object l.body ≡ true → length (filter (λ l. is_object l.body) (l ∷ ls)) ≡ 1 + length (filter (λ l. is_object l.body) ls)
count_object l ls h =
    let e : suc (length (objects_in ls)) ≡ 1 + length (objects_in ls) = omega arith in
    ap (λ (b : Bool). length (cond b (l ∷ objects_in ls) (objects_in ls))) h ∙ e

pub count_other : (l : Local) (ls : List Local) → is_object l.body ≡ false → length (filter (λ l. is_object l.body) (l ∷ ls)) ≡ length (filter (λ l. is_object l.body) ls)
count_other l ls h = ap (λ (b : Bool). length (cond b (l ∷ objects_in ls) (objects_in ls))) h
