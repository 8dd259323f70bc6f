-- A search that goes through the codes one after the other.
use Rattle.std.proofs.Common.{ℕ, zero, suc, ◌≡◌, ◌<◌, ◌≤◌, ◌+◌, Bool, true, false, List, [], ◌∷◌, ◌++◌, length, Option, Some, None, ap, subst, sym, ◌∙◌, arith, append_assoc, add-one, inl, inr, ◌-◌, take, drop, slice_index_or}
use Rattle.std.specs.Option.{option_map}
use Rattle.std.proofs.lemmas.List.{length-append, append-nil}
use Rattle.std.proofs.lemmas.Bool.{cases_lt}
use Rattle.std.proofs.Math.Seq.{take-length}
use Rattle.cv_ppts.specs.Cases.{go_on}
use Rattle.cv_ppts.specs.Listed.{IsFound, over_codes}
use Rattle.cv_ppts.specs.declared.entities.Block.{Block}

abbrev pub Lists : Type 0
Lists = List (List ℕ)

pub record IsOnCourse (first now : Lists) (lists : ℕ → Lists) (code : ℕ) : Type 0 where
  pub are : now ≡ first ++ over_codes lists code
  pub few : length now ≤ 64

pub course_begins : (first : Lists) (lists : ℕ → Lists) → length first ≤ 64 → IsOnCourse first first lists 0
course_begins first lists few = record { are = sym (append-nil first); few = few }

step : (first now more : Lists) (lists : ℕ → Lists) (code : ℕ) → now ≡ first ++ over_codes lists code → more ≡ now ++ lists code → more ≡ first ++ over_codes lists (code + 1)
step first now more lists code e f =
    f
    ∙ ap (λ v. v ++ lists code) e
    ∙ append_assoc first (over_codes lists code) (lists code)
    ∙ ap (λ n. first ++ over_codes lists n) (sym (add-one code))

pub course_passes : (first now : Lists) (lists : ℕ → Lists) (code : ℕ) → IsOnCourse first now lists code → lists code ≡ [] → IsOnCourse first now lists (code + 1)
course_passes first now lists code c e = record {
  are = step first now now lists code c.are (sym (ap (λ v. now ++ v) e ∙ append-nil now));
  few = c.few;
}

pub course_goes_on : (first now more : Lists) (lists : ℕ → Lists) (code : ℕ) (all : Bool) → all ≡ true → IsOnCourse first now lists code → IsFound now more (lists code) all →
    IsOnCourse first more lists (code + 1)
course_goes_on first now more lists code true e c f = record { are = step first now more lists code c.are f.0; few = f.1 }
course_goes_on first now more lists code false e c f = absurd (cc)

longer : (lists : ℕ → Lists) (n m : ℕ) → n ≤ m → length (over_codes lists n) ≤ length (over_codes lists m)
longer lists n zero le = let e : n ≡ 0 = omega arith in subst (λ k. length (over_codes lists k) ≤ 0) (sym e) (omega arith)
longer lists n (suc m) le = elim (cases_lt m n) [
  | inl lt ↦ let e : n ≡ suc m = omega arith in subst (λ k. length (over_codes lists k) ≤ length (over_codes lists (suc m))) (sym e) (omega arith)
  | inr ge ↦
      let k = longer lists n m ge in
      let e : length (over_codes lists m ++ lists m) ≡ length (over_codes lists m) + length (lists m) = length-append (over_codes lists m) (lists m) in
      omega arith
]

too_many : (now more : Lists) (here : Lists) (all : Bool) → all ≡ false → IsFound now more here all → 64 < length now + length here
too_many now more here true e f = absurd (cc)
too_many now more here false e f = f

pub course_is_too_long : (first now more last : Lists) (lists : ℕ → Lists) (code limit : ℕ) (all : Bool) → all ≡ false → code < limit → IsOnCourse first now lists code → IsFound now more (lists code) all →
    IsFound first last (over_codes lists limit) false
course_is_too_long first now more last lists code limit all e lt c f =
    let many = too_many now more (lists code) all e f in
    let a : length now ≡ length first + length (over_codes lists code) = ap length c.are ∙ length-append first (over_codes lists code) in
    let b : length (over_codes lists code ++ lists code) ≡ length (over_codes lists code) + length (lists code) = length-append (over_codes lists code) (lists code) in
    let d : length (over_codes lists (suc code)) ≤ length (over_codes lists limit) = longer lists (suc code) limit (omega arith) in
    omega arith

pub course_is_over : (first now : Lists) (lists : ℕ → Lists) (code limit : ℕ) → code ≡ limit → IsOnCourse first now lists code → IsFound first now (over_codes lists limit) true
course_is_over first now lists code limit e c = (c.are ∙ ap (λ n. first ++ over_codes lists n) e, c.few)

-- ---- what follows a code

pub go_none : {X : Type 0} (f : List Block → X) (z : X) (o : Option (List Block)) → o ≡ None → go_on f z o ≡ z
go_none f z o e = ap (go_on f z) e

pub go_some : {X : Type 0} (f : List Block → X) (z : X) (o : Option (List Block)) (bs : List Block) → o ≡ Some bs → go_on f z o ≡ f bs
go_some f z o bs e = ap (go_on f z) e

pub found_as : (old new lists others : Lists) (all : Bool) → lists ≡ others → IsFound old new lists all → IsFound old new others all
found_as old new lists others all e f = subst (λ v. IsFound old new v all) e f

pub none_of : {V : Type 0} (g : V → List Block) (o : Option V) (r : Option (List Block)) → option_map g o ≡ r → o ≡ None → r ≡ None
none_of g o r e n = sym e ∙ ap (option_map g) n

pub some_of : {V : Type 0} (g : V → List Block) (o : Option V) (r : Option (List Block)) (v : V) → option_map g o ≡ r → o ≡ Some v → r ≡ Some (g v)
some_of g o r v e n = sym e ∙ ap (option_map g) n

-- what a search behind one code found
pub found_here : (G : List Block → List ℕ → Lists) (done : List ℕ) (o : Option (List Block)) (k : ℕ) (bs cs : List Block) (ds : List ℕ) (old new : Lists) (all : Bool) →
    o ≡ Some cs → bs ≡ cs → ds ≡ done ++ k ∷ [] → IsFound old new (G bs ds) all → IsFound old new (go_on (λ ys. G ys (done ++ k ∷ [])) [] o) all
found_here G done o k bs cs ds old new all e same codes f =
    found_as old new (G bs ds) (go_on (λ ys. G ys (done ++ k ∷ [])) [] o) all
    (ap (λ y. G y ds) same ∙ ap (G cs) codes ∙ sym (go_some (λ ys. G ys (done ++ k ∷ [])) [] o cs e)) f

pub peeled : {X : Type 0} (xs : List X) (x d : X) → 1 ≤ length xs → x ≡ slice_index_or xs 0 d → xs ≡ x ∷ take (length xs - 1) (drop 1 xs)
peeled [] x d le is = absurd (omega arith)
peeled (y ∷ ys) x d le is =
    let m : suc (length ys) - 1 ≡ length ys = omega arith in
    let t : take (suc (length ys) - 1) ys ≡ ys = rw m (take-length ys) in
    ap (λ z. z ∷ ys) (sym is) ∙ ap (λ zs. x ∷ zs) (sym t)
