-- The first item that has a name, from a place of a list on.
use Rattle.std.proofs.Common.{Bor, ◌≡◌, refl, ap, sym, ◌∙◌, ◌||◌, ℕ, zero, suc, ◌+◌, ◌<◌, ◌≤◌, Bool, true, false, cond, List, [], ◌∷◌, length, Option, Some, None, drop, arith, slice_index_or}
use Rattle.std.specs.List.{find, list_any}
use Rattle.std.specs.Option.{is_some, option_copied, option_map}
use Rattle.std.specs.Str.{bytes_eq}
use Rattle.cv_core.specs.Names.{Name}

abbrev pub from_place : {X V : Type 0} → (X → Name) → (X → V) → List X → ℕ → Name → Option V
from_place name value xs i x = option_map value (find (λ y. bytes_eq (name y) x) (drop i xs))

of_cond : {X V : Type 0} (value : X → V) (b : Bool) (y : X) (o : Option X) → option_map value (cond b (Some y) o) ≡ cond b (Some (value y)) (option_map value o)
of_cond value true y o = refl
of_cond value false y o = refl

-- the item at a place goes before those behind it
pub found_at : {X V : Type 0} (name : X → Name) (value : X → V) (xs : List X) (i j : ℕ) (y d : X) (x : Name) → j ≡ suc i → i < length xs → y ≡ slice_index_or xs i d →
    from_place name value xs i x ≡ cond (bytes_eq (name y) x) (Some (value y)) (from_place name value xs j x)
found_at name value [] i j y d x next lt is = absurd (omega arith)
found_at name value (z ∷ zs) zero j y d x next lt is =
    of_cond value (bytes_eq (name z) x) z (find (λ w. bytes_eq (name w) x) zs)
    ∙ ap (λ w. cond (bytes_eq (name w) x) (Some (value w)) (from_place name value zs 0 x)) (sym is)
    ∙ ap (λ n. cond (bytes_eq (name y) x) (Some (value y)) (from_place name value (z ∷ zs) n x)) (sym next)
found_at name value (z ∷ zs) (suc i) j y d x next lt is =
    let inside : i < length zs = omega arith in
    found_at name value zs i (suc i) y d x refl inside is
    ∙ ap (λ n. cond (bytes_eq (name y) x) (Some (value y)) (from_place name value (z ∷ zs) n x)) (sym next)

-- behind the end there is none
pub found_past : {X V : Type 0} (name : X → Name) (value : X → V) (xs : List X) (x : Name) → None ≡ from_place name value xs (length xs) x
found_past name value [] x = refl
found_past name value (z ∷ zs) x = found_past name value zs x

-- after the item at a place is put over those behind it
pub found_put : {X V : Type 0} (name : X → Name) (value : X → V) (xs : List X) (i j : ℕ) (y d : X) (x key : Name) (v : V) (new old : Option V) →
    j ≡ suc i → i < length xs → y ≡ slice_index_or xs i d → key ≡ name y → v ≡ value y → new ≡ cond (bytes_eq key x) (Some v) old → old ≡ from_place name value xs j x →
    new ≡ from_place name value xs i x
found_put name value xs i j y d x key v new old next lt is key_is v_is put behind =
    put
    ∙ ap (λ k. cond (bytes_eq k x) (Some v) old) key_is
    ∙ ap (λ w. cond (bytes_eq (name y) x) (Some w) old) v_is
    ∙ ap (λ o. cond (bytes_eq (name y) x) (Some (value y)) o) behind
    ∙ sym (found_at name value xs i j y d x next lt is)

copied_cond : {X : Type 0} (b : Bool) (v : Bor X) (o : Option (Bor X)) → option_copied (cond b (Some v) o) ≡ cond b (Some v.now) (option_copied o)
copied_cond true v o = refl
copied_cond false v o = refl

-- the same where the map has references to the items
pub found_put_borrowed : {X : Type 0} (name : X → Name) (xs : List X) (i j : ℕ) (y d : X) (x key : Name) (v : Bor X) (new old : Option (Bor X)) →
    j ≡ suc i → i < length xs → y ≡ slice_index_or xs i d → key ≡ name y → v.now ≡ y → new ≡ cond (bytes_eq key x) (Some v) old →
    option_copied old ≡ from_place name (λ w. w) xs j x → option_copied new ≡ from_place name (λ w. w) xs i x
found_put_borrowed name xs i j y d x key v new old next lt is key_is v_is put behind =
    found_put name (λ w. w) xs i j y d x key v.now (option_copied new) (option_copied old) next lt is key_is v_is
    (ap option_copied put ∙ copied_cond (bytes_eq key x) v old) behind

pub map_same : {X : Type 0} (o : Option X) → option_map (λ w. w) o ≡ o
map_same None = refl
map_same (Some x) = refl

some_cond : {X V : Type 0} (value : X → V) (b : Bool) (y : X) (o : Option X) → is_some (option_map value (cond b (Some y) o)) ≡ (b || is_some (option_map value o))
some_cond value true y o = refl
some_cond value false y o = refl

-- something is found where some item passes the test
pub found_any : {X V : Type 0} (value : X → V) (test : X → Bool) (xs : List X) → is_some (option_map value (find test xs)) ≡ list_any test xs
found_any value test [] = refl
found_any value test (y ∷ ys) = some_cond value (test y) y (find test ys) ∙ ap (λ b. test y || b) (found_any value test ys)
