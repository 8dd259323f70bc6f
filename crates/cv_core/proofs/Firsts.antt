-- The first of lists that are put together.
use Rattle.std.proofs.Common.{◌≡◌, refl, ap, List, [], ◌∷◌, ◌++◌, Option, Some, None, map}
use Rattle.std.specs.Option.{option_map, option_or}
use Rattle.std.specs.List.{slice_get}

pub first_append : {X : Type 0} (xs ys : List X) → slice_get (xs ++ ys) 0 ≡ option_or (slice_get xs 0) (slice_get ys 0)
first_append [] ys = refl
first_append (x ∷ xs) ys = refl

-- where nothing is first, nothing is there
pub none_first : {X : Type 0} (xs : List X) → slice_get xs 0 ≡ None → xs ≡ []
none_first [] e = refl
none_first (x ∷ xs) e = cc

pub first_map : {X Y : Type 0} (h : X → Y) (xs : List X) → slice_get (map h xs) 0 ≡ option_map h (slice_get xs 0)
first_map h [] = refl
first_map h (x ∷ xs) = refl
