-- What is shown one list after another.
use Rattle.std.proofs.Common.{◌≡◌, refl, sym, ap, ◌∙◌, ℕ, ◌<◌, ◌+◌, List, [], ◌∷◌, ◌++◌, length, drop, slice_index_or, Option, Some, None}
use Rattle.std.proofs.lemmas.List.{drop_more}
use Rattle.std.specs.List.{flat_map}
use Rattle.std.specs.Option.{option_and_then}
use Rattle.cv_farkas.specs.declared.steps.Step.{Step}
use Rattle.cv_check.specs.Shown.{Owed, shown, all_shown}

then-append : (ws vs : List Owed) (o : Option (List Step)) → ((steps : List Step) → all_shown (ws ++ vs) steps ≡ option_and_then (all_shown vs) (all_shown ws steps)) →
    option_and_then (all_shown (ws ++ vs)) o ≡ option_and_then (all_shown vs) (option_and_then (all_shown ws) o)
then-append ws vs None h = refl
then-append ws vs (Some steps) h = h steps

pub all_shown-append : (ws vs : List Owed) (steps : List Step) → all_shown (ws ++ vs) steps ≡ option_and_then (all_shown vs) (all_shown ws steps)
all_shown-append [] vs steps = refl
all_shown-append (w ∷ ws) vs steps = then-append ws vs (shown w steps) (all_shown-append ws vs)

-- the first list isn't shown
pub front_fails : (ws vs : List Owed) (steps : List Step) → all_shown ws steps ≡ None → all_shown (ws ++ vs) steps ≡ None
front_fails ws vs steps h = all_shown-append ws vs steps ∙ ap (option_and_then (all_shown vs)) h

-- the first list is shown, and leaves these steps
pub front_shown : (ws vs : List Owed) (steps left : List Step) → all_shown ws steps ≡ Some left → all_shown (ws ++ vs) steps ≡ all_shown vs left
front_shown ws vs steps left h = all_shown-append ws vs steps ∙ ap (option_and_then (all_shown vs)) h

-- what is left of a list from a place on fails, where what its element there owes fails
pub flat_fails : {X : Type 0} (f : X → List Owed) (xs : List X) (i : ℕ) (x d : X) (start left : List Step) → i < length xs → x ≡ slice_index_or xs i d →
    all_shown (flat_map f (drop i xs)) left ≡ all_shown (flat_map f xs) start → all_shown (f x) left ≡ None → all_shown (flat_map f xs) start ≡ None
flat_fails f xs i x d start left lt is inv none =
    sym inv ∙ ap (λ ys. all_shown (flat_map f ys) left) (drop_more xs i d lt)
    ∙ front_fails (f (slice_index_or xs i d)) (flat_map f (drop (i + 1) xs)) left (ap (λ y. all_shown (f y) left) (sym is) ∙ none)

-- and goes on behind the element where it is shown
pub flat_goes : {X : Type 0} (f : X → List Owed) (xs : List X) (i : ℕ) (x d : X) (start left after : List Step) → i < length xs → x ≡ slice_index_or xs i d →
    all_shown (flat_map f (drop i xs)) left ≡ all_shown (flat_map f xs) start → all_shown (f x) left ≡ Some after →
    all_shown (flat_map f (drop (i + 1) xs)) after ≡ all_shown (flat_map f xs) start
flat_goes f xs i x d start left after lt is inv some =
    sym (front_shown (f (slice_index_or xs i d)) (flat_map f (drop (i + 1) xs)) left after (ap (λ y. all_shown (f y) left) (sym is) ∙ some))
    ∙ sym (ap (λ ys. all_shown (flat_map f ys) left) (drop_more xs i d lt)) ∙ inv

pub back_fails : (ws vs : List Owed) (steps left : List Step) → all_shown ws steps ≡ Some left → all_shown vs left ≡ None → all_shown (ws ++ vs) steps ≡ None
back_fails ws vs steps left h k = front_shown ws vs steps left h ∙ k

pub both_shown : (ws vs : List Owed) (steps left last : List Step) → all_shown ws steps ≡ Some left → all_shown vs left ≡ Some last → all_shown (ws ++ vs) steps ≡ Some last
both_shown ws vs steps left last h k = front_shown ws vs steps left h ∙ k
