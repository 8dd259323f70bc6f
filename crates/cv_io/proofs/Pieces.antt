-- Lists cut in pieces.
use Rattle.std.proofs.Common.{◌≡◌, ℕ, ◌+◌, List, ◌++◌, take, drop, sym, ◌∙◌, ap}
use Rattle.std.proofs.lemmas.List.{take-append-drop, drop-drop}

-- what is left after n elements is the next m and what is left after those
pub drop_pieces : (n m : ℕ) (xs : List ℕ) → drop n xs ≡ take m (drop n xs) ++ drop (n + m) xs
drop_pieces n m xs =
    sym (take-append-drop m (drop n xs)) ∙ ap (λ rest. take m (drop n xs) ++ rest) (drop-drop m n xs)
