use Rattle.std.proofs.Common.{ℕ, ◌≡◌, ◌∙◌, ◌∷◌, ◌++◌, ap, arith, length, None, Option, Bool, List, []}
use Rattle.cv_points.specs.Growing.{numbered}
use Rattle.cv_points.specs.Holders.{cells, first_holder}
use Rattle.cv_points.specs.Walks.{word}
use Rattle.cv_points.proofs.Placed.{are_places}
use Rattle.cv_points.proofs.places.cell_places.Goals as goal

whole : (n m : ℕ) → n ≡ word m → (n ≡ 18446744073709551615 → ⊥) → n ≡ m
whole n m e h = omega arith

joined : (t u : List (Option ℕ)) (first : ℕ) (xs ys : List Bool) → t ≡ [] → u ≡ t ++ None ∷ [] → xs ≡ ys → u ++ numbered first xs ≡ None ∷ numbered first ys
joined t u first xs ys a b e = ap (λ v. v ++ numbered first xs) (b ∙ ap (λ w. w ++ None ∷ []) a) ∙ ap (λ zs. None ∷ numbered first zs) e

pub returns : goal.returns
returns c =
    are_places c.args.p.now c.first_holder-first.result c.number_cells.new.table.items
    (whole c.first_holder-first.result (first_holder c.args.p.now (length c.args.p.now.procs)) (c.first_holder-first.ensures ∙ ap (λ n. word (first_holder c.args.p.now n)) c.proc_count.ensures) c.if-first.false)
    (c.in_ok-number_cells.ensures ∙ joined c.new-table.result.items c.push.new.self.items c.first_holder-first.result c.as_slice.result.now (cells c.args.p.now) c.new-table.ensures.items c.in_ok-push.ensures.items (c.as_slice.ensures.value ∙ c.in_ok-flags.ensures))
