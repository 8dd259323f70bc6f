-- The first element of what is left of a list.
use Rattle.std.proofs.Common.{ℕ, suc, ◌≡◌, ◌≤◌, ◌-◌, List, [], ◌∷◌, ◌++◌, length, ap, sym, ◌∙◌, take, drop, arith, slice_index_or, append_assoc}
use Rattle.std.specs.List.{flat_map}
use Rattle.std.proofs.Math.Seq.{take-length}

peeled : {X : Type 0} (g : X → List ℕ) (xs : List X) (x d : X) → 1 ≤ length xs → x ≡ slice_index_or xs 0 d → flat_map g xs ≡ g x ++ flat_map g (take (length xs - 1) (drop 1 xs))
peeled g [] x d le is = absurd (omega arith)
peeled g (y ∷ ys) x d le is =
    let m : suc (length ys) - 1 ≡ length ys = omega arith in
    let t : take (suc (length ys) - 1) ys ≡ ys = rw m (take-length ys) in
    ap (λ z. g z ++ flat_map g ys) (sym is) ∙ ap (λ zs. g x ++ flat_map g zs) (sym t)

pub next_mapped : {X : Type 0} (g : X → List ℕ) (ns ms all : List ℕ) (xs : List X) (x d : X) → 1 ≤ length xs → x ≡ slice_index_or xs 0 d → ms ≡ ns ++ g x → ns ++ flat_map g xs ≡ all →
    ms ++ flat_map g (take (length xs - 1) (drop 1 xs)) ≡ all
next_mapped g ns ms all xs x d le is e inv =
    ap (λ v. v ++ flat_map g (take (length xs - 1) (drop 1 xs))) e
    ∙ append_assoc ns (g x) (flat_map g (take (length xs - 1) (drop 1 xs)))
    ∙ ap (λ v. ns ++ v) (sym (peeled g xs x d le is))
    ∙ inv
