-- The table of places of pointer cells gives the place of each site.
use Rattle.std.proofs.Common.{refl, ℕ, zero, suc, ◌≡◌, ◌≤◌, ◌+◌, nat_lt, if◌then◌else◌, Bool, true, false, List, [], ◌∷◌, length, subst, sym, ap, ◌∙◌, arith, Option, Some, None}
use Rattle.std.specs.Option.{option_map}
use Rattle.cv_core.specs.declared.program.Program.{Program}
use borrow.Author.Tests.{ltb-false}
use Rattle.cv_points.specs.Closed.{Family, MaybeHolds, both, global_rule}
use Rattle.cv_points.specs.declared.rules.Rule.{Rule}
use Rattle.cv_points.specs.declared.rules.Rule.TheVariants as rule
use Rattle.cv_points.specs.Growing.{ArePlaces, Places, numbered, place_at}
use Rattle.cv_points.specs.Holders.{cell_number, cell_place, cells, first_holder}
use Rattle.cv_points.specs.Walks.{found, walk}
use Rattle.cv_points.proofs.Walked.{found-number}

numbered-walk : (cs : List Bool) (n s : ℕ) → place_at (numbered n cs) s ≡ found (walk cs s n)
numbered-walk [] n s = refl
numbered-walk (true ∷ cs) n zero = refl
numbered-walk (false ∷ cs) n zero = refl
numbered-walk (true ∷ cs) n (suc s) = numbered-walk cs (suc n) s
numbered-walk (false ∷ cs) n (suc s) = numbered-walk cs n s

pub are_places : (P : Program) (first : ℕ) (table : Places) → first ≡ first_holder P (length P.procs) → table ≡ None ∷ numbered first (cells P) → ArePlaces P table
are_places P first table e f zero = ap (λ t. place_at t 0) f
are_places P first table e f (suc s) =
    ap (λ t. place_at t (suc s)) f ∙ numbered-walk (cells P) first s ∙ found-number (cells P) s first ∙ ap (λ n. option_map (λ k. n + k) (cell_number (cells P) s)) e

-- ---- globals that aren't there

past_test : (P : Program) (S : Family) (n count : ℕ) (r : Option Rule) → count ≤ n → MaybeHolds P S (if nat_lt n count then r else None)
past_test P S n count r le = let e : nat_lt n count ≡ false = grind (arith, ltb-false) in subst (λ b. MaybeHolds P S (if b then r else None)) (sym e) tt

pub global_past : (P : Program) (S : Family) (n : ℕ) → length P.globals ≤ n → MaybeHolds P S (global_rule P n)
global_past P S n le = past_test P S n (length P.globals) (both (λ to s. rule.Has to s) (cell_place P (suc n)) (Some 0)) le
