-- A well-formed program has a main.
use Rattle.std.proofs.Common.{◌≡◌, refl, sym, ◌∙◌, ℕ, suc, Bool, true, false, ◌||◌, cond, List, [], ◌∷◌, Option, Some, None}
use Rattle.std.specs.Prelude.{codes, option_map}
use Rattle.std.specs.List.{list_any, position}
use Rattle.cv_core.specs.Headings.{is_main}
use Rattle.cv_core.specs.Names.{place_of}
use Rattle.cv_core.specs.WellFormed.{IsSoundProgram}
use Rattle.cv_core.specs.declared.program.Proc.{Proc}
use Rattle.cv_core.specs.declared.program.Program.{Program}
use Rattle.cv_interp.proofs.Places.{position_cons}

one_more : (b : Bool) (o : Option ℕ) (rest : Bool) → cond b (Some 0) (option_map suc o) ≡ None → (o ≡ None → rest ≡ false) → (b || rest) ≡ false
one_more true o rest e h = absurd (cc)
one_more false None rest e h = h refl
one_more false (Some n) rest e h = absurd (cc)

-- what has no place isn't there
none_placed : {X : Type 0} (p : X → Bool) (xs : List X) → position p xs ≡ None → list_any p xs ≡ false
none_placed p [] e = refl
none_placed p (y ∷ ys) e = one_more (p y) (position p ys) (list_any p ys) (sym (position_cons p y ys) ∙ e) (none_placed p ys)

pub main_placed : (P : Program) → IsSoundProgram P → place_of (λ g. g.name) (codes "main") P.procs ≡ None → ⊥
main_placed P w e = let no = none_placed (λ (g : Proc). is_main g.name) P.procs e in let yes = w.main in absurd (cc)
