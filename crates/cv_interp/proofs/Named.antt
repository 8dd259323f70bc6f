-- The procedure that a call names.
use Rattle.std.proofs.Common.{◌≡◌, refl, sym, ap, ◌∙◌, ℕ, suc, Bool, true, false, cond, List, [], ◌∷◌, Option, Some, None}
use Rattle.std.specs.Prelude.{slice_get}
use Rattle.std.specs.List.{find}
use Rattle.std.specs.Option.{option_and_then, option_map}
use Rattle.std.specs.Str.{bytes_eq}
use Rattle.cv_core.specs.Meant.{called}
use Rattle.cv_core.specs.Names.{Name, place_of}
use Rattle.cv_core.specs.declared.program.Program.{Program}
use Rattle.cv_core.specs.declared.program.Proc.{Proc}
use Rattle.cv_interp.proofs.Places.{position_cons}

later : (y : Proc) (ys : List Proc) (o : Option ℕ) → option_and_then (λ i. slice_get (y ∷ ys) i) (option_map suc o) ≡ option_and_then (λ i. slice_get ys i) o
later y ys None = refl
later y ys (Some i) = refl

here : (b : Bool) (y : Proc) (ys : List Proc) (o : Option ℕ) (found : Option Proc) → option_and_then (λ i. slice_get ys i) o ≡ found →
    option_and_then (λ i. slice_get (y ∷ ys) i) (cond b (Some 0) (option_map suc o)) ≡ cond b (Some y) found
here true y ys o found h = refl
here false y ys o found h = later y ys o ∙ h

named : (x : Name) (fs : List Proc) → option_and_then (λ i. slice_get fs i) (place_of (λ (g : Proc). g.name) x fs) ≡ find (λ (g : Proc). bytes_eq g.name x) fs
named x [] = refl
named x (y ∷ ys) =
    ap (option_and_then (λ i. slice_get (y ∷ ys) i)) (position_cons (λ (g : Proc). bytes_eq g.name x) y ys)
    ∙ here (bytes_eq y.name x) y ys (place_of (λ (g : Proc). g.name) x ys) (find (λ (g : Proc). bytes_eq g.name x) ys) (named x ys)

-- the first procedure of the name stands at the place of the name
pub called_is : (P : Program) (x : Name) (i : ℕ) (g : Proc) → place_of (λ h. h.name) x P.procs ≡ Some i → slice_get P.procs i ≡ Some g → called P x ≡ Some g
called_is P x i g at there = sym (named x P.procs) ∙ ap (option_and_then (λ i. slice_get P.procs i)) at ∙ there
