-- What the limits say of the parts of a program that is within them.
use Rattle.std.proofs.Common.{◌≡◌, refl, sym, ap, ◌∙◌, ℕ, zero, suc, ◌<◌, ◌≤◌, Bool, true, false, ◌||◌, cond, List, [], ◌∷◌, length, Option, Some, None, arith}
use Rattle.std.specs.Prelude.{slice_get}
use Rattle.std.specs.List.{find, list_any}
use Rattle.std.proofs.lemmas.Bool.{ltb-false}
use Rattle.cv_core.specs.Limits.{first_limit, is_passed, passes, tested, variable_count}
use Rattle.cv_core.specs.Names.{locals_of, stmts_of}
use Rattle.cv_core.specs.declared.faults.LimitName.{LimitName}
use Rattle.cv_core.specs.declared.faults.LimitName.TheVariants as limit
use Rattle.cv_core.specs.declared.program.Program.{Program}
use Rattle.cv_core.specs.declared.program.Proc.{Proc}

-- ---- lists

pub or_first : (a b : Bool) → (a || b) ≡ false → a ≡ false
or_first true b e = e
or_first false b e = refl

pub or_second : (a b : Bool) → (a || b) ≡ false → b ≡ false
or_second true b e = absurd (cc)
or_second false b e = e

found_first : {X : Type 0} (b : Bool) (y : X) (o : Option X) → cond b (Some y) o ≡ None → b ≡ false
found_first true y o e = absurd (cc)
found_first false y o e = refl

found_later : {X : Type 0} (b : Bool) (y : X) (o : Option X) → cond b (Some y) o ≡ None → o ≡ None
found_later true y o e = absurd (cc)
found_later false y o e = e

-- where nothing is found, no element passes the test
pub none_at : {X : Type 0} (p : X → Bool) (xs : List X) (i : ℕ) (x : X) → find p xs ≡ None → slice_get xs i ≡ Some x → p x ≡ false
none_at p [] zero x e at = absurd (cc)
none_at p [] (suc i) x e at = absurd (cc)
none_at p (y ∷ ys) zero x e at = let same : y ≡ x = cc in ap p (sym same) ∙ found_first (p y) y (find p ys) e
none_at p (y ∷ ys) (suc i) x e at = none_at p ys i x (found_later (p y) y (find p ys) e) at

-- where not any element passes the test, none does
pub any_at : {X : Type 0} (p : X → Bool) (xs : List X) (i : ℕ) (x : X) → list_any p xs ≡ false → slice_get xs i ≡ Some x → p x ≡ false
any_at p [] zero x e at = absurd (cc)
any_at p [] (suc i) x e at = absurd (cc)
any_at p (y ∷ ys) zero x e at = let same : y ≡ x = cc in ap p (sym same) ∙ or_first (p y) (list_any p ys) e
any_at p (y ∷ ys) (suc i) x e at = any_at p ys i x (or_second (p y) (list_any p ys) e) at

-- ---- the parts of a program

not_passed : (P : Program) (i : ℕ) (which : LimitName) → first_limit P ≡ None → slice_get tested i ≡ Some which → is_passed P which ≡ false
not_passed P i which e at = none_at (is_passed P) tested i which e at

pub few_procs : (P : Program) → first_limit P ≡ None → length P.procs ≤ 256
few_procs P e = ltb-false 256 (length P.procs) (not_passed P 0 limit.Procedures e refl)

pub few_globals : (P : Program) → first_limit P ≡ None → length P.globals ≤ 256
few_globals P e = ltb-false 256 (length P.globals) (not_passed P 1 limit.Globals e refl)

pub few_literals : (P : Program) → first_limit P ≡ None → length P.literals ≤ 1024
few_literals P e = ltb-false 1024 (length P.literals) (not_passed P 2 limit.Literals e refl)

pub few_formals : (P : Program) (i : ℕ) (f : Proc) → first_limit P ≡ None → slice_get P.procs i ≡ Some f → length f.formals ≤ 8
few_formals P i f e at =
    ltb-false 8 (length f.formals) (any_at (λ (g : Proc). passes limit.Formals (length g.formals)) P.procs i f (not_passed P 4 limit.Formals e refl) at)

pub few_variables : (P : Program) (i : ℕ) (f : Proc) → first_limit P ≡ None → slice_get P.procs i ≡ Some f → variable_count f ≤ 200
few_variables P i f e at =
    ltb-false 200 (variable_count f) (any_at (λ (g : Proc). passes limit.Locals (variable_count g)) P.procs i f (not_passed P 5 limit.Locals e refl) at)

pub few_locals : (P : Program) (i : ℕ) (f : Proc) → first_limit P ≡ None → slice_get P.procs i ≡ Some f → length (locals_of f.body) ≤ 200
few_locals P i f e at = let h = few_variables P i f e at in omega arith

pub few_stmts : (P : Program) (i : ℕ) (f : Proc) → first_limit P ≡ None → slice_get P.procs i ≡ Some f → length (stmts_of f.body) ≤ 1000
few_stmts P i f e at =
    ltb-false 1000 (length (stmts_of f.body)) (any_at (λ (g : Proc). passes limit.Statements (length (stmts_of g.body))) P.procs i f (not_passed P 6 limit.Statements e refl) at)

pub few_alternatives : (P : Program) (i : ℕ) (f : Proc) → first_limit P ≡ None → slice_get P.procs i ≡ Some f → length f.contract.gives ≤ 8
few_alternatives P i f e at =
    ltb-false 8 (length f.contract.gives) (any_at (λ (g : Proc). passes limit.Alternatives (length g.contract.gives)) P.procs i f (not_passed P 9 limit.Alternatives e refl) at)
