-- What the search gives are all the cases.
use Rattle.std.proofs.Common.{refl, ℕ, suc, ◌≡◌, ◌<◌, ◌≤◌, true, List, [], ◌∷◌, length, Option, Some, None, ap, subst, sym, ◌∙◌, arith, slice_get}
use Rattle.std.specs.List.{Contains}
use Rattle.std.specs.Option.{MatchOption}
use Rattle.cv_core.specs.declared.program.Proc.{Proc}
use Rattle.cv_core.specs.declared.program.Program.{Program}
use Rattle.cv_points.specs.Closed.{Family}
use Rattle.cv_ppts.specs.Cases.{AreCases, AreTooMany, IsCase, codes_of, is_case_of}
use Rattle.cv_ppts.specs.Entities.{named_entities}
use Rattle.cv_ppts.specs.declared.codes.Case.{Case}
use Rattle.cv_ppts.specs.Listed.{named_lists}
use Rattle.cv_ppts.proofs.Members.{named_ascending, named_has, named_in}

in_case : (P : Program) (S : Family) (i : ℕ) (f : Proc) (codes : List ℕ) → slice_get P.procs i ≡ Some f → Contains (named_lists P S f (named_entities P S i f) [] []) codes → IsCase P S i codes
in_case P S i f codes e c =
    let (ks, same, h) = named_in P S f (named_entities P S i f) [] [] codes c in
    subst (λ o. is_case_of P S i o codes ≡ true) (sym e) (subst (λ v. is_case_of P S i (Some f) v ≡ true) (sym same) h)

case_in : (P : Program) (S : Family) (i : ℕ) (f : Proc) (codes : List ℕ) → slice_get P.procs i ≡ Some f → IsCase P S i codes → Contains (named_lists P S f (named_entities P S i f) [] []) codes
case_in P S i f codes e h = named_has P S f (named_entities P S i f) [] [] codes (subst (λ o. is_case_of P S i o codes ≡ true) e h)

pub are_cases : (P : Program) (S : Family) (i : ℕ) (f : Proc) → slice_get P.procs i ≡ Some f → AreCases P S i (named_lists P S f (named_entities P S i f) [] [])
are_cases P S i f e = record {
  each = λ codes. (in_case P S i f codes e, case_in P S i f codes e);
  ascending = named_ascending P S f (named_entities P S i f) [] [];
}

pub no_cases : (P : Program) (S : Family) (i : ℕ) → slice_get P.procs i ≡ None → AreCases P S i []
no_cases P S i e = record {
  each = λ codes. (λ (k, lt, f). absurd (omega arith), λ h. absurd (let g : is_case_of P S i None codes ≡ true = subst (λ o. is_case_of P S i o codes ≡ true) e h in cc));
  ascending = tt;
}

pub too_many_cases : (P : Program) (S : Family) (i : ℕ) (f : Proc) → slice_get P.procs i ≡ Some f → 64 < length (named_lists P S f (named_entities P S i f) [] []) → AreTooMany P S i
too_many_cases P S i f e many = record { lists = named_lists P S f (named_entities P S i f) [] []; all = are_cases P S i f e; many = many }

-- ---- as the code gives it

pub pick_none : {T : Type 0} (o : Option T) (A : Type 0) (B : T → Type 0) → o ≡ None → MatchOption o A B → A
pick_none None A B e h = h
pick_none (Some x) A B e h = absurd (cc)

pub pick_some : {T : Type 0} (o : Option T) (x : T) (A : Type 0) (B : T → Type 0) → o ≡ Some x → MatchOption o A B → B x
pick_some None x A B e h = absurd (cc)
pick_some (Some y) x A B e h = let f : y ≡ x = cc in subst B f h

codes_long : (cs : List Case) → length (codes_of cs) ≡ length cs
codes_long [] = refl
codes_long (c ∷ cs) = ap suc (codes_long cs)

pub cases_few : (P : Program) (S : Family) (i : ℕ) (f : Proc) (cases : List Case) (lists : List (List ℕ)) → slice_get P.procs i ≡ Some f → codes_of cases ≡ lists →
    (lists ≡ named_lists P S f (named_entities P S i f) [] []) × (length lists ≤ 64) → AreCases P S i (codes_of cases) × (length cases ≤ 64)
cases_few P S i f cases lists e same h = (
  subst (AreCases P S i) (sym (same ∙ h.0)) (are_cases P S i f e),
  (let k : length (codes_of cases) ≡ length cases = codes_long cases in let m : length (codes_of cases) ≡ length lists = ap length same in let few = h.1 in omega arith),
)
