-- The rules and targets of all statements are those of each.
use Rattle.std.proofs.Common.{ℕ, zero, suc, ◌≡◌, ◌+◌, Bool, true, false, List, [], ◌∷◌, Option, Some, None, ap, subst, sym, ◌∙◌, arith, map, take, slice_get, slice_index_or, if◌then◌else◌}
use Rattle.std.specs.List.{count_by}
use Rattle.std.proofs.lemmas.List.Sums.{sum_by-cons}
use Rattle.cv_core.specs.Names.{stmts_of}
use Rattle.cv_core.specs.declared.program.Program.{Program}
use Rattle.cv_core.specs.declared.program.Stmt.{Stmt}
use Rattle.cv_ppts.specs.Lacking.{Lacks}
use Rattle.cv_ppts.specs.Plain.{MaybeHolds, Sets, plain_rule}
use Rattle.cv_ppts.specs.Planned.{IsPlan, later_targets}
use Rattle.cv_ppts.specs.Setting.{Setting, allocates, new_target}
use Rattle.cv_ppts.specs.declared.code.Code.{Code}
use Rattle.cv_ppts.specs.declared.sets.Rule.{Rule}

mapped_at : (F : Stmt → Option Rule) (xs : List Stmt) (k : ℕ) (x : Stmt) → slice_get xs k ≡ Some x → slice_index_or (map F xs) k None ≡ F x
mapped_at F [] k x e = absurd (cc)
mapped_at F (y ∷ ys) zero x e = let f : y ≡ x = cc in ap F f
mapped_at F (y ∷ ys) (suc k) x e = mapped_at F ys k x e

one_more : (b : Bool) (t n : ℕ) → (if b then suc t else t) + n ≡ t + ((if b then 1 else 0) + n)
one_more true t n = omega arith
one_more false t n = omega arith

later_at : (P : Program) (t : ℕ) (xs : List Stmt) (k : ℕ) (x : Stmt) → slice_get xs k ≡ Some x → slice_index_or (later_targets P t xs) k 0 ≡ t + count_by (λ (y : Stmt). allocates P y.form) (take k xs)
later_at P t [] k x e = absurd (cc)
later_at P t (y ∷ ys) zero x e = omega arith
later_at P t (y ∷ ys) (suc k) x e =
    later_at P (if allocates P y.form then suc t else t) ys k x e
    ∙ one_more (allocates P y.form) t (count_by (λ (z : Stmt). allocates P z.form) (take k ys))
    ∙ ap (λ n. t + n) (sym (sum_by-cons (λ (z : Stmt). if allocates P z.form then 1 else 0) y (take k ys)))

target_at : (s : Setting) (targets : List ℕ) (k : ℕ) (x : Stmt) → targets ≡ later_targets s.program (new_target s 0) (stmts_of s.proc.body) → slice_get (stmts_of s.proc.body) k ≡ Some x →
    slice_index_or targets k 0 ≡ new_target s k
target_at s targets k x e f =
    let here = later_at s.program (new_target s 0) (stmts_of s.proc.body) k x f in
    ap (λ ts. slice_index_or ts k 0) e ∙ here ∙ omega arith

pub plan_is : (s : Setting) (rules : List (Option Rule)) (targets : List ℕ) → rules ≡ map (λ (x : Stmt). plain_rule s x.form) (stmts_of s.proc.body) →
    targets ≡ later_targets s.program (new_target s 0) (stmts_of s.proc.body) → IsPlan s rules targets
plan_is s rules targets e f = record {
  rule = λ k x g. ap (λ rs. slice_index_or rs k None) e ∙ mapped_at (λ (y : Stmt). plain_rule s y.form) (stmts_of s.proc.body) k x g;
  target = λ k x g. target_at s targets k x f g;
}

pub rule_as : (s : Setting) (T : Sets) (rule other : Option Rule) (to : ℕ) (code : Code) → rule ≡ other → Lacks T (λ R. MaybeHolds s R rule) to code → Lacks T (λ R. MaybeHolds s R other) to code
rule_as s T rule other to code e l = subst (λ r. Lacks T (λ R. MaybeHolds s R r) to code) e l
