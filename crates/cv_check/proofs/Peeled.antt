-- What a list of statements owes, from its first statement on.
use Rattle.std.proofs.Common.{◌≡◌, sym, ap, ◌∙◌, ℕ, suc, ◌≤◌, ◌-◌, Bool, List, [], ◌∷◌, ◌++◌, length, drop, take, slice_index_or, Some, None, arith}
use Rattle.std.proofs.Math.Seq.{take-length}
use Rattle.cv_num.specs.declared.rows.Row.{Row}
use Rattle.cv_farkas.specs.declared.steps.Step.{Step}
use Rattle.cv_core.specs.declared.program.Stmt.{Stmt}
use Rattle.cv_check.specs.Integer.{place, facts}
use Rattle.cv_check.specs.Shown.{Owed, place_owed, stmts_owed, first_rows, later_rows, all_shown}
use Rattle.cv_check.proofs.Appended.{front_fails, back_fails, both_shown}

-- what the first statement owes
abbrev pub first_owed : ℕ → Bool → Stmt → List (List Row) → List Owed
first_owed size target s rows = place_owed (first_rows rows) (first_rows (later_rows rows)) (facts size target) (place size target s.form)

abbrev tail_of : List Stmt → List Stmt
tail_of stmts = take (length stmts - 1) (drop 1 stmts)

peeled : (size : ℕ) (target : Bool) (stmts : List Stmt) (rows : List (List Row)) (s d : Stmt) → 1 ≤ length stmts → s ≡ slice_index_or stmts 0 d →
    stmts_owed size target stmts rows ≡ first_owed size target s rows ++ stmts_owed size target (tail_of stmts) (later_rows rows)
peeled size target [] rows s d le is = absurd (omega arith)
peeled size target (x ∷ xs) rows s d le is =
    let n : suc (length xs) - 1 ≡ length xs = omega arith in
    let t : take (suc (length xs) - 1) xs ≡ xs = rw n (take-length xs) in
    ap (λ (y : Stmt). first_owed size target y rows ++ stmts_owed size target xs (later_rows rows)) (sym is)
    ∙ ap (λ ys. first_owed size target s rows ++ stmts_owed size target ys (later_rows rows)) (sym t)

pub first_fails : (size : ℕ) (target : Bool) (stmts : List Stmt) (rows : List (List Row)) (steps : List Step) (s d : Stmt) → 1 ≤ length stmts → s ≡ slice_index_or stmts 0 d →
    all_shown (first_owed size target s rows) steps ≡ None → all_shown (stmts_owed size target stmts rows) steps ≡ None
first_fails size target stmts rows steps s d le is h =
    ap (λ ws. all_shown ws steps) (peeled size target stmts rows s d le is)
    ∙ front_fails (first_owed size target s rows) (stmts_owed size target (tail_of stmts) (later_rows rows)) steps h

pub later_fails : (size : ℕ) (target : Bool) (stmts : List Stmt) (rows : List (List Row)) (steps left : List Step) (s d : Stmt) (later : List (List Row)) → later ≡ later_rows rows → 1 ≤ length stmts → s ≡ slice_index_or stmts 0 d →
    all_shown (first_owed size target s rows) steps ≡ Some left → all_shown (stmts_owed size target (tail_of stmts) later) left ≡ None →
    all_shown (stmts_owed size target stmts rows) steps ≡ None
later_fails size target stmts rows steps left s d later same le is h k =
    ap (λ ws. all_shown ws steps) (peeled size target stmts rows s d le is)
    ∙ back_fails (first_owed size target s rows) (stmts_owed size target (tail_of stmts) (later_rows rows)) steps left h (sym (ap (λ rs. all_shown (stmts_owed size target (tail_of stmts) rs) left) same) ∙ k)

pub stmts_shown : (size : ℕ) (target : Bool) (stmts : List Stmt) (rows : List (List Row)) (steps left last : List Step) (s d : Stmt) (later : List (List Row)) → later ≡ later_rows rows → 1 ≤ length stmts → s ≡ slice_index_or stmts 0 d →
    all_shown (first_owed size target s rows) steps ≡ Some left → all_shown (stmts_owed size target (tail_of stmts) later) left ≡ Some last →
    all_shown (stmts_owed size target stmts rows) steps ≡ Some last
stmts_shown size target stmts rows steps left last s d later same le is h k =
    ap (λ ws. all_shown ws steps) (peeled size target stmts rows s d le is)
    ∙ both_shown (first_owed size target s rows) (stmts_owed size target (tail_of stmts) (later_rows rows)) steps left last h (sym (ap (λ rs. all_shown (stmts_owed size target (tail_of stmts) rs) left) same) ∙ k)
