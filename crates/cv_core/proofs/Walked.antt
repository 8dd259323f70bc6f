-- The first fault of statements and of procedures, one after another.
use Rattle.std.proofs.Common.{◌≡◌, refl, ap, sym, ◌∙◌, ℕ, suc, ◌+◌, ◌-◌, ◌≤◌, Bool, List, [], ◌∷◌, ◌++◌, length, Option, Some, None, take, drop, arith, slice_index_or}
use Rattle.std.specs.List.{slice_get}
use Rattle.std.specs.Option.{option_or}
use Rattle.std.proofs.Math.Seq.{take-length}
use Rattle.cv_core.specs.Shape.{body_faults, faults_at, is_last, proc_faults, procs_faults, statement_tests}
use Rattle.cv_core.specs.declared.faults.ShapeFault.{ShapeFault}
use Rattle.cv_core.specs.declared.program.Proc.{Proc}
use Rattle.cv_core.specs.declared.program.Program.{Program}
use Rattle.cv_core.specs.declared.program.Stmt.{Stmt}
use Rattle.cv_core.proofs.Firsts.{first_append}

abbrev pub tail_of : {X : Type 0} → List X → List X
tail_of xs = take (length xs - 1) (drop 1 xs)

pub tail_is : {X : Type 0} (x : X) (xs : List X) → tail_of (x ∷ xs) ≡ xs
tail_is x xs = let m : suc (length xs) - 1 ≡ length xs = omega arith in rw m (take-length xs)

-- ---- statements

abbrev pub statement_faults : Program → ℕ → Proc → Bool → Stmt → List ShapeFault
statement_faults P i f last s = faults_at i s.line (statement_tests P f last s.form)

body_peeled : (P : Program) (i : ℕ) (f : Proc) (ss : List Stmt) (s d : Stmt) → 1 ≤ length ss → s ≡ slice_index_or ss 0 d →
    slice_get (body_faults P i f ss) 0 ≡ option_or (slice_get (statement_faults P i f (is_last (tail_of ss)) s) 0) (slice_get (body_faults P i f (tail_of ss)) 0)
body_peeled P i f [] s d le is = absurd (omega arith)
body_peeled P i f (x ∷ xs) s d le is =
    first_append (statement_faults P i f (is_last xs) x) (body_faults P i f xs)
    ∙ ap (λ y. option_or (slice_get (statement_faults P i f (is_last xs) y) 0) (slice_get (body_faults P i f xs) 0)) (sym is)
    ∙ ap (λ ys. option_or (slice_get (statement_faults P i f (is_last ys) s) 0) (slice_get (body_faults P i f ys) 0)) (sym (tail_is x xs))

pub body_found : (P : Program) (i : ℕ) (f : Proc) (ss : List Stmt) (s d : Stmt) (last : Bool) (e : ShapeFault) → 1 ≤ length ss → s ≡ slice_index_or ss 0 d →
    last ≡ is_last (tail_of ss) → Some e ≡ slice_get (statement_faults P i f last s) 0 → Some e ≡ slice_get (body_faults P i f ss) 0
body_found P i f ss s d last e le is l found =
    ap (λ o. option_or o (slice_get (body_faults P i f (tail_of ss)) 0)) (found ∙ ap (λ b. slice_get (statement_faults P i f b s) 0) l)
    ∙ sym (body_peeled P i f ss s d le is)

pub body_passed : (P : Program) (i : ℕ) (f : Proc) (ss : List Stmt) (s d : Stmt) (last : Bool) → 1 ≤ length ss → s ≡ slice_index_or ss 0 d →
    last ≡ is_last (tail_of ss) → None ≡ slice_get (statement_faults P i f last s) 0 → slice_get (body_faults P i f (tail_of ss)) 0 ≡ slice_get (body_faults P i f ss) 0
body_passed P i f ss s d last le is l none =
    ap (λ o. option_or o (slice_get (body_faults P i f (tail_of ss)) 0)) (none ∙ ap (λ b. slice_get (statement_faults P i f b s) 0) l)
    ∙ sym (body_peeled P i f ss s d le is)

-- ---- procedures

procs_peeled : (P : Program) (i : ℕ) (fs : List Proc) (f d : Proc) → 1 ≤ length fs → f ≡ slice_index_or fs 0 d →
    slice_get (procs_faults P i fs) 0 ≡ option_or (slice_get (proc_faults P i f) 0) (slice_get (procs_faults P (suc i) (tail_of fs)) 0)
procs_peeled P i [] f d le is = absurd (omega arith)
procs_peeled P i (x ∷ xs) f d le is =
    first_append (proc_faults P i x) (procs_faults P (suc i) xs)
    ∙ ap (λ y. option_or (slice_get (proc_faults P i y) 0) (slice_get (procs_faults P (suc i) xs) 0)) (sym is)
    ∙ ap (λ ys. option_or (slice_get (proc_faults P i f) 0) (slice_get (procs_faults P (suc i) ys) 0)) (sym (tail_is x xs))

pub procs_found : (P : Program) (i : ℕ) (fs : List Proc) (f d : Proc) (e : ShapeFault) → 1 ≤ length fs → f ≡ slice_index_or fs 0 d →
    Some e ≡ slice_get (proc_faults P i f) 0 → Some e ≡ slice_get (procs_faults P i fs) 0
procs_found P i fs f d e le is found =
    ap (λ o. option_or o (slice_get (procs_faults P (suc i) (tail_of fs)) 0)) found ∙ sym (procs_peeled P i fs f d le is)

pub procs_passed : (P : Program) (i : ℕ) (fs : List Proc) (f d : Proc) → 1 ≤ length fs → f ≡ slice_index_or fs 0 d →
    None ≡ slice_get (proc_faults P i f) 0 → slice_get (procs_faults P (suc i) (tail_of fs)) 0 ≡ slice_get (procs_faults P i fs) 0
procs_passed P i fs f d le is none =
    ap (λ o. option_or o (slice_get (procs_faults P (suc i) (tail_of fs)) 0)) none ∙ sym (procs_peeled P i fs f d le is)

-- the places of one procedure
pub proc_peeled : (a b d e : List ShapeFault) → slice_get (a ++ b ++ d ++ e) 0 ≡ option_or (option_or (slice_get a 0) (option_or (slice_get b 0) (slice_get d 0))) (slice_get e 0)
proc_peeled [] [] [] e = refl
proc_peeled [] [] (x ∷ d) e = refl
proc_peeled [] (x ∷ b) d e = refl
proc_peeled (x ∷ a) b d e = refl

-- the number of a procedure and how many are left
pub next_passed : (P : Program) (i j : ℕ) (fs : List Proc) (f d : Proc) → j ≡ suc i → 1 ≤ length fs → f ≡ slice_index_or fs 0 d →
    None ≡ slice_get (proc_faults P i f) 0 → slice_get (procs_faults P j (tail_of fs)) 0 ≡ slice_get (procs_faults P i fs) 0
next_passed P i j fs f d next le is none = ap (λ n. slice_get (procs_faults P n (tail_of fs)) 0) next ∙ procs_passed P i fs f d le is none

pub next_count : {X : Type 0} (xs : List X) (i m : ℕ) → 1 ≤ length xs → i + length xs ≡ m → i + 1 + length (tail_of xs) ≡ m
next_count [] i m le e = absurd (omega arith)
next_count (x ∷ xs) i m le e = let t = ap length (tail_is x xs) in omega arith
