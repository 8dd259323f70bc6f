-- What the limits and the grammar say of each procedure.
use Rattle.std.proofs.Common.{◌≡◌, refl, sym, ap, subst, ◌∙◌, ℕ, zero, suc, ◌+◌, ◌<◌, ◌≤◌, Bool, true, false, ◌||◌, cond, List, [], ◌∷◌, length, Option, Some, None, arith, get_or}
use Rattle.std.specs.Prelude.{All, slice_get}
use Rattle.std.specs.List.{find, list_any}
use Rattle.std.proofs.lemmas.Bool.{ltb-false}
use Rattle.std.proofs.lemmas.Option.{slice_get-get_or}
use Rattle.cv_core.specs.Grammar.{IsBody, IsForm, IsProc, IsStmt, IsWritten}
use Rattle.cv_core.specs.Limits.{first_limit, has_many_parts, is_passed, part_count, passes, tested}
use Rattle.cv_core.specs.Within.{any_at, none_at, or_first, or_second}
use Rattle.cv_core.specs.Names.{locals_of, stmts_at, stmts_of}
use Rattle.cv_core.specs.declared.faults.LimitName.TheVariants as limit
use Rattle.cv_core.specs.declared.program.Program.{Program}
use Rattle.cv_core.specs.declared.program.Proc.{Proc}
use Rattle.cv_core.specs.declared.program.ProcBody.{ProcBody}
use Rattle.cv_core.specs.declared.program.Stmt.{Stmt}
use Rattle.cv_core.specs.declared.program.Atom.{Atom}
use Rattle.cv_core.specs.declared.program.Atom.TheVariants as atom
use Rattle.cv_meaning.specs.Few.{AreFew, HasFewParts}

-- ---- lists

pub inside : {X : Type 0} (xs : List X) (i : ℕ) (x : X) → slice_get xs i ≡ Some x → i < length xs
inside [] zero x e = absurd (cc)
inside [] (suc i) x e = absurd (cc)
inside (y ∷ ys) zero x e = omega arith
inside (y ∷ ys) (suc i) x e = let h = inside ys i x e in omega arith

pub all_at : {X : Type 0} (Q : X → Type 0) (xs : List X) (i : ℕ) (x : X) → All Q xs → slice_get xs i ≡ Some x → Q x
all_at Q xs i x h e =
    let lt : i < length xs = inside xs i x e in
    let same : Some (get_or xs i x) ≡ Some x = sym (slice_get-get_or xs i x lt) ∙ e in
    let is : get_or xs i x ≡ x = cc in
    subst Q is (h i x lt)

all_of : {X : Type 0} (p : X → Bool) (Q : X → Type 0) (xs : List X) → list_any p xs ≡ false → ((x : X) → p x ≡ false → Q x) → All Q xs
all_of p Q xs e h = λ i d lt. h (get_or xs i d) (any_at p xs i (get_or xs i d) e (slice_get-get_or xs i d lt))

-- ---- the limits

few_parts : (a : Atom) → passes limit.Parts (part_count a) ≡ false → HasFewParts a
few_parts (atom.Null p equal) e = tt
few_parts (atom.Nullt p) e = tt
few_parts (atom.Clear p) e = tt
few_parts (atom.Fresh p) e = tt
few_parts (atom.Apart p q) e = tt
few_parts (atom.SameBase p q) e = tt
few_parts (atom.Compare left r right) e = ltb-false 12 (length left + length right) e

pub are_few : (P : Program) (i : ℕ) (f : Proc) → first_limit P ≡ None → slice_get P.procs i ≡ Some f → AreFew f.contract
are_few P i f e at =
    let parts : has_many_parts f.contract ≡ false =
    any_at (λ (g : Proc). has_many_parts g.contract) P.procs i f (none_at (is_passed P) tested 8 limit.Parts e refl) at in
    record {
      needs = all_of (λ a. passes limit.Parts (part_count a)) HasFewParts f.contract.needs (or_first _ _ parts) few_parts;
      gives = all_of (list_any (λ a. passes limit.Parts (part_count a))) (All HasFewParts) f.contract.gives (or_second _ _ parts)
          (λ atoms h. all_of (λ a. passes limit.Parts (part_count a)) HasFewParts atoms h few_parts);
    }

-- ---- the grammar

body_form : (b : Option ProcBody) (k : ℕ) (s : Stmt) → IsBody b → slice_get (stmts_of b) k ≡ Some s → IsForm s.form
body_form None zero s h e = absurd (cc)
body_form None (suc k) s h e = absurd (cc)
body_form (Some b) k s h e = (all_at IsStmt b.stmts k s h.1 e).1

pub form_written : (P : Program) (i k : ℕ) (f : Proc) (s : Stmt) → IsWritten P → slice_get P.procs i ≡ Some f → slice_get (stmts_of f.body) k ≡ Some s → IsForm s.form
form_written P i k f s w at there = let p : IsProc f = all_at IsProc P.procs i f w.procs at in body_form f.body k s p.body there

-- ---- the statements of a procedure

pub stmts_at_is : (fs : List Proc) (i : ℕ) (f : Proc) → slice_get fs i ≡ Some f → stmts_at fs i ≡ stmts_of f.body
stmts_at_is [] zero f e = absurd (cc)
stmts_at_is [] (suc i) f e = absurd (cc)
stmts_at_is (g ∷ gs) zero f e = let same : g ≡ f = cc in ap (λ (h : Proc). stmts_of h.body) same
stmts_at_is (g ∷ gs) (suc i) f e = stmts_at_is gs i f e
