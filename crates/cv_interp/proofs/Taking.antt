-- A step of a machine that has ended, or that stands behind its last statement.
use Rattle.std.proofs.Common.{◌≡◌, refl, sym, ap, subst, ◌∙◌, ℕ, zero, suc, ◌+◌, ◌<◌, ◌≤◌, false, List, [], ◌∷◌, length, get_or, Some, None, arith}
use Rattle.std.specs.Prelude.{slice_get}
use Rattle.std.proofs.lemmas.Option.{slice_get-get_or}
use Rattle.cv_core.specs.Names.{stmts_of}
use Rattle.cv_core.specs.declared.program.Stmt.{Stmt}
use Rattle.cv_interp.specs.declared.machine.Core.{Core}
use Rattle.cv_interp.specs.declared.machine.Ended.{Ended}
use Rattle.cv_interp.specs.declared.machine.Turn.{Turn}
use Rattle.cv_interp.specs.declared.machine.Turn.TheVariants as answers
use Rattle.cv_interp.specs.Good.{Leads, ended_how}
use Rattle.cv_interp.specs.Machine.{at_call, end, form_held, is_call, stands_at_call, turn_of}
use Rattle.cv_interp.specs.Stack.{stack_of}
use Rattle.cv_interp.proofs.Leads as leads
use Rattle.cv_interp.proofs.Running.{ended_leads}

-- ---- the statement of a place

pub got : (xs ys : List Stmt) (i : ℕ) (x : Stmt) → xs ≡ ys → i < length xs → x ≡ get_or xs i x → slice_get ys i ≡ Some x
got xs ys i x e lt is = subst (λ (zs : List Stmt). slice_get zs i ≡ Some x) e (slice_get-get_or xs i x lt ∙ ap Some (sym is))

past : (xs : List Stmt) (i : ℕ) → length xs ≤ i → slice_get xs i ≡ None
past [] zero le = refl
past [] (suc i) le = refl
past (x ∷ xs) zero le = absurd (omega arith)
past (x ∷ xs) (suc i) le = let h : length xs ≤ i = omega arith in past xs i h

pub none_got : (xs ys : List Stmt) (i : ℕ) → xs ≡ ys → length xs ≤ i → slice_get ys i ≡ None
none_got xs ys i e le = subst (λ (zs : List Stmt). slice_get zs i ≡ None) e (past xs i le)

-- ---- where it leads

pub none_leads : (c : Core) → c.ended ≡ None → slice_get (stmts_of c.running.proc.now.body) c.at ≡ None → Leads (stack_of c) answers.On (stack_of c)
none_leads c on at =
    let stands : (n : ℕ) → end (stack_of c) n ≡ end (stack_of c) (1 + n) = leads.stays (stack_of c) on at in
    record { turn = sym (ap turn_of (leads.on_now (stack_of c) (stack_of c) on stands)); stands = stands }

pub end_leads : (c : Core) (e : Ended) (t : Turn) → c.ended ≡ Some e → t ≡ turn_of (ended_how e) → Leads (stack_of c) t (stack_of c)
end_leads c e t done is = let h = ended_leads (stack_of c) e done in record { turn = is ∙ h.turn; stands = h.stands }

-- where it does not stand at a call, the statement is none
pub no_call : (c : Core) (st : Stmt) → c.ended ≡ None → slice_get (stmts_of c.running.proc.now.body) c.at ≡ Some st → at_call (stack_of c) ≡ false → is_call st.form ≡ false
no_call c st on at h =
    sym (ap (stands_at_call (stack_of c)) on ∙ ap (λ o. is_call (form_held o)) at) ∙ h
