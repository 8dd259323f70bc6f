-- A call of a procedure of the program: whether it is entered, and how.
use Rattle.std.proofs.Common.{◌≡◌, refl, sym, ap, subst, ◌∙◌, ℕ, suc, Bool, true, false, List, [], drop, Option, Some, None, Ok, Err, ℤ}
use Rattle.std.specs.Prelude.{slice_get, IsSome}
use Rattle.cv_core.specs.Headings.{breaks_extern}
use Rattle.cv_core.specs.Names.{Name, local_site, locals_of}
use Rattle.cv_core.specs.declared.faults.ErrKind.{ErrKind}
use Rattle.cv_core.specs.declared.faults.ErrKind.TheVariants as err
use Rattle.cv_core.specs.declared.program.Program.{Program}
use Rattle.cv_core.specs.declared.program.Proc.{Proc}
use Rattle.cv_core.specs.declared.program.ProcBody.{ProcBody}
use Rattle.cv_core.specs.declared.program.Local.{Local}
use Rattle.cv_core.specs.declared.program.Atom.{Atom}
use Rattle.cv_meaning.specs.declared.memory.Value.TheVariants as value
use Rattle.cv_meaning.specs.declared.memory.World.{World}
use Rattle.cv_meaning.specs.Call.{Turn, Errs, Goes, Enters, answer_in, as_turn, bound, call_turn, entry_turn, first_alternative, give, may_enter, permitted, scene_of}
use Rattle.cv_meaning.specs.Checked.{Checked, unless}
use Rattle.cv_meaning.specs.Contract.{Env, Scene}
use Rattle.cv_meaning.specs.Memory.{Memory, is_no_literal, may_change}
use Rattle.cv_meaning.specs.State.{Frame, State, make_locals}
use Rattle.std.specs.List.{list_all}
use Rattle.cv_interp.specs.declared.calls.Called.{Called}
use Rattle.cv_interp.specs.declared.store.Activation.{Activation}
use Rattle.cv_interp.specs.declared.store.Room.{Room}
use Rattle.cv_interp.specs.declared.store.Store.{Store}
use Rattle.cv_interp.specs.Called.{IsCalled, bound_by}
use Rattle.cv_interp.specs.Seen.{state_in}
use Rattle.cv_interp.proofs.Asked.{extern_bounds}
use Rattle.cv_interp.proofs.Making.{locals_output}

-- a turn that is the same
pub called_as : (a : Activation) (k : ℕ) (x y : Turn) (s : Store) (c : Called) (t : Store) → x ≡ y → IsCalled a k y s c t → IsCalled a k x s c t
called_as a k x y s c t e h = subst (λ (u : Turn). IsCalled a k u s c t) (sym e) h

-- ---- whether it is entered

two_ok : {A : Type 0} (a b : Bool) (e d : ErrKind) (next : Checked A) → unless {A = Unit {0}} a e (unless b d (Ok tt)) ≡ Ok tt → unless a e (unless b d next) ≡ next
two_ok true true e d next h = refl
two_ok true false e d next h = absurd (cc)
two_ok false b e d next h = absurd (cc)

two_err : {A : Type 0} (a b : Bool) (e d r : ErrKind) (next : Checked A) → unless {A = Unit {0}} a e (unless b d (Ok tt)) ≡ Err r → unless a e (unless b d next) ≡ Err r
two_err true true e d r next h = absurd (cc)
two_err true false e d r next h = let same : d ≡ r = cc in ap Err same
two_err false b e d r next h = let same : e ≡ r = cc in ap Err same

-- the frame that a guest makes, which is that of the meaning
pub calls_refused : (P : Program) (f e g : Frame) (k : ℕ) (into : Option Name) (s : State) → e ≡ g → may_enter P e ≡ false → call_turn P f g k into s ≡ Errs err.Requires
calls_refused P f e g k into s same barred =
    sym (ap (λ (h : Frame). call_turn P f h k into s) same)
    ∙ ap (λ b. as_turn (unless b err.Requires (permitted f.permit e.permit.allowed (Ok (entry_turn P f e k into e.proc.body s))))) barred

pub calls_barred : (P : Program) (f e g : Frame) (k : ℕ) (into : Option Name) (s : State) (r : ErrKind) → e ≡ g → may_enter P e ≡ true →
    permitted {A = Unit {0}} f.permit e.permit.allowed (Ok tt) ≡ Err r → call_turn P f g k into s ≡ Errs r
calls_barred P f e g k into s r same may h =
    sym (ap (λ (h : Frame). call_turn P f h k into s) same)
    ∙ ap (λ b. as_turn (unless b err.Requires (permitted f.permit e.permit.allowed (Ok (entry_turn P f e k into e.proc.body s))))) may
    ∙ ap as_turn (two_err (list_all (is_no_literal f.permit) e.permit.allowed) (list_all (may_change f.permit) e.permit.allowed) err.Literal err.Modifies r
    (Ok (entry_turn P f e k into e.proc.body s)) h)

pub calls_on : (P : Program) (f e g : Frame) (k : ℕ) (into : Option Name) (s : State) → e ≡ g → may_enter P e ≡ true →
    permitted {A = Unit {0}} f.permit e.permit.allowed (Ok tt) ≡ Ok tt → call_turn P f g k into s ≡ entry_turn P f e k into e.proc.body s
calls_on P f e g k into s same may h =
    sym (ap (λ (h : Frame). call_turn P f h k into s) same)
    ∙ ap (λ b. as_turn (unless b err.Requires (permitted f.permit e.permit.allowed (Ok (entry_turn P f e k into e.proc.body s))))) may
    ∙ ap as_turn (two_ok (list_all (is_no_literal f.permit) e.permit.allowed) (list_all (may_change f.permit) e.permit.allowed) err.Literal err.Modifies
    (Ok (entry_turn P f e k into e.proc.body s)) h)

-- ---- an extern procedure

pub asks : (P : Program) (f e : Frame) (k : ℕ) (into : Option Name) (s : State) (z : ℤ) → breaks_extern e.proc ≡ false → e.proc.body ≡ None →
    z ≡ answer_in (bound_by (slice_get (first_alternative e.proc.contract.gives) 0)) (bound_by (slice_get (first_alternative e.proc.contract.gives) 1)) s.world.answers →
    entry_turn P f e k into e.proc.body s
    ≡ Goes (suc k) (give P f into (Some (value.Int z)) (record s { world = record s.world { answers = drop 1 s.world.answers } }))
asks P f e k into s z outside none is =
    let scene : Scene = scene_of P e e.entry None in
    let atoms : List Atom = first_alternative e.proc.contract.gives in
    let bounds = extern_bounds scene e.proc outside none in
    ap (λ (b : Option ProcBody). entry_turn P f e k into b s) none
    ∙ ap (λ x. Goes (suc k) (give P f into (Some (value.Int x)) (record s { world = record s.world { answers = drop 1 s.world.answers } })))
    (ap (λ x. answer_in x (bound scene (slice_get atoms 1)) s.world.answers) bounds.0
    ∙ ap (λ x. answer_in (bound_by (slice_get atoms 0)) x s.world.answers) bounds.1
    ∙ sym is)

-- ---- a procedure with a body

pub enters : (P : Program) (f e : Frame) (k : ℕ) (into : Option Name) (b : Option ProcBody) (s : State) → IsSome b →
    entry_turn P f e k into b s ≡ Enters e (make_locals P (local_site P e.number) (locals_of b) (record s { vars = e.formals }))
enters P f e k into None s h = absurd (cc)
enters P f e k into (Some b) s h = refl

pub same_output : (P : Program) (g : Proc) (w : World) (out : List ℕ) (room : Room) (site : ℕ) (ls : List Local) (vars : Env) (m : Memory) (v : World) →
    state_in g w [] room ≡ make_locals P site ls (record { vars = vars; memory = m; world = v; output = [] }) →
    state_in g w out room ≡ make_locals P site ls (record { vars = vars; memory = m; world = v; output = out })
same_output P g w out room site ls vars m v e =
    ap (λ (s : State). record s { output = out }) e ∙ sym (locals_output P site ls (record { vars = vars; memory = m; world = v; output = [] }) out)
