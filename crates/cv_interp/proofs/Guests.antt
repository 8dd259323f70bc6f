-- A call leads from a sound state to a sound one.
use Rattle.std.proofs.Common.{◌≡◌, refl, sym, ap, subst, ◌∙◌, ℕ, ◌+◌, ◌<◌, ◌^◌, Bool, true, false, List, length, map, Option, Some, None, Ok, arith, pos}
use Rattle.std.specs.Prelude.{All, IsSome, slice_get, codes, if◌then◌else◌}
use Rattle.std.specs.List.{list_all}
use Rattle.std.specs.Str.{bytes_eq}
use Rattle.cv_core.specs.Both.{first_true, second_true}
use Rattle.cv_core.specs.Grammar.{IsBody, IsLocal, IsProc, IsWritten}
use Rattle.cv_core.specs.Kinds.{calls, receives, takes_each}
use Rattle.cv_core.specs.Meant.{built_in, called, kinds_of}
use Rattle.cv_core.specs.Names.{Name, locals_of, local_site, malloc_site, place_of}
use Rattle.cv_core.specs.declared.faults.ErrKind.{ErrKind}
use Rattle.cv_core.specs.declared.faults.ErrKind.TheVariants as err
use Rattle.cv_core.specs.declared.program.Program.{Program}
use Rattle.cv_core.specs.declared.program.Proc.{Proc}
use Rattle.cv_core.specs.declared.program.ProcBody.{ProcBody}
use Rattle.cv_core.specs.declared.program.AnyOperand.{AnyOperand}
use Rattle.cv_meaning.specs.declared.memory.Value.TheVariants as value
use Rattle.cv_meaning.specs.Checked.{Checked, unless}
use Rattle.cv_meaning.specs.Memory.{cell_at, is_no_literal, may_change}
use Rattle.cv_meaning.specs.State.{Frame, State, any_value, make_locals}
use Rattle.cv_meaning.specs.Call.{Turn, Enters, as_turn, call, call_named, call_proc, call_turn, entered, entry_turn, extern_answer, first_number, getchar, malloc, may_enter, permitted, putchar}
use Rattle.cv_interp.proofs.Arriving.{IsEntered, arguments_fit, locals_entered}
use Rattle.cv_interp.proofs.Calling.{IsPlain, Leads_on, getchar_later, give_later, into_plain, into_slot, malloc_later, putchar_later, world_state}
use Rattle.cv_interp.proofs.Kept.{locals_cells}
use Rattle.cv_interp.proofs.Limited.{all_at}
use Rattle.cv_interp.proofs.Named.{called_is}
use Rattle.cv_interp.specs.Called.{IsInto}
use Rattle.cv_interp.specs.Sound.{IsFit, IsState}

-- ---- tests before a call

unless_on : (P : Program) (f : Frame) (s : State) (b : Bool) (e : ErrKind) (c : Checked Turn) → Leads_on P f s (as_turn c) → Leads_on P f s (as_turn (unless b e c))
unless_on P f s true e c h = h
unless_on P f s false e c h = tt

-- ---- a procedure is entered

entry_state : (P : Program) (f g : Frame) (site : ℕ) (s : State) → All IsLocal (locals_of g.proc.body) → g.permit.first ≡ length s.memory → IsState P f s →
    IsEntered g.proc (record s { vars = g.formals }) (make_locals P site (locals_of g.proc.body) (record s { vars = g.formals })) →
    IsState P g (make_locals P site (locals_of g.proc.body) (record s { vars = g.formals }))
entry_state P f g site s fine first i e = record {
  fit = e.fit;
  memory = e.memory;
  globals = λ j d at c. e.keeps j (i.globals j d at c);
  locals = λ j l at c.
      subst (λ n. IsSome (cell_at (make_locals P site (locals_of g.proc.body) (record s { vars = g.formals })).memory (n + j))) (sym first)
      (locals_cells P (locals_of g.proc.body) l c site (record s { vars = g.formals }) j at);
}

entry_enters : (P : Program) (f g : Frame) (site : ℕ) (s : State) → slice_get P.procs g.number ≡ Some g.proc → All IsLocal (locals_of g.proc.body) → g.permit.first ≡ length s.memory →
    IsFit g.proc s.memory g.formals → IsState P f s → Leads_on P f s (Enters g (make_locals P site (locals_of g.proc.body) (record s { vars = g.formals })))
entry_enters P f g site s there fine first fit i =
    let e = locals_entered P g.proc site (locals_of g.proc.body) (record s { vars = g.formals }) fine fit i.memory in
    (there, first, entry_state P f g site s fine first i e, e.keeps)

entry_later : (P : Program) (f g : Frame) (k : ℕ) (into : Option Name) (b : Option ProcBody) (s : State) → b ≡ g.proc.body → IsPlain f.proc into →
    slice_get P.procs g.number ≡ Some g.proc → All IsLocal (locals_of g.proc.body) → g.permit.first ≡ length s.memory → IsFit g.proc s.memory g.formals → IsState P f s →
    Leads_on P f s (entry_turn P f g k into b s)
entry_later P f g k into None s is plain there fine first fit i = give_later P f into (value.Int (extern_answer P g s)) _ plain tt (world_state P f s _ s.output i)
entry_later P f g k into (Some b) s is plain there fine first fit i =
    subst (λ (o : Option ProcBody). Leads_on P f s (Enters g (make_locals P (local_site P g.number) (locals_of o) (record s { vars = g.formals })))) (sym is)
    (entry_enters P f g (local_site P g.number) s there fine first fit i)

-- ---- a procedure of the program

written_locals : (b : Option ProcBody) → IsBody b → All IsLocal (locals_of b)
written_locals None h = λ i d lt. absurd (omega arith)
written_locals (Some b) h = h.0

proc_later : (P : Program) (f : Frame) (i k : ℕ) (into : Option Name) (args : List AnyOperand) (s : State) (g : Proc) → IsWritten P → slice_get P.procs i ≡ Some g →
    IsPlain f.proc into → takes_each P f.proc (kinds_of g) args ≡ true → IsState P f s → Leads_on P f s (call_turn P f (entered P i g (map (any_value s.vars) args) s.memory) k into s)
proc_later P f i k into args s g written there plain takes h =
    let p : IsProc g = all_at IsProc P.procs i g written.procs there in
    let guest : Frame = entered P i g (map (any_value s.vars) args) s.memory in
    unless_on P f s (may_enter P guest) err.Requires (permitted f.permit guest.permit.allowed (Ok (entry_turn P f guest k into g.body s)))
    (unless_on P f s (list_all (is_no_literal f.permit) guest.permit.allowed) err.Literal (unless (list_all (may_change f.permit) guest.permit.allowed) err.Modifies (Ok (entry_turn P f guest k into g.body s)))
    (unless_on P f s (list_all (may_change f.permit) guest.permit.allowed) err.Modifies (Ok (entry_turn P f guest k into g.body s))
    (entry_later P f guest k into g.body s refl plain there (written_locals g.body p.body) refl (arguments_fit P f.proc g s.memory s.vars args h.fit takes) h)))

calls_proc : (P : Program) (f : Proc) (into : Option Name) (args : List AnyOperand) (o : Option Proc) (g : Proc) → o ≡ Some g → calls P f into args None o ≡ true →
    IsPlain f into × (takes_each P f (kinds_of g) args ≡ true)
calls_proc P f into args None g e h = absurd (cc)
calls_proc P f into args (Some d) g e h =
    let same : d ≡ g = cc in (
      into_plain P f d.answer into (first_true (receives P f d.answer into) (takes_each P f (kinds_of d) args) h),
      subst (λ (p : Proc). takes_each P f (kinds_of p) args ≡ true) same (second_true (receives P f d.answer into) (takes_each P f (kinds_of d) args) h),
    )

at_later : (P : Program) (f : Frame) (x : Name) (i k : ℕ) (into : Option Name) (args : List AnyOperand) (s : State) (o : Option Proc) → slice_get P.procs i ≡ o →
    place_of (λ h. h.name) x P.procs ≡ Some i → IsWritten P → calls P f.proc into args None (called P x) ≡ true → IsState P f s →
    Leads_on P f s (call_proc P f k into i (map (any_value s.vars) args) s o)
at_later P f x i k into args s None there at written h state = (state, λ o c. c)
at_later P f x i k into args s (Some g) there at written h state =
    let p = calls_proc P f.proc into args (called P x) g (called_is P x i g at there) h in
    proc_later P f i k into args s g written there p.0 p.1 state

named_later : (P : Program) (f : Frame) (x : Name) (k : ℕ) (into : Option Name) (args : List AnyOperand) (s : State) (o : Option ℕ) → place_of (λ h. h.name) x P.procs ≡ o →
    IsWritten P → calls P f.proc into args None (called P x) ≡ true → IsState P f s → Leads_on P f s (call_named P f k into o (map (any_value s.vars) args) s)
named_later P f x k into args s None at written h state = (state, λ o c. c)
named_later P f x k into args s (Some i) at written h state = at_later P f x i k into args s (slice_get P.procs i) refl at written h state

-- ---- the destination

pub call_plain : (P : Program) (f : Proc) (into : Option Name) (args : List AnyOperand) (b : _) (o : Option Proc) → calls P f into args b o ≡ true → IsPlain f into
call_plain P f into args (Some b) o h = into_plain P f _ into (first_true _ _ h)
call_plain P f into args None None h = absurd (cc)
call_plain P f into args None (Some g) h = into_plain P f g.answer into (first_true _ _ h)

pub call_slot : (P : Program) (f : Proc) (into : Option Name) (args : List AnyOperand) (b : _) (o : Option Proc) → calls P f into args b o ≡ true → IsInto f into
call_slot P f into args (Some b) o h = into_slot P f _ into (first_true _ _ h)
call_slot P f into args None None h = absurd (cc)
call_slot P f into args None (Some g) h = into_slot P f g.answer into (first_true _ _ h)

-- ---- every call

none_built : (x : Name) → bytes_eq x (codes "malloc") ≡ false → bytes_eq x (codes "getchar") ≡ false → bytes_eq x (codes "putchar") ≡ false → built_in x ≡ None
none_built x e f g = rw (e, f, g) refl

by_name : (P : Program) (f : Frame) (x : Name) (k : ℕ) (into : Option Name) (args : List AnyOperand) (s : State) (a b d : Bool) (site : ℕ) →
    ((n : ℕ) → first_number (map (any_value s.vars) args) ≡ pos n → n < 2 ^ 31) → IsWritten P → IsPlain f.proc into →
    (a ≡ false → b ≡ false → d ≡ false → calls P f.proc into args None (called P x) ≡ true) → IsState P f s →
    Leads_on P f s (
    if a then malloc P (first_number (map (any_value s.vars) args)) site f k into s
    else if b then getchar P f k into s
    else if d then putchar P (first_number (map (any_value s.vars) args)) f k into s
    else call_named P f k into (place_of (λ h. h.name) x P.procs) (map (any_value s.vars) args) s
    )
by_name P f x k into args s true b d site small written plain h state = malloc_later P (first_number (map (any_value s.vars) args)) site f k into s small plain state
by_name P f x k into args s false true d site small written plain h state = getchar_later P f k into s plain state
by_name P f x k into args s false false true site small written plain h state = putchar_later P (first_number (map (any_value s.vars) args)) f k into s plain state
by_name P f x k into args s false false false site small written plain h state = named_later P f x k into args s (place_of (λ h. h.name) x P.procs) refl written (h refl refl refl) state

pub call_later : (P : Program) (f : Frame) (x : Name) (k : ℕ) (into : Option Name) (args : List AnyOperand) (s : State) →
    ((n : ℕ) → first_number (map (any_value s.vars) args) ≡ pos n → n < 2 ^ 31) → IsWritten P → calls P f.proc into args (built_in x) (called P x) ≡ true → IsState P f s →
    Leads_on P f s (call P f k into x (map (any_value s.vars) args) s)
unfolding call
call_later P f x k into args s small written h state =
    by_name P f x k into args s (bytes_eq x (codes "malloc")) (bytes_eq x (codes "getchar")) (bytes_eq x (codes "putchar")) (malloc_site P f.number k) small written
    (call_plain P f.proc into args (built_in x) (called P x) h) (λ e g j. ap (λ b. calls P f.proc into args b (called P x)) (sym (none_built x e g j)) ∙ h) state
