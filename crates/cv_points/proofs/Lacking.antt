-- What a family lacks for a part it lacks for the whole; rules that stand past the last number.
use Rattle.std.proofs.Common.{refl, ℕ, zero, suc, ◌≡◌, ◌<◌, ◌≤◌, Bool, true, false, List, [], ◌∷◌, length, Option, Some, None, subst, sym, ap, arith, if◌then◌else◌, slice_get, inl, inr, bytes_eq, codes}
use Rattle.std.proofs.lemmas.Bool.{cases_lt}
use Rattle.std.specs.Option.{MatchOption}
use Rattle.cv_core.specs.Names.{Name, malloc_site, place_of}
use Rattle.cv_core.specs.declared.program.AnyOperand.{AnyOperand}
use Rattle.cv_core.specs.declared.program.Form.{Form}
use Rattle.cv_core.specs.declared.program.Proc.{Proc}
use Rattle.cv_core.specs.declared.program.ProcBody.{ProcBody}
use Rattle.cv_core.specs.declared.program.Program.{Program}
use Rattle.cv_core.specs.declared.program.Form.TheVariants as form
use Rattle.cv_points.specs.Closed.{Family, MaybeHolds, argument_count, argument_rule, body_rule, both, called_rule, form_rule, place_in, procedure_rule}
use Rattle.cv_points.specs.Holders.{first_holder}
use Rattle.cv_points.specs.Missing.{Lacks, MaybeMissing}
use Rattle.cv_points.specs.declared.missing.Missing.{Missing}
use Rattle.cv_points.specs.declared.rules.Rule.{Rule}
use Rattle.cv_points.specs.declared.rules.Rule.TheVariants as rule

pub lacks_part : (S : Family) (Q W : Family → Type 0) (to site : ℕ) → ((R : Family) → W R → Q R) → Lacks S Q to site → Lacks S W to site
lacks_part S Q W to site part h = record { absent = h.absent; fails = λ k. h.fails (part S k); asked = λ R fits long within k. h.asked R fits long within (part R k) }

pub lacks_rule : (P : Program) (S : Family) (r : Option Rule) (to site : ℕ) → MaybeMissing P S r to site → Lacks S (λ R. MaybeHolds P R r) to site
lacks_rule P S None to site h = absurd h
lacks_rule P S (Some r) to site h = record { absent = h.absent; fails = h.fails; asked = h.asked }

pub answer_by_rule : (P : Program) (S : Family) (r : Option Rule) (o : Option Missing) → MatchOption o (MaybeHolds P S r) (λ m. MaybeMissing P S r m.to m.site) →
    MatchOption o (MaybeHolds P S r) (λ m. Lacks S (λ R. MaybeHolds P R r) m.to m.site)
answer_by_rule P S r None h = h
answer_by_rule P S r (Some m) h = lacks_rule P S r m.to m.site h

-- ---- numbers

pub each_number : (P : ℕ → Type 0) (count i : ℕ) → count ≤ i → ((n : ℕ) → count ≤ n → P n) → ((k : ℕ) → k < i → P k) → (n : ℕ) → P n
each_number P count i le past before n = elim (cases_lt n i) [ inl lt ↦ before n lt | inr ge ↦ past n (omega arith) ]

pub from_first : (P : ℕ → Type 0) → P 0 → ((n : ℕ) → P (suc n)) → (n : ℕ) → P n
from_first P first later zero = first
from_first P first later (suc n) = later n

pub get-past : {X : Type 0} (xs : List X) (n : ℕ) → length xs ≤ n → slice_get xs n ≡ None
get-past [] n h = refl
get-past (x ∷ xs) zero h = absurd (omega arith)
get-past (x ∷ xs) (suc n) h = get-past xs n (omega arith)

no_argument : (first : ℕ) (f : Proc) (start : ℕ) (g : Proc) (args : List AnyOperand) (n : ℕ) → length args ≤ n → argument_rule first f start g (slice_get args n) (slice_get g.formals n) ≡ None
no_argument first f start g args n h = ap (λ a. argument_rule first f start g a (slice_get g.formals n)) (get-past args n h)

body_past : (b : Option ProcBody) (r : Option Rule) → r ≡ None → body_rule b r ≡ None
body_past None r e = refl
body_past (Some b) r e = e

called_past : (P : Program) (first : ℕ) (f : Proc) (into : Option Name) (args : List AnyOperand) (j : ℕ) (g : Option Proc) (n : ℕ) → length args ≤ n → called_rule P first f into args j g (suc n) ≡ None
called_past P first f into args j None n h = refl
called_past P first f into args j (Some g) n h = body_past g.body (argument_rule first f (first_holder P j) g (slice_get args n) (slice_get g.formals n)) (no_argument first f (first_holder P j) g args n h)

procedure_past : (P : Program) (first : ℕ) (f : Proc) (into : Option Name) (args : List AnyOperand) (j : Option ℕ) (n : ℕ) → length args ≤ n → procedure_rule P first f into args j (suc n) ≡ None
procedure_past P first f into args None n h = refl
procedure_past P first f into args (Some j) n h = called_past P first f into args j (slice_get P.procs j) n h

call_past : (P : Program) (S : Family) (b : Bool) (m r z : Option Rule) → r ≡ None → MaybeHolds P S (if b then m else z) → MaybeHolds P S (if b then m else r)
call_past P S true m r z e h = h
call_past P S false m r z e h = subst (λ v. MaybeHolds P S v) (sym e) tt

pub form_past : (P : Program) (S : Family) (i : ℕ) (f : Proc) (k : ℕ) (m : Form) (n : ℕ) → argument_count m ≤ n → MaybeHolds P S (form_rule P i f k m 0) → MaybeHolds P S (form_rule P i f k m (suc n))
form_past P S i f k (form.Call into g args) n h z =
    call_past P S (bytes_eq g (codes "malloc")) (both (λ to s. rule.Has to s) (place_in (first_holder P i) f into) (Some (malloc_site P i k)))
    (procedure_rule P (first_holder P i) f into args (place_of (λ (q : Proc). q.name) g P.procs) (suc n))
    (procedure_rule P (first_holder P i) f into args (place_of (λ (q : Proc). q.name) g P.procs) 0)
    (procedure_past P (first_holder P i) f into args (place_of (λ (q : Proc). q.name) g P.procs) n h) z
form_past P S i f k m n h z = z

pub none_some : {X : Type 0} (x : X) → None ≡ Some x → ⊥
none_some x e = cc
