-- The range of an extern procedure, as the numbers of its two atoms.
use Rattle.std.proofs.Common.{◌≡◌, refl, ap, ℕ, Bool, true, false, not, ◌&&◌, List, [], ◌∷◌, Option, Some, None, arith, ℤ, pos, ◌+ℤ◌}
use Rattle.std.specs.Prelude.{slice_get, if◌then◌else◌}
use Rattle.std.specs.Option.{is_none, unwrap_or}
use Rattle.std.proofs.lemmas.Int.{ints}
use Rattle.cv_core.specs.Both.{second_true}
use Rattle.cv_core.specs.Headings.{ascend, breaks_extern, gives_range, greatest_of, has_extern_form, is_range, is_subject, least_of, lone_number, lone_term, number_alone}
use Rattle.cv_core.specs.declared.program.Proc.{Proc}
use Rattle.cv_core.specs.declared.program.ProcBody.{ProcBody}
use Rattle.cv_core.specs.declared.program.Atom.{Atom}
use Rattle.cv_core.specs.declared.program.Atom.TheVariants as atom
use Rattle.cv_core.specs.declared.program.LinPart.{LinPart}
use Rattle.cv_core.specs.declared.program.Term.{Term}
use Rattle.cv_core.specs.declared.program.Rel.TheVariants as rel
use Rattle.cv_meaning.specs.Call.{bound, first_alternative}
use Rattle.cv_meaning.specs.Contract.{Scene, lin_value, signed}
use Rattle.cv_interp.specs.Called.{bound_by, lone_or_zero, number_or_zero}

signed_number : (b : Bool) (k : ℕ) → signed b (pos k) +ℤ pos 0 ≡ number_or_zero b (Some k)
signed_number true k = omega (arith, ints)
signed_number false k = omega (arith, ints)

lin_alone : (s : Scene) (p : LinPart) (k : Option ℕ) (t : Option Term) (z : ℤ) → p.number ≡ k → p.term ≡ t → number_alone p.negative k t ≡ Some z →
    lin_value s (p ∷ []) ≡ Some (number_or_zero p.negative p.number)
lin_alone s p None t z e f h = absurd (cc)
lin_alone s p (Some k) (Some t) z e f h = absurd (cc)
lin_alone s p (Some k) None z e f h = rw (e, f) (ap Some (signed_number p.negative k))

bound_lone : (s : Scene) (parts : List LinPart) (z : ℤ) → lone_number parts ≡ Some z → unwrap_or (lin_value s parts) (pos 0) ≡ lone_or_zero parts
bound_lone s [] z h = absurd (cc)
bound_lone s (p ∷ []) z h = ap (λ (o : Option ℤ). unwrap_or o (pos 0)) (lin_alone s p p.number p.term z refl refl h)
bound_lone s (p ∷ q ∷ ps) z h = absurd (cc)

if_some : (b : Bool) (o : Option ℤ) (z : ℤ) → (if b then o else None) ≡ Some z → o ≡ Some z
if_some true o z h = h
if_some false o z h = absurd (cc)

pub least_bound : (s : Scene) (a : Atom) (z : ℤ) → least_of None a ≡ Some z → bound s (Some a) ≡ bound_by (Some a)
least_bound s (atom.Null p equal) z h = absurd (cc)
least_bound s (atom.Nullt p) z h = absurd (cc)
least_bound s (atom.Clear p) z h = absurd (cc)
least_bound s (atom.Fresh p) z h = absurd (cc)
least_bound s (atom.Apart p q) z h = absurd (cc)
least_bound s (atom.SameBase p q) z h = absurd (cc)
least_bound s (atom.Compare left rel.Eq right) z h = absurd (cc)
least_bound s (atom.Compare left rel.Ne right) z h = absurd (cc)
least_bound s (atom.Compare left rel.Lt right) z h = absurd (cc)
least_bound s (atom.Compare left rel.Le right) z h = absurd (cc)
least_bound s (atom.Compare left rel.Gt right) z h = absurd (cc)
least_bound s (atom.Compare left rel.Ge right) z h = bound_lone s right z (if_some (is_subject None (lone_term left)) (lone_number right) z h)

pub greatest_bound : (s : Scene) (a : Atom) (z : ℤ) → greatest_of None a ≡ Some z → bound s (Some a) ≡ bound_by (Some a)
greatest_bound s (atom.Null p equal) z h = absurd (cc)
greatest_bound s (atom.Nullt p) z h = absurd (cc)
greatest_bound s (atom.Clear p) z h = absurd (cc)
greatest_bound s (atom.Fresh p) z h = absurd (cc)
greatest_bound s (atom.Apart p q) z h = absurd (cc)
greatest_bound s (atom.SameBase p q) z h = absurd (cc)
greatest_bound s (atom.Compare left rel.Eq right) z h = absurd (cc)
greatest_bound s (atom.Compare left rel.Ne right) z h = absurd (cc)
greatest_bound s (atom.Compare left rel.Lt right) z h = absurd (cc)
greatest_bound s (atom.Compare left rel.Ge right) z h = absurd (cc)
greatest_bound s (atom.Compare left rel.Gt right) z h = absurd (cc)
greatest_bound s (atom.Compare left rel.Le right) z h = bound_lone s right z (if_some (is_subject None (lone_term left)) (lone_number right) z h)

ascends : (a b : Option ℤ) → ascend a b ≡ true → (x : ℤ) × (y : ℤ) × (a ≡ Some x) × (b ≡ Some y)
ascends None b h = absurd (cc)
ascends (Some x) None h = absurd (cc)
ascends (Some x) (Some y) h = (x, y, refl, refl)

-- both numbers of a range
pub range_bounds : (s : Scene) (atoms : List Atom) → is_range None atoms ≡ true →
    (bound s (slice_get atoms 0) ≡ bound_by (slice_get atoms 0)) × (bound s (slice_get atoms 1) ≡ bound_by (slice_get atoms 1))
range_bounds s [] h = absurd (cc)
range_bounds s (a ∷ []) h = absurd (cc)
range_bounds s (a ∷ b ∷ c ∷ atoms) h = absurd (cc)
range_bounds s (a ∷ b ∷ []) h = let (x, y, e, f) = ascends (least_of None a) (greatest_of None b) h in (least_bound s a x e, greatest_bound s b y f)

gives_atoms : (gives : List (List Atom)) → gives_range gives ≡ true → is_range None (first_alternative gives) ≡ true
gives_atoms [] h = absurd (cc)
gives_atoms (atoms ∷ []) h = h
gives_atoms (atoms ∷ more ∷ rest) h = absurd (cc)

extern_form : (b : Option ProcBody) (form : Bool) → b ≡ None → (is_none b && not form) ≡ false → form ≡ true
extern_form None true e h = refl
extern_form None false e h = absurd (cc)
extern_form (Some b) form e h = absurd (cc)

pub extern_bounds : (s : Scene) (g : Proc) → breaks_extern g ≡ false → g.body ≡ None →
    (bound s (slice_get (first_alternative g.contract.gives) 0) ≡ bound_by (slice_get (first_alternative g.contract.gives) 0))
    × (bound s (slice_get (first_alternative g.contract.gives) 1) ≡ bound_by (slice_get (first_alternative g.contract.gives) 1))
extern_bounds s g h none = range_bounds s (first_alternative g.contract.gives) (gives_atoms g.contract.gives (second_true _ _ (extern_form g.body (has_extern_form g) none h)))
