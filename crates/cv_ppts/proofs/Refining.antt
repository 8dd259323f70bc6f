-- A code that is unknown may become known, and no other changes: what is false by codes stays false.
use Rattle.std.proofs.Common.{refl, ◌≡◌, Bool, true, false, not, ◌||◌, List, [], ◌∷◌, Option, Some, None, ap, subst, sym, ◌∙◌, ◌⊎◌, inl, inr}
use Rattle.cv_core.specs.declared.program.Atom.{Atom}
use Rattle.cv_core.specs.declared.program.LinPart.{LinPart}
use Rattle.cv_core.specs.declared.program.PtrTerm.{PtrTerm}
use Rattle.cv_core.specs.declared.program.Term.{Term}
use Rattle.cv_core.specs.declared.program.Atom.TheVariants as atom
use Rattle.cv_ppts.specs.Paths.{AllocOf, NumberOf, OffsetOf, Path, Reading, StrlenOf, is_before, is_term_before, path_of, reading_of}
use Rattle.cv_ppts.specs.Status.{Codes, apart_status, base_status, code_of, fresh_status, has_object, is_false, known_if, needed, null_status, reading_status, status_of, sum_status, term_status, ◌&◌}
use Rattle.cv_ppts.specs.declared.code.Code.{Code}
use Rattle.cv_ppts.specs.declared.code.Code.TheVariants as code
use Rattle.cv_ppts.specs.declared.status.Status.{Status}
use Rattle.cv_ppts.specs.declared.status.Status.TheVariants as status

-- unknown before, or the same
abbrev pub Later : Code → Code → Type 0
Later k l = (k ≡ code.Unknown) ⊎ (k ≡ l)

abbrev pub LaterIf : Option Code → Option Code → Type 0
LaterIf o p = (o ≡ Some code.Unknown) ⊎ (o ≡ p)

abbrev pub LaterStatus : Status → Status → Type 0
LaterStatus a b = (a ≡ status.Unknown) ⊎ (a ≡ b)

pub record Refines (c d : Codes) : Type 0 where
  pub code : (b : Bool) (x : Path) → LaterIf (c.code b x) (d.code b x)
  pub number : (x : Path) → LaterStatus (c.number x) (d.number x)
  pub dies : (k : Code) → c.dies k ≡ d.dies k

pub later_some : (k l : Code) → Later k l → LaterIf (Some k) (Some l)
later_some k l (inl e) = inl (ap Some e)
later_some k l (inr e) = inr (ap Some e)

-- ---- one code

not_both : (b : Bool) → b ≡ true → b ≡ false → ⊥
not_both b e f = absurd (cc)

one_stays : (f : Option Code → Status) → is_false (f (Some code.Unknown)) ≡ false → (o p : Option Code) → LaterIf o p → is_false (f o) ≡ true → is_false (f p) ≡ true
one_stays f u o p (inl e) h = absurd (not_both (is_false (f (Some code.Unknown))) (subst (λ q. is_false (f q) ≡ true) e h) u)
one_stays f u o p (inr e) h = subst (λ q. is_false (f q) ≡ true) e h

needed_same : (c d : Codes) → ((k : Code) → c.dies k ≡ d.dies k) → (o : Option Code) → needed c o ≡ needed d o
needed_same c d e None = refl
needed_same c d e (Some code.Unknown) = refl
needed_same c d e (Some code.Null) = refl
needed_same c d e (Some (code.Target t)) = ap (λ b. known_if (not b)) (e (code.Target t))
needed_same c d e (Some code.New) = ap (λ b. known_if (not b)) (e code.New)

object_stays : (c d : Codes) → Refines c d → (before : Bool) (p : PtrTerm) → is_false (has_object c before p) ≡ true → is_false (has_object d before p) ≡ true
object_stays c d r before p h =
    ap is_false (sym (needed_same c d r.dies (code_of d before p)))
    ∙ one_stays (needed c) refl (code_of c before p) (code_of d before p) (r.code (before || is_before p) (path_of p)) h

fresh_same : (c d : Codes) (o : Option Code) → fresh_status c false o ≡ fresh_status d false o
fresh_same c d None = refl
fresh_same c d (Some k) = refl

-- ---- two codes

first_unknown : (f : Option Code → Option Code → Status) → ((l : Code) → is_false (f (Some code.Unknown) (Some l)) ≡ false) → ((p : Option Code) → is_false (f p None) ≡ true) →
    (o p q : Option Code) → LaterIf o q → is_false (f (Some code.Unknown) o) ≡ true → is_false (f p q) ≡ true
first_unknown f u n None p q (inl e) h = absurd (cc)
first_unknown f u n None p q (inr e) h = subst (λ r. is_false (f p r) ≡ true) e (n p)
first_unknown f u n (Some l) p q later h = absurd (not_both (is_false (f (Some code.Unknown) (Some l))) h (u l))

second_unknown : (f : Option Code → Option Code → Status) → ((k : Code) → is_false (f (Some k) (Some code.Unknown)) ≡ false) → ((q : Option Code) → is_false (f None q) ≡ true) →
    (o q : Option Code) → is_false (f o (Some code.Unknown)) ≡ true → is_false (f o q) ≡ true
second_unknown f v m None q h = m q
second_unknown f v m (Some k) q h = absurd (not_both (is_false (f (Some k) (Some code.Unknown))) h (v k))

two_stay : (f : Option Code → Option Code → Status) → ((l : Code) → is_false (f (Some code.Unknown) (Some l)) ≡ false) → ((k : Code) → is_false (f (Some k) (Some code.Unknown)) ≡ false) →
    ((p : Option Code) → is_false (f p None) ≡ true) → ((q : Option Code) → is_false (f None q) ≡ true) →
    (o p u v : Option Code) → LaterIf o u → LaterIf p v → is_false (f o p) ≡ true → is_false (f u v) ≡ true
two_stay f a b n m o p u v (inl e) later h = first_unknown f a n p u v later (subst (λ r. is_false (f r p) ≡ true) e h)
two_stay f a b n m o p u v (inr e) (inl g) h =
    subst (λ r. is_false (f r v) ≡ true) e (second_unknown f b m o v (subst (λ r. is_false (f o r) ≡ true) g h))
two_stay f a b n m o p u v (inr e) (inr g) h = subst (λ r. is_false (f u r) ≡ true) g (subst (λ r. is_false (f r p) ≡ true) e h)

apart_none : (p : Option Code) → is_false (apart_status p None) ≡ true
apart_none None = refl
apart_none (Some k) = refl

apart_unknown : (k : Code) → is_false (apart_status (Some k) (Some code.Unknown)) ≡ false
apart_unknown code.Unknown = refl
apart_unknown code.Null = refl
apart_unknown (code.Target t) = refl
apart_unknown code.New = refl

base_none : (p : Option Code) → is_false (base_status p None) ≡ true
base_none None = refl
base_none (Some k) = refl

base_unknown : (k : Code) → is_false (base_status (Some k) (Some code.Unknown)) ≡ false
base_unknown code.Unknown = refl
base_unknown code.Null = refl
base_unknown (code.Target t) = refl
base_unknown code.New = refl

-- ---- both

either_false : (a b : Status) → is_false (a & b) ≡ true → (is_false a ≡ true) ⊎ (is_false b ≡ true)
either_false status.False b e = inl refl
either_false status.Unknown status.False e = inr refl
either_false status.Unknown status.Unknown e = absurd (cc)
either_false status.Unknown status.Known e = absurd (cc)
either_false status.Known b e = inr e

first_false : (a b : Status) → is_false a ≡ true → is_false (a & b) ≡ true
first_false status.False b e = refl
first_false status.Unknown b e = absurd (cc)
first_false status.Known b e = absurd (cc)

second_false : (a b : Status) → is_false b ≡ true → is_false (a & b) ≡ true
second_false status.False b e = refl
second_false status.Unknown status.False e = refl
second_false status.Unknown status.Unknown e = absurd (cc)
second_false status.Unknown status.Known e = absurd (cc)
second_false status.Known b e = e

both_stay : (a b c d : Status) → (is_false a ≡ true → is_false c ≡ true) → (is_false b ≡ true → is_false d ≡ true) → is_false (a & b) ≡ true → is_false (c & d) ≡ true
both_stay a b c d f g e = elim (either_false a b e) [ inl h ↦ first_false c d (f h) | inr h ↦ second_false c d (g h) ]

-- ---- sums and atoms

number_stays : (a b : Status) → LaterStatus a b → is_false a ≡ true → is_false b ≡ true
number_stays a b (inl e) h = absurd (not_both (is_false a) h (ap is_false e))
number_stays a b (inr e) h = subst (λ s. is_false s ≡ true) e h

reading_stays : (c d : Codes) → Refines c d → (before : Bool) (t : Reading) → is_false (reading_status c before t) ≡ true → is_false (reading_status d before t) ≡ true
reading_stays c d r before (NumberOf x) h = number_stays (c.number x) (d.number x) (r.number x) h
reading_stays c d r before (AllocOf p) h = object_stays c d r before p h
reading_stays c d r before (OffsetOf p) h = object_stays c d r before p h
reading_stays c d r before (StrlenOf p) h = object_stays c d r before p h

term_stays : (c d : Codes) → Refines c d → (t : Option Term) → is_false (term_status c t) ≡ true → is_false (term_status d t) ≡ true
term_stays c d r None h = h
term_stays c d r (Some t) h = reading_stays c d r (is_term_before t) (reading_of t) h

sum_stays : (c d : Codes) → Refines c d → (ps : List LinPart) → is_false (sum_status c ps) ≡ true → is_false (sum_status d ps) ≡ true
sum_stays c d r [] h = h
sum_stays c d r (p ∷ ps) h =
    both_stay (term_status c p.term) (sum_status c ps) (term_status d p.term) (sum_status d ps) (term_stays c d r p.term) (sum_stays c d r ps) h

code_later : (c d : Codes) → Refines c d → (p : PtrTerm) → LaterIf (code_of c false p) (code_of d false p)
code_later c d r p = r.code (is_before p) (path_of p)

-- a hypothesis that is false stays false
pub false_stays : (c d : Codes) → Refines c d → (a : Atom) → is_false (status_of c false a) ≡ true → is_false (status_of d false a) ≡ true
false_stays c d r (atom.Null p equal) h = one_stays (null_status equal) refl (code_of c false p) (code_of d false p) (code_later c d r p) h
false_stays c d r (atom.Nullt p) h = object_stays c d r false p h
false_stays c d r (atom.Clear p) h = object_stays c d r false p h
false_stays c d r (atom.Fresh p) h =
    ap is_false (sym (fresh_same c d (code_of d false p)))
    ∙ one_stays (fresh_status c false) refl (code_of c false p) (code_of d false p) (code_later c d r p) h
false_stays c d r (atom.Apart p q) h =
    two_stay apart_status (λ l. refl) apart_unknown apart_none (λ o. refl) (code_of c false p) (code_of c false q) (code_of d false p) (code_of d false q)
    (code_later c d r p) (code_later c d r q) h
false_stays c d r (atom.SameBase p q) h =
    both_stay (has_object c false p & has_object c false q) (base_status (code_of c false p) (code_of c false q))
    (has_object d false p & has_object d false q) (base_status (code_of d false p) (code_of d false q))
    (both_stay (has_object c false p) (has_object c false q) (has_object d false p) (has_object d false q) (object_stays c d r false p) (object_stays c d r false q))
    (two_stay base_status (λ l. refl) base_unknown base_none (λ o. refl) (code_of c false p) (code_of c false q) (code_of d false p) (code_of d false q)
    (code_later c d r p) (code_later c d r q)) h
false_stays c d r (atom.Compare left rel right) h =
    both_stay (sum_status c left) (sum_status c right) (sum_status d left) (sum_status d right) (sum_stays c d r left) (sum_stays c d r right) h
