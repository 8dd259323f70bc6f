-- What the first part that isn't built says of a program.
use Rattle.std.proofs.Common.{◌≡◌, ℕ, suc, ◌+◌, ◌-◌, ◌<◌, ◌≤◌, ◌⊎◌, Bool, true, false, not, ◌==◌, List, [], ◌∷◌, ◌++◌, length, map, take, drop, slice_index_or, Option, None, Some, codes, refl, sym, ◌∙◌, ap, arith, subst, inl, inr}
use Rattle.std.proofs.lemmas.Bool.{lt-ltb, ltb-true, eqb-true, ne_eqb, and_from, and_parts, not-true, not_from_false, false_from_ne_true}
use Rattle.std.proofs.lemmas.Slice.Eq.{bytes_eq-Decides}
use Rattle.std.proofs.Math.Seq.{take-length}
use Rattle.std.specs.Str.{bytes_eq}
use Rattle.cv_core.specs.Headings.{gives_int}
use Rattle.cv_core.specs.Names.{Name}
use Rattle.cv_core.specs.Shape.{is_last}
use Rattle.cv_core.specs.declared.program.Program.{Program}
use Rattle.cv_core.specs.declared.program.Proc.{Proc}
use Rattle.cv_core.specs.declared.program.ProcBody.{ProcBody}
use Rattle.cv_core.specs.declared.program.Contract.{Contract}
use Rattle.cv_core.specs.declared.program.ResultKind.{ResultKind}
use Rattle.cv_core.specs.declared.program.ResultKind.TheVariants as gives
use Rattle.cv_core.specs.declared.program.Formal.{Formal}
use Rattle.cv_core.specs.declared.program.Local.{Local}
use Rattle.cv_core.specs.declared.program.LocalBody.{LocalBody}
use Rattle.cv_core.specs.declared.program.LocalBody.TheVariants as local
use Rattle.cv_core.specs.declared.program.VarKind.TheVariants as kind
use Rattle.cv_core.specs.declared.program.Stmt.{Stmt}
use Rattle.cv_core.specs.declared.program.Form.{Form}
use Rattle.cv_core.specs.declared.program.Form.TheVariants as form
use Rattle.cv_core.specs.declared.program.Operand.TheVariants as operand
use Rattle.cv_core.specs.declared.program.AnyOperand.TheVariants as any
use Rattle.cv_core.specs.declared.program.Atom.{Atom}
use Rattle.cv_core.specs.declared.program.Item.{Item}
use Rattle.cv_core.specs.declared.program.GlobalDecl.{GlobalDecl}
use Rattle.cv_core.specs.declared.program.Literal.{Literal}
use Rattle.cv_text.specs.Narrow.{IsMove, IsReturn, IsStraight, IsNarrow, no_contract, main_alone, buffer_local, pointer_local}
use Rattle.cv_app.specs.Built.{Part, first_unbuilt, is_move, is_return, is_built_form, stmt_parts, is_built_heading, is_empty_contract, names_of_two, two_names, inner_parts, body_parts, proc_parts, procs_parts, parts, unbuilt_line}

-- ---- the first of a list

pub first_found : (xs ys : List Part) (n : ℕ) → first_unbuilt xs ≡ Some n → first_unbuilt (xs ++ ys) ≡ Some n
first_found [] ys n h = cc
first_found ((line, true) ∷ xs) ys n h = first_found xs ys n h
first_found ((line, false) ∷ xs) ys n h = h

pub first_behind : (xs ys : List Part) → first_unbuilt xs ≡ None → first_unbuilt (xs ++ ys) ≡ first_unbuilt ys
first_behind [] ys h = refl
first_behind ((line, true) ∷ xs) ys h = first_behind xs ys h
first_behind ((line, false) ∷ xs) ys h = cc

both_built : (xs ys : List Part) → first_unbuilt (xs ++ ys) ≡ None → (first_unbuilt xs ≡ None) × (first_unbuilt ys ≡ None)
both_built [] ys h = (refl, h)
both_built ((line, true) ∷ xs) ys h = both_built xs ys h
both_built ((line, false) ∷ xs) ys h = cc

built_then : (line : ℕ) (t : Bool) (rest : List Part) → t ≡ true → first_unbuilt rest ≡ None → first_unbuilt ((line, t) ∷ rest) ≡ None
built_then line true rest h k = k
built_then line false rest h k = cc

first_built : (line : ℕ) (t : Bool) (rest : List Part) → first_unbuilt ((line, t) ∷ rest) ≡ None → (t ≡ true) × (first_unbuilt rest ≡ None)
first_built line true rest h = (refl, h)
first_built line false rest h = cc

-- ---- statements

same_bytes : (x y : Name) → x ≡ y → bytes_eq x y ≡ true
same_bytes x y h = (bytes_eq-Decides x y).1 h

bytes_same : (x y : Name) → bytes_eq x y ≡ true → x ≡ y
bytes_same x y h = (bytes_eq-Decides x y).0 h

move_built : (b p : Name) (f : Form) → IsMove b p f → is_move b p f ≡ true
move_built b p (form.Address x a) h = and_from _ _ (same_bytes x p h.0) (same_bytes a b h.1)
move_built b p (form.Shift x y (operand.Number k)) h = and_from _ _ (same_bytes x p h.0) (same_bytes y p h.1)
move_built b p (form.Store x (operand.Number k)) h = same_bytes x p h
move_built b p f h = absurd h

built_move : (b p : Name) (f : Form) → is_move b p f ≡ true → IsMove b p f
built_move b p (form.Address x a) h = let t = and_parts _ _ h in (bytes_same x p t.0, bytes_same a b t.1)
built_move b p (form.Shift x y (operand.Number k)) h = let t = and_parts _ _ h in (bytes_same x p t.0, bytes_same y p t.1)
built_move b p (form.Store x (operand.Number k)) h = bytes_same x p h
built_move b p f h = cc

return_built : (f : Form) → IsReturn f → is_return f ≡ true
return_built (form.Return (Some (any.Operand (operand.Number k)))) h = refl
return_built f h = absurd h

built_return : (f : Form) → is_return f ≡ true → IsReturn f
built_return (form.Return (Some (any.Operand (operand.Number k)))) h = tt
built_return f h = cc

stmts_built : (b p : Name) (n : ℕ) (stmts : List Stmt) → n + length stmts ≤ 100 → IsStraight b p stmts → first_unbuilt (stmt_parts b p n stmts) ≡ None
stmts_built b p n [] few straight = refl
stmts_built b p n (s ∷ []) few straight =
    let here : n < 100 = omega (arith, few) in
    built_then s.line _ [] (and_from _ _ (lt-ltb n 100 here) (return_built s.form straight)) refl
stmts_built b p n (s ∷ t ∷ rest) few straight =
    let here : n < 100 = omega (arith, few) in
    let later : suc n + length (t ∷ rest) ≤ 100 = omega (arith, few) in
    built_then s.line _ (stmt_parts b p (suc n) (t ∷ rest)) (and_from _ _ (lt-ltb n 100 here) (move_built b p s.form straight.0))
    (stmts_built b p (suc n) (t ∷ rest) later straight.1)

built_stmts : (b p : Name) (n : ℕ) (s : Stmt) (rest : List Stmt) → first_unbuilt (stmt_parts b p n (s ∷ rest)) ≡ None → IsStraight b p (s ∷ rest) × (n + length (s ∷ rest) ≤ 100)
built_stmts b p n s [] h =
    let t = and_parts _ _ (first_built s.line _ [] h).0 in
    let here : n < 100 = ltb-true n 100 t.0 in
    (built_return s.form t.1, omega (arith, here))
built_stmts b p n s (t ∷ rest) h =
    let first = first_built s.line _ (stmt_parts b p (suc n) (t ∷ rest)) h in
    let later = built_stmts b p (suc n) t rest first.1 in
    let few : suc n + length (t ∷ rest) ≤ 100 = later.1 in
    ((built_move b p s.form (and_parts _ _ first.0).1, later.0), omega (arith, few))

first_of_built : (line : ℕ) (t : Bool) (rest : List Part) → t ≡ true → first_unbuilt ((line, t) ∷ rest) ≡ first_unbuilt rest
first_of_built line true rest h = refl
first_of_built line false rest h = cc

-- a list behind its first element
abbrev tail_of : {X : Type 0} → List X → List X
tail_of xs = take (length xs - 1) (drop 1 xs)

tail_is : {X : Type 0} (x : X) (xs : List X) → tail_of (x ∷ xs) ≡ xs
tail_is x xs = let n : suc (length xs) - 1 ≡ length xs = omega arith in rw n (take-length xs)

behind_built : (b p : Name) (n : ℕ) (s : Stmt) (rest : List Stmt) → n < 100 → is_built_form b p (is_last rest) s.form ≡ true →
    first_unbuilt (stmt_parts b p (n + 1) rest) ≡ first_unbuilt (stmt_parts b p n (s ∷ rest))
behind_built b p n s rest few built =
    let next : n + 1 ≡ suc n = omega arith in
    ap (λ (m : ℕ). first_unbuilt (stmt_parts b p m rest)) next
    ∙ sym (first_of_built s.line _ (stmt_parts b p (suc n) rest) (and_from _ _ (lt-ltb n 100 few) built))

-- behind a statement that is built
pub next_stmt : (b p : Name) (n : ℕ) (stmts : List Stmt) (s d : Stmt) (built last : Bool) → 1 ≤ length stmts → s ≡ slice_index_or stmts 0 d → n < 100 →
    built ≡ true → built ≡ is_built_form b p last s.form → last ≡ is_last (tail_of stmts) →
    first_unbuilt (stmt_parts b p (n + 1) (tail_of stmts)) ≡ first_unbuilt (stmt_parts b p n stmts)
next_stmt b p n [] s d built last le is few holds shown at = absurd (omega (arith, le))
next_stmt b p n (x ∷ xs) s d built last le is few holds shown at =
    let t = tail_is x xs in
    let first : is_built_form b p last x.form ≡ true = subst (λ (y : Stmt). is_built_form b p last y.form ≡ true) is (sym shown ∙ holds) in
    let form : is_built_form b p (is_last xs) x.form ≡ true =
    subst (λ (l : Bool). is_built_form b p l x.form ≡ true) (at ∙ ap (λ (ys : List Stmt). is_last ys) t) first in
    ap (λ (ys : List Stmt). first_unbuilt (stmt_parts b p (n + 1) ys)) t ∙ behind_built b p n x xs few form

-- behind a procedure that is built
pub next_proc : (procs : List Proc) (f d : Proc) → 1 ≤ length procs → f ≡ slice_index_or procs 0 d → first_unbuilt (proc_parts f) ≡ None →
    first_unbuilt (map (λ (g : Proc). (g.line, false)) (tail_of procs)) ≡ first_unbuilt (procs_parts procs)
next_proc [] f d le is h = absurd (omega (arith, le))
next_proc (x ∷ xs) f d le is h =
    ap (λ (ys : List Proc). first_unbuilt (map (λ (g : Proc). (g.line, false)) ys)) (tail_is x xs)
    ∙ sym (first_behind (proc_parts x) (map (λ (g : Proc). (g.line, false)) xs) (subst (λ (y : Proc). first_unbuilt (proc_parts y) ≡ None) is h))

-- ---- a straight-line program has all its parts built

not_same : (b p : Name) → (b ≡ p → ⊥) → not (bytes_eq b p) ≡ true
not_same b p differ = not_from_false _ (false_from_ne_true _ (λ h. differ (bytes_same b p h)))

has_stmts : (b p : Name) (stmts : List Stmt) → IsStraight b p stmts → not (length stmts == 0) ≡ true
has_stmts b p [] straight = absurd straight
has_stmts b p (s ∷ rest) straight = not_from_false _ (ne_eqb (length (s ∷ rest)) 0 (λ h. absurd (omega (arith, h))))

main_built : (line : ℕ) (locals : List Local) (stmts : List Stmt) (b p : Name) → two_names locals ≡ Some (b, p) → (b ≡ p → ⊥) → length stmts ≤ 100 → IsStraight b p stmts →
    unbuilt_line (main_alone line locals stmts) ≡ None
main_built line locals stmts b p named differ few straight =
    let inner : first_unbuilt (inner_parts line stmts (two_names locals)) ≡ None =
    ap (λ (o : Option (Name × Name)). first_unbuilt (inner_parts line stmts o)) named
    ∙ built_then line _ (stmt_parts b p 0 stmts) (not_same b p differ) (stmts_built b p 0 stmts (omega (arith, few)) straight) in
    let body : List Part = body_parts line (Some (record { locals = locals; stmts = stmts })) in
    let body_built : first_unbuilt body ≡ None = built_then line _ (inner_parts line stmts (two_names locals)) (has_stmts b p stmts straight) inner in
    first_behind body [] body_built

pub narrow_built : (P : Program) → IsNarrow P → unbuilt_line P ≡ None
narrow_built P n = elim n.parts [
  | inl e ↦ ap unbuilt_line e ∙ main_built n.line (buffer_local n.buffer n.size ∷ pointer_local n.pointer ∷ []) n.stmts n.buffer n.pointer refl n.two_names n.few n.straight
  | inr e ↦ ap unbuilt_line e ∙ main_built n.line (pointer_local n.pointer ∷ buffer_local n.buffer n.size ∷ []) n.stmts n.buffer n.pointer refl n.two_names n.few n.straight
]

-- ---- where all parts are built, the program is a straight-line one

none_of : {X : Type 0} (xs : List X) → (length xs == 0) ≡ true → xs ≡ []
none_of [] h = refl
none_of (x ∷ xs) h = let e : length (x ∷ xs) ≡ 0 = eqb-true (length (x ∷ xs)) 0 h in absurd (omega (arith, e))

int_given : (k : ResultKind) → gives_int k ≡ true → k ≡ gives.Int
int_given gives.Int h = refl
int_given k h = cc

local_is : (l : Local) (name : Name) (body : LocalBody) → l.name ≡ name → l.body ≡ body → l ≡ record { name = name; body = body }
local_is l name body e f = ap (λ (n : Name). record { name = n; body = l.body }) e ∙ ap (λ (b : LocalBody). record { name = name; body = b }) f

-- a buffer and a pointer of these names, in either order
abbrev AreTwo : Name → Name → List Local → Type 0
AreTwo b p locals = (size : ℕ) × ((locals ≡ buffer_local b size ∷ pointer_local p ∷ []) ⊎ (locals ≡ pointer_local p ∷ buffer_local b size ∷ []))

some_same : {X : Type 0} (x y : X) → Some x ≡ Some y → x ≡ y
some_same x y h = cc

two_are : (l m : Local) (x y : LocalBody) (names : Name × Name) → l.body ≡ x → m.body ≡ y → names_of_two l x m y ≡ Some names → AreTwo names.0 names.1 (l ∷ m ∷ [])
two_are l m (local.Buffer n) (local.Var kind.Ptr) names e f h =
    let same : (l.name, m.name) ≡ names = some_same _ _ h in
    let first = local_is l names.0 (local.Buffer n) (ap (λ (q : Name × Name). q.0) same) e in
    let second = local_is m names.1 (local.Var kind.Ptr) (ap (λ (q : Name × Name). q.1) same) f in
    (n, inl cc)
two_are l m (local.Var kind.Ptr) (local.Buffer n) names e f h =
    let same : (m.name, l.name) ≡ names = some_same _ _ h in
    let first = local_is l names.1 (local.Var kind.Ptr) (ap (λ (q : Name × Name). q.1) same) e in
    let second = local_is m names.0 (local.Buffer n) (ap (λ (q : Name × Name). q.0) same) f in
    (n, inr cc)
two_are l m x y names e f h = cc

locals_are : (locals : List Local) (names : Name × Name) → two_names locals ≡ Some names → AreTwo names.0 names.1 locals
locals_are (l ∷ m ∷ []) names h = two_are l m l.body m.body names refl refl h
locals_are locals names h = cc

-- what is said of a body that is built
record IsStraightBody (body : Option ProcBody) : Type 0 where
  locals : List Local
  stmts : List Stmt
  buffer : Name
  pointer : Name
  is : body ≡ Some (record { locals = locals; stmts = stmts })
  two : AreTwo buffer pointer locals
  differ : buffer ≡ pointer → ⊥
  few : length stmts ≤ 100
  straight : IsStraight buffer pointer stmts

names_differ : (b p : Name) → not (bytes_eq b p) ≡ true → b ≡ p → ⊥
names_differ b p h e = let t = same_bytes b p e in let f = not-true _ h in cc

built_inner : (line : ℕ) (locals : List Local) (s : Stmt) (rest : List Stmt) (o : Option (Name × Name)) → two_names locals ≡ o → first_unbuilt (inner_parts line (s ∷ rest) o) ≡ None →
    IsStraightBody (Some (record { locals = locals; stmts = s ∷ rest }))
built_inner line locals s rest None e h = cc
built_inner line locals s rest (Some names) e h =
    let first = first_built line _ (stmt_parts names.0 names.1 0 (s ∷ rest)) h in
    let later = built_stmts names.0 names.1 0 s rest first.1 in
    let few : length (s ∷ rest) ≤ 100 = omega (arith, later.1) in
    record {
      locals = locals;
      stmts = s ∷ rest;
      buffer = names.0;
      pointer = names.1;
      is = refl;
      two = locals_are locals names e;
      differ = names_differ names.0 names.1 first.0;
      few = few;
      straight = later.0;
    }

built_lists : (line : ℕ) (locals : List Local) (stmts : List Stmt) → first_unbuilt (body_parts line (Some (record { locals = locals; stmts = stmts }))) ≡ None →
    IsStraightBody (Some (record { locals = locals; stmts = stmts }))
built_lists line locals [] h = cc
built_lists line locals (s ∷ rest) h =
    built_inner line locals s rest (two_names locals) refl (first_built line _ (inner_parts line (s ∷ rest) (two_names locals)) h).1

built_body : (line : ℕ) (body : Option ProcBody) → first_unbuilt (body_parts line body) ≡ None → IsStraightBody body
built_body line None h = cc
built_body line (Some b) h = built_lists line b.locals b.stmts h

contract_is : (c : Contract) → is_empty_contract c ≡ true → c ≡ no_contract
contract_is c h =
    let a = and_parts _ _ h in
    let b = and_parts _ _ a.0 in
    let d = and_parts _ _ b.0 in
    ap (λ (l : List Name). record { listed = l; needs = c.needs; changes = c.changes; gives = c.gives }) (none_of c.listed d.0)
    ∙ ap (λ (l : List Atom). record { listed = []; needs = l; changes = c.changes; gives = c.gives }) (none_of c.needs d.1)
    ∙ ap (λ (l : List Item). record { listed = []; needs = []; changes = l; gives = c.gives }) (none_of c.changes b.1)
    ∙ ap (λ (l : List (List Atom)). record { listed = []; needs = []; changes = []; gives = l }) (none_of c.gives a.1)

abbrev main_of : ℕ → Option ProcBody → Proc
main_of line body = record { line = line; answer = gives.Int; name = codes "main"; formals = []; contract = no_contract; body = body }

proc_is : (f : Proc) → is_built_heading f ≡ true → is_empty_contract f.contract ≡ true → f ≡ main_of f.line f.body
proc_is f h k =
    let a = and_parts _ _ h in
    let b = and_parts _ _ a.0 in
    ap (λ (r : ResultKind). record { line = f.line; answer = r; name = f.name; formals = f.formals; contract = f.contract; body = f.body }) (int_given f.answer b.0)
    ∙ ap (λ (n : Name). record { line = f.line; answer = gives.Int; name = n; formals = f.formals; contract = f.contract; body = f.body }) (bytes_same f.name (codes "main") b.1)
    ∙ ap (λ (l : List Formal). record { line = f.line; answer = gives.Int; name = codes "main"; formals = l; contract = f.contract; body = f.body }) (none_of f.formals a.1)
    ∙ ap (λ (c : Contract). record { line = f.line; answer = gives.Int; name = codes "main"; formals = []; contract = c; body = f.body }) (contract_is f.contract k)

-- what is said of procedures that are built
record IsMainAlone (procs : List Proc) : Type 0 where
  line : ℕ
  body : Option ProcBody
  is : procs ≡ main_of line body ∷ []
  straight : IsStraightBody body

no_others : (fs : List Proc) → first_unbuilt (map (λ g. (g.line, false)) fs) ≡ None → fs ≡ []
no_others [] h = refl
no_others (f ∷ fs) h = cc

built_procs : (procs : List Proc) → first_unbuilt (procs_parts procs) ≡ None → IsMainAlone procs
built_procs [] h = cc
built_procs (f ∷ fs) h =
    let both = both_built (proc_parts f) (map (λ g. (g.line, false)) fs) h in
    let heading = first_built f.line _ ((f.line, is_empty_contract f.contract) ∷ body_parts f.line f.body) both.0 in
    let contract = first_built f.line _ (body_parts f.line f.body) heading.1 in
    let first = proc_is f heading.0 contract.0 in
    let none = no_others fs both.1 in
    record { line = f.line; body = f.body; is = ap (λ (g : Proc). g ∷ fs) first ∙ ap (λ (gs : List Proc). main_of f.line f.body ∷ gs) none; straight = built_body f.line f.body contract.1 }

program_is : (P : Program) (procs : List Proc) → P.globals ≡ [] → P.literals ≡ [] → P.procs ≡ procs → P ≡ record { globals = []; literals = []; procs = procs }
program_is P procs e f g =
    ap (λ (l : List GlobalDecl). record { globals = l; literals = P.literals; procs = P.procs }) e
    ∙ ap (λ (l : List Literal). record { globals = []; literals = l; procs = P.procs }) f
    ∙ ap (λ (l : List Proc). record { globals = []; literals = []; procs = l }) g

narrow_with : (P : Program) (line : ℕ) (locals : List Local) (stmts : List Stmt) (b p : Name) → P ≡ main_alone line locals stmts → AreTwo b p locals → (b ≡ p → ⊥) → length stmts ≤ 100 → IsStraight b p stmts → IsNarrow P
narrow_with P line locals stmts b p is (size, inl e) differ few straight =
    record { line = line; buffer = b; size = size; pointer = p; stmts = stmts; parts = inl (is ∙ ap (λ (l : List Local). main_alone line l stmts) e); two_names = differ; few = few; straight = straight }
narrow_with P line locals stmts b p is (size, inr e) differ few straight =
    record { line = line; buffer = b; size = size; pointer = p; stmts = stmts; parts = inr (is ∙ ap (λ (l : List Local). main_alone line l stmts) e); two_names = differ; few = few; straight = straight }

pub built_narrow : (P : Program) → unbuilt_line P ≡ None → IsNarrow P
built_narrow P h =
    let globals = first_built 1 _ ((1, length P.literals == 0) ∷ procs_parts P.procs) h in
    let literals = first_built 1 _ (procs_parts P.procs) globals.1 in
    let main = built_procs P.procs literals.1 in
    let body = main.straight in
    let procs_are = main.is ∙ ap (λ (o : Option ProcBody). main_of main.line o ∷ []) body.is in
    narrow_with P main.line body.locals body.stmts body.buffer body.pointer
    (program_is P _ (none_of P.globals globals.0) (none_of P.literals literals.0) procs_are)
    body.two body.differ body.few body.straight

-- nothing is left unbuilt exactly in a straight-line program
pub built_exactly : (P : Program) (found : Option ℕ) → found ≡ unbuilt_line P → (found ≡ None → IsNarrow P) × (IsNarrow P → found ≡ None)
built_exactly P found is = (λ h. built_narrow P (sym is ∙ h), λ n. is ∙ narrow_built P n)
