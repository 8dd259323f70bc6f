-- What the entry and the statements ask for, part by part.
use Rattle.std.proofs.Common.{refl, ℕ, zero, suc, ◌≡◌, ◌<◌, ◌≤◌, ◌+◌, Bool, true, false, List, [], ◌∷◌, length, Option, Some, None, arith, inl, inr, pos, slice_get, subst, sym, ◌∙◌}
use Rattle.std.specs.Option.{MatchOption}
use Rattle.std.proofs.lemmas.Bool.{cases_lt}
use Rattle.cv_core.specs.Names.{Name, objects_of, stmts_of}
use Rattle.cv_core.specs.declared.program.AnyOperand.{AnyOperand}
use Rattle.cv_core.specs.declared.program.Form.{Form}
use Rattle.cv_core.specs.declared.program.Proc.{Proc}
use Rattle.cv_core.specs.declared.program.Program.{Program}
use Rattle.cv_core.specs.declared.program.Stmt.{Stmt}
use Rattle.cv_points.specs.Holders.{pointer_count, pointer_locals}
use Rattle.std.specs.List.{count_by}
use Rattle.cv_ppts.specs.Lacking.{Lacks}
use Rattle.cv_ppts.specs.Plain.{AreCoded, AreUnknown, HasEntryCodes, MaybeHolds, Sets, place_of_variable, plain_rule}
use Rattle.cv_ppts.specs.Setting.{HasRoom, Setting, allocates, block_count, cell_blocks, first_content, formal_count, greatest, new_target, object_cells}
use Rattle.cv_ppts.specs.Targets.{AreClosed, AreClosedFor, AreLost, ClosedIn, CallFormHolds, CallHolds, CallStatementHolds, FormHolds, HasRoomFor, HoldsAt, RoomIn}
use Rattle.cv_ppts.specs.declared.code.Code.{Code}
use Rattle.cv_ppts.specs.declared.sets.Missing.{Missing}
use Rattle.std.proofs.Common.{IsTrue, drop, ◌↔◌}
use Rattle.cv_ppts.proofs.Lacked.{answer_part, lacks_part}

-- ---- the codes at entry

pub coded_as : (T : Sets) (first first_is : ℕ) (codes codes_are : List ℕ) (count count_is : ℕ) (o : Option Missing) → first ≡ first_is → codes ≡ codes_are → count ≡ count_is →
    MatchOption o (AreCoded T first codes count) (λ m. Lacks T (λ R. AreCoded R first codes count) m.to m.code) →
    MatchOption o (AreCoded T first_is codes_are count_is) (λ m. Lacks T (λ R. AreCoded R first_is codes_are count_is) m.to m.code)
coded_as T first first_is codes codes_are count count_is o e f g l =
    subst (λ k. MatchOption o (AreCoded T first_is codes_are k) (λ m. Lacks T (λ R. AreCoded R first_is codes_are k) m.to m.code)) g
    (subst (λ ks. MatchOption o (AreCoded T first_is ks count) (λ m. Lacks T (λ R. AreCoded R first_is ks count) m.to m.code)) f
    (subst (λ k. MatchOption o (AreCoded T k codes count) (λ m. Lacks T (λ R. AreCoded R k codes count) m.to m.code)) e l))

pub unknown_as : (T : Sets) (first first_is count count_is : ℕ) (o : Option Missing) → first ≡ first_is → count ≡ count_is →
    MatchOption o (AreUnknown T first count) (λ m. Lacks T (λ R. AreUnknown R first count) m.to m.code) →
    MatchOption o (AreUnknown T first_is count_is) (λ m. Lacks T (λ R. AreUnknown R first_is count_is) m.to m.code)
unknown_as T first first_is count count_is o e g l =
    subst (λ k. MatchOption o (AreUnknown T first_is k) (λ m. Lacks T (λ R. AreUnknown R first_is k) m.to m.code)) g
    (subst (λ k. MatchOption o (AreUnknown T k count) (λ m. Lacks T (λ R. AreUnknown R k count) m.to m.code)) e l)

pub sum_is : (a b x y : ℕ) → a ≡ x → b ≡ y → a + b ≡ x + y
sum_is a b x y e f = omega arith

abbrev pub FormalsCoded : Setting → Sets → Type 0
FormalsCoded s T = AreCoded T 0 s.codes (formal_count s)

abbrev pub LocalsUnknown : Setting → Sets → Type 0
LocalsUnknown s T = AreUnknown T (formal_count s) (length (pointer_locals s.proc))

abbrev pub ContentsCoded : Setting → Sets → Type 0
ContentsCoded s T = AreCoded T (pointer_count s.proc) (drop (first_content s) s.codes) (cell_blocks s (block_count s))

abbrev pub CellsUnknown : Setting → Sets → Type 0
CellsUnknown s T = AreUnknown T (pointer_count s.proc + cell_blocks s (block_count s)) (count_by (λ c. c) (object_cells s.proc))

pub entry_first : (s : Setting) (T : Sets) (to : ℕ) (code : Code) → Lacks T (FormalsCoded s) to code → Lacks T (HasEntryCodes s) to code
entry_first s T to code l = lacks_part T (FormalsCoded s) (HasEntryCodes s) to code (λ R within w. w.formals) l

pub entry_second : (s : Setting) (T : Sets) (to : ℕ) (code : Code) → Lacks T (LocalsUnknown s) to code → Lacks T (HasEntryCodes s) to code
entry_second s T to code l = lacks_part T (LocalsUnknown s) (HasEntryCodes s) to code (λ R within w. w.locals) l

pub entry_third : (s : Setting) (T : Sets) (to : ℕ) (code : Code) → Lacks T (ContentsCoded s) to code → Lacks T (HasEntryCodes s) to code
entry_third s T to code l = lacks_part T (ContentsCoded s) (HasEntryCodes s) to code (λ R within w. w.contents) l

pub entry_fourth : (s : Setting) (T : Sets) (o : Option Missing) → FormalsCoded s T → LocalsUnknown s T → ContentsCoded s T → MatchOption o (CellsUnknown s T) (λ m. Lacks T (CellsUnknown s) m.to m.code) →
    MatchOption o (HasEntryCodes s T) (λ m. Lacks T (HasEntryCodes s) m.to m.code)
entry_fourth s T o a b c l =
    answer_part T (CellsUnknown s) (HasEntryCodes s) o (λ q. record { formals = a; locals = b; contents = c; cells = q }) (λ R within w. w.cells) l

-- ---- calls

pub call_first : (s : Setting) (T : Sets) (t : ℕ) (into : Option Name) (g : Name) (args : List AnyOperand) (new : Bool) (place : Option ℕ) (to : ℕ) (code : Code) → place ≡ place_of_variable s into →
    Lacks T (λ R. CallHolds s R t place g args) to code → Lacks T (λ R. CallStatementHolds s R t into g args new) to code
call_first s T t into g args new place to code e l =
    lacks_part T (λ R. CallHolds s R t place g args) (λ R. CallStatementHolds s R t into g args new) to code (λ R within w. subst (λ o. CallHolds s R t o g args) (sym e) w.given) l

pub call_second : (s : Setting) (T : Sets) (t : ℕ) (into : Option Name) (g : Name) (args : List AnyOperand) (new : Bool) (place : Option ℕ) (o : Option Missing) → place ≡ place_of_variable s into → CallHolds s T t place g args → new ≡ true →
    MatchOption o (AreLost T t place) (λ m. Lacks T (λ R. AreLost R t place) m.to m.code) → MatchOption o (CallStatementHolds s T t into g args new) (λ m. Lacks T (λ R. CallStatementHolds s R t into g args new) m.to m.code)
call_second s T t into g args new place o e h b l =
    answer_part T (λ R. AreLost R t place) (λ R. CallStatementHolds s R t into g args new) o
    (λ q. record { given = subst (λ p. CallHolds s T t p g args) e h; lost = λ x. subst (AreLost T t) e q })
    (λ R within w. subst (AreLost R t) (sym e) (w.lost b)) l

pub call_only : (s : Setting) (T : Sets) (t : ℕ) (into : Option Name) (g : Name) (args : List AnyOperand) (new : Bool) (place : Option ℕ) → place ≡ place_of_variable s into → CallHolds s T t place g args → new ≡ false →
    CallStatementHolds s T t into g args new
call_only s T t into g args new place e h b =
    record { given = subst (λ p. CallHolds s T t p g args) e h; lost = λ x. absurd (let f : true ≡ false = sym x ∙ b in cc) }

-- ---- statements

pub form_first : (s : Setting) (T : Sets) (t : ℕ) (m : Form) (to : ℕ) (code : Code) → Lacks T (λ R. MaybeHolds s R (plain_rule s m)) to code → Lacks T (λ R. FormHolds s R t m) to code
form_first s T t m to code l = lacks_part T (λ R. MaybeHolds s R (plain_rule s m)) (λ R. FormHolds s R t m) to code (λ R within w. w.rule) l

pub form_second : (s : Setting) (T : Sets) (t : ℕ) (m : Form) (o : Option Missing) → MaybeHolds s T (plain_rule s m) →
    MatchOption o (CallFormHolds s T t m (allocates s.program m)) (λ x. Lacks T (λ R. CallFormHolds s R t m (allocates s.program m)) x.to x.code) → MatchOption o (FormHolds s T t m) (λ x. Lacks T (λ R. FormHolds s R t m) x.to x.code)
form_second s T t m o h l =
    answer_part T (λ R. CallFormHolds s R t m (allocates s.program m)) (λ R. FormHolds s R t m) o (λ q. record { rule = h; call = q }) (λ R within w. w.call) l

pub statement_none : (s : Setting) (T : Sets) (k : ℕ) → slice_get (stmts_of s.proc.body) k ≡ None → HoldsAt s T k
statement_none s T k e = λ x f. absurd (let g : None ≡ Some x = sym e ∙ f in cc)

pub statement_some : (s : Setting) (T : Sets) (k t : ℕ) (x : Stmt) (o : Option Missing) → slice_get (stmts_of s.proc.body) k ≡ Some x → t ≡ new_target s k →
    MatchOption o (FormHolds s T t x.form) (λ m. Lacks T (λ R. FormHolds s R t x.form) m.to m.code) → MatchOption o (HoldsAt s T k) (λ m. Lacks T (λ R. HoldsAt s R k) m.to m.code)
statement_some s T k t x o e f l =
    answer_part T (λ R. FormHolds s R t x.form) (λ R. HoldsAt s R k) o
    (λ q y g. subst (λ n. FormHolds s T n y.form) f (subst (λ (z : Stmt). FormHolds s T t z.form) (same (sym e ∙ g)) q))
    (λ R within w. subst (λ n. FormHolds s R n x.form) (sym f) (w x e)) l
  where
    same : {y z : Stmt} → Some y ≡ Some z → y ≡ z
    same h = cc

get_past : {X : Type 0} (xs : List X) (k : ℕ) → length xs ≤ k → slice_get xs k ≡ None
get_past [] k h = refl
get_past (x ∷ xs) zero h = absurd (omega arith)
get_past (x ∷ xs) (suc k) h = get_past xs k (omega arith)

pub body_all : (s : Setting) (T : Sets) (i : ℕ) → length (stmts_of s.proc.body) ≤ i → ((k : ℕ) → k < i → HoldsAt s T k) → (k : ℕ) → HoldsAt s T k
body_all s T i h before k = elim (cases_lt k i) [ inl lt ↦ before k lt | inr ge ↦ statement_none s T k (get_past (stmts_of s.proc.body) k (omega arith)) ]

pub closed_first : (s : Setting) (T : Sets) (to : ℕ) (code : Code) → Lacks T (HasEntryCodes s) to code → Lacks T (AreClosed s) to code
closed_first s T to code l = lacks_part T (HasEntryCodes s) (AreClosed s) to code (λ R within w. w.entry) l

pub closed_second : (s : Setting) (T : Sets) (o : Option Missing) → HasEntryCodes s T → MatchOption o ((k : ℕ) → HoldsAt s T k) (λ m. Lacks T (λ R. (k : ℕ) → HoldsAt s R k) m.to m.code) →
    MatchOption o (AreClosed s T) (λ m. Lacks T (AreClosed s) m.to m.code)
closed_second s T o h l = answer_part T (λ R. (k : ℕ) → HoldsAt s R k) (AreClosed s) o (λ q. record { entry = h; statements = q }) (λ R within w. w.statements) l

-- ---- by number

pub room_some : (P : Program) (i : ℕ) (f : Proc) (codes codes_are : List ℕ) → slice_get P.procs i ≡ Some f → codes ≡ codes_are → HasRoomFor P i codes_are → HasRoom (record { program = P; proc = f; codes = codes })
unfolding HasRoomFor
room_some P i f codes codes_are e k room = subst (λ ks. HasRoom (record { program = P; proc = f; codes = ks })) (sym k) (subst (λ o. RoomIn P o codes_are) e room)

pub no_procedure : (P : Program) (i : ℕ) (codes : List ℕ) → slice_get P.procs i ≡ None → IsTrue true ↔ HasRoomFor P i codes
unfolding HasRoomFor
no_procedure P i codes e = (λ t. subst (λ o. RoomIn P o codes) (sym e) tt, λ h. refl)

pub room_told : (P : Program) (i : ℕ) (f : Proc) (codes codes_are : List ℕ) (n : ℕ) (b : Bool) → slice_get P.procs i ≡ Some f → codes ≡ codes_are → n ≡ greatest codes →
    IsTrue b ↔ (n + length (objects_of f) + length (stmts_of f.body) < 2147483647) → IsTrue b ↔ HasRoomFor P i codes_are
unfolding HasRoomFor
room_told P i f codes codes_are n b e k same h =
    subst (λ o. IsTrue b ↔ RoomIn P o codes_are) (sym e)
    (subst (λ ks. IsTrue b ↔ HasRoom (record { program = P; proc = f; codes = ks })) k (subst (λ m. IsTrue b ↔ (m + length (objects_of f) + length (stmts_of f.body) < 2147483647)) same h))

pub closed_none : (P : Program) (i : ℕ) (codes : List ℕ) (T : Sets) → slice_get P.procs i ≡ None → IsTrue true ↔ AreClosedFor P i codes T
unfolding AreClosedFor
closed_none P i codes T e = (λ t. subst (λ o. ClosedIn P o codes T) (sym e) tt, λ h. refl)

pub closed_some : (P : Program) (i : ℕ) (f : Proc) (codes codes_are : List ℕ) (T U : Sets) (b : Bool) → slice_get P.procs i ≡ Some f → codes ≡ codes_are → T ≡ U →
    IsTrue b ↔ AreClosed (record { program = P; proc = f; codes = codes }) T → IsTrue b ↔ AreClosedFor P i codes_are U
unfolding AreClosedFor
closed_some P i f codes codes_are T U b e k same h =
    subst (λ o. IsTrue b ↔ ClosedIn P o codes_are U) (sym e)
    (subst (λ ks. IsTrue b ↔ AreClosed (record { program = P; proc = f; codes = ks }) U) k (subst (λ S. IsTrue b ↔ AreClosed (record { program = P; proc = f; codes = codes }) S) same h))
