-- What a well-formed program has: each rule, at each of its places.
use Rattle.std.specs.Prelude.{ℕ, zero, suc, map, ◌≡◌, ◌+◌, ◌++◌, Bool, true, false, not, ◌&&◌, ◌||◌, List, [], ◌∷◌, slice_get, Option, Some, None, refl}
use Rattle.std.specs.List.{filter}
use Rattle.std.proofs.Common.{cond, ap, sym, ◌∙◌, subst, arith}
use Rattle.cv_core.specs.ContractForm.{contract_formed}
use Rattle.cv_core.specs.Doubles.{formal_twice, global_twice, literal_twice, local_twice, proc_twice}
use Rattle.cv_core.specs.Headings.{breaks_extern, breaks_main, is_empty_body}
use Rattle.cv_core.specs.Kinds.{has_count, has_kinds}
use Rattle.cv_core.specs.Named.{mentions_unknown, mentions_unlisted, names_unknown, names_unlisted}
use Rattle.cv_core.specs.Names.{stmts_of}
use Rattle.cv_core.specs.Shape.{IsWellFormed, body_faults, calls_main, contract_tests, end_tests, faults_at, fault_number, faults_nowhere, global_tests, has_body, has_main, heading_tests, is_last, jumps_within, literal_tests, local_tests, may_end, proc_faults, procs_faults, standing, statement_tests}
use Rattle.cv_core.specs.declared.faults.ShapeFault.{ShapeFault}
use Rattle.cv_core.specs.declared.faults.ShapeRule.{ShapeRule}
use Rattle.cv_core.specs.declared.program.Program.{Program}
use Rattle.cv_core.specs.declared.program.Proc.{Proc}
use Rattle.cv_core.specs.declared.program.Stmt.{Stmt}
use Rattle.cv_core.specs.declared.program.Form.{Form}
use Rattle.cv_core.specs.declared.shape.rules.RuleTest.{RuleTest}

-- a statement of f
pub record IsSoundStatement (P : Program) (f : Proc) (form : Form) : Type 0 where
  pub known : names_unknown P f form ≡ false
  pub kinds : has_kinds P f form ≡ true
  pub count : has_count P form ≡ true
  pub within : jumps_within f form ≡ true
  pub listed : names_unlisted P f form ≡ false
  pub no_main : calls_main form ≡ false

-- the heading, the contract and the locals of the procedure i, which is f
pub record IsSoundHeading (P : Program) (i : ℕ) (f : Proc) : Type 0 where
  pub names : (proc_twice P i f || formal_twice P f) ≡ false
  pub body : is_empty_body f.body ≡ false
  pub main : breaks_main f ≡ false
  pub outside : breaks_extern f ≡ false
  pub known : mentions_unknown P f ≡ false
  pub listed : (has_body f.body && mentions_unlisted P f) ≡ false
  pub formed : contract_formed P f f.contract ≡ true
  pub locals : local_twice P f ≡ false

-- the whole program
pub record IsSoundProgram (P : Program) : Type 0 where
  pub globals : global_twice P ≡ false
  pub literals : literal_twice P ≡ false
  pub headings : (i : ℕ) (f : Proc) → slice_get P.procs i ≡ Some f → IsSoundHeading P i f
  pub statements : (i k : ℕ) (f : Proc) (s : Stmt) → slice_get P.procs i ≡ Some f → slice_get (stmts_of f.body) k ≡ Some s →
      IsSoundStatement P f s.form
  pub ends : (i k : ℕ) (f : Proc) (s : Stmt) → slice_get P.procs i ≡ Some f → slice_get (stmts_of f.body) k ≡ Some s →
      slice_get (stmts_of f.body) (suc k) ≡ None → may_end s.form ≡ true
  pub main : has_main P ≡ true

-- ---- lists without an element

pub left_empty : {X : Type 0} (xs ys : List X) → xs ++ ys ≡ [] → xs ≡ []
left_empty [] ys e = refl
left_empty (x ∷ xs) ys e = cc

pub right_empty : {X : Type 0} (xs ys : List X) → xs ++ ys ≡ [] → ys ≡ []
right_empty [] ys e = e
right_empty (x ∷ xs) ys e = cc

-- the faults of the rules that stand, where `fault` gives each its place
abbrev of_tests : (ShapeRule → ShapeFault) → List RuleTest → List ShapeFault
of_tests fault tests = map fault (map (λ t. t.rule) tests)

first_false : (fault : ShapeRule → ShapeFault) (b : Bool) (t : RuleTest) (rest : List RuleTest) → of_tests fault (cond b (t ∷ rest) rest) ≡ [] → b ≡ false
first_false fault true t rest e = cc
first_false fault false t rest e = refl

others_empty : (fault : ShapeRule → ShapeFault) (b : Bool) (t : RuleTest) (rest : List RuleTest) → of_tests fault (cond b (t ∷ rest) rest) ≡ [] → of_tests fault rest ≡ []
others_empty fault true t rest e = cc
others_empty fault false t rest e = e

-- where a place has no fault, no rule of it stands
none_stands : (fault : ShapeRule → ShapeFault) (tests : List RuleTest) → map fault (standing tests) ≡ [] → (k : ℕ) (t : RuleTest) → slice_get tests k ≡ Some t → t.stands ≡ false
none_stands fault [] e k t at = cc
none_stands fault (x ∷ xs) e zero t at =
    let same : x ≡ t = cc in
    subst (λ (y : RuleTest). y.stands ≡ false) same (first_false fault x.stands x (filter (λ y. y.stands) xs) e)
none_stands fault (x ∷ xs) e (suc k) t at = none_stands fault xs (others_empty fault x.stands x (filter (λ y. y.stands) xs) e) k t at

pub not_false : (b : Bool) → not b ≡ false → b ≡ true
not_false true e = refl
not_false false e = cc

-- ---- statements

statement_sound : (P : Program) (i line : ℕ) (f : Proc) (last : Bool) (form : Form) → faults_at i line (statement_tests P f last form) ≡ [] → IsSoundStatement P f form
statement_sound P i line f last form e =
    let stands = none_stands (λ (r : ShapeRule). record { rule = r; proc = fault_number i; line = line }) (statement_tests P f last form) e in
    record {
      known = stands 0 _ refl;
      kinds = not_false _ (stands 1 _ refl);
      count = not_false _ (stands 2 _ refl);
      within = not_false _ (stands 3 _ refl);
      listed = stands 5 _ refl;
      no_main = stands 6 _ refl;
    }

end_sound : (P : Program) (i line : ℕ) (f : Proc) (form : Form) → faults_at i line (statement_tests P f true form) ≡ [] → may_end form ≡ true
end_sound P i line f form e =
    not_false _ (none_stands (λ (r : ShapeRule). record { rule = r; proc = fault_number i; line = line }) (statement_tests P f true form) e 4 _ refl)

body_sound : (P : Program) (i k : ℕ) (f : Proc) (ss : List Stmt) (s : Stmt) → body_faults P i f ss ≡ [] → slice_get ss k ≡ Some s → IsSoundStatement P f s.form
body_sound P i k f [] s e at = cc
body_sound P i zero f (x ∷ xs) s e at =
    let same : x ≡ s = cc in
    subst (λ (y : Stmt). IsSoundStatement P f y.form) same
    (statement_sound P i x.line f (is_last xs) x.form (left_empty (faults_at i x.line (statement_tests P f (is_last xs) x.form)) (body_faults P i f xs) e))
body_sound P i (suc k) f (x ∷ xs) s e at =
    body_sound P i k f xs s (right_empty (faults_at i x.line (statement_tests P f (is_last xs) x.form)) (body_faults P i f xs) e) at

body_ends : (P : Program) (i k : ℕ) (f : Proc) (ss : List Stmt) (s : Stmt) → body_faults P i f ss ≡ [] → slice_get ss k ≡ Some s → slice_get ss (suc k) ≡ None →
    may_end s.form ≡ true
body_ends P i k f [] s e at past = cc
body_ends P i zero f (x ∷ []) s e at past =
    let same : x ≡ s = cc in
    subst (λ (y : Stmt). may_end y.form ≡ true) same (end_sound P i x.line f x.form (left_empty (faults_at i x.line (statement_tests P f true x.form)) [] e))
body_ends P i zero f (x ∷ y ∷ ys) s e at past = cc
body_ends P i (suc k) f (x ∷ xs) s e at past =
    body_ends P i k f xs s (right_empty (faults_at i x.line (statement_tests P f (is_last xs) x.form)) (body_faults P i f xs) e) at past

-- ---- procedures

heading_sound : (P : Program) (i : ℕ) (f : Proc) → faults_at i f.line (heading_tests P i f) ≡ [] → faults_at i f.line (contract_tests P f) ≡ [] →
    faults_at i f.line (local_tests P f) ≡ [] → IsSoundHeading P i f
heading_sound P i f h c l =
    let fault : ShapeRule → ShapeFault = λ r. record { rule = r; proc = fault_number i; line = f.line } in
    let heading = none_stands fault (heading_tests P i f) h in
    let contract = none_stands fault (contract_tests P f) c in
    record {
      names = heading 0 _ refl;
      body = heading 1 _ refl;
      main = heading 2 _ refl;
      outside = heading 3 _ refl;
      known = contract 0 _ refl;
      listed = contract 1 _ refl;
      formed = not_false _ (contract 2 _ refl);
      locals = none_stands fault (local_tests P f) l 0 _ refl;
    }

proc_heading : (P : Program) (i : ℕ) (f : Proc) → proc_faults P i f ≡ [] → IsSoundHeading P i f
proc_heading P i f e =
    let a : List ShapeFault = faults_at i f.line (heading_tests P i f) in
    let b : List ShapeFault = faults_at i f.line (contract_tests P f) in
    let d : List ShapeFault = faults_at i f.line (local_tests P f) in
    let g : List ShapeFault = body_faults P i f (stmts_of f.body) in
    let e1 : a ++ b ++ d ≡ [] = left_empty (a ++ b ++ d) g e in
    let e2 : a ++ b ≡ [] = left_empty (a ++ b) d e1 in
    heading_sound P i f (left_empty a b e2) (right_empty a b e2) (right_empty (a ++ b) d e1)

proc_body : (P : Program) (i : ℕ) (f : Proc) → proc_faults P i f ≡ [] → body_faults P i f (stmts_of f.body) ≡ []
proc_body P i f e =
    let a : List ShapeFault = faults_at i f.line (heading_tests P i f) in
    let b : List ShapeFault = faults_at i f.line (contract_tests P f) in
    let d : List ShapeFault = faults_at i f.line (local_tests P f) in
    let g : List ShapeFault = body_faults P i f (stmts_of f.body) in
    right_empty (a ++ b ++ d) g e

proc_empty : (P : Program) (i k j : ℕ) (fs : List Proc) (f : Proc) → procs_faults P i fs ≡ [] → slice_get fs k ≡ Some f → i + k ≡ j → proc_faults P j f ≡ []
proc_empty P i k j [] f e at sum = cc
proc_empty P i zero j (x ∷ xs) f e at sum =
    let same : x ≡ f = cc in
    let here : i ≡ j = omega (arith, sum) in
    subst (λ n. proc_faults P n f ≡ []) here (subst (λ y. proc_faults P i y ≡ []) same (left_empty (proc_faults P i x) (procs_faults P (suc i) xs) e))
proc_empty P i (suc k) j (x ∷ xs) f e at sum =
    let next : suc i + k ≡ j = omega (arith, sum) in
    proc_empty P (suc i) k j xs f (right_empty (proc_faults P i x) (procs_faults P (suc i) xs) e) at next

proc_at : (P : Program) (i : ℕ) (f : Proc) → procs_faults P 0 P.procs ≡ [] → slice_get P.procs i ≡ Some f → proc_faults P i f ≡ []
proc_at P i f e at = let sum : 0 + i ≡ i = omega arith in proc_empty P 0 i i P.procs f e at sum

-- a well-formed program meets each rule at each of its places
pub well_formed_sound : (P : Program) → IsWellFormed P → IsSoundProgram P
well_formed_sound P e =
    let a : List ShapeFault = faults_nowhere (global_tests P) in
    let b : List ShapeFault = faults_nowhere (literal_tests P) in
    let d : List ShapeFault = procs_faults P 0 P.procs in
    let g : List ShapeFault = faults_nowhere (end_tests P) in
    let e1 : a ++ b ++ d ≡ [] = left_empty (a ++ b ++ d) g e in
    let e2 : a ++ b ≡ [] = left_empty (a ++ b) d e1 in
    let procs : d ≡ [] = right_empty (a ++ b) d e1 in
    let fault : ShapeRule → ShapeFault = λ r. record { rule = r; proc = 4294967295; line = 1 } in
    record {
      globals = none_stands fault (global_tests P) (left_empty a b e2) 0 _ refl;
      literals = none_stands fault (literal_tests P) (right_empty a b e2) 0 _ refl;
      headings = λ i f at. proc_heading P i f (proc_at P i f procs at);
      statements = λ i k f s at there. body_sound P i k f (stmts_of f.body) s (proc_body P i f (proc_at P i f procs at)) there;
      ends = λ i k f s at there past. body_ends P i k f (stmts_of f.body) s (proc_body P i f (proc_at P i f procs at)) there past;
      main = not_false _ (none_stands fault (end_tests P) (right_empty (a ++ b ++ d) g e) 0 _ refl);
    }
