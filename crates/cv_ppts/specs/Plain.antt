-- The codes that pointers can have inside a procedure, one set for each pointer variable and then for the content of
-- each pointer cell.
use Rattle.std.specs.Prelude.{Contains, List, None, Option, Some, [], drop, slice_index_or, ℕ, ◌+◌, ◌<◌, length}
use Rattle.std.specs.List.{count_by}
use Rattle.cv_core.specs.Names.{Name}
use Rattle.cv_core.specs.declared.program.AnyOperand.{AnyOperand}
use Rattle.cv_core.specs.declared.program.Form.{Form}
use Rattle.cv_points.specs.Closed.{variable_in}
use Rattle.cv_points.specs.Holders.{pointer_count, pointer_locals, variable_number}
use Rattle.cv_ppts.specs.Numbers.{entity_code}
use Rattle.cv_ppts.specs.Setting.{Setting, block_count, cell_blocks, content_place, first_content, formal_count, object_cells, target_of_name}
use Rattle.cv_ppts.specs.declared.code.Code.{Code}
use Rattle.cv_ppts.specs.declared.sets.Rule.{Rule}
use Rattle.cv_core.specs.declared.program.AnyOperand.TheVariants as any
use Rattle.cv_core.specs.declared.program.Form.TheVariants as form
use Rattle.cv_ppts.specs.declared.code.Code.TheVariants as code
use Rattle.cv_ppts.specs.declared.sets.Rule.TheVariants as rule

abbrev pub Sets : Type 0
Sets = List (List Code)

-- the set at a place, empty where there is none
abbrev pub codes_at : Sets → ℕ → List Code
codes_at T h = slice_index_or T h []

-- a place has a code
abbrev pub HasCode : Sets → ℕ → Code → Type 0
HasCode T h c = Contains (codes_at T h) c

abbrev pub Includes : Sets → ℕ → ℕ → Type 0
Includes T from to = (c : Code) → HasCode T from c → HasCode T to c

-- each set is within the set at the same place
abbrev pub IsWithin : Sets → Sets → Type 0
IsWithin T R = (h : ℕ) (c : Code) → HasCode T h c → HasCode R h c

-- ---- the codes at entry

-- so many sets from a place on have the unknown code
abbrev pub AreUnknown : Sets → ℕ → ℕ → Type 0
AreUnknown T first count = (k : ℕ) → k < count → HasCode T (first + k) code.Unknown

-- so many sets from a place on have the codes of entities
abbrev pub AreCoded : Sets → ℕ → List ℕ → ℕ → Type 0
AreCoded T first codes count = (k : ℕ) → k < count → HasCode T (first + k) (entity_code (slice_index_or codes k 0))

-- entry codes for formals and contents, the unknown code for local variables and cells
pub record HasEntryCodes (s : Setting) (T : Sets) : Type 0 where
  pub formals : AreCoded T 0 s.codes (formal_count s)
  pub locals : AreUnknown T (formal_count s) (length (pointer_locals s.proc))
  pub contents : AreCoded T (pointer_count s.proc) (drop (first_content s) s.codes) (cell_blocks s (block_count s))
  pub cells : AreUnknown T (pointer_count s.proc + cell_blocks s (block_count s)) (count_by (λ c. c) (object_cells s.proc))

-- ---- rules, over the places of sets

-- the place of the set of what the target of a code holds
abbrev pub content_in : Setting → Code → Option ℕ
content_in s (code.Target t) = content_place s t
content_in s c = None

-- the code of a target moves on; null and the unknown don't
abbrev pub MovesTo : Sets → Code → ℕ → Type 0
MovesTo T (code.Target t) to = HasCode T to (code.Target t)
MovesTo T c to = Unit {0}

abbrev pub ReadsFrom : Sets → Option ℕ → ℕ → Type 0
ReadsFrom T None to = Unit {0}
ReadsFrom T (Some cell) to = Includes T cell to

abbrev pub WritesTo : Sets → ℕ → Option ℕ → Type 0
WritesTo T from None = Unit {0}
WritesTo T from (Some cell) = Includes T from cell

abbrev pub NullTo : Sets → Option ℕ → Type 0
NullTo T None = Unit {0}
NullTo T (Some cell) = HasCode T cell code.Null

abbrev pub Holds : Setting → Sets → Rule → Type 0
Holds s T (rule.Has to code) = HasCode T to code
Holds s T (rule.Includes from to) = Includes T from to
Holds s T (rule.Moves from to) = (c : Code) → HasCode T from c → MovesTo T c to
-- what each cell that w points to holds; other targets hold nothing
Holds s T (rule.Reads w to) = (c : Code) → HasCode T w c → ReadsFrom T (content_in s c) to
Holds s T (rule.Writes from w) = (c : Code) → HasCode T w c → WritesTo T from (content_in s c)
Holds s T (rule.WritesNull w) = (c : Code) → HasCode T w c → NullTo T (content_in s c)

abbrev pub MaybeHolds : Setting → Sets → Option Rule → Type 0
MaybeHolds s T None = Unit {0}
MaybeHolds s T (Some r) = Holds s T r

-- ---- the rule of a statement other than a call

abbrev pub place_of_variable : Setting → Option Name → Option ℕ
place_of_variable s None = None
place_of_variable s (Some x) = variable_number s.proc x

-- a rule between two places, where both are there
abbrev pub both : (ℕ → ℕ → Rule) → Option ℕ → Option ℕ → Option Rule
both make None later = None
both make (Some h) None = None
both make (Some h) (Some k) = Some (make h k)

abbrev pub at : (ℕ → Rule) → Option ℕ → Option Rule
at make None = None
at make (Some h) = Some (make h)

abbrev pub put_rule : Setting → Name → AnyOperand → Option Rule
put_rule s w any.Null = at (λ w. rule.WritesNull w) (variable_number s.proc w)
put_rule s w (any.Operand e) = both (λ from w. rule.Writes from w) (place_of_variable s (variable_in (any.Operand e))) (variable_number s.proc w)

abbrev pub copy_rule : Setting → Name → Option Name → Option Rule
copy_rule s p None = at (λ to. rule.Has to code.Null) (variable_number s.proc p)
copy_rule s p (Some q) = both (λ from to. rule.Includes from to) (variable_number s.proc q) (variable_number s.proc p)

abbrev pub plain_rule : Setting → Form → Option Rule
plain_rule s (form.CopyPtr p q) = copy_rule s p q
plain_rule s (form.Address p a) = at (λ to. rule.Has to (entity_code (target_of_name s a))) (variable_number s.proc p)
plain_rule s (form.Shift p q e) = both (λ from to. rule.Moves from to) (variable_number s.proc q) (variable_number s.proc p)
plain_rule s (form.Get x w) = both (λ w to. rule.Reads w to) (variable_number s.proc w) (variable_number s.proc x)
plain_rule s (form.Put w e) = put_rule s w e
plain_rule s m = None
