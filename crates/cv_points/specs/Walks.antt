-- The walk of the code over the objects of a program, and what a full word makes of the places.
use Rattle.std.specs.Prelude.{Bool, List, [], if◌then◌else◌, length, map, None, Option, Some, slice_index_or, suc, sum, take, zero, ℕ, ◌∷◌, ◌+◌, ◌-◌, ◌<◌, ◌≡◌, ◌≤◌, ◌^◌, min}
use Rattle.cv_core.specs.Names.{local_site, mallocs_in, place_of, stmts_of}
use Rattle.cv_core.specs.declared.program.Form.{Form}
use Rattle.cv_core.specs.declared.program.Form.TheVariants as form
use Rattle.cv_core.specs.declared.program.Program.{Program}
use Rattle.cv_points.specs.Holders.{first_holder}
use Rattle.cv_points.specs.declared.holders.Bases.{Bases}
use Rattle.cv_points.specs.declared.rules.Rule.{Rule}
use Rattle.cv_points.specs.declared.rules.Rule.TheVariants as rule
use Rattle.cv_points.specs.declared.walk.Walk.{Walk}
use Rattle.cv_points.specs.declared.walk.Walk.TheVariants as walked

-- skip objects, of which seen and what follows are cells, and then look
abbrev pub walk : List Bool → ℕ → ℕ → Walk
walk [] skip seen = walked.Past skip seen
walk (c ∷ cs) zero seen = walked.Found (if c then Some seen else None)
walk (c ∷ cs) (suc skip) seen = walk cs skip (if c then suc seen else seen)

abbrev pub then_walk : Walk → List Bool → Walk
then_walk (walked.Found n) cs = walked.Found n
then_walk (walked.Past skip seen) cs = walk cs skip seen

-- the number that a walk finds
abbrev pub found : Walk → Option ℕ
found (walked.Found n) = n
found (walked.Past skip seen) = None

-- the greatest number of a word stands for all above
abbrev pub word : ℕ → ℕ
word n = min n (2 ^ 64 - 1)

abbrev pub word_rule : Rule → Rule
word_rule (rule.Has to s) = rule.Has (word to) (word s)
word_rule (rule.Includes from to) = rule.Includes (word from) (word to)
word_rule (rule.Reads w to) = rule.Reads (word w) (word to)
word_rule (rule.Writes from w) = rule.Writes (word from) (word w)

-- what a walk of so many objects can have left and seen
abbrev pub IsShorter : ℕ → Walk → Type 0
IsShorter from (walked.Found n) = Unit {0}
IsShorter from (walked.Past skip seen) = skip + seen ≤ from

-- ---- what is looked up once

-- the site of the first call of malloc of the procedure i
abbrev pub malloc_base : Program → ℕ → ℕ
malloc_base P i = local_site P (length P.procs) + sum (map (λ g. mallocs_in (stmts_of g.body)) (take i P.procs))

pub record AreBases (P : Program) (i : ℕ) (b : Bases) : Type 0 where
  pub first : b.first ≡ word (first_holder P i)
  pub objects : b.objects ≡ word (local_site P i)
  pub mallocs : b.mallocs ≡ word (malloc_base P i)

-- the places of the first holders of the first procedures
abbrev pub AreStarts : Program → List ℕ → Type 0
AreStarts P known = (k d : ℕ) → k < length known → k < length P.procs → slice_index_or known k d ≡ word (first_holder P k)

-- the number of the procedure that a statement calls by its name
abbrev pub callee_in : Program → Form → Option ℕ
callee_in P (form.Call into g args) = place_of (λ h. h.name) g P.procs
callee_in P m = None
