-- The alias cases of a procedure over a family: which lists of codes are allowed.
use Rattle.std.specs.Prelude.{Bool, IsTrue, List, None, Option, Some, [], false, length, map, slice_get, ℕ, ◌++◌, ◌<◌, ◌∷◌, ◌≡◌, ◌⊎◌}
use Rattle.std.specs.List.{Contains}
use Rattle.cv_core.specs.declared.program.Proc.{Proc}
use Rattle.cv_core.specs.declared.program.Program.{Program}
use Rattle.cv_points.specs.Closed.{Family}
use Rattle.cv_ppts.specs.Allowed.{Scene, is_allowed}
use Rattle.cv_ppts.specs.Entities.{content_entities, listed_of, named_entities}
use Rattle.cv_ppts.specs.Walk.{after_code}
use Rattle.cv_ppts.specs.declared.codes.Case.{Case}
use Rattle.cv_ppts.specs.declared.codes.CaseError.{CaseError}
use Rattle.cv_ppts.specs.declared.codes.CaseError.TheVariants as err
use Rattle.cv_ppts.specs.declared.entities.Block.{Block}
use Rattle.cv_ppts.specs.declared.entities.Entity.{Entity}

-- ---- a case is allowed

abbrev pub scene_of : Program → Proc → List Block → List ℕ → ℕ → Scene
scene_of P f blocks codes n =
    record { program = P; proc = f; listed = listed_of P f; named = n; blocks = blocks; codes = codes }

-- the entities get codes one after the other, each such as its place and its sites allow; `done` are the codes of
-- those before
abbrev pub go_on : {X : Type 0} → (List Block → X) → X → Option (List Block) → X
go_on next none None = none
go_on next none (Some bs) = next bs

-- the contents, and then the contract's atoms and items
abbrev pub is_content_case : Program → Proc → ℕ → List Entity → List Block → List ℕ → List ℕ → Bool
is_content_case P f n [] bs done [] = is_allowed (scene_of P f bs done n)
is_content_case P f n [] bs done (k ∷ ks) = false
is_content_case P f n (e ∷ es) bs done [] = false
is_content_case P f n (e ∷ es) bs done (k ∷ ks) = go_on (λ cs. is_content_case P f n es cs (done ++ k ∷ []) ks) false (after_code bs e k)

-- the formals, globals and literals, and then the contents of the blocks of pointer cells
abbrev pub is_named_case : Program → Family → Proc → List Entity → List Block → List ℕ → List ℕ → Bool
is_named_case P S f [] bs done ks = is_content_case P f (length done) (content_entities P S bs) bs done ks
is_named_case P S f (e ∷ es) bs done [] = false
is_named_case P S f (e ∷ es) bs done (k ∷ ks) = go_on (λ cs. is_named_case P S f es cs (done ++ k ∷ []) ks) false (after_code bs e k)

abbrev pub is_case_of : Program → Family → ℕ → Option Proc → List ℕ → Bool
is_case_of P S i None ks = false
is_case_of P S i (Some f) ks = is_named_case P S f (named_entities P S i f) [] [] ks

-- the list of codes is an alias case of the procedure i
abbrev pub IsCase : Program → Family → ℕ → List ℕ → Type 0
IsCase P S i codes = IsTrue (is_case_of P S i (slice_get P.procs i) codes)

-- ---- the order of cases

-- by their first difference
abbrev pub IsBefore : List ℕ → List ℕ → Type 0
IsBefore ks [] = ⊥
IsBefore [] (n ∷ ns) = Unit {0}
IsBefore (k ∷ ks) (n ∷ ns) = (k < n) ⊎ ((k ≡ n) × IsBefore ks ns)

abbrev pub IsBeforeAll : List ℕ → List (List ℕ) → Type 0
IsBeforeAll x [] = Unit {0}
IsBeforeAll x (y ∷ ys) = IsBefore x y × IsBeforeAll x ys

-- ascending, so that none stands twice
abbrev pub AreAscending : List (List ℕ) → Type 0
AreAscending [] = Unit {0}
AreAscending (x ∷ xs) = IsBeforeAll x xs × AreAscending xs

abbrev pub codes_of : List Case → List (List ℕ)
codes_of cs = map (λ c. c.codes) cs

-- all the cases, ascending
pub record AreCases (P : Program) (S : Family) (i : ℕ) (lists : List (List ℕ)) : Type 0 where
  pub each : (codes : List ℕ) → (Contains lists codes → IsCase P S i codes) × (IsCase P S i codes → Contains lists codes)
  pub ascending : AreAscending lists

-- the list of all cases has more than 64
pub record AreTooMany (P : Program) (S : Family) (i : ℕ) : Type 0 where
  pub lists : List (List ℕ)
  pub all : AreCases P S i lists
  pub many : 64 < length lists

abbrev pub IsCauseOf : Program → Family → ℕ → CaseError → Type 0
IsCauseOf P S i err.Limit = AreTooMany P S i
IsCauseOf P S i err.Memory = Unit {0}
