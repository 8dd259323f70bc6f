-- The lists of codes that go on from some, in ascending order, and what a search for them gives.
use Rattle.std.specs.Prelude.{Bool, List, MatchBool, [], if◌then◌else◌, length, suc, zero, ℕ, ◌++◌, ◌+◌, ◌<◌, ◌≤◌, ◌∷◌, ◌≡◌}
use Rattle.cv_core.specs.declared.program.Proc.{Proc}
use Rattle.cv_core.specs.declared.program.Program.{Program}
use Rattle.cv_points.specs.Closed.{Family}
use Rattle.cv_points.specs.Growing.{ArePlaces}
use Rattle.cv_ppts.specs.Allowed.{is_allowed}
use Rattle.cv_ppts.specs.Cases.{go_on, scene_of}
use Rattle.cv_ppts.specs.Entities.{content_entities, listed_of}
use Rattle.cv_ppts.specs.Walk.{after_code}
use Rattle.cv_ppts.specs.declared.entities.Block.{Block}
use Rattle.cv_ppts.specs.declared.entities.Entity.{Entity}
use Rattle.cv_ppts.specs.declared.search.Search.{Search}

-- the lists of the codes below m, code by code
abbrev pub over_codes : (ℕ → List (List ℕ)) → ℕ → List (List ℕ)
over_codes lists zero = []
over_codes lists (suc k) = over_codes lists k ++ lists k

-- one more than a new block's code
abbrev pub code_limit : List Block → ℕ
code_limit bs = length bs + 2

abbrev pub content_lists : Program → Proc → ℕ → List Entity → List Block → List ℕ → List (List ℕ)
content_lists P f n [] bs done = if is_allowed (scene_of P f bs done n) then done ∷ [] else []
content_lists P f n (e ∷ es) bs done =
    over_codes (λ k. go_on (λ cs. content_lists P f n es cs (done ++ k ∷ [])) [] (after_code bs e k)) (code_limit bs)

abbrev pub named_lists : Program → Family → Proc → List Entity → List Block → List ℕ → List (List ℕ)
named_lists P S f [] bs done = content_lists P f (length done) (content_entities P S bs) bs done
named_lists P S f (e ∷ es) bs done =
    over_codes (λ k. go_on (λ cs. named_lists P S f es cs (done ++ k ∷ [])) [] (after_code bs e k)) (code_limit bs)

-- where all were found, they stand behind the others and are at most 64 with them; else they are more
abbrev pub IsFound : List (List ℕ) → List (List ℕ) → List (List ℕ) → Bool → Type 0
IsFound old new lists all = MatchBool all ((new ≡ old ++ lists) × (length new ≤ 64)) (64 < length old + length lists)

-- what a search looks things up in
pub record IsSearch (s : Search) : Type 0 where
  pub cells : ArePlaces s.p.now s.cells.now
  pub listed : s.listed.now ≡ listed_of s.p.now s.f.now
