-- The blocks that entities with codes make: code 0 is null, and k stands for the k-th block by its first entity.
use Rattle.std.specs.Prelude.{Bool, List, None, Option, Some, [], false, filter, if◌then◌else◌, option_map, suc, true, zero, ℕ, ◌&&◌, ◌∷◌}
use Rattle.cv_ppts.specs.Entities.{is_member, same_class}
use Rattle.cv_ppts.specs.declared.entities.Block.{Block}
use Rattle.cv_ppts.specs.declared.entities.Class.{Class}
use Rattle.cv_ppts.specs.declared.entities.Entity.{Entity}

abbrev pub meet : List ℕ → List ℕ → List ℕ
meet xs ys = filter (λ s. is_member s ys) xs

abbrev pub has_some : List ℕ → Bool
has_some [] = false
has_some (s ∷ ss) = true

abbrev pub block : Class → List ℕ → Block
block c sites = record { class = c; sites = sites }

-- a block that an entity joins, where it has the entity's class and a site in common with it
abbrev pub joined : Block → Entity → Option Block
joined b e = if same_class b.class e.class && has_some (meet b.sites e.sites) then Some (block b.class (meet b.sites e.sites)) else None

abbrev pub opened : Entity → Option Block
opened e = if has_some e.sites then Some (block e.class e.sites) else None

abbrev pub before_all : List Block → Option Block → Option (List Block)
before_all bs None = None
before_all bs (Some b) = Some (b ∷ bs)

-- the blocks after an entity gets the one at place k; it opens a new one where k is the number of blocks
abbrev pub at_block : List Block → Entity → ℕ → Option (List Block)
at_block [] e zero = before_all [] (opened e)
at_block [] e (suc k) = None
at_block (b ∷ bs) e zero = before_all bs (joined b e)
at_block (b ∷ bs) e (suc k) = option_map (λ cs. b ∷ cs) (at_block bs e k)

-- the blocks after an entity gets a code; None where it can't have it
abbrev pub after_code : List Block → Entity → ℕ → Option (List Block)
after_code bs e zero = if e.nullable then Some bs else None
after_code bs e (suc k) = at_block bs e k
