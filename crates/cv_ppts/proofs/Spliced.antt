-- The list of blocks in which one was joined or opened.
use Rattle.std.proofs.Common.{refl, ℕ, zero, suc, ◌≡◌, ◌<◌, List, [], ◌∷◌, ◌++◌, length, Option, Some, None, ap, sym, ◌∙◌, take, drop, arith, slice_index_or}
use Rattle.std.specs.Option.{option_map}
use Rattle.cv_ppts.specs.Walk.{at_block, before_all, joined, opened}
use Rattle.cv_ppts.specs.declared.entities.Block.{Block}
use Rattle.cv_ppts.specs.declared.entities.Entity.{Entity}

put_front : (b : Block) (o : Option Block) (xs ys : List Block) → option_map (λ cs. b ∷ cs) (option_map (λ c. xs ++ c ∷ ys) o) ≡ option_map (λ c. (b ∷ xs) ++ c ∷ ys) o
put_front b None xs ys = refl
put_front b (Some c) xs ys = refl

begun : (bs : List Block) (o : Option Block) → before_all bs o ≡ option_map (λ c. [] ++ c ∷ bs) o
begun bs None = refl
begun bs (Some c) = refl

pub at_block_joined : (bs : List Block) (e : Entity) (k : ℕ) (d : Block) → k < length bs →
    at_block bs e k ≡ option_map (λ c. take k bs ++ c ∷ drop (suc k) bs) (joined (slice_index_or bs k d) e)
at_block_joined [] e k d h = absurd (omega arith)
at_block_joined (b ∷ bs) e zero d h = begun bs (joined b e)
at_block_joined (b ∷ bs) e (suc k) d h =
    ap (option_map (λ cs. b ∷ cs)) (at_block_joined bs e k d (omega arith)) ∙ put_front b (joined (slice_index_or bs k d) e) (take k bs) (drop (suc k) bs)

pub at_block_opened : (bs : List Block) (e : Entity) → at_block bs e (length bs) ≡ option_map (λ c. bs ++ c ∷ []) (opened e)
at_block_opened [] e = begun [] (opened e)
at_block_opened (b ∷ bs) e = ap (option_map (λ cs. b ∷ cs)) (at_block_opened bs e) ∙ put_front b (opened e) bs []

pub joined_none : (bs : List Block) (e : Entity) (k : ℕ) (d b : Block) → k < length bs → b ≡ slice_index_or bs k d → joined b e ≡ None → None ≡ at_block bs e k
joined_none bs e k d b h is n =
    sym (at_block_joined bs e k d h ∙ ap (λ x. option_map (λ c. take k bs ++ c ∷ drop (suc k) bs) (joined x e)) (sym is) ∙ ap (option_map (λ c. take k bs ++ c ∷ drop (suc k) bs)) n)

pub joined_some : (bs all : List Block) (e : Entity) (k : ℕ) (d b c : Block) → k < length bs → b ≡ slice_index_or bs k d → joined b e ≡ Some c → all ≡ take k bs ++ c ∷ drop (suc k) bs → Some all ≡ at_block bs e k
joined_some bs all e k d b c h is s same =
    ap (λ v. Some v) same ∙ sym (at_block_joined bs e k d h ∙ ap (λ x. option_map (λ c. take k bs ++ c ∷ drop (suc k) bs) (joined x e)) (sym is) ∙ ap (option_map (λ c. take k bs ++ c ∷ drop (suc k) bs)) s)

pub opened_none : (bs : List Block) (e : Entity) → opened e ≡ None → None ≡ at_block bs e (length bs)
opened_none bs e n = sym (at_block_opened bs e ∙ ap (option_map (λ c. bs ++ c ∷ [])) n)

pub opened_some : (bs all : List Block) (e : Entity) (c : Block) → opened e ≡ Some c → all ≡ bs ++ c ∷ [] → Some all ≡ at_block bs e (length bs)
opened_some bs all e c s same = ap (λ v. Some v) same ∙ sym (at_block_opened bs e ∙ ap (option_map (λ c. bs ++ c ∷ [])) s)
