-- What the contract doesn't allow as soon as codes are given it doesn't allow later, so that no case goes on from there.
use Rattle.std.proofs.Common.{refl, ℕ, zero, suc, ◌≡◌, ◌<◌, ◌≤◌, ◌+◌, Bool, true, false, not, ◌&&◌, ◌||◌, List, [], ◌∷◌, ◌++◌, length, Option, Some, None, ap, subst, sym, ◌∙◌, arith, drop, take, nat_lt, nat_eq, if◌then◌else◌, slice_get, ◌⊎◌, inl, inr}
use Rattle.std.specs.List.{count_by, list_any}
use Rattle.std.specs.Option.{option_map}
use Rattle.std.proofs.lemmas.List.{append-nil, length-append}
use Rattle.std.proofs.lemmas.List.Sums.{sum_by-cons}
use borrow.Author.Tests.{ltb-true}
use Rattle.cv_core.specs.Names.{Name}
use Rattle.cv_core.specs.declared.program.Atom.{Atom}
use Rattle.cv_core.specs.declared.program.Item.{Item}
use Rattle.cv_core.specs.declared.program.Proc.{Proc}
use Rattle.cv_core.specs.declared.program.Program.{Program}
use Rattle.cv_points.specs.Closed.{Family}
use Rattle.cv_points.specs.Holders.{pointer_formals}
use Rattle.cv_ppts.specs.Allowed.{Scene, code_of_content, code_of_entity, code_of_name, code_or_unknown, codes_at_entry, defined_by, entity_number, is_allowed, is_among, is_cell_block, is_changed_literal, is_false_atom, is_pointer_global, item_code, literal_codes, named_code, number_status, pointer_code, starred_code}
use Rattle.cv_ppts.specs.Cases.{go_on, scene_of}
use Rattle.cv_ppts.specs.Entities.{content_entities, is_member, listed_of, same_class}
use Rattle.cv_ppts.specs.Listed.{code_limit, content_lists, named_lists, over_codes}
use Rattle.cv_ppts.specs.Paths.{Answered, Named, Nowhere, Path, Starred, path_of}
use Rattle.cv_ppts.specs.Walk.{after_code, at_block, before_all, block, has_some, meet}
use Rattle.cv_ppts.specs.declared.code.Code.{Code}
use Rattle.cv_ppts.specs.declared.entities.Block.{Block}
use Rattle.cv_ppts.specs.declared.entities.Entity.{Entity}
use Rattle.cv_ppts.proofs.Courses.{Lists}
use Rattle.cv_ppts.proofs.Refining.{Later, LaterIf, LaterStatus, Refines, false_stays, later_some}
use Rattle.cv_core.specs.declared.program.Item.TheVariants as item
use Rattle.cv_ppts.specs.declared.code.Code.TheVariants as code
use Rattle.cv_ppts.specs.declared.status.Status.TheVariants as status

-- ---- tests

second_true : (c d : Bool) → d ≡ true → (c || d) ≡ true
second_true true d h = refl
second_true false d h = h

either_way : (a b c d : Bool) → (a ≡ true → c ≡ true) → (b ≡ true → d ≡ true) → (a || b) ≡ true → (c || d) ≡ true
either_way true b c d f g e = ap (λ x. x || d) (f refl)
either_way false b c d f g e = second_true c d (g e)

any_as : {X : Type 0} (p q : X → Bool) → ((x : X) → p x ≡ true → q x ≡ true) → (xs : List X) → list_any p xs ≡ true → list_any q xs ≡ true
any_as p q f [] e = absurd (cc)
any_as p q f (x ∷ xs) e = either_way (p x) (list_any p xs) (q x) (list_any q xs) (f x) (any_as p q f xs) e

some_one : (a b : Bool) → (not a && not b) ≡ false → (a || b) ≡ true
some_one true b e = refl
some_one false true e = refl
some_one false false e = absurd (cc)

not_none : (a b : Bool) → (a || b) ≡ true → (not a && not b) ≡ false
not_none true b e = refl
not_none false true e = refl
not_none false false e = absurd (cc)

-- ---- more codes

abbrev pub grown : Scene → ℕ → List Block → List ℕ → Scene
grown s m cs es = record { program = s.program; proc = s.proc; listed = s.listed; named = m; blocks = cs; codes = es }

pub record Extends (s : Scene) (m : ℕ) (cs : List Block) (es : List ℕ) : Type 0 where
  pub entity : (o : Option ℕ) → Later (code_of_entity s.codes o) (code_of_entity es o)
  pub content : (k : Code) → Later (code_of_content s k) (code_of_content (grown s m cs es) k)
  pub literals : (c : ℕ) → is_member c (literal_codes s) ≡ true → is_member c (literal_codes (grown s m cs es)) ≡ true

name_later : (s : Scene) (m : ℕ) (cs : List Block) (es : List ℕ) → Extends s m cs es → (w : Name) → Later (code_of_name s w) (code_of_name (grown s m cs es) w)
name_later s m cs es x w = x.entity (entity_number s w)

content_later : (s : Scene) (m : ℕ) (cs : List Block) (es : List ℕ) → Extends s m cs es → (k l : Code) → Later k l → Later (code_of_content s k) (code_of_content (grown s m cs es) l)
content_later s m cs es x k l (inl e) = inl (ap (code_of_content s) e)
content_later s m cs es x k l (inr e) = subst (λ j. Later (code_of_content s k) (code_of_content (grown s m cs es) j)) e (x.content k)

named_later : (s : Scene) (m : ℕ) (cs : List Block) (es : List ℕ) → Extends s m cs es → (g : Bool) (k l : Code) → Later k l →
    Later (if g then code_of_content s k else k) (if g then code_of_content (grown s m cs es) l else l)
named_later s m cs es x true k l h = content_later s m cs es x k l h
named_later s m cs es x false k l h = h

starred_here : (s : Scene) (m : ℕ) (cs : List Block) (es : List ℕ) → Extends s m cs es → (k : Code) → LaterIf (starred_code s k) (starred_code (grown s m cs es) k)
starred_here s m cs es x code.Unknown = inl refl
starred_here s m cs es x code.Null = inr refl
starred_here s m cs es x (code.Target t) = later_some (code_of_content s (code.Target t)) (code_of_content (grown s m cs es) (code.Target t)) (x.content (code.Target t))
starred_here s m cs es x code.New = inr refl

starred_later : (s : Scene) (m : ℕ) (cs : List Block) (es : List ℕ) → Extends s m cs es → (k l : Code) → Later k l → LaterIf (starred_code s k) (starred_code (grown s m cs es) l)
starred_later s m cs es x k l (inl e) = inl (ap (starred_code s) e)
starred_later s m cs es x k l (inr e) = subst (λ j. LaterIf (starred_code s k) (starred_code (grown s m cs es) j)) e (starred_here s m cs es x k)

pointer_later : (s : Scene) (m : ℕ) (cs : List Block) (es : List ℕ) → Extends s m cs es → (p : Path) → LaterIf (pointer_code s p) (pointer_code (grown s m cs es) p)
pointer_later s m cs es x (Named w) =
    later_some (named_code s w) (named_code (grown s m cs es) w) (named_later s m cs es x (is_pointer_global s w) (code_of_name s w) (code_of_name (grown s m cs es) w) (name_later s m cs es x w))
pointer_later s m cs es x (Starred w) = starred_later s m cs es x (code_of_name s w) (code_of_name (grown s m cs es) w) (name_later s m cs es x w)
pointer_later s m cs es x Answered = inr refl
pointer_later s m cs es x Nowhere = inr refl

defined_later : (k l : Code) → Later k l → LaterStatus (defined_by k) (defined_by l)
defined_later k l (inl e) = inl (ap defined_by e)
defined_later k l (inr e) = inr (ap defined_by e)

number_later : (s : Scene) (m : ℕ) (cs : List Block) (es : List ℕ) → Extends s m cs es → (p : Path) → LaterStatus (number_status s p) (number_status (grown s m cs es) p)
number_later s m cs es x (Named w) = inr refl
number_later s m cs es x (Starred i) = defined_later (code_of_name s i) (code_of_name (grown s m cs es) i) (name_later s m cs es x i)
number_later s m cs es x Answered = inr refl
number_later s m cs es x Nowhere = inr refl

refines : (s : Scene) (m : ℕ) (cs : List Block) (es : List ℕ) → Extends s m cs es → Refines (codes_at_entry s) (codes_at_entry (grown s m cs es))
refines s m cs es x = record { code = λ b p. pointer_later s m cs es x p; number = number_later s m cs es x; dies = λ k. refl }

item_later : (s : Scene) (m : ℕ) (cs : List Block) (es : List ℕ) → Extends s m cs es → (i : Item) → LaterIf (item_code s i) (item_code (grown s m cs es) i)
item_later s m cs es x (item.Body p) = pointer_later s m cs es x (path_of p)
item_later s m cs es x (item.Star w) = later_some (code_of_name s w) (code_of_name (grown s m cs es) w) (name_later s m cs es x w)
item_later s m cs es x (item.Name y) = later_some (code_of_name s y) (code_of_name (grown s m cs es) y) (name_later s m cs es x y)

among_stays : (b c : List ℕ) → ((k : ℕ) → is_member k b ≡ true → is_member k c ≡ true) → (o : Option Code) → is_among b o ≡ true → is_among c o ≡ true
among_stays b c f None e = absurd (cc)
among_stays b c f (Some code.Unknown) e = absurd (cc)
among_stays b c f (Some code.Null) e = absurd (cc)
among_stays b c f (Some (code.Target t)) e = f t e
among_stays b c f (Some code.New) e = absurd (cc)

among_later : (b : List ℕ) (o p : Option Code) → LaterIf o p → is_among b o ≡ true → is_among b p ≡ true
among_later b o p (inl e) h = let g : is_among b (Some code.Unknown) ≡ true = subst (λ q. is_among b q ≡ true) e h in absurd (cc)
among_later b o p (inr e) h = subst (λ q. is_among b q ≡ true) e h

changed_stays : (s : Scene) (m : ℕ) (cs : List Block) (es : List ℕ) → Extends s m cs es → (i : Item) → is_changed_literal s (literal_codes s) i ≡ true →
    is_changed_literal (grown s m cs es) (literal_codes (grown s m cs es)) i ≡ true
changed_stays s m cs es x i e =
    among_later (literal_codes (grown s m cs es)) (item_code s i) (item_code (grown s m cs es) i) (item_later s m cs es x i)
    (among_stays (literal_codes s) (literal_codes (grown s m cs es)) x.literals (item_code s i) e)

pub refused_stays : (s : Scene) (m : ℕ) (cs : List Block) (es : List ℕ) → Extends s m cs es → is_allowed s ≡ false → is_allowed (grown s m cs es) ≡ false
refused_stays s m cs es x e =
    not_none (list_any (is_false_atom (grown s m cs es)) s.proc.contract.needs) (list_any (is_changed_literal (grown s m cs es) (literal_codes (grown s m cs es))) s.proc.contract.changes)
    (either_way (list_any (is_false_atom s) s.proc.contract.needs) (list_any (is_changed_literal s (literal_codes s)) s.proc.contract.changes)
    (list_any (is_false_atom (grown s m cs es)) s.proc.contract.needs) (list_any (is_changed_literal (grown s m cs es) (literal_codes (grown s m cs es))) s.proc.contract.changes)
    (any_as (is_false_atom s) (is_false_atom (grown s m cs es)) (false_stays (codes_at_entry s) (codes_at_entry (grown s m cs es)) (refines s m cs es x)) s.proc.contract.needs)
    (any_as (is_changed_literal s (literal_codes s)) (is_changed_literal (grown s m cs es) (literal_codes (grown s m cs es))) (changed_stays s m cs es x) s.proc.contract.changes)
    (some_one (list_any (is_false_atom s) s.proc.contract.needs) (list_any (is_changed_literal s (literal_codes s)) s.proc.contract.changes) e))

-- ---- one code more

there_later : (ds xs : List ℕ) (k : ℕ) → Later (code_or_unknown (slice_get ds k)) (code_or_unknown (slice_get (ds ++ xs) k))
there_later [] xs zero = inl refl
there_later [] xs (suc k) = inl refl
there_later (d ∷ ds) xs zero = inr refl
there_later (d ∷ ds) xs (suc k) = there_later ds xs k

entity_later : (ds xs : List ℕ) (o : Option ℕ) → Later (code_of_entity ds o) (code_of_entity (ds ++ xs) o)
entity_later ds xs None = inr refl
entity_later ds xs (Some k) = there_later ds xs k

member_taken : (c n m : ℕ) (ds xs : List ℕ) → n ≤ m → is_member c (take n ds) ≡ true → is_member c (take m (ds ++ xs)) ≡ true
member_taken c zero m ds xs le e = absurd (cc)
member_taken c (suc n) m [] xs le e = absurd (cc)
member_taken c (suc n) zero (d ∷ ds) xs le e = absurd (omega arith)
member_taken c (suc n) (suc m) (d ∷ ds) xs le e =
    either_way (nat_eq d c) (is_member c (take n ds)) (nat_eq d c) (is_member c (take m (ds ++ xs))) (λ h. h) (member_taken c n m ds xs (omega arith)) e

member_more : (c j n m : ℕ) (ds xs : List ℕ) → n ≤ m → is_member c (drop j (take n ds)) ≡ true → is_member c (drop j (take m (ds ++ xs))) ≡ true
member_more c zero n m ds xs le e = member_taken c n m ds xs le e
member_more c (suc j) zero m ds xs le e = absurd (cc)
member_more c (suc j) (suc n) m [] xs le e = absurd (cc)
member_more c (suc j) (suc n) zero (d ∷ ds) xs le e = absurd (omega arith)
member_more c (suc j) (suc n) (suc m) (d ∷ ds) xs le e = member_more c j n m ds xs (omega arith) e

abbrev cells : ℕ → List Block → ℕ
cells b bs = count_by is_cell_block (take b bs)

-- the blocks before stay, with their classes
pub record AreKept (bs cs : List Block) : Type 0 where
  pub longer : length bs ≤ length cs
  pub classes : (b : ℕ) → b ≤ length bs → cells b cs ≡ cells b bs

kept_all : (bs : List Block) → AreKept bs bs
kept_all bs = record { longer = omega arith; classes = λ b le. refl }

kept_behind : (b : Block) (bs cs : List Block) → AreKept bs cs → AreKept (b ∷ bs) (b ∷ cs)
kept_behind b bs cs k = record {
  longer = (let h : length bs ≤ length cs = k.longer in omega arith);
  classes = λ j le. behind j le;
}
  where
    behind : (j : ℕ) → j ≤ suc (length bs) → cells j (b ∷ cs) ≡ cells j (b ∷ bs)
    behind zero le = refl
    behind (suc j) le =
        let h : cells j cs ≡ cells j bs = k.classes j (omega arith) in
        sum_by-cons (λ (x : Block). if is_cell_block x then 1 else 0) b (take j cs)
        ∙ ap (λ n. (if is_cell_block b then 1 else 0) + n) h
        ∙ sym (sum_by-cons (λ (x : Block). if is_cell_block x then 1 else 0) b (take j bs))

kept_if : (b : Block) (test : Bool) (sites : List ℕ) (bs cs : List Block) → before_all bs (if test then Some (block b.class sites) else None) ≡ Some cs → AreKept (b ∷ bs) cs
kept_if b true sites bs cs e = let f : block b.class sites ∷ bs ≡ cs = cc in subst (AreKept (b ∷ bs)) f (record { longer = omega arith; classes = λ j le. here j })
  where
    here : (j : ℕ) → cells j (block b.class sites ∷ bs) ≡ cells j (b ∷ bs)
    here zero = refl
    here (suc j) = refl
kept_if b false sites bs cs e = absurd (cc)

kept_map : (b : Block) (bs : List Block) (o : Option (List Block)) (cs : List Block) → option_map (λ ds. b ∷ ds) o ≡ Some cs → ((ds : List Block) → o ≡ Some ds → AreKept bs ds) → AreKept (b ∷ bs) cs
kept_map b bs None cs e h = absurd (cc)
kept_map b bs (Some ds) cs e h = let f : b ∷ ds ≡ cs = cc in subst (AreKept (b ∷ bs)) f (kept_behind b bs ds (h ds refl))

kept_none : (cs : List Block) → AreKept [] cs
kept_none cs = record { longer = omega arith; classes = λ b le. none b le }
  where
    none : (b : ℕ) → b ≤ 0 → cells b cs ≡ cells b []
    none zero le = refl
    none (suc b) le = absurd (omega arith)

kept_at : (bs : List Block) (e : Entity) (k : ℕ) (cs : List Block) → at_block bs e k ≡ Some cs → AreKept bs cs
kept_at [] e k cs h = kept_none cs
kept_at (b ∷ bs) e zero cs h = kept_if b (same_class b.class e.class && has_some (meet b.sites e.sites)) (meet b.sites e.sites) bs cs h
kept_at (b ∷ bs) e (suc k) cs h = kept_map b bs (at_block bs e k) cs h (λ ds g. kept_at bs e k ds g)

kept_null : (test : Bool) (bs cs : List Block) → (if test then Some bs else None) ≡ Some cs → AreKept bs cs
kept_null true bs cs h = let f : bs ≡ cs = cc in subst (AreKept bs) f (kept_all bs)
kept_null false bs cs h = absurd (cc)

kept_after : (bs : List Block) (e : Entity) (k : ℕ) (cs : List Block) → after_code bs e k ≡ Some cs → AreKept bs cs
kept_after bs e zero cs h = kept_null e.nullable bs cs h
kept_after bs e (suc k) cs h = kept_at bs e k cs h

more_long : (ds : List ℕ) (k : ℕ) → length (ds ++ k ∷ []) ≡ suc (length ds)
more_long ds k = let e : length (ds ++ k ∷ []) ≡ length ds + length (k ∷ []) = length-append ds (k ∷ []) in omega arith

less : (a b : ℕ) → a < b → nat_lt a b ≡ true
less a b h = grind (arith, ltb-true)

held_later : (b c : Bool) (k l : Code) → (b ≡ true → c ≡ true) → (b ≡ true → Later k l) → Later (if b then k else code.Unknown) (if c then l else code.Unknown)
held_later true true k l f g = g refl
held_later true false k l f g = absurd (let e = f refl in cc)
held_later false c k l f g = inl refl

-- what a block holds keeps its place
contents_later : (P : Program) (f : Proc) (n : ℕ) (bs cs : List Block) (ds : List ℕ) (k : ℕ) → AreKept bs cs → (c : Code) →
    Later (code_of_content (scene_of P f bs ds n) c) (code_of_content (scene_of P f cs (ds ++ k ∷ []) n) c)
contents_later P f n bs cs ds k kept code.Unknown = inl refl
contents_later P f n bs cs ds k kept code.Null = inr refl
contents_later P f n bs cs ds k kept code.New = inr refl
contents_later P f n bs cs ds k kept (code.Target zero) = inr refl
contents_later P f n bs cs ds k kept (code.Target (suc b)) =
    held_later (nat_lt b (length bs)) (nat_lt b (length cs)) (code_of_entity ds (Some (n + cells b bs))) (code_of_entity (ds ++ k ∷ []) (Some (n + cells b cs)))
    (λ e. let lt : b < length bs = ltb-true b (length bs) e in let long : length bs ≤ length cs = kept.longer in less b (length cs) (omega arith))
    (λ e. let lt : b < length bs = ltb-true b (length bs) e in
    let like : cells b cs ≡ cells b bs = kept.classes b (omega arith) in
    subst (λ j. Later (code_of_entity ds (Some (n + cells b bs))) (code_of_entity (ds ++ k ∷ []) (Some (n + j)))) (sym like) (entity_later ds (k ∷ []) (Some (n + cells b bs))))

extends_contents : (P : Program) (f : Proc) (n : ℕ) (bs cs : List Block) (ds : List ℕ) (k : ℕ) → AreKept bs cs → Extends (scene_of P f bs ds n) n cs (ds ++ k ∷ [])
extends_contents P f n bs cs ds k kept = record {
  entity = entity_later ds (k ∷ []);
  content = contents_later P f n bs cs ds k kept;
  literals = λ c e. member_more c (length (pointer_formals f) + length (listed_of P f)) n n ds (k ∷ []) (omega arith) e;
}

none_there : (n : ℕ) → code_or_unknown (slice_get [] n) ≡ code.Unknown
none_there zero = refl
none_there (suc n) = refl

none_behind : (ds : List ℕ) (n : ℕ) → code_or_unknown (slice_get ds (length ds + n)) ≡ code.Unknown
none_behind [] n = none_there n
none_behind (d ∷ ds) n =
    let e : suc (length ds + n) ≡ length (d ∷ ds) + n = omega arith in
    subst (λ k. code_or_unknown (slice_get (d ∷ ds) k) ≡ code.Unknown) e (none_behind ds n)

unknown_if : (b : Bool) (k : Code) → k ≡ code.Unknown → (if b then k else code.Unknown) ≡ code.Unknown
unknown_if true k e = e
unknown_if false k e = refl

-- while entities that are no contents get codes, no content has one
named_contents : (P : Program) (f : Proc) (bs cs : List Block) (ds es : List ℕ) (c : Code) →
    Later (code_of_content (scene_of P f bs ds (length ds)) c) (code_of_content (scene_of P f cs es (length es)) c)
named_contents P f bs cs ds es code.Unknown = inl refl
named_contents P f bs cs ds es code.Null = inr refl
named_contents P f bs cs ds es code.New = inr refl
named_contents P f bs cs ds es (code.Target zero) = inr refl
named_contents P f bs cs ds es (code.Target (suc b)) =
    inl (unknown_if (nat_lt b (length bs)) (code_of_entity ds (Some (length ds + cells b bs))) (none_behind ds (cells b bs)))

extends_named : (P : Program) (f : Proc) (bs cs : List Block) (ds : List ℕ) (k : ℕ) → Extends (scene_of P f bs ds (length ds)) (length (ds ++ k ∷ [])) cs (ds ++ k ∷ [])
extends_named P f bs cs ds k = record {
  entity = entity_later ds (k ∷ []);
  content = named_contents P f bs cs ds (ds ++ k ∷ []);
  literals = λ c e. member_more c (length (pointer_formals f) + length (listed_of P f)) (length ds) (length (ds ++ k ∷ [])) ds (k ∷ []) (let m = more_long ds k in omega arith) e;
}

-- ---- no case goes on

over_none : (lists : ℕ → Lists) (m : ℕ) → ((k : ℕ) → lists k ≡ []) → over_codes lists m ≡ []
over_none lists zero h = refl
over_none lists (suc m) h = ap (λ v. v ++ lists m) (over_none lists m h) ∙ h m

go_empty : (F : List Block → Lists) (o : Option (List Block)) → ((cs : List Block) → o ≡ Some cs → F cs ≡ []) → go_on F [] o ≡ []
go_empty F None h = refl
go_empty F (Some cs) h = h cs refl

pub contents_none : (P : Program) (f : Proc) (n : ℕ) (es : List Entity) (bs : List Block) (ds : List ℕ) → is_allowed (scene_of P f bs ds n) ≡ false → content_lists P f n es bs ds ≡ []
contents_none P f n [] bs ds e = ap (λ b. if b then ds ∷ [] else []) e
contents_none P f n (x ∷ es) bs ds e =
    over_none (λ k. go_on (λ cs. content_lists P f n es cs (ds ++ k ∷ [])) [] (after_code bs x k)) (code_limit bs)
    (λ k. go_empty (λ cs. content_lists P f n es cs (ds ++ k ∷ [])) (after_code bs x k)
    (λ cs q. contents_none P f n es cs (ds ++ k ∷ []) (refused_stays (scene_of P f bs ds n) n cs (ds ++ k ∷ []) (extends_contents P f n bs cs ds k (kept_after bs x k cs q)) e)))

pub named_none : (P : Program) (S : Family) (f : Proc) (es : List Entity) (bs : List Block) (ds : List ℕ) → is_allowed (scene_of P f bs ds (length ds)) ≡ false → named_lists P S f es bs ds ≡ []
named_none P S f [] bs ds e = contents_none P f (length ds) (content_entities P S bs) bs ds e
named_none P S f (x ∷ es) bs ds e =
    over_none (λ k. go_on (λ cs. named_lists P S f es cs (ds ++ k ∷ [])) [] (after_code bs x k)) (code_limit bs)
    (λ k. go_empty (λ cs. named_lists P S f es cs (ds ++ k ∷ [])) (after_code bs x k)
    (λ cs q. named_none P S f es cs (ds ++ k ∷ []) (refused_stays (scene_of P f bs ds (length ds)) (length (ds ++ k ∷ [])) cs (ds ++ k ∷ []) (extends_named P f bs cs ds k) e)))

pub found_nothing : (old lists : Lists) → lists ≡ [] → length old ≤ 64 → (old ≡ old ++ lists) × (length old ≤ 64)
found_nothing old lists e few = (sym (ap (λ v. old ++ v) e ∙ append-nil old), few)
