-- The lists that go on from some codes are just the cases that do.
use Rattle.std.proofs.Common.{refl, ℕ, zero, suc, ◌≡◌, ◌<◌, ◌≤◌, Bool, true, false, List, [], ◌∷◌, ◌++◌, length, Option, Some, None, subst, sym, ◌∙◌, arith, append_assoc, inl, inr, ◌⊎◌, if◌then◌else◌}
use Rattle.std.specs.List.{Contains}
use Rattle.std.specs.Prelude.{IsTrue}
use Rattle.std.specs.Option.{option_map}
use Rattle.std.proofs.lemmas.Bool.{cases_lt}
use Rattle.std.proofs.lemmas.List.{append-nil}
use Rattle.cv_core.specs.declared.program.Proc.{Proc}
use Rattle.cv_core.specs.declared.program.Program.{Program}
use Rattle.cv_points.specs.Closed.{Family}
use Rattle.cv_ppts.specs.Allowed.{is_allowed}
use Rattle.cv_ppts.specs.Cases.{AreAscending, IsBefore, IsBeforeAll, go_on, is_content_case, is_named_case, scene_of}
use Rattle.cv_ppts.specs.Entities.{content_entities}
use Rattle.cv_ppts.specs.Listed.{code_limit, content_lists, named_lists, over_codes}
use Rattle.cv_ppts.specs.Walk.{after_code, at_block}
use Rattle.cv_ppts.specs.declared.entities.Block.{Block}
use Rattle.cv_ppts.specs.declared.entities.Entity.{Entity}
use Rattle.cv_ppts.proofs.Courses.{Lists}

-- ---- elements of joined lists

left_has : {X : Type 0} (xs ys : List X) (x : X) → Contains xs x → Contains (xs ++ ys) x
left_has [] ys x (k, lt, e) = absurd (omega arith)
left_has (z ∷ xs) ys x (zero, lt, e) = (0, omega arith, e)
left_has (z ∷ xs) ys x (suc k, lt, e) = let (j, l, f) = left_has xs ys x (k, omega arith, e) in (suc j, omega arith, f)

right_has : {X : Type 0} (xs ys : List X) (x : X) → Contains ys x → Contains (xs ++ ys) x
right_has [] ys x c = c
right_has (z ∷ xs) ys x c = let (j, l, f) = right_has xs ys x c in (suc j, omega arith, f)

one_has : {X : Type 0} (xs ys : List X) (x : X) → Contains (xs ++ ys) x → Contains xs x ⊎ Contains ys x
one_has [] ys x c = inr c
one_has (z ∷ xs) ys x (zero, lt, e) = inl (0, omega arith, e)
one_has (z ∷ xs) ys x (suc k, lt, e) = elim (one_has xs ys x (k, omega arith, e)) [
  | inl (j, l, f) ↦ inl (suc j, omega arith, f)
  | inr c ↦ inr c
]

pub record IsOver (lists : ℕ → Lists) (limit : ℕ) (x : List ℕ) : Type 0 where
  pub code : ℕ
  pub small : code < limit
  pub has : Contains (lists code) x

over_has : (lists : ℕ → Lists) (limit : ℕ) (x : List ℕ) → Contains (over_codes lists limit) x → IsOver lists limit x
over_has lists zero x (k, lt, e) = absurd (omega arith)
over_has lists (suc m) x c = elim (one_has (over_codes lists m) (lists m) x c) [
  | inl d ↦ let o = over_has lists m x d in record { code = o.code; small = omega arith; has = o.has }
  | inr d ↦ record { code = m; small = omega arith; has = d }
]

has_over : (lists : ℕ → Lists) (limit code : ℕ) (x : List ℕ) → code < limit → Contains (lists code) x → Contains (over_codes lists limit) x
has_over lists zero code x lt c = absurd (omega arith)
has_over lists (suc m) code x lt c = elim (cases_lt code m) [
  | inl l ↦ left_has (over_codes lists m) (lists m) x (has_over lists m code x l c)
  | inr ge ↦ let e : code ≡ m = omega arith in right_has (over_codes lists m) (lists m) x (subst (λ k. Contains (lists k) x) e c)
]

-- ---- a code that an entity can have is at most that of a new block

mapped : (b : Block) (o : Option (List Block)) (cs : List Block) → option_map (λ ds. b ∷ ds) o ≡ Some cs → (ds : List Block) × (o ≡ Some ds)
mapped b None cs e = absurd (cc)
mapped b (Some ds) cs e = (ds, refl)

at_block_small : (bs : List Block) (e : Entity) (k : ℕ) (cs : List Block) → at_block bs e k ≡ Some cs → k ≤ length bs
at_block_small [] e zero cs h = omega arith
at_block_small [] e (suc k) cs h = absurd (cc)
at_block_small (b ∷ bs) e zero cs h = omega arith
at_block_small (b ∷ bs) e (suc k) cs h = let (ds, f) = mapped b (at_block bs e k) cs h in let m = at_block_small bs e k ds f in omega arith

code_small : (bs : List Block) (e : Entity) (k : ℕ) (cs : List Block) → after_code bs e k ≡ Some cs → k < code_limit bs
code_small bs e zero cs h = omega arith
code_small bs e (suc k) cs h = let m = at_block_small bs e k cs h in omega arith

-- ---- one code

lists_in : (F : List Block → Lists) (o : Option (List Block)) (x : List ℕ) → Contains (go_on F [] o) x → (cs : List Block) × (o ≡ Some cs) × Contains (F cs) x
lists_in F None x (k, lt, e) = absurd (omega arith)
lists_in F (Some cs) x c = (cs, refl, c)

lists_have : (F : List Block → Lists) (o : Option (List Block)) (cs : List Block) (x : List ℕ) → o ≡ Some cs → Contains (F cs) x → Contains (go_on F [] o) x
lists_have F o cs x e c = subst (λ p. Contains (go_on F [] p) x) (sym e) c

test_in : (G : List Block → Bool) (o : Option (List Block)) → IsTrue (go_on G false o) → (cs : List Block) × (o ≡ Some cs) × IsTrue (G cs)
test_in G None h = absurd (cc)
test_in G (Some cs) h = (cs, refl, h)

test_has : (G : List Block → Bool) (o : Option (List Block)) (cs : List Block) → o ≡ Some cs → IsTrue (G cs) → IsTrue (go_on G false o)
test_has G o cs e h = subst (λ p. IsTrue (go_on G false p)) (sym e) h

base_in : (b : Bool) (done x : List ℕ) → Contains (if b then done ∷ [] else []) x → (x ≡ done) × IsTrue b
base_in true done x (zero, lt, e) = (sym e, refl)
base_in true done x (suc k, lt, e) = absurd (omega arith)
base_in false done x (k, lt, e) = absurd (omega arith)

base_has : (b : Bool) (done : List ℕ) → IsTrue b → Contains (if b then done ∷ [] else []) done
base_has true done h = (0, omega arith, refl)
base_has false done h = absurd (cc)

-- ---- contents

pub content_in : (P : Program) (f : Proc) (n : ℕ) (es : List Entity) (bs : List Block) (done x : List ℕ) → Contains (content_lists P f n es bs done) x →
    (ks : List ℕ) × (x ≡ done ++ ks) × IsTrue (is_content_case P f n es bs done ks)
content_in P f n [] bs done x c =
    let (e, h) = base_in (is_allowed (scene_of P f bs done n)) done x c in ([], e ∙ sym (append-nil done), h)
content_in P f n (e ∷ es) bs done x c =
    let o = over_has (λ k. go_on (λ cs. content_lists P f n es cs (done ++ k ∷ [])) [] (after_code bs e k)) (code_limit bs) x c in
    let (cs, is, d) = lists_in (λ cs. content_lists P f n es cs (done ++ o.code ∷ [])) (after_code bs e o.code) x o.has in
    let (ks, same, h) = content_in P f n es cs (done ++ o.code ∷ []) x d in
    (o.code ∷ ks, same ∙ append_assoc done (o.code ∷ []) ks, test_has (λ cs. is_content_case P f n es cs (done ++ o.code ∷ []) ks) (after_code bs e o.code) cs is h)

pub content_has : (P : Program) (f : Proc) (n : ℕ) (es : List Entity) (bs : List Block) (done ks : List ℕ) → IsTrue (is_content_case P f n es bs done ks) →
    Contains (content_lists P f n es bs done) (done ++ ks)
content_has P f n [] bs done [] h =
    subst (Contains (content_lists P f n [] bs done)) (sym (append-nil done)) (base_has (is_allowed (scene_of P f bs done n)) done h)
content_has P f n [] bs done (k ∷ ks) h = absurd (cc)
content_has P f n (e ∷ es) bs done [] h = absurd (cc)
content_has P f n (e ∷ es) bs done (k ∷ ks) h =
    let (cs, is, t) = test_in (λ cs. is_content_case P f n es cs (done ++ k ∷ []) ks) (after_code bs e k) h in
    let c = content_has P f n es cs (done ++ k ∷ []) ks t in
    let d = subst (Contains (content_lists P f n es cs (done ++ k ∷ []))) (append_assoc done (k ∷ []) ks) c in
    has_over (λ k. go_on (λ cs. content_lists P f n es cs (done ++ k ∷ [])) [] (after_code bs e k)) (code_limit bs) k (done ++ k ∷ ks) (code_small bs e k cs is)
    (lists_have (λ cs. content_lists P f n es cs (done ++ k ∷ [])) (after_code bs e k) cs (done ++ k ∷ ks) is d)

-- ---- formals, globals and literals

pub named_in : (P : Program) (S : Family) (f : Proc) (es : List Entity) (bs : List Block) (done x : List ℕ) → Contains (named_lists P S f es bs done) x →
    (ks : List ℕ) × (x ≡ done ++ ks) × IsTrue (is_named_case P S f es bs done ks)
named_in P S f [] bs done x c = content_in P f (length done) (content_entities P S bs) bs done x c
named_in P S f (e ∷ es) bs done x c =
    let o = over_has (λ k. go_on (λ cs. named_lists P S f es cs (done ++ k ∷ [])) [] (after_code bs e k)) (code_limit bs) x c in
    let (cs, is, d) = lists_in (λ cs. named_lists P S f es cs (done ++ o.code ∷ [])) (after_code bs e o.code) x o.has in
    let (ks, same, h) = named_in P S f es cs (done ++ o.code ∷ []) x d in
    (o.code ∷ ks, same ∙ append_assoc done (o.code ∷ []) ks, test_has (λ cs. is_named_case P S f es cs (done ++ o.code ∷ []) ks) (after_code bs e o.code) cs is h)

pub named_has : (P : Program) (S : Family) (f : Proc) (es : List Entity) (bs : List Block) (done ks : List ℕ) → IsTrue (is_named_case P S f es bs done ks) →
    Contains (named_lists P S f es bs done) (done ++ ks)
named_has P S f [] bs done ks h = content_has P f (length done) (content_entities P S bs) bs done ks h
named_has P S f (e ∷ es) bs done [] h = absurd (cc)
named_has P S f (e ∷ es) bs done (k ∷ ks) h =
    let (cs, is, t) = test_in (λ cs. is_named_case P S f es cs (done ++ k ∷ []) ks) (after_code bs e k) h in
    let c = named_has P S f es cs (done ++ k ∷ []) ks t in
    let d = subst (Contains (named_lists P S f es cs (done ++ k ∷ []))) (append_assoc done (k ∷ []) ks) c in
    has_over (λ k. go_on (λ cs. named_lists P S f es cs (done ++ k ∷ [])) [] (after_code bs e k)) (code_limit bs) k (done ++ k ∷ ks) (code_small bs e k cs is)
    (lists_have (λ cs. named_lists P S f es cs (done ++ k ∷ [])) (after_code bs e k) cs (done ++ k ∷ ks) is d)

-- ---- ascending

behind_same : (d ks ns : List ℕ) → IsBefore ks ns → IsBefore (d ++ ks) (d ++ ns)
behind_same [] ks ns b = b
behind_same (x ∷ d) ks ns b = inr (refl, behind_same d ks ns b)

split_before : (done ks ns : List ℕ) (j k : ℕ) → j < k → IsBefore ((done ++ j ∷ []) ++ ks) ((done ++ k ∷ []) ++ ns)
split_before done ks ns j k lt =
    subst (λ v. IsBefore v ((done ++ k ∷ []) ++ ns)) (sym (append_assoc done (j ∷ []) ks))
    (subst (λ v. IsBefore (done ++ j ∷ ks) v) (sym (append_assoc done (k ∷ []) ns)) (behind_same done (j ∷ ks) (k ∷ ns) (inl lt)))

before_joined : (x : List ℕ) (xs ys : Lists) → IsBeforeAll x xs → ((y : List ℕ) → Contains ys y → IsBefore x y) → IsBeforeAll x (xs ++ ys)
before_joined x [] [] b h = tt
before_joined x [] (y ∷ ys) b h = (h y (0, omega arith, refl), before_joined x [] ys b (λ z (k, lt, e). h z (suc k, omega arith, e)))
before_joined x (z ∷ xs) ys b h = (b.0, before_joined x xs ys b.1 h)

ascending_joined : (xs ys : Lists) → AreAscending xs → AreAscending ys → ((x y : List ℕ) → Contains xs x → Contains ys y → IsBefore x y) → AreAscending (xs ++ ys)
ascending_joined [] ys a b h = b
ascending_joined (x ∷ xs) ys a b h = (
  before_joined x xs ys a.0 (λ y c. h x y (0, omega arith, refl) c),
  ascending_joined xs ys a.1 b (λ z y (k, lt, e) c. h z y (suc k, omega arith, e) c),
)

ascending_over : (lists : ℕ → Lists) (limit : ℕ) → ((k : ℕ) → AreAscending (lists k)) → ((j k : ℕ) (x y : List ℕ) → j < k → Contains (lists j) x → Contains (lists k) y → IsBefore x y) →
    AreAscending (over_codes lists limit)
ascending_over lists zero a h = tt
ascending_over lists (suc m) a h =
    ascending_joined (over_codes lists m) (lists m) (ascending_over lists m a h) (a m)
    (λ x y c d. let o = over_has lists m x c in h o.code m x y o.small o.has d)

ascending_at : (F : List Block → Lists) (o : Option (List Block)) → ((cs : List Block) → AreAscending (F cs)) → AreAscending (go_on F [] o)
ascending_at F None a = tt
ascending_at F (Some cs) a = a cs

ascending_base : (b : Bool) (done : List ℕ) → AreAscending (if b then done ∷ [] else [])
ascending_base true done = (tt, tt)
ascending_base false done = tt

pub content_ascending : (P : Program) (f : Proc) (n : ℕ) (es : List Entity) (bs : List Block) (done : List ℕ) → AreAscending (content_lists P f n es bs done)
content_ascending P f n [] bs done = ascending_base (is_allowed (scene_of P f bs done n)) done
content_ascending P f n (e ∷ es) bs done =
    ascending_over (λ k. go_on (λ cs. content_lists P f n es cs (done ++ k ∷ [])) [] (after_code bs e k)) (code_limit bs)
    (λ k. ascending_at (λ cs. content_lists P f n es cs (done ++ k ∷ [])) (after_code bs e k) (λ cs. content_ascending P f n es cs (done ++ k ∷ [])))
    (λ j k x y lt c d.
    let (cs, is, a) = lists_in (λ cs. content_lists P f n es cs (done ++ j ∷ [])) (after_code bs e j) x c in
    let (ds, si, b) = lists_in (λ cs. content_lists P f n es cs (done ++ k ∷ [])) (after_code bs e k) y d in
    let (ks, p, h) = content_in P f n es cs (done ++ j ∷ []) x a in
    let (ns, q, i) = content_in P f n es ds (done ++ k ∷ []) y b in
    subst (λ v. IsBefore v y) (sym p) (subst (λ v. IsBefore ((done ++ j ∷ []) ++ ks) v) (sym q) (split_before done ks ns j k lt)))

pub named_ascending : (P : Program) (S : Family) (f : Proc) (es : List Entity) (bs : List Block) (done : List ℕ) → AreAscending (named_lists P S f es bs done)
named_ascending P S f [] bs done = content_ascending P f (length done) (content_entities P S bs) bs done
named_ascending P S f (e ∷ es) bs done =
    ascending_over (λ k. go_on (λ cs. named_lists P S f es cs (done ++ k ∷ [])) [] (after_code bs e k)) (code_limit bs)
    (λ k. ascending_at (λ cs. named_lists P S f es cs (done ++ k ∷ [])) (after_code bs e k) (λ cs. named_ascending P S f es cs (done ++ k ∷ [])))
    (λ j k x y lt c d.
    let (cs, is, a) = lists_in (λ cs. named_lists P S f es cs (done ++ j ∷ [])) (after_code bs e j) x c in
    let (ds, si, b) = lists_in (λ cs. named_lists P S f es cs (done ++ k ∷ [])) (after_code bs e k) y d in
    let (ks, p, h) = named_in P S f es cs (done ++ j ∷ []) x a in
    let (ns, q, i) = named_in P S f es ds (done ++ k ∷ []) y b in
    subst (λ v. IsBefore v y) (sym p) (subst (λ v. IsBefore ((done ++ j ∷ []) ++ ks) v) (sym q) (split_before done ks ns j k lt)))
