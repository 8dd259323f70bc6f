-- A variable is read and set at its slot.
use Rattle.std.proofs.Common.{◌≡◌, refl, sym, ap, ◌∙◌, ℕ, zero, suc, ◌<◌, ◌≤◌, ◌+◌, Bool, true, false, List, [], ◌∷◌, ◌++◌, length, map, get_or, Option, Some, None, arith}
use Rattle.std.specs.Prelude.{slice_get, slice_set, if◌then◌else◌}
use Rattle.std.specs.Option.{option_map}
use Rattle.std.specs.Str.{bytes_eq}
use Rattle.std.proofs.lemmas.List.{length-map}
use Rattle.std.proofs.lemmas.Option.{slice_get-get_or}
use Rattle.std.proofs.lemmas.Slice.Eq.{bytes_eq-Decides}
use Rattle.cv_core.specs.Names.{Name, locals_of}
use Rattle.cv_core.specs.declared.program.Formal.{Formal}
use Rattle.cv_core.specs.declared.program.Proc.{Proc}
use Rattle.cv_meaning.specs.declared.memory.Value.{Value}
use Rattle.cv_meaning.specs.declared.memory.Value.TheVariants as value
use Rattle.cv_meaning.specs.declared.memory.Ptr.TheVariants.{Wild}
use Rattle.cv_meaning.specs.Look.{look}
use Rattle.cv_meaning.specs.State.{set}
use Rattle.cv_interp.specs.Slots.{env_of, slot_in, slot_names, slot_of, variables_of, with_values}

-- ---- reading

abbrev pub held : Option Value → Value
held None = value.Ptr Wild
held (Some v) = v

abbrev pub held_at : List Value → Option ℕ → Value
held_at vs None = value.Ptr Wild
held_at vs (Some i) = held (slice_get vs i)

nothing_held : (o : Option ℕ) → value.Ptr Wild ≡ held_at [] o
nothing_held None = refl
nothing_held (Some zero) = refl
nothing_held (Some (suc i)) = refl

one_more : (v : Value) (vs : List Value) (o : Option ℕ) → held_at vs o ≡ held_at (v ∷ vs) (option_map suc o)
one_more v vs None = refl
one_more v vs (Some i) = refl

look_step : (b : Bool) (v w : Value) (vs : List Value) (o : Option ℕ) → w ≡ held_at vs o →
    (if b then v else w) ≡ held_at (v ∷ vs) (if b then Some 0 else option_map suc o)
look_step true v w vs o e = refl
look_step false v w vs o e = e ∙ one_more v vs o

pub look_slot : (ns : List Name) (vs : List Value) (x : Name) → look (with_values ns vs) x ≡ held_at vs (slot_in ns x)
look_slot [] vs x = refl
look_slot (n ∷ ns) [] x = nothing_held (slot_in (n ∷ ns) x)
look_slot (n ∷ ns) (v ∷ vs) x = look_step (bytes_eq n x) v (look (with_values ns vs) x) vs (slot_in ns x) (look_slot ns vs x)

env_at : (f : Proc) (vs : List Value) (x : Name) → held_at vs (slot_of f x) ≡ env_of f vs x
unfolding env_of
env_at f vs x = sym (look_slot (slot_names f) vs x)

past_end : (vs : List Value) (i : ℕ) → length vs ≤ i → slice_get vs i ≡ None
past_end [] zero h = refl
past_end [] (suc i) h = refl
past_end (v ∷ vs) zero h = absurd (omega arith)
past_end (v ∷ vs) (suc i) h = let k : length vs ≤ i = omega arith in past_end vs i k

pub env_some : (f : Proc) (vs : List Value) (x : Name) (i : ℕ) (v : Value) → Some i ≡ slot_of f x → i < length vs → ((d : Value) → v ≡ get_or vs i d) → v ≡ env_of f vs x
env_some f vs x i v e lt h = h v ∙ ap held (sym (slice_get-get_or vs i v lt)) ∙ ap (held_at vs) e ∙ env_at f vs x

pub env_gone : (f : Proc) (vs : List Value) (x : Name) (i : ℕ) → Some i ≡ slot_of f x → length vs ≤ i → value.Ptr Wild ≡ env_of f vs x
env_gone f vs x i e h = ap held (sym (past_end vs i h)) ∙ ap (held_at vs) e ∙ env_at f vs x

pub env_none : (f : Proc) (vs : List Value) (x : Name) → None ≡ slot_of f x → value.Ptr Wild ≡ env_of f vs x
env_none f vs x e = ap (held_at vs) e ∙ env_at f vs x

-- ---- setting

same_as : (a b y : Name) → bytes_eq a b ≡ true → bytes_eq a y ≡ bytes_eq b y
same_as a b y h = ap (λ n. bytes_eq n y) ((bytes_eq-Decides a b).0 h)

not_both : (a x y : Name) → bytes_eq a x ≡ false → bytes_eq a y ≡ true → bytes_eq x y ≡ true → ⊥
not_both a x y h p q =
    let e : a ≡ y = (bytes_eq-Decides a y).0 p in
    let f : x ≡ y = (bytes_eq-Decides x y).0 q in
    let g : bytes_eq a x ≡ true = (bytes_eq-Decides a x).1 (e ∙ sym f) in
    cc

first_twice : (b : Bool) (v w u : Value) → (if b then v else u) ≡ (if b then v else (if b then w else u))
first_twice true v w u = refl
first_twice false v w u = refl

swapped : (b c : Bool) (v w u : Value) → (b ≡ true → c ≡ true → ⊥) → (if b then w else (if c then v else u)) ≡ (if c then v else (if b then w else u))
swapped true true v w u h = absurd (h refl refl)
swapped true false v w u h = refl
swapped false true v w u h = refl
swapped false false v w u h = refl

no_suc : (b : Bool) (o : Option ℕ) → (if b then Some 0 else option_map suc o) ≡ Some 0 → b ≡ true
no_suc true o e = refl
no_suc false None e = cc
no_suc false (Some i) e = cc

is_suc : (b : Bool) (o : Option ℕ) (i : ℕ) → (if b then Some 0 else option_map suc o) ≡ Some (suc i) → (b ≡ false) × (o ≡ Some i)
is_suc true o i e = absurd (cc)
is_suc false None i e = absurd (cc)
is_suc false (Some j) i e = (refl, cc)

set_slot_at : (ns : List Name) (vs : List Value) (i : ℕ) (x : Name) (v : Value) → slot_in ns x ≡ Some i → i < length vs → (y : Name) →
    look (with_values ns (slice_set vs i v)) y ≡ set (look (with_values ns vs)) x v y
set_slot_at [] vs i x v e lt y = absurd (cc)
set_slot_at (n ∷ ns) [] i x v e lt y = absurd (omega arith)
set_slot_at (n ∷ ns) (w ∷ ws) zero x v e lt y =
    let same : bytes_eq n x ≡ true = no_suc (bytes_eq n x) (slot_in ns x) e in
    rw (same_as n x y same) (first_twice (bytes_eq x y) v w (look (with_values ns ws) y))
set_slot_at (n ∷ ns) (w ∷ ws) (suc i) x v e lt y =
    let (other, at) = is_suc (bytes_eq n x) (slot_in ns x) i e in
    ap (λ (u : Value). if bytes_eq n y then w else u) (set_slot_at ns ws i x v at (omega arith) y)
    ∙ swapped (bytes_eq n y) (bytes_eq x y) v w (look (with_values ns ws) y) (not_both n x y other)

pub env_set : (f : Proc) (vs : List Value) (i : ℕ) (x : Name) (v : Value) → Some i ≡ slot_of f x → i < length vs →
    env_of f (slice_set vs i v) ≡ set (env_of f vs) x v
unfolding env_of
env_set f vs i x v e lt = λ j y. set_slot_at (slot_names f) vs i x v (sym e) lt y j

-- ---- two lists of slots, one behind the other

abbrev pub behind : ℕ → Option ℕ → Option ℕ → Option ℕ
behind n (Some i) o = Some i
behind n None o = option_map (λ i. n + i) o

behind_step : (b : Bool) (n : ℕ) (o p : Option ℕ) →
    (if b then Some 0 else option_map suc (behind n o p)) ≡ behind (suc n) (if b then Some 0 else option_map suc o) p
behind_step true n o p = refl
behind_step false n (Some i) p = refl
behind_step false n None None = refl
behind_step false n None (Some j) = let e : suc (n + j) ≡ suc n + j = omega arith in ap Some e

pub slot_append : (ms ns : List Name) (x : Name) → slot_in (ms ++ ns) x ≡ behind (length ms) (slot_in ms x) (slot_in ns x)
slot_append [] ns x = nothing (slot_in ns x)
  where
    nothing : (o : Option ℕ) → o ≡ behind 0 None o
    nothing None = refl
    nothing (Some i) = let e : i ≡ 0 + i = omega arith in ap Some e
slot_append (m ∷ ms) ns x =
    ap (λ (o : Option ℕ). if bytes_eq m x then Some 0 else option_map suc o) (slot_append ms ns x)
    ∙ behind_step (bytes_eq m x) (length ms) (slot_in ms x) (slot_in ns x)

within_step : (b : Bool) (n i : ℕ) (o : Option ℕ) → ((j : ℕ) → o ≡ Some j → j < n) → (if b then Some 0 else option_map suc o) ≡ Some i → i < suc n
within_step true n i o h e = let same : 0 ≡ i = cc in omega arith
within_step false n i None h e = absurd (cc)
within_step false n i (Some j) h e = let same : suc j ≡ i = cc in let lt = h j refl in omega arith

slot_within_by : (ns : List Name) (x : Name) (i : ℕ) → slot_in ns x ≡ Some i → i < length ns
slot_within_by [] x i e = absurd (cc)
slot_within_by (n ∷ ns) x i e = within_step (bytes_eq n x) (length ns) i (slot_in ns x) (slot_within_by ns x) e

pub slot_within : (f : Proc) (x : Name) (i : ℕ) → Some i ≡ slot_of f x → i < length (slot_names f)
slot_within f x i e = slot_within_by (slot_names f) x i (sym e)

slot_parts : (f : Proc) (x : Name) (o p : Option ℕ) → o ≡ slot_in (map (λ g. g.name) f.formals) x → p ≡ slot_in (variables_of (locals_of f.body)) x →
    behind (length f.formals) o p ≡ slot_of f x
slot_parts f x o p e h =
    ap (λ n. behind n o p) (sym (length-map f.formals (λ (g : Formal). g.name)))
    ∙ ap (λ q. behind (length (map (λ (g : Formal). g.name) f.formals)) q p) e
    ∙ ap (λ q. behind (length (map (λ (g : Formal). g.name) f.formals)) (slot_in (map (λ (g : Formal). g.name) f.formals) x) q) h
    ∙ sym (slot_append (map (λ (g : Formal). g.name) f.formals) (variables_of (locals_of f.body)) x)

pub slot_first : (f : Proc) (x : Name) (i : ℕ) → Some i ≡ slot_in (map (λ g. g.name) f.formals) x → Some i ≡ slot_of f x
slot_first f x i e = slot_parts f x (Some i) (slot_in (variables_of (locals_of f.body)) x) e refl

pub slot_second : (f : Proc) (x : Name) (n i : ℕ) → n ≡ length f.formals → None ≡ slot_in (map (λ g. g.name) f.formals) x →
    Some i ≡ slot_in (variables_of (locals_of f.body)) x → Some (n + i) ≡ slot_of f x
slot_second f x n i len e h = ap (λ m. Some (m + i)) len ∙ slot_parts f x None (Some i) e h

pub slot_neither : (f : Proc) (x : Name) → None ≡ slot_in (map (λ g. g.name) f.formals) x → None ≡ slot_in (variables_of (locals_of f.body)) x → None ≡ slot_of f x
slot_neither f x e h = slot_parts f x None None e h
