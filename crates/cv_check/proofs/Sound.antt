-- A straight-line main whose rows are shown never errs.
use Rattle.std.proofs.Common.{◌≡◌, refl, sym, ap, subst, ◌∙◌, ℕ, zero, suc, ◌≤◌, ◌<◌, ◌⊎◌, inl, inr, Bool, true, false, List, [], ◌∷◌, ◌++◌, length, map, Some, add-zero, arith, ℤ, pos, negsuc, ◌+ℤ◌, ◌-ℤ◌, ◌*ℤ◌, ◌≤ℤ◌, if◌then◌else◌}
use Rattle.std.proofs.lemmas.Int.{ints}
use Rattle.std.proofs.lemmas.List.{length-set}
use Rattle.std.specs.Prelude.{slice_get, slice_set, ◌==◌}
use Rattle.std.specs.List.{flat_map}
use Rattle.cv_num.specs.declared.rows.Row.{Row}
use Rattle.cv_num.specs.Pairs.{sum_at}
use Rattle.cv_num.specs.Algebra.{number, substituted}
use Rattle.cv_num.specs.Values.{substituted-value, after_assigning, variable-value}
use Rattle.cv_core.specs.Chars.{low_byte}
use Rattle.cv_core.specs.Names.{Name, place_of, objects_of}
use Rattle.cv_core.specs.declared.program.Program.{Program}
use Rattle.cv_core.specs.declared.program.Form.{Form}
use Rattle.cv_core.specs.declared.program.Form.TheVariants.{Address, Shift, Store, Return}
use Rattle.cv_core.specs.declared.program.Operand.TheVariants.{Number}
use Rattle.cv_core.specs.declared.program.AnyOperand.TheVariants as any
use Rattle.cv_meaning.specs.declared.memory.Ptr.TheVariants.{At}
use Rattle.cv_meaning.specs.declared.memory.Value.{Value}
use Rattle.cv_meaning.specs.declared.memory.Value.TheVariants as value
use Rattle.cv_meaning.specs.State.{Frame, State}
use Rattle.cv_meaning.specs.Step.{step}
use Rattle.cv_meaning.specs.Call.{Turn, Errs, Goes, Enters, Leaves}
use Rattle.cv_meaning.specs.Run.{turn}
use Rattle.cv_meaning.proofs.Accesses.{set-same, shift_is, store_is, get-set, writable_own, buffer}
use Rattle.cv_check.specs.declared.place.Move.{Move}
use Rattle.cv_check.specs.Integer.{plus, over, under, facts, at_nothing, at_buffer, has_byte, zero_before, zero_behind, zero_moves, other_at, other_before, other_behind, other_moves, place}
use Rattle.cv_check.specs.Shown.{Owed, owed, move_owed, place_owed, first_rows, later_rows}
use Rattle.cv_check.proofs.Named.{IsFree}
use Rattle.cv_check.proofs.Follows.{Each, each_front, each_back, AreTrueAt, Follows, true_append}

-- ---- points of the three variables

-- a code, an offset and a first zero
abbrev pub point : ℤ → ℤ → ℤ → ℕ → ℤ
point c o n zero = c
point c o n (suc zero) = o
point c o n (suc (suc v)) = n

same_at : (p q : ℕ → ℤ) → p 0 ≡ q 0 → p 1 ≡ q 1 → (v : ℕ) → v < 2 → p v ≡ q v
same_at p q a b zero h = a
same_at p q a b (suc zero) h = b
same_at p q a b (suc (suc v)) h = absurd (omega arith)

same_sum : (p q : ℕ → ℤ) → p 0 ≡ q 0 → p 1 ≡ q 1 → (ps : List (ℕ × ℤ)) → Each (λ x. x.0 < 2) ps → sum_at p ps ≡ sum_at q ps
same_sum p q a b [] h = refl
same_sum p q a b (x ∷ ps) h =
    ap (λ z. (x.1 *ℤ z) +ℤ sum_at p ps) (same_at p q a b x.0 h.0) ∙ ap (λ z. (x.1 *ℤ q x.0) +ℤ z) (same_sum p q a b ps h.1)

free_true : (p q : ℕ → ℤ) → p 0 ≡ q 0 → p 1 ≡ q 1 → (rs : List Row) → Each IsFree rs → AreTrueAt p rs → AreTrueAt q rs
free_true p q a b [] f h = tt
free_true p q a b (r ∷ rs) f h =
    let T : ℤ → Type 0 = λ z. pos 0 ≤ℤ (z +ℤ r.constant) in
    (subst T (same_sum p q a b r.pairs f.0) h.0, free_true p q a b rs f.1 h.1)

-- ---- what follows of the rows of a statement

-- after a transition whose guard holds, the next rows are true
moved_true : (rows next fs : List Row) (t : Move) (p : ℕ → ℤ) → AreTrueAt p (rows ++ t.guard ++ fs) → (rs : List Row) →
    Each Follows (map (λ r. owed (rows ++ t.guard ++ fs) (substituted t.assign r)) rs) → AreTrueAt (after_assigning t.assign p) rs
moved_true rows next fs t p h [] k = tt
moved_true rows next fs t p h (r ∷ rs) k =
    let T : ℤ → Type 0 = λ z. pos 0 ≤ℤ z in
    (subst T (substituted-value p t.assign r) (k.0 p h), moved_true rows next fs t p h rs k.1)

abbrev WithinSize : ℕ → ℤ → Type 0
WithinSize size n = (pos 0 ≤ℤ n) × (n ≤ℤ pos size)

-- the facts at a point whose code is -1 or, where it may be so, 1
facts_at_none : (size o : ℕ) (n : ℤ) (target : Bool) → o ≤ size → size < 2147483648 → WithinSize size n → AreTrueAt (point (negsuc 0) (pos o) n) (facts size target)
facts_at_none size o n true le lt w = (omega (arith, ints), (omega (arith, ints), (omega (arith, ints), (omega (arith, ints), (omega (arith, ints, w.0), (omega (arith, ints, w.1), tt))))))
facts_at_none size o n false le lt w = (omega (arith, ints), (omega (arith, ints), (omega (arith, ints), (omega (arith, ints), (omega (arith, ints, w.0), (omega (arith, ints, w.1), tt))))))

facts_at_buffer : (size o : ℕ) (n : ℤ) → o ≤ size → size < 2147483648 → WithinSize size n → AreTrueAt (point (pos 1) (pos o) n) (facts size true)
facts_at_buffer size o n le lt w = (omega (arith, ints), (omega (arith, ints), (omega (arith, ints), (omega (arith, ints), (omega (arith, ints, w.0), (omega (arith, ints, w.1), tt))))))

nothing_true : (o n : ℤ) → AreTrueAt (point (negsuc 0) o n) at_nothing
nothing_true o n = (omega (arith, ints), (omega (arith, ints), tt))

buffer_true : (size o : ℕ) (n : ℤ) → o ≤ size → AreTrueAt (point (pos 1) (pos o) n) (at_buffer size)
buffer_true size o n le = (omega (arith, ints), (omega (arith, ints), (omega (arith, ints), tt)))

-- ---- the state at a statement

abbrev pub PointsAt : ℕ → Bool → Value → ℤ → ℕ → Type 0
PointsAt object target v c o = (c ≡ negsuc 0) ⊎ ((c ≡ pos 1) × (target ≡ true) × (v ≡ value.Ptr (At object o)))

-- the rows of statement k
abbrev pub rows_at : List (List Row) → ℕ → List Row
rows_at rows zero = first_rows rows
rows_at rows (suc k) = rows_at (later_rows rows) k

module _ (b p : Name) (size : ℕ) (lt : size < 2147483648) (target : Bool) (rows : List (List Row)) where
  -- the buffer is there, the pointer is as its code says, and the rows are true
  pub record Holds (f : Frame) (k : ℕ) (s : State) : Type 0 where
    pub site : ℕ
    pub bytes : List ℕ
    pub is : slice_get s.memory f.permit.first ≡ Some (buffer site bytes)
    pub long : length bytes ≡ size
    pub c : ℤ
    pub o : ℕ
    pub le : o ≤ size
    pub at : PointsAt f.permit.first target (s.vars p) c o
    pub true_rows : AreTrueAt (point c (pos o) (pos 0)) (rows_at rows k)

  pub record IsFrame (f : Frame) : Type 0 where
    pub has_buffer : place_of (λ l. l.name) b (objects_of f.proc) ≡ Some 0
    pub gives : f.proc.contract.gives ≡ []
    pub literals : f.permit.literals.1 ≤ f.permit.first

  abbrev pub IsFineTurn : Frame → ℕ → Turn → Type 0
  IsFineTurn f k (Errs kind) = ⊥
  IsFineTurn f k (Goes to s) = (to ≡ suc k) × Holds f (suc k) s
  IsFineTurn f k (Enters g s) = ⊥
  IsFineTurn f k (Leaves v s) = Unit {0}

  -- the facts hold, at the code that the state has
  pub facts_true : (f : Frame) (v : Value) (c : ℤ) (o : ℕ) (n : ℤ) → o ≤ size → WithinSize size n → PointsAt f.permit.first target v c o →
      AreTrueAt (point c (pos o) n) (facts size target)
  facts_true f v c o n le w (inl e) = let T : ℤ → Type 0 = λ z. AreTrueAt (point z (pos o) n) (facts size target) in subst T (sym e) (facts_at_none size o n target le lt w)
  facts_true f v c o n le w (inr e) =
      let T : ℤ → Type 0 = λ z. AreTrueAt (point z (pos o) n) (facts size target) in
      let U : Bool → Type 0 = λ t. AreTrueAt (point (pos 1) (pos o) n) (facts size t) in
      subst T (sym e.0) (subst U (sym e.1) (facts_at_buffer size o n le lt w))

  natural : (z : ℤ) → pos 0 ≤ℤ z → (n : ℕ) × (z ≡ pos n)
  natural (pos n) h = (n, refl)
  natural (negsuc n) h = absurd (omega (arith, ints))

  -- ---- one statement

  module _ (f : Frame) (nar : IsFrame f) (P : Program) (free : (k : ℕ) → Each IsFree (rows_at rows k)) where
    -- the statement's rows, a guard and the facts, at a point with this first zero
    all_true : (k : ℕ) (s : State) (h : Holds f k s) (n : ℤ) (guard : List Row) → WithinSize size n → AreTrueAt (point h.c (pos h.o) n) guard →
        AreTrueAt (point h.c (pos h.o) n) (rows_at rows k ++ guard ++ facts size target)
    all_true k s h n guard w g =
        let at : ℕ → ℤ = point h.c (pos h.o) n in
        true_append at (rows_at rows k ++ guard) (facts size target)
        (true_append at (rows_at rows k) guard (free_true (point h.c (pos h.o) (pos 0)) at refl refl (rows_at rows k) (free k) h.true_rows) g)
        (facts_true f (s.vars p) h.c h.o n h.le w h.at)

    zero_within : WithinSize size (pos 0)
    zero_within = (omega (arith, ints), omega (arith, ints))

    -- what a transition to this code and offset leaves
    next_true : (k : ℕ) (s : State) (h : Holds f k s) (n : ℤ) (t : Move) (c o : ℤ) → WithinSize size n → AreTrueAt (point h.c (pos h.o) n) t.guard →
        after_assigning t.assign (point h.c (pos h.o) n) 0 ≡ c → after_assigning t.assign (point h.c (pos h.o) n) 1 ≡ o →
        Each Follows (move_owed (rows_at rows k) (rows_at rows (suc k)) (facts size target) t) →
        AreTrueAt (point c o (pos 0)) (rows_at rows (suc k))
    next_true k s h n t c o w g ec eo kept =
        free_true (after_assigning t.assign (point h.c (pos h.o) n)) (point c o (pos 0)) ec eo (rows_at rows (suc k)) (free (suc k))
        (moved_true (rows_at rows k) (rows_at rows (suc k)) (facts size target) t (point h.c (pos h.o) n) (all_true k s h n t.guard w g) (rows_at rows (suc k)) kept)

    abbrev pub Owes : Bool → ℕ → Form → Type 0
    Owes t k form = Each Follows (place_owed (rows_at rows k) (rows_at rows (suc k)) (facts size target) (place size t form))

    pub fine_address : (k : ℕ) (s : State) → target ≡ true → Holds f k s → Owes target k (Address p b) → IsFineTurn f k (turn P f k (Address p b) s)
    unfolding turn step
    fine_address k s has h kept = (
      refl,
      record {
        site = h.site;
        bytes = h.bytes;
        is = h.is;
        long = h.long;
        c = pos 1;
        o = 0;
        le = omega arith;
        at = inr (refl, has, set-same s.vars p _ ∙ rw (nar.has_buffer, add-zero) refl);
        true_rows = next_true k s h (pos 0) (record { guard = []; assign = (0, number (pos 1)) ∷ (1, number (pos 0)) ∷ [] }) (pos 1) (pos 0) zero_within tt refl refl
            (each_front Follows _ [] kept);
      },
    )

    -- a wild pointer is excluded
    not_wild : (k : ℕ) (s : State) (h : Holds f k s) → h.c ≡ negsuc 0 → Follows (owed (rows_at rows k ++ at_nothing ++ facts size target) (number (negsuc 0))) → ⊥
    not_wild k s h e kept =
        let G : ℤ → Type 0 = λ c. AreTrueAt (point c (pos h.o) (pos 0)) at_nothing in
        let low : pos 0 ≤ℤ (pos 0 +ℤ negsuc 0) = kept (point h.c (pos h.o) (pos 0)) (all_true k s h (pos 0) at_nothing zero_within (subst G (sym e) (nothing_true (pos h.o) (pos 0)))) in
        absurd (omega (arith, ints, low))

    at_buffer_true : (k : ℕ) (s : State) (h : Holds f k s) (n : ℤ) → h.c ≡ pos 1 → AreTrueAt (point h.c (pos h.o) n) (at_buffer size)
    at_buffer_true k s h n e = let G : ℤ → Type 0 = λ c. AreTrueAt (point c (pos h.o) n) (at_buffer size) in subst G (sym e) (buffer_true size h.o n h.le)

    shifts : (k : ℕ) (s : State) (z : ℤ) (h : Holds f k s) → h.c ≡ pos 1 → target ≡ true → s.vars p ≡ value.Ptr (At f.permit.first h.o) →
        Owes true k (Shift p p (Number z)) → IsFineTurn f k (turn P f k (Shift p p (Number z)) s)
    unfolding turn step
    shifts k s z h e has v kept =
        let at : ℕ → ℤ = point h.c (pos h.o) (pos 0) in
        let inside : AreTrueAt at (at_buffer size) = at_buffer_true k s h (pos 0) e in
        let hyps : AreTrueAt at (rows_at rows k ++ at_buffer size ++ facts size target) = all_true k s h (pos 0) (at_buffer size) zero_within inside in
        let low : pos 0 ≤ℤ (((pos 1 *ℤ pos h.o) +ℤ pos 0) +ℤ z) = kept.1.0 at hyps in
        let high : pos 0 ≤ℤ (((negsuc 0 *ℤ pos h.o) +ℤ pos 0) +ℤ (pos size -ℤ z)) = kept.1.1.0 at hyps in
        let to : (n : ℕ) × (pos h.o +ℤ z ≡ pos n) = natural (pos h.o +ℤ z) (omega (arith, ints, low)) in
        let within_size : to.0 ≤ size = omega (arith, ints, high, to.1) in
        let within_bytes : to.0 ≤ length h.bytes = omega (arith, h.long, within_size) in
        rw (v, shift_is s.memory f.permit.first h.o h.site to.0 h.bytes z h.is to.1 within_bytes) (
          refl,
          record {
            site = h.site;
            bytes = h.bytes;
            is = h.is;
            long = h.long;
            c = pos 1;
            o = to.0;
            le = within_size;
            at = inr (refl, has, set-same s.vars p _);
            true_rows = next_true k s h (pos 0) (record { guard = at_buffer size; assign = (0, number (pos 1)) ∷ (1, plus 1 z) ∷ [] }) (pos 1) (pos to.0) zero_within inside refl
                (omega (arith, ints, to.1)) (each_front Follows _ [] kept.1.1.1);
          },
        )

    second_move : (k : ℕ) (a b : Move) (more : List Move) →
        Each Follows (flat_map (move_owed (rows_at rows k) (rows_at rows (suc k)) (facts size target)) (a ∷ b ∷ more)) →
        Each Follows (move_owed (rows_at rows k) (rows_at rows (suc k)) (facts size target) b)
    second_move k a b more kept =
        let owes : Move → List Owed = move_owed (rows_at rows k) (rows_at rows (suc k)) (facts size target) in
        each_front Follows (owes b) (flat_map owes more) (each_back Follows (owes a) (owes b ++ flat_map owes more) kept)

    stored_true : (k : ℕ) (s : State) (h : Holds f k s) → h.c ≡ pos 1 → h.o < size → (zero_byte : Bool) →
        Each Follows (flat_map (move_owed (rows_at rows k) (rows_at rows (suc k)) (facts size target)) (if zero_byte then zero_moves size else other_moves size)) →
        AreTrueAt (point h.c (pos h.o) (pos 0)) (rows_at rows (suc k))
    stored_true k s h e inside true kept =
        let n : ℤ = pos h.o in
        let at : ℕ → ℤ = point h.c (pos h.o) n in
        let buf : AreTrueAt at (at_buffer size) = at_buffer_true k s h n e in
        next_true k s h n (zero_behind size) h.c (pos h.o)
        (omega (arith, ints), omega (arith, ints)) (true_append at (at_buffer size) (has_byte size ∷ under 1 2 (pos 0) ∷ []) buf (omega (arith, ints), (omega (arith, ints), tt)))
        (variable-value at 0) (variable-value at 1) (second_move k (zero_before size) (zero_behind size) [] kept)
    stored_true k s h e inside false kept =
        let n : ℤ = pos size in
        let at : ℕ → ℤ = point h.c (pos h.o) n in
        let buf : AreTrueAt at (at_buffer size) = at_buffer_true k s h n e in
        next_true k s h n (other_before size) h.c (pos h.o)
        (omega (arith, ints), omega (arith, ints)) (true_append at (at_buffer size) (has_byte size ∷ over 1 2 (negsuc 0) ∷ []) buf (omega (arith, ints), (omega (arith, ints), tt)))
        (variable-value at 0) (variable-value at 1) (second_move k (other_at size) (other_before size) (other_behind size ∷ []) kept)

    stores : (k : ℕ) (s : State) (z : ℤ) (h : Holds f k s) → h.c ≡ pos 1 → target ≡ true → s.vars p ≡ value.Ptr (At f.permit.first h.o) →
        Owes true k (Store p (Number z)) → IsFineTurn f k (turn P f k (Store p (Number z)) s)
    unfolding turn step
    stores k s z h e has v kept =
        let at : ℕ → ℤ = point h.c (pos h.o) (pos 0) in
        let hyps : AreTrueAt at (rows_at rows k ++ at_buffer size ++ facts size target) = all_true k s h (pos 0) (at_buffer size) zero_within (at_buffer_true k s h (pos 0) e) in
        let low : pos 0 ≤ℤ (((negsuc 0 *ℤ pos h.o) +ℤ pos 0) +ℤ (pos size -ℤ pos 1)) = kept.1.0 at hyps in
        let inside : h.o < size = omega (arith, ints, low) in
        let in_bytes : h.o < length h.bytes = omega (arith, h.long, inside) in
        let same : f.permit.first ≤ f.permit.first = omega arith in
        rw (v, store_is s.memory f.permit.first h.o h.site (low_byte z) h.bytes f.permit h.is in_bytes, writable_own f.permit f.permit.first _ nar.literals same) (
          refl,
          record {
            site = h.site;
            bytes = slice_set h.bytes h.o (low_byte z);
            is = get-set s.memory f.permit.first _ _ h.is;
            long = length-set h.bytes h.o _ ∙ h.long;
            c = h.c;
            o = h.o;
            le = h.le;
            at = inr (e, has, v);
            true_rows = stored_true k s h e inside (low_byte z == 0) kept.1.1;
          },
        )

    pub fine_shift : (k : ℕ) (s : State) (z : ℤ) (h : Holds f k s) → PointsAt f.permit.first target (s.vars p) h.c h.o → Owes target k (Shift p p (Number z)) →
        IsFineTurn f k (turn P f k (Shift p p (Number z)) s)
    fine_shift k s z h (inl e) kept = absurd (not_wild k s h e kept.0)
    fine_shift k s z h (inr e) kept = let O : Bool → Type 0 = λ t. Owes t k (Shift p p (Number z)) in shifts k s z h e.0 e.1 e.2 (subst O e.1 kept)

    pub fine_store : (k : ℕ) (s : State) (z : ℤ) (h : Holds f k s) → PointsAt f.permit.first target (s.vars p) h.c h.o → Owes target k (Store p (Number z)) →
        IsFineTurn f k (turn P f k (Store p (Number z)) s)
    fine_store k s z h (inl e) kept = absurd (not_wild k s h e kept.0)
    fine_store k s z h (inr e) kept = let O : Bool → Type 0 = λ t. Owes t k (Store p (Number z)) in stores k s z h e.0 e.1 e.2 (subst O e.1 kept)

    pub fine_return : (k : ℕ) (s : State) (z : ℤ) → IsFineTurn f k (turn P f k (Return (Some (any.Operand (Number z)))) s)
    unfolding turn step
    fine_return k s z = rw nar.gives tt
