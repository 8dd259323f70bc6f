-- What is shown by steps is true wherever its hypotheses are.
use Rattle.std.proofs.Common.{◌≡◌, refl, ℕ, Bool, true, false, List, [], ◌∷◌, ◌++◌, Option, Some, None, ℤ, pos, ◌≤ℤ◌, if◌then◌else◌}
use Rattle.std.proofs.lemmas.List.Elements.{All-nil, All-cons}
use Rattle.std.specs.Prelude.{◌&&◌}
use Rattle.std.specs.List.{All}
use Rattle.std.specs.Option.{option_and_then}
use Rattle.cv_num.specs.declared.rows.Row.{Row}
use Rattle.cv_num.specs.declared.rows.Wide.{Wide}
use Rattle.cv_num.specs.Rows.{row_value}
use Rattle.cv_farkas.specs.declared.steps.Step.{Step}
use Rattle.cv_farkas.specs.Proof.{direct, holds}
use Rattle.cv_farkas.specs.Computed.{holds_from, direct_from}
use Rattle.cv_farkas.specs.Sound.{holds_nonneg, direct_nonneg}
use Rattle.cv_check.specs.Shown.{Owed, owed, by_step, shown, all_shown, is_plain}

-- P holds of each element, as a pair for each
abbrev pub Each : {X : Type 0} → (X → Type 0) → List X → Type 0
Each P [] = Unit {0}
Each P (x ∷ xs) = P x × Each P xs

pub Each-append : {X : Type 0} (P : X → Type 0) (xs ys : List X) → Each P xs → Each P ys → Each P (xs ++ ys)
Each-append P [] ys h k = k
Each-append P (x ∷ xs) ys h k = (h.0, Each-append P xs ys h.1 k)

pub each_front : {X : Type 0} (P : X → Type 0) (xs ys : List X) → Each P (xs ++ ys) → Each P xs
each_front P [] ys h = tt
each_front P (x ∷ xs) ys h = (h.0, each_front P xs ys h.1)

pub each_back : {X : Type 0} (P : X → Type 0) (xs ys : List X) → Each P (xs ++ ys) → Each P ys
each_back P [] ys h = h
each_back P (x ∷ xs) ys h = each_back P xs ys h.1

pub all_from_each : {X : Type 0} (P : X → Type 0) (xs : List X) → Each P xs → All P xs
all_from_each P [] h = All-nil P
all_from_each P (x ∷ xs) h = All-cons P x xs h.0 (all_from_each P xs h.1)

-- the row is at least 0 at the point
abbrev pub IsTrueAt : (ℕ → ℤ) → Row → Type 0
IsTrueAt at r = pos 0 ≤ℤ row_value at r

abbrev pub AreTrueAt : (ℕ → ℤ) → List Row → Type 0
AreTrueAt at rs = Each (IsTrueAt at) rs

pub true_append : (at : ℕ → ℤ) (xs ys : List Row) → AreTrueAt at xs → AreTrueAt at ys → AreTrueAt at (xs ++ ys)
true_append at xs ys h k = Each-append (IsTrueAt at) xs ys h k

-- the goal is true wherever the hypotheses are
abbrev pub Follows : Owed → Type 0
Follows w = (at : ℕ → ℤ) → AreTrueAt at w.hyps → IsTrueAt at w.goal

abbrev as_wide : Row → Wide
as_wide r = record { pairs = r.pairs; constant = r.constant }

holds_follows : (hyps : List Row) (goal : Row) (s : Step) → holds hyps goal s ≡ true → Follows (owed hyps goal)
holds_follows hyps goal s h at k =
    let holds_by : _ = holds_from hyps (as_wide goal) s h in
    holds_nonneg at hyps (as_wide goal) s.d s.parts holds_by.0 holds_by.1 (all_from_each (IsTrueAt at) hyps k)

direct_follows : (hyps : List Row) (goal : Row) → direct hyps goal ≡ true → Follows (owed hyps goal)
direct_follows hyps goal h at k = direct_nonneg at hyps (as_wide goal) (direct_from hyps (as_wide goal) h) (all_from_each (IsTrueAt at) hyps k)

step_follows : (hyps : List Row) (goal : Row) (steps left : List Step) → by_step hyps goal steps ≡ Some left → Follows (owed hyps goal)
step_follows hyps goal [] left h = cc
step_follows hyps goal (s ∷ ss) left h = cases (is_plain hyps s) (holds hyps goal s) refl h
  where
    cases : (a b : Bool) → holds hyps goal s ≡ b → (if a && b then Some ss else None) ≡ Some left → Follows (owed hyps goal)
    cases true true e k = holds_follows hyps goal s e
    cases true false e k = cc
    cases false b e k = cc

shown_follows : (w : Owed) (steps left : List Step) → shown w steps ≡ Some left → Follows w
shown_follows w steps left h = cases (direct w.hyps w.goal) refl h
  where
    cases : (a : Bool) → direct w.hyps w.goal ≡ a → (if a then Some steps else by_step w.hyps w.goal steps) ≡ Some left → Follows w
    cases true e k = direct_follows w.hyps w.goal e
    cases false e k = step_follows w.hyps w.goal steps left k

no_step : {X : Type 0} (x : X) → None ≡ Some x → ⊥
no_step x h = cc

pub all_follow : (ws : List Owed) (steps left : List Step) → all_shown ws steps ≡ Some left → Each Follows ws
all_follow [] steps left h = tt
all_follow (w ∷ ws) steps left h =
    let cases : (o : Option (List Step)) → shown w steps ≡ o → option_and_then (all_shown ws) o ≡ Some left → Each Follows (w ∷ ws) =
    λ o. elim o as (λ o. shown w steps ≡ o → option_and_then (all_shown ws) o ≡ Some left → Each Follows (w ∷ ws))
    [ None ↦ λ e k. absurd (no_step left k) | Some mid ↦ λ e k. (shown_follows w steps mid e, all_follow ws mid left k) ] in
    cases (shown w steps) refl h
