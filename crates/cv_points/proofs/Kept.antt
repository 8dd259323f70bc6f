-- Rules that are listed once: what a list asks for, it asks for without those that it has again.
use Rattle.std.proofs.Common.{refl, ℕ, ◌≡◌, ◌<◌, ◌≤◌, ◌+◌, List, [], ◌∷◌, ◌++◌, length, slice_index_or, subst, sym, ◌∙◌, below_more, arith, inl, inr, ◌⊎◌}
use Rattle.std.specs.List.{Contains}
use Rattle.std.proofs.lemmas.List.{get_or_default}
use Rattle.cv_core.specs.declared.program.Program.{Program}
use Rattle.cv_points.specs.Growing.{AreRules, HaveSame, IsKeptIn}
use Rattle.cv_points.specs.declared.rules.Rule.{Rule}
use Rattle.cv_points.proofs.Added.{from_longer, in_last, in_longer}
use Rattle.cv_points.proofs.Grown.{Passed}

pub same_rules : (P : Program) (rules kept : List Rule) → HaveSame rules kept → AreRules P rules → AreRules P kept
same_rules P rules kept h a = record {
  closed = λ S k. a.closed S (λ r c. k r (h.there r c));
  enough = λ S k r c. a.enough S k r (h.only r c);
}

pub kept_here : (kept : List Rule) (rule : Rule) → Contains kept rule → IsKeptIn kept kept rule
kept_here kept rule c = record { earlier = λ r k. k; there = c; only = λ r k. inl k }

pub kept_behind : (kept : List Rule) (rule : Rule) → IsKeptIn kept (kept ++ rule ∷ []) rule
kept_behind kept rule = record {
  earlier = in_longer kept rule;
  there = in_last kept rule;
  only = from_longer (λ x. Contains kept x ⊎ (x ≡ rule)) kept rule (λ x c. inl c) (inr refl);
}

-- ---- over the list

pub record AreKept (rules kept : List Rule) (i : ℕ) : Type 0 where
  pub there : Passed (Contains kept) rules i
  pub only : (r : Rule) → Contains kept r → Contains rules r

pub none_kept : (rules : List Rule) → AreKept rules [] 0
none_kept rules = record {
  there = λ k d lt. absurd (omega arith);
  only = λ r (k, lt, e). absurd (omega arith);
}

pub one_kept : (rules old new : List Rule) (i : ℕ) (rule d : Rule) → i < length rules → rule ≡ slice_index_or rules i d → AreKept rules old i → IsKeptIn old new rule → AreKept rules new (i + 1)
one_kept rules old new i rule d lt e a k = record {
  there = λ n y l. below_more (λ n. Contains new (slice_index_or rules n y)) i (λ n l. k.earlier (slice_index_or rules n y) (a.there n y l))
      (subst (Contains new) (e ∙ get_or_default rules i d y lt) k.there) n l;
  only = λ r c. elim (k.only r c) [ inl c ↦ a.only r c | inr f ↦ subst (Contains rules) (sym f) (i, lt, get_or_default rules i rule d lt ∙ sym e) ];
}

pub all_kept : (rules kept : List Rule) (i : ℕ) → length rules ≤ i → AreKept rules kept i → HaveSame rules kept
all_kept rules kept i ge a = record {
  there = λ r (k, lt, e). subst (Contains kept) e (a.there k r (omega arith));
  only = a.only;
}
