-- When hypotheses prove a goal, as tests that compute: directly, or by a step. All sums are over whole numbers.
use Rattle.std.specs.List.{list_any}
use Rattle.std.specs.Prelude.{Bool, List, [], int_le, length, nat_le, nat_lt, negsuc, pos, slice_index_or, suc, true, ℕ, ◌&&◌, ◌-◌, ◌==◌, ◌||◌, ◌∷◌}
use Rattle.cv_num.specs.Algebra.{is_natural, number, number_of, same_pairs, times, zero_row, ◌⊕◌, ◌⊖◌}
use Rattle.cv_num.specs.declared.rows.Row.{Row}
use Rattle.cv_farkas.specs.declared.steps.Step.{Step}

-- the hypothesis has the goal's pairs and no greater constant
abbrev pub shows : Row → Row → Bool
shows goal h = same_pairs h.pairs goal.pairs && int_le h.constant goal.constant

-- a number of at least 0, or one of the hypotheses shows it
abbrev pub direct : List Row → Row → Bool
direct hyps goal = is_natural (number_of goal) || list_any (shows goal) hyps

-- the sum of multiplier * hypothesis over the parts
abbrev pub combination : List Row → List (ℕ × ℕ) → Row
combination hyps [] = zero_row
combination hyps (p ∷ ps) = times (pos p.1) (slice_index_or hyps p.0 zero_row) ⊕ combination hyps ps

-- d * goal + (d - 1) less the sum is a number of at least 0
abbrev pub covers : List Row → Row → ℕ → List (ℕ × ℕ) → Bool
covers hyps goal d parts =
    is_natural (number_of (times (pos d) goal ⊕ number (pos (d - 1)) ⊖ combination hyps parts))

-- ascending hypotheses below n from `least` on, with multipliers 1..2147483647
abbrev pub are_parts : ℕ → ℕ → List (ℕ × ℕ) → Bool
are_parts least n [] = true
are_parts least n (p ∷ ps) =
    nat_le least p.0 && nat_lt p.0 n && nat_le 1 p.1 && nat_le p.1 2147483647 && are_parts (suc p.0) n ps

-- the step proves the goal, or a contradiction
abbrev pub holds : List Row → Row → Step → Bool
holds hyps goal s =
    nat_le (length hyps) 4096 && nat_le 1 s.d && nat_le s.d 65535 && are_parts 0 (length hyps) s.parts
    && (covers hyps goal s.d s.parts || ((s.d == 1) && covers hyps (number (negsuc 0)) 1 s.parts))
