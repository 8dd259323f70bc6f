-- What holds of the elements that a loop has passed, and of each element at its end.
use Rattle.std.proofs.Common.{refl, ℕ, ◌≡◌, ◌<◌, ◌≤◌, ◌+◌, List, length, slice_index_or, subst, below_more, arith, Option, Some, None}
use Rattle.std.specs.List.{Contains}
use Rattle.std.specs.Option.{MatchOption, option_map}
use Rattle.std.proofs.lemmas.List.{get_or_default}
use Rattle.cv_points.specs.Walks.{word}

-- one more element
pub passed : (P : ℕ → Type 0) (xs : List ℕ) (i : ℕ) → i < length xs → ((k d : ℕ) → k < i → P (slice_index_or xs k d)) → P (slice_index_or xs i 0) → (k d : ℕ) → k < i + 1 → P (slice_index_or xs k d)
passed P xs i h before here k d lt =
    below_more (λ k. P (slice_index_or xs k d)) i (λ k lt. before k d lt) (subst P (get_or_default xs i 0 d h) here) k lt

-- each element, at the end
pub all_passed : (P : ℕ → Type 0) (xs : List ℕ) (i : ℕ) → length xs ≤ i → ((k d : ℕ) → k < i → P (slice_index_or xs k d)) → (s : ℕ) → Contains xs s → P s
all_passed P xs i h before s (k, lt, e) = subst P e (before k s (omega arith))

pub match_map : {T : Type 0} (P R : Type 0) (Q W : T → Type 0) (r : Option T) → (P → R) → ((m : T) → Q m → W m) → MatchOption r P Q → MatchOption r R W
match_map P R Q W None f g h = f h
match_map P R Q W (Some m) f g h = g m h

-- what a mapped option came from
pub record IsWordOf (o : Option ℕ) (n : ℕ) : Type 0 where
  pub whole : ℕ
  pub is : o ≡ Some whole
  pub word_is : n ≡ word whole

pub word_of : (o : Option ℕ) (n : ℕ) → Some n ≡ option_map word o → IsWordOf o n
word_of None n e = absurd (cc)
word_of (Some k) n e = record { whole = k; is = refl; word_is = cc }
