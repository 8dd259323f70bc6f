-- The numbering of keys by their first places: 0 where there is no key, and else 1, 2, .. in the order in which keys
-- are first seen. (Of the numbers of keys alone: the restricted growth string of the partition that the keys make.)
use Rattle.std.specs.Prelude.{List, None, Option, Some, [], get_or, if◌then◌else◌, length, nat_eq, suc, ℕ, ◌<◌, ◌∷◌, ◌≡◌, ◌↔◌}

-- ---- the numbers, one after the other

-- the number of a key behind those that were seen
abbrev pub seen_number : List ℕ → ℕ → ℕ
seen_number [] key = 1
seen_number (k ∷ ks) key = if nat_eq k key then 1 else suc (seen_number ks key)

-- the keys that were seen, and another one, once
abbrev pub with_key : List ℕ → ℕ → List ℕ
with_key [] key = key ∷ []
with_key (k ∷ ks) key = if nat_eq k key then k ∷ ks else k ∷ with_key ks key

abbrev pub numbers_behind : List ℕ → List (Option ℕ) → List ℕ
numbers_behind seen [] = []
numbers_behind seen (None ∷ keys) = 0 ∷ numbers_behind seen keys
numbers_behind seen (Some key ∷ keys) = seen_number seen key ∷ numbers_behind (with_key seen key) keys

abbrev pub first_seen : List (Option ℕ) → List ℕ
first_seen keys = numbers_behind [] keys

-- ---- what such numbers are, place by place

pub record IsNumbering (keys : List (Option ℕ)) (numbers : List ℕ) : Type 0 where
  pub each : length numbers ≡ length keys
  -- 0 exactly where there is no key
  pub none : (i : ℕ) → i < length keys → (get_or keys i None ≡ None) ↔ (get_or numbers i 0 ≡ 0)
  -- one number exactly where there is one key
  pub same : (i j : ℕ) → i < length keys → j < length keys → (get_or keys i None ≡ get_or keys j None) ↔ (get_or numbers i 0 ≡ get_or numbers j 0)
  -- in front of each number but 1 stands the one before it
  pub next : (i n : ℕ) → i < length keys → get_or numbers i 0 ≡ suc (suc n) → (j : ℕ) × (j < i) × (get_or numbers j 0 ≡ suc n)
