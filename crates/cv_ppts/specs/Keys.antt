-- The numbers that names stand for, each once, as a walk over the names sees them.
use Rattle.std.specs.Prelude.{List, None, Option, Some, drop, if◌then◌else◌, map, slice_index_or, take, ℕ}
use Rattle.std.specs.List.{flat_map}
use Rattle.cv_core.specs.Names.{stmts_of}
use Rattle.cv_ppts.specs.Entities.{as_list, distinct_behind, global_number, is_member, literal_in}
use Rattle.cv_ppts.specs.Setting.{Setting}
use Rattle.cv_ppts.specs.declared.scope.Keys.{Keys}
use Rattle.cv_ppts.specs.declared.setting.Scope.{Scope}
use Rattle.cv_ppts.specs.declared.scope.Keys.TheVariants as of

abbrev pub setting : Scope → Setting
setting s = record { program = s.p.now; proc = s.f.now; codes = s.codes.now }

-- the number of a key at each place: of the listed names, and of the literals that statements name
abbrev pub keys : Setting → Keys → List (Option ℕ)
keys s of.Listed = map (λ x. global_number s.program x) s.proc.contract.listed
keys s of.Literals = map (λ x. literal_in s.program x.form) (stmts_of s.proc.body)

abbrev pub numbers : List (Option ℕ) → List ℕ
numbers ks = flat_map as_list ks

-- those of the first i places
abbrev pub seen_numbers : List (Option ℕ) → ℕ → List ℕ
seen_numbers ks i = numbers (take i ks)

-- what the walk finds from the place i on
abbrev pub later_numbers : List (Option ℕ) → ℕ → List ℕ
later_numbers ks i = distinct_behind (seen_numbers ks i) (numbers (drop i ks))

abbrev pub new_in : List ℕ → Option ℕ → Option ℕ
new_in seen None = None
new_in seen (Some n) = if is_member n seen then None else Some n

abbrev pub new_number : List (Option ℕ) → ℕ → Option ℕ
new_number ks i = new_in (seen_numbers ks i) (slice_index_or ks i None)
