-- What each line of a certificate is read as, and the reading of a whole one.
use Rattle.std.specs.Prelude.{ℕ, suc, ℤ, Bool, true, false, ◌&&◌, ◌==◌, if◌then◌else◌, List, [], ◌∷◌, length, codes, Option, Some, None, option_map, option_and_then, ◌⊎◌}
use Rattle.std.proofs.Common.{inl, inr}
use Rattle.std.specs.Str.{bytes_eq}
use Rattle.cv_core.specs.Grammar.{is_name}
use Rattle.cv_num.specs.declared.rows.Row.{Row}
use Rattle.cv_farkas.specs.declared.steps.Step.{Step}
use Rattle.cv_cert.specs.declared.certificate.Block.{Block}
use Rattle.cv_cert.specs.declared.certificate.CertCase.{CertCase}
use Rattle.cv_cert.specs.Certificate.{Certificate}
use Rattle.cv_cert.specs.Text.{Line}
use Rattle.cv_cert.specs.Tokens.{number_of, integer_of, both, numbers_of, ascending_from, pairs_by, is_canonical, has_room, is_after}
use Rattle.cv_cert.specs.Reading.{Reading, ◌>>=◌, give, one_line, each, many}

abbrev pub or_else : {A : Type 0} → Option A → Option A → Option A
or_else (Some a) other = Some a
or_else None other = other

-- ---- lines

-- the tokens behind a word
abbrev pub tail_of : List ℕ → Line → Option Line
tail_of word [] = None
tail_of word (t ∷ ts) = if bytes_eq t word then Some ts else None

-- that there is nothing behind a word
abbrev pub ends : Option Line → Bool
ends None = false
ends (Some []) = true
ends (Some (t ∷ ts)) = false

abbrev pub if_true : Bool → Option (Unit {0})
if_true b = if b then Some tt else None

-- what stands behind the first token, where that is this word
abbrev pub tail_behind : List ℕ → Option Line → Option Line
tail_behind word None = None
tail_behind word (Some ts) = tail_of word ts

unfoldable pub is_header : Line → Bool
is_header line = ends (tail_behind (codes "1") (tail_of (codes "cssv-cert") line))

unfoldable pub is_end : Line → Bool
is_end line = ends (tail_of (codes "end") line)

abbrev pub only_number : Line → Option ℕ
only_number [] = None
only_number (t ∷ []) = number_of t
only_number (t ∷ (u ∷ us)) = None

-- a word and a number
unfoldable pub count_of : List ℕ → Line → Option ℕ
count_of word line = option_and_then only_number (tail_of word line)

abbrev pub is_number : ℕ → Option ℕ → Bool
is_number n None = false
is_number n (Some m) = m == n

unfoldable pub is_case : ℕ → Line → Bool
is_case n line = is_number n (count_of (codes "case") line)

unfoldable pub set_of : Line → Option (List ℕ)
set_of line = option_and_then (ascending_from 0) (tail_of (codes "set") line)

abbrev pub rows_after : ℕ → Line → Option ℕ
rows_after n [] = None
rows_after n (t ∷ []) = None
rows_after n (t ∷ (u ∷ [])) = if is_number n (number_of t) then number_of u else None
rows_after n (t ∷ (u ∷ (v ∷ vs))) = None

-- how many rows statement n has
unfoldable pub at_of : ℕ → Line → Option ℕ
at_of n line = option_and_then (rows_after n) (tail_of (codes "at") line)

abbrev pub counted : {A : Type 0} → Option ℕ → Option (List A) → Option (List A)
counted (Some n) (Some xs) = if n == length xs then Some xs else None
counted (Some n) None = None
counted None xs = None

abbrev pub counted_numbers : Line → Option (List ℕ)
counted_numbers [] = None
counted_numbers (t ∷ ts) = counted (number_of t) (numbers_of ts)

unfoldable pub picks_of : Line → Option (List ℕ)
picks_of line = option_and_then counted_numbers (tail_of (codes "picks") line)

abbrev pub made_row : ℤ → List (ℕ × ℤ) → Row
made_row constant pairs = record { pairs = pairs; constant = constant }

abbrev pub if_canonical : Option Row → Option Row
if_canonical None = None
if_canonical (Some r) = if is_canonical r.pairs then Some r else None

abbrev pub row_after : Line → Option Row
row_after [] = None
row_after (t ∷ ts) = if_canonical (both made_row (integer_of t) (pairs_by integer_of ts))

unfoldable pub row_of : Line → Option Row
row_of line = option_and_then row_after (tail_of (codes "row") line)

-- a row behind another, and n more to come
abbrev pub fitting : ℕ → Option Row → Option Row → Option Row
fitting n before None = None
fitting n before (Some r) = if is_after before r && has_room n r.pairs then Some r else None

unfoldable pub next_row_of : ℕ → Option Row → Line → Option Row
next_row_of n before line = fitting n before (row_of line)

abbrev pub made_step : ℕ → List (ℕ × ℕ) → Step
made_step d parts = record { d = d; parts = parts }

abbrev pub step_after : Line → Option Step
step_after [] = None
step_after (t ∷ ts) = both made_step (number_of t) (pairs_by number_of ts)

unfoldable pub step_of : Line → Option Step
step_of line = option_and_then step_after (tail_of (codes "step") line)

abbrev pub named : Line → Option (List ℕ × ℕ)
named [] = None
named (t ∷ []) = None
named (t ∷ (u ∷ [])) = if is_name t then option_map (λ n. (t, n)) (number_of u) else None
named (t ∷ (u ∷ (v ∷ vs))) = None

-- a procedure's name and how many cases it has
unfoldable pub block_of : Line → Option (List ℕ × ℕ)
block_of line = option_and_then named (tail_of (codes "proc") line)

-- how many rows statement n has, or the picks
unfoldable pub statement_of : ℕ → Line → Option (ℕ ⊎ List ℕ)
statement_of n line = or_else (option_map inl (at_of n line)) (option_map inr (picks_of line))

-- a block's heading, or the end
unfoldable pub heading_of : Line → Option ((List ℕ × ℕ) ⊎ Unit {0})
heading_of line = or_else (option_map inl (block_of line)) (option_map inr (if_true (is_end line)))

-- ---- all lines

unfoldable pub rows : ℕ → Reading (List Row)
rows n = each (λ left before. one_line (next_row_of left before)) (λ before r. Some r) n None

abbrev pub rows_or_picks : ℕ ⊎ List ℕ → Reading (List Row ⊎ List ℕ)
rows_or_picks (inl n) = rows n >>= λ rs. give (inl rs)
rows_or_picks (inr picks) = give (inr picks)

-- the rows of statement n, or the picks where the statements end
unfoldable pub statement : ℕ → Reading (List Row ⊎ List ℕ)
statement n = one_line (statement_of n) >>= rows_or_picks

unfoldable pub statements : Reading (List (List Row) × List ℕ)
statements = many statement (λ n rs. suc n) 0

unfoldable pub step_lines : ℕ → Reading (List Step)
step_lines n = each {A = Step} {S = Unit {0}} (λ left s. one_line step_of) (λ s x. tt) n tt

unfoldable pub steps : Reading (List Step)
steps = one_line (count_of (codes "steps")) >>= λ n. step_lines n

unfoldable pub a_case : ℕ → Reading CertCase
a_case n = one_line (λ line. if_true (is_case n line)) >>= λ _. statements >>= λ p. steps >>= λ ss. give (record { rows = p.0; picks = p.1; steps = ss })

unfoldable pub cases : ℕ → Reading (List CertCase)
cases n = each (λ left i. a_case i) (λ i c. suc i) n 1

abbrev pub block_or_end : (List ℕ × ℕ) ⊎ Unit {0} → Reading (Block ⊎ Unit {0})
block_or_end (inl p) = cases p.1 >>= λ cs. give (inl (record { name = p.0; cases = cs }))
block_or_end (inr u) = give (inr u)

unfoldable pub block : Reading (Block ⊎ Unit {0})
block = one_line heading_of >>= block_or_end

unfoldable pub blocks : Reading (List Block × Unit {0})
blocks = many {A = Block} {E = Unit {0}} {S = Unit {0}} (λ s. block) (λ s b. tt) tt

unfoldable pub set_lines : ℕ → Reading (List (List ℕ))
set_lines n = each {A = List ℕ} {S = Unit {0}} (λ left s. one_line set_of) (λ s x. tt) n tt

unfoldable pub sets : Reading (List (List ℕ))
sets = one_line (count_of (codes "points")) >>= λ n. set_lines n

unfoldable pub certificate : Reading Certificate
certificate = one_line (λ line. if_true (is_header line)) >>= λ _. sets >>= λ ss. blocks >>= λ bs. give (record { sets = ss; blocks = bs.0 })
