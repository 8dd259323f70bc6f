-- The lines of a text, and the tokens of a line, one by one.
use Rattle.std.proofs.Common.{◌≡◌, ◌==◌, ℕ, suc, ◌+◌, ◌<◌, ◌≤◌, Bool, true, false, cond, List, [], ◌∷◌, length, take, drop, get_or, refl, sym, ap, ◌∙◌, arith, drop-cons, add-one, inl, inr}
use Rattle.std.specs.List.{position_or_len, slice_split, All, onto_first}
use Rattle.std.proofs.lemmas.List.Splits.{slice_split_first, slice_split_none}
use Rattle.std.proofs.lemmas.List.Sums.{fails_before_first}
use Rattle.std.proofs.lemmas.Bool.{cases_lt}
use Rattle.std.proofs.lemmas.Grind.{common_steps}
use Rattle.cv_cert.specs.Reading.{tokens_of, whole_lines, lines_in, unfinished}
use Rattle.cv_cert.specs.Tokens.{fields}

abbrev space : ℕ → Bool
space b = b == 32

abbrev newline : ℕ → Bool
newline b = b == 10

none_before : (p : ℕ → Bool) (xs : List ℕ) → length xs ≤ position_or_len p xs → All (λ x. p x ≡ false) xs
none_before p xs h = λ k d lt. fails_before_first p xs k d (omega arith)

take_whole : (xs : List ℕ) (n : ℕ) → length xs ≤ n → take n xs ≡ xs
take_whole xs n h = grind (arith, common_steps)

drop_whole : (xs : List ℕ) (n : ℕ) → length xs ≤ n → drop n xs ≡ []
drop_whole xs n h = grind (arith, common_steps)

at_place : (bs : List ℕ) (e : ℕ) → e < length bs → get_or bs e 0 ∷ drop (e + 1) bs ≡ drop e bs
at_place bs e lt = rw add-one (sym (drop-cons bs e 0 lt))

pub tokens_first : (bs : List ℕ) (e : ℕ) → e ≡ position_or_len (λ b. b == 32) bs → tokens_of bs ≡ take e bs ∷ fields (drop e bs)
tokens_first bs e h = elim (cases_lt e (length bs)) [
  | inl lt ↦ (let k : position_or_len space bs < length bs = omega (arith, h) in
      slice_split_first space bs 0 k ∙ ap (λ n. take n bs ∷ tokens_of (drop (n + 1) bs)) (sym h) ∙ ap (λ (ds : List ℕ). take e bs ∷ fields ds) (at_place bs e lt))
  | inr ge ↦ (let k : length bs ≤ position_or_len space bs = omega (arith, h) in
      slice_split_none space bs (none_before space bs k) ∙ ap (λ (t : List ℕ). t ∷ []) (sym (take_whole bs e ge)) ∙ ap (λ (ds : List ℕ). take e bs ∷ fields ds) (sym (drop_whole bs e ge)))
]

pub split_is_some : (p : ℕ → Bool) (xs : List ℕ) → (t : List ℕ) × (ts : List (List ℕ)) × (slice_split p xs ≡ t ∷ ts)
split_is_some p [] = ([], [], refl)
split_is_some p (x ∷ xs) = by_test (p x) (split_is_some p xs)
  where
    by_test : (b : Bool) → (t : List ℕ) × (ts : List (List ℕ)) × (slice_split p xs ≡ t ∷ ts) → (t : List ℕ) × (ts : List (List ℕ)) × (cond b ([] ∷ slice_split p xs) (onto_first x (slice_split p xs)) ≡ t ∷ ts)
    by_test true w = ([], slice_split p xs, refl)
    by_test false w = (x ∷ w.0, w.1, ap (onto_first x) w.2)

pub line_first : (text : List ℕ) (e : ℕ) → e ≡ position_or_len (λ b. b == 10) text → e < length text → lines_in text ≡ tokens_of (take e text) ∷ lines_in (drop (e + 1) text)
unfolding lines_in
line_first text e h lt =
    let k : position_or_len newline text < length text = omega (arith, h) in
    let w = split_is_some newline (drop (e + 1) text) in
    let split : slice_split newline text ≡ take e text ∷ slice_split newline (drop (e + 1) text) = slice_split_first newline text 0 k ∙ ap (λ n. take n text ∷ slice_split newline (drop (n + 1) text)) (sym h) in
    ap whole_lines (split ∙ ap (λ (ts : List (List ℕ)). take e text ∷ ts) w.2) ∙ ap (λ (ts : List (List ℕ)). tokens_of (take e text) ∷ whole_lines ts) (sym w.2)

pub no_line : (text : List ℕ) → length text ≤ position_or_len (λ b. b == 10) text → lines_in text ≡ unfinished text
unfolding lines_in
no_line text h = ap whole_lines (slice_split_none newline text (none_before newline text h)) ∙ last text
  where
    last : (text : List ℕ) → whole_lines (text ∷ []) ≡ unfinished text
    last [] = refl
    last (b ∷ bs) = refl

-- no more lines than bytes
pub lines_short : (text : List ℕ) → length (lines_in text) ≤ length text
unfolding lines_in
lines_short text = short text
  where
    parts : (p : ℕ → Bool) (text : List ℕ) → length (whole_lines (slice_split p text)) ≤ length text
    parts p [] = omega arith
    parts p (b ∷ bs) = by_test (p b) (slice_split p bs) (split_is_some p bs) (parts p bs)
      where
        by_test : (q : Bool) (ts : List (List ℕ)) → (t : List ℕ) × (us : List (List ℕ)) × (ts ≡ t ∷ us) → length (whole_lines ts) ≤ length bs → length (whole_lines (cond q ([] ∷ ts) (onto_first b ts))) ≤ suc (length bs)
        by_test true [] w h = absurd cc
        by_test true (t ∷ us) w h = omega arith
        by_test false [] w h = absurd cc
        by_test false ([] ∷ []) w h = omega arith
        by_test false ((c ∷ cs) ∷ []) w h = omega arith
        by_test false (t ∷ (u ∷ us)) w h = omega arith

    short : (text : List ℕ) → length (whole_lines (slice_split newline text)) ≤ length text
    short text = parts newline text
