-- The lines of a text that is made of lines.
use Rattle.std.proofs.Common.{◌≡◌, ◌==◌, ℕ, zero, suc, ◌+◌, ◌<◌, Bool, true, false, not, ◌&&◌, cond, List, [], ◌∷◌, ◌++◌, length, take, get_or, Option, Some, None, option_map, refl, sym, ap, ◌∙◌, arith, append_assoc, eqb-true, ◌⊎◌, inl, inr}
use Rattle.std.specs.List.{AllByRecursion, All, list_all, join_with_byte, position_or_len, before_first, after_first}
use Rattle.std.proofs.lemmas.List.Splits.{slice_split_at, slice_split_none, join_with_byte-slice_split}
use Rattle.std.proofs.lemmas.List.Sums.{split_at_first, passes_at_first, fails_before_first}
use Rattle.std.proofs.lemmas.Bool.{cases_lt}
use Rattle.std.proofs.lemmas.Grind.{common_steps}
use Rattle.cv_cert.specs.Text.{Line, line_text, text_of_lines}
use Rattle.cv_cert.specs.Wrong.{first_lines}
use Rattle.cv_cert.specs.Reading.{tokens_of, whole_lines, lines_in, unfinished}
use Rattle.cv_cert.proofs.Splits.{no_line, split_is_some}
use Rattle.cv_cert.proofs.Clean.{clean_byte, clean, CleanLine, CleanLines}

abbrev space : ℕ → Bool
space b = b == 32

abbrev newline : ℕ → Bool
newline b = b == 10

-- ---- bytes of tokens

and_parts : (a b : Bool) → a && b ≡ true → (a ≡ true) × (b ≡ true)
and_parts true true e = (refl, refl)
and_parts true false e = absurd cc
and_parts false b e = absurd cc

not_true : (b : Bool) → not b ≡ true → b ≡ false
not_true true e = absurd cc
not_true false e = refl

abbrev Without : (ℕ → Bool) → List ℕ → Type 0
Without p xs = AllByRecursion (λ x. p x ≡ false) xs

without_all : (p : ℕ → Bool) (xs : List ℕ) → Without p xs → All (λ x. p x ≡ false) xs
without_all p [] h = λ k d lt. absurd (omega arith)
without_all p (x ∷ xs) h = let rest = without_all p xs h.1 in λ k d lt. at k d lt rest
  where
    at : (k : ℕ) (d : ℕ) → k < suc (length xs) → All (λ x. p x ≡ false) xs → p (get_or (x ∷ xs) k d) ≡ false
    at zero d lt rest = h.0
    at (suc k) d lt rest = rest k d (omega arith)

all_without : (p : ℕ → Bool) (xs : List ℕ) → All (λ x. p x ≡ false) xs → Without p xs
all_without p [] h = tt
all_without p (x ∷ xs) h = (h 0 x (omega arith), all_without p xs (λ k d lt. h (suc k) d (omega arith)))

without_append : (p : ℕ → Bool) (xs ys : List ℕ) → Without p xs → Without p ys → Without p (xs ++ ys)
without_append p [] ys h k = k
without_append p (x ∷ xs) ys h k = (h.0, without_append p xs ys h.1 k)

clean_spaces : (t : List ℕ) → clean t ≡ true → Without space t
clean_spaces [] h = tt
clean_spaces (b ∷ bs) h = let k = and_parts (clean_byte b) (clean bs) h in (not_true (b == 32) (and_parts (not (b == 32)) (not (b == 10)) k.0).0, clean_spaces bs k.1)

clean_newlines : (t : List ℕ) → clean t ≡ true → Without newline t
clean_newlines [] h = tt
clean_newlines (b ∷ bs) h = let k = and_parts (clean_byte b) (clean bs) h in (not_true (b == 10) (and_parts (not (b == 32)) (not (b == 10)) k.0).1, clean_newlines bs k.1)

-- ---- one line

tokens_joined : (t : List ℕ) (ts : Line) → list_all clean (t ∷ ts) ≡ true → tokens_of (join_with_byte 32 (t ∷ ts)) ≡ t ∷ ts
tokens_joined t [] h = slice_split_none space t (without_all space t (clean_spaces t (and_parts (clean t) true h).0))
tokens_joined t (u ∷ us) h =
    let k = and_parts (clean t) (list_all clean (u ∷ us)) h in
    slice_split_at space t 32 (join_with_byte 32 (u ∷ us)) (without_all space t (clean_spaces t k.0)) refl ∙ ap (λ (l : Line). t ∷ l) (tokens_joined u us k.1)

joined_newlines : (t : List ℕ) (ts : Line) → list_all clean (t ∷ ts) ≡ true → Without newline (join_with_byte 32 (t ∷ ts))
joined_newlines t [] h = clean_newlines t (and_parts (clean t) true h).0
joined_newlines t (u ∷ us) h =
    let k = and_parts (clean t) (list_all clean (u ∷ us)) h in
    without_append newline t (32 ∷ join_with_byte 32 (u ∷ us)) (clean_newlines t k.0) (refl, joined_newlines u us k.1)

-- a line without a newline in it, and what stands behind its newline
pub line_then : (line rest : List ℕ) → Without newline line → lines_in (line ++ (10 ∷ rest)) ≡ tokens_of line ∷ lines_in rest
unfolding lines_in
line_then line rest h =
    let w = split_is_some newline rest in
    ap whole_lines (slice_split_at newline line 10 rest (without_all newline line h) refl ∙ ap (λ (ts : List (List ℕ)). line ∷ ts) w.2) ∙ ap (λ (ts : List (List ℕ)). tokens_of line ∷ whole_lines ts) (sym w.2)

first_line : (l : Line) (rest : List ℕ) → CleanLine l → lines_in (line_text l ++ rest) ≡ l ∷ lines_in rest
first_line [] rest h = absurd (omega (arith, h.0))
first_line (t ∷ ts) rest h =
    ap lines_in (append_assoc (join_with_byte 32 (t ∷ ts)) (10 ∷ []) rest)
    ∙ line_then (join_with_byte 32 (t ∷ ts)) rest (joined_newlines t ts h.1)
    ∙ ap (λ (l : Line). l ∷ lines_in rest) (tokens_joined t ts h.1)

pub lines_joined : (ls : List Line) (rest : List ℕ) → CleanLines ls → lines_in (text_of_lines ls ++ rest) ≡ ls ++ lines_in rest
lines_joined [] rest h = refl
lines_joined (l ∷ ls) rest h =
    ap lines_in (append_assoc (line_text l) (text_of_lines ls) rest) ∙ first_line l (text_of_lines ls ++ rest) h.0 ∙ ap (λ (m : List Line). l ∷ m) (lines_joined ls rest h.1)

pub text_append : (a b : List Line) → text_of_lines (a ++ b) ≡ text_of_lines a ++ text_of_lines b
text_append [] b = refl
text_append (l ∷ ls) b = ap (λ (u : List ℕ). line_text l ++ u) (text_append ls b) ∙ sym (append_assoc (line_text l) (text_of_lines ls) (text_of_lines b))

pub no_lines : lines_in [] ≡ []
unfolding lines_in
no_lines = refl

-- ---- the first line of a text

-- a first line with its newline and the rest, or no newline
pub record FirstLine (text line rest : List ℕ) : Type 0 where
  pub parts : text ≡ line ++ (10 ∷ rest)
  pub plain : Without newline line

has_line : (text : List ℕ) → position_or_len newline text < length text → (line : List ℕ) × (rest : List ℕ) × FirstLine text line rest
has_line text lt =
    let e = position_or_len newline text in
    let at : get_or text e 0 ≡ 10 = eqb-true (get_or text e 0) 10 (passes_at_first newline text 0 lt) in (
      before_first newline text,
      after_first newline text,
      record {
        parts = split_at_first newline text 0 lt ∙ ap (λ b. before_first newline text ++ (b ∷ after_first newline text)) at;
        plain = all_without newline (before_first newline text) (λ k d k_lt. before k d k_lt);
      },
    )
  where
    before : (k : ℕ) (d : ℕ) → k < length (before_first newline text) → newline (get_or (before_first newline text) k d) ≡ false
    before k d k_lt =
        let len : k < position_or_len newline text = grind (arith, common_steps) in
        let same : get_or (take (position_or_len newline text) text) k d ≡ get_or text k d = grind (arith, common_steps) in
        ap newline same ∙ fails_before_first newline text k d len

pub line_or_none : (text : List ℕ) → ((line : List ℕ) × (rest : List ℕ) × FirstLine text line rest) ⊎ (Without newline text × (lines_in text ≡ unfinished text))
line_or_none text = elim (cases_lt (position_or_len newline text) (length text)) [
  | inl lt ↦ inl (has_line text lt)
  | inr ge ↦ inr (all_without newline text (λ k d lt. fails_before_first newline text k d (omega arith)), no_line text ge)
]

pub nothing_left : (text : List ℕ) → lines_in text ≡ [] → text ≡ []
nothing_left text e = elim (line_or_none text) [
  | inl w ↦ (let f = w.2 in let k : lines_in text ≡ tokens_of w.0 ∷ lines_in w.1 = ap lines_in f.parts ∙ line_then w.0 w.1 f.plain in absurd cc)
  | inr n ↦ empty text (sym n.1 ∙ e)
]
  where
    empty : (text : List ℕ) → unfinished text ≡ [] → text ≡ []
    empty [] k = refl
    empty (b ∷ bs) k = absurd cc

pub some_left : (text : List ℕ) → 0 < length text → (t : Line) × (ts : List Line) × (lines_in text ≡ t ∷ ts)
some_left text lt = by_lines (lines_in text) refl
  where
    by_lines : (ls : List Line) → lines_in text ≡ ls → (t : Line) × (ts : List Line) × (lines_in text ≡ t ∷ ts)
    by_lines [] e = absurd (omega (arith, ap length (nothing_left text e)))
    by_lines (t ∷ ts) e = (t, ts, e)

-- a text whose first line has tokens
pub opens : (text : List ℕ) (t : Line) (ts : List Line) → 0 < length t → lines_in text ≡ t ∷ ts → (rest : List ℕ) × (text ≡ line_text t ++ rest) × (lines_in rest ≡ ts)
opens text t ts some e = elim (line_or_none text) [
  | inl w ↦ (let f = w.2 in
      let k : lines_in text ≡ tokens_of w.0 ∷ lines_in w.1 = ap lines_in f.parts ∙ line_then w.0 w.1 f.plain in
      let same : tokens_of w.0 ≡ t = cc in
      let joined : w.0 ≡ join_with_byte 32 t = sym (join_with_byte-slice_split 32 w.0) ∙ ap (join_with_byte 32) same in
      (w.1, f.parts ∙ ap (λ (l : List ℕ). l ++ (10 ∷ w.1)) joined ∙ sym (append_assoc (join_with_byte 32 t) (10 ∷ []) w.1), (let m : lines_in w.1 ≡ ts = cc in m)))
  | inr n ↦ absurd (none text (sym n.1 ∙ e))
]
  where
    none : (text : List ℕ) → unfinished text ≡ t ∷ ts → ⊥
    none [] k = absurd cc
    none (b ∷ bs) k = (let m : t ≡ [] = cc in omega (arith, ap length m))

pub opens_all : (front : List Line) (text : List ℕ) (at : List Line) → CleanLines front → lines_in text ≡ front ++ at → (rest : List ℕ) × (text ≡ text_of_lines front ++ rest) × (lines_in rest ≡ at)
opens_all [] text at h e = (text, refl, e)
opens_all (l ∷ ls) text at h e =
    let one = h.0 in
    let w = opens text l (ls ++ at) one.0 e in
    let m = opens_all ls w.0 at h.1 w.2 in
    (m.0, w.1 ∙ ap (λ (u : List ℕ). line_text l ++ u) m.1 ∙ sym (append_assoc (line_text l) (text_of_lines ls) m.0), m.2)

-- ---- the first n lines

abbrev behind : List ℕ → Option (List ℕ) → Option (List ℕ)
behind front o = option_map (λ rest. front ++ rest) o

behind_twice : (a b : List ℕ) (o : Option (List ℕ)) → behind a (behind b o) ≡ behind (a ++ b) o
behind_twice a b None = refl
behind_twice a b (Some x) = ap (λ (u : List ℕ). Some u) (sym (append_assoc a b x))

one_byte : (b : ℕ) (bs : List ℕ) (o : Option (List ℕ)) → option_map (λ rest. b ∷ rest) (behind bs o) ≡ behind (b ∷ bs) o
one_byte b bs None = refl
one_byte b bs (Some x) = refl

pub first_then : (line rest : List ℕ) (n : ℕ) → Without newline line → first_lines (suc n) (line ++ (10 ∷ rest)) ≡ behind (line ++ 10 ∷ []) (first_lines n rest)
first_then [] rest n h = refl
first_then (b ∷ bs) rest n h =
    let other : (b == 10) ≡ false = h.0 in
    ap (λ q. option_map (λ u. b ∷ u) (first_lines (cond q n (suc n)) (bs ++ (10 ∷ rest)))) other
    ∙ ap (option_map (λ u. b ∷ u)) (first_then bs rest n h.1) ∙ one_byte b (bs ++ 10 ∷ []) (first_lines n rest)

pub first_none : (text : List ℕ) (n : ℕ) → Without newline text → first_lines (suc n) text ≡ None
first_none [] n h = refl
first_none (b ∷ bs) n h =
    let other : (b == 10) ≡ false = h.0 in
    ap (λ q. option_map (λ u. b ∷ u) (first_lines (cond q n (suc n)) bs)) other ∙ ap (option_map (λ u. b ∷ u)) (first_none bs n h.1)

first_of_line : (l : Line) (rest : List ℕ) (n : ℕ) → CleanLine l → first_lines (suc n) (line_text l ++ rest) ≡ behind (line_text l) (first_lines n rest)
first_of_line [] rest n h = absurd (omega (arith, h.0))
first_of_line (t ∷ ts) rest n h = ap (first_lines (suc n)) (append_assoc (join_with_byte 32 (t ∷ ts)) (10 ∷ []) rest) ∙ first_then (join_with_byte 32 (t ∷ ts)) rest n (joined_newlines t ts h.1)

behind_nothing : (o : Option (List ℕ)) → o ≡ behind [] o
behind_nothing None = refl
behind_nothing (Some x) = refl

pub first_joined : (front : List Line) (rest : List ℕ) (n : ℕ) → CleanLines front → first_lines (length front + n) (text_of_lines front ++ rest) ≡ behind (text_of_lines front) (first_lines n rest)
first_joined [] rest n h = ap (λ k. first_lines k rest) (let e : 0 + n ≡ n = omega arith in e) ∙ behind_nothing (first_lines n rest)
first_joined (l ∷ ls) rest n h =
    ap (λ k. first_lines k (text_of_lines (l ∷ ls) ++ rest)) (let e : suc (length ls) + n ≡ suc (length ls + n) = omega arith in e)
    ∙ ap (first_lines (suc (length ls + n))) (append_assoc (line_text l) (text_of_lines ls) rest)
    ∙ first_of_line l (text_of_lines ls ++ rest) (length ls + n) h.0
    ∙ ap (behind (line_text l)) (first_joined ls rest n h.1) ∙ behind_twice (line_text l) (text_of_lines ls) (first_lines n rest)
