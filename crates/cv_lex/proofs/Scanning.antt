-- The tokens from a place on are the first one and those behind it.
use Rattle.std.proofs.Common.{Ok, ◌≡◌, ℕ, zero, suc, ◌+◌, ◌-◌, ◌<◌, ◌≤◌, Bool, true, false, cond, List, [], ◌∷◌, length, take, drop, get_or, Some, None, refl, sym, ap, subst, ◌∙◌, arith, drop-cons, length-take}
use Rattle.std.proofs.lemmas.List.{drop-drop, drop_all}
use Rattle.std.proofs.lemmas.List.Sums.{count_by-le-length, sum_by-append}
use Rattle.std.proofs.Math.Seq.{take-add}
use Rattle.std.specs.List.{count_by}
use Rattle.cv_lex.specs.Bytes.{byte_at, is_blank, is_newline, run}
use Rattle.cv_lex.specs.Parts.{Fits, begun}
use Rattle.cv_lex.specs.Tokens.{begun_at, Cursor, first_answer, without_first, Piece, Tokens, first_of, line_at, starts_line, tokens_behind, tokens_from}
use Rattle.cv_lex.specs.declared.begin.Front.{Front}
use Rattle.cv_lex.specs.declared.begin.Front.TheVariants as front
use Rattle.cv_lex.specs.declared.token.LexRule.{LexRule}
use Rattle.cv_lex.specs.declared.token.TokenKind.{TokenKind}
use Rattle.cv_lex.proofs.Fits.{begun_fits, run_opens}

abbrev cursor : List ℕ → ℕ → Cursor
cursor source at = record { source = source; at = at }

-- the bytes of a token are passed
passes : (source : List ℕ) (k at : ℕ) (rest : List ℕ) → tokens_behind source k at rest ≡ tokens_behind source 0 (at + k) (drop k rest)
unfolding tokens_behind
passes source zero at rest = ap (λ (p : ℕ). tokens_behind source 0 p rest) (omega arith)
passes source (suc k) at [] = refl
passes source (suc k) at (c ∷ cs) = passes source k (suc at) cs ∙ ap (λ (p : ℕ). tokens_behind source 0 p (drop k cs)) (omega arith)

-- blanks are passed
blanks_pass : (source : List ℕ) (at : ℕ) (rest : List ℕ) → tokens_behind source 0 at rest ≡ tokens_behind source 0 (at + run is_blank rest) (drop (run is_blank rest) rest)
unfolding tokens_behind
blanks_pass source at [] = refl
blanks_pass source at (c ∷ cs) = by_test (blanks_pass source (suc at) cs) (is_blank c) refl
  where
    by_test : tokens_behind source 0 (suc at) cs ≡ tokens_behind source 0 (suc at + run is_blank cs) (drop (run is_blank cs) cs) → (b : Bool) → is_blank c ≡ b
        → tokens_behind source 0 at (c ∷ cs) ≡ tokens_behind source 0 (at + run is_blank (c ∷ cs)) (drop (run is_blank (c ∷ cs)) (c ∷ cs))
    by_test below true h =
        let runs : run is_blank (c ∷ cs) ≡ suc (run is_blank cs) = run_opens is_blank c cs true h in
        let left : tokens_behind source 0 at (c ∷ cs) ≡ tokens_behind source 0 (suc at) cs = ap (λ (b : Bool). cond b (tokens_behind source 0 (suc at) cs) (first_of source at (c ∷ cs) (begun (starts_line source at) c (c ∷ cs)) (λ n. tokens_behind source (n - 1) (suc at) cs))) h in
        left ∙ below ∙ ap (λ (p : ℕ). tokens_behind source 0 p (drop (run is_blank cs) cs)) (omega arith) ∙ sym (ap (λ (n : ℕ). tokens_behind source 0 (at + n) (drop n (c ∷ cs))) runs)
    by_test below false h = ap (λ (p : ℕ). tokens_behind source 0 p (c ∷ cs)) (omega arith) ∙ sym (ap (λ (n : ℕ). tokens_behind source 0 (at + n) (drop n (c ∷ cs))) (run_opens is_blank c cs false h))

begins_token : (source : List ℕ) (place c : ℕ) (cs : List ℕ) → is_blank c ≡ false
    → tokens_behind source 0 place (c ∷ cs) ≡ first_of source place (c ∷ cs) (begun (starts_line source place) c (c ∷ cs)) (λ n. tokens_behind source (n - 1) (suc place) cs)
unfolding tokens_behind
begins_token source place c cs h =
    ap (λ (t : Bool). cond t (tokens_behind source 0 (suc place) cs) (first_of source place (c ∷ cs) (begun (starts_line source place) c (c ∷ cs)) (λ n. tokens_behind source (n - 1) (suc place) cs))) h

no_blank : (text : List ℕ) (c : ℕ) (cs : List ℕ) → drop (run is_blank text) text ≡ c ∷ cs → is_blank c ≡ false
no_blank [] c cs h = absurd cc
no_blank (d ∷ ds) c cs h = by_test (λ k. no_blank ds c cs k) (is_blank d) refl
  where
    by_test : (drop (run is_blank ds) ds ≡ c ∷ cs → is_blank c ≡ false) → (b : Bool) → is_blank d ≡ b → is_blank c ≡ false
    by_test below true e = below (sym (ap (λ (n : ℕ). drop n (d ∷ ds)) (run_opens is_blank d ds true e)) ∙ h)
    by_test below false e =
        let same : d ∷ ds ≡ c ∷ cs = sym (ap (λ (n : ℕ). drop n (d ∷ ds)) (run_opens is_blank d ds false e)) ∙ h in
        subst (λ (x : ℕ). is_blank x ≡ false) (ap (λ (u : List ℕ). get_or u 0 0) same) e

-- ---- behind the blanks

-- `place` is behind the blanks at a place, and before the end
pub record Behind (source : List ℕ) (at place : ℕ) : Type 0 where
  pub place_is : place ≡ at + run is_blank (drop at source)
  pub before_end : place < length source

moved : (source : List ℕ) (at place : ℕ) → place ≡ at + run is_blank (drop at source) → drop place source ≡ drop (run is_blank (drop at source)) (drop at source)
moved source at place e = ap (λ (k : ℕ). drop k source) e ∙ sym (drop-drop (run is_blank (drop at source)) at source)

same_tokens : (source : List ℕ) (at place : ℕ) → place ≡ at + run is_blank (drop at source) → tokens_from (cursor source at) ≡ tokens_behind source 0 place (drop place source)
same_tokens source at place e =
    blanks_pass source at (drop at source) ∙ ap (λ (u : List ℕ). tokens_behind source 0 (at + run is_blank (drop at source)) u) (sym (moved source at place e)) ∙ ap (λ (p : ℕ). tokens_behind source 0 p (drop place source)) (sym e)

opened : (source : List ℕ) (place : ℕ) → place < length source → drop place source ≡ byte_at source place ∷ drop (suc place) source
opened source place h = drop-cons source place 0 h

-- what begins at a place, and what is behind it
first_is : (source : List ℕ) (at place : ℕ) → Behind source at place
    → tokens_from (cursor source at) ≡ first_of source place (drop place source) (begun_at source place) (λ n. tokens_behind source (n - 1) (suc place) (drop (suc place) source))
first_is source at place b =
    same_tokens source at place b.place_is ∙ begins (drop place source) (byte_at source place) (drop (suc place) source) (opened source place b.before_end) (moved source at place b.place_is)
  where
    begins : (rest : List ℕ) (c : ℕ) (cs : List ℕ) → rest ≡ c ∷ cs → rest ≡ drop (run is_blank (drop at source)) (drop at source)
        → tokens_behind source 0 place rest ≡ first_of source place rest (begun (starts_line source place) c rest) (λ n. tokens_behind source (n - 1) (suc place) cs)
    begins rest c cs e m = subst (λ (u : List ℕ). tokens_behind source 0 place u ≡ first_of source place u (begun (starts_line source place) c u) (λ n. tokens_behind source (n - 1) (suc place) cs)) (sym e)
        (begins_token source place c cs (no_blank (drop at source) c cs (sym m ∙ e)))

-- ---- what the lexer finds

pub none_left : (source : List ℕ) (at place : ℕ) → place ≡ at + run is_blank (drop at source) → length source ≤ place → tokens_from (cursor source at) ≡ record { pieces = []; fault = None }
unfolding tokens_behind
none_left source at place e h = same_tokens source at place e ∙ ap (λ (u : List ℕ). tokens_behind source 0 place u) (drop_all place source h)

pub fault_due : (source : List ℕ) (at place : ℕ) (r : LexRule) → Behind source at place → begun_at source place ≡ front.Broken r
    → tokens_from (cursor source at) ≡ record { pieces = []; fault = Some (record { rule = r; at = place }) }
fault_due source at place r b e = first_is source at place b ∙ ap (λ (f : Front). first_of source place (drop place source) f (λ n. tokens_behind source (n - 1) (suc place) (drop (suc place) source))) e

pub token_due : (source : List ℕ) (at place : ℕ) (k : TokenKind) (n : ℕ) → Behind source at place → 0 < n → begun_at source place ≡ front.Part k n
    → tokens_from (cursor source at) ≡ record { pieces = record { kind = k; text = take n (drop place source); at = place; line = line_at source place } ∷ (tokens_from (cursor source (place + n))).pieces; fault = (tokens_from (cursor source (place + n))).fault }
token_due source at place k n b h e =
    first_is source at place b ∙ ap (λ (f : Front). first_of source place (drop place source) f (λ m. tokens_behind source (m - 1) (suc place) (drop (suc place) source))) e
    ∙ ap (λ (t : Tokens). first_of source place (drop place source) (front.Part k n) (λ m. t)) (left n h)
  where
    left : (n : ℕ) → 0 < n → tokens_behind source (n - 1) (suc place) (drop (suc place) source) ≡ tokens_from (cursor source (place + n))
    left zero h = absurd (omega arith)
    left (suc m) h =
        let less : suc m - 1 ≡ m = omega arith in
        ap (λ (p : ℕ). tokens_behind source p (suc place) (drop (suc place) source)) less ∙ passes source m (suc place) (drop (suc place) source) ∙ ap (tokens_behind source 0 (suc place + m)) (drop-drop m (suc place) source)
        ∙ ap (λ (p : ℕ). tokens_behind source 0 p (drop p source)) (omega arith)

pub begun_fits_at : (source : List ℕ) (at : ℕ) → at < length source → Fits (drop at source) (begun_at source at)
begun_fits_at source at h =
    subst (λ (u : List ℕ). Fits u (begun (starts_line source at) (byte_at source at) u)) (sym (opened source at h)) (begun_fits (starts_line source at) (byte_at source at) (drop (suc at) source))

-- ---- lines

pub counts_add : (test : ℕ → Bool) (n m : ℕ) (xs : List ℕ) → count_by test (take (n + m) xs) ≡ count_by test (take n xs) + count_by test (take m (drop n xs))
counts_add test n m xs = ap (count_by test) (take-add n m xs) ∙ sum_by-append _ (take n xs) (take m (drop n xs))

pub line_behind : (source : List ℕ) (at n : ℕ) → line_at source (at + n) ≡ line_at source at + count_by is_newline (take n (drop at source))
line_behind source at n = omega (arith, counts_add is_newline at n source)

pub line_within : (source : List ℕ) (at : ℕ) → line_at source at ≤ 1 + length source
line_within source at = omega (arith, count_by-le-length is_newline (take at source), length-take at source)

pub line_on : (source : List ℕ) (from at line n : ℕ) → from ≤ at → line ≡ line_at source from → n ≡ count_by is_newline (take (at - from) (drop from source)) → line + n ≡ line_at source at
line_on source from at line n h e k =
    let there : from + (at - from) ≡ at = omega arith in
    omega (arith, e, k, line_behind source from (at - from), ap (λ (p : ℕ). line_at source p) there)

-- ---- what the lexer answers

pub front_fits : (source : List ℕ) (at : ℕ) (s : Bool) (b : ℕ) (f : Front) → at < length source → s ≡ starts_line source at → b ≡ byte_at source at → f ≡ begun s b (drop at source) → Fits (drop at source) f
front_fits source at s b f h e k m =
    let whole : f ≡ begun_at source at = m ∙ ap (λ (t : Bool). begun t b (drop at source)) e ∙ ap (λ (x : ℕ). begun (starts_line source at) x (drop at source)) k in
    subst (λ (g : Front). Fits (drop at source) g) (sym whole) (begun_fits_at source at h)

pub answer_due : (source : List ℕ) (at place : ℕ) (k : TokenKind) (n line : ℕ) (p : Piece) → Behind source at place → 0 < n → begun_at source place ≡ front.Part k n
    → p ≡ record { kind = k; text = take n (drop place source); at = place; line = line } → line ≡ line_at source place → Ok (Some p) ≡ first_answer (tokens_from (cursor source at))
answer_due source at place k n line p b h e is on =
    let piece : p ≡ record { kind = k; text = take n (drop place source); at = place; line = line_at source place } =
    is ∙ ap (λ (l : ℕ). record { kind = k; text = take n (drop place source); at = place; line = l }) on in
    ap (λ (q : Piece). Ok (Some q)) piece ∙ sym (ap first_answer (token_due source at place k n b h e))

pub rest_due : (source : List ℕ) (at place : ℕ) (k : TokenKind) (n : ℕ) (p : Piece) → Behind source at place → 0 < n → n ≤ length (drop place source) → begun_at source place ≡ front.Part k n
    → p.text ≡ take n (drop place source) → p.at ≡ place → tokens_from (cursor source (p.at + length p.text)) ≡ without_first (tokens_from (cursor source at))
rest_due source at place k n p b h within e text_is at_is =
    let end : p.at + length p.text ≡ place + n = omega (arith, ap length text_is, length-take n (drop place source)) in
    ap (λ (i : ℕ). tokens_from (cursor source i)) end ∙ sym (ap without_first (token_due source at place k n b h e))
