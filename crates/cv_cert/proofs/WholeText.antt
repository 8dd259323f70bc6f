-- What the reading of all lines says of the bytes.
use Rattle.std.proofs.Common.{◌≡◌, ℕ, zero, suc, ◌+◌, ◌<◌, ◌≤◌, List, [], ◌∷◌, ◌++◌, length, take, drop, Option, Some, None, option_map, Result, Ok, Err, refl, sym, ap, subst, ◌∙◌, arith, append_assoc, inl, inr, IsSomeAnd}
use Rattle.std.proofs.lemmas.List.{append-nil, length-append}
use Rattle.std.proofs.lemmas.Grind.{common_steps}
use Rattle.cv_cert.specs.Certificate.{Certificate, IsCertificate}
use Rattle.cv_cert.specs.Text.{Line, text_of_lines, lines_of, text_of}
use Rattle.cv_cert.specs.Wrong.{BeginsText, first_lines, IsRightTo, IsFirstWrong}
use Rattle.cv_cert.specs.Reading.{tokens_of, lines_in, all_by, left_by, FailsAll}
use Rattle.cv_cert.specs.declared.fault.ReadError.{ReadError}
use Rattle.cv_cert.specs.declared.fault.ReadError.TheVariants.{Fault}
use Rattle.cv_cert.specs.Lines.{certificate}
use Rattle.cv_cert.proofs.Laws.{Lines, Viable, NoneGoesOn, FirstWrong, all_again, all_taken, first_wrong, one_value}
use Rattle.cv_cert.proofs.Phrases.{CertificateText, reads_certificate}
use Rattle.cv_cert.proofs.Clean.{CleanLines, certificate_clean}
use Rattle.cv_cert.proofs.Joined.{lines_joined, text_append, no_lines, line_then, line_or_none, nothing_left, some_left, opens_all, first_then, first_none, first_joined, FirstLine}

-- ---- one text, one value

pub lines_of_text : (c : Certificate) → IsCertificate c → lines_in (text_of c) ≡ lines_of c
lines_of_text c h = ap lines_in (sym (append-nil (text_of c))) ∙ lines_joined (lines_of c) [] (certificate_clean c h) ∙ ap (λ (ls : Lines). lines_of c ++ ls) no_lines ∙ append-nil (lines_of c)

pub one_text : (a b : Certificate) → IsCertificate a → IsCertificate b → text_of a ≡ text_of b → a ≡ b
unfolding CertificateText
one_text a b h k e = one_value reads_certificate a b (lines_of a) (h, refl) (k, sym (lines_of_text a h) ∙ ap lines_in e ∙ lines_of_text b k)

-- ---- what is read

pub read_is : (text : List ℕ) (c : Certificate) → all_by (certificate (lines_in text)) ≡ Ok c → IsCertificate c × (text ≡ text_of c)
unfolding CertificateText
read_is text c e =
    let k = all_taken reads_certificate (lines_in text) c e in
    let w = opens_all (lines_of c) text [] (certificate_clean c k.0) (k.1 ∙ sym (append-nil (lines_of c))) in
    (k.0, w.1 ∙ ap (λ (u : List ℕ). text_of c ++ u) (nothing_left w.0 w.2) ∙ append-nil (text_of c))

no_text : (text : List ℕ) (at : Lines) (c : Certificate) → all_by (certificate (lines_in text)) ≡ Err at → IsCertificate c → text ≡ text_of c → ⊥
unfolding CertificateText
no_text text at c e h is = let k = all_again reads_certificate c (lines_in text) (h, ap lines_in is ∙ lines_of_text c h) in absurd cc

-- ---- the first wrong line

clean_front : (front tail : Lines) → CleanLines (front ++ tail) → CleanLines front
clean_front [] tail h = tt
clean_front (l ∷ ls) tail h = (h.0, clean_front ls tail h.1)

clean_take : (n : ℕ) (ls : Lines) → CleanLines ls → CleanLines (take n ls)
clean_take zero ls h = tt
clean_take (suc n) [] h = tt
clean_take (suc n) (l ∷ ls) h = (h.0, clean_take n ls h.1)

parted : (n : ℕ) (ls : Lines) → take n ls ++ drop n ls ≡ ls
parted n ls = grind (arith, common_steps)

taken_length : (n : ℕ) (ls : Lines) → n ≤ length ls → length (take n ls) + 0 ≡ n
taken_length n ls h = grind (arith, common_steps)

-- the front of lines that some certificate begins with
begins : (front : Lines) → Viable CertificateText front → (n : ℕ) → BeginsText (text_of_lines (take n front) ++ [])
unfolding CertificateText
begins front v n =
    let k = v.2 in
    let rest : Lines = drop n front ++ v.1 in
    let lines : lines_of v.0 ≡ take n front ++ rest = sym k.1 ∙ ap (λ (u : Lines). u ++ v.1) (sym (parted n front)) ∙ append_assoc (take n front) (drop n front) v.1 in
    (v.0, text_of_lines rest, k.0, ap text_of_lines lines ∙ text_append (take n front) rest ∙ ap (λ (u : List ℕ). u ++ text_of_lines rest) (sym (append-nil (text_of_lines (take n front)))))

some_front : (o : Option (List ℕ)) (bytes : List ℕ) → o ≡ Some bytes → BeginsText bytes → IsSomeAnd o BeginsText
some_front o bytes e h = subst (λ (p : Option (List ℕ)). IsSomeAnd p BeginsText) (sym e) h

right_before : (front : Lines) (rest : List ℕ) (n : ℕ) → CleanLines front → Viable CertificateText front → n ≤ length front → IsRightTo (text_of_lines front ++ rest) n
right_before front rest n clean v le =
    let a = take n front in
    let b = drop n front in
    let text : text_of_lines front ++ rest ≡ text_of_lines a ++ (text_of_lines b ++ rest) = ap (λ (u : List ℕ). u ++ rest) (ap text_of_lines (sym (parted n front)) ∙ text_append a b) ∙ append_assoc (text_of_lines a) (text_of_lines b) rest in
    let e : first_lines n (text_of_lines front ++ rest) ≡ Some (text_of_lines a ++ []) =
    ap (first_lines n) text ∙ ap (λ k. first_lines k (text_of_lines a ++ (text_of_lines b ++ rest))) (sym (taken_length n front le)) ∙ first_joined a (text_of_lines b ++ rest) 0 (clean_take n front clean) in
    some_front (first_lines n (text_of_lines front ++ rest)) (text_of_lines a ++ []) e (begins front v n)

-- a text that begins with lines and one line more
goes_on : (front : Lines) (line : List ℕ) (rest : List ℕ) (t : Line) → CleanLines front → FirstLine (line ++ (10 ∷ rest)) line rest → tokens_of line ≡ t → BeginsText (text_of_lines front ++ (line ++ 10 ∷ [])) → Viable CertificateText (front ++ t ∷ [])
unfolding CertificateText
goes_on front line rest t clean f is b =
    let text : text_of b.0 ≡ text_of_lines front ++ (line ++ (10 ∷ b.1)) = b.3 ∙ append_assoc (text_of_lines front) (line ++ 10 ∷ []) b.1 ∙ ap (λ (u : List ℕ). text_of_lines front ++ u) (append_assoc line (10 ∷ []) b.1) in
    let lines : lines_of b.0 ≡ front ++ (t ∷ lines_in b.1) = sym (lines_of_text b.0 b.2) ∙ ap lines_in text ∙ lines_joined front (line ++ (10 ∷ b.1)) clean ∙ ap (λ (u : Lines). front ++ u) (line_then line b.1 f.plain ∙ ap (λ (l : Line). l ∷ lines_in b.1) is) in
    (b.0, lines_in b.1, (b.2, append_assoc front (t ∷ []) (lines_in b.1) ∙ sym lines))

wrong_there : (front at : Lines) (rest : List ℕ) → CleanLines front → lines_in rest ≡ at → NoneGoesOn CertificateText front at → IsRightTo (text_of_lines front ++ rest) (length front + 1) → ⊥
wrong_there front at rest clean e fails right =
    let there = subst (λ (o : Option (List ℕ)). IsSomeAnd o BeginsText) (first_joined front rest 1 clean) right in
    elim (line_or_none rest) [ inl w ↦ by_line w.0 w.1 w.2 there | inr n ↦ none (subst (λ (o : Option (List ℕ)). IsSomeAnd (option_map (λ u. text_of_lines front ++ u) o) BeginsText) (first_none rest 0 n.0) there) ]
  where
    none : IsSomeAnd (option_map (λ (u : List ℕ). text_of_lines front ++ u) None) BeginsText → ⊥
    none h = h

    by_at : (line more : List ℕ) (at : Lines) → FirstLine rest line more → tokens_of line ∷ lines_in more ≡ at → NoneGoesOn CertificateText front at → BeginsText (text_of_lines front ++ (line ++ 10 ∷ [])) → ⊥
    by_at line more [] f k fails b = absurd cc
    by_at line more (t ∷ ts) f k fails b = (let same : tokens_of line ≡ t = cc in fails (goes_on front line more t clean (record { parts = refl; plain = f.plain }) same b))

    by_line : (line more : List ℕ) → FirstLine rest line more → IsSomeAnd (option_map (λ (u : List ℕ). text_of_lines front ++ u) (first_lines 1 rest)) BeginsText → ⊥
    by_line line more f h =
        let one : first_lines 1 rest ≡ Some (line ++ 10 ∷ []) = ap (first_lines 1) f.parts ∙ first_then line more 0 f.plain ∙ ap (λ (u : List ℕ). Some u) (append-nil (line ++ 10 ∷ [])) in
        let b : BeginsText (text_of_lines front ++ (line ++ 10 ∷ [])) = subst (λ (o : Option (List ℕ)). IsSomeAnd (option_map (λ (u : List ℕ). text_of_lines front ++ u) o) BeginsText) one h in
        by_at line more at f (sym (line_then line more f.plain) ∙ ap lines_in (sym f.parts) ∙ e) fails b

front_wrong : (text : List ℕ) (at : Lines) (n : ℕ) → FirstWrong CertificateText (lines_in text) at → n + length at ≡ length (lines_in text) + 1 → IsFirstWrong text n
unfolding CertificateText
front_wrong text at n w e =
    let v = w.viable in
    let k = v.2 in
    let clean : CleanLines w.front = clean_front w.front v.1 (subst CleanLines (sym k.1) (certificate_clean v.0 k.0)) in
    let o = opens_all w.front text at clean w.parts in
    let len : length (lines_in text) ≡ length w.front + length at = ap length w.parts ∙ length-append w.front at in
    let is : n ≡ length w.front + 1 = omega arith in
    record {
      before = λ j lt. subst (λ (t : List ℕ). IsRightTo t j) (sym o.1) (right_before w.front o.0 j clean v (omega arith));
      wrong = λ r. wrong_there w.front at o.0 clean o.2 w.fails (subst (λ (t : List ℕ). IsRightTo t (length w.front + 1)) o.1 (subst (λ m. IsRightTo text m) is r));
    }

-- ---- by how many lines are left

err_of : (text : List ℕ) (left : ℕ) → left_by (all_by (certificate (lines_in text))) ≡ Some left → (at : Lines) × (all_by (certificate (lines_in text)) ≡ Err at) × (length at ≡ left)
err_of text left e = by_read (all_by (certificate (lines_in text))) refl e
  where
    by_read : (r : Result Certificate Lines) → all_by (certificate (lines_in text)) ≡ r → left_by r ≡ Some left → (at : Lines) × (all_by (certificate (lines_in text)) ≡ Err at) × (length at ≡ left)
    by_read (Ok c) p q = absurd cc
    by_read (Err at) p q = (at, p, (let k : length at ≡ left = cc in k))

pub left_fits : (text : List ℕ) (left : ℕ) → left_by (all_by (certificate (lines_in text))) ≡ Some left → left ≤ length (lines_in text)
left_fits text left e =
    let k = err_of text left e in
    let w = first_wrong reads_certificate (lines_in text) k.0 k.1 in
    let len : length (lines_in text) ≡ length w.front + length k.0 = ap length w.parts ∙ length-append w.front k.0 in
    omega (arith, k.2)

pub none_is : (text : List ℕ) (left : ℕ) → left_by (all_by (certificate (lines_in text))) ≡ Some left → (c : Certificate) → IsCertificate c → text ≡ text_of c → ⊥
none_is text left e c h is = let k = err_of text left e in no_text text k.0 c k.1 h is

pub wrong_line : (text : List ℕ) (left n : ℕ) → left_by (all_by (certificate (lines_in text))) ≡ Some left → n + left ≡ length (lines_in text) + 1 → IsFirstWrong text n
wrong_line text left n e is =
    let k = err_of text left e in
    front_wrong text k.0 n (first_wrong reads_certificate (lines_in text) k.0 k.1) (omega (arith, k.2))

-- ---- what stands behind the last line

pub ended : (ls : Lines) (rest : List ℕ) (c : Certificate) → certificate ls ≡ Ok (c, lines_in rest) → length rest ≡ 0 → all_by (certificate ls) ≡ Ok c
ended ls [] c e h = ap all_by (e ∙ ap (λ (t : Lines). Ok (c, t)) no_lines)
ended ls (b ∷ bs) c e h = absurd (omega (arith, h))

pub not_ended : (ls : Lines) (rest : List ℕ) (c : Certificate) (d : ReadError) → certificate ls ≡ Ok (c, lines_in rest) → 0 < length rest → d ≡ Fault (length (lines_in rest)) → FailsAll d (all_by (certificate ls))
not_ended ls rest c d e h is =
    let w = some_left rest h in
    let read : all_by (certificate ls) ≡ Err (w.0 ∷ w.1) = ap all_by (e ∙ ap (λ (t : Lines). Ok (c, t)) w.2) in
    let left : left_by (all_by (certificate ls)) ≡ Some (length (lines_in rest)) = ap left_by read ∙ ap (λ (t : Lines). Some (length t)) (sym w.2) in
    subst (λ (f : ReadError). FailsAll f (all_by (certificate ls))) (sym is) left
