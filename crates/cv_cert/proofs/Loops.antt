-- What the functions over all lines answer at a line that is none, and what their loops keep.
use Rattle.std.proofs.Common.{◌≡◌, ℕ, suc, List, [], ◌∷◌, ◌++◌, length, Option, Some, None, Ok, Err, refl, sym, ap, subst, ◌∙◌, arith}
use Rattle.std.proofs.lemmas.List.{length_push}
use Rattle.cv_num.specs.declared.rows.Row.{Row}
use Rattle.cv_farkas.specs.declared.steps.Step.{Step}
use Rattle.cv_cert.specs.declared.certificate.CertCase.{CertCase}
use Rattle.cv_cert.specs.declared.fault.ReadError.{ReadError}
use Rattle.cv_cert.specs.declared.fault.ReadError.TheVariants as errors
use Rattle.cv_cert.specs.Text.{Line}
use Rattle.cv_cert.specs.Reading.{Outcome, Reading, one_line, each, Fails, left_of, lines_in, unfinished}
use Rattle.cv_cert.specs.Lines.{next_row_of, step_of, set_of, a_case}
use Rattle.cv_cert.proofs.Laws.{Lines, onto, each_goes, each_ends, each_fails}

-- where there is no whole line, none is read
pub no_line_fails : {A : Type 0} (f : Line → Option A) (text : List ℕ) (e : ReadError) → f [] ≡ None → lines_in text ≡ unfinished text → e ≡ errors.Fault (length (lines_in text)) → Fails e (one_line f (lines_in text))
no_line_fails {A} f text e h k is =
    let fails : Fails (errors.Fault (length (lines_in text))) (one_line f (lines_in text)) = subst (λ (ts : Lines). left_of (one_line f ts) ≡ Some (length ts)) (sym k) (stuck text) in
    subst (λ (d : ReadError). Fails d (one_line f (lines_in text))) (sym is) fails
  where
    stuck : (text : List ℕ) → left_of (one_line f (unfinished text)) ≡ Some (length (unfinished text))
    stuck [] = refl
    stuck (b ∷ bs) = rw h refl

-- ---- loops over n items, of which the state is told by the items so far

module _ {A S : Type 0} (item : ℕ → S → Reading A) (next : S → A → S) (state : List A → S) (pushed : (xs : List A) (a : A) → state (xs ++ a ∷ []) ≡ next (state xs) a) where
  -- what m items give behind those found
  abbrev pub left_after : List A → ℕ → Lines → Outcome (List A)
  left_after found m ts = onto found (each item next m (state found) ts)

  pub loop_goes : (found : List A) (m n : ℕ) (ts : Lines) (a : A) (after : Lines) → m ≡ suc n → item n (state found) ts ≡ Ok (a, after) → left_after found m ts ≡ left_after (found ++ a ∷ []) n after
  loop_goes found m n ts a after e h =
      ap (λ k. left_after found k ts) e ∙ each_goes item next found n (state found) ts a after h ∙ ap (λ s. onto (found ++ a ∷ []) (each item next n s after)) (sym (pushed found a))

  pub loop_fails : (found : List A) (m n : ℕ) (ts : Lines) (e : ReadError) → m ≡ suc n → Fails e (item n (state found) ts) → Fails e (left_after found m ts)
  loop_fails found m n ts errors.Memory k h = tt
  loop_fails found m n ts (errors.Fault left) k h = ap (λ j. left_of (left_after found j ts)) k ∙ each_fails item next found n (state found) ts left h

  pub loop_ends : (found : List A) (m : ℕ) (ts : Lines) → m ≡ 0 → left_after found m ts ≡ Ok (found, ts)
  loop_ends found m ts e = ap (λ j. left_after found j ts) e ∙ each_ends item next found (state found) ts

  pub loop_begins : (m : ℕ) (ts : Lines) → left_after [] m ts ≡ each item next m (state []) ts
  loop_begins m ts = none (each item next m (state []) ts)
    where
      none : (o : Outcome (List A)) → onto [] o ≡ o
      none (Ok p) = refl
      none (Err at) = refl

-- ---- the four loops

abbrev pub row_item : ℕ → Option Row → Reading Row
row_item left before = one_line (next_row_of left before)

abbrev pub row_next : Option Row → Row → Option Row
row_next before r = Some r

abbrev pub step_item : ℕ → Unit {0} → Reading Step
step_item left s = one_line step_of

abbrev pub no_state : {A : Type 0} → List A → Unit {0}
no_state xs = tt

abbrev pub next_none : {A : Type 0} → Unit {0} → A → Unit {0}
next_none s a = tt

pub none_pushed : {A : Type 0} (xs : List A) (a : A) → no_state (xs ++ a ∷ []) ≡ next_none (no_state xs) a
none_pushed xs a = refl

abbrev pub set_item : ℕ → Unit {0} → Reading (List ℕ)
set_item left s = one_line set_of

abbrev pub case_item : ℕ → ℕ → Reading CertCase
case_item left i = a_case i

abbrev pub case_next : ℕ → CertCase → ℕ
case_next i c = suc i

abbrev pub case_number : List CertCase → ℕ
case_number xs = suc (length xs)

pub case_pushed : (xs : List CertCase) (c : CertCase) → case_number (xs ++ c ∷ []) ≡ case_next (case_number xs) c
case_pushed xs c = ap suc (length_push xs c ∙ omega arith)
