-- A list of what the first targets hold, with one more.
use Rattle.std.proofs.Common.{ℕ, ◌≡◌, ◌+◌, List, [], ◌∷◌, ◌++◌, length, inl, inr, subst, ◌∙◌, arith, Option, None}
use Rattle.std.proofs.lemmas.Bool.{cases_lt}
use Rattle.std.proofs.lemmas.List.{get_or_append_left, get_or_push, length-append}
use Rattle.cv_ppts.specs.Setting.{AreContents, Setting, content_place}

pub one_more : (s : Setting) (places : List (Option ℕ)) (t : ℕ) (place : Option ℕ) → (length places ≡ t) × AreContents s places → place ≡ content_place s t →
    (length (places ++ place ∷ []) ≡ t + 1) × AreContents s (places ++ place ∷ [])
one_more s places t place (e, h) is = (
  let n = length-append places (place ∷ []) in omega arith,
  λ u lt. elim (cases_lt u (length places)) [
    | inl l ↦ get_or_append_left places (place ∷ []) None u l ∙ h u l
    | inr ge ↦ let n = length-append places (place ∷ []) in let same : t ≡ u = omega arith in
        get_or_push places place None u (omega arith) ∙ subst (λ v. place ≡ content_place s v) same is
  ],
)
