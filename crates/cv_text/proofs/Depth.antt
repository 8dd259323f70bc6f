-- What a pointer and a term are read by, where a level may open and where none may.
use Rattle.std.proofs.Common.{◌≡◌, ℕ, zero, suc, ◌-◌, refl, arith}
use Rattle.cv_text.specs.Tokens.{Line}
use Rattle.cv_text.specs.ContractReader.{too_deep, pointer, pointer_by, term, term_by}

pub pointer_none : (n : ℕ) (ts : Line) → n ≡ 0 → pointer n ts ≡ too_deep ts
unfolding pointer
pointer_none zero ts h = refl
pointer_none (suc n) ts h = absurd (omega arith)

pub pointer_some : (n : ℕ) (ts : Line) → (n ≡ 0 → ⊥) → pointer n ts ≡ pointer_by (pointer (n - 1)) ts
unfolding pointer
pointer_some zero ts h = absurd (h refl)
pointer_some (suc n) ts h = let e : suc n - 1 ≡ n = omega arith in rw e refl

pub term_none : (n : ℕ) (ts : Line) → n ≡ 0 → term n ts ≡ too_deep ts
unfolding term
term_none zero ts h = refl
term_none (suc n) ts h = absurd (omega arith)

pub term_some : (n : ℕ) (ts : Line) → (n ≡ 0 → ⊥) → term n ts ≡ term_by (term (n - 1)) (pointer (n - 1)) ts
unfolding term
term_some zero ts h = absurd (h refl)
term_some (suc n) ts h = let e : suc n - 1 ≡ n = omega arith in rw e refl

pub ruleset depths = (pointer_none, pointer_some, term_none, term_some)
