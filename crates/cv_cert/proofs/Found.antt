-- What the loops over the numbers of a line have found so far, and what the rest gives behind it.
use Rattle.std.proofs.Common.{◌≡◌, ◌<◌, ℕ, suc, ◌+◌, ◌≤◌, true, false, cond, nat_lt, List, [], ◌∷◌, ◌++◌, Option, Some, None, option_map, option_and_then, refl, sym, ap, ◌∙◌, append_assoc, arith}
use Rattle.std.proofs.lemmas.List.{append-nil}
use Rattle.std.proofs.lemmas.Bool.Decides.{nat_tests}
use Rattle.cv_cert.specs.Text.{Line}
use Rattle.cv_cert.specs.Tokens.{both, number_of, numbers_of, ascending_from, pairs_by}

abbrev pub behind : {A : Type 0} → List A → Option (List A) → Option (List A)
behind front o = option_map (λ xs. front ++ xs) o

pub behind_end : {A : Type 0} (front : List A) → behind front (Some []) ≡ Some front
behind_end front = ap (λ xs. Some xs) (append-nil front)

one_more : {A : Type 0} (front : List A) (x : A) (o : Option (List A)) → behind front (option_map (λ xs. x ∷ xs) o) ≡ behind (front ++ x ∷ []) o
one_more front x None = refl
one_more front x (Some xs) = ap (λ ys. Some ys) (sym (append_assoc front (x ∷ []) xs))

both_cons : {A : Type 0} (x : A) (o : Option (List A)) → both (λ y ys. y ∷ ys) (Some x) o ≡ option_map (λ xs. x ∷ xs) o
both_cons x None = refl
both_cons x (Some xs) = refl

pub numbers_step : (front : List ℕ) (t : List ℕ) (ts : Line) (n : ℕ) → Some n ≡ number_of t → behind front (numbers_of (t ∷ ts)) ≡ behind (front ++ n ∷ []) (numbers_of ts)
numbers_step front t ts n e = ap (λ o. behind front (both (λ y ys. y ∷ ys) o (numbers_of ts))) (sym e) ∙ ap (behind front) (both_cons n (numbers_of ts)) ∙ one_more front n (numbers_of ts)

pub numbers_stop : (front : List ℕ) (t : List ℕ) (ts : Line) → None ≡ number_of t → behind front (numbers_of (t ∷ ts)) ≡ None
numbers_stop front t ts e = ap (λ o. behind front (both (λ y ys. y ∷ ys) o (numbers_of ts))) (sym e)

abbrev ascends_on : ℕ → Line → ℕ → Option (List ℕ)
ascends_on from ts n = cond (nat_lt n from) None (option_map (λ ns. n ∷ ns) (ascending_from (suc n) ts))

pub ascending_step : (front : List ℕ) (from : ℕ) (t : List ℕ) (ts : Line) (n : ℕ) → Some n ≡ number_of t → from ≤ n → behind front (ascending_from from (t ∷ ts)) ≡ behind (front ++ n ∷ []) (ascending_from (n + 1) ts)
ascending_step front from t ts n e h =
    let k : nat_lt n from ≡ false = grind (arith, nat_tests) in
    ap (λ o. behind front (option_and_then (ascends_on from ts) o)) (sym e) ∙ ap (λ b. behind front (cond b None (option_map (λ ns. n ∷ ns) (ascending_from (suc n) ts)))) k ∙ one_more front n (ascending_from (suc n) ts) ∙ ap (λ m. behind (front ++ n ∷ []) (ascending_from m ts)) (omega arith)

pub ascending_stop : (front : List ℕ) (from : ℕ) (t : List ℕ) (ts : Line) → None ≡ number_of t → behind front (ascending_from from (t ∷ ts)) ≡ None
ascending_stop front from t ts e = ap (λ o. behind front (option_and_then (ascends_on from ts) o)) (sym e)

pub ascending_low : (front : List ℕ) (from : ℕ) (t : List ℕ) (ts : Line) (n : ℕ) → Some n ≡ number_of t → n < from → behind front (ascending_from from (t ∷ ts)) ≡ None
ascending_low front from t ts n e h =
    let k : nat_lt n from ≡ true = grind (arith, nat_tests) in
    ap (λ o. behind front (option_and_then (ascends_on from ts) o)) (sym e) ∙ ap (λ b. behind front (cond b None (option_map (λ ns. n ∷ ns) (ascending_from (suc n) ts)))) k

module _ {B : Type 0} (f : List ℕ → Option B) where
  abbrev paired : Option ℕ → Option B → Option (List (ℕ × B)) → Option (List (ℕ × B))
  paired a b o = both (λ p ps. p ∷ ps) (both (λ n c. (n, c)) a b) o

  pub pairs_step : (front : List (ℕ × B)) (t u : List ℕ) (ts : Line) (n : ℕ) (b : B) → Some n ≡ number_of t → Some b ≡ f u → behind front (pairs_by f (t ∷ (u ∷ ts))) ≡ behind (front ++ (n, b) ∷ []) (pairs_by f ts)
  pairs_step front t u ts n b e k = ap (λ o. behind front (paired o (f u) (pairs_by f ts))) (sym e) ∙ ap (λ o. behind front (paired (Some n) o (pairs_by f ts))) (sym k) ∙ ap (behind front) (both_cons (n, b) (pairs_by f ts)) ∙ one_more front (n, b) (pairs_by f ts)

  pub pairs_stop_first : (front : List (ℕ × B)) (t u : List ℕ) (ts : Line) → None ≡ number_of t → behind front (pairs_by f (t ∷ (u ∷ ts))) ≡ None
  pairs_stop_first front t u ts e = ap (λ o. behind front (paired o (f u) (pairs_by f ts))) (sym e)

  pub pairs_stop_second : (front : List (ℕ × B)) (t u : List ℕ) (ts : Line) (n : ℕ) → Some n ≡ number_of t → None ≡ f u → behind front (pairs_by f (t ∷ (u ∷ ts))) ≡ None
  pairs_stop_second front t u ts n e k = ap (λ o. behind front (paired o (f u) (pairs_by f ts))) (sym e) ∙ ap (λ o. behind front (paired (Some n) o (pairs_by f ts))) (sym k)
