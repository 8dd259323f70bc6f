-- The printed text of pre(t).
use Rattle.std.proofs.Common.{◌≡◌, ℕ, suc, ◌-◌, ◌≤◌, List, [], ◌∷◌, ◌++◌, length, take, drop, get_or, codes, ap, sym, ◌∙◌, append_assoc, arith}
use Rattle.std.specs.List.{flat_map}
use Rattle.std.proofs.lemmas.List.{take_all}
use Rattle.cv_core.specs.declared.program.PtrTerm.{PtrTerm}
use Rattle.cv_core.specs.declared.program.PtrTerm.TheVariants as pointer
use Rattle.cv_core.specs.declared.program.Term.{Term}
use Rattle.cv_core.specs.declared.program.Term.TheVariants as term
use Rattle.cv_core.proofs.Opened.{pre_pointer_is, pre_term_is}
use Rattle.cv_text.specs.PrintedContract.{pointer_text, term_text, clause_text}

pub pointer_text_pre : (t : PtrTerm) → pointer_text (pointer.Pre t) ≡ codes "pre(" ++ pointer_text t ++ codes ")"
pointer_text_pre t = ap pointer_text (pre_pointer_is t)

pub term_text_pre : (t : Term) → term_text (term.Pre t) ≡ codes "pre(" ++ term_text t ++ codes ")"
term_text_pre t = ap term_text (pre_term_is t)

-- the line of a clause that is there, from its first item and those behind it
pub clause_of : {A : Type 0} (out begin separator : List ℕ) (text : A → List ℕ) (xs : List A) (first : A) → 1 ≤ length xs → first ≡ get_or xs 0 first →
    out ++ begin ++ text first ++ flat_map (λ b. separator ++ text b) (take (length xs - 1) (drop 1 xs)) ++ codes ";" ++ 10 ∷ [] ≡ out ++ clause_text begin separator text xs
clause_of out begin separator text [] first h e = absurd (omega arith)
clause_of {A} out begin separator text (x ∷ xs) first h e =
    let all : take (suc (length xs) - 1) xs ≡ xs = take_all (suc (length xs) - 1) xs (omega arith) in
    ap (λ (ys : List A). out ++ begin ++ text first ++ flat_map (λ b. separator ++ text b) ys ++ codes ";" ++ 10 ∷ []) all
    ∙ ap (λ (y : A). out ++ begin ++ text y ++ flat_map (λ b. separator ++ text b) xs ++ codes ";" ++ 10 ∷ []) e
    ∙ simp append_assoc
