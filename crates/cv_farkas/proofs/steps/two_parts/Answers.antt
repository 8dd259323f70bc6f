use Rattle.std.proofs.Common.{rules, subst, ℕ, ℤ, List, [], negsuc, FitsSigned}
use Rattle.std.specs.Int.{w128}
use Rattle.std.specs.Prelude.{MatchOption}
use Rattle.std.proofs.lemmas.Int.{to_z-of_z}
use Rattle.cv_farkas.specs.Search.{IsFound, NoneReaches}
use Rattle.cv_farkas.specs.declared.search.Entry.{Entry}
use Rattle.cv_farkas.proofs.ShortLemmas.{found_goal, search_answer}
use Rattle.cv_farkas.proofs.steps.two_parts.Goals as goal

pub returns-in-Some : goal.returns-in-Some
returns-in-Some c =
    let f : FitsSigned w128 c.args.goal.now.constant = search rules in
    let n = c.in-Some.found.0 in
    let m = c.in-Some.found.1 in
    let found = simp to_z-of_z at c.in-Some.ensures in
    let P : List Entry → Type 0 = λ es. IsFound es c.as_slice.result.now c.args.goal.now.constant n m in
    let Q : List (ℕ × ℤ) → Type 0 = λ ps. IsFound c.in_ok-index.index.items ps c.args.goal.now.constant n m in
    found_goal c.args.hyps.now c.args.goal.now c.in_ok-index.index.items n m c.requires c.in_ok-index.ensures (subst Q c.as_slice.ensures.value (subst P c.deref.ensures.value found))

pub returns : goal.returns
returns c =
    let f : FitsSigned w128 c.args.goal.now.constant = search rules in
    let none = simp to_z-of_z at c.in_default.ensures in
    let P : List Entry → Type 0 = λ es. NoneReaches es c.as_slice.result.now c.args.goal.now.constant in
    let Q : List (ℕ × ℤ) → Type 0 = λ ps. NoneReaches c.in_ok-index.index.items ps c.args.goal.now.constant in
    let R : List Entry → Type 0 = λ es. MatchOption c.find_sum-2.result (NoneReaches es [] (negsuc 0)) (λ f. IsFound es [] (negsuc 0) f.0 f.1) in
    search_answer c.args.hyps.now c.args.goal.now c.in_ok-index.index.items c.find_sum-2.result c.requires c.in_ok-index.ensures
    (subst Q c.as_slice.ensures.value (subst P c.deref.ensures.value none)) (subst R c.deref-2.ensures.value c.find_sum-2.ensures)
