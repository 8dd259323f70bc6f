use Rattle.std.proofs.Common.{ℕ, List, [], ◌∷◌, ◌++◌, length}
use Rattle.cv_ppts.specs.Cases.{go_on}
use Rattle.cv_ppts.specs.Listed.{content_lists}
use Rattle.cv_ppts.specs.Walk.{after_code}
use Rattle.cv_ppts.specs.declared.entities.Block.{Block}
use Rattle.cv_ppts.proofs.Courses.{IsOnCourse}
use Rattle.cv_ppts.proofs.search.+find_contents.Given as goal

abbrev pub decreases-find_contents : goal.decreases-find_contents
decreases-find_contents l = length l.entities.now

abbrev pub invariant-loop-code : goal.invariant-loop-code
invariant-loop-code l =
    IsOnCourse l.initial.found.items l.found.items
    (λ (k : ℕ). go_on (λ (cs : List Block). content_lists l.s.p.now l.s.f.now l.named l.more cs (l.done ++ k ∷ [])) [] (after_code l.blocks l.entity k)) l.code
