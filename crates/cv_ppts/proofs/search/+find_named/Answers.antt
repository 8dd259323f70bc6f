use Rattle.std.proofs.Common.{ℕ, List, [], ◌∷◌, ◌++◌, ◌≡◌, ◌<◌, ◌≤◌, ◌+◌, ◌-◌, ap, arith, drop, length, subst, sym, take, ◌∙◌}
use Rattle.cv_ppts.specs.Cases.{go_on}
use Rattle.cv_ppts.specs.Listed.{code_limit, named_lists}
use Rattle.cv_ppts.specs.Walk.{after_code}
use Rattle.cv_ppts.specs.declared.entities.Block.{Block}
use Rattle.cv_ppts.specs.declared.entities.Entity.{Entity}
use Rattle.cv_ppts.proofs.Courses.{IsOnCourse, Lists, course_goes_on, course_is_over, course_is_too_long, course_passes, found_here, go_none, none_of, peeled, some_of}
use Rattle.cv_ppts.proofs.Losing.{named_none, found_nothing}
use Rattle.cv_ppts.proofs.search.+find_named.Goals as goal
use Rattle.cv_ppts.proofs.search.+find_named.Goals.{in-None, in-Some+in_ok-codes-in-Some+in_ok-find_named-in-Some+else-not-branch}

pub returns-then-not-branch : goal.returns-then-not-branch
returns-then-not-branch t c =
    let more : List Entity = take (length c.args.entities.now - 1) (drop 1 c.args.entities.now) in
    let G : List Block → List ℕ → Lists = λ cs ds. named_lists c.args.s.now.p.now c.args.s.now.sets.now c.args.s.now.f.now more cs ds in
    let lists : ℕ → Lists = λ k. go_on (λ cs. G cs (c.args.done.now ++ k ∷ [])) [] (after_code c.args.blocks.now c.entity-item.result k) in
    let all : c.args.entities.now ≡ c.entity-item.result ∷ more = peeled c.args.entities.now c.entity-item.result _ c.in-len1-up.len_at_least c.entity-item.is in
    subst (λ L. 64 < length c.args.found.now.items + length L) (ap (λ es. named_lists c.args.s.now.p.now c.args.s.now.sets.now c.args.s.now.f.now es c.args.blocks.now c.args.done.now) (sym all))
    (course_is_too_long c.args.found.now.items c.loop-code.found.items c.find_named.new.found.items c.find_named.new.found.items lists c.loop-code.code (code_limit c.args.blocks.now) c.in_ok-find_named-in-Some.field-0
    c.if-not-branch.true (omega (arith, c.in_ok-code-end.ensures)) c.loop-code.invariant
    (found_here G c.args.done.now (after_code c.args.blocks.now c.entity-item.result c.loop-code.code) c.loop-code.code c.as_slice-in-Some.result.now c.in-Some.next.items c.as_slice-in-Some-2.result.now
    c.loop-code.found.items c.find_named.new.found.items c.in_ok-find_named-in-Some.field-0
    (some_of _ c.in_ok-after_code.field-0 _ c.in-Some.next c.in_ok-after_code.ensures c.in-Some.is) c.as_slice-in-Some.ensures.value (c.as_slice-in-Some-2.ensures.value ∙ c.in_ok-codes-in-Some.ensures)
    c.in_ok-find_named-in-Some.ensures))

pub loop-code-preserved : goal.loop-code-preserved
loop-code-preserved t c =
    let more : List Entity = take (length c.args.entities.now - 1) (drop 1 c.args.entities.now) in
    let G : List Block → List ℕ → Lists = λ cs ds. named_lists c.args.s.now.p.now c.args.s.now.sets.now c.args.s.now.f.now more cs ds in
    let lists : ℕ → Lists = λ k. go_on (λ cs. G cs (c.args.done.now ++ k ∷ [])) [] (after_code c.args.blocks.now c.entity-item.result k) in
    elim c.match-branch-5.branch [
      | in-None w ↦
          subst (λ v. IsOnCourse c.args.found.now.items v.items lists (c.loop-code.code + 1)) (sym w.found-is)
          (course_passes c.args.found.now.items c.loop-code.found.items lists c.loop-code.code c.loop-code.invariant
          (go_none (λ cs. G cs (c.args.done.now ++ c.loop-code.code ∷ [])) [] (after_code c.args.blocks.now c.entity-item.result c.loop-code.code)
          (none_of _ c.in_ok-after_code.field-0 _ c.in_ok-after_code.ensures w.in-None.is)))
      | in-Some+in_ok-codes-in-Some+in_ok-find_named-in-Some+else-not-branch w ↦
          subst (λ v. IsOnCourse c.args.found.now.items v.items lists (c.loop-code.code + 1)) (sym w.found-is)
          (course_goes_on c.args.found.now.items c.loop-code.found.items w.find_named.new.found.items lists c.loop-code.code w.in_ok-find_named-in-Some.field-0
          w.if-not-branch.false c.loop-code.invariant
          (found_here G c.args.done.now (after_code c.args.blocks.now c.entity-item.result c.loop-code.code) c.loop-code.code w.as_slice-in-Some.result.now w.in-Some.next.items w.as_slice-in-Some-2.result.now
          c.loop-code.found.items w.find_named.new.found.items w.in_ok-find_named-in-Some.field-0
          (some_of _ c.in_ok-after_code.field-0 _ w.in-Some.next c.in_ok-after_code.ensures w.in-Some.is) w.as_slice-in-Some.ensures.value (w.as_slice-in-Some-2.ensures.value ∙ w.in_ok-codes-in-Some.ensures)
          w.in_ok-find_named-in-Some.ensures))
    ]

pub returns : goal.returns
returns t c =
    let more : List Entity = take (length c.args.entities.now - 1) (drop 1 c.args.entities.now) in
    let G : List Block → List ℕ → Lists = λ cs ds. named_lists c.args.s.now.p.now c.args.s.now.sets.now c.args.s.now.f.now more cs ds in
    let lists : ℕ → Lists = λ k. go_on (λ cs. G cs (c.args.done.now ++ k ∷ [])) [] (after_code c.args.blocks.now c.entity-item.result k) in
    let all : c.args.entities.now ≡ c.entity-item.result ∷ more = peeled c.args.entities.now c.entity-item.result _ c.in-len1-up.len_at_least c.entity-item.is in
    subst (λ L. (c.loop-code.found.items ≡ c.args.found.now.items ++ L) × (length c.loop-code.found.items ≤ 64)) (ap (λ es. named_lists c.args.s.now.p.now c.args.s.now.sets.now c.args.s.now.f.now es c.args.blocks.now c.args.done.now) (sym all))
    (course_is_over c.args.found.now.items c.loop-code.found.items lists c.loop-code.code (code_limit c.args.blocks.now) (omega (arith, c.in_ok-code-end.ensures)) c.loop-code.invariant)

pub returns-then-not-allows : goal.returns-then-not-allows
returns-then-not-allows t c =
    found_nothing c.args.found.now.items (named_lists c.args.s.now.p.now c.args.s.now.sets.now c.args.s.now.f.now c.args.entities.now c.args.blocks.now c.args.done.now)
    (named_none c.args.s.now.p.now c.args.s.now.sets.now c.args.s.now.f.now c.args.entities.now c.args.blocks.now c.args.done.now (sym c.allows.ensures ∙ c.if-not-allows.true)) c.requires.few
