use Rattle.std.proofs.Common.{rules, arith, ◌≡◌, ◌+ℤ◌, ◌*ℤ◌, ◌<ℤ◌, ◌∙◌, sym, ap, subst, ℤ, FitsSigned, w64}
use Rattle.std.specs.Int.{w128}
use Rattle.std.proofs.lemmas.Int.{to_z-of_z}
use Rattle.cv_farkas.proofs.Sweep.{NoneBelow, none_below, sweep_below, sweep_above, sweep_step, sweep_end, less_from, same_from}
use Rattle.cv_farkas.proofs.order.compare_combined.Goals as goal

pub split_at-x-requires-clause-none_below : goal.split_at-x-requires-clause-none_below
split_at-x-requires-clause-none_below c = λ u l.
    (none_below _ _ _ _ _ _ _ _ _ c.loop-variable.invariant (λ v low high. c.in-Some.ensures.zero_before v low high) u l).0

pub split_at-y-requires-clause-none_below : goal.split_at-y-requires-clause-none_below
split_at-y-requires-clause-none_below c = λ u l.
    (none_below _ _ _ _ _ _ _ _ _ c.loop-variable.invariant (λ v low high. c.in-Some.ensures.zero_before v low high) u l).1

pub wide_split_at-z-requires-clause-none_below : goal.wide_split_at-z-requires-clause-none_below
wide_split_at-z-requires-clause-none_below c = λ u l.
    (none_below _ _ _ _ _ _ _ _ _ c.loop-variable.invariant (λ v low high. c.in-Some.ensures.zero_before v low high) u l).2

pub returns-then-sum-z : goal.returns-then-sum-z
returns-then-sum-z c =
    let fk : FitsSigned w64 c.args.k = c.ranges.k in
    let fx : FitsSigned w64 c.split_at-x.result.coefficient = search rules in
    let fy : FitsSigned w64 c.split_at-y.result.coefficient = search rules in
    let fz : FitsSigned w128 c.wide_split_at-z.result.coefficient = search rules in
    let ff : FitsSigned w128 c.from.result = search rules in
    let fs : FitsSigned w128 c.plus_product-sum.result = search rules in
    let x = c.split_at-x.result.coefficient in
    let y = c.split_at-y.result.coefficient in
    let z = c.wide_split_at-z.result.coefficient in
    let swept = simp to_z-of_z at c.loop-variable.invariant in
    let from = simp to_z-of_z at c.from.ensures in
    let sum = simp to_z-of_z at c.plus_product-sum.ensures in
    let is : c.plus_product-sum.result ≡ x +ℤ c.args.k *ℤ y = sum ∙ ap (λ w. w +ℤ c.args.k *ℤ y) from in
    let none : NoneBelow c.loop-variable.left_rest.now c.loop-variable.right_rest.now c.loop-variable.goal_rest.now c.in-Some.variable =
    none_below _ _ _ _ _ _ _ _ _ swept (λ u low high. c.in-Some.ensures.zero_before u low high) in
    let less = simp to_z-of_z at c.if-sum-z.true in
    let P : ℤ → Type 0 = λ w. w <ℤ z in
    sweep_below _ _ _ _ _ _ _ _ _ x y z swept none c.split_at-x.ensures.here c.split_at-y.ensures.here c.wide_split_at-z.ensures.here (subst P is (less_from _ _ less)) (omega arith)

pub returns-then-z-sum : goal.returns-then-z-sum
returns-then-z-sum c =
    let fk : FitsSigned w64 c.args.k = c.ranges.k in
    let fx : FitsSigned w64 c.split_at-x.result.coefficient = search rules in
    let fy : FitsSigned w64 c.split_at-y.result.coefficient = search rules in
    let fz : FitsSigned w128 c.wide_split_at-z.result.coefficient = search rules in
    let ff : FitsSigned w128 c.from.result = search rules in
    let fs : FitsSigned w128 c.plus_product-sum.result = search rules in
    let x = c.split_at-x.result.coefficient in
    let y = c.split_at-y.result.coefficient in
    let z = c.wide_split_at-z.result.coefficient in
    let swept = simp to_z-of_z at c.loop-variable.invariant in
    let from = simp to_z-of_z at c.from.ensures in
    let sum = simp to_z-of_z at c.plus_product-sum.ensures in
    let is : c.plus_product-sum.result ≡ x +ℤ c.args.k *ℤ y = sum ∙ ap (λ w. w +ℤ c.args.k *ℤ y) from in
    let none : NoneBelow c.loop-variable.left_rest.now c.loop-variable.right_rest.now c.loop-variable.goal_rest.now c.in-Some.variable =
    none_below _ _ _ _ _ _ _ _ _ swept (λ u low high. c.in-Some.ensures.zero_before u low high) in
    let less = simp to_z-of_z at c.if-z-sum.true in
    let P : ℤ → Type 0 = λ w. z <ℤ w in
    sweep_above _ _ _ _ _ _ _ _ _ x y z swept none c.split_at-x.ensures.here c.split_at-y.ensures.here c.wide_split_at-z.ensures.here (subst P is (less_from _ _ less)) (omega arith)

pub loop-variable-preserved : goal.loop-variable-preserved
loop-variable-preserved c =
    let fk : FitsSigned w64 c.args.k = c.ranges.k in
    let fx : FitsSigned w64 c.split_at-x.result.coefficient = search rules in
    let fy : FitsSigned w64 c.split_at-y.result.coefficient = search rules in
    let fz : FitsSigned w128 c.wide_split_at-z.result.coefficient = search rules in
    let ff : FitsSigned w128 c.from.result = search rules in
    let fs : FitsSigned w128 c.plus_product-sum.result = search rules in
    let x = c.split_at-x.result.coefficient in
    let y = c.split_at-y.result.coefficient in
    let z = c.wide_split_at-z.result.coefficient in
    let swept = simp to_z-of_z at c.loop-variable.invariant in
    let from = simp to_z-of_z at c.from.ensures in
    let sum = simp to_z-of_z at c.plus_product-sum.ensures in
    let is : c.plus_product-sum.result ≡ x +ℤ c.args.k *ℤ y = sum ∙ ap (λ w. w +ℤ c.args.k *ℤ y) from in
    let none : NoneBelow c.loop-variable.left_rest.now c.loop-variable.right_rest.now c.loop-variable.goal_rest.now c.in-Some.variable =
    none_below _ _ _ _ _ _ _ _ _ swept (λ u low high. c.in-Some.ensures.zero_before u low high) in
    let not_less = simp to_z-of_z at c.if-sum-z.false in
    let not_more = simp to_z-of_z at c.if-z-sum.false in
    let same : x +ℤ c.args.k *ℤ y ≡ z = sym is ∙ same_from _ _ not_less not_more in
    rw (to_z-of_z w64 c.args.k fk, c.from-from.ensures) (sweep_step _ _ _ _ _ _ _ _ _ _ _ c.in-Some.variable x y z swept none (omega arith) c.split_at-x.ensures c.split_at-y.ensures c.wide_split_at-z.ensures same)

pub returns : goal.returns
returns c =
    let fk : FitsSigned w64 c.args.k = c.ranges.k in
    let swept = simp to_z-of_z at c.loop-variable.invariant in
    sweep_end _ _ _ _ _ _ _ _ swept (λ u low. c.in_default.ensures.zero_before u low tt)
