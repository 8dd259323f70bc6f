use Rattle.std.proofs.Common.{rules, arith, ◌+ℤ◌, FitsSigned, w64}
use Rattle.std.specs.Int.{w128}
use Rattle.std.proofs.lemmas.Int.{ints, to_z-of_z}
use Rattle.cv_num.specs.Pairs.{coefficient_of}
use Rattle.cv_farkas.proofs.SearchLemmas.{constants_within, reached_unequal, reached_pairs, one_times}
use Rattle.cv_farkas.proofs.search.compare_sum.Goals as goal

pub returns-then-from-constant : goal.returns-then-from-constant
returns-then-from-constant c =
    let fa : FitsSigned w64 c.args.a.now.constant = search rules in
    let fb : FitsSigned w64 c.args.b.now.constant = search rules in
    let fc : FitsSigned w128 c.args.constant = c.ranges.constant in
    let ea = simp to_z-of_z at c.from.ensures in
    let eb = simp to_z-of_z at c.from-in-Equal.ensures in
    let fx : FitsSigned w128 c.from.result = search rules in
    let fy : FitsSigned w128 c.from-in-Equal.result = search rules in
    let fs : FitsSigned w128 (c.from.result +ℤ c.from-in-Equal.result) = omega (arith, ints, ea, eb) in
    let le = simp to_z-of_z at c.if-from-constant.true in
    record {
      pairs = λ u.
          one_times (coefficient_of c.args.a.now.pairs u) (coefficient_of c.args.b.now.pairs u) (coefficient_of c.args.pairs.now u)
          (reached_pairs c.args.a.now c.args.b.now _ _ _ c.as_slice.ensures.value c.as_slice-2.ensures.value c.in-Equal.ensures u);
      constant = constants_within _ _ _ _ _ le ea eb;
    }

pub returns-in_default : goal.returns-in_default
returns-in_default c = reached_unequal c.args.a.now c.args.b.now _ _ _ _ _ c.as_slice.ensures.value c.as_slice-2.ensures.value c.in_default.not-Equal c.compare_combined.ensures
