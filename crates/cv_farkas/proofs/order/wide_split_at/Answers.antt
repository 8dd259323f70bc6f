use Rattle.std.proofs.Common.{rules, arith, pos, slice_index_or, FitsSigned}
use Rattle.std.specs.Int.{w128}
use Rattle.std.proofs.lemmas.Int.{to_z-of_z}
use Rattle.cv_farkas.proofs.Sweep.{head_split, no_split}
use Rattle.cv_farkas.proofs.order.wide_split_at.Goals as goal

pub returns-then-at-variable : goal.returns-then-at-variable
returns-then-at-variable c =
    let f : FitsSigned w128 (slice_index_or c.args.pairs.now 0 (0, pos 0)).1 = search rules in
    head_split c.args.pairs.now c.args.variable _ c.in-len1-up.len_at_least c.requires.canonical c.if-at-variable.true (to_z-of_z w128 _ f)

pub returns-in-len1-up : goal.returns-in-len1-up
returns-in-len1-up c = no_split c.args.pairs.now c.args.variable c.requires.canonical c.requires.none_below (λ l. c.if-at-variable.false)

pub returns : goal.returns
returns c = no_split c.args.pairs.now c.args.variable c.requires.canonical c.requires.none_below (λ l. absurd (omega arith))
