use Rattle.cv_farkas.proofs.order.next_of_three.Goals as goal

pub returns-clause-zero_before : goal.returns-clause-zero_before
returns-clause-zero_before c = λ u from below.
    let outer = c.lesser.ensures.before u below in
    let inner = c.lesser-least.ensures.before u outer.0 in
    (c.next_variable.ensures.zero_before u from inner.0, c.next_variable-2.ensures.zero_before u from inner.1, c.next_wide_variable.ensures.zero_before u from outer.1)

pub returns-clause-at_least : goal.returns-clause-at_least
returns-clause-at_least c =
    c.lesser.ensures.at_least c.args.from (c.lesser-least.ensures.at_least c.args.from c.next_variable.ensures.at_least c.next_variable-2.ensures.at_least) c.next_wide_variable.ensures.at_least
