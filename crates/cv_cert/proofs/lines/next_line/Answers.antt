use Rattle.std.proofs.Common.{◌<◌, length, arith, rules}
use Rattle.std.proofs.lemmas.Grind.{common_steps}
use Rattle.cv_cert.proofs.Splits.{line_first, no_line}
use Rattle.cv_cert.proofs.lines.next_line.Goals as goal

pub returns-then-end-text : goal.returns-then-end-text
returns-then-end-text c = no_line c.args.text.now (omega (arith, c.place_of-end.ensures.place))

pub returns : goal.returns
returns c =
    let lt : c.place_of-end.result < length c.args.text.now = search rules in
    let e = line_first c.args.text.now c.place_of-end.result c.place_of-end.ensures.place lt in
    grind (arith, common_steps)
