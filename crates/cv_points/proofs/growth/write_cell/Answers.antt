use Rattle.std.proofs.Common.{sym}
use Rattle.cv_points.proofs.Grown.{write_as}
use Rattle.cv_points.proofs.growth.write_cell.Goals as goal

pub returns-in_ok-more-in-Some : goal.returns-in_ok-more-in-Some
returns-in_ok-more-in-Some c =
    write_as c.args.cells.now c.args.sets.now.items c.include.new.sets.items c.in_ok-more-in-Some.more c.args.from c.in-Some.cell c.args.site
    (sym c.in-Some.ensures) c.in_ok-more-in-Some.ensures
