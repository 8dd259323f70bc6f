use Rattle.std.proofs.Common.{sym}
use Rattle.cv_points.proofs.Grown.{read_as}
use Rattle.cv_points.proofs.growth.read_cell.Goals as goal

pub returns-in_ok-more-in-Some : goal.returns-in_ok-more-in-Some
returns-in_ok-more-in-Some c =
    read_as c.args.cells.now c.args.sets.now.items c.include.new.sets.items c.in_ok-more-in-Some.more c.in-Some.cell c.args.site c.args.to
    (sym c.in-Some.ensures) c.in_ok-more-in-Some.ensures
