use Rattle.cv_points.proofs.Walked.{cells-count}
use Rattle.cv_points.proofs.walk.cell_total.Goals as goal

pub returns-in-Past-walk_program_objects : goal.returns-in-Past-walk_program_objects
returns-in-Past-walk_program_objects c =
    cells-count c.args.p.now _ _ _ _ _ _ c.in-Past.ensures.end c.in-Past-walk_program_objects.ensures
