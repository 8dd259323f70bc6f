use Rattle.std.proofs.Common.{refl, arith, rules, length, ◌<◌}
use Rattle.cv_points.proofs.Cursors.{step_behind, step_found, there}
use Rattle.cv_points.proofs.cursor.look_in.Goals as goal

pub overflow_add-result : goal.overflow_add-result
overflow_add-result c =
    let h : c.args.at.proc < length c.args.p.now.procs = there c.args.p.now.procs c.args.at.proc c.args.f.now c.requires.here in
    search (rules, h, c.proc_count-count.ensures, c.proc_count-count.type_inv)

pub returns-in-Found : goal.returns-in-Found
returns-in-Found c = step_found c.args.p.now c.args.at c.args.f.now c.args.object c.in-Found.number c.requires.cursor c.requires.here c.requires.behind c.in-Found.ensures.end

pub returns-in-Past : goal.returns-in-Past
returns-in-Past c =
    step_behind c.args.p.now c.args.at _ c.args.f.now c.args.object c.in-Past.skip c.in-Past.seen c.requires.cursor c.requires.here c.requires.behind
    c.in-Past.ensures.end c.in-Past.ensures.shorter refl (omega arith) refl refl
