use Rattle.std.proofs.Common.{ℕ, ◌≡◌, ◌<◌, ◌≤◌, ◌-◌, length, arith, ap, ◌∙◌}
use Rattle.cv_points.specs.Holders.{object_cells}
use Rattle.cv_points.specs.Walks.{walk}
use Rattle.cv_points.specs.declared.walk.Walk.TheVariants as walked
use Rattle.cv_points.proofs.Walked.{number_in_globals, number_in_literals, number_in_objects}
use Rattle.cv_points.proofs.walk.cell_number.Goals as goal

pub returns-then-skip-literals : goal.returns-then-skip-literals
returns-then-skip-literals c =
    let h : c.in-Past.skip < length c.args.p.now.literals = omega (arith, c.if-skip-literals.true, c.literal_count-literals.ensures) in
    number_in_literals c.args.p.now c.args.object c.in-Past.skip c.in-Past.seen c.in-Past.ensures.end h

pub returns-in-Found : goal.returns-in-Found
returns-in-Found c = number_in_globals c.args.p.now c.args.object c.in-Found.number c.in-Found.ensures.end

in_bounds : (a b n : ℕ) → n ≡ b → n ≤ a → b ≤ a
in_bounds a b n e h = omega arith

pub returns-in-Found-walk_program_objects : goal.returns-in-Found-walk_program_objects
returns-in-Found-walk_program_objects c =
    number_in_objects c.args.p.now c.args.object c.in-Past.skip c.in-Past.seen (walked.Found c.in-Found-walk_program_objects.number) c.in-Past.ensures.end
    (in_bounds _ _ _ c.literal_count-literals.ensures c.if-skip-literals.false)
    (c.in-Found-walk_program_objects.ensures ∙ ap (λ n. walk (object_cells c.args.p.now) (c.in-Past.skip - n) c.in-Past.seen) c.literal_count-literals.ensures)

pub returns-in-Past-walk_program_objects : goal.returns-in-Past-walk_program_objects
returns-in-Past-walk_program_objects c =
    number_in_objects c.args.p.now c.args.object c.in-Past.skip c.in-Past.seen (walked.Past c.in-Past-walk_program_objects.skip c.in-Past-walk_program_objects.seen) c.in-Past.ensures.end
    (in_bounds _ _ _ c.literal_count-literals.ensures c.if-skip-literals.false)
    (c.in-Past-walk_program_objects.ensures ∙ ap (λ n. walk (object_cells c.args.p.now) (c.in-Past.skip - n) c.in-Past.seen) c.literal_count-literals.ensures)
