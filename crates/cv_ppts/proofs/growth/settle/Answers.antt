use Rattle.std.proofs.Common.{subst}
use Rattle.cv_ppts.specs.Numbers.{Rows, codes_of}
use Rattle.cv_ppts.specs.Keys.{setting}
use Rattle.cv_ppts.specs.Lacking.{Lacks}
use Rattle.cv_ppts.specs.Plain.{Sets}
use Rattle.cv_ppts.specs.Targets.{HoldsAt}
use Rattle.cv_ppts.proofs.Grown.{adds, grows_more, room, stays, table_here}
use Rattle.cv_ppts.proofs.growth.settle.Goals as goal

pub loop-missing-init : goal.loop-missing-init
loop-missing-init c = stays c.args.sets.now.items (λ (R : Sets). HoldsAt (setting c.args.s.now) R c.args.statement)

pub loop-missing-smaller : goal.loop-missing-smaller
loop-missing-smaller c =
    room c.loop-missing.sets.items c.add.new.sets.items (λ (R : Sets). HoldsAt (setting c.args.s.now) R c.args.statement)
    (adds c.loop-missing.sets.items c.add.new.sets.items (λ (R : Sets). HoldsAt (setting c.args.s.now) R c.args.statement) _ _ (subst (λ (T : Rows). Lacks (codes_of T) (λ (R : Sets). HoldsAt (setting c.args.s.now) R c.args.statement) c.in-Some.missing.to c.in-Some.missing.code) c.as_slice.ensures.value c.in-Some.ensures) c.in_ok-add.ensures)
    (table_here c.args.sets.now.items c.loop-missing.sets.items c.loop-missing.more (λ (R : Sets). HoldsAt (setting c.args.s.now) R c.args.statement) c.loop-missing.invariant c.requires.table)

pub loop-missing-preserved : goal.loop-missing-preserved
loop-missing-preserved c =
    grows_more c.args.sets.now.items c.loop-missing.sets.items c.add.new.sets.items c.loop-missing.more (λ (R : Sets). HoldsAt (setting c.args.s.now) R c.args.statement) _ _
    c.loop-missing.invariant (subst (λ (T : Rows). Lacks (codes_of T) (λ (R : Sets). HoldsAt (setting c.args.s.now) R c.args.statement) c.in-Some.missing.to c.in-Some.missing.code) c.as_slice.ensures.value c.in-Some.ensures) c.in_ok-add.ensures

pub returns : goal.returns
returns c = record { grown = c.loop-missing.invariant; kept = λ e. subst (λ (T : Rows). HoldsAt (setting c.args.s.now) (codes_of T) c.args.statement) c.as_slice.ensures.value c.in_default.ensures }
