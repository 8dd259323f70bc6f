use Rattle.std.proofs.Common.{◌≡◌, sym, ap, subst, ◌∙◌, None}
use Rattle.std.specs.Prelude.{codes}
use Rattle.cv_core.specs.Grammar.{Tree}
use Rattle.cv_core.specs.Names.{place_of}
use Rattle.cv_core.specs.declared.program.Proc.{Proc}
use Rattle.cv_interp.proofs.Mains.{main_placed}
use Rattle.cv_interp.proofs.begin.main_of.Goals as goal

pub unreachable-requires : goal.unreachable-requires
unreachable-requires c =
    main_placed c.args.p.now c.requires.formed
    (subst (λ ps. place_of (λ (g : Proc). g.name) (codes "main") ps ≡ None) (c.as_slice.ensures ∙ ap (λ (t : Tree). t.procs) c.p.view_is) (sym c.in_default.ensures.place))
