use Rattle.std.proofs.Common.{ap, sym, ◌≡◌, ◌∙◌, true, false}
use Rattle.std.specs.Prelude.{codes}
use Rattle.std.specs.Str.{bytes_eq}
use Rattle.cv_core.specs.Names.{Name}
use Rattle.cv_ppts.specs.Numbers.{codes_of}
use Rattle.cv_ppts.specs.Keys.{setting}
use Rattle.cv_ppts.specs.Plain.{Sets}
use Rattle.cv_ppts.specs.Setting.{callee}
use Rattle.cv_ppts.specs.Targets.{CalleeHolds, MallocHolds}
use Rattle.cv_ppts.proofs.Formals.{call_malloc, call_other}
use Rattle.cv_ppts.proofs.calls.missing_in_call.Goals as goal

pub returns-then-is_malloc_name : goal.returns-then-is_malloc_name
returns-then-is_malloc_name c =
    call_malloc (codes_of c.args.sets.now) (λ (R : Sets). MallocHolds R c.args.target c.args.into) (λ (R : Sets). CalleeHolds (setting c.args.s.now) R c.args.target c.args.into c.args.args.now (callee c.args.s.now.p.now c.args.name.now)) _ c.missing_malloc.result
    (ap (λ (n : Name). bytes_eq n (codes "malloc")) (sym c.as_slice.ensures) ∙ (sym c.is_malloc_name.ensures ∙ c.if-is_malloc_name.true)) c.missing_malloc.ensures

pub returns-else-is_malloc_name : goal.returns-else-is_malloc_name
returns-else-is_malloc_name c =
    call_other (codes_of c.args.sets.now) (λ (R : Sets). MallocHolds R c.args.target c.args.into) (λ (R : Sets). CalleeHolds (setting c.args.s.now) R c.args.target c.args.into c.args.args.now (callee c.args.s.now.p.now c.args.name.now)) _ c.missing_in_procedure.result
    (ap (λ (n : Name). bytes_eq n (codes "malloc")) (sym c.as_slice.ensures) ∙ (sym c.is_malloc_name.ensures ∙ c.if-is_malloc_name.false)) c.missing_in_procedure.ensures
