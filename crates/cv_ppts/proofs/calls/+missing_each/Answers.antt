use Rattle.std.proofs.Common.{List, ◌-◌, drop, length, subst, take}
use Rattle.cv_core.specs.declared.program.Atom.{Atom}
use Rattle.cv_ppts.specs.Numbers.{codes_of}
use Rattle.cv_ppts.specs.Keys.{setting}
use Rattle.cv_ppts.specs.Lacking.{Lacks}
use Rattle.cv_ppts.specs.Picked.{choice_of}
use Rattle.cv_ppts.specs.Plain.{Sets}
use Rattle.cv_ppts.specs.Targets.{AlternativeHolds}
use Rattle.cv_ppts.proofs.Called.{peeled}
use Rattle.cv_ppts.proofs.Lacked.{first_of, rest_of}
use Rattle.cv_ppts.proofs.calls.+missing_each.Goals as goal

pub returns-in-Some : goal.returns-in-Some
returns-in-Some t c =
    let s = setting c.args.s.now in
    let P = λ (R : Sets) (x : List Atom). AlternativeHolds s R c.args.target c.args.into c.args.g.now (choice_of s c.args.k.now) x in
    let more : List (List Atom) = take (length c.args.gives.now - 1) (drop 1 c.args.gives.now) in
    first_of P (codes_of c.args.sets.now) c.args.gives.now c.atoms-item.result more _ _ (peeled c.args.gives.now c.atoms-item.result _ c.in-len1-up.len_at_least c.atoms-item.is)
    (subst (λ o. Lacks (codes_of c.args.sets.now) (λ (R : Sets). P R o) c.in-Some.missing.to c.in-Some.missing.code) c.as_slice.ensures c.in-Some.ensures)

pub returns-in-None : goal.returns-in-None
returns-in-None t c =
    let s = setting c.args.s.now in
    let P = λ (R : Sets) (x : List Atom). AlternativeHolds s R c.args.target c.args.into c.args.g.now (choice_of s c.args.k.now) x in
    let more : List (List Atom) = take (length c.args.gives.now - 1) (drop 1 c.args.gives.now) in
    rest_of P (codes_of c.args.sets.now) c.args.gives.now c.atoms-item.result more c.missing_each.result (peeled c.args.gives.now c.atoms-item.result _ c.in-len1-up.len_at_least c.atoms-item.is)
    (subst (λ o. P (codes_of c.args.sets.now) o) c.as_slice.ensures c.in-None.ensures)
    c.missing_each.ensures
