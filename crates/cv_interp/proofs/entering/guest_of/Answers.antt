use Rattle.std.proofs.Common.{◌≡◌, ap, ◌∙◌, refl, map}
use Rattle.cv_meaning.specs.declared.memory.NamedValue.{NamedValue}
use Rattle.cv_interp.specs.Entered.{arguments}
use Rattle.cv_interp.proofs.Bound.{argument_names, arrived_is}
use Rattle.cv_interp.proofs.entering.guest_of.Goals as goal

pub returns-clause-names : goal.returns-clause-names
returns-clause-names c =
    let bound : c.bind.new.bound ≡ arguments c.args.g.now.formals c.args.args.now = c.in_ok-bind.ensures ∙ rw (c.new-formals.ensures, c.as_slice.ensures) refl in
    ap (map (λ (n : NamedValue). n.name)) bound ∙ argument_names c.args.g.now.formals c.args.args.now

pub returns-clause-arrived : goal.returns-clause-arrived
returns-clause-arrived c = λ i.
    arrived_is c.args.p.now i c.args.g.now c.args.args.now c.args.memory.now _ c.args.made c.requires.made
    (c.in_ok-bind.ensures ∙ rw (c.new-formals.ensures, c.as_slice.ensures) refl)
    (rw (c.in_ok-allowed.ensures, c.as_slice-2.ensures, c.len-literals.ensures, c.len.ensures, ← c.p.view_is) refl)
