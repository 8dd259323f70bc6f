-- The names in statements and contracts, and what is asked of each: that it is known, and that a global is listed.
use Rattle.std.specs.Prelude.{ℕ, Bool, true, false, not, ◌&&◌, ◌||◌, List, [], ◌∷◌, Option, Some, None, codes}
use Rattle.std.specs.Option.{is_none}
use Rattle.std.specs.List.{list_any}
use Rattle.std.specs.Str.{bytes_eq}
use Rattle.cv_core.specs.Meant.{built_in, called, is_global, meant_in, mentioned_in}
use Rattle.cv_core.specs.Names.{Name}
use Rattle.cv_core.specs.declared.program.Program.{Program}
use Rattle.cv_core.specs.declared.program.Proc.{Proc}
use Rattle.cv_core.specs.declared.program.Form.{Form}
use Rattle.cv_core.specs.declared.program.Form.TheVariants as form
use Rattle.cv_core.specs.declared.program.Operand.{Operand}
use Rattle.cv_core.specs.declared.program.Operand.TheVariants as operand
use Rattle.cv_core.specs.declared.program.AnyOperand.{AnyOperand}
use Rattle.cv_core.specs.declared.program.AnyOperand.TheVariants as any
use Rattle.cv_core.specs.declared.program.Contract.{Contract}
use Rattle.cv_core.specs.declared.program.Atom.{Atom}
use Rattle.cv_core.specs.declared.program.Atom.TheVariants as atom
use Rattle.cv_core.specs.declared.program.Item.{Item}
use Rattle.cv_core.specs.declared.program.Item.TheVariants as item
use Rattle.cv_core.specs.declared.program.LinPart.{LinPart}
use Rattle.cv_core.specs.declared.program.Term.{Term, Row_of-Term, end_of-Term, more_of-Term}
use Rattle.cv_core.specs.declared.program.Term.TheVariants as term
use Rattle.cv_core.specs.declared.program.PtrTerm.{PtrTerm, Row_of-PtrTerm, end_of-PtrTerm, more_of-PtrTerm}
use Rattle.cv_core.specs.declared.program.PtrTerm.TheVariants as pointer
use Rattle.cv_core.specs.declared.names.BuiltIn.{BuiltIn}
use Rattle.cv_core.specs.declared.shape.named.NameFault.{NameFault}
use Rattle.cv_core.specs.declared.shape.named.NameFault.TheVariants as fault

-- ---- what is wrong with a name

abbrev pub is_listed : Proc → Name → Bool
is_listed f x = list_any (λ y. bytes_eq y x) f.contract.listed

-- unknown in the body; unknown in the contract; a global that `uses` lacks
abbrev pub fails : Program → Proc → NameFault → Name → Bool
fails P f fault.Unknown x = is_none (meant_in P f x)
fails P f fault.Unmentioned x = is_none (mentioned_in P f x)
fails P f fault.Unlisted x = is_global P x && not (is_listed f x)

-- ---- the variables and objects that a statement names

abbrev pub fails_in_maybe : Program → Proc → NameFault → Option Name → Bool
fails_in_maybe P f w None = false
fails_in_maybe P f w (Some x) = fails P f w x

abbrev pub fails_in_operand : Program → Proc → NameFault → Operand → Bool
fails_in_operand P f w (operand.Var x) = fails P f w x
fails_in_operand P f w (operand.Number z) = false

abbrev pub fails_in_any : Program → Proc → NameFault → AnyOperand → Bool
fails_in_any P f w (any.Operand e) = fails_in_operand P f w e
fails_in_any P f w any.Null = false

abbrev pub fails_in_value : Program → Proc → NameFault → Option AnyOperand → Bool
fails_in_value P f w None = false
fails_in_value P f w (Some e) = fails_in_any P f w e

-- some variable or object that the statement names is wrong
abbrev pub fails_in_form : Program → Proc → NameFault → Form → Bool
fails_in_form P f w (form.Assign x e) = fails P f w x || fails_in_operand P f w e
fails_in_form P f w (form.Sum x e g) = fails P f w x || fails_in_operand P f w e || fails_in_operand P f w g
fails_in_form P f w (form.Minus x e g) = fails P f w x || fails_in_operand P f w e || fails_in_operand P f w g
fails_in_form P f w (form.Product x k e) = fails P f w x || fails_in_operand P f w e
fails_in_form P f w (form.Quotient x e k) = fails P f w x || fails_in_operand P f w e
fails_in_form P f w (form.Remainder x e k) = fails P f w x || fails_in_operand P f w e
fails_in_form P f w (form.CopyPtr p q) = fails P f w p || fails_in_maybe P f w q
fails_in_form P f w (form.Address p a) = fails P f w p || fails P f w a
fails_in_form P f w (form.Shift p q e) = fails P f w p || fails P f w q || fails_in_operand P f w e
fails_in_form P f w (form.Load x p) = fails P f w x || fails P f w p
fails_in_form P f w (form.Store p e) = fails P f w p || fails_in_operand P f w e
fails_in_form P f w (form.Get x p) = fails P f w x || fails P f w p
fails_in_form P f w (form.Put p e) = fails P f w p || fails_in_any P f w e
fails_in_form P f w (form.Diff x p q) = fails P f w x || fails P f w p || fails P f w q
fails_in_form P f w (form.Goto to) = false
fails_in_form P f w (form.If e r g to) = fails_in_operand P f w e || fails_in_any P f w g
fails_in_form P f w (form.IfByte p equal to) = fails P f w p
fails_in_form P f w (form.Call into g args) = fails_in_maybe P f w into || list_any (fails_in_any P f w) args
fails_in_form P f w (form.Return e) = fails_in_value P f w e

-- ---- the names in a contract

abbrev mutual
  pub fails_in_pointer : Program → Proc → NameFault → PtrTerm → Bool
  fails_in_pointer P f w (pointer.Name x) = fails P f w x
  fails_in_pointer P f w (pointer.Star x) = fails P f w x
  fails_in_pointer P f w pointer.Answer = false
  fails_in_pointer P f w (pointer.Pre' s held) = fails_in_pointer_held P f w held

  pub fails_in_pointer_held : Program → Proc → NameFault → {n : _} → Row_of-PtrTerm n → Bool
  fails_in_pointer_held P f w end_of-PtrTerm = false
  fails_in_pointer_held P f w (more_of-PtrTerm t rest) = fails_in_pointer P f w t

abbrev mutual
  pub fails_in_term : Program → Proc → NameFault → Term → Bool
  fails_in_term P f w (term.Name x) = fails P f w x
  fails_in_term P f w (term.Star x) = fails P f w x
  fails_in_term P f w term.Answer = false
  fails_in_term P f w (term.Pre' s held) = fails_in_term_held P f w held
  fails_in_term P f w (term.Alloc p) = fails_in_pointer P f w p
  fails_in_term P f w (term.Offset p) = fails_in_pointer P f w p
  fails_in_term P f w (term.Strlen p) = fails_in_pointer P f w p

  pub fails_in_term_held : Program → Proc → NameFault → {n : _} → Row_of-Term n → Bool
  fails_in_term_held P f w end_of-Term = false
  fails_in_term_held P f w (more_of-Term t rest) = fails_in_term P f w t

abbrev pub fails_in_maybe_term : Program → Proc → NameFault → Option Term → Bool
fails_in_maybe_term P f w None = false
fails_in_maybe_term P f w (Some t) = fails_in_term P f w t

abbrev pub fails_in_lin : Program → Proc → NameFault → List LinPart → Bool
fails_in_lin P f w parts = list_any (λ p. fails_in_maybe_term P f w p.term) parts

abbrev pub fails_in_atom : Program → Proc → NameFault → Atom → Bool
fails_in_atom P f w (atom.Null p equal) = fails_in_pointer P f w p
fails_in_atom P f w (atom.Nullt p) = fails_in_pointer P f w p
fails_in_atom P f w (atom.Clear p) = fails_in_pointer P f w p
fails_in_atom P f w (atom.Fresh p) = fails_in_pointer P f w p
fails_in_atom P f w (atom.Apart p q) = fails_in_pointer P f w p || fails_in_pointer P f w q
fails_in_atom P f w (atom.SameBase p q) = fails_in_pointer P f w p || fails_in_pointer P f w q
fails_in_atom P f w (atom.Compare left r right) = fails_in_lin P f w left || fails_in_lin P f w right

abbrev pub fails_in_item : Program → Proc → NameFault → Item → Bool
fails_in_item P f w (item.Body p) = fails_in_pointer P f w p
fails_in_item P f w (item.Star x) = fails P f w x
fails_in_item P f w (item.Name x) = fails P f w x

-- some name in the contract of f is wrong
abbrev pub fails_in_contract : Program → Proc → NameFault → Contract → Bool
fails_in_contract P f w c =
    list_any (fails P f w) c.listed || list_any (fails_in_atom P f w) c.needs || list_any (fails_in_item P f w) c.changes
    || list_any (list_any (fails_in_atom P f w)) c.gives

-- ---- the procedures that a statement names

abbrev pub calls_unknown : Program → Form → Bool
calls_unknown P (form.Call into g args) = is_none (built_in g) && is_none (called P g)
calls_unknown P form = false

abbrev pub uses_unlisted : Program → Proc → Option BuiltIn → Option Proc → Bool
uses_unlisted P f (Some b) h = false
uses_unlisted P f None (Some h) = list_any (fails P f fault.Unlisted) h.contract.listed
uses_unlisted P f None None = false

-- the statement calls a procedure whose `uses` has a global that the one of f lacks
abbrev pub calls_unlisted : Program → Proc → Form → Bool
calls_unlisted P f (form.Call into g args) = uses_unlisted P f (built_in g) (called P g)
calls_unlisted P f form = false

-- ---- the two rules at a statement of f, and at its contract

abbrev pub names_unknown : Program → Proc → Form → Bool
names_unknown P f form = fails_in_form P f fault.Unknown form || calls_unknown P form

abbrev pub names_unlisted : Program → Proc → Form → Bool
names_unlisted P f form = fails_in_form P f fault.Unlisted form || calls_unlisted P f form

abbrev pub mentions_unknown : Program → Proc → Bool
mentions_unknown P f = fails_in_contract P f fault.Unmentioned f.contract

abbrev pub mentions_unlisted : Program → Proc → Bool
mentions_unlisted P f = fails_in_contract P f fault.Unlisted f.contract
