-- A program without a shape fault is printed as a text that spells it, within the levels that a text may open.
use Rattle.std.proofs.Common.{◌≡◌, ℕ, ◌≤◌, true, nat_le, List, ◌++◌, Option, Some, None, Result, refl, slice_get, arith}
use Rattle.std.proofs.lemmas.Bool.{le-leb}
use Rattle.std.specs.List.{list_all}
use Rattle.cv_core.specs.Both.{all_placed, each_placed, each_too, first_true, second_true, true_both}
use Rattle.cv_core.specs.ContractForm.{alternative_formed, atom_formed, contract_formed, item_formed, part_formed, pointer_formed, pointer_held_formed, term_formed, term_held_formed}
use Rattle.cv_core.specs.Grammar.{Tree, IsWritten}
use Rattle.cv_core.specs.Names.{locals_of, stmts_of}
use Rattle.cv_core.specs.Shape.{IsWellFormed}
use Rattle.cv_core.specs.WellFormed.{well_formed_sound}
use Rattle.cv_core.specs.declared.program.Atom.{Atom}
use Rattle.cv_core.specs.declared.program.Atom.TheVariants as atom
use Rattle.cv_core.specs.declared.program.Contract.{Contract}
use Rattle.cv_core.specs.declared.program.Item.{Item}
use Rattle.cv_core.specs.declared.program.Item.TheVariants as item
use Rattle.cv_core.specs.declared.program.LinPart.{LinPart}
use Rattle.cv_core.specs.declared.program.Proc.{Proc}
use Rattle.cv_core.specs.declared.program.ProcBody.{ProcBody}
use Rattle.cv_core.specs.declared.program.Program.{Program}
use Rattle.cv_core.specs.declared.program.Stmt.{Stmt}
use Rattle.cv_core.specs.declared.program.PtrTerm.{PtrTerm, Row_of-PtrTerm, end_of-PtrTerm, more_of-PtrTerm}
use Rattle.cv_core.specs.declared.program.PtrTerm.TheVariants as pointer
use Rattle.cv_core.specs.declared.program.Term.{Row_of-Term, Term, end_of-Term, more_of-Term}
use Rattle.cv_core.specs.declared.program.Term.TheVariants as term
use Rattle.cv_text.specs.CoreText.{Answers}
use Rattle.cv_text.specs.declared.faults.TextError.{TextError}
use Rattle.cv_text.specs.Grammar.{AsDeclared, variables_of}
use Rattle.cv_text.specs.Levels.{atom_within, contract_within, item_within, maybe_within, most_levels, pointer_held_levels, pointer_levels, sum_within, term_held_levels, term_levels}
use Rattle.cv_text.specs.Printed.{program_text}
use Rattle.cv_text.specs.ProgramReader.{is_within}
use Rattle.cv_text.specs.Whole.{Spells}
use Rattle.cv_text.proofs.Declared.{AreDeclared, BodyDeclared, declared}
use Rattle.cv_text.proofs.RespelledProgram.{printed_spells}

-- ---- a contract of the right form has few levels

low : (n : ℕ) → n ≤ 3 → nat_le n most_levels ≡ true
low n h = le-leb n most_levels (omega (arith, h))

held_pointer : (P : Program) (f : Proc) {n : _} (held : Row_of-PtrTerm n) → pointer_held_formed P f held ≡ true → pointer_held_levels held ≤ 1
held_pointer P f end_of-PtrTerm e = cc
held_pointer P f (more_of-PtrTerm (pointer.Name x) rest) e = omega arith
held_pointer P f (more_of-PtrTerm (pointer.Star x) rest) e = omega arith
held_pointer P f (more_of-PtrTerm pointer.Answer rest) e = omega arith
held_pointer P f (more_of-PtrTerm (pointer.Pre' s held) rest) e = cc

formed_pointer : (P : Program) (f : Proc) (d : _) (p : PtrTerm) → pointer_formed P f d p ≡ true → pointer_levels p ≤ 2
formed_pointer P f d (pointer.Name x) e = omega arith
formed_pointer P f d (pointer.Star x) e = omega arith
formed_pointer P f d pointer.Answer e = omega arith
formed_pointer P f d (pointer.Pre' s held) e = omega (arith, held_pointer P f held (second_true _ _ e))

-- the pointer of a term inside `pre`
held_alone : (P : Program) (f : Proc) (p : PtrTerm) → pointer_held_formed P f (more_of-PtrTerm p end_of-PtrTerm) ≡ true → pointer_levels p ≤ 1
held_alone P f p e = held_pointer P f (more_of-PtrTerm p end_of-PtrTerm) e

held_term : (P : Program) (f : Proc) {n : _} (held : Row_of-Term n) → term_held_formed P f held ≡ true → term_held_levels held ≤ 2
held_term P f end_of-Term e = cc
held_term P f (more_of-Term (term.Name x) rest) e = omega arith
held_term P f (more_of-Term (term.Star x) rest) e = omega arith
held_term P f (more_of-Term term.Answer rest) e = omega arith
held_term P f (more_of-Term (term.Pre' s held) rest) e = cc
held_term P f (more_of-Term (term.Alloc p) rest) e = omega (arith, held_alone P f p e)
held_term P f (more_of-Term (term.Offset p) rest) e = omega (arith, held_alone P f p e)
held_term P f (more_of-Term (term.Strlen p) rest) e = omega (arith, held_alone P f p e)

formed_term : (P : Program) (f : Proc) (d : _) (t : Term) → term_formed P f d t ≡ true → term_levels t ≤ 3
formed_term P f d (term.Name x) e = omega arith
formed_term P f d (term.Star x) e = omega arith
formed_term P f d term.Answer e = omega arith
formed_term P f d (term.Pre' s held) e = omega (arith, held_term P f held (second_true _ _ e))
formed_term P f d (term.Alloc p) e = omega (arith, formed_pointer P f d p e)
formed_term P f d (term.Offset p) e = omega (arith, formed_pointer P f d p e)
formed_term P f d (term.Strlen p) e = omega (arith, formed_pointer P f d p e)

low_pointer : (P : Program) (f : Proc) (d : _) (p : PtrTerm) → pointer_formed P f d p ≡ true → nat_le (pointer_levels p) most_levels ≡ true
low_pointer P f d p e = low (pointer_levels p) (omega (arith, formed_pointer P f d p e))

low_part : (P : Program) (f : Proc) (d : _) (number : Option ℕ) (t : Option Term) → part_formed P f d number t ≡ true → maybe_within most_levels t ≡ true
low_part P f d number None e = refl
low_part P f d None (Some t) e = low (term_levels t) (formed_term P f d t e)
low_part P f d (Some k) (Some t) e = low (term_levels t) (formed_term P f d t (second_true _ _ e))

low_sum : (P : Program) (f : Proc) (d : _) (parts : List LinPart) → list_all (λ p. part_formed P f d p.number p.term) parts ≡ true → sum_within most_levels parts ≡ true
low_sum P f d parts e = each_too (λ p. part_formed P f d p.number p.term) (λ p. maybe_within most_levels p.term) (λ p. low_part P f d p.number p.term) parts e

low_atom : (P : Program) (f : Proc) (d : _) (a : Atom) → atom_formed P f d a ≡ true → atom_within most_levels a ≡ true
low_atom P f d (atom.Null p equal) e = low_pointer P f d p e
low_atom P f d (atom.Nullt p) e = low_pointer P f d p e
low_atom P f d (atom.Clear p) e = low_pointer P f d p e
low_atom P f d (atom.Fresh p) e = low_pointer P f d p (second_true _ _ (first_true _ _ e))
low_atom P f d (atom.Apart p q) e = true_both _ _ (low_pointer P f d p (first_true _ _ e)) (low_pointer P f d q (second_true _ _ e))
low_atom P f d (atom.SameBase p q) e = true_both _ _ (low_pointer P f d p (first_true _ _ e)) (low_pointer P f d q (second_true _ _ e))
low_atom P f d (atom.Compare left r right) e = true_both _ _ (low_sum P f d left (first_true _ _ e)) (low_sum P f d right (second_true _ _ e))

low_item : (P : Program) (f : Proc) (i : Item) → item_formed P f i ≡ true → item_within most_levels i ≡ true
low_item P f (item.Body p) e = low_pointer P f _ p e
low_item P f (item.Star x) e = refl
low_item P f (item.Name x) e = refl

low_alternative : (P : Program) (f : Proc) (atoms : List Atom) → alternative_formed P f atoms ≡ true → list_all (atom_within most_levels) atoms ≡ true
low_alternative P f atoms e = each_too _ (atom_within most_levels) (low_atom P f _) atoms (first_true _ _ e)

low_contract : (P : Program) (f : Proc) (c : Contract) → contract_formed P f c ≡ true → contract_within most_levels c ≡ true
low_contract P f c e =
    let front = first_true _ _ e in
    let needs = each_too _ (atom_within most_levels) (low_atom P f _) c.needs (second_true _ _ (first_true _ _ front)) in
    let changes = each_too (item_formed P f) (item_within most_levels) (low_item P f) c.changes (second_true _ _ front) in
    let gives = each_too (alternative_formed P f) (list_all (atom_within most_levels)) (low_alternative P f) c.gives (second_true _ _ e) in
    true_both _ _ (true_both _ _ needs changes) gives

pub shaped_within : (p : Tree) → IsWellFormed p → is_within p ≡ true
shaped_within p w =
    let sound = well_formed_sound p w in
    each_placed (λ f. contract_within most_levels f.contract) p.procs (λ i f at. low_contract p f f.contract (sound.headings i f at).formed)

-- ---- its statements are as they are declared

body_declared : (f : Proc) (b : Option ProcBody) → ((k : ℕ) (s : Stmt) → slice_get (stmts_of b) k ≡ Some s → AsDeclared (f.formals ++ variables_of (locals_of b)) s.form) → BodyDeclared f.formals b
body_declared f None h = tt
body_declared f (Some b) h = all_placed (λ s. AsDeclared (f.formals ++ variables_of b.locals) s.form) b.stmts h

pub shaped_declared : (p : Tree) → IsWellFormed p → AreDeclared p
shaped_declared p w =
    let sound = well_formed_sound p w in
    all_placed (λ f. BodyDeclared f.formals f.body) p.procs (λ i f at. body_declared f f.body (λ k s there. declared p f s.form (sound.statements i k f s at there).kinds))

pub shaped_spells : (p : Tree) → IsWritten p → IsWellFormed p → Spells (program_text p) p
shaped_spells p h w = printed_spells p h (shaped_declared p w)

-- what is read of a printed text
pub read_again : (p : Tree) (answer : Result Program TextError) → IsWritten p → IsWellFormed p →
    ((q : Program) → Spells (program_text p) q → is_within q ≡ true → Answers q answer) → Answers p answer
read_again p answer h w only = only p (shaped_spells p h w) (shaped_within p w)
