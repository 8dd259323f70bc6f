use Rattle.std.proofs.Common.{◌≡◌, ◌++◌, ℕ, List, codes, subst}
use Rattle.std.specs.Result.{OnOk}
use Rattle.cv_text.specs.PrintedContract.{atom_text, atoms_text}
use Rattle.cv_text.proofs.Printing.{clause_of}
use Rattle.cv_text.proofs.print_contract.push_ensures.Goals as goal

pub returns-in-len1-up : goal.returns-in-len1-up
returns-in-len1-up c = subst (λ (u : List ℕ). OnOk c.push_ensures_line.result (c.push_ensures_line.new.out.items ≡ u))
    (clause_of c.args.out.now.items (codes "ensures ") (codes " | ") atoms_text c.args.gives.now c.first-item.result c.in-len1-up.len_at_least c.first-item.is) (rw c.as_slice.ensures at c.push_ensures_line.ensures)
