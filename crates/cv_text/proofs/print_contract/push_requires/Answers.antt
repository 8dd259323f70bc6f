use Rattle.std.proofs.Common.{◌≡◌, ◌++◌, ℕ, List, codes, subst}
use Rattle.std.specs.Result.{OnOk}
use Rattle.cv_text.specs.PrintedContract.{atom_text, atoms_text}
use Rattle.cv_text.proofs.Printing.{clause_of}
use Rattle.cv_text.proofs.print_contract.push_requires.Goals as goal

pub returns-in-len1-up : goal.returns-in-len1-up
returns-in-len1-up c = subst (λ (u : List ℕ). OnOk c.push_requires_line.result (c.push_requires_line.new.out.items ≡ u))
    (clause_of c.args.out.now.items (codes "requires ") (codes ", ") atom_text c.args.needs.now c.first-item.result c.in-len1-up.len_at_least c.first-item.is) c.push_requires_line.ensures
