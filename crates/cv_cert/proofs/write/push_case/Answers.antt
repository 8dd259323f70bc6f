use Rattle.std.proofs.Common.{◌++◌, [], ◌∷◌, List, ℕ, ap, ◌∙◌, codes, length, decimal}
use Rattle.cv_cert.specs.Writing.{step_text, statement_text, numbered_text}
use Rattle.std.specs.List.{flat_map}
use Rattle.cv_num.specs.declared.rows.Row.{Row}
use Rattle.cv_farkas.specs.declared.steps.Step.{Step}
use Rattle.cv_cert.specs.Text.{line_text, picks_line}
use Rattle.cv_cert.proofs.Written.{five, case_is}
use Rattle.cv_cert.proofs.write.push_case.Goals as goal

pub returns : goal.returns
returns c =
    let o = c.args.out.now.items in
    let n = c.args.n in
    let it = c.args.case.now in
    let statements = c.in_ok-push_statements.ensures ∙ ap (λ (xs : List (List Row)). c.push_count.new.out.items ++ numbered_text statement_text 0 xs) c.as_slice.ensures in
    let picks = c.in_ok-push_picks.ensures ∙ ap (λ (xs : List ℕ). c.push_statements.new.out.items ++ line_text (picks_line xs)) c.as_slice-2.ensures in
    let count = c.in_ok-push_count-2.ensures ∙ ap (λ m. c.push_picks.new.out.items ++ line_text (codes "steps" ∷ decimal m ∷ [])) c.len.ensures in
    let steps = c.in_ok-push_steps.ensures ∙ ap (λ (xs : List Step). c.push_count-2.new.out.items ++ flat_map step_text xs) c.as_slice-3.ensures in
    five o (line_text (codes "case" ∷ decimal n ∷ [])) (numbered_text statement_text 0 it.rows) (line_text (picks_line it.picks)) (line_text (codes "steps" ∷ decimal (length it.steps) ∷ [])) (flat_map step_text it.steps)
    c.push_count.new.out.items c.push_statements.new.out.items c.push_picks.new.out.items c.push_count-2.new.out.items c.push_steps.new.out.items c.in_ok-push_count.ensures statements picks count steps
    ∙ ap (λ (u : List ℕ). o ++ u) (case_is n it)
