use Rattle.std.proofs.Common.{◌≡◌, ◌∙◌, ◌∷◌, sym, ap, rules, FitsSigned, List, ℕ, ℤ}
use Rattle.std.specs.Int.{w64}
use Rattle.std.proofs.lemmas.Int.{to_z-of_z}
use Rattle.cv_cert.specs.Tokens.{fields, integer_of, pairs_by}
use Rattle.cv_cert.proofs.Found.{behind, pairs_step}
use Rattle.cv_cert.proofs.fields.pairs.Goals as goal

pub loop-token-preserved : goal.loop-token-preserved
loop-token-preserved c =
    let f : FitsSigned w64 c.in-Some-integer.coefficient = search rules in
    let t = c.in-Some.token.now in
    let u = c.in-Some-next_token.second.now in
    let after = fields c.in-Some-next_token.after.now in
    let e = pairs_step integer_of c.loop-token.found.items t u after c.in-Some-number.variable c.in-Some-integer.coefficient c.in-Some-number.ensures c.in-Some-integer.ensures in
    let ok = simp to_z-of_z at c.in_ok-push.ensures.ok in
    let split : fields c.loop-token.rest.now ≡ t ∷ (u ∷ after) = c.in-Some.ensures.0 ∙ ap (λ (ts : List (List ℕ)). t ∷ ts) c.in-Some-next_token.ensures.0 in
    ap (λ (xs : List (ℕ × ℤ)). behind xs (pairs_by integer_of after)) ok ∙ sym e ∙ ap (λ (ts : List (List ℕ)). behind c.loop-token.found.items (pairs_by integer_of ts)) (sym split) ∙ c.loop-token.invariant
