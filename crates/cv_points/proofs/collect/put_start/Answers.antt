use Rattle.std.proofs.Common.{ℕ, slice_get}
use Rattle.cv_points.specs.Closed.{Family, MaybeHolds, Starts, formal_rule, global_rule}
use Rattle.cv_points.specs.Holders.{first_holder}
use Rattle.cv_points.proofs.Added.{adds_then}
use Rattle.cv_points.proofs.collect.put_start.Goals as goal

pub returns : goal.returns
returns c =
    adds_then c.args.p.now c.args.rules.now.items c.put_formals.new.rules.items c.put_globals.new.rules.items
    (λ (S : Family). (n : ℕ) → MaybeHolds c.args.p.now S (formal_rule (first_holder c.args.p.now c.args.proc) c.args.f.now (slice_get c.args.f.now.formals n)))
    (λ (S : Family). (n : ℕ) → MaybeHolds c.args.p.now S (global_rule c.args.p.now n))
    (λ (S : Family). Starts c.args.p.now S c.args.proc c.args.f.now)
    (λ S a b. record { formals = a; globals = b }) (λ S h. h.formals) (λ S h. h.globals)
    c.in_ok-put_formals.ensures c.in_ok-put_globals.ensures
