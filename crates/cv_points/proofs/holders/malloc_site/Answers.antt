use Rattle.std.proofs.Common.{ℕ, zero, suc, ◌≡◌, ◌+◌, ap, sym, ◌∙◌, List, [], ◌∷◌, Some, slice_get, take, arith}
use Rattle.cv_core.specs.Names.{mallocs_in, stmts_at, stmts_of}
use Rattle.cv_core.specs.declared.program.Proc.{Proc}
use Rattle.cv_points.specs.Walks.{malloc_base, word}
use Rattle.cv_points.proofs.holders.malloc_site.Goals as goal

at_place : (fs : List Proc) (i : ℕ) (f : Proc) → slice_get fs i ≡ Some f → stmts_at fs i ≡ stmts_of f.body
at_place [] i f e = cc
at_place (g ∷ gs) zero f e = let same : g ≡ f = cc in ap (λ (h : Proc). stmts_of h.body) same
at_place (g ∷ gs) (suc i) f e = at_place gs i f e

two_words : (a n m x r : ℕ) → x ≡ word a → n ≡ m → r ≡ Prim.Native.Nat.min (x + n) 18446744073709551615 → r ≡ word (a + m)
two_words a n m x r e f g = omega arith

pub returns : goal.returns
returns c p proc here base =
    two_words (malloc_base p proc) c.mallocs_before.result (mallocs_in (take c.args.statement (stmts_of c.args.f.now.body))) c.args.base c.saturating_add.result base c.mallocs_before.ensures c.saturating_add.ensures
    ∙ ap (λ ss. word (malloc_base p proc + mallocs_in (take c.args.statement ss))) (sym (at_place p.procs proc c.args.f.now here))
