use Rattle.std.proofs.Common.{ℕ, zero, suc, ◌≡◌, ◌<◌, ◌+◌, arith, List, [], ◌∷◌, length, slice_index_or, slice_set, ◌∙◌}
use Rattle.std.proofs.Math.ListN.{length-set}
use Rattle.cv_points.specs.Holders.{first_holder}
use Rattle.cv_points.specs.Walks.{word}
use Rattle.cv_points.proofs.holders.starts.Goals as goal

-- what is stored at i, and what stands before it
stored : (P : ℕ → ℕ → Type 0) (xs : List ℕ) (i v : ℕ) → i < length xs → ((k d : ℕ) → k < i → P k (slice_index_or xs k d)) → P i v → (k d : ℕ) → k < i + 1 → P k (slice_index_or (slice_set xs i v) k d)
stored P [] i v h before here k d lt = absurd (omega arith)
stored P (x ∷ xs) zero v h before here zero d lt = here
stored P (x ∷ xs) zero v h before here (suc k) d lt = absurd (omega arith)
stored P (x ∷ xs) (suc i) v h before here zero d lt = before 0 d (omega arith)
stored P (x ∷ xs) (suc i) v h before here (suc k) d lt = stored (λ n. P (suc n)) xs i v (omega arith) (λ n e l. before (suc n) e (omega arith)) here k d (omega arith)

pub loop-proc-preserved : goal.loop-proc-preserved
loop-proc-preserved c = (
  length-set c.loop-proc.table c.loop-proc.proc c.start_or_zero.result ∙ c.loop-proc.invariant.0,
  λ k d lt. stored (λ n v. n < length c.args.p.now.procs → v ≡ word (first_holder c.args.p.now n)) c.loop-proc.table c.loop-proc.proc c.start_or_zero.result
      (let e = c.loop-proc.invariant.0 in omega arith) (λ n e l. c.loop-proc.invariant.1 n e l) c.start_or_zero.ensures k d lt,
)

pub returns : goal.returns
returns c k d lt = c.loop-proc.invariant.1 k d (let e = c.loop-proc.invariant.0 in omega arith)
