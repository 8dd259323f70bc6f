use Rattle.std.proofs.Common.{◌≡◌, ℕ, ◌<◌, ◌≤◌, sym, arith, get_or, false, true, length}
use Rattle.std.specs.Prelude.{◌==◌}
use Rattle.std.proofs.lemmas.Bool.Decides.{nat_tests}
use Rattle.std.proofs.lemmas.List.Sums.{position_or_len_is}
use Rattle.cv_meaning.proofs.access.zero_in.Goals as goal

is_not : (n : ℕ) → (n ≡ 0 → ⊥) → (n == 0) ≡ false
is_not n h = grind (arith, nat_tests)

is : (n : ℕ) → n ≡ 0 → (n == 0) ≡ true
is n h = grind (arith, nat_tests)

pub returns-then-b-eq0-clause-value : goal.returns-then-b-eq0-clause-value
returns-then-b-eq0-clause-value c =
    sym (position_or_len_is (λ b. b == 0) c.args.bytes.now c.loop-i.i 0 (omega arith) (λ k h. is_not _ (c.loop-i.invariant k h)) (λ _. is _ c.if-b-eq0.true))

pub returns-clause-value : goal.returns-clause-value
returns-clause-value c =
    sym (position_or_len_is (λ b. b == 0) c.args.bytes.now (length c.args.bytes.now) 0 (omega arith)
    (λ k h. is_not _ (c.loop-i.invariant k (omega arith))) (λ h. absurd (omega arith)))
