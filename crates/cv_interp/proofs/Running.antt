-- Many steps.
use Rattle.std.proofs.Common.{◌≡◌, refl, sym, ap, ◌∙◌, ℕ, ◌+◌, ◌-◌, ◌<◌, Option, Some, None, Ok, Err, Result, arith}
use Rattle.std.specs.Prelude.{IfOk, OnOk}
use Rattle.cv_meaning.specs.declared.ends.RunEnd.{RunEnd}
use Rattle.cv_meaning.specs.declared.ends.RunEnd.TheVariants as how
use Rattle.cv_interp.specs.declared.machine.Ended.{Ended}
use Rattle.cv_interp.specs.declared.machine.Ended.TheVariants as ended
use Rattle.cv_interp.specs.declared.machine.Turn.{Turn}
use Rattle.cv_interp.specs.declared.machine.Turn.TheVariants as answers
use Rattle.cv_interp.specs.Good.{Leads, ended_how}
use Rattle.cv_interp.specs.Level.{Stack}
use Rattle.cv_interp.specs.Machine.{Outcome, end, turn_of}
use Rattle.cv_interp.proofs.Leads.{end_error, end_returned, end_same, end_zero}

-- how a machine that has ended, has ended
pub how_ended : (m : Stack) (e : Ended) (n : ℕ) → m.ended ≡ Some e → (end m n).how ≡ ended_how e
how_ended m (ended.Error kind proc line) n h = ap (λ (o : Outcome). o.how) (end_error m n kind proc line h)
how_ended m (ended.Returned z) n h = ap (λ (o : Outcome). o.how) (end_returned m n z h)

-- a machine that is not at its end now, stands
pub how_now : (m : Stack) → m.ended ≡ None → (end m 0).how ≡ how.Stopped
how_now m h = ap (λ (o : Outcome). o.how) (end_zero m h)

same_by : (m : Stack) (o : Option Ended) (k : ℕ) → m.ended ≡ o → ((end m 0).how ≡ how.Stopped → ⊥) → end m k ≡ end m 0
same_by m None k h other = absurd (other (how_now m h))
same_by m (Some e) k h other = end_same m e k 0 h

-- an end that is no stop stays
pub stays : (m : Stack) (k : ℕ) → ((end m 0).how ≡ how.Stopped → ⊥) → end m k ≡ end m 0
stays m k other = same_by m m.ended k refl other

-- ---- the answer of a step, as the end

pub error_now : (e : RunEnd) (kind : _) (proc line : ℕ) → answers.Error kind proc line ≡ turn_of e → e ≡ how.Error kind proc line
error_now how.Stopped kind proc line h = absurd (cc)
error_now (how.Error k p l) kind proc line h = cc
error_now (how.Returned z) kind proc line h = absurd (cc)

pub returned_now : (e : RunEnd) (z : _) → answers.Returned z ≡ turn_of e → e ≡ how.Returned z
returned_now how.Stopped z h = absurd (cc)
returned_now (how.Error k p l) z h = absurd (cc)
returned_now (how.Returned y) z h = cc

pub on_now : (e : RunEnd) → answers.On ≡ turn_of e → e ≡ how.Stopped
on_now how.Stopped h = refl
on_now (how.Error k p l) h = absurd (cc)
on_now (how.Returned y) h = absurd (cc)

-- ---- the run of `steps` steps, of which i and one more were taken, from a to b and on to d

pub other_error : (e : RunEnd) (kind : _) (proc line : ℕ) → e ≡ how.Error kind proc line → e ≡ how.Stopped → ⊥
other_error e kind proc line h k = cc

pub other_returned : (e : RunEnd) (z : _) → e ≡ how.Returned z → e ≡ how.Stopped → ⊥
other_returned e z h k = cc

-- where the step ended the machine, the run ends so
pub ends_at : (a b d : Stack) (i steps : ℕ) (e : RunEnd) → i < steps → ((n : ℕ) → end b n ≡ end a (i + n)) → ((n : ℕ) → end d n ≡ end b (1 + n)) → (end b 1).how ≡ e → (e ≡ how.Stopped → ⊥) →
    (end a steps).how ≡ e
ends_at a b d i steps e lt before step is other =
    let split : i + (1 + (steps - i - 1)) ≡ steps = omega arith in
    let now : end d 0 ≡ end b 1 = step 0 in
    let whole : end d (steps - i - 1) ≡ end a steps = step (steps - i - 1) ∙ before (1 + (steps - i - 1)) ∙ ap (end a) split in
    let same : end d (steps - i - 1) ≡ end d 0 = stays d (steps - i - 1) (λ s. other (sym is ∙ ap (λ (o : Outcome). o.how) (sym now) ∙ s)) in
    ap (λ (o : Outcome). o.how) (sym whole ∙ same ∙ now) ∙ is

-- and stands so
pub stands_at : (a b d : Stack) (i steps n : ℕ) (e : RunEnd) → i < steps → ((n : ℕ) → end b n ≡ end a (i + n)) → ((n : ℕ) → end d n ≡ end b (1 + n)) → (end b 1).how ≡ e →
    (e ≡ how.Stopped → ⊥) → end d n ≡ end a (steps + n)
stands_at a b d i steps n e lt before step is other =
    let split : i + (1 + (steps + n - i - 1)) ≡ steps + n = omega arith in
    let now : end d 0 ≡ end b 1 = step 0 in
    let not_stopped : (end d 0).how ≡ how.Stopped → ⊥ = λ s. other (sym is ∙ ap (λ (o : Outcome). o.how) (sym now) ∙ s) in
    stays d n not_stopped ∙ sym (stays d (steps + n - i - 1) not_stopped) ∙ step (steps + n - i - 1) ∙ before (1 + (steps + n - i - 1)) ∙ ap (end a) split

-- one more step that goes on
pub more_steps : (a b d : Stack) (i n : ℕ) → ((n : ℕ) → end b n ≡ end a (i + n)) → ((n : ℕ) → end d n ≡ end b (1 + n)) → end d n ≡ end a (i + 1 + n)
more_steps a b d i n before step = let sum : i + (1 + n) ≡ i + 1 + n = omega arith in step n ∙ before (1 + n) ∙ ap (end a) sum

-- ---- the output, and the clauses of a step

output_by : (m : Stack) (o : Option Ended) → m.ended ≡ o → m.output ≡ (end m 0).output
output_by m None h = sym (ap (λ (o : Outcome). o.output) (end_zero m h))
output_by m (Some (ended.Error kind proc line)) h = sym (ap (λ (o : Outcome). o.output) (end_error m 0 kind proc line h))
output_by m (Some (ended.Returned z)) h = sym (ap (λ (o : Outcome). o.output) (end_returned m 0 z h))

pub output_now : (m : Stack) → m.output ≡ (end m 0).output
output_now m = output_by m m.ended refl

pub leads_turn : {E : Type 0} (r : Result Turn E) (m n : Stack) → IfOk r (λ t. Leads m t n) → IfOk r (λ t. t ≡ turn_of (end m 1).how)
leads_turn (Ok t) m n h = h.turn
leads_turn (Err e) m n h = h

pub leads_stands : {E : Type 0} (r : Result Turn E) (m n : Stack) → IfOk r (λ t. Leads m t n) → OnOk r ((k : ℕ) → end n k ≡ end m (1 + k))
leads_stands (Ok t) m n h = h.stands
leads_stands (Err e) m n h = h

-- a machine that has ended is led to itself
pub ended_leads : (m : Stack) (e : Ended) → m.ended ≡ Some e → Leads m (turn_of (ended_how e)) m
ended_leads m e h = record { turn = sym (ap turn_of (how_ended m e 1 h)); stands = λ k. end_same m e k (1 + k) h }
