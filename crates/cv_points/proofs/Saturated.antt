-- Some of the rules, and then passes over all until nothing is new.
use Rattle.std.proofs.Common.{◌^◌, ℕ, ◌≡◌, ◌<◌, ◌≤◌, ◌-◌, ◌*◌, Bool, true, false, List, length, subst, sym, ◌∙◌, arith}
use Rattle.std.specs.List.{Contains}
use Rattle.std.specs.Bool.{MatchBool}
use Rattle.cv_core.specs.declared.program.Program.{Program}
use Rattle.cv_points.specs.Closed.{Family, Holds, IsWithin}
use Rattle.cv_points.specs.Growing.{AreRules, ArePlaces, Flows, Grows, IsSaturated, IsTable, Keeps, KeepsAll, Places, total}
use Rattle.cv_points.specs.Holders.{holders}
use Rattle.cv_points.specs.Least.{IsAscending, IsEmptyFamily, IsLeast}
use Rattle.cv_points.specs.declared.rules.Rule.{Rule}
use Rattle.cv_points.specs.declared.rules.Rule.TheVariants as rule
use Rattle.cv_points.proofs.Grown.{total_limit}

pub flows_not : (cells : Places) (rules : List Rule) (S : Family) → Flows cells rules S S
flows_not cells rules S = record { table = λ count t. t; within = λ R w k. w }

pub flows_then : (cells : Places) (rules : List Rule) (S T U : Family) → Flows cells rules S T → Flows cells rules T U → Flows cells rules S U
flows_then cells rules S T U f g = record {
  table = λ count t. g.table count (f.table count t);
  within = λ R w k. g.within R (f.within R w k) k;
}

-- one rule of the list
pub flows_once : (cells : Places) (rules : List Rule) (S T : Family) (more : Bool) (r : Rule) → Contains rules r → Grows S T more (λ R. Keeps cells R r) → Flows cells rules S T
flows_once cells rules S T more r c g = record { table = g.table; within = λ R w k. g.within R w (k r c) }

-- all of them
flows_all : (cells : Places) (rules : List Rule) (S T : Family) (more : Bool) → Grows S T more (λ R. KeepsAll cells rules R) → Flows cells rules S T
flows_all cells rules S T more g = record { table = g.table; within = g.within }

-- ---- passes

pub record IsOnTheWay (cells : Places) (rules : List Rule) (S T : Family) : Type 0 where
  pub here : IsTable (length T) T
  pub flows : Flows cells rules S T

grown_here : (T U : Family) (more : Bool) (Q : Family → Type 0) → Grows T U more Q → IsTable (length T) T → IsTable (length U) U
grown_here T U more Q g t = let k = g.table (length T) t in subst (λ n. IsTable n U) (sym k.long) k

pub way_from : (cells : Places) (rules : List Rule) (S T : Family) → IsTable (length S) S → Flows cells rules S T → IsOnTheWay cells rules S T
way_from cells rules S T t f = record { here = (let k = f.table (length S) t in subst (λ n. IsTable n T) (sym k.long) k); flows = f }

pub way_goes_on : (cells : Places) (rules : List Rule) (S T U : Family) (more : Bool) → IsOnTheWay cells rules S T → Grows T U more (λ R. KeepsAll cells rules R) → IsOnTheWay cells rules S U
way_goes_on cells rules S T U more w g = record {
  here = grown_here T U more (λ R. KeepsAll cells rules R) g w.here;
  flows = flows_then cells rules S T U w.flows (flows_all cells rules T U more g);
}

limit_of : (T : Family) → IsTable (length T) T → total T ≤ length T * 2 ^ 32
limit_of T t = total_limit T t.ascending t.small

rises : (T U : Family) (more : Bool) (Q : Family → Type 0) → more ≡ true → MatchBool more (total T < total U) ((U ≡ T) × Q U) → total T < total U
rises T U true Q e h = h
rises T U false Q e h = absurd (cc)

pub way_ends : (cells : Places) (rules : List Rule) (S T U : Family) (more : Bool) → more ≡ true → IsOnTheWay cells rules S T → Grows T U more (λ R. KeepsAll cells rules R) →
    length U * 2 ^ 32 - total U < length T * 2 ^ 32 - total T
way_ends cells rules S T U more e w g =
    let up = rises T U more (λ R. KeepsAll cells rules R) e g.change in
    let after = grown_here T U more (λ R. KeepsAll cells rules R) g w.here in
    let same : length U ≡ length T = (g.table (length T) w.here).long in
    let top = limit_of U after in
    omega arith

still : (T U : Family) (more : Bool) (Q : Family → Type 0) → more ≡ false → MatchBool more (total T < total U) ((U ≡ T) × Q U) → Q U
still T U true Q e h = absurd (cc)
still T U false Q e h = h.1

pub way_is_over : (cells : Places) (rules : List Rule) (S T U : Family) (more : Bool) → more ≡ false → IsOnTheWay cells rules S T → Grows T U more (λ R. KeepsAll cells rules R) → IsSaturated cells rules S U
way_is_over cells rules S T U more e w g =
    let over = flows_then cells rules S T U w.flows (flows_all cells rules T U more g) in
    record { table = over.table; keeps = still T U more (λ R. KeepsAll cells rules R) e g.change; within = over.within }

-- ---- the least family

empty_table : (count : ℕ) (S : Family) → IsEmptyFamily count S → IsTable count S
empty_table count S e = record {
  long = e.long;
  ascending = λ h. subst IsAscending (sym (e.empty h)) tt;
  small = λ h s c. absurd (let (k, lt, f) = subst (λ xs. Contains xs s) (e.empty h) c in omega arith);
}

pub empty_here : (count : ℕ) (S : Family) → IsEmptyFamily count S → IsTable (length S) S
empty_here count S e = subst (λ n. IsTable n S) (sym e.long) (empty_table count S e)

holds_of : (P : Program) (cells : Places) (S : Family) (r : Rule) → ArePlaces P cells → Keeps cells S r → Holds P S r
holds_of P cells S (rule.Has to s) a k = k
holds_of P cells S (rule.Includes from to) a k = k
holds_of P cells S (rule.Reads w to) a k = λ s cell c e. k s c cell (a s ∙ e)
holds_of P cells S (rule.Writes from w) a k = λ s cell c e. k s c cell (a s ∙ e)

keeps_of : (P : Program) (cells : Places) (S : Family) (r : Rule) → ArePlaces P cells → Holds P S r → Keeps cells S r
keeps_of P cells S (rule.Has to s) a k = k
keeps_of P cells S (rule.Includes from to) a k = k
keeps_of P cells S (rule.Reads w to) a k = λ s c cell e. k s cell c (sym (a s) ∙ e)
keeps_of P cells S (rule.Writes from w) a k = λ s c cell e. k s cell c (sym (a s) ∙ e)

empty_within : (count : ℕ) (S R : Family) → IsEmptyFamily count S → IsWithin S R
empty_within count S R e h s c = absurd (let (k, lt, f) = subst (λ xs. Contains xs s) (e.empty h) c in omega arith)

pub saturated_least : (P : Program) (count : ℕ) (cells : Places) (rules : List Rule) (S T : Family) → count ≡ holders P → ArePlaces P cells → AreRules P rules → IsEmptyFamily count S →
    IsSaturated cells rules S T → IsLeast P T
saturated_least P count cells rules S T e a r none t =
    let table = t.table count (empty_table count S none) in
    record {
      long = table.long ∙ e;
      ascending = table.ascending;
      closed = r.closed T (λ x c. holds_of P cells T x a (t.keeps x c));
      least = λ R long closed. t.within R (empty_within count S R none) (λ x c. keeps_of P cells R x a (r.enough R closed x c));
    }
