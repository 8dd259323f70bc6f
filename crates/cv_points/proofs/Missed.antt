-- A rule over words against the rule over whole places, for a family that a word can count.
use Rattle.std.proofs.Common.{refl, ℕ, ◌≡◌, ◌<◌, ◌≤◌, ◌-◌, ◌^◌, [], length, subst, sym, ap, ◌∙◌, arith, inl, inr}
use Rattle.std.specs.List.{Contains}
use Rattle.std.proofs.lemmas.List.{get_or_past}
use Rattle.std.proofs.lemmas.Bool.{cases_lt}
use Rattle.cv_core.specs.declared.program.Program.{Program}
use Rattle.cv_points.specs.Closed.{Family, Holds, IsSubset, set_at}
use Rattle.cv_points.specs.Missing.{IsLacking, IsMissing, LacksRead, LacksWritten, ReadsHold, WritesHold}
use Rattle.cv_points.specs.Walks.{word, word_rule}
use Rattle.cv_points.specs.declared.rules.Rule.{Rule}
use Rattle.cv_points.specs.declared.rules.Rule.TheVariants as rule

word-small : (k : ℕ) → k < 2 ^ 64 - 1 → word k ≡ k
word-small k h = omega arith

word-great : (k : ℕ) → 2 ^ 64 - 1 ≤ k → word k ≡ 2 ^ 64 - 1
word-great k h = omega arith

set-word : (S : Family) (k : ℕ) → length S < 2 ^ 64 → set_at S (word k) ≡ set_at S k
set-word S k h = elim (cases_lt k (2 ^ 64 - 1)) [
  | inl lt ↦ ap (λ n. set_at S n) (word-small k lt)
  | inr le ↦ ap (λ n. set_at S n) (word-great k le) ∙ get_or_past S (2 ^ 64 - 1) [] (omega arith) ∙ sym (get_or_past S k [] (omega arith))
]

down : (S : Family) (n k : ℕ) → length S < 2 ^ 64 → n ≡ word k → IsSubset (set_at S n) (set_at S k)
down S n k h e s = subst (λ xs. Contains xs s) (ap (λ m. set_at S m) e ∙ set-word S k h)

up : (S : Family) (n k : ℕ) → length S < 2 ^ 64 → n ≡ word k → IsSubset (set_at S k) (set_at S n)
up S n k h e s = subst (λ xs. Contains xs s) (sym (ap (λ m. set_at S m) e ∙ set-word S k h))

small_site : (site s : ℕ) → site < 2 ^ 32 → site ≡ word s → site ≡ s
small_site site s h e = omega arith

small_word : (site s : ℕ) → s < 2 ^ 32 → site ≡ word s → s ≡ site
small_word site s h e = omega arith

-- ---- a site in a set

pub has_holds : (P : Program) (S : Family) (to site : ℕ) (r : Rule) → length S < 2 ^ 64 → rule.Has to site ≡ word_rule r →
    ((s : ℕ) → Contains (set_at S to) s → s < 2 ^ 32) → Contains (set_at S to) site → Holds P S r
has_holds P S to site (rule.Has t s) len e small h =
    let f : to ≡ word t = cc in
    let g : site ≡ word s = cc in
    subst (λ x. Contains (set_at S t) x) (small_site site s (small site h) g) (down S to t len f site h)
has_holds P S to site (rule.Includes f t) len e small h = absurd (cc)
has_holds P S to site (rule.Reads w t) len e small h = absurd (cc)
has_holds P S to site (rule.Writes f w) len e small h = absurd (cc)

pub has_missing : (P : Program) (S : Family) (to site : ℕ) (r : Rule) → length S < 2 ^ 64 → rule.Has to site ≡ word_rule r →
    ((s : ℕ) → Contains (set_at S to) s → s < 2 ^ 32) → (Contains (set_at S to) site → ⊥) → IsMissing P S r to site
has_missing P S to site (rule.Has t s) len e small lacking =
    let f : to ≡ word t = cc in
    let g : site ≡ word s = cc in
    record {
      absent = lacking;
      fails = λ h. let u = up S to t len f s h in lacking (subst (λ x. Contains (set_at S to) x) (small_word site s (small s u) g) u);
      asked = λ R fits long within h. subst (λ x. Contains (set_at R to) x) (sym (small_site site s fits g)) (up R to t long f s h);
    }
has_missing P S to site (rule.Includes f t) len e small lacking = absurd (cc)
has_missing P S to site (rule.Reads w t) len e small lacking = absurd (cc)
has_missing P S to site (rule.Writes f w) len e small lacking = absurd (cc)

-- ---- a set within another

pub includes_holds : (P : Program) (S : Family) (from to : ℕ) (r : Rule) → length S < 2 ^ 64 → rule.Includes from to ≡ word_rule r →
    IsSubset (set_at S from) (set_at S to) → Holds P S r
includes_holds P S from to (rule.Has t s) len e h = absurd (cc)
includes_holds P S from to (rule.Includes f t) len e h =
    let a : from ≡ word f = cc in
    let b : to ≡ word t = cc in
    λ s there. down S to t len b s (h s (up S from f len a s there))
includes_holds P S from to (rule.Reads w t) len e h = absurd (cc)
includes_holds P S from to (rule.Writes f w) len e h = absurd (cc)

pub includes_missing : (P : Program) (S : Family) (from to into site : ℕ) (r : Rule) → length S < 2 ^ 64 → rule.Includes from to ≡ word_rule r →
    into ≡ to → IsLacking S from to site → IsMissing P S r into site
includes_missing P S from to into site (rule.Has t s) len e same h = absurd (cc)
includes_missing P S from to into site (rule.Includes f t) len e same h =
    let a : from ≡ word f = cc in
    let b : into ≡ word t = cc in
    let lacking : Contains (set_at S into) site → ⊥ = subst (λ n. Contains (set_at S n) site → ⊥) (sym same) h.absent in
    record {
      absent = lacking;
      fails = λ k. lacking (up S into t len b site (k site (down S from f len a site h.there)));
      asked = λ R fits long within k. up R into t long b site (k site (down R from f long a site (within from site h.there)));
    }
includes_missing P S from to into site (rule.Reads w t) len e same h = absurd (cc)
includes_missing P S from to into site (rule.Writes f w) len e same h = absurd (cc)

-- ---- get

pub reads_hold : (P : Program) (S : Family) (from to : ℕ) (r : Rule) → length S < 2 ^ 64 → rule.Reads from to ≡ word_rule r → ReadsHold P S from to → Holds P S r
reads_hold P S from to (rule.Has t s) len e h = absurd (cc)
reads_hold P S from to (rule.Includes f t) len e h = absurd (cc)
reads_hold P S from to (rule.Reads w t) len e h =
    let a : from ≡ word w = cc in
    let b : to ≡ word t = cc in
    λ s cell points is u there. down S to t len b u (h s (up S from w len a s points) cell is u (up S (word cell) cell len refl u there))
reads_hold P S from to (rule.Writes f w) len e h = absurd (cc)

pub reads_missing : (P : Program) (S : Family) (from to into site : ℕ) (r : Rule) → length S < 2 ^ 64 → rule.Reads from to ≡ word_rule r →
    into ≡ to → LacksRead P S from to site → IsMissing P S r into site
reads_missing P S from to into site (rule.Has t s) len e same h = absurd (cc)
reads_missing P S from to into site (rule.Includes f t) len e same h = absurd (cc)
reads_missing P S from to into site (rule.Reads w t) len e same h =
    let a : from ≡ word w = cc in
    let b : into ≡ word t = cc in
    let cell = h.lacks.cell in
    let lacking : Contains (set_at S into) site → ⊥ = subst (λ n. Contains (set_at S n) site → ⊥) (sym same) h.lacks.lacks.absent in
    record {
      absent = lacking;
      fails = λ k. lacking (up S into t len b site (k h.pointed cell (down S from w len a h.pointed h.points) h.lacks.is_cell site (down S (word cell) cell len refl site h.lacks.lacks.there)));
      asked = λ R fits long within k. up R into t long b site
          (k h.pointed cell (down R from w long a h.pointed (within from h.pointed h.points)) h.lacks.is_cell site (down R (word cell) cell long refl site (within (word cell) site h.lacks.lacks.there)));
    }
reads_missing P S from to into site (rule.Writes f w) len e same h = absurd (cc)

-- ---- put

pub writes_hold : (P : Program) (S : Family) (from to : ℕ) (r : Rule) → length S < 2 ^ 64 → rule.Writes from to ≡ word_rule r → WritesHold P S from to → Holds P S r
writes_hold P S from to (rule.Has t s) len e h = absurd (cc)
writes_hold P S from to (rule.Includes f t) len e h = absurd (cc)
writes_hold P S from to (rule.Reads w t) len e h = absurd (cc)
writes_hold P S from to (rule.Writes f w) len e h =
    let a : from ≡ word f = cc in
    let b : to ≡ word w = cc in
    λ s cell points is u there. down S (word cell) cell len refl u (h s (up S to w len b s points) cell is u (up S from f len a u there))

pub writes_missing : (P : Program) (S : Family) (from to into site : ℕ) (r : Rule) → length S < 2 ^ 64 → rule.Writes from to ≡ word_rule r →
    LacksWritten P S from to into site → IsMissing P S r into site
writes_missing P S from to into site (rule.Has t s) len e h = absurd (cc)
writes_missing P S from to into site (rule.Includes f t) len e h = absurd (cc)
writes_missing P S from to into site (rule.Reads w t) len e h = absurd (cc)
writes_missing P S from to into site (rule.Writes f w) len e h =
    let a : from ≡ word f = cc in
    let b : to ≡ word w = cc in
    let cell = h.lacks.cell in
    record {
      absent = h.lacks.lacks.absent;
      fails = λ k. h.lacks.lacks.absent (up S into cell len h.lacks.place site (k h.pointed cell (down S to w len b h.pointed h.points) h.lacks.is_cell site (down S from f len a site h.lacks.lacks.there)));
      asked = λ R fits long within k. up R into cell long h.lacks.place site
          (k h.pointed cell (down R to w long b h.pointed (within to h.pointed h.points)) h.lacks.is_cell site (down R from f long a site (within from site h.lacks.lacks.there)));
    }
