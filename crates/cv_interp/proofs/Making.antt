-- The locals of a procedure, one after the other.
use Rattle.std.proofs.Common.{◌≡◌, refl, ap, ◌∙◌, ℕ, zero, suc, ◌-◌, List, [], ◌∷◌, ◌++◌, append_assoc, map, replicate, arith}
use Rattle.cv_core.specs.declared.program.Program.{Program}
use Rattle.cv_core.specs.declared.program.Local.{Local}
use Rattle.cv_core.specs.declared.program.LocalBody.TheVariants as local
use Rattle.cv_core.specs.declared.program.VarKind.TheVariants as kind
use Rattle.cv_meaning.specs.declared.memory.NamedValue.{NamedValue}
use Rattle.cv_meaning.specs.declared.memory.Value.{Value}
use Rattle.cv_meaning.specs.declared.memory.Value.TheVariants as value
use Rattle.cv_meaning.specs.declared.memory.Ptr.TheVariants.{Wild}
use Rattle.cv_meaning.specs.State.{State, make_local, make_locals, next_site}

pub more_locals : (P : Program) (site next : ℕ) (l : Local) (ls : List Local) (s t u : State) → next ≡ next_site site l.body → t ≡ make_local P site l.name l.body s → u ≡ make_locals P next ls t →
    u ≡ make_locals P site (l ∷ ls) s
more_locals P site next l ls s t u e f g = g ∙ ap (make_locals P next ls) f ∙ ap (λ n. make_locals P n ls (make_local P site l.name l.body s)) e

pub more_values : (old new : List Value) (f : NamedValue) (fs : List NamedValue) → new ≡ old ++ f.value ∷ [] → new ++ map (λ f. f.value) fs ≡ old ++ map (λ f. f.value) (f ∷ fs)
more_values old new f fs e = ap (λ vs. vs ++ map (λ (f : NamedValue). f.value) fs) e ∙ append_assoc old (f.value ∷ []) (map (λ (f : NamedValue). f.value) fs)

pub more_wild : (old new : List Value) (n : ℕ) → (n ≡ 0 → ⊥) → new ≡ old ++ value.Ptr Wild ∷ [] → new ++ replicate (n - 1) (value.Ptr Wild) ≡ old ++ replicate n (value.Ptr Wild)
more_wild old new zero h e = absurd (h refl)
more_wild old new (suc n) h e =
    let k : suc n - 1 ≡ n = omega arith in
    ap (λ vs. vs ++ replicate (suc n - 1) (value.Ptr Wild)) e ∙ ap (λ m. (old ++ value.Ptr Wild ∷ []) ++ replicate m (value.Ptr Wild)) k
    ∙ append_assoc old (value.Ptr Wild ∷ []) (replicate n (value.Ptr Wild))

-- the output is no part of what locals make
pub local_output : (P : Program) (site : ℕ) (x : _) (b : _) (s : State) (out : List ℕ) → make_local P site x b (record s { output = out }) ≡ record (make_local P site x b s) { output = out }
local_output P site x (local.Var kind.Int) s out = refl
local_output P site x (local.Var kind.Char) s out = refl
local_output P site x (local.Var kind.Ptr) s out = refl
local_output P site x (local.Var kind.Pptr) s out = refl
local_output P site x (local.Var kind.Iptr) s out = refl
local_output P site x (local.Buffer n) s out = refl
local_output P site x local.PointerCell s out = refl
local_output P site x local.IntCell s out = refl

pub locals_output : (P : Program) (site : ℕ) (ls : List Local) (s : State) (out : List ℕ) → make_locals P site ls (record s { output = out }) ≡ record (make_locals P site ls s) { output = out }
locals_output P site [] s out = refl
locals_output P site (l ∷ ls) s out =
    ap (make_locals P (next_site site l.body) ls) (local_output P site l.name l.body s out) ∙ locals_output P (next_site site l.body) ls (make_local P site l.name l.body s) out
