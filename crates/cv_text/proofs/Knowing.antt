-- What a table of declared names knows, name by name.
use Rattle.cv_core.specs.Names.{is_pointer_kind}
use Rattle.std.proofs.Common.{◌≡◌, ℕ, Bool, true, false, cond, if◌then◌else◌, List, [], ◌∷◌, ◌++◌, Option, Some, None, is_some, refl, sym, ap, subst, ◌∙◌, ◌⊎◌, inl, inr}
use mathlib.Core.Path.{fun_ext}
use Rattle.std.specs.Option.{unwrap_or}
use Rattle.std.specs.Str.{bytes_eq}
use Rattle.std.specs.Map.{update}
use Rattle.cv_core.specs.declared.program.Formal.{Formal}
use Rattle.cv_core.specs.declared.program.VarKind.{VarKind}
use Rattle.cv_text.specs.declared.names.Scope.{Scope}
use Rattle.cv_text.specs.Grammar.{is_pointer}
use Rattle.cv_text.specs.Known.{entry, points, or_else, said, first_said}
use Rattle.cv_text.proofs.Singles.{same_bytes, bytes_same}

pub or_else_assoc : {A : Type 0} (a b c : Option A) → or_else (or_else a b) c ≡ or_else a (or_else b c)
or_else_assoc (Some x) b c = refl
or_else_assoc None b c = refl

pub or_else_none : {A : Type 0} (a : Option A) → or_else a None ≡ a
or_else_none (Some x) = refl
or_else_none None = refl

none_by : {A : Type 0} (o : Option A) → is_some o ≡ false → o ≡ None
none_by None h = refl
none_by (Some a) h = absurd cc

-- a first declaration, or nothing more than is known
pub declares : (old new : List ℕ → Option Bool) (name : List ℕ) (kind : VarKind) (pointer : Bool) → pointer ≡ is_pointer_kind kind → is_some (old name) ≡ false → ((x : List ℕ) → new x ≡ update bytes_eq old name (Some pointer) x) → (x : List ℕ) → new x ≡ or_else (old x) (said name kind x)
declares old new name kind pointer same absent changed x = changed x ∙ ap (λ (b : Bool). update bytes_eq old name (Some b) x) same ∙ by_test (bytes_eq name x) refl
  where
    at_name : bytes_eq name x ≡ true → old x ≡ None
    at_name h = ap old (sym (bytes_same name x h)) ∙ none_by (old name) absent

    by_test : (b : Bool) → bytes_eq name x ≡ b → cond b (Some (is_pointer_kind kind)) (old x) ≡ or_else (old x) (if b then Some (is_pointer_kind kind) else None)
    by_test true h = rw (at_name h) refl
    by_test false h = sym (or_else_none (old x))

pub first_is : (vs : List Formal) (x : List ℕ) → unwrap_or (first_said vs x) false ≡ is_pointer vs x
first_is [] x = refl
first_is (v ∷ vs) x = by_test (bytes_eq v.name x) (first_is vs x)
  where
    by_test : (b : Bool) → unwrap_or (first_said vs x) false ≡ is_pointer vs x → unwrap_or (or_else (if b then Some (is_pointer_kind v.kind) else None) (first_said vs x)) false ≡ (if b then is_pointer_kind v.kind else is_pointer vs x)
    by_test true below = refl
    by_test false below = below

pub first_of_both : (vs us : List Formal) (x : List ℕ) → first_said (vs ++ us) x ≡ or_else (first_said vs x) (first_said us x)
first_of_both [] us x = refl
first_of_both (v ∷ vs) us x = ap (λ (o : Option Bool). or_else (said v.name v.kind x) o) (first_of_both vs us x) ∙ sym (or_else_assoc (said v.name v.kind x) (first_said vs x) (first_said us x))

pub knows_all : (s : Scope) (vs us : List Formal) (e0 e1 : List ℕ → Option Bool) → ((x : List ℕ) → e0 x ≡ None) → ((x : List ℕ) → e1 x ≡ or_else (e0 x) (first_said vs x)) → ((x : List ℕ) → entry s x ≡ or_else (e1 x) (first_said us x)) → points s ≡ is_pointer (vs ++ us)
knows_all s vs us e0 e1 none one two = fun_ext (λ x. ap (λ (o : Option Bool). unwrap_or o false) (two x ∙ ap (λ (o : Option Bool). or_else o (first_said us x)) (one x ∙ ap (λ (o : Option Bool). or_else o (first_said vs x)) (none x)) ∙ sym (first_of_both vs us x)) ∙ first_is (vs ++ us) x)

-- one step of a loop over declarations
pub step_on : (e0 e1 e2 : List ℕ → Option Bool) (left all rest : List Formal) (name : List ℕ) (kind : VarKind) (x : List ℕ) → or_else (e1 x) (or_else (said name kind x) (first_said rest x)) ≡ or_else (e0 x) (first_said all x) → e2 x ≡ or_else (e1 x) (said name kind x) → or_else (e2 x) (first_said rest x) ≡ or_else (e0 x) (first_said all x)
step_on e0 e1 e2 left all rest name kind x h e = ap (λ (o : Option Bool). or_else o (first_said rest x)) e ∙ or_else_assoc (e1 x) (said name kind x) (first_said rest x) ∙ h
