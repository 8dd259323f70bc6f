-- Facts that hold but for faults of reading and want of memory.
use Rattle.std.proofs.Common.{◌≡◌, ℕ, ◌⊎◌, List, Result, Ok, Err, refl, sym, subst, inl, inr}
use Rattle.cv_core.specs.declared.faults.LimitName.{LimitName}
use Rattle.cv_app.specs.declared.fault.Fault.{Fault}
use Rattle.cv_app.specs.declared.fault.Fault.TheVariants.{Usage, NotBuilt, Text, Limit, Shape, Read, Memory}
use Rattle.cv_app.specs.Faults.{refusal_of, NotRead, UnlessHindered}

-- a fact that another one gives
pub unless_then : (X : Type 0) (r : Result X Fault) (P Q : Type 0) → (P → Q) → UnlessHindered r P → UnlessHindered r Q
unless_then X (Err Read) P Q f h = tt
unless_then X (Err Memory) P Q f h = tt
unless_then X r P Q f h = f h

-- the same, after another call
pub unless_err : (X Y : Type 0) (fault : Fault) (P Q : Type 0) → (P → Q) → UnlessHindered {X = X} (Err fault) P → UnlessHindered {X = Y} (Err fault) Q
unless_err X Y Read P Q f h = tt
unless_err X Y Memory P Q f h = tt
unless_err X Y fault P Q f h = f h

-- a fault of reading, want of memory, or the fact
pub settled : (X : Type 0) (file : List ℕ) (fault : Fault) (P : Type 0) → UnlessHindered {X = X} (Err fault) P →
    (((refusal_of file fault).status ≡ 5) ⊎ ((refusal_of file fault).status ≡ 7)) ⊎ P
settled X file Read P h = inl (inl refl)
settled X file Memory P h = inl (inr refl)
settled X file fault P h = inr h

-- a device that isn't read: a fact of each fault that it may be
pub not_read_so : (which : LimitName) (TooLong : Type 0) (f f' : ℕ) (fault : Fault) (P : Fault → Type 0) → NotRead which TooLong f f' fault →
    P Read → P Memory → (TooLong → P (Limit which)) → P fault
not_read_so which TooLong f f' fault P (inl k) read memory long = subst P (sym k.0) read
not_read_so which TooLong f f' fault P (inr (inl k)) read memory long = subst P (sym k) memory
not_read_so which TooLong f f' fault P (inr (inr k)) read memory long = subst P (sym k.0) (long k.1)

-- a fact of the limit alone
pub not_read : (X : Type 0) (which : LimitName) (TooLong : Type 0) (f f' : ℕ) (fault : Fault) (P : Fault → Type 0) → NotRead which TooLong f f' fault →
    (TooLong → P (Limit which)) → UnlessHindered {X = X} (Err fault) (P fault)
not_read X which TooLong f f' fault P why long = not_read_so which TooLong f f' fault (λ e. UnlessHindered {X = X} (Err e) (P e)) why tt tt long

-- one of two reads failed, the second at its place: the facts A and B of the counts, and C of the place
pub at_its_place : {A B C : Type 0} → A ⊎ B → A ⊎ C → A ⊎ (C × B)
at_its_place (inl a) place = inl a
at_its_place (inr b) (inl a) = inl a
at_its_place (inr b) (inr c) = inr (c, b)
