-- A machine is good by its parts.
use Rattle.std.proofs.Common.{◌≡◌, sym, subst, List, None}
use Rattle.std.specs.Prelude.{All}
use Rattle.cv_core.specs.Grammar.{IsWritten}
use Rattle.cv_core.specs.Limits.{first_limit}
use Rattle.cv_core.specs.WellFormed.{IsSoundProgram}
use Rattle.cv_core.specs.declared.program.Program.{Program}
use Rattle.cv_interp.specs.declared.machine.Core.{Core}
use Rattle.cv_interp.specs.declared.store.Activation.{Activation}
use Rattle.cv_interp.specs.declared.store.Waiting.{Waiting}
use Rattle.cv_interp.specs.Entered.{IsRoom}
use Rattle.cv_interp.specs.Good.{IsActive, IsGood, IsWaiting}
use Rattle.cv_interp.specs.Seen.{frame, state}
use Rattle.cv_interp.specs.Sound.{IsState}

pub record IsFine (P : Program) : Type 0 where
  pub program : IsSoundProgram P
  pub limits : first_limit P ≡ None
  pub written : IsWritten P

pub fine_of : (c : Core) → IsGood c → IsFine c.program.now
fine_of c good = record { program = good.program; limits = good.limits; written = good.written }

pub good_of : (d : Core) (P : Program) (a : Activation) (ws : List Waiting) → d.program.now ≡ P → d.running ≡ a → d.waiting.items ≡ ws → IsFine P → IsActive P a → IsRoom a.proc.now d.store.room →
    IsState P (frame a) (state a.proc.now d.store) → All (IsWaiting P d.store.room.memory) ws → IsGood d
good_of d P a ws p r w fine active room state waiting = record {
  program = subst IsSoundProgram (sym p) fine.program;
  limits = rw p fine.limits;
  written = subst (λ (q : Program). IsWritten q) (sym p) fine.written;
  active = rw (p, r) active;
  room = rw r room;
  state = rw (p, r) state;
  waiting = rw (p, w) waiting;
}
