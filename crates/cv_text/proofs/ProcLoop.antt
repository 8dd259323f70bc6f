-- The loop over the procedures of a program.
use Rattle.std.proofs.Common.{◌≡◌, ℕ, ◌<◌, List, [], ◌∷◌, ◌++◌, length, Option, Some, None, Ok, refl}
use Rattle.cv_core.specs.declared.program.Proc.{Proc}
use Rattle.cv_reading.specs.Deep.{next_by}
use Rattle.cv_text.specs.declared.nesting.NestedError.{NestedError}
use Rattle.cv_text.specs.Tokens.{Line}
use Rattle.cv_text.specs.Nested.{FailsNested}
use Rattle.cv_text.specs.Levels.{contract_within, most_levels}
use Rattle.cv_text.specs.ContractReader.{contract}
use Rattle.cv_text.specs.ProgramReader.{line_of, proc_rest, procs_onto}
use Rattle.cv_text.proofs.ContractLists.{contract_bars, reads_contract}
use Rattle.cv_text.proofs.ProgramLaws.{procs_end, procs_go, procs_fail, procs_shrink}

pub ends : (before : List Proc) (ts : Line) → next_by line_of ts ≡ None → procs_onto contract before ts ≡ Ok (Some before, ts)
ends before ts e = procs_end contract (contract_within most_levels) contract_bars reads_contract refl refl before ts e

pub goes : (before : List Proc) (ts : Line) (line : ℕ) (behind : Line) (f : Proc) (after : Line) → next_by line_of ts ≡ Some (line, behind) → proc_rest contract line behind ≡ Ok (Some f, after) → procs_onto contract before ts ≡ procs_onto contract (before ++ f ∷ []) after
goes before ts line behind f after e k = procs_go contract (contract_within most_levels) contract_bars reads_contract refl refl before ts line behind f after e k

pub fails : (text : List ℕ) (e : NestedError) (before : List Proc) (ts : Line) (line : ℕ) (behind : Line) → next_by line_of ts ≡ Some (line, behind) → FailsNested text e (proc_rest contract line behind) → FailsNested text e (procs_onto contract before ts)
fails text e before ts line behind k h = procs_fail contract (contract_within most_levels) contract_bars reads_contract refl refl text e before ts line behind k h

pub shrinks : (ts : Line) (line : ℕ) (behind : Line) (f : Proc) (after : Line) → next_by line_of ts ≡ Some (line, behind) → proc_rest contract line behind ≡ Ok (Some f, after) → length after < length ts
shrinks ts line behind f after e k = procs_shrink contract (contract_within most_levels) contract_bars reads_contract refl refl ts line behind f after e k
