-- What `run` prints of the end of a run.
use Rattle.std.specs.Prelude.{ℕ, List, [], ◌++◌, codes, slice_get, Option, Some, None, ℤ}
use Rattle.std.specs.Fmt.{decimal, signed_decimal}
use Rattle.cv_core.specs.declared.faults.ErrKind.{ErrKind}
use Rattle.cv_core.specs.declared.faults.ErrKind.TheVariants as err
use Rattle.cv_core.specs.declared.program.Program.{Program}
use Rattle.cv_core.specs.declared.program.Proc.{Proc}
use Rattle.cv_meaning.specs.declared.ends.RunEnd.{RunEnd}
use Rattle.cv_meaning.specs.declared.ends.RunEnd.TheVariants as end
use Rattle.cv_app.specs.Texts.{line}

abbrev pub kind_name : ErrKind → List ℕ
kind_name err.Range = codes "Range"
kind_name err.Null = codes "Null"
kind_name err.Wild = codes "Wild"
kind_name err.Dead = codes "Dead"
kind_name err.Bounds = codes "Bounds"
kind_name err.Terminator = codes "Terminator"
kind_name err.Literal = codes "Literal"
kind_name err.Modifies = codes "Modifies"
kind_name err.Requires = codes "Requires"
kind_name err.Ensures = codes "Ensures"

abbrev pub name_of : Option Proc → List ℕ
name_of None = []
name_of (Some f) = f.name

-- the name of the procedure of this number
abbrev pub proc_name : Program → ℕ → List ℕ
proc_name P i = name_of (slice_get P.procs i)

-- the line of the end of a run of so many steps
abbrev pub end_text : Program → ℕ → RunEnd → List ℕ
end_text P steps (end.Returned z) = codes "returned " ++ line (signed_decimal z)
end_text P steps (end.Error kind proc number) =
    codes "error " ++ kind_name kind ++ codes " in " ++ proc_name P proc ++ codes " at line " ++ line (decimal number)
end_text P steps end.Stopped = codes "stopped after " ++ decimal steps ++ line (codes " steps")

abbrev pub end_status : RunEnd → ℕ
end_status (end.Returned z) = 0
end_status (end.Error kind proc number) = 1
end_status end.Stopped = 8
