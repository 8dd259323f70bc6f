-- Whether a program asks for input.
use Rattle.std.specs.Prelude.{Bool}
use Rattle.std.specs.List.{list_any}
use Rattle.cv_core.specs.Names.{is_getchar, stmts_of}
use Rattle.cv_core.specs.declared.program.Program.{Program}

-- some statement calls getchar
abbrev pub reads_input : Program → Bool
reads_input P = list_any (λ f. list_any (λ s. is_getchar s.form) (stmts_of f.body)) P.procs
