-- The words that main is given.
use Rattle.std.specs.Prelude.{ℕ, Bool, nat_le, List, [], ◌∷◌, length, Option, Some, None, if◌then◌else◌}
use Rattle.std.specs.Option.{option_map, option_and_then}
use Rattle.cv_core.specs.declared.program.Formal.{Formal}
use Rattle.cv_core.specs.declared.program.VarKind.{VarKind}
use Rattle.cv_core.specs.declared.program.VarKind.TheVariants as kind
use Rattle.cv_meaning.specs.declared.ends.Arg.{Arg}
use Rattle.cv_meaning.specs.declared.ends.Arg.TheVariants as arg
use Rattle.cv_app.specs.Numbers.{int_of}

-- what a word is for a formal of a kind: an int, or the bytes of a buffer
abbrev pub arg_of : VarKind → List ℕ → Option Arg
arg_of kind.Int word = option_map (λ z. arg.Int z) (int_of word)
arg_of kind.Ptr word = if nat_le (length word) 1048576 then Some (arg.Text word) else None
arg_of k word = None

-- one word for each formal
abbrev pub args_of : List Formal → List (List ℕ) → Option (List Arg)
args_of [] [] = Some []
args_of [] (word ∷ words) = None
args_of (f ∷ fs) [] = None
args_of (f ∷ fs) (word ∷ words) = option_and_then (λ a. option_map (λ more. a ∷ more) (args_of fs words)) (arg_of f.kind word)
