-- The commands of the program, as its words spell them.
use Rattle.std.specs.Prelude.{ℕ, List, [], ◌∷◌, Option, Some, None, codes, if◌then◌else◌, map, Vec}
use Rattle.std.specs.declared.alloc.Global.{Global}
use Rattle.std.specs.Str.{bytes_eq}
use Rattle.cv_app.specs.Numbers.{steps_of}

pub data Command : Type 0 where
  -- check FILE CERT
  Check : List ℕ → List ℕ → Command
  -- core FILE
  Core : List ℕ → Command
  -- run FILE STEPS ARG.., with the bytes of standard input, where they are told
  Run : List ℕ → ℕ → List (List ℕ) → Option (List ℕ) → Command
  -- words of no command
  Unknown : Command

-- to run a file for so many steps, where the word for them writes a number
abbrev pub run_command : Option (List ℕ) → List ℕ → Option ℕ → List (List ℕ) → Command
run_command input file None args = Unknown
run_command input file (Some steps) args = Run file steps args input

abbrev pub run_by : Option (List ℕ) → List ℕ → List ℕ → List ℕ → List (List ℕ) → Command
run_by input name file steps args = if bytes_eq name (codes "run") then run_command input file (steps_of steps) args else Unknown

-- the command of these words, over a standard input that has these bytes, where they are told
abbrev pub command_of : Option (List ℕ) → List (List ℕ) → Command
command_of input (name ∷ file ∷ []) = if bytes_eq name (codes "core") then Core file else Unknown
command_of input (name ∷ file ∷ cert ∷ []) = if bytes_eq name (codes "check") then Check file cert else run_by input name file cert []
command_of input (name ∷ file ∷ steps ∷ arg ∷ args) = run_by input name file steps (arg ∷ args)
command_of input words = Unknown

-- the command reads standard input and says on standard error how it ended
abbrev pub IsRun : Command → Type 0
IsRun (Run file steps args input) = Unit {0}
IsRun command = ⊥

-- the words as contracts see them
abbrev pub words_of : List (Vec ℕ Global) → List (List ℕ)
words_of words = map (λ word. word.items) words
