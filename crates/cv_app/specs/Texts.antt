-- The texts of the program.
use Rattle.std.specs.Prelude.{ℕ, List, [], ◌∷◌, ◌++◌, codes}
use Rattle.std.specs.Fmt.{decimal}
use Rattle.cv_core.specs.declared.faults.LimitName.{LimitName}
use Rattle.cv_core.specs.declared.faults.LimitName.TheVariants as limit
use Rattle.cv_core.specs.declared.faults.ShapeRule.{ShapeRule}
use Rattle.cv_core.specs.declared.faults.ShapeRule.TheVariants as rule
use Rattle.cv_core.specs.declared.faults.ShapeFault.{ShapeFault}

-- a text and the end of its line
abbrev pub line : List ℕ → List ℕ
line text = text ++ 10 ∷ []

abbrev pub accepted_text : List ℕ
accepted_text = line (codes "accepted")

abbrev pub rejected_text : List ℕ
rejected_text = line (codes "rejected")

abbrev pub usage_text : List ℕ
usage_text = line (codes "usage: cssv verify FILE CERT, check FILE CERT, run FILE STEPS ARG.., core FILE, report FILE, gen N")

-- FILE has a fault of this name on a line
abbrev pub fault_text : List ℕ → ℕ → List ℕ → List ℕ
fault_text file number name = file ++ codes ":" ++ decimal number ++ codes ": fault " ++ line name

-- FILE is no program that is treated yet, as is seen at a line of it
abbrev pub not_built_text : List ℕ → ℕ → List ℕ
not_built_text file number = fault_text file number (codes "NotBuilt")

-- the first fault of the text of FILE is on a line
abbrev pub text_fault_text : List ℕ → ℕ → List ℕ
text_fault_text file number = fault_text file number (codes "text")

abbrev pub rule_name : ShapeRule → List ℕ
rule_name rule.DoubleName = codes "DoubleName"
rule_name rule.UnknownName = codes "UnknownName"
rule_name rule.KindMismatch = codes "KindMismatch"
rule_name rule.ArgumentCount = codes "ArgumentCount"
rule_name rule.JumpOutOfRange = codes "JumpOutOfRange"
rule_name rule.NoReturn = codes "NoReturn"
rule_name rule.UnlistedGlobal = codes "UnlistedGlobal"
rule_name rule.MainForm = codes "MainForm"
rule_name rule.ExternForm = codes "ExternForm"
rule_name rule.ContractForm = codes "ContractForm"
rule_name rule.NoMain = codes "NoMain"

-- a fault of shape stands in FILE
abbrev pub shape_fault_text : List ℕ → ShapeFault → List ℕ
shape_fault_text file e = fault_text file e.line (rule_name e.rule)

-- a limit is passed: its name and its value
abbrev pub limit_text : LimitName → List ℕ
limit_text limit.File = line (codes "limit file 1048576")
limit_text limit.Certificate = line (codes "limit certificate 268435456")
limit_text limit.Input = line (codes "limit input 1048576")
limit_text limit.Nesting = line (codes "limit nesting 100")
limit_text limit.Procedures = line (codes "limit procedures 256")
limit_text limit.Globals = line (codes "limit globals 256")
limit_text limit.Literals = line (codes "limit literals 1024")
limit_text limit.Literal = line (codes "limit literal 4096")
limit_text limit.Formals = line (codes "limit formals 8")
limit_text limit.Locals = line (codes "limit locals 200")
limit_text limit.Statements = line (codes "limit statements 1000")
limit_text limit.Atoms = line (codes "limit atoms 16")
limit_text limit.Parts = line (codes "limit parts 12")
limit_text limit.Alternatives = line (codes "limit alternatives 8")
limit_text limit.Cases = line (codes "limit cases 64")
limit_text limit.Variables = line (codes "limit variables 200")
limit_text limit.Transitions = line (codes "limit transitions 256")
limit_text limit.Templates = line (codes "limit templates 2500")

abbrev pub read_fault_text : List ℕ
read_fault_text = line (codes "read fault")

abbrev pub write_fault_text : List ℕ
write_fault_text = line (codes "write fault")

abbrev pub no_memory_text : List ℕ
no_memory_text = line (codes "no memory")
