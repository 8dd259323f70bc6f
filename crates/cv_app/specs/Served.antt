-- A status, and what is appended to standard output and to standard error.
use Rattle.std.specs.Prelude.{ℕ, List, []}
use Rattle.cv_app.specs.declared.served.Served.{Served}

-- a text on standard output
abbrev pub printed : ℕ → List ℕ → Served
printed status text = record { status = status; out = text; errs = [] }

-- a line on standard error
abbrev pub refused : ℕ → List ℕ → Served
refused status text = record { status = status; out = []; errs = text }
