-- Requests as commands, over a standard input.
use Rattle.std.specs.Prelude.{ℕ, List, Option}
use Rattle.cv_app.specs.declared.request.Request.{Request}
use Rattle.cv_app.specs.declared.request.Request.TheVariants as request
use Rattle.cv_app.specs.Commands.{Command, Check, Core, Run, Unknown, words_of}

abbrev pub shown : Option (List ℕ) → Request → Command
shown input (request.Check file cert) = Check file.now cert.now
shown input (request.Core file) = Core file.now
shown input (request.Run file steps args) = Run file.now steps (words_of args.now) input
shown input request.Unknown = Unknown
