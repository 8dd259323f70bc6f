use Rattle.std.proofs.Common.{◌≡◌, ◌++◌, length, option_map}
use Rattle.cv_app.specs.Args.{args_of as args_of_words}
use Rattle.cv_app.specs.Commands.{words_of}
use Rattle.cv_app.proofs.args.args_of.Given as goal

abbrev pub invariant-loop-formals : goal.invariant-loop-formals
invariant-loop-formals l = record {
  so_far : option_map (λ more. l.args.items ++ more) (args_of_words l.formals (words_of l.words)) ≡ args_of_words l.fn.formals (words_of l.fn.words);
}

abbrev pub decreases-loop-formals : goal.decreases-loop-formals
decreases-loop-formals l = length l.formals
